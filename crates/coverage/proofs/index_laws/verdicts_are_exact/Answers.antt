use Rattle.coverage.proofs.Verdicts.{put_place, put_past_map, put_once, swap_once, clear_once, put_waits, swap_waits, swap_differs, clear_waits, clear_differs, some_put, some_swap}
use Rattle.coverage.proofs.Verdicts.{some_clear}
use Rattle.coverage.proofs.WaitsOnce.{phase_wait_once, phase_wait_locked}
use Rattle.coverage.proofs.Formed.{same_bytes}
use Rattle.coverage.proofs.FullApart.{full_put, full_swap, full_phase}
use Rattle.coverage.proofs.index_laws.verdicts_are_exact.Goals as goal

pub returns : goal.returns
returns c = record {
  one_put = put_once;
  one_swap = swap_once;
  one_clear = clear_once;
  put_waits = put_waits;
  swap_waits = λ w s range p x old new verdict. swap_waits w s range x old new p verdict;
  swap_differs = swap_differs;
  clear_waits = clear_waits;
  clear_differs = clear_differs;
  phase_waits = λ w s range p phase waits. phase_wait_locked w s range phase p waits;
  one_phase_wait = λ w s range p q phase one two. phase_wait_once w s range phase p q one two;
  same_bytes = same_bytes;
  put_place = put_place;
  put_past_map = put_past_map;
  full_put = full_put;
  full_swap = full_swap;
  full_phase = full_phase;
  some_put = some_put;
  some_swap = some_swap;
  some_clear = some_clear;
}
