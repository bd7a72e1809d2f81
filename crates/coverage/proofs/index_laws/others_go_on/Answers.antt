use Rattle.coverage.proofs.Carried.{swaps_go_on, move_puts_go_on, move_sets_go_on}
use Rattle.coverage.proofs.BuildingGoesOn.{turn_go_on, places_go_on, names_go_on}
use Rattle.coverage.proofs.OthersGoOn.{puts_row_go_on, drops_go_on, clears_go_on, sweeps_go_on, prunes_go_on, takes_go_on, ends_go_on, turns_locks_go_on}
use Rattle.coverage.proofs.index_laws.others_go_on.Goals as goal

pub returns : goal.returns
returns c = record {
  puts_row = puts_row_go_on;
  places = places_go_on;
  names = names_go_on;
  turn = turn_go_on;
  swaps = swaps_go_on;
  move_puts = move_puts_go_on;
  move_sets = move_sets_go_on;
  drops = drops_go_on;
  clears = clears_go_on;
  sweeps = sweeps_go_on;
  prunes = prunes_go_on;
  takes = takes_go_on;
  ends = ends_go_on;
  turns_locks = turns_locks_go_on;
}
