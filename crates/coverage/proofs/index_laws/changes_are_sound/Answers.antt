use Rattle.coverage.proofs.Sound.{puts_row_sound, places_sound, names_sound, turn_sound, swaps_sound, move_puts_sound, move_sets_sound, drops_sound}
use Rattle.coverage.proofs.Sound.{clears_sound, sweeps_sound, prunes_sound, takes_sound, ends_sound, turns_locks_sound}
use Rattle.coverage.proofs.index_laws.changes_are_sound.Goals as goal

pub returns : goal.returns
returns c = record {
  puts_row = puts_row_sound;
  places = places_sound;
  names = names_sound;
  turn = turn_sound;
  swaps = swaps_sound;
  move_puts = move_puts_sound;
  move_sets = move_sets_sound;
  drops = drops_sound;
  clears = clears_sound;
  sweeps = sweeps_sound;
  prunes = prunes_sound;
  takes = takes_sound;
  ends = ends_sound;
  turns_locks = turns_locks_sound;
}
