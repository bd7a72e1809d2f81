-- Each kind of change that carries no tuple lets all others go on.
use Rattle.std.proofs.Common.{ℕ, Bool, rules}
use Rattle.block_model.specs.declared.row.Row.{Row}
use Rattle.block_model.specs.declared.place.Spot.{Spot}
use Rattle.coverage.specs.IndexView.{IndexTuple, IndexView}
use Rattle.coverage.specs.IsSound.{IsSound}
use Rattle.coverage.specs.GoesOn.{GoesOn}
use Rattle.coverage.specs.Changes.{PutsRow, DropsLoose, Clears, Sweeps, Prunes, Takes, Ends, TurnsLocks}

pub puts_row_go_on : (s : ℕ) (d : ℕ → ℕ → Bool) (w v : IndexView) (b k : ℕ) (r : Row) → IsSound w → PutsRow s w v b k r → GoesOn s d w v
puts_row_go_on s d w v b k r sound kind = search rules

pub drops_go_on : (s : ℕ) (d : ℕ → ℕ → Bool) (w v : IndexView) (x : Spot) (old : IndexTuple) → IsSound w → DropsLoose s w v x old → GoesOn s d w v
drops_go_on s d w v x old sound kind = search rules

pub clears_go_on : (s : ℕ) (d : ℕ → ℕ → Bool) (w v : IndexView) (range : ℕ) (x : Spot) → IsSound w → Clears s w v range x → GoesOn s d w v
clears_go_on s d w v range x sound kind = search rules

pub sweeps_go_on : (s : ℕ) (d : ℕ → ℕ → Bool) (w v : IndexView) (p : ℕ) → IsSound w → Sweeps s w v p → GoesOn s d w v
sweeps_go_on s d w v p sound kind = search rules

pub prunes_go_on : (s : ℕ) (d : ℕ → ℕ → Bool) (w v : IndexView) → IsSound w → Prunes s d w v → GoesOn s d w v
prunes_go_on s d w v sound kind = search rules

pub takes_go_on : (s : ℕ) (d : ℕ → ℕ → Bool) (w v : IndexView) → IsSound w → Takes s w v → GoesOn s d w v
takes_go_on s d w v sound kind = search rules

pub ends_go_on : (s : ℕ) (d : ℕ → ℕ → Bool) (w v : IndexView) → IsSound w → Ends s w v → GoesOn s d w v
ends_go_on s d w v sound kind = search rules

pub turns_locks_go_on : (s : ℕ) (d : ℕ → ℕ → Bool) (w v : IndexView) → IsSound w → TurnsLocks s w v → GoesOn s d w v
turns_locks_go_on s d w v sound kind = search rules
