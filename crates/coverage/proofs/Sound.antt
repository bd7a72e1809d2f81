-- Each kind of change leaves the index sound.
use Rattle.std.proofs.Common.{◌≡◌, ◌≢◌, ◌⊎◌, inl, inr, ⊎_elim, ℕ, Option, Some, Bool, sym, ◌∙◌, subst, rules}
use Rattle.std.proofs.lemmas.Bool.{cases_eq}
use Rattle.block_model.specs.declared.row.Row.{Row}
use Rattle.block_model.specs.declared.place.Spot.{Spot}
use Rattle.coverage.specs.IndexView.{IndexTuple, Progress, IndexView}
use Rattle.coverage.specs.Statements.{AreLawful}
use Rattle.coverage.specs.IsSound.{IsSound}
use Rattle.coverage.specs.Changes.{OwnLocks, IsLooseLocked, PutsRow, Places, Names, Turn, Swaps, MovePuts, MoveSets, DropsLoose, Clears, Sweeps, Prunes, Takes}
use Rattle.coverage.specs.Changes.{Ends, TurnsLocks}
use Rattle.coverage.proofs.Formed.{puts_row_formed, places_formed, names_formed, turn_formed, swaps_formed, move_puts_formed, move_sets_formed, drops_formed}
use Rattle.coverage.proofs.Formed.{clears_formed, sweeps_formed, prunes_formed, takes_formed, ends_formed, turns_locks_formed}

-- a loose tuple's page stays locked
lock_kept : (s : ℕ) (w v : IndexView) → IsSound w → OwnLocks s w.lock v.lock → IsLooseLocked s v → ((n : ℕ) → (n ≡ s) ⊎ (v.loose n ≡ w.loose n))
    → (n : ℕ) (x : Spot) → v.loose n ≡ Some x → v.lock x.block ≡ Some n
lock_kept s w v sound locks locked others n x is = ⊎_elim
    (λ (e : n ≡ s). subst (λ m. v.loose m ≡ Some x → v.lock x.block ≡ Some m) (sym e) (locked x) is)
    (λ (other : n ≢ s). elim (others n) [ inl e ↦ absurd (other e) | inr e ↦ locks.others x.block n (sound.loose_is_locked n x (sym e ∙ is)) other ])
    (cases_eq n s)

-- what is made of tuples stays
lawful_kept : (w v : IndexView) → IsSound w → v.contents ≡ w.contents → AreLawful v.contents
lawful_kept w v sound same = subst AreLawful (sym same) sound.lawful

pub puts_row_sound : (s : ℕ) (w v : IndexView) (b k : ℕ) (r : Row) → IsSound w → PutsRow s w v b k r → IsSound v
puts_row_sound s w v b k r sound kind = search (rules, lock_kept, lawful_kept, puts_row_formed)

pub places_sound : (s : ℕ) (w v : IndexView) (x : Spot) (t : IndexTuple) → IsSound w → Places s w v x t → IsSound v
places_sound s w v x t sound kind = search (rules, lock_kept, lawful_kept, places_formed)

pub names_sound : (s : ℕ) (w v : IndexView) (range : ℕ) (x : Spot) (t : IndexTuple) → IsSound w → Names s w v range x t → IsSound v
names_sound s w v range x t sound kind = search (rules, lock_kept, lawful_kept, names_formed)

pub turn_sound : (s : ℕ) (w v : IndexView) (range : ℕ) (old new : Option Progress) → IsSound w → Turn s w v range old new → IsSound v
turn_sound s w v range old new sound kind = search (rules, lock_kept, lawful_kept, turn_formed)

pub swaps_sound : (s : ℕ) (w v : IndexView) (range : ℕ) (x : Spot) (old new : IndexTuple) → IsSound w → Swaps s w v range x old new → IsSound v
swaps_sound s w v range x old new sound kind = search (rules, lock_kept, lawful_kept, swaps_formed)

pub move_puts_sound : (s : ℕ) (w v : IndexView) (range : ℕ) (x y : Spot) (old new : IndexTuple) → IsSound w → MovePuts s w v range x y old new → IsSound v
move_puts_sound s w v range x y old new sound kind = record {
  lawful = lawful_kept w v sound kind.frame.contents;
  ranged = search rules;
  rows_below = search rules;
  entries_name_tuples = search rules;
  tuples_are_named = search rules;
  formed = move_puts_formed s w v range x y old new sound kind;
  unnamed_tuples = search rules;
  builder_holds = search rules;
  loose_is_locked = search (rules, lock_kept);
}

pub move_sets_sound : (s : ℕ) (w v : IndexView) (range : ℕ) (x y : Spot) (old new : IndexTuple) → IsSound w → MoveSets s w v range x y old new → IsSound v
move_sets_sound s w v range x y old new sound kind = search (rules, lock_kept, lawful_kept, move_sets_formed)

pub drops_sound : (s : ℕ) (w v : IndexView) (x : Spot) (old : IndexTuple) → IsSound w → DropsLoose s w v x old → IsSound v
drops_sound s w v x old sound kind = search (rules, lock_kept, lawful_kept, drops_formed)

pub clears_sound : (s : ℕ) (w v : IndexView) (range : ℕ) (x : Spot) → IsSound w → Clears s w v range x → IsSound v
clears_sound s w v range x sound kind = search (rules, lock_kept, lawful_kept, clears_formed)

pub sweeps_sound : (s : ℕ) (w v : IndexView) (p : ℕ) → IsSound w → Sweeps s w v p → IsSound v
sweeps_sound s w v p sound kind = search (rules, lock_kept, lawful_kept, sweeps_formed)

pub prunes_sound : (s : ℕ) (dropped : ℕ → ℕ → Bool) (w v : IndexView) → IsSound w → Prunes s dropped w v → IsSound v
prunes_sound s dropped w v sound kind = search (rules, lock_kept, lawful_kept, prunes_formed)

pub takes_sound : (s : ℕ) (w v : IndexView) → IsSound w → Takes s w v → IsSound v
takes_sound s w v sound kind = search (rules, lock_kept, lawful_kept, takes_formed)

pub ends_sound : (s : ℕ) (w v : IndexView) → IsSound w → Ends s w v → IsSound v
ends_sound s w v sound kind = search (rules, lock_kept, lawful_kept, ends_formed)

pub turns_locks_sound : (s : ℕ) (w v : IndexView) → IsSound w → TurnsLocks s w v → IsSound v
turns_locks_sound s w v sound kind = search (rules, lock_kept, lawful_kept, turns_locks_formed)
