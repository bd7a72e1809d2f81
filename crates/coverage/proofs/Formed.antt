-- Each kind of change leaves tuples of the index, and what was unnamed at the opening.
use Rattle.std.proofs.Common.{◌≡◌, ◌⊎◌, inl, inr, ⊎_elim, ℕ, ◌*◌, ◌≤◌, ◌<◌, Option, Some, None, Bool, sym, ◌∙◌, ap, subst, arith}
use Rattle.std.specs.Prelude.{IsTrue}
use Rattle.std.proofs.lemmas.Option.{same_Some, none-some}
use Rattle.std.proofs.Math.Nat.{lt_of_lt_of_le}
use Rattle.block_model.specs.declared.row.Row.{Row}
use Rattle.block_model.specs.declared.place.Spot.{Spot}
use Rattle.coverage.specs.IndexView.{IndexTuple, Contents, IsFormed, Progress, IndexView, IsRangeOf, IsTupleOf}
use Rattle.coverage.specs.IsSound.{IsSound}
use Rattle.coverage.specs.GoesOn.{IsHeld}
use Rattle.coverage.specs.Changes.{SameHeap, SameTuples, SameUnnamed, PutsRow, Places, Names, Turn, Swaps, MovePuts, MoveSets, DropsLoose, Clears, Sweeps}
use Rattle.coverage.specs.Changes.{Prunes, Takes, Ends, TurnsLocks}

-- tuples of one index with the same bytes are one
pub same_bytes : (contents : Contents) (t u : IndexTuple) → IsFormed contents t → IsFormed contents u → t.bytes ≡ u.bytes → t ≡ u
same_bytes contents t u one two same = same_Some _ _ (sym one.says ∙ ap contents.read same ∙ two.says)

pub no_less : (n m : ℕ) → n ≡ m → m ≤ n
no_less n m same = omega arith

-- what is kept where the table only grows
module _ (w v : IndexView) (contents : v.contents ≡ w.contents) (ranges : v.pages_per_range ≡ w.pages_per_range) (blocks : w.blocks ≤ v.blocks) where
  pub formed_on : (t : IndexTuple) → IsFormed w.contents t → IsFormed v.contents t
  formed_on t formed = subst (λ c. IsFormed c t) (sym contents) formed

  in_blocks : (range : ℕ) → range * w.pages_per_range < w.blocks → range * v.pages_per_range < v.blocks
  in_blocks range below = subst (λ n. range * n < v.blocks) (sym ranges) (lt_of_lt_of_le below blocks)

  pub tuple_of_on : (t : IndexTuple) → IsTupleOf w t → IsTupleOf v t
  tuple_of_on t is = (formed_on t is.0, in_blocks t.range is.1)

  pub range_of_on : (range : ℕ) → IsRangeOf w range → IsRangeOf v range
  range_of_on range is = (in_blocks range is.0, subst (λ (c : Contents). range < c.ranges) (sym contents) is.1)

  -- a tuple that comes is one of the index, and what was unnamed stays so or goes
  came_formed : IsSound w → ((x : Spot) (t : IndexTuple) → v.tuple x ≡ Some t → (w.tuple x ≡ Some t) ⊎ IsTupleOf w t)
      → ((x : Spot) → IsTrue (w.unnamed x) → IsTrue (v.unnamed x) ⊎ (v.tuple x ≡ None))
      → (x : Spot) (t : IndexTuple) → v.tuple x ≡ Some t → IsTupleOf v t ⊎ IsTrue (v.unnamed x)
  came_formed sound came stays x t here = ⊎_elim
      (λ (was : w.tuple x ≡ Some t). ⊎_elim
      (λ (is : IsTupleOf w t). inl (tuple_of_on t is))
      (λ (unnamed : IsTrue (w.unnamed x)). elim (stays x unnamed) [ inl still ↦ inr still | inr gone ↦ absurd (none-some _ (sym gone ∙ here)) ])
      (sound.formed x t was))
      (λ (is : IsTupleOf w t). inl (tuple_of_on t is))
      (came x t here)

abbrev AreFormed : IndexView → Type 0
AreFormed v = (x : Spot) (t : IndexTuple) → v.tuple x ≡ Some t → IsTupleOf v t ⊎ IsTrue (v.unnamed x)

still : (w v : IndexView) → SameUnnamed w v → (x : Spot) → IsTrue (w.unnamed x) → IsTrue (v.unnamed x) ⊎ (v.tuple x ≡ None)
still w v same x unnamed = inl (same.unnamed x ∙ unnamed)

-- no tuple changes
same_formed : (w v : IndexView) → IsSound w → v.contents ≡ w.contents → v.pages_per_range ≡ w.pages_per_range → w.blocks ≤ v.blocks → SameTuples w v
    → SameUnnamed w v → AreFormed v
same_formed w v sound contents ranges blocks same unnamed =
    came_formed w v contents ranges blocks sound (λ x t here. inl (sym (same.tuple x) ∙ here)) (still w v unnamed)

-- no tuple changes, and no row
all_formed : (w v : IndexView) → IsSound w → v.contents ≡ w.contents → SameHeap w v → SameTuples w v → SameUnnamed w v → AreFormed v
all_formed w v sound contents heap same unnamed = same_formed w v sound contents heap.pages_per_range (no_less v.blocks w.blocks heap.blocks) same unnamed

-- one tuple comes or goes
one_formed : (w v : IndexView) → IsSound w → v.contents ≡ w.contents → SameHeap w v → SameUnnamed w v → (y : Spot)
    → ((t : IndexTuple) → v.tuple y ≡ Some t → IsTupleOf w t) → ((x : Spot) → (x ≡ y) ⊎ (v.tuple x ≡ w.tuple x)) → AreFormed v
one_formed w v sound contents heap unnamed y one others =
    came_formed w v contents heap.pages_per_range (no_less v.blocks w.blocks heap.blocks) sound came (still w v unnamed)
  where
    came : (x : Spot) (t : IndexTuple) → v.tuple x ≡ Some t → (w.tuple x ≡ Some t) ⊎ IsTupleOf w t
    came x t here = elim (others x) [ inl is ↦ inr (one t (ap v.tuple (sym is) ∙ here)) | inr same ↦ inl (sym same ∙ here) ]

-- a tuple that the map names is one of the index
pub named_formed : (w : IndexView) (range : ℕ) (x : Spot) (t : IndexTuple) → IsSound w → w.entry range ≡ Some x → w.tuple x ≡ Some t → IsTupleOf w t
named_formed w range x t sound named here = ⊎_elim
    (λ (is : IsTupleOf w t). is)
    (λ (unnamed : IsTrue (w.unnamed x)). absurd ((sound.unnamed_tuples x unnamed).unnamed range named))
    (sound.formed x t here)

-- so is a tuple in a session's hands
pub loose_formed : (w : IndexView) (s : ℕ) (x : Spot) (t : IndexTuple) → IsSound w → w.loose s ≡ Some x → w.tuple x ≡ Some t → IsTupleOf w t
loose_formed w s x t sound loose here = elim (sound.formed x t here) [ inl is ↦ is | inr unnamed ↦ absurd ((sound.unnamed_tuples x unnamed).apart s loose) ]

-- and a tuple of the range at a place that a statement holds
pub held_formed : (w : IndexView) (range : ℕ) (x : Spot) (t : IndexTuple) → IsSound w → IsHeld w range x → w.tuple x ≡ Some t → t.range ≡ range
    → IsTupleOf w t
held_formed w range x t sound held here of = ⊎_elim
    (λ (named : w.entry range ≡ Some x). named_formed w range x t sound named here)
    (λ (loose : (s : ℕ) × (w.loose s ≡ Some x)). loose_formed w loose.0 x t sound loose.1 here)
    (held t here of)

-- a new tuple of the range of one that the map names
pub made_formed : (w : IndexView) (range : ℕ) (x : Spot) (old new : IndexTuple) → IsSound w → w.entry range ≡ Some x → w.tuple x ≡ Some old
    → (old.range ≡ range) × (new.range ≡ range) → IsFormed w.contents new → IsTupleOf w new
made_formed w range x old new sound named here of formed =
    (formed, subst (λ n. n * w.pages_per_range < w.blocks) (of.0 ∙ sym of.1) (named_formed w range x old sound named here).1)

-- the range of a tuple of the index is one of the table
pub its_range : (w : IndexView) (range : ℕ) (t : IndexTuple) → IsTupleOf w t → t.range ≡ range → IsRangeOf w range
its_range w range t is of = (subst (λ n. n * w.pages_per_range < w.blocks) of is.1, subst (λ n. n < w.contents.ranges) of is.0.number)

pub puts_row_formed : (s : ℕ) (w v : IndexView) (b k : ℕ) (r : Row) → IsSound w → PutsRow s w v b k r → AreFormed v
puts_row_formed s w v b k r sound kind =
    same_formed w v sound kind.frame.contents kind.row.pages_per_range kind.row.grown kind.frame.tuples kind.frame.unnamed_tuples

pub places_formed : (s : ℕ) (w v : IndexView) (x : Spot) (t : IndexTuple) → IsSound w → Places s w v x t → AreFormed v
places_formed s w v x t sound kind = one_formed w v sound kind.frame.contents kind.frame.heap kind.frame.unnamed_tuples x
    (λ u here. subst (IsTupleOf w) (same_Some _ _ (sym kind.tuple.now ∙ here)) kind.formed) kind.tuple.others

pub names_formed : (s : ℕ) (w v : IndexView) (range : ℕ) (x : Spot) (t : IndexTuple) → IsSound w → Names s w v range x t → AreFormed v
names_formed s w v range x t sound kind = all_formed w v sound kind.frame.contents kind.frame.heap kind.frame.tuples kind.frame.unnamed_tuples

pub turn_formed : (s : ℕ) (w v : IndexView) (range : ℕ) (old new : Option Progress) → IsSound w → Turn s w v range old new → AreFormed v
turn_formed s w v range old new sound kind = all_formed w v sound kind.frame.contents kind.frame.heap kind.frame.tuples kind.frame.unnamed_tuples

pub swaps_formed : (s : ℕ) (w v : IndexView) (range : ℕ) (x : Spot) (old new : IndexTuple) → IsSound w → Swaps s w v range x old new → AreFormed v
swaps_formed s w v range x old new sound kind = one_formed w v sound kind.frame.contents kind.frame.heap kind.frame.unnamed_tuples x
    (λ u here. subst (IsTupleOf w) (same_Some _ _ (sym kind.tuple.now ∙ here))
    (made_formed w range x old new sound kind.entry kind.tuple.was kind.of kind.formed)) kind.tuple.others

pub move_puts_formed : (s : ℕ) (w v : IndexView) (range : ℕ) (x y : Spot) (old new : IndexTuple) → IsSound w → MovePuts s w v range x y old new
    → AreFormed v
move_puts_formed s w v range x y old new sound kind = one_formed w v sound kind.frame.contents kind.frame.heap kind.frame.unnamed_tuples y
    (λ u here. subst (IsTupleOf w) (same_Some _ _ (sym kind.tuple.now ∙ here))
    (made_formed w range x old new sound kind.entry kind.before kind.of kind.formed)) kind.tuple.others

pub move_sets_formed : (s : ℕ) (w v : IndexView) (range : ℕ) (x y : Spot) (old new : IndexTuple) → IsSound w → MoveSets s w v range x y old new
    → AreFormed v
move_sets_formed s w v range x y old new sound kind =
    all_formed w v sound kind.frame.contents kind.frame.heap kind.frame.tuples kind.frame.unnamed_tuples

pub drops_formed : (s : ℕ) (w v : IndexView) (x : Spot) (old : IndexTuple) → IsSound w → DropsLoose s w v x old → AreFormed v
drops_formed s w v x old sound kind = one_formed w v sound kind.frame.contents kind.frame.heap kind.frame.unnamed_tuples x
    (λ u here. absurd (none-some _ (sym kind.tuple.now ∙ here))) kind.tuple.others

pub clears_formed : (s : ℕ) (w v : IndexView) (range : ℕ) (x : Spot) → IsSound w → Clears s w v range x → AreFormed v
clears_formed s w v range x sound kind = all_formed w v sound kind.frame.contents kind.frame.heap kind.frame.tuples kind.frame.unnamed_tuples

pub sweeps_formed : (s : ℕ) (w v : IndexView) (p : ℕ) → IsSound w → Sweeps s w v p → AreFormed v
sweeps_formed s w v p sound kind =
    came_formed w v kind.frame.contents kind.frame.heap.pages_per_range (no_less v.blocks w.blocks kind.frame.heap.blocks) sound came stays
  where
    came : (x : Spot) (t : IndexTuple) → v.tuple x ≡ Some t → (w.tuple x ≡ Some t) ⊎ IsTupleOf w t
    came x t here = elim (kind.places x) [ inl same ↦ inl (sym same.0 ∙ here) | inr swept ↦ absurd (none-some _ (sym swept.now ∙ here)) ]

    stays : (x : Spot) → IsTrue (w.unnamed x) → IsTrue (v.unnamed x) ⊎ (v.tuple x ≡ None)
    stays x unnamed = elim (kind.places x) [ inl same ↦ inl (same.1 ∙ unnamed) | inr swept ↦ inr swept.now ]

pub prunes_formed : (s : ℕ) (dropped : ℕ → ℕ → Bool) (w v : IndexView) → IsSound w → Prunes s dropped w v → AreFormed v
prunes_formed s dropped w v sound kind = same_formed w v sound kind.frame.contents kind.rows.pages_per_range (no_less v.blocks w.blocks kind.rows.blocks)
    kind.frame.tuples kind.frame.unnamed_tuples

pub takes_formed : (s : ℕ) (w v : IndexView) → IsSound w → Takes s w v → AreFormed v
takes_formed s w v sound kind = all_formed w v sound kind.frame.contents kind.frame.heap kind.frame.tuples kind.frame.unnamed_tuples

pub ends_formed : (s : ℕ) (w v : IndexView) → IsSound w → Ends s w v → AreFormed v
ends_formed s w v sound kind = all_formed w v sound kind.frame.contents kind.frame.heap kind.frame.tuples kind.frame.unnamed_tuples

pub turns_locks_formed : (s : ℕ) (w v : IndexView) → IsSound w → TurnsLocks s w v → AreFormed v
turns_locks_formed s w v sound kind = all_formed w v sound kind.frame.contents kind.frame.heap kind.frame.tuples kind.frame.unnamed_tuples
