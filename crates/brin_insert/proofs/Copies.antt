-- a copied tuple with the row added, as a step of the insert
use Rattle.std.proofs.Common.{◌≡◌, ◌≢◌, ◌⊎◌, inl, inr, ℕ, List, Option, None, Some, refl, sym, ap, subst, ◌∙◌}
use Rattle.block_model.specs.declared.place.Spot.{Spot}
use Rattle.block_model.specs.declared.reply.Point.TheVariants as points
use Rattle.block_model.specs.declared.row.Row.{Row}
use Rattle.page_locks.specs.declared.did.Did.TheVariants as did
use Rattle.range_tuple.specs.TupleBytes.{tuple_bytes}
use Rattle.range_tuple.specs.Tuples.{Tuple, with_row}
use Rattle.coverage.specs.Changes.{IsFree}
use Rattle.coverage.specs.IndexView.{Building, IndexTuple, IndexView, range_of_block}
use Rattle.coverage.specs.Knowing.{LocksNone}
use Rattle.coverage.specs.Steps.{IsGone, ReadsIndex, Stands}
use Rattle.coverage.specs.Verdicts.{IsLocked}
use Rattle.index_contents.specs.IndexContents.{IndexContents}
use Rattle.index_steps.specs.IndexTuples.{IndexShape, seen}
use Rattle.index_steps.specs.Readings.{IsReadAs, ShowsGone, ShowsTuple}
use Rattle.index_steps.specs.ShownIndex.{Shows, shown_part}
use Rattle.index_steps.specs.SwapAnswers.{view_after}
use Rattle.index_steps.proofs.Views.{seen_bytes}
use Rattle.brin_insert.specs.declared.stage.Stage.TheVariants as stages
use Rattle.brin_insert.specs.InsertSteps.{Stepped}
use Rattle.brin_insert.proofs.Stepping.{copies, gone, maps, no_entry, unchanged}
use Rattle.brin_insert.proofs.Swaps.{at_stage}

-- what the actor reads of the index stays
abbrev Reads : IndexShape → (c d : IndexContents) (lock : ℕ → Option ℕ) (s : ℕ) → Type 0
Reads shape c d lock s = (w : IndexView) → Shows shape c lock w → LocksNone w.lock s → (building : ℕ → Option Building) (loose : ℕ → Option Spot) → ReadsIndex s w (view_after shape d lock w building loose)

-- a row that is added to what is seen
abbrev Adds : IndexShape → IndexContents → (lock : ℕ → Option ℕ) → Row → List ℕ → Tuple → Type 0
Adds shape c lock r bytes t = (w : IndexView) → Shows shape c lock w → w.contents.added r (seen shape bytes) ≡ seen shape (tuple_bytes (with_row r.values t))

module _ (shape : IndexShape) (s range : ℕ) (r : Row) (c d : IndexContents) (lock : ℕ → Option ℕ) (before widened : List ℕ) (reads : Reads shape c d lock s) where
  pub named : (after more : List ℕ) (x : Spot) → c.entry range ≡ Some x
      → Stepped shape s range r (at_stage c lock before widened stages.Map) (at_stage d lock after more (stages.Copy x)) (did.Moved points.Map)
  named after more x is = (
    λ b k w ranged shows knows.
        maps s b k r w (shown_part shape d lock w.unnamed) (reads w shows knows.2) x (shows.entry (range_of_block w b) ∙ ap c.entry ranged ∙ is),
    tt,
  )

  pub unnamed : (after more : List ℕ) → c.entry range ≡ None
      → Stepped shape s range r (at_stage c lock before widened stages.Map) (at_stage d lock after more stages.Complete) (did.Finished points.Map)
  unnamed after more is = (
    λ b k w ranged shows knows.
        no_entry s b k r w (shown_part shape d lock w.unnamed) (reads w shows knows.2) (shows.entry (range_of_block w b) ∙ ap c.entry ranged ∙ is),
    refl,
  )

  pub is_gone : (after more : List ℕ) (x : Spot) → ShowsGone shape c range x
      → Stepped shape s range r (at_stage c lock before widened (stages.Copy x)) (at_stage d lock after more stages.Map) (did.Moved points.Copy)
  is_gone after more x none = (
    λ b k w ranged shows knows.
        gone s b k r w (shown_part shape d lock w.unnamed) (reads w shows knows.2.0) x (subst (λ (m : ℕ). IsGone w m x) (sym ranged) (none lock w shows)),
    tt,
  )

  module _ (x : Spot) (bytes : List ℕ) (t u : Tuple) (there : ShowsTuple shape c range x bytes) (read : IsReadAs shape bytes t) (is_row : u ≡ with_row r.values t) (adds : Adds shape c lock r bytes t) where
    stands : (b : ℕ) (w : IndexView) → range_of_block w b ≡ range → Shows shape c lock w → Stands w (range_of_block w b) x (seen shape bytes)
    stands b w ranged shows = subst (λ (m : ℕ). Stands w m x (seen shape bytes)) (sym ranged) (there lock w shows)

    added : (w : IndexView) → Shows shape c lock w → seen shape (tuple_bytes u) ≡ w.contents.added r (seen shape bytes)
    added w shows = ap (λ (v : Tuple). seen shape (tuple_bytes v)) is_row ∙ sym (adds w shows)

    pub copied : (u ≢ t → seen shape (tuple_bytes u) ≢ seen shape bytes) → (u ≢ t) ⊎ ((n : ℕ) × (lock x.block ≡ Some n) × (n ≢ s))
        → Stepped shape s range r (at_stage c lock before widened (stages.Copy x)) (at_stage d lock bytes (tuple_bytes u) (stages.Swap x)) (did.Moved points.Copy)
    copied apart why = (
      λ b k w ranged shows knows.
          copies s b k r w (shown_part shape d lock w.unnamed) (reads w shows knows.2.0) x (seen shape bytes) (seen shape (tuple_bytes u)) (stands b w ranged shows) (added w shows) (cause w shows why),
      tt,
    )
      where
        cause : (w : IndexView) → Shows shape c lock w → (u ≢ t) ⊎ ((n : ℕ) × (lock x.block ≡ Some n) × (n ≢ s)) → (seen shape (tuple_bytes u) ≢ seen shape bytes) ⊎ IsLocked w.lock s x.block
        cause w shows (inl other) = inl (apart other)
        cause w shows (inr locked) = inr (locked.0, shows.lock x.block ∙ locked.1, locked.2)

    pub stays : (more : List ℕ) → u ≡ t → IsFree lock s x.block
        → Stepped shape s range r (at_stage c lock before widened (stages.Copy x)) (at_stage d lock bytes more stages.Complete) (did.Finished points.Copy)
    stays more same free = (
      λ b k w ranged shows knows.
          unchanged s b k r w (shown_part shape d lock w.unnamed) (reads w shows knows.2.0) x (seen shape bytes) (stands b w ranged shows)
          (ap (seen shape) (read.spelt ∙ ap tuple_bytes (sym same)) ∙ added w shows) (λ n locked. free n (sym (shows.lock x.block) ∙ locked)),
      refl,
    )

-- where a tuple changes, so does what is seen of it
pub changes_seen : (shape : IndexShape) (bytes : List ℕ) (t u : Tuple) → bytes ≡ tuple_bytes t → (tuple_bytes u ≡ tuple_bytes t → u ≡ t) → u ≢ t → seen shape (tuple_bytes u) ≢ seen shape bytes
changes_seen shape bytes t u spelt one other same =
    other (one (sym (seen_bytes shape (tuple_bytes u)) ∙ ap (λ (v : IndexTuple). v.bytes) same ∙ seen_bytes shape bytes ∙ spelt))
