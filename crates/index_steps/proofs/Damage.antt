-- where an index is sound, neither its map nor its tuples are damaged, and what was read of it isn't
use Rattle.std.proofs.Common.{◌≡◌, ℕ, ◌<◌, ◌^◌, Bool, true, false, List, Option, None, Some, refl, sym, ap, subst, ◌∙◌}
use Rattle.std.specs.Prelude.{if◌then◌else◌}
use Rattle.std.specs.Option.{option_map}
use Rattle.std.proofs.lemmas.Option.{none-some, same_Some}
use Rattle.block_model.specs.declared.place.Spot.{Spot}
use Rattle.block_model.specs.declared.row.Row.{Row}
use Rattle.range_tuple.specs.TupleReading.{tuple_in}
use Rattle.range_tuple.specs.Tuples.{Tuple}
use Rattle.range_store.specs.Tuples.{IsOfRange}
use Rattle.coverage.specs.IndexView.{Contents, IndexTuple, IndexView, IsTupleOf, range_of_block}
use Rattle.coverage.specs.IsCovered.{IndexState, IsIndexKept, index_view}
use Rattle.coverage.specs.IsSound.{IsSound}
use Rattle.coverage.specs.Knowing.{Knows}
use Rattle.coverage.specs.Statements.{Inserting, Moving, Statement}
use Rattle.index_contents.specs.IndexContents.{IndexContents}
use Rattle.index_steps.specs.IndexTuples.{IndexShape, are_bytes, classes_of, contents_of, seen, tuple_said}
use Rattle.index_steps.specs.MoveEnds.{IsMoving}
use Rattle.index_steps.specs.Readings.{HasRangeAt, IsMisnamed, IsMisread, IsReadAs}
use Rattle.index_steps.specs.ShownIndex.{Shows}
use Rattle.index_steps.proofs.Copying.{of_said}
use Rattle.index_steps.proofs.Views.{seen_bytes, seen_range, seen_there, stands_by}

-- an entry names a tuple of its range
pub not_misnamed : (shape : IndexShape) (c : IndexContents) (lock : ℕ → Option ℕ) (w : IndexView) (range : ℕ) → Shows shape c lock w → IsSound w → IsMisnamed c range → ⊥
not_misnamed shape c lock w range shows sound misnamed =
    let there = sound.entries_name_tuples range misnamed.spot (shows.entry range ∙ misnamed.named) in
    let by = stands_by shape c lock w misnamed.spot there.0 shows there.1 in
    misnamed.none by.bytes by.there (sym (seen_range shape by.bytes) ∙ sym (ap (λ (t : IndexTuple). t.range) by.is) ∙ there.2)

-- what the classes read in bytes
read_is : (shape : IndexShape) (bytes : List ℕ) → (contents_of shape).read bytes ≡ option_map (λ (t : Tuple). seen shape bytes) (tuple_said shape bytes)
unfolding contents_of
read_is shape bytes = refl

none_said : (shape : IndexShape) (bytes : List ℕ) (b : Bool) → tuple_in (classes_of shape) bytes ≡ None → (if b then tuple_in (classes_of shape) bytes else None) ≡ None
none_said shape bytes true misread = misread
none_said shape bytes false misread = refl

-- bytes of a tuple of the index are read
pub not_misread : (shape : IndexShape) (c : IndexContents) (lock : ℕ → Option ℕ) (w : IndexView) (range : ℕ) (x : Spot) → Shows shape c lock w → ((t : IndexTuple) → w.tuple x ≡ Some t → t.range ≡ range → IsTupleOf w t) → IsMisread shape c range x → ⊥
not_misread shape c lock w range x shows of misread =
    let t = seen shape misread.bytes in
    let is : IsTupleOf w t = of t (seen_there shape c lock w x misread.bytes shows misread.there) (seen_range shape misread.bytes ∙ misread.of) in
    let none : w.contents.read t.bytes ≡ None =
    ap (λ (contents : Contents). contents.read t.bytes) shows.contents
    ∙ ap (λ (bytes : List ℕ). (contents_of shape).read bytes) (seen_bytes shape misread.bytes)
    ∙ read_is shape misread.bytes
    ∙ ap (option_map (λ (u : Tuple). seen shape misread.bytes)) (none_said shape misread.bytes (are_bytes misread.bytes) misread.misread)
    in
    none-some t (sym none ∙ is.0.says)

-- a move's map page, and its two places
pub knows_move : (shape : IndexShape) (c : IndexContents) (lock : ℕ → Option ℕ) (w : IndexState) (s b k : ℕ) (r : Row) (x y : Spot) (old new : IndexTuple) → Shows shape c lock (index_view w) → IsIndexKept w
    → w.statement s ≡ Inserting b k r (Moving x y old new) → IsMoving shape c (range_of_block (index_view w) b) x y
knows_move shape c lock w s b k r x y old new shows kept is =
    let knows : Knows (index_view w) s (Inserting b k r (Moving x y old new)) = subst (λ (statement : Statement). Knows (index_view w) s statement) is (kept.knows s) in
    record { view = index_view w; lock = lock; shows = shows; ordered = kept.ordered; named = knows.2.2; put = (new, knows.2.4) }

-- a map that names nothing names nothing wrong
pub unnamed : (c : IndexContents) (range : ℕ) → c.entry range ≡ None → IsMisnamed c range → ⊥
unnamed c range none misnamed = none-some misnamed.spot (sym none ∙ misnamed.named)

-- nor does one that names bytes of the range
pub well_named : (c : IndexContents) (range : ℕ) (x : Spot) → c.entry range ≡ Some x → HasRangeAt c range x → IsMisnamed c range → ⊥
well_named c range x named there misnamed =
    let same : x ≡ misnamed.spot = same_Some x misnamed.spot (sym named ∙ misnamed.named) in
    misnamed.none there.0 (ap c.bytes (sym same) ∙ there.1) there.2

-- where none of the range stand, none are misread
pub none_misread : (shape : IndexShape) (c : IndexContents) (range : ℕ) (x : Spot) → range < 2 ^ 32 → ((bytes : List ℕ) → c.bytes x ≡ Some bytes → IsOfRange bytes range → ⊥) → IsMisread shape c range x → ⊥
none_misread shape c range x small gone misread = gone misread.bytes misread.there (of_said misread.bytes range small misread.of)

-- nor where they are read
pub well_read : (shape : IndexShape) (c : IndexContents) (range : ℕ) (x : Spot) (bytes : List ℕ) (t : Tuple) → c.bytes x ≡ Some bytes → IsReadAs shape bytes t → IsMisread shape c range x → ⊥
well_read shape c range x bytes t there read misread =
    let same : bytes ≡ misread.bytes = same_Some bytes misread.bytes (sym there ∙ misread.there) in
    none-some t (sym misread.misread ∙ ap (tuple_in (classes_of shape)) (sym same) ∙ read.read)
