-- tuples of an index that a summarise makes, as the protocol sees them
use Rattle.std.proofs.Common.{◌≡◌, ℕ, true, List, [], ◌∷◌, map, Option, refl, sym, ap, ◌∙◌}
use Rattle.block_model.specs.declared.schema.Column.{Column}
use Rattle.block_model.specs.declared.schema.Part.{Part}
use Rattle.opclass_any.specs.AnyClass.{empty}
use Rattle.opclass_any.specs.declared.classes.AnyClass.{AnyClass}
use Rattle.range_tuple.specs.declared.state.NullState.TheVariants.{Nothing}
use Rattle.range_tuple.specs.TupleBytes.{tuple_bytes}
use Rattle.range_tuple.specs.TupleReading.{tuple_in}
use Rattle.range_tuple.specs.Tuples.{IndexedColumn, Tuple, empty_column, empty_placeholder, emptied, parts_of, restarted, tuple_of}
use Rattle.coverage.specs.IndexView.{Contents, IndexTuple, IndexView}
use Rattle.index_contents.specs.IndexContents.{IndexContents}
use Rattle.index_steps.specs.IndexTuples.{IndexShape, changed_as, classes_of, contents_of, final_union, is_placeholder, seen, united_as}
use Rattle.index_steps.specs.Readings.{IsReadAs}
use Rattle.index_steps.specs.ShownIndex.{Shows}
use Rattle.index_steps.proofs.Views.{seen_bytes}

-- a tuple that is read is a placeholder where it says so
pub seen_sort : (shape : IndexShape) (bytes : List ℕ) (t : Tuple) → IsReadAs shape bytes t → (seen shape bytes).placeholder ≡ t.placeholder
unfolding seen
seen_sort shape bytes t read = ap is_placeholder read.read

-- a column of an index in which nothing was added
from_part : ℕ × AnyClass → IndexedColumn
from_part p = record { place = p.0; class = p.1; state = Nothing; summary = empty p.1 }

emptied_by : (columns : List IndexedColumn) → map emptied columns ≡ map from_part (parts_of columns)
unfolding from_part
emptied_by [] = refl
emptied_by (column ∷ columns) = ap (λ (rest : List IndexedColumn). emptied column ∷ rest) (emptied_by columns)

empty_by : (columns : List Column) (parts : List Part) → map (empty_column columns) parts ≡ map from_part (parts_of (map (empty_column columns) parts))
unfolding from_part
empty_by columns [] = refl
empty_by columns (part ∷ parts) = ap (λ (rest : List IndexedColumn). empty_column columns part ∷ rest) (empty_by columns parts)

-- a tuple of the index that is started anew is the empty placeholder of its range
pub restarted_is : (shape : IndexShape) (range : ℕ) (t : Tuple) → parts_of t.columns ≡ classes_of shape → empty_placeholder range shape.columns shape.parts ≡ restarted range t
unfolding classes_of
restarted_is shape range t of =
    ap (λ (columns : List IndexedColumn). tuple_of range true columns) (empty_by shape.columns shape.parts ∙ ap (map from_part) (sym of) ∙ sym (emptied_by t.columns))

empty_is : (shape : IndexShape) (range : ℕ) → (contents_of shape).empty range ≡ seen shape (tuple_bytes (empty_placeholder range shape.columns shape.parts))
unfolding contents_of
empty_is shape range = refl

pub empty_there : (shape : IndexShape) (c : IndexContents) (lock : ℕ → Option ℕ) (w : IndexView) (range : ℕ) (t u : Tuple) → Shows shape c lock w → parts_of t.columns ≡ classes_of shape → u ≡ restarted range t
    → seen shape (tuple_bytes u) ≡ w.contents.empty range
empty_there shape c lock w range t u shows of is =
    ap (λ (v : Tuple). seen shape (tuple_bytes v)) (is ∙ sym (restarted_is shape range t of)) ∙ sym (empty_is shape range) ∙ sym (ap (λ (contents : Contents). contents.empty range) shows.contents)

united_is : (shape : IndexShape) (t other : IndexTuple) → (contents_of shape).united t other ≡ united_as shape t.bytes (tuple_in (classes_of shape) other.bytes)
unfolding contents_of
united_is shape t other = refl

-- the placeholder united with the running tuple
pub united_there : (shape : IndexShape) (c : IndexContents) (lock : ℕ → Option ℕ) (w : IndexView) (bytes more : List ℕ) (t running u : Tuple) → Shows shape c lock w → IsReadAs shape bytes t → IsReadAs shape more running
    → u ≡ final_union running t → seen shape (tuple_bytes u) ≡ w.contents.united (seen shape bytes) (seen shape more)
united_there shape c lock w bytes more t running u shows read read_too is = sym (
    ap (λ (contents : Contents). contents.united (seen shape bytes) (seen shape more)) shows.contents
    ∙ united_is shape (seen shape bytes) (seen shape more)
    ∙ ap (λ (b : List ℕ). united_as shape b (tuple_in (classes_of shape) (seen shape more).bytes)) (seen_bytes shape bytes)
    ∙ ap (λ (b : List ℕ). united_as shape bytes (tuple_in (classes_of shape) b)) (seen_bytes shape more)
    ∙ ap (united_as shape bytes) read_too.read
    ∙ ap (changed_as shape bytes (final_union running)) read.read
    ∙ ap (λ (v : Tuple). seen shape (tuple_bytes v)) (sym is))
