-- a row that is added to a tuple of the index
use Rattle.std.proofs.Common.{◌≡◌, ℕ, Bool, true, List, Option, map, refl, ap, ◌∙◌}
use Rattle.std.specs.Prelude.{if◌then◌else◌}
use Rattle.block_model.specs.declared.row.Row.{Row}
use Rattle.block_model.specs.declared.value.Kind.{Kind}
use Rattle.block_model.specs.declared.value.Value.{Value}
use Rattle.block_model.specs.declared.value.Value.TheVariants.{Null}
use Rattle.range_tuple.specs.TupleBytes.{tuple_bytes}
use Rattle.range_tuple.specs.Tuples.{Tuple, with_row}
use Rattle.coverage.specs.IndexView.{Contents, IndexTuple, IndexView}
use Rattle.index_contents.specs.IndexContents.{IndexContents}
use Rattle.index_steps.specs.IndexTuples.{IndexShape, are_values, changed, changed_as, contents_of, kinds_of, row_values, seen}
use Rattle.index_steps.specs.Readings.{IsReadAs}
use Rattle.index_steps.specs.ShownIndex.{Shows}
use Rattle.index_steps.proofs.Views.{seen_bytes}

-- a row of the table has its own values
pub own_values : (shape : IndexShape) (r : Row) → are_values (kinds_of shape) r.values ≡ true → row_values shape r ≡ r.values
unfolding row_values
own_values shape r are = ap (λ (b : Bool). if b then r.values else map (λ (kind : Kind). Null) (kinds_of shape)) are

added_is : (shape : IndexShape) (r : Row) (t : IndexTuple) → (contents_of shape).added r t ≡ changed shape t.bytes (with_row (row_values shape r))
unfolding contents_of
added_is shape r t = refl

pub row_added : (shape : IndexShape) (c : IndexContents) (lock : ℕ → Option ℕ) (w : IndexView) (r : Row) (bytes : List ℕ) (t : Tuple) → Shows shape c lock w → IsReadAs shape bytes t → are_values (kinds_of shape) r.values ≡ true
    → w.contents.added r (seen shape bytes) ≡ seen shape (tuple_bytes (with_row r.values t))
row_added shape c lock w r bytes t shows read are =
    let change : List Value → Tuple → Tuple = λ values u. with_row values u in
    ap (λ (contents : Contents). contents.added r (seen shape bytes)) shows.contents
    ∙ added_is shape r (seen shape bytes)
    ∙ ap (λ (b : List ℕ). changed shape b (with_row (row_values shape r))) (seen_bytes shape bytes)
    ∙ ap (changed_as shape bytes (with_row (row_values shape r))) read.read
    ∙ ap (λ (values : List Value). seen shape (tuple_bytes (with_row values t))) (own_values shape r are)
