-- a tuple that doesn't keep the conditions of a query excludes its matches
use Rattle.std.proofs.Common.{◌≡◌, ℕ, ◌<◌, Bool, true, false, List, length, map, Option, None, Some, refl, sym, ap, subst, ◌∙◌, arith}
use Rattle.std.specs.Prelude.{◌↔◌}
use Rattle.std.specs.List.{list_all}
use Rattle.std.proofs.lemmas.Bool.{false≢true}
use Rattle.std.proofs.lemmas.List.{length-map}
use Rattle.block_model.specs.declared.row.Cond.{Cond}
use Rattle.block_model.specs.declared.row.Row.{Row}
use Rattle.block_model.specs.declared.value.Value.{Value}
use Rattle.block_model.specs.RowMatches.{column_matches}
use Rattle.range_tuple.specs.IncludedRows.{tuple_includes}
use Rattle.range_tuple.specs.Keeps.{keeps}
use Rattle.range_tuple.specs.TupleIncludes.{TupleIncludes}
use Rattle.range_tuple.specs.TupleReading.{tuple_in}
use Rattle.range_tuple.specs.Tuples.{Tuple, empty_column, part_of}
use Rattle.coverage.specs.IndexView.{IndexTuple}
use Rattle.coverage.specs.Steps.{Excludes}
use Rattle.range_tuple.specs.SoundTuples.{ExcludesRows}
use Rattle.index_steps.specs.IndexTuples.{IndexShape, classes_of, row_values, seen, seen_as}

-- the index has a class for each of its columns
pub some_classes : (shape : IndexShape) → 0 < length shape.parts → 0 < length (classes_of shape)
unfolding classes_of
some_classes shape some = omega (arith, some, length-map (map (empty_column shape.columns) shape.parts) part_of, length-map shape.parts (empty_column shape.columns))

seen_is : (shape : IndexShape) (bytes : List ℕ) → seen shape bytes ≡ seen_as shape bytes (tuple_in (classes_of shape) bytes)
unfolding seen
seen_is shape bytes = refl

module _ (shape : IndexShape) (bytes : List ℕ) (conds : List Cond) (matches : Row → Bool) (tested : (t : Tuple) (row : List Value) → (tuple_includes t row ≡ true) ↔ TupleIncludes t row)
    (meets : (r : Row) → matches r ≡ true → list_all (column_matches (row_values shape r)) conds ≡ true) where
  excludes_as : (o : Option Tuple) → ((t : Tuple) → o ≡ Some t → keeps t conds ≡ false → ExcludesRows t conds) → (seen_as shape bytes o).keeps conds ≡ false → Excludes (seen_as shape bytes o) matches
  excludes_as None excluded none = absurd (false≢true (sym none))
  excludes_as (Some t) excluded none =
      let out = excluded t refl none in
      record { final = out.final; none = λ r is met. false≢true (sym (out.none (row_values shape r) ((tested t (row_values shape r)).0 is)) ∙ meets r met) }

  pub excludes : ((t : Tuple) → tuple_in (classes_of shape) bytes ≡ Some t → keeps t conds ≡ false → ExcludesRows t conds) → (seen shape bytes).keeps conds ≡ false → Excludes (seen shape bytes) matches
  excludes excluded none =
      subst (λ (u : IndexTuple). Excludes u matches) (sym (seen_is shape bytes)) (excludes_as (tuple_in (classes_of shape) bytes) excluded (sym (ap (λ (u : IndexTuple). u.keeps conds) (seen_is shape bytes)) ∙ none))
