-- rows whose exact summaries are united with what a tuple held
use Rattle.std.proofs.Common.{◌≡◌, ℕ, ◌<◌, Bool, cond, ◌||◌, List, All, length, get_or, sym, ap, ◌∙◌, subst, arith}
use Rattle.std.specs.List.{filter, list_any}
use Rattle.std.proofs.lemmas.List.{get_or_default}
use Rattle.block_model.specs.declared.value.Value.{Value}
use Rattle.opclass_any.specs.AnyClass.{exact, united}
use Rattle.opclass_any.specs.declared.classes.AnyClass.{AnyClass}
use Rattle.opclass_any.specs.declared.classes.AnySummary.{AnySummary}
use Rattle.range_tuple.specs.ExactTuples.{IsExact, is_value, values_at}
use Rattle.range_tuple.specs.NullStates.{has_nulls, has_values}
use Rattle.range_tuple.specs.Tuples.{IndexedColumn, part_of, parts_of, united_column, united_columns}
use Rattle.range_tuple.proofs.ByPlace.{get_or-united, length-parts, length-united, part_at}
use Rattle.range_tuple.proofs.Exactness.{nulls_of, values_of}
use Rattle.range_tuple.specs.RowsUnited.{UnitesRows, UnitesValues}

values_unite : (values : List Value) (held other : IndexedColumn) → part_of other ≡ part_of held → IsExact values other → UnitesValues values held (united_column held other)
values_unite values held other same is = record {
  nulls = nulls_of _ _ ∙ ap (λ (b : Bool). has_nulls held.state || b) is.nulls;
  some_values = values_of _ _ ∙ ap (λ (b : Bool). has_values held.state || b) is.some_values;
  summary =
      ap (λ (b : Bool). cond b (united held.class held.summary other.summary) held.summary) is.some_values
      ∙ ap (λ (s : AnySummary). cond (list_any is_value values) (united held.class held.summary s) held.summary) (is.summary ∙ ap (λ (p : ℕ × AnyClass). exact p.1 (filter is_value values)) same);
}

pub rows_unite : (rows : List (List Value)) (columns others : List IndexedColumn) → parts_of others ≡ parts_of columns → All (λ column. IsExact (values_at column.place rows) column) others → UnitesRows rows columns (united_columns columns others)
rows_unite rows columns others same all = λ k held column within is_held is_column.
    let below : k < length columns = omega (arith, within, length-united columns others) in
    let there : k < length others = omega (arith, below, length-parts others columns same) in
    let other = get_or others k held in
    let is_other : other ≡ get_or others k other = get_or_default others k held other there in
    let parts : part_of other ≡ part_of held = part_at others columns k other held same below is_other is_held in
    let made : get_or (united_columns columns others) k column ≡ united_column held other = get_or-united columns others k held other column (length-parts others columns same) below is_held is_other in
    let own : UnitesValues (values_at held.place rows) held (united_column held other) = values_unite (values_at held.place rows) held other parts (subst (λ (p : ℕ × AnyClass). IsExact (values_at p.0 rows) other) parts (all k held there)) in
    subst (λ (c : IndexedColumn). UnitesValues (values_at c.place rows) held c) (sym (is_column ∙ made)) own
