-- what a union with a placeholder makes of columns that are exact
use Rattle.std.proofs.Common.{◌≡◌, ℕ, zero, suc, ◌<◌, Bool, true, false, cond, ◌||◌, All, List, [], ◌∷◌, length, get_or, refl, sym, ap, subst, ◌∙◌, arith}
use Rattle.std.specs.List.{filter, list_any}
use Rattle.std.proofs.lemmas.List.Elements.{All-head, All-tail}
use Rattle.block_model.specs.declared.value.Value.{Value}
use Rattle.opclass_any.specs.AnyClass.{exact, united}
use Rattle.opclass_any.specs.declared.classes.AnyClass.{AnyClass}
use Rattle.opclass_any.specs.declared.classes.AnySummary.{AnySummary}
use Rattle.range_tuple.specs.ExactTuples.{IsExact, is_value, values_at}
use Rattle.range_tuple.specs.NullStates.{has_nulls, has_values, state_of}
use Rattle.range_tuple.specs.Tuples.{IndexedColumn, part_of, parts_of, united_column, united_columns}
use Rattle.summarise_core.specs.ExactSummaries.{IsJoined}

nulls_of : (a b : Bool) → has_nulls (state_of a b) ≡ a
nulls_of true true = refl
nulls_of true false = refl
nulls_of false true = refl
nulls_of false false = refl

values_of : (a b : Bool) → has_values (state_of a b) ≡ b
values_of true true = refl
values_of true false = refl
values_of false true = refl
values_of false false = refl

-- a column united with an exact one of the same class
joined : (values : List Value) (column other : IndexedColumn) → other.class ≡ column.class → IsExact values other → IsJoined values column (united_column column other)
joined values column other class exactly = record {
  nulls = nulls_of _ _ ∙ ap (λ (b : Bool). has_nulls column.state || b) exactly.nulls;
  some_values = values_of _ _ ∙ ap (λ (b : Bool). has_values column.state || b) exactly.some_values;
  summary =
      ap (λ (b : Bool). cond b (united column.class column.summary other.summary) column.summary) exactly.some_values
      ∙ ap (λ (s : AnySummary). cond (list_any is_value values) (united column.class column.summary s) column.summary) (exactly.summary ∙ ap (λ (a : AnyClass). exact a (filter is_value values)) class);
}

abbrev others_of : List (ℕ × AnyClass) → List (ℕ × AnyClass)
others_of [] = []
others_of (part ∷ parts) = parts

-- the first column
joined_first : (rows : List (List Value)) (column other : IndexedColumn) (columns others : List IndexedColumn) → parts_of (other ∷ others) ≡ parts_of (column ∷ columns)
    → All (λ (c : IndexedColumn). IsExact (values_at c.place rows) c) (other ∷ others) → IsJoined (values_at column.place rows) column (united_column column other)
joined_first rows column other columns others same all =
    let one : part_of other ≡ part_of column = ap (λ (parts : List (ℕ × AnyClass)). get_or parts 0 (part_of other)) same in
    joined (values_at column.place rows) column other (ap (λ (p : ℕ × AnyClass). p.1) one)
    (subst (λ (place : ℕ). IsExact (values_at place rows) other) (ap (λ (p : ℕ × AnyClass). p.0) one) (All-head (λ (c : IndexedColumn). IsExact (values_at c.place rows) c) other others all))

pub joined_columns : (rows : List (List Value)) (columns others : List IndexedColumn) → parts_of others ≡ parts_of columns → All (λ (c : IndexedColumn). IsExact (values_at c.place rows) c) others
    → (k : ℕ) (held new : IndexedColumn) → k < length (united_columns columns others) → held ≡ get_or columns k held → new ≡ get_or (united_columns columns others) k new → IsJoined (values_at new.place rows) held new
joined_columns rows [] others same all k held new within is_held is_new = absurd (omega (arith, within))
joined_columns rows (column ∷ columns) [] same all k held new within is_held is_new =
    let lengths : 0 ≡ suc (length (parts_of columns)) = ap length same in
    absurd (omega (arith, lengths))
joined_columns rows (column ∷ columns) (other ∷ others) same all zero held new within is_held is_new =
    subst (λ (c : IndexedColumn). IsJoined (values_at c.place rows) held c) (sym is_new)
    (subst (λ (h : IndexedColumn). IsJoined (values_at column.place rows) h (united_column column other)) (sym is_held) (joined_first rows column other columns others same all))
joined_columns rows (column ∷ columns) (other ∷ others) same all (suc k) held new within is_held is_new =
    joined_columns rows columns others (ap others_of same) (All-tail (λ (c : IndexedColumn). IsExact (values_at c.place rows) c) other others all) k held new (omega (arith, within)) is_held is_new
