-- a column that is asked misses no row that it includes
use Rattle.std.proofs.Common.{◌≡◌, ℕ, suc, Bool, true, false, not, cond, ◌&&◌, ◌||◌, ◌==◌, Option, None, Some, List, [], ◌∷◌, slice_get, get_or, length, refl, sym, ap, ◌∙◌, eqb-true, arith}
use Rattle.std.specs.List.{list_all, list_any, AllPass}
use Rattle.std.proofs.Math.Bool.{or-true}
use Rattle.std.proofs.lemmas.Bool.{false≢true, and_parts, and_from, or_parts, false_from_ne_true, true_from_ne_false}
use Rattle.std.proofs.lemmas.List.Sums.{AllPass-from_list_all, list_all-from_AllPass}
use Rattle.block_model.specs.declared.row.Cond.{Cond}
use Rattle.block_model.specs.declared.value.Op.{Op}
use Rattle.block_model.specs.declared.value.Op.TheVariants.{IsNull, NotNull}
use Rattle.block_model.specs.declared.value.Value.{Value}
use Rattle.block_model.specs.declared.value.Value.TheVariants.{Null, Int, Span, Net}
use Rattle.block_model.specs.Matches.{matches}
use Rattle.block_model.specs.RowMatches.{column_matches, value_there_matches}
use Rattle.opclass_api.specs.Conditions.{compares, AllCompare, meets, meets_all}
use Rattle.opclass_any.specs.AnyClass.{consistent, includes}
use Rattle.range_tuple.specs.GatheredKeys.{IsAsked, asks_for_nulls, asks_for_values, has_asked, is_not_null, is_null}
use Rattle.range_tuple.specs.Keeps.{comparisons, allows_op, allows_cond, column_allows, may_meet}
use Rattle.range_tuple.specs.NullStates.{has_nulls, has_values}
use Rattle.range_tuple.specs.TupleIncludes.{IncludesValue, IncludesThere, ColumnIncludes}
use Rattle.range_tuple.specs.Tuples.{IndexedColumn}

kept_compares : (t : Bool) (c : Cond) (rest : List Cond) → (t ≡ true → compares c.op ≡ true) → AllCompare rest → AllCompare (cond t (c ∷ rest) rest)
kept_compares true c rest one all = and_from _ _ (one refl) all
kept_compares false c rest one all = all

-- the comparisons on a column compare
pub all_compare : (place : ℕ) (conds : List Cond) → AllCompare (comparisons place conds)
all_compare place [] = refl
all_compare place (c ∷ conds) = kept_compares ((c.column == place) && compares c.op) c (comparisons place conds) (λ both. (and_parts _ _ both).1) (all_compare place conds)

kept_meets : (t : Bool) (c : Cond) (rest : List Cond) (v : Value) → (t ≡ true → meets v c ≡ true) → meets_all rest v ≡ true → meets_all (cond t (c ∷ rest) rest) v ≡ true
kept_meets true c rest v one all = and_from _ _ (one refl) all
kept_meets false c rest v one all = all

-- a row's value meets the comparisons on its column where the row meets all conditions
meets_each : (row : List Value) (place : ℕ) (v : Value) → slice_get row place ≡ Some v → (conds : List Cond) → list_all (column_matches row) conds ≡ true → meets_all (comparisons place conds) v ≡ true
meets_each row place v there [] met = refl
meets_each row place v there (c ∷ conds) met =
    let parts = and_parts (column_matches row c) (list_all (column_matches row) conds) met in
    kept_meets ((c.column == place) && compares c.op) c (comparisons place conds) v
    (λ both. sym (ap (λ (o : Option Value). value_there_matches o c) (ap (slice_get row) (eqb-true c.column place (and_parts _ _ both).0) ∙ there)) ∙ parts.0)
    (meets_each row place v there conds parts.1)

op_allowed : (column : IndexedColumn) (m : Bool) (v : Value) (op : Op) (key : Value) → IncludesValue column v → (has_values column.state ≡ true → includes column.class column.summary v → m ≡ true) → matches v op key ≡ true → allows_op column.state m op ≡ true
op_allowed column m Null IsNull key within may met = within
op_allowed column m Null op key within may met = absurd (false≢true met)
op_allowed column m (Int n) IsNull key within may met = absurd (false≢true met)
op_allowed column m (Int n) NotNull key within may met = within.0
op_allowed column m (Int n) op key within may met = may within.0 within.1
op_allowed column m (Span r) IsNull key within may met = absurd (false≢true met)
op_allowed column m (Span r) NotNull key within may met = within.0
op_allowed column m (Span r) op key within may met = may within.0 within.1
op_allowed column m (Net n) IsNull key within may met = absurd (false≢true met)
op_allowed column m (Net n) NotNull key within may met = within.0
op_allowed column m (Net n) op key within may met = may within.0 within.1

-- a condition that the row meets is allowed
cond_allowed : (column : IndexedColumn) (m : Bool) (row : List Value) (v : Value) (c : Cond) (b : Bool) → (c.column == column.place) ≡ b → slice_get row column.place ≡ Some v → IncludesValue column v → (has_values column.state ≡ true → includes column.class column.summary v → m ≡ true) → column_matches row c ≡ true → (not b || allows_op column.state m c.op) ≡ true
cond_allowed column m row v c false same there within may met = refl
cond_allowed column m row v c true same there within may met =
    op_allowed column m v c.op c.key within may (sym (ap (λ (o : Option Value). value_there_matches o c) (ap (slice_get row) (eqb-true c.column column.place same) ∙ there)) ∙ met)

misses_there : (column : IndexedColumn) (m : Bool) (conds : List Cond) (row : List Value) (o : Option Value) → (m ≡ false → has_values column.state ≡ true → (v : Value) → includes column.class column.summary v → meets_all (comparisons column.place conds) v ≡ false) → list_all (allows_cond column m) conds ≡ false → slice_get row column.place ≡ o → IncludesThere column o → list_all (column_matches row) conds ≡ false
misses_there column m conds row None may none is within = absurd within
misses_there column m conds row (Some v) may none is within =
    false_from_ne_true (list_all (column_matches row) conds)
    (λ met.
    let may_be : has_values column.state ≡ true → includes column.class column.summary v → m ≡ true = λ some inc.
    true_from_ne_false m (λ not_m. false≢true (sym (may not_m some v inc) ∙ meets_each row column.place v is conds met))
    in
    let each : AllPass (allows_cond column m) conds = λ k d below.
    let c = get_or conds k d in
    cond_allowed column m row v c (c.column == column.place) refl is within may_be (AllPass-from_list_all (column_matches row) conds met k d below)
    in
    false≢true (sym none ∙ list_all-from_AllPass (allows_cond column m) conds each))

-- where a column doesn't allow conditions, a row that it includes doesn't match them
pub misses : (column : IndexedColumn) (m : Bool) (conds : List Cond) → (m ≡ false → has_values column.state ≡ true → (v : Value) → includes column.class column.summary v → meets_all (comparisons column.place conds) v ≡ false) → list_all (allows_cond column m) conds ≡ false → (row : List Value) → ColumnIncludes row column → list_all (column_matches row) conds ≡ false
misses column m conds may none row within = misses_there column m conds row (slice_get row column.place) may none refl within

-- where no condition is on the column, it allows them
pub none_asked : (column : IndexedColumn) (m : Bool) (conds : List Cond) → list_any (λ cond. cond.column == column.place) conds ≡ false → list_all (allows_cond column m) conds ≡ true
none_asked column m [] none = refl
none_asked column m (c ∷ conds) none =
    let parts = or_parts (c.column == column.place) (list_any (λ cond. cond.column == column.place) conds) none in
    and_from (allows_cond column m c) (list_all (allows_cond column m) conds) (ap (λ (b : Bool). not b || allows_op column.state m c.op) parts.0) (none_asked column m conds parts.1)

null_first : (h n x y : Bool) → (h && (x && ((not n || h) && y))) ≡ (x && (h && y))
null_first false n false y = refl
null_first false n true y = refl
null_first true n x y = ap (λ (b : Bool). x && (b && y)) (or-true (not n))

values_first : (h n x y : Bool) → (h && (x && (y && (not n || h)))) ≡ (x && (y && h))
values_first false n false y = refl
values_first false n true false = refl
values_first false n true true = refl
values_first true n x y = ap (λ (b : Bool). x && (y && b)) (or-true (not n))

compared_first : (m x y : Bool) → (m && ((x || m) && y)) ≡ (m && y)
compared_first false x y = refl
compared_first true x y = ap (λ (b : Bool). b && y) (or-true x)

-- what is asked of a column, gathered
abbrev pub allows_gathered : IndexedColumn → Bool → List Cond → Bool → Bool → Bool
allows_gathered column m asked nulls values = ((length asked == 0) || m) && has_asked column.state nulls values

not_empty : (n : ℕ) → (suc n == 0) ≡ false
not_empty n = false_from_ne_true (suc n == 0) (λ same. omega (arith, eqb-true (suc n) 0 same))

one_more : (column : IndexedColumn) (m : Bool) (c : Cond) (asked : List Cond) (n v on : Bool) (op : Op) → ((not on || allows_op column.state m op) && allows_gathered column m asked n v) ≡ allows_gathered column m (cond (on && compares op) (c ∷ asked) asked) ((on && is_null op) || n) ((on && is_not_null op) || v)
one_more column m c asked n v false op = refl
one_more column m c asked n v true IsNull = null_first (has_nulls column.state) n ((length asked == 0) || m) (not v || has_values column.state)
one_more column m c asked n v true NotNull = values_first (has_values column.state) v ((length asked == 0) || m) (not n || has_nulls column.state)
one_more column m c asked n v true op = compared_first m (length asked == 0) (has_asked column.state n v) ∙ ap (λ (b : Bool). (b || m) && has_asked column.state n v) (sym (not_empty (length asked)))

-- a column allows conditions where it allows what is gathered of them
pub gathered_allows : (column : IndexedColumn) (m : Bool) (conds : List Cond) → list_all (allows_cond column m) conds ≡ allows_gathered column m (comparisons column.place conds) (asks_for_nulls column.place conds) (asks_for_values column.place conds)
gathered_allows column m [] = refl
gathered_allows column m (c ∷ conds) =
    ap (λ (b : Bool). allows_cond column m c && b) (gathered_allows column m conds)
    ∙ one_more column m c (comparisons column.place conds) (asks_for_nulls column.place conds) (asks_for_values column.place conds) (c.column == column.place) c.op

-- so it does where it allows what is asked of it
pub allows_asked : (column : IndexedColumn) (conds asked : List Cond) (nulls values : Bool) → IsAsked column.place conds asked nulls values → column_allows conds column ≡ (((length asked == 0) || (has_values column.state && consistent column.class column.summary asked)) && has_asked column.state nulls values)
allows_asked column conds asked nulls values is =
    gathered_allows column (may_meet conds column) conds
    ∙ (λ i. ((length (sym is.comparisons_on i) == 0) || (has_values column.state && consistent column.class column.summary (sym is.comparisons_on i))) && has_asked column.state (sym is.nulls_asked i) (sym is.values_asked i))

-- it doesn't where nulls or values are asked for that aren't there
pub none_there : (column : IndexedColumn) (conds asked : List Cond) (nulls values : Bool) → IsAsked column.place conds asked nulls values → has_asked column.state nulls values ≡ false → list_all (allows_cond column true) conds ≡ false
none_there column conds asked nulls values is none =
    gathered_allows column true conds
    ∙ (λ i. or-true (length (comparisons column.place conds) == 0) i && has_asked column.state (sym is.nulls_asked i) (sym is.values_asked i))
    ∙ none

-- and where comparisons are asked that no value may meet
pub none_may_match : (column : IndexedColumn) (conds asked : List Cond) (nulls values : Bool) → IsAsked column.place conds asked nulls values → (length asked == 0) ≡ false → list_all (allows_cond column false) conds ≡ false
none_may_match column conds asked nulls values is some =
    gathered_allows column false conds
    ∙ ap (λ (b : Bool). (b || false) && has_asked column.state (asks_for_nulls column.place conds) (asks_for_values column.place conds)) (ap (λ (cs : List Cond). length cs == 0) (sym is.comparisons_on) ∙ some)

compared_alone : (op : Op) → compares op ≡ true → (is_null op ≡ false) × (is_not_null op ≡ false)
compared_alone IsNull compares = absurd (false≢true compares)
compared_alone NotNull compares = absurd (false≢true compares)
compared_alone op compares = (refl, refl)

-- conditions that all compare and are on the column are what is asked of it
pub asked_alone : (place : ℕ) (conds : List Cond) → list_all (λ c. (c.column == place) && compares c.op) conds ≡ true → IsAsked place conds conds false false
asked_alone place [] all = record { comparisons_on = refl; nulls_asked = refl; values_asked = refl }
asked_alone place (c ∷ conds) all =
    let parts = and_parts ((c.column == place) && compares c.op) (list_all (λ c. (c.column == place) && compares c.op) conds) all in
    let on = and_parts (c.column == place) (compares c.op) parts.0 in
    let op = compared_alone c.op on.1 in
    let rest = asked_alone place conds parts.1 in
    record {
      comparisons_on = ap (λ (asked : List Cond). c ∷ asked) rest.comparisons_on ∙ ap (λ (b : Bool). cond b (c ∷ comparisons place conds) (comparisons place conds)) (sym parts.0);
      nulls_asked = rest.nulls_asked ∙ (λ i. (sym on.0 i && sym op.0 i) || asks_for_nulls place conds);
      values_asked = rest.values_asked ∙ (λ i. (sym on.0 i && sym op.1 i) || asks_for_values place conds);
    }
