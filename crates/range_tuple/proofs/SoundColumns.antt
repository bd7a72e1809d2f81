-- one column of a tuple: empty, with a value of a row, and united with another
use Rattle.std.proofs.Common.{◌≡◌, ℕ, zero, suc, ◌<◌, Bool, true, false, cond, ◌||◌, Option, None, Some, List, [], ◌∷◌, All, length, slice_get, refl, sym, ap, subst, ◌∙◌}
use Rattle.std.specs.Prelude.{IfSome}
use Rattle.std.proofs.Math.Bool.{or-false}
use Rattle.std.proofs.lemmas.Bool.{false≢true, or_right}
use Rattle.std.proofs.lemmas.List.Elements.{All-head, All-tail}
use Rattle.block_model.specs.declared.schema.Column.{Column}
use Rattle.block_model.specs.declared.schema.Part.{Part}
use Rattle.block_model.specs.declared.value.Value.{Value}
use Rattle.block_model.specs.declared.value.Value.TheVariants.{Int, Net, Null, Span}
use Rattle.block_model.specs.IndexedColumns.{kind_at}
use Rattle.opclass_any.specs.AnyClass.{add, bytes_of, class_of, includes, united}
use Rattle.opclass_any.specs.declared.classes.AnyClass.{AnyClass}
use Rattle.opclass_any.specs.declared.classes.AnySummary.{AnySummary}
use Rattle.range_tuple.specs.NullStates.{has_nulls, has_values, state_of}
use Rattle.range_tuple.specs.TupleIncludes.{ColumnIncludes, IncludesThere, IncludesValue, TakesThere, TakesValue}
use Rattle.range_tuple.specs.Tuples.{IndexedColumn, IsColumn, IsSummaryIn, empty_column, part_of, united_column, with_row_at, with_value, with_value_there}
use Rattle.range_tuple.specs.declared.state.NullState.{NullState}
use Rattle.range_tuple.proofs.Exactness.{nulls_of, values_of}
use Rattle.range_tuple.proofs.Uniting.{row_kept, row_taken}
use Rattle.range_tuple.specs.OwnKinds.{IsOfItsKind}
use Rattle.range_tuple.specs.SoundClasses.{IsSoundClass, Unites, Widens}

pub empty_is : (columns : List Column) (part : Part) → IsSoundClass (class_of part.class (kind_at columns part.column)) → IsColumn (empty_column columns part)
empty_is columns part sound = record { of_class = sound.empty; of_no_value = λ none. refl; has_bytes = λ some. absurd (false≢true some) }

-- ---- a value added

-- the column with a value is one, at the same place by the same class; it includes the value, and what it included
pub record WidensColumn (column new : IndexedColumn) (v : Value) : Type 0 where
  pub is : IsColumn new
  pub part : part_of new ≡ part_of column
  pub value : IncludesValue new v
  pub kept : (w : Value) → IncludesValue column w → IncludesValue new w

-- with a null
null_kept : (column : IndexedColumn) (w : Value) → IncludesValue column w → IncludesValue (with_value column Null) w
null_kept column Null within = nulls_of true (has_values column.state)
null_kept column (Int n) within = (values_of true (has_values column.state) ∙ within.0, within.1)
null_kept column (Span r) within = (values_of true (has_values column.state) ∙ within.0, within.1)
null_kept column (Net n) within = (values_of true (has_values column.state) ∙ within.0, within.1)

null_widens : (column : IndexedColumn) → IsColumn column → WidensColumn column (with_value column Null) Null
null_widens column of = record {
  is = record {
    of_class = of.of_class;
    of_no_value = λ none. of.of_no_value (sym (values_of true (has_values column.state)) ∙ none);
    has_bytes = λ some. of.has_bytes (sym (values_of true (has_values column.state)) ∙ some);
  };
  part = refl;
  value = nulls_of true (has_values column.state);
  kept = null_kept column;
}

-- with another value
abbrev with_some : IndexedColumn → Value → IndexedColumn
with_some column v = record column { state = state_of (has_nulls column.state) true; summary = add column.class column.summary v }

some_is : (column : IndexedColumn) (v : Value) → Widens column.class column.summary v → IsColumn (with_some column v)
some_is column v widens = record {
  of_class = widens.of_class;
  of_no_value = λ none. absurd (false≢true (sym none ∙ values_of (has_nulls column.state) true));
  has_bytes = λ some. widens.has_bytes;
}

some_kept : (column : IndexedColumn) (v w : Value) → Widens column.class column.summary v → IncludesValue column w → IncludesValue (with_some column v) w
some_kept column v Null widens within = nulls_of (has_nulls column.state) true ∙ within
some_kept column v (Int n) widens within = (values_of (has_nulls column.state) true, widens.kept (Int n) within.1)
some_kept column v (Span r) widens within = (values_of (has_nulls column.state) true, widens.kept (Span r) within.1)
some_kept column v (Net n) widens within = (values_of (has_nulls column.state) true, widens.kept (Net n) within.1)

value_widens : (column : IndexedColumn) (v : Value) → IsSoundClass column.class → IsColumn column → TakesValue column.class v → IsOfItsKind v → WidensColumn column (with_value column v) v
value_widens column Null sound of taken known = null_widens column of
value_widens column (Int n) sound of taken known =
    let widens = sound.widens column.summary (Int n) of.of_class taken known in
    record { is = some_is column (Int n) widens; part = refl; value = (values_of (has_nulls column.state) true, widens.value); kept = λ w within. some_kept column (Int n) w widens within }
value_widens column (Span r) sound of taken known =
    let widens = sound.widens column.summary (Span r) of.of_class taken known in
    record { is = some_is column (Span r) widens; part = refl; value = (values_of (has_nulls column.state) true, widens.value); kept = λ w within. some_kept column (Span r) w widens within }
value_widens column (Net n) sound of taken known =
    let widens = sound.widens column.summary (Net n) of.of_class taken known in
    record { is = some_is column (Net n) widens; part = refl; value = (values_of (has_nulls column.state) true, widens.value); kept = λ w within. some_kept column (Net n) w widens within }

-- the column's value of a row
pub record WidensThere (column new : IndexedColumn) (o : Option Value) : Type 0 where
  pub is : IsColumn new
  pub part : part_of new ≡ part_of column
  pub value : IncludesThere new o
  pub kept : (p : Option Value) → IncludesThere column p → IncludesThere new p

there_widens : (column : IndexedColumn) (o : Option Value) → IsSoundClass column.class → IsColumn column → TakesThere column.class o → IfSome o IsOfItsKind → WidensThere column (with_value_there column o) o
there_widens column None sound of taken known = absurd taken
there_widens column (Some v) sound of taken known =
    let widens = value_widens column v sound of taken known in
    record { is = widens.is; part = widens.part; value = widens.value; kept = kept (with_value column v) widens.kept }
  where
    kept : (new : IndexedColumn) → ((w : Value) → IncludesValue column w → IncludesValue new w) → (p : Option Value) → IncludesThere column p → IncludesThere new p
    kept new each None within = within
    kept new each (Some w) within = each w within

known_there : (values : List Value) (k : ℕ) → All IsOfItsKind values → IfSome (slice_get values k) IsOfItsKind
known_there [] k known = tt
known_there (v ∷ values) zero known = All-head IsOfItsKind v values known
known_there (v ∷ values) (suc k) known = known_there values k (All-tail IsOfItsKind v values known)

-- the column with a row is one, which includes the row, and what it included
pub record WidensRow (column new : IndexedColumn) (values : List Value) : Type 0 where
  pub is : IsColumn new
  pub row : ColumnIncludes values new
  pub kept : (row : List Value) → ColumnIncludes row column → ColumnIncludes row new

pub row_widens : (column : IndexedColumn) (values : List Value) → IsSoundClass column.class → IsColumn column → TakesThere column.class (slice_get values column.place) → All IsOfItsKind values → WidensRow column (with_row_at values column) values
row_widens column values sound of taken known =
    let new = with_row_at values column in
    let widens = there_widens column (slice_get values column.place) sound of taken (known_there values column.place known) in
    let place : column.place ≡ new.place = sym (ap (λ (p : ℕ × AnyClass). p.0) widens.part) in
    record {
      is = widens.is;
      row = subst (λ (n : ℕ). IncludesThere new (slice_get values n)) place widens.value;
      kept = λ row within. subst (λ (n : ℕ). IncludesThere new (slice_get row n)) place (widens.kept (slice_get row column.place) within);
    }

-- ---- united with another

summary_united : (class : AnyClass) (s other : AnySummary) (state : NullState) (nulls b : Bool) → IsSummaryIn class state s → Unites class s other → (b ≡ true → 0 < length (bytes_of class other))
    → IsSummaryIn class (state_of nulls (has_values state || b)) (cond b (united class s other) s)
summary_united class s other state nulls true of unites there = record {
  of_class = unites.of_class;
  of_no_value = λ none. absurd (false≢true (sym none ∙ values_of nulls (has_values state || true) ∙ or_right (has_values state) true refl));
  has_bytes = λ some. unites.has_bytes (there refl);
}
summary_united class s other state nulls false of unites there =
    let same : has_values (state_of nulls (has_values state || false)) ≡ has_values state = values_of nulls (has_values state || false) ∙ or-false (has_values state) in
    record { of_class = of.of_class; of_no_value = λ none. of.of_no_value (sym same ∙ none); has_bytes = λ some. of.has_bytes (sym same ∙ some) }

-- the united column is one, which includes what both did
pub record UnitesColumns (column other new : IndexedColumn) : Type 0 where
  pub is : IsColumn new
  pub first : (row : List Value) → ColumnIncludes row column → ColumnIncludes row new
  pub second : (row : List Value) → ColumnIncludes row other → ColumnIncludes row new

pub columns_unite : (column other : IndexedColumn) → IsSoundClass column.class → part_of other ≡ part_of column → IsColumn column → IsColumn other → UnitesColumns column other (united_column column other)
columns_unite column other sound part of also =
    let class : other.class ≡ column.class = ap (λ (p : ℕ × AnyClass). p.1) part in
    let place : other.place ≡ column.place = ap (λ (p : ℕ × AnyClass). p.0) part in
    let same : IsSummaryIn column.class other.state other.summary = subst (λ (a : AnyClass). IsSummaryIn a other.state other.summary) class also in
    let unites = sound.unites column.summary other.summary of.of_class same.of_class in
    record {
      is = summary_united column.class column.summary other.summary column.state (has_nulls column.state || has_nulls other.state) (has_values other.state) of unites same.has_bytes;
      first = λ row within. row_kept column other (λ w some inc. unites.first w inc) row within;
      second = λ row within. row_taken column other place (λ w some inc. unites.second w (subst (λ (a : AnyClass). includes a other.summary w) class inc)) row within;
    }
