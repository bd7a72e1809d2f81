-- the numbers of a table's indexes, and what their rows are taken by
use Rattle.std.proofs.Common.{◌≡◌, ◌≢◌, ℕ, zero, suc, ◌+◌, ◌<◌, ◌≤◌, ◌==◌, Bool, true, false, cond, List, [], ◌∷◌, ◌++◌, length, map, take, get_or, refl, sym, ap, subst, ◌∙◌, arith}
use Rattle.std.specs.Prelude.{Some, nat_le, nat_lt, slice_get}
use Rattle.std.specs.List.{list_all}
use Rattle.std.proofs.lemmas.Bool.{and_from, and_parts, cond-false, cond-true, eq-eqb, eqb-true, leb-true, ne_eqb}
use Rattle.std.proofs.lemmas.List.{append-nil}
use Rattle.std.proofs.lemmas.Option.{none-some, same_Some, slice_get-get_or}
use Rattle.block_model.specs.ClassLimits.{class_is_lawful}
use Rattle.block_model.specs.declared.schema.Column.{Column}
use Rattle.block_model.specs.declared.schema.Index.{Index}
use Rattle.block_model.specs.declared.schema.Part.{Part}
use Rattle.block_model.specs.declared.schema.Schema.{Schema}
use Rattle.block_model.specs.declared.value.Kind.{Kind}
use Rattle.block_model.specs.declared.value.Value.{Value}
use Rattle.block_model.specs.IndexedColumns.{columns_in, columns_of}
use Rattle.block_model.specs.ValuesOfKind.{has_kind}
use Rattle.store_layout.specs.DiskLayout.{DiskLayout}
use Rattle.store_layout.specs.FirstBrokenRule.{KeepsLimits}
use Rattle.store_layout.specs.Limits.{is_on_a_table}
use Rattle.page_layout.specs.RowBytes.{HaveKinds}
use Rattle.heap_rows.specs.Heaps.{kinds_at, no_table, table_at}
use Rattle.range_tuple.specs.Tuples.{Tuple, empty_placeholder, parts_of}
use Rattle.index_steps.specs.IndexTuples.{IndexShape, TakesValues, classes_of, have_kinds, index_at, kinds_of, no_index, shape_of}
use Rattle.index_steps.specs.ShownTable.{indexes_of, numbers_from}

-- each is the number of an index of the table
record IsOfTable (table n : ℕ) (indexes : List Index) (m : ℕ) : Type 0 where
  pub before : n ≤ m
  pub within : m < n + length indexes
  pub own : (k : ℕ) → n + k ≡ m → (get_or indexes k no_index).table ≡ table

number_of_table : (table n : ℕ) (indexes : List Index) (i m : ℕ) → slice_get (numbers_from table n indexes) i ≡ Some m → IsOfTable table n indexes m
number_of_table table n [] i m is = absurd (none-some m is)
number_of_table table n (index ∷ more) i m is = by_test (λ j later. number_of_table table (n + 1) more j m later) (index.table == table) refl i is
  where
    later_one : IsOfTable table (n + 1) more m → IsOfTable table n (index ∷ more) m
    later_one one = record {
      before = omega (arith, one.before);
      within = omega (arith, one.within);
      own = λ k at. by_place one k at;
    }
      where
        by_place : IsOfTable table (n + 1) more m → (k : ℕ) → n + k ≡ m → (get_or (index ∷ more) k no_index).table ≡ table
        by_place one zero at = absurd (omega (arith, one.before, at))
        by_place one (suc k) at = one.own k (omega (arith, at))

    first_one : (index.table == table) ≡ true → n ≡ m → IsOfTable table n (index ∷ more) m
    first_one is_own same = record {
      before = omega (arith, same);
      within = omega (arith, same);
      own = λ k at. by_place k at;
    }
      where
        by_place : (k : ℕ) → n + k ≡ m → (get_or (index ∷ more) k no_index).table ≡ table
        by_place zero at = eqb-true index.table table is_own
        by_place (suc k) at = absurd (omega (arith, same, at))

    by_test : ((j : ℕ) → slice_get (numbers_from table (n + 1) more) j ≡ Some m → IsOfTable table (n + 1) more m) → (b : Bool) → (index.table == table) ≡ b → (i : ℕ)
        → slice_get (cond b (n ∷ numbers_from table (n + 1) more) (numbers_from table (n + 1) more)) i ≡ Some m → IsOfTable table n (index ∷ more) m
    by_test later true own zero is = first_one own (same_Some n m is)
    by_test later true own (suc i) is = later_one (later i is)
    by_test later false own i is = later_one (later i is)

module _ (layout : DiskLayout) (table at n : ℕ) (is : slice_get (indexes_of layout table) at ≡ Some n) where
  in_table : IsOfTable table 0 layout.schema.indexes n
  unfolding indexes_of
  in_table = number_of_table table 0 layout.schema.indexes at n is

  pub number_within : n < length layout.schema.indexes
  number_within = omega (arith, in_table.within)

  pub own_table : (index_at layout n).table ≡ table
  own_table = in_table.own n (omega arith)

-- one index more
abbrev own_number : (table n : ℕ) → Index → List ℕ
own_number table n index = cond (index.table == table) (n ∷ []) []

more_numbers : (table n : ℕ) (indexes : List Index) (i : ℕ) (d : Index) → i < length indexes → numbers_from table n (take (suc i) indexes) ≡ numbers_from table n (take i indexes) ++ own_number table (n + i) (get_or indexes i d)
more_numbers table n [] i d below = absurd (omega (arith, below))
more_numbers table n (index ∷ more) zero d below =
    let same : n ≡ n + zero = omega arith in
    ap (λ (m : ℕ). cond (index.table == table) (m ∷ []) []) same
more_numbers table n (index ∷ more) (suc i) d below =
    let same : n + 1 + i ≡ n + suc i = omega arith in
    by_test (index.table == table) (numbers_from table (n + 1) (take (suc i) more)) (numbers_from table (n + 1) (take i more)) (own_number table (n + suc i) (get_or more i d))
    (more_numbers table (n + 1) more i d (omega (arith, below)) ∙ ap (λ (m : ℕ). numbers_from table (n + 1) (take i more) ++ own_number table m (get_or more i d)) same)
  where
    by_test : (b : Bool) (xs ys zs : List ℕ) → xs ≡ ys ++ zs → cond b (n ∷ xs) xs ≡ cond b (n ∷ ys) ys ++ zs
    by_test true xs ys zs are = ap (λ (l : List ℕ). n ∷ l) are
    by_test false xs ys zs are = are

module _ (table i : ℕ) (indexes : List Index) (index : Index) (below : i < length indexes) (is : index ≡ get_or indexes i index) where
  next_numbers : numbers_from table 0 (take (i + 1) indexes) ≡ numbers_from table 0 (take i indexes) ++ own_number table i index
  next_numbers =
      let one : i + 1 ≡ suc i = omega arith in
      let none : 0 + i ≡ i = omega arith in
      ap (λ (k : ℕ). numbers_from table 0 (take k indexes)) one
      ∙ more_numbers table 0 indexes i index below
      ∙ ap (λ (m : ℕ). numbers_from table 0 (take i indexes) ++ own_number table m (get_or indexes i index)) none
      ∙ ap (λ (x : Index). numbers_from table 0 (take i indexes) ++ own_number table i x) (sym is)

  pub number_joins : index.table ≡ table → numbers_from table 0 (take (i + 1) indexes) ≡ numbers_from table 0 (take i indexes) ++ i ∷ []
  number_joins own = next_numbers ∙ ap (λ (l : List ℕ). numbers_from table 0 (take i indexes) ++ l) (cond-true (index.table == table) (i ∷ []) [] (eq-eqb index.table table own))

  pub number_stays_out : index.table ≢ table → numbers_from table 0 (take (i + 1) indexes) ≡ numbers_from table 0 (take i indexes)
  number_stays_out other = next_numbers ∙ ap (λ (l : List ℕ). numbers_from table 0 (take i indexes) ++ l) (cond-false (index.table == table) (i ∷ []) [] (ne_eqb index.table table other)) ∙ append-nil (numbers_from table 0 (take i indexes))

-- what holds of all indexes holds of each
all_at : {X : Type 0} (p : X → Bool) (xs : List X) (i : ℕ) (d : X) → list_all p xs ≡ true → i < length xs → p (get_or xs i d) ≡ true
all_at p [] i d all below = absurd (omega (arith, below))
all_at p (x ∷ xs) zero d all below = (and_parts (p x) (list_all p xs) all).0
all_at p (x ∷ xs) (suc i) d all below = all_at p xs i d (and_parts (p x) (list_all p xs) all).1 (omega (arith, below))

module _ (layout : DiskLayout) (limits : KeepsLimits layout.schema layout.sizes) where
  pub few : length layout.schema.indexes ≤ 8
  few = leb-true (length layout.schema.indexes) 8 (and_parts (nat_le (length layout.schema.indexes) 8) _ (limits 3)).0

  module _ (n : ℕ) (below : n < length layout.schema.indexes) where
    abbrev index : Index
    index = index_at layout n

    pub on_columns : list_all (λ (p : Part). nat_lt p.column (length (columns_of layout.schema index))) index.parts ≡ true
    on_columns = (and_parts (nat_lt index.table (length layout.schema.tables)) _ (all_at (is_on_a_table layout.schema) layout.schema.indexes n no_index (and_parts (nat_le (length layout.schema.indexes) 8) _ (limits 3)).1 below)).1

    pub lawful_classes : list_all (class_is_lawful (columns_of layout.schema index)) index.parts ≡ true
    lawful_classes = all_at (λ (i : Index). list_all (class_is_lawful (columns_of layout.schema i)) i.parts) layout.schema.indexes n no_index (limits 6) below

-- a value of each kind
have_from : (kinds : List Kind) (values : List Value) → HaveKinds kinds values → have_kinds kinds values ≡ true
have_from [] [] have = refl
have_from [] (v ∷ values) have = absurd have
have_from (kind ∷ kinds) [] have = absurd have
have_from (kind ∷ kinds) (v ∷ values) have = and_from (has_kind kind v) (have_kinds kinds values) have.0 (have_from kinds values have.1)

-- what the law of rows that are taken says
abbrev pub RowsAreTaken : Type 0
RowsAreTaken = (shape : IndexShape) (values : List Value) → list_all (λ (p : Part). nat_lt p.column (length shape.columns)) shape.parts ≡ true → list_all (class_is_lawful shape.columns) shape.parts ≡ true
    → have_kinds (kinds_of shape) values ≡ true → TakesValues shape values

-- each index of a table takes its rows
pub rows_taken : RowsAreTaken → (layout : DiskLayout) → KeepsLimits layout.schema layout.sizes → (table : ℕ) → table < length layout.schema.tables → (values : List Value) → HaveKinds (kinds_at layout table) values
    → (at n : ℕ) → slice_get (indexes_of layout table) at ≡ Some n → TakesValues (shape_of layout n) values
unfolding shape_of
rows_taken taken layout limits table declared values have at n is =
    let below = number_within layout table at n is in
    let same : columns_of layout.schema (index_at layout n) ≡ (table_at layout table).columns =
    ap (λ (t : ℕ). columns_in (slice_get layout.schema.tables t)) (own_table layout table at n is) ∙ ap columns_in (slice_get-get_or layout.schema.tables table no_table declared) in
    taken (shape_of layout n) values (on_columns layout limits n below) (lawful_classes layout limits n below)
    (subst (λ (cs : List Column). have_kinds (map (λ (column : Column). column.kind) cs) values ≡ true) (sym same) (have_from (kinds_at layout table) values have))

classes_are : (layout : DiskLayout) (n : ℕ) → parts_of (empty_placeholder 0 (columns_of layout.schema (index_at layout n)) (index_at layout n).parts).columns ≡ classes_of (shape_of layout n)
unfolding classes_of shape_of
classes_are layout n = refl

-- an empty placeholder has the columns of its index
pub new_columns : (layout : DiskLayout) (n : ℕ) (schema : Schema) (i : Index) (t : Tuple) → t ≡ empty_placeholder 0 (columns_of schema i) i.parts → schema ≡ layout.schema → i ≡ index_at layout n → parts_of t.columns ≡ classes_of (shape_of layout n)
new_columns layout n schema i t is same declared =
    ap (λ (u : Tuple). parts_of u.columns) is
    ∙ ap (λ (q : Schema). parts_of (empty_placeholder 0 (columns_of q i) i.parts).columns) same
    ∙ ap (λ (j : Index). parts_of (empty_placeholder 0 (columns_of layout.schema j) j.parts).columns) declared
    ∙ classes_are layout n
