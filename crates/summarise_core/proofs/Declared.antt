-- an index of the layout, its table's columns, and the tuples that are made for it
use Rattle.std.proofs.Common.{◌≡◌, true, ℕ, zero, suc, List, [], ◌∷◌, map, length, refl, ap, ◌∙◌}
use Rattle.std.specs.Prelude.{◌&&◌, Bool, nat_lt, slice_get, slice_index_or}
use Rattle.std.specs.List.{list_all}
use Rattle.block_model.specs.declared.schema.Column.{Column}
use Rattle.block_model.specs.declared.schema.Index.{Index}
use Rattle.block_model.specs.declared.schema.Part.{Part}
use Rattle.block_model.specs.declared.schema.Schema.{Schema}
use Rattle.block_model.specs.declared.schema.Table.{Table}
use Rattle.block_model.specs.declared.value.Kind.{Kind}
use Rattle.block_model.specs.declared.value.Value.{Value}
use Rattle.block_model.specs.ClassLimits.{class_is_lawful}
use Rattle.block_model.specs.IndexedColumns.{columns_in, columns_of}
use Rattle.heap_rows.specs.Heaps.{kinds_at, no_table}
use Rattle.page_layout.specs.RowBytes.{HaveKinds}
use Rattle.range_tuple.specs.Tuples.{Tuple, empty_placeholder, parts_of}
use Rattle.store_layout.specs.DiskLayout.{DiskLayout}
use Rattle.index_steps.specs.IndexTuples.{IndexShape, TakesValues, classes_of, have_kinds, index_at, kinds_of, shape_of}
use Rattle.summarise_core.specs.SummariseHands.{table_of}

-- the two ways to say that values have the kinds
kinds_are : (kinds : List Kind) (values : List Value) → HaveKinds kinds values → have_kinds kinds values ≡ true
kinds_are [] [] have = refl
kinds_are [] (v ∷ values) have = absurd have
kinds_are (kind ∷ kinds) [] have = absurd have
kinds_are (kind ∷ kinds) (v ∷ values) have = ap (λ (b : Bool). b && have_kinds kinds values) have.0 ∙ kinds_are kinds values have.1

-- the columns of a table that may not be there
columns_are : (tables : List Table) (n : ℕ) → columns_in (slice_get tables n) ≡ (slice_index_or tables n no_table).columns
columns_are [] n = refl
columns_are (table ∷ tables) zero = refl
columns_are (table ∷ tables) (suc n) = columns_are tables n

-- what is taken by the classes of an index
abbrev pub AreTakenBy : Type 0
AreTakenBy = (shape : IndexShape) (values : List Value) → list_all (λ (p : Part). nat_lt p.column (length shape.columns)) shape.parts ≡ true → list_all (class_is_lawful shape.columns) shape.parts ≡ true
    → have_kinds (kinds_of shape) values ≡ true → TakesValues shape values

pub row_taken : AreTakenBy → (layout : DiskLayout) (index : ℕ) → list_all (λ (p : Part). nat_lt p.column (length (columns_of layout.schema (index_at layout index)))) (index_at layout index).parts ≡ true
    → list_all (class_is_lawful (columns_of layout.schema (index_at layout index))) (index_at layout index).parts ≡ true → (values : List Value) → HaveKinds (kinds_at layout (table_of layout index)) values
    → TakesValues (shape_of layout index) values
unfolding shape_of
row_taken taken layout index within lawful values have =
    let columns : columns_of layout.schema (index_at layout index) ≡ (slice_index_or layout.schema.tables (table_of layout index) no_table).columns = columns_are layout.schema.tables (table_of layout index) in
    taken (shape_of layout index) values within lawful
    (ap (λ (cs : List Column). have_kinds (map (λ (column : Column). column.kind) cs) values) columns ∙ kinds_are (kinds_at layout (table_of layout index)) values have)

parts_there : (layout : DiskLayout) (index : ℕ) → parts_of (empty_placeholder 0 (columns_of layout.schema (index_at layout index)) (index_at layout index).parts).columns ≡ classes_of (shape_of layout index)
unfolding classes_of shape_of
parts_there layout index = refl

-- a new tuple is one of the index
pub parts_new : (layout : DiskLayout) (index : ℕ) (schema : Schema) (declared : Index) (t : Tuple) → schema ≡ layout.schema → declared ≡ index_at layout index → t ≡ empty_placeholder 0 (columns_of schema declared) declared.parts
    → parts_of t.columns ≡ classes_of (shape_of layout index)
parts_new layout index schema declared t schema_is index_is is =
    ap (λ (u : Tuple). parts_of u.columns) is
    ∙ ap (λ (q : Schema). parts_of (empty_placeholder 0 (columns_of q declared) declared.parts).columns) schema_is
    ∙ ap (λ (d : Index). parts_of (empty_placeholder 0 (columns_of layout.schema d) d.parts).columns) index_is
    ∙ parts_there layout index
