-- what a statement that fits its schema names is declared
use Rattle.std.proofs.Common.{◌≡◌, true, ℕ, ◌<◌, List, [], ◌∷◌, map, length, refl, sym, subst}
use Rattle.std.proofs.lemmas.Option.{get_or_from_slice_get, slice_get_within}
use Rattle.block_model.specs.declared.schema.Column.{Column}
use Rattle.block_model.specs.declared.schema.Schema.{Schema}
use Rattle.block_model.specs.declared.schema.Table.{Table}
use Rattle.block_model.specs.declared.value.Kind.{Kind}
use Rattle.block_model.specs.declared.value.Kind.TheVariants as kinds
use Rattle.block_model.specs.declared.value.Value.{Value}
use Rattle.block_model.specs.declared.value.Value.TheVariants as values
use Rattle.block_model.specs.ValuesOfKind.{IsValueOf, has_kind}
use Rattle.heap_rows.specs.Heaps.{kinds_at, no_table}
use Rattle.page_layout.specs.HeapForms.{kinds_of}
use Rattle.page_layout.specs.RowBytes.{HaveKinds}
use Rattle.store_layout.specs.StatementFits.{AreValuesFor, IsIndexOf, IsInsertFor, IsTableOf}
use Rattle.store_layout.specs.DiskLayout.{DiskLayout}

one_kind : (kind : Kind) (v : Value) → IsValueOf kind v → has_kind kind v ≡ true
one_kind kind values.Null h = refl
one_kind kinds.Int (values.Int n) h = refl
one_kind kinds.Span (values.Span range) h = refl
one_kind kinds.Net (values.Net network) h = refl
one_kind kind v h = absurd h

have_kinds : (columns : List Column) (row : List Value) → AreValuesFor columns row → HaveKinds (map (λ (c : Column). c.kind) columns) row
have_kinds [] [] h = tt
have_kinds [] (v ∷ vs) h = absurd h
have_kinds (c ∷ cs) [] h = absurd h
have_kinds (c ∷ cs) (v ∷ vs) h = (one_kind c.kind v h.0, have_kinds cs vs h.1)

pub insert_kinds : (layout : DiskLayout) (table : ℕ) (row : List Value) → IsInsertFor layout.schema table row → HaveKinds (kinds_at layout table) row
insert_kinds layout table row h =
    subst (λ (t : Table). HaveKinds (kinds_of t) row) (sym (get_or_from_slice_get layout.schema.tables table h.into no_table h.table)) (have_kinds h.into.columns row h.values)

pub insert_below : (schema : Schema) (table : ℕ) (row : List Value) → IsInsertFor schema table row → table < length schema.tables
insert_below schema table row h = slice_get_within schema.tables table h.into h.table

pub index_below : (schema : Schema) (n : ℕ) → IsIndexOf schema n → n < length schema.indexes
index_below schema n h = slice_get_within schema.indexes n h.0 h.1

pub table_below : (schema : Schema) (n : ℕ) → IsTableOf schema n → n < length schema.tables
table_below schema n h = slice_get_within schema.tables n h.0 h.1
