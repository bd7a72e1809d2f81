-- what the limits and the names say of the fields: each number fits its bytes, and there are few
use Rattle.std.proofs.Common.{◌≡◌, ℕ, ◌*◌, ◌%◌, ◌^◌, ◌<◌, ◌≤◌, Bool, true, ◌&&◌, eqb, List, [], ◌∷◌, length, map, length-append, arith}
use Rattle.std.proofs.Math.Nat.{suc-mul, div-le_self}
use Rattle.std.specs.List.{AllByRecursion, flat_map, list_all}
use Rattle.std.proofs.lemmas.Bool.{leb-true, and_parts}
use Rattle.block_model.specs.declared.schema.Class.{Class}
use Rattle.block_model.specs.declared.schema.Class.TheVariants as classes
use Rattle.block_model.specs.declared.schema.Column.{Column}
use Rattle.block_model.specs.declared.schema.Table.{Table}
use Rattle.block_model.specs.declared.schema.Part.{Part}
use Rattle.block_model.specs.declared.schema.Index.{Index}
use Rattle.block_model.specs.declared.schema.Schema.{Schema}
use Rattle.block_model.specs.declared.schema.Sizes.{Sizes}
use Rattle.block_model.specs.ClassLimits.{is_within, takes_kind, has_lawful_parameters, class_is_lawful}
use Rattle.block_model.specs.IndexedColumns.{columns_of, kind_at}
use Rattle.block_model.specs.Names.{is_name}
use Rattle.block_model.specs.RowSize.{row_size}
use Rattle.store_layout.specs.Limits.{rows_fit, columns_are_lawful, parts_are_lawful}
use Rattle.store_layout.specs.FirstBrokenRule.{KeepsLimits}
use Rattle.store_format.specs.ControlBytes.{class_parameter, column_bytes, table_bytes, part_bytes, index_bytes, schema_bytes}
use Rattle.store_format.specs.ControlPage.{TableIsNamed, IndexIsNamed, HasNames}
use Rattle.store_format.specs.ShortSchema.{IsShort, IsShortTable, IsShortIndex}
use Rattle.store_format.proofs.Padding.{name_length}

-- its name is one
abbrev pub ColumnFits : Column → Type 0
ColumnFits column = is_name column.name ≡ true

pub record TableFits (table : Table) : Type 0 where
  pub name : is_name table.name ≡ true
  pub rows : table.rows_per_page < 2 ^ 16
  pub columns : AllByRecursion ColumnFits table.columns

-- its parameter fits two bytes
abbrev pub PartFits : Part → Type 0
PartFits part = class_parameter part.class < 2 ^ 16

pub record IndexFits (index : Index) : Type 0 where
  pub name : is_name index.name ≡ true
  pub pages : index.pages_per_range < 2 ^ 32
  pub parts : AllByRecursion PartFits index.parts

pub record SchemaFits (schema : Schema) : Type 0 where
  pub tables : AllByRecursion TableFits schema.tables
  pub indexes : AllByRecursion IndexFits schema.indexes

pub record SizesFit (sizes : Sizes) : Type 0 where
  pub heap : sizes.heap_blocks < 2 ^ 32
  pub index : sizes.index_blocks < 2 ^ 32
  pub status : sizes.status_blocks < 2 ^ 32
  pub log : sizes.log_pages < 2 ^ 32
  pub frames : sizes.frames < 2 ^ 32

each_of : {X : Type 0} (p : X → Bool) (xs : List X) → list_all p xs ≡ true → AllByRecursion (λ x. p x ≡ true) xs
each_of p [] all = tt
each_of p (x ∷ xs) all = let parts = and_parts (p x) (list_all p xs) all in (parts.0, each_of p xs parts.1)

each_with : {X : Type 0} (P Q R : X → Type 0) → ((x : X) → P x → Q x → R x) → (xs : List X) → AllByRecursion P xs → AllByRecursion Q xs → AllByRecursion R xs
each_with P Q R both [] ps qs = tt
each_with P Q R both (x ∷ xs) ps qs = (both x ps.0 qs.0, each_with P Q R both xs ps.1 qs.1)

each_so : {X : Type 0} (P R : X → Type 0) → ((x : X) → P x → R x) → (xs : List X) → AllByRecursion P xs → AllByRecursion R xs
each_so P R so [] ps = tt
each_so P R so (x ∷ xs) ps = (so x ps.0, each_so P R so xs ps.1)

most : (low high n : ℕ) → is_within low high n ≡ true → n ≤ high
most low high n within = let parts = and_parts _ _ within in leb-true n high parts.1

-- numbers fit

rows_small : (table : Table) → rows_fit table ≡ true → table.rows_per_page < 2 ^ 16
rows_small table fit = omega (arith, most 1 _ table.rows_per_page fit, div-le_self 8160 (row_size (map (λ c. c.kind) table.columns)))

parameter_small : (class : Class) → has_lawful_parameters class ≡ true → class_parameter class < 2 ^ 16
parameter_small classes.MinMax is = omega arith
parameter_small (classes.Multi limit) is = omega (arith, most 8 256 limit is)
parameter_small classes.Inclusion is = omega arith
parameter_small (classes.Bloom bits hashes) is =
    let parts = and_parts (is_within 64 16384 bits && eqb (bits % 8) 0) (is_within 1 16 hashes) is in
    let first = and_parts (is_within 64 16384 bits) (eqb (bits % 8) 0) parts.0 in
    omega (arith, most 64 16384 bits first.0)

part_small : (schema : Schema) (index : Index) (part : Part) → class_is_lawful (columns_of schema index) part ≡ true → PartFits part
part_small schema index part is =
    parameter_small part.class (and_parts (takes_kind part.class (kind_at (columns_of schema index) part.column)) (has_lawful_parameters part.class) is).1

parts_small : (schema : Schema) (index : Index) → list_all (class_is_lawful (columns_of schema index)) index.parts ≡ true → AllByRecursion PartFits index.parts
parts_small schema index all =
    each_so _ PartFits (part_small schema index) index.parts (each_of (class_is_lawful (columns_of schema index)) index.parts all)

tables_fit : (schema : Schema) (sizes : Sizes) → KeepsLimits schema sizes → AllByRecursion TableIsNamed schema.tables → AllByRecursion TableFits schema.tables
tables_fit schema sizes keeps named =
    each_with _ TableIsNamed TableFits (λ table fit name. record { name = name.0; rows = rows_small table fit; columns = name.1 }) schema.tables (each_of rows_fit schema.tables (keeps 4)) named

indexes_fit : (schema : Schema) (sizes : Sizes) → KeepsLimits schema sizes → AllByRecursion IndexIsNamed schema.indexes → AllByRecursion IndexFits schema.indexes
indexes_fit schema sizes keeps named =
    let pages = each_of (λ (i : Index). is_within 1 131072 i.pages_per_range) schema.indexes (keeps 5) in
    let classes = each_of (λ (i : Index). list_all (class_is_lawful (columns_of schema i)) i.parts) schema.indexes (keeps 6) in
    let both = each_with _ _ (λ (i : Index). (i.pages_per_range ≤ 131072) × AllByRecursion PartFits i.parts) (λ i p c. (most 1 131072 i.pages_per_range p, parts_small schema i c)) schema.indexes pages classes in
    each_with _ IndexIsNamed IndexFits (λ i p name. record { name = name; pages = omega (arith, p.0); parts = p.1 }) schema.indexes both named

pub schema_fits : (schema : Schema) (sizes : Sizes) → KeepsLimits schema sizes → HasNames schema → SchemaFits schema
schema_fits schema sizes keeps names = record { tables = tables_fit schema sizes keeps names.0; indexes = indexes_fit schema sizes keeps names.1 }

pub sizes_fit : (schema : Schema) (sizes : Sizes) → KeepsLimits schema sizes → SizesFit sizes
sizes_fit schema sizes keeps = record {
  heap = omega (arith, most 1 131072 sizes.heap_blocks (keeps 8));
  index = omega (arith, most 3 16384 sizes.index_blocks (keeps 9));
  status = omega (arith, most 1 64 sizes.status_blocks (keeps 10));
  log = omega (arith, most 16 4096 sizes.log_pages (keeps 11));
  frames = omega (arith, most 16 65536 sizes.frames (keeps 12));
}

-- there are few

pub limits_short : (schema : Schema) (sizes : Sizes) → KeepsLimits schema sizes → length schema.tables ≤ 8 → length schema.indexes ≤ 8 → IsShort schema
limits_short schema sizes keeps tables indexes =
    let columns = and_parts (list_all columns_are_lawful schema.tables) (list_all parts_are_lawful schema.indexes) (keeps 2) in
    record {
      few_tables = tables;
      few_indexes = indexes;
      tables = each_so _ IsShortTable (λ t is. most 1 8 (length t.columns) (and_parts _ _ is).0) schema.tables (each_of columns_are_lawful schema.tables columns.0);
      indexes = each_so _ IsShortIndex (λ i is. most 1 8 (length i.parts) (and_parts _ _ is).0) schema.indexes (each_of parts_are_lawful schema.indexes columns.1);
    }

-- and their bytes fit a page

turn_short : {X : Type 0} (bytes_of : X → List ℕ) (P : X → Type 0) (m : ℕ) → ((x : X) → P x → length (bytes_of x) ≤ m) → (xs : List X) → AllByRecursion P xs → length (flat_map bytes_of xs) ≤ length xs * m
turn_short bytes_of P m short [] ps = omega arith
turn_short bytes_of P m short (x ∷ xs) ps =
    omega (arith, short x ps.0, turn_short bytes_of P m short xs ps.1, length-append (bytes_of x) (flat_map bytes_of xs), suc-mul (length xs) m)

all_short : {X : Type 0} (bytes_of : X → List ℕ) (m : ℕ) → ((x : X) → length (bytes_of x) ≤ m) → (xs : List X) → length (flat_map bytes_of xs) ≤ length xs * m
all_short bytes_of m short [] = omega arith
all_short bytes_of m short (x ∷ xs) =
    omega (arith, short x, all_short bytes_of m short xs, length-append (bytes_of x) (flat_map bytes_of xs), suc-mul (length xs) m)

column_length : (column : Column) → length (column_bytes column) ≤ 17
unfolding column_bytes
column_length column = simp length-append (omega (arith, name_length column.name))

table_length : (table : Table) → IsShortTable table → length (table_bytes table) ≤ 155
unfolding table_bytes
table_length table short = simp length-append (omega (arith, name_length table.name, all_short column_bytes 17 column_length table.columns))

part_length : (part : Part) → length (part_bytes part) ≤ 5
unfolding part_bytes
part_length part = omega arith

index_length : (index : Index) → IsShortIndex index → length (index_bytes index) ≤ 63
unfolding index_bytes
index_length index short = simp length-append (omega (arith, name_length index.name, all_short part_bytes 5 part_length index.parts))

pub schema_length : (schema : Schema) → IsShort schema → length (schema_bytes schema) ≤ 1746
unfolding schema_bytes
schema_length schema short =
    simp length-append
    (omega (arith, short.few_tables, short.few_indexes, turn_short table_bytes IsShortTable 155 table_length schema.tables short.tables, turn_short index_bytes IsShortIndex 63 index_length schema.indexes short.indexes))
