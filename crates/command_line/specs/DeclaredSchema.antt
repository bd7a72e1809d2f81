-- which schema a list of declarations denotes
use Rattle.std.specs.Prelude.{◌≡◌, ℕ, ◌+◌, ◌^◌, ◌-◌, ◌/◌, min, Bool, List, [], ◌∷◌, ◌++◌, length, codes, map, slice_get, Option, None, Some, Result, Ok, Err}
use Rattle.std.specs.List.{position_from}
use Rattle.std.specs.Str.{bytes_eq}
use Rattle.block_model.specs.IndexedColumns.{columns_in}
use Rattle.block_model.specs.RowSize.{row_size}
use Rattle.block_model.specs.declared.limits.TheConstants.{PAGE_ROOM}
use Rattle.block_model.specs.declared.schema.Class.{Class}
use Rattle.block_model.specs.declared.schema.Class.TheVariants as classes
use Rattle.block_model.specs.declared.schema.Column.{Column}
use Rattle.block_model.specs.declared.schema.Table.{Table}
use Rattle.block_model.specs.declared.schema.Part.{Part}
use Rattle.block_model.specs.declared.schema.Index.{Index}
use Rattle.block_model.specs.declared.schema.Schema.{Schema}
use Rattle.value_text.specs.Digits.{digits_from}
use Rattle.command_line.specs.declared.answered.TheConstants.{ANSWERS_AUTOSUMMARIZE}
use Rattle.command_line.specs.DeclarationTexts.{TableText, ClassText, MinMax, Multi, Inclusion, Bloom, PartText, part_bytes, IndexText, before_table, before_parts, DeclarationText, OfTable, OfIndex, bytes_of, IsDeclaration}

-- the number of the digits, or where it doesn't fit so many bits the greatest that does, which no limit allows: limits are
-- judged of the schema (FirstBrokenRule of store_layout), and not of the digits
abbrev pub number_within : ℕ → List ℕ → ℕ
number_within bits digits = min (digits_from 0 digits) (2 ^ bits - 1)

-- the number that is said, or the usual one
abbrev pub number_said : ℕ → ℕ → Option (List ℕ) → ℕ
number_said bits usual None = usual
number_said bits usual (Some digits) = number_within bits digits

-- how many rows fit a page behind its header
abbrev pub most_rows : List Column → ℕ
most_rows columns = PAGE_ROOM / row_size (map (λ c. c.kind) columns)

-- a table: without a number of rows per page, as many as fit
abbrev pub table_of : TableText → Table
table_of t = record { name = t.name; rows_per_page = number_said 16 (most_rows t.columns) t.rows; columns = t.columns }

-- an operator class: multi without a number keeps up to 32 values a range
abbrev pub class_of : ClassText → Class
class_of MinMax = classes.MinMax
class_of (Multi limit) = classes.Multi (number_said 16 32 limit)
class_of Inclusion = classes.Inclusion
class_of (Bloom bits hashes) = classes.Bloom (number_within 16 bits) (number_within 8 hashes)

-- the number of the first table of that name
abbrev pub table_named : List ℕ → List Table → Option ℕ
table_named name tables = position_from (λ t. bytes_eq name t.name) 0 tables

-- the number of the first column of that name
abbrev pub column_named : List ℕ → List Column → Option ℕ
column_named name columns = position_from (λ c. bytes_eq name c.name) 0 columns

-- the indexed column of that number
abbrev pub part_on : PartText → ℕ → Part
part_on p column = record { column = min column 255; class = class_of p.class }

-- one indexed column in front of others, where it has a number, or that place, where its name begins
abbrev pub with_part : PartText → ℕ → Option ℕ → Result (List Part) ℕ → Result (List Part) ℕ
with_part p at None others = Err at
with_part p at (Some column) (Ok others) = Ok (part_on p column ∷ others)
with_part p at (Some column) (Err later) = Err later

-- the indexed columns, of which the first begins at that place, among those columns, or where the first name begins that
-- isn't among them
abbrev pub parts_on : List Column → ℕ → List PartText → Result (List Part) ℕ
parts_on columns at [] = Ok []
parts_on columns at (p ∷ ps) = with_part p at (column_named p.column columns) (parts_on columns (at + length (part_bytes p ++ codes ",")) ps)

-- an index's indexed columns among those columns, or where the first name begins that isn't among them
abbrev pub parts_among : List Column → IndexText → Result (List Part) ℕ
parts_among columns i = parts_on columns (length (before_parts i)) i.parts

-- an index of the table of that number, without a number of pages per range of 128 each
abbrev pub index_on : IndexText → ℕ → List Part → Index
index_on i table parts = record {
  name = i.name;
  table = min table 255;
  pages_per_range = number_said 32 128 i.pages;
  auto = i.auto;
  parts = parts;
}

-- the index with those indexed columns, where they are declared
abbrev pub on_parts : IndexText → ℕ → Result (List Part) ℕ → Result Index ℕ
on_parts i table (Err at) = Err at
on_parts i table (Ok parts) = Ok (index_on i table parts)

-- the index on the table of that number, or where the name begins that isn't declared
abbrev pub on_table : IndexText → List Table → Option ℕ → Result Index ℕ
on_table i tables None = Err (length (before_table i))
on_table i tables (Some table) = on_parts i table (parts_among (columns_in (slice_get tables table)) i)

-- the index among those tables, or where the name begins that isn't declared
abbrev pub index_among : List Table → IndexText → Result Index ℕ
index_among tables i = on_table i tables (table_named i.table tables)

-- the schema with one table more
abbrev pub with_table : Schema → Table → Schema
with_table s table = record { tables = s.tables ++ table ∷ []; indexes = s.indexes }

-- the schema with one index more, where there is one
abbrev pub with_index : Schema → Result Index ℕ → Result Schema ℕ
with_index s (Ok index) = Ok (record { tables = s.tables; indexes = s.indexes ++ index ∷ [] })
with_index s (Err at) = Err at

-- the schema with one declaration more, or where the name begins that isn't declared
abbrev pub declared_behind : Schema → DeclarationText → Result Schema ℕ
declared_behind s (OfTable t) = Ok (with_table s (table_of t))
declared_behind s (OfIndex i) = with_index s (index_among s.tables i)

-- the bytes are that declaration, which makes this of the schema; `autos` says whether ` autosummarize` is answered
pub record Declares (autos : Bool) (bytes : List ℕ) (before : Schema) (made : Result Schema ℕ) : Type 0 where
  pub text : DeclarationText
  pub of_grammar : IsDeclaration autos text
  pub bytes_are : bytes ≡ bytes_of text
  pub makes : declared_behind before text ≡ made

-- the words are declarations which, one after another, make one schema of the other
abbrev pub DeclareBehind : Bool → Schema → List (List ℕ) → Schema → Type 0
DeclareBehind autos before [] after = before ≡ after
DeclareBehind autos before (word ∷ words) after = (between : Schema) × Declares autos word before (Ok between) × DeclareBehind autos between words after

-- the schema of nothing
abbrev pub nothing_declared : Schema
nothing_declared = record { tables = []; indexes = [] }

-- the words are a list of declarations, which denotes the schema, where ` autosummarize` is answered or where it isn't
abbrev pub DenotesWith : Bool → List (List ℕ) → Schema → Type 0
DenotesWith autos words schema = DeclareBehind autos nothing_declared words schema

-- the words are a list of declarations that the program answers, which denotes the schema
abbrev pub Denotes : List (List ℕ) → Schema → Type 0
Denotes words schema = DenotesWith ANSWERS_AUTOSUMMARIZE words schema
