-- the fields of a control page: which tables, indexes and sizes a store has
use Rattle.std.specs.Prelude.{ℕ, Bool, true, false, List, [], ◌∷◌, ◌++◌, length, take, replicate}
use Rattle.std.specs.Int.{bytes_high_first}
use Rattle.std.specs.List.{flat_map}
use Rattle.block_model.specs.declared.limits.TheConstants.{MAX_NAME}
use Rattle.block_model.specs.declared.value.Kind.{Kind}
use Rattle.block_model.specs.declared.value.Kind.TheVariants as kinds
use Rattle.block_model.specs.declared.schema.Class.{Class}
use Rattle.block_model.specs.declared.schema.Class.TheVariants as classes
use Rattle.block_model.specs.declared.schema.Column.{Column}
use Rattle.block_model.specs.declared.schema.Table.{Table}
use Rattle.block_model.specs.declared.schema.Part.{Part}
use Rattle.block_model.specs.declared.schema.Index.{Index}
use Rattle.block_model.specs.declared.schema.Schema.{Schema}
use Rattle.block_model.specs.declared.schema.Sizes.{Sizes}

-- a name in its 16 bytes, with zeros behind it
unfoldable pub name_bytes : List ℕ → List ℕ
name_bytes name = take MAX_NAME (name ++ replicate MAX_NAME 0)

-- int8, int8range, inet
abbrev pub kind_code : Kind → ℕ
kind_code kinds.Int = 1
kind_code kinds.Span = 2
kind_code kinds.Net = 3

-- minmax, multi, inclusion, bloom
abbrev pub class_code : Class → ℕ
class_code classes.MinMax = 1
class_code (classes.Multi limit) = 2
class_code classes.Inclusion = 3
class_code (classes.Bloom bits hashes) = 4

-- the limit of multi, the bits of bloom
abbrev pub class_parameter : Class → ℕ
class_parameter classes.MinMax = 0
class_parameter (classes.Multi limit) = limit
class_parameter classes.Inclusion = 0
class_parameter (classes.Bloom bits hashes) = bits

-- the hashes of bloom
abbrev pub class_hashes : Class → ℕ
class_hashes classes.MinMax = 0
class_hashes (classes.Multi limit) = 0
class_hashes classes.Inclusion = 0
class_hashes (classes.Bloom bits hashes) = hashes

-- 1 where it is set
abbrev pub flag_code : Bool → ℕ
flag_code true = 1
flag_code false = 0

-- the name, and the kind
unfoldable pub column_bytes : Column → List ℕ
column_bytes column = name_bytes column.name ++ kind_code column.kind ∷ []

-- the name, two bytes of rows per page, how many columns, and the columns
unfoldable pub table_bytes : Table → List ℕ
table_bytes table =
    name_bytes table.name ++ (bytes_high_first 2 table.rows_per_page ++ length table.columns ∷ flat_map column_bytes table.columns)

-- the column, the class, two bytes of its parameter, and its hashes
unfoldable pub part_bytes : Part → List ℕ
part_bytes part = part.column ∷ class_code part.class ∷ (bytes_high_first 2 (class_parameter part.class) ++ class_hashes part.class ∷ [])

-- the name, the table, four bytes of pages per range, whether it is autosummarize, how many columns, and the columns
unfoldable pub index_bytes : Index → List ℕ
index_bytes index =
    name_bytes index.name
    ++ (index.table ∷ (bytes_high_first 4 index.pages_per_range ++ flag_code index.auto ∷ length index.parts ∷ flat_map part_bytes index.parts))

-- how many tables, how many indexes, the tables, and the indexes
unfoldable pub schema_bytes : Schema → List ℕ
schema_bytes schema =
    length schema.tables ∷ length schema.indexes ∷ (flat_map table_bytes schema.tables ++ flat_map index_bytes schema.indexes)

-- the blocks of a table, of an index and of the statuses, the pages of the log, and the frames, four bytes each
unfoldable pub sizes_bytes : Sizes → List ℕ
sizes_bytes sizes =
    bytes_high_first 4 sizes.heap_blocks
    ++ (bytes_high_first 4 sizes.index_blocks
    ++ (bytes_high_first 4 sizes.status_blocks ++ (bytes_high_first 4 sizes.log_pages ++ bytes_high_first 4 sizes.frames)))
