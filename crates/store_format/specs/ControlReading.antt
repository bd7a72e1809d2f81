-- Reading from the front of bytes: a field and the bytes behind it, or nothing.
use Rattle.std.proofs.Common.{zero}
use Rattle.std.specs.Prelude.{◌≡◌, ℕ, suc, ◌==◌, List, [], ◌∷◌, ◌++◌, length, take, drop, Option, Some, None, Result, Ok, Err, nat_lt, if◌then◌else◌}
use Rattle.block_model.specs.declared.limits.TheConstants.{MAX_NAME}
use Rattle.block_model.specs.declared.value.Kind.{Kind}
use Rattle.block_model.specs.declared.value.Kind.TheVariants as kinds
use Rattle.block_model.specs.declared.schema.Class.{Class}
use Rattle.block_model.specs.declared.schema.Class.TheVariants as classes
use Rattle.block_model.specs.declared.schema.Column.{Column}
use Rattle.block_model.specs.declared.schema.Table.{Table}
use Rattle.block_model.specs.declared.schema.Part.{Part}
use Rattle.block_model.specs.declared.schema.Index.{Index}
use Rattle.block_model.specs.declared.schema.Schema.{Schema}
use Rattle.block_model.specs.declared.schema.Sizes.{Sizes}
use Rattle.block_model.specs.Names.{is_name}
use Rattle.byte_fields.specs.Fields.{number_of}
use Rattle.store_layout.specs.DiskLayout.{DiskLayout}
use Rattle.store_format.specs.declared.control_fault.ControlFault.{ControlFault}
use Rattle.store_format.specs.declared.control_fault.ControlFault.TheVariants as faults

-- what a reading gave, if it gave something, handed to the next
infixl 10 ◌>>=◌
abbrev pub ◌>>=◌ : {A B : Type 0} → Option A → (A → Option B) → Option B
(Some x) >>= f = f x
None >>= f = None

-- what a function returned, and the bytes that it left, are what the reading gives; want of memory says nothing of it
abbrev pub Gives : {X : Type 0} → Result X ControlFault → List ℕ → Option (X × List ℕ) → Type 0
Gives (Ok x) rest read = read ≡ Some (x, rest)
Gives (Err faults.NoStore) rest read = read ≡ None
Gives (Err faults.Memory) rest read = Unit {0}

-- the first byte
abbrev pub byte_at : List ℕ → Option (ℕ × List ℕ)
byte_at [] = None
byte_at (b ∷ bytes) = Some (b, bytes)

-- nothing but the bytes behind the first n
unfoldable pub skipped : ℕ → List ℕ → Option (Unit {0} × List ℕ)
skipped n bytes = if nat_lt (length bytes) n then None else Some (tt, drop n bytes)

-- the number that n bytes spell
unfoldable pub number_at : ℕ → List ℕ → Option (ℕ × List ℕ)
number_at n bytes = if nat_lt (length bytes) n then None else Some (number_of (take n bytes), drop n bytes)

-- what stands in front of the first zero
abbrev pub until_zero : List ℕ → List ℕ
until_zero [] = []
until_zero (b ∷ bytes) = if b == 0 then [] else b ∷ until_zero bytes

-- the name that stands in 16 bytes in front of their first zero
unfoldable pub name_at : List ℕ → Option (List ℕ × List ℕ)
name_at bytes =
    if nat_lt (length bytes) MAX_NAME then None
    else (if is_name (until_zero (take MAX_NAME bytes)) then Some (until_zero (take MAX_NAME bytes), drop MAX_NAME bytes) else None)

-- so many of what read reads, one behind the other, behind those that are read already
abbrev pub list_from : {X : Type 0} → (List ℕ → Option (X × List ℕ)) → List X → ℕ → List ℕ → Option (List X × List ℕ)
list_from read done zero bytes = Some (done, bytes)
list_from read done (suc n) bytes = read bytes >>= λ x. list_from read (done ++ x.0 ∷ []) n x.1

abbrev pub kind_of : ℕ → Option Kind
kind_of code =
    if code == 1 then Some kinds.Int else (if code == 2 then Some kinds.Span else (if code == 3 then Some kinds.Net else None))

-- the class of a code, a parameter and hashes, of which it may need none
abbrev pub class_of : ℕ → ℕ → ℕ → Option Class
class_of code parameter hashes =
    if code == 1 then Some classes.MinMax
    else (if code == 2 then Some (classes.Multi parameter)
    else (if code == 3 then Some classes.Inclusion
    else (if code == 4 then Some (classes.Bloom parameter hashes)
    else None)))

unfoldable pub column_at : List ℕ → Option (Column × List ℕ)
column_at bytes =
    name_at bytes >>= λ name. byte_at name.1 >>= λ code. kind_of code.0 >>= λ kind. Some (record { name = name.0; kind = kind }, code.1)

unfoldable pub table_at : List ℕ → Option (Table × List ℕ)
table_at bytes =
    name_at bytes >>= λ name. number_at 2 name.1 >>= λ rows. byte_at rows.1 >>= λ count. list_from column_at [] count.0 count.1 >>= λ columns.
    Some (record { name = name.0; rows_per_page = rows.0; columns = columns.0 }, columns.1)

unfoldable pub part_at : List ℕ → Option (Part × List ℕ)
part_at bytes =
    byte_at bytes >>= λ column. byte_at column.1 >>= λ code. number_at 2 code.1 >>= λ parameter. byte_at parameter.1 >>= λ hashes.
    class_of code.0 parameter.0 hashes.0 >>= λ class. Some (record { column = column.0; class = class }, hashes.1)

unfoldable pub index_at : List ℕ → Option (Index × List ℕ)
index_at bytes =
    name_at bytes >>= λ name. byte_at name.1 >>= λ table. number_at 4 table.1 >>= λ pages. byte_at pages.1 >>= λ auto. byte_at auto.1 >>= λ count.
    list_from part_at [] count.0 count.1 >>= λ parts.
    Some (record { name = name.0; table = table.0; pages_per_range = pages.0; auto = auto.0 == 1; parts = parts.0 }, parts.1)

unfoldable pub schema_at : List ℕ → Option (Schema × List ℕ)
schema_at bytes =
    byte_at bytes >>= λ tables. byte_at tables.1 >>= λ indexes. list_from table_at [] tables.0 indexes.1 >>= λ tables_read.
    list_from index_at [] indexes.0 tables_read.1 >>= λ indexes_read.
    Some (record { tables = tables_read.0; indexes = indexes_read.0 }, indexes_read.1)

unfoldable pub sizes_at : List ℕ → Option (Sizes × List ℕ)
sizes_at bytes =
    number_at 4 bytes >>= λ heap. number_at 4 heap.1 >>= λ index. number_at 4 index.1 >>= λ status. number_at 4 status.1 >>= λ log.
    number_at 4 log.1 >>= λ frames.
    Some (record { heap_blocks = heap.0; index_blocks = index.0; status_blocks = status.0; log_pages = log.0; frames = frames.0 }, frames.1)

-- the sizes, and the tables and indexes
unfoldable pub fields_at : List ℕ → Option ((Sizes × Schema) × List ℕ)
fields_at bytes =
    skipped 12 bytes >>= λ head. sizes_at head.1 >>= λ sizes. schema_at sizes.1 >>= λ schema. Some ((sizes.0, schema.0), schema.1)

-- a layout that has the page is the one that is answered, if memory suffices
abbrev pub Answers : DiskLayout → Result DiskLayout ControlFault → Type 0
Answers layout (Ok answer) = layout ≡ answer
Answers layout (Err faults.NoStore) = ⊥
Answers layout (Err faults.Memory) = Unit {0}
