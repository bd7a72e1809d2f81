-- What the code's parts of a declaration are.
use Rattle.std.specs.Prelude.{◌≡◌, ℕ, Bool, false, List, [], ◌∷◌, ◌++◌, Option, None, Some, Result, Ok, Err}
use Rattle.std.specs.List.{list_any}
use Rattle.std.specs.Str.{bytes_eq}
use Rattle.std.specs.Borrow.{Bor}
use Rattle.block_model.specs.declared.schema.Column.{Column}
use Rattle.block_model.specs.declared.schema.Table.{Table}
use Rattle.command_line.specs.declared.table.TableWord.{TableWord}
use Rattle.command_line.specs.declared.class.ClassWord.{ClassWord}
use Rattle.command_line.specs.declared.class.ClassWord.TheVariants as code_class
use Rattle.command_line.specs.declared.part.PartWord.{PartWord}
use Rattle.command_line.specs.declared.index.IndexWord.{IndexWord}
use Rattle.command_line.specs.declared.column.ColumnWord.{ColumnWord}
use Rattle.command_line.specs.declared.column.ColumnsWord.{ColumnsWord}
use Rattle.command_line.specs.declared.declaration.Declaration.{Declaration}
use Rattle.command_line.specs.declared.declaration.Declaration.TheVariants as code
use Rattle.command_line.specs.DeclarationTexts.{TableText, ClassText, MinMax, Multi, Inclusion, Bloom, PartText, parts_bytes, IndexText, IsIndex, DeclarationText, OfTable, OfIndex, bytes_of, IsDeclaration}
use Rattle.command_line.specs.DeclarationReading.{parts_at}
use Rattle.command_line.specs.DeclaredSchema.{number_said, most_rows}

-- what a function returned is what reading gives, by that relation
abbrev pub GivesAs : {X Y : Type 0} → (X → Y → Type 0) → Result (X × Bor (List ℕ)) (Bor (List ℕ)) → Result (Y × List ℕ) (List ℕ) → Type 0
GivesAs {X} {Y} Is (Ok x) read = (y : Y) × (read ≡ Ok (y, x.1.now)) × Is x.0 y
GivesAs Is (Err rest) read = read ≡ Err rest.now

-- the digits of a setting
abbrev pub said : Option (Bor (List ℕ)) → Option (List ℕ)
said None = None
said (Some digits) = Some digits.now

-- those columns more are kept, or none is
abbrev pub KeepsMore : Option (List Column) → List Column → Option (List Column) → Type 0
KeepsMore before columns None = Unit {0}
KeepsMore None columns (Some after) = ⊥
KeepsMore (Some before) columns (Some after) = after ≡ before ++ columns

-- a column
abbrev pub column_of : ColumnWord → Column
column_of c = record { name = c.name.now; kind = c.kind }

-- a column has the name
abbrev pub has_column : List ℕ → List Column → Bool
has_column name columns = list_any (λ c. bytes_eq name c.name) columns

-- the columns are kept behind those, and it is known whether one has the name
pub record AreRead (kept : Option (List Column)) (wanted : List ℕ) (read : ColumnsWord) (columns : List Column) : Type 0 where
  pub keeps : KeepsMore kept columns read.kept
  pub found : read.found ≡ has_column wanted columns

-- the table's parts
pub record IsTableRead (kept : Option (List Column)) (wanted : List ℕ) (word : TableWord) (text : TableText) : Type 0 where
  pub name : word.name.now ≡ text.name
  pub columns : AreRead kept wanted word.columns text.columns
  pub rows : said word.rows ≡ text.rows

-- the table with those columns
abbrev pub table_with : TableWord → List Column → Table
table_with word columns = record { name = word.name.now; rows_per_page = number_said 16 (most_rows columns) (said word.rows); columns = columns }

-- a class
abbrev pub class_text : ClassWord → ClassText
class_text code_class.MinMax = MinMax
class_text (code_class.Multi limit) = Multi (said limit)
class_text code_class.Inclusion = Inclusion
class_text (code_class.Bloom bits hashes) = Bloom bits.now hashes.now

-- an indexed column
abbrev pub part_text : PartWord → PartText
part_text p = record { column = p.column.now; class = class_text p.class }

-- what was read, and nothing where nothing was
abbrev pub parts_read : Result (List PartText × List ℕ) (List ℕ) → List PartText
parts_read (Ok x) = x.0
parts_read (Err rest) = []

-- the indexed columns that the bytes are
abbrev pub parts_said : List ℕ → List PartText
parts_said bytes = parts_read (parts_at bytes)

-- the bytes are indexed columns
abbrev pub AreParts : List ℕ → Type 0
AreParts bytes = bytes ≡ parts_bytes (parts_said bytes)

-- the first of indexed columns, and the bytes of the others
abbrev pub IsFirstOf : List PartText → Option (PartWord × Bor (List ℕ)) → Type 0
IsFirstOf [] None = Unit {0}
IsFirstOf [] (Some x) = ⊥
IsFirstOf (p ∷ ps) None = ⊥
IsFirstOf (p ∷ ps) (Some x) = (part_text x.0 ≡ p) × (x.1.now ≡ parts_bytes ps)

-- the index's parts
abbrev pub index_text : IndexWord → IndexText
index_text i = record { name = i.name.now; table = i.table.now; parts = parts_said i.parts.now; pages = said i.pages; auto = i.auto }

-- the index's parts are of the grammar
pub record IsIndexWord (i : IndexWord) : Type 0 where
  pub of_grammar : IsIndex (index_text i)
  pub parts : AreParts i.parts.now

-- the parts of a table or of an index
abbrev pub IsRead : Option (List Column) → List ℕ → Declaration → DeclarationText → Type 0
IsRead kept wanted (code.Table word) (OfTable text) = IsTableRead kept wanted word text
IsRead kept wanted (code.Index word) (OfIndex text) = (index_text word ≡ text) × AreParts word.parts.now
IsRead kept wanted word text = ⊥

-- the bytes are a declaration, of which the word has the parts
pub record ReadsDeclaration (autos : Bool) (kept : Option (List Column)) (wanted bytes : List ℕ) (word : Declaration) : Type 0 where
  pub text : DeclarationText
  pub of_grammar : IsDeclaration autos text
  pub bytes_are : bytes ≡ bytes_of text
  pub parts : IsRead kept wanted word text

-- whether the declaration is a table of that name
abbrev pub declares_table : List ℕ → DeclarationText → Bool
declares_table name (OfTable t) = bytes_eq name t.name
declares_table name (OfIndex i) = false
