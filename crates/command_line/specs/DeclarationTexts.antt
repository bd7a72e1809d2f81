-- which bytes declare a table or an index
use Rattle.std.specs.Prelude.{◌≡◌, ℕ, Bool, true, false, List, [], ◌∷◌, ◌++◌, codes, Option, None, Some, IfSome}
use Rattle.std.specs.List.{AllByRecursion}
use Rattle.block_model.specs.Names.{is_name}
use Rattle.block_model.specs.declared.value.Kind.{Kind}
use Rattle.block_model.specs.declared.value.Kind.TheVariants as kinds
use Rattle.block_model.specs.declared.schema.Column.{Column}
use Rattle.value_text.specs.Digits.{AreDigits}

-- further items, each behind a comma
abbrev pub more_bytes : {A : Type 0} → (A → List ℕ) → List A → List ℕ
more_bytes written [] = []
more_bytes written (x ∷ xs) = codes "," ++ written x ++ more_bytes written xs

-- items with a comma between two
abbrev pub listed_bytes : {A : Type 0} → (A → List ℕ) → List A → List ℕ
listed_bytes written [] = []
listed_bytes written (x ∷ xs) = written x ++ more_bytes written xs

-- a kind as it is written
abbrev pub kind_word : Kind → List ℕ
kind_word kinds.Int = codes "int8"
kind_word kinds.Span = codes "int8range"
kind_word kinds.Net = codes "inet"

-- a column's name, a space and its kind
abbrev pub column_bytes : Column → List ℕ
column_bytes c = c.name ++ codes " " ++ kind_word c.kind

-- a setting with the digits of its number, or nothing
abbrev pub setting_bytes : List ℕ → Option (List ℕ) → List ℕ
setting_bytes setting None = []
setting_bytes setting (Some digits) = setting ++ digits

-- a table as it is written, with the digits of its rows per page where they are said
pub record TableText : Type 0 where
  pub name : List ℕ
  pub columns : List Column
  pub rows : Option (List ℕ)

-- the bytes that write it
abbrev pub table_bytes : TableText → List ℕ
table_bytes t = codes "table " ++ t.name ++ codes "(" ++ listed_bytes column_bytes t.columns ++ codes ")" ++ setting_bytes (codes " rows_per_page ") t.rows

-- an operator class as it is written, with the digits of its numbers
pub data ClassText : Type 0 where
  MinMax : ClassText
  Multi : Option (List ℕ) → ClassText
  Inclusion : ClassText
  Bloom : List ℕ → List ℕ → ClassText

-- the bytes that write it
abbrev pub class_bytes : ClassText → List ℕ
class_bytes MinMax = codes "minmax"
class_bytes (Multi limit) = codes "multi" ++ setting_bytes (codes " ") limit
class_bytes Inclusion = codes "inclusion"
class_bytes (Bloom bits hashes) = codes "bloom " ++ bits ++ codes " " ++ hashes

-- an indexed column as it is written, with its class
pub record PartText : Type 0 where
  pub column : List ℕ
  pub class : ClassText

-- the column's name, a space and the class
abbrev pub part_bytes : PartText → List ℕ
part_bytes p = p.column ++ codes " " ++ class_bytes p.class

-- indexed columns with a comma between two
abbrev pub parts_bytes : List PartText → List ℕ
parts_bytes parts = listed_bytes part_bytes parts

-- ` autosummarize`, or nothing
abbrev pub auto_bytes : Bool → List ℕ
auto_bytes true = codes " autosummarize"
auto_bytes false = []

-- an index as it is written, with the digits of its pages per range where they are said, and whether it is to be summarised as
-- it grows
pub record IndexText : Type 0 where
  pub name : List ℕ
  pub table : List ℕ
  pub parts : List PartText
  pub pages : Option (List ℕ)
  pub auto : Bool

-- the bytes before the name of its table
abbrev pub before_table : IndexText → List ℕ
before_table i = codes "index " ++ i.name ++ codes " on "

-- the bytes before its indexed columns
abbrev pub before_parts : IndexText → List ℕ
before_parts i = before_table i ++ i.table ++ codes "("

-- the bytes that write it
abbrev pub index_bytes : IndexText → List ℕ
index_bytes i = before_parts i ++ parts_bytes i.parts ++ codes ")" ++ setting_bytes (codes " pages_per_range ") i.pages ++ auto_bytes i.auto

-- a declaration as it is written
pub data DeclarationText : Type 0 where
  OfTable : TableText → DeclarationText
  OfIndex : IndexText → DeclarationText

-- the bytes that write it
abbrev pub bytes_of : DeclarationText → List ℕ
bytes_of (OfTable t) = table_bytes t
bytes_of (OfIndex i) = index_bytes i

-- a lower-case letter and up to 15 further letters, digits or `_`
abbrev pub IsNamed : List ℕ → Type 0
IsNamed name = is_name name ≡ true

-- one item or more, and each is one
abbrev pub AreListed : {A : Type 0} → (A → Type 0) → List A → Type 0
AreListed Is [] = ⊥
AreListed Is (x ∷ xs) = Is x × AllByRecursion Is xs

-- a column's name is one
abbrev pub IsColumn : Column → Type 0
IsColumn c = IsNamed c.name

-- what stands for a number is one
abbrev pub IsSetting : Option (List ℕ) → Type 0
IsSetting said = IfSome said AreDigits

-- what stands for a class's numbers are numbers
abbrev pub IsClass : ClassText → Type 0
IsClass MinMax = Unit {0}
IsClass (Multi limit) = IsSetting limit
IsClass Inclusion = Unit {0}
IsClass (Bloom bits hashes) = AreDigits bits × AreDigits hashes

-- the name and the class of an indexed column are of the grammar
pub record IsPart (p : PartText) : Type 0 where
  pub named : IsNamed p.column
  pub class : IsClass p.class

-- the parts of a table's text are of the grammar
pub record IsTable (t : TableText) : Type 0 where
  pub named : IsNamed t.name
  pub columns : AreListed IsColumn t.columns
  pub rows : IsSetting t.rows

-- the parts of an index's text are of the grammar
pub record IsIndex (i : IndexText) : Type 0 where
  pub named : IsNamed i.name
  pub table : IsNamed i.table
  pub parts : AreListed IsPart i.parts
  pub pages : IsSetting i.pages

-- ` autosummarize` stands only where it is answered
abbrev pub IsAnswered : Bool → Bool → Type 0
IsAnswered autos true = autos ≡ true
IsAnswered autos false = Unit {0}

-- the text is of the grammar, in which `autos` says whether ` autosummarize` is answered
abbrev pub IsDeclaration : Bool → DeclarationText → Type 0
IsDeclaration autos (OfTable t) = IsTable t
IsDeclaration autos (OfIndex i) = IsIndex i × IsAnswered autos i.auto
