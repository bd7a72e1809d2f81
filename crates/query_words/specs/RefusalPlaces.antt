-- which words of a statement are out of place where tables are declared, and where a statement is refused for them
use Rattle.std.specs.Prelude.{◌≡◌, ◌⊎◌, ℕ, ◌+◌, ◌≤◌, false, List, [], ◌∷◌, ◌++◌, length, map, Option, None, Some, Result, Ok, Err}
use Rattle.std.specs.List.{AllByRecursion, flat_map}
use Rattle.block_model.specs.declared.value.Kind.{Kind}
use Rattle.block_model.specs.declared.value.Value.{Value}
use Rattle.block_model.specs.declared.value.Op.{Op}
use Rattle.block_model.specs.declared.schema.Schema.{Schema}
use Rattle.block_model.specs.declared.schema.Table.{Table}
use Rattle.block_model.specs.declared.schema.Column.{Column}
use Rattle.block_model.specs.declared.schema.Index.{Index}
use Rattle.value_text.specs.ValueTexts.{Denotes}
use Rattle.store_layout.specs.OperatorKinds.{takes_operator}
use Rattle.store_layout.specs.declared.statement.Statement.{Statement}
use Rattle.query_words.specs.Words.{PlacedWord, words_of}
use Rattle.query_words.specs.Operators.{op_of}
use Rattle.query_words.specs.declared.verb.Verb.{Verb}
use Rattle.query_words.specs.declared.line.LineFault.{LineFault}
use Rattle.query_words.specs.declared.line.LineFault.TheVariants as faults
use Rattle.query_words.specs.Parsed.{conds_from, said_of}
use Rattle.query_words.specs.Grammar.{SaidCond, Compared, Null, NotNull, SaidStatement, Insert, Select, Delete, Explain, Summarize, Desummarize, Vacuum, SaidOrder, Whole, Start, Say}
use Rattle.query_words.specs.Statements.{statement_said}

-- the first of some things that has the name
abbrev pub IsFirstNamed : {A : Type 0} → (A → List ℕ) → List ℕ → List A → A → Type 0
IsFirstNamed name_of name [] one = ⊥
IsFirstNamed name_of name (x ∷ xs) one = ((name_of x ≡ name) × (x ≡ one)) ⊎ (¬ (name_of x ≡ name) × IsFirstNamed name_of name xs one)

-- no declared table has the name of the word
abbrev pub LacksTable : Schema → PlacedWord → Type 0
LacksTable schema word = AllByRecursion (λ t. ¬ (t.name ≡ word.text)) schema.tables

-- none of the table's columns has the name of the word
abbrev pub LacksColumn : List Column → PlacedWord → Type 0
LacksColumn columns word = AllByRecursion (λ c. ¬ (c.name ≡ word.text)) columns

-- one of them has, and is of the kind
abbrev pub HasColumn : List Column → PlacedWord → Kind → Type 0
HasColumn columns word kind = (column : Column) × IsFirstNamed (λ c. c.name) word.text columns column × (column.kind ≡ kind)

-- the operator that the word is isn't of the kind
abbrev pub IsForeignOperator : Kind → PlacedWord → Type 0
IsForeignOperator kind word = (op : Op) → op_of word.text ≡ Some op → takes_operator kind op ≡ false

-- the word is no value of the kind
abbrev pub IsForeignValue : Kind → PlacedWord → Type 0
IsForeignValue kind word = (value : Value) → ¬ (Denotes kind word.text (Ok value))

-- a word of the condition is out of place, which stands there: a column that the table lacks, or an operator or a value that isn't
-- of the column's kind
abbrev pub IsCondOut : List Column → SaidCond PlacedWord → ℕ → Type 0
IsCondOut columns (Compared column op value) at =
    ((column.at ≡ at) × LacksColumn columns column)
    ⊎ ((op.at ≡ at) × ((kind : Kind) × HasColumn columns column kind × IsForeignOperator kind op)
    ⊎ (value.at ≡ at) × ((kind : Kind) × HasColumn columns column kind × IsForeignValue kind value))
IsCondOut columns (Null column) at = (column.at ≡ at) × LacksColumn columns column
IsCondOut columns (NotNull column) at = (column.at ≡ at) × LacksColumn columns column

-- a word of one of the conditions is
abbrev pub AreCondsOut : List Column → List (SaidCond PlacedWord) → ℕ → Type 0
AreCondsOut columns [] at = ⊥
AreCondsOut columns (cond ∷ conds) at = IsCondOut columns cond at ⊎ AreCondsOut columns conds at

-- a value is out of place, which stands there: one that isn't of its column's kind, or one too many; a missing value is so at the
-- line's length
abbrev pub AreValuesOut : ℕ → List Column → List PlacedWord → ℕ → Type 0
AreValuesOut end [] [] at = ⊥
AreValuesOut end [] (word ∷ words) at = (word.at ≡ at) ⊎ AreValuesOut end [] words at
AreValuesOut end (column ∷ columns) [] at = end ≡ at
AreValuesOut end (column ∷ columns) (word ∷ words) at = ((word.at ≡ at) × IsForeignValue column.kind word) ⊎ AreValuesOut end columns words at

-- the word for a statement's table
abbrev pub table_word : SaidStatement PlacedWord → Option PlacedWord
table_word (Insert table values) = Some table
table_word (Select table conds) = Some table
table_word (Delete table conds) = Some table
table_word (Explain table conds) = Some table
table_word (Vacuum table) = Some table
table_word statement = None

-- the word for a statement's index
abbrev pub index_word : SaidStatement PlacedWord → Option PlacedWord
index_word (Summarize index block) = Some index
index_word (Desummarize index block) = Some index
index_word statement = None

-- no declared index has the name of the word
abbrev pub LacksIndex : Schema → PlacedWord → Type 0
LacksIndex schema word = AllByRecursion (λ i. ¬ (i.name ≡ word.text)) schema.indexes

-- a word behind the table's, of a line of that length, is out of place, which stands there
abbrev pub IsOut : List Column → ℕ → SaidStatement PlacedWord → ℕ → Type 0
IsOut columns end (Insert table values) at = AreValuesOut end columns values at
IsOut columns end (Select table conds) at = AreCondsOut columns conds at
IsOut columns end (Delete table conds) at = AreCondsOut columns conds at
IsOut columns end (Explain table conds) at = AreCondsOut columns conds at
IsOut columns end statement at = ⊥

-- where the words of a condition stand that name something
abbrev pub places_of : SaidCond PlacedWord → List ℕ
places_of (Compared column op value) = column.at ∷ op.at ∷ value.at ∷ []
places_of (Null column) = column.at ∷ []
places_of (NotNull column) = column.at ∷ []

-- where such words of a statement stand behind its table, and its line's length
abbrev pub places_behind : ℕ → SaidStatement PlacedWord → List ℕ
places_behind end (Insert table values) = map (λ v. v.at) values ++ end ∷ []
places_behind end (Select table conds) = flat_map places_of conds
places_behind end (Delete table conds) = flat_map places_of conds
places_behind end (Explain table conds) = flat_map places_of conds
places_behind end statement = []

-- each number is above the one before it, and the first at least the bound
abbrev pub Ascends : ℕ → List ℕ → Type 0
Ascends bound [] = Unit {0}
Ascends bound (n ∷ ns) = (bound ≤ n) × Ascends (n + 1) ns

-- the least place of those
abbrev pub IsLeast : (ℕ → Type 0) → ℕ → Type 0
IsLeast Out at = Out at × ((other : ℕ) → Out other → at ≤ other)

-- nothing is out of place in what is read, and what is refused is refused at the least place, with 3
abbrev pub IsAnswered : {T : Type 0} → (ℕ → Type 0) → Result T LineFault → Type 0
IsAnswered Out (Ok read) = (at : ℕ) → ¬ (Out at)
IsAnswered Out (Err (faults.NoColumn at)) = IsLeast Out at
IsAnswered Out (Err (faults.Kind at)) = IsLeast Out at
IsAnswered Out (Err fault) = ⊥

-- Where no table has the name, a statement is refused with 2 at the table's word, and where no index has it with 9 at the index's; with an
-- index that is declared it is read. Else it is read where no word is out of place, and
-- refused with 3 at the first that is, if its words stand one behind another, as those of a line do.
pub record PlacesOfRefusals : Type 0 where
  pub no_table : (schema : Schema) (end : ℕ) (statement : SaidStatement PlacedWord) (table : PlacedWord) → table_word statement ≡ Some table → LacksTable schema table
      → statement_said schema end statement ≡ Err (faults.NoTable table.at)
  pub out_of_place : (schema : Schema) (end : ℕ) (statement : SaidStatement PlacedWord) (table : PlacedWord) (declared : Table) → table_word statement ≡ Some table
      → IsFirstNamed (λ t. t.name) table.text schema.tables declared → Ascends 0 (places_behind end statement) → IsAnswered (IsOut declared.columns end statement) (statement_said schema end statement)
  pub no_index : (schema : Schema) (end : ℕ) (statement : SaidStatement PlacedWord) (index : PlacedWord) → index_word statement ≡ Some index → LacksIndex schema index
      → statement_said schema end statement ≡ Err (faults.NoIndex index.at)
  pub index : (schema : Schema) (end : ℕ) (statement : SaidStatement PlacedWord) (index : PlacedWord) (declared : Index) → index_word statement ≡ Some index
      → IsFirstNamed (λ i. i.name) index.text schema.indexes declared → (read : Statement) × (statement_said schema end statement ≡ Ok read)

-- the words of a line stand one behind another, before its end
abbrev pub WordsAscend : Type 0
WordsAscend = (line : List ℕ) → Ascends 0 (map (λ w. w.at) (words_of line) ++ length line ∷ [])

-- and so do those of the conditions that are read from words that do
abbrev pub CondsAscend : Type 0
CondsAscend = (words : List PlacedWord) (bound : ℕ) → Ascends bound (map (λ w. w.at) words) → Ascends bound (flat_map places_of (conds_from [] words))

-- and so do those behind the table of the statement that a line says, as a whole or started: a line meets what the places of refusals need
abbrev pub StatementAscends : Type 0
StatementAscends =
    (language : List Verb) (line : List ℕ) (session : PlacedWord) (order : SaidOrder PlacedWord) (statement : SaidStatement PlacedWord)
    → said_of language (words_of line) ≡ Some (Say session order) → (order ≡ Whole statement) ⊎ (order ≡ Start statement) → Ascends 0 (places_behind (length line) statement)
