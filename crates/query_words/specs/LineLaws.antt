-- what read and printed lines are to the grammar
use Rattle.std.specs.Prelude.{◌≡◌, ℕ, ◌+◌, ◌<◌, ◌≤◌, List, ◌++◌, ◌^◌, length, take, All, Some, IfSome, Ok, Err}
use Rattle.block_model.specs.declared.schema.Schema.{Schema}
use Rattle.block_model.specs.declared.schema.Table.{Table}
use Rattle.store_layout.specs.declared.statement.Statement.{Statement}
use Rattle.store_layout.specs.declared.statement.Statement.TheVariants as statements
use Rattle.query_words.specs.declared.verb.Verb.{Verb}
use Rattle.query_words.specs.Words.{PlacedWord, words_of, texts_of, place_of}
use Rattle.query_words.specs.declared.line_length.TheConstants.{MAX_LINE}
use Rattle.query_words.specs.declared.line.Line.{Line}
use Rattle.query_words.specs.declared.line.Line.TheVariants as lines
use Rattle.query_words.specs.declared.line.Order.TheVariants as orders
use Rattle.query_words.specs.declared.line.LineFault.TheVariants as faults
use Rattle.block_model.specs.declared.limits.TheConstants.{MAX_CONDITIONS}
use Rattle.query_words.specs.Grammar.{SaidStatement, SaidLine, IsNameWord, IsSaidStatement, IsSaid, words_of_said, said_texts}
use Rattle.query_words.specs.Parsed.{said_of}
use Rattle.query_words.specs.Lines.{line_in, line_said}
use Rattle.query_words.specs.LineTexts.{line_text}

-- the words of the line are those of something that is said in the language
abbrev pub Spells : List Verb → List ℕ → SaidLine (List ℕ) → Type 0
Spells language line said = IsSaid language said × (texts_of (words_of line) ≡ words_of_said said)

-- some line of the language begins with the words
abbrev pub BeginsLine : List Verb → List (List ℕ) → Type 0
BeginsLine language front = (said : SaidLine (List ℕ)) × ((more : List (List ℕ)) × IsSaid language said × (words_of_said said ≡ front ++ more))

-- The line is none of the language. It stops at the word of that number: the words before it begin a line, and with it they
-- don't. Where all of its words begin one, it stops at its end.
pub record LineStopsAt (language : List Verb) (line : List ℕ) (at : ℕ) : Type 0 where
  pub refused : (said : SaidLine (List ℕ)) → Spells language line said → ⊥
  pub number : ℕ
  pub place : at ≡ place_of line number
  pub within : number ≤ length (words_of line)
  pub goes_on : BeginsLine language (take number (texts_of (words_of line)))
  pub stops : number < length (words_of line) → BeginsLine language (take (number + 1) (texts_of (words_of line))) → ⊥

-- a line of the language is read as what its words say, and its faults are at those words
abbrev pub GrammarIsRead : Type 0
GrammarIsRead = (language : List Verb) (schema : Schema) (line : List ℕ) (said : SaidLine (List ℕ)) → length line ≤ MAX_LINE → Spells language line said
    → (words : SaidLine PlacedWord) × (said_of language (words_of line) ≡ Some words) × (said_texts words ≡ said) × (line_in language schema line ≡ line_said schema (length line) words)

-- a line that is read is one of the language
abbrev pub ReadIsGrammar : Type 0
ReadIsGrammar = (language : List Verb) (schema : Schema) (line : List ℕ) (read : Line) → line_in language schema line ≡ Ok read → (said : SaidLine (List ℕ)) × Spells language line said

-- the language has some statement
abbrev pub HasStatements : List Verb → Type 0
HasStatements language = (said : SaidStatement (List ℕ)) × IsSaidStatement language said

-- a line with a fault of syntax is none of the language, and stops there
abbrev pub FaultIsStop : Type 0
FaultIsStop = (language : List Verb) (schema : Schema) (line : List ℕ) (at : ℕ) → HasStatements language → length line ≤ MAX_LINE → line_in language schema line ≡ Err (faults.Syntax at)
    → LineStopsAt language line at

-- how many conditions its query has
abbrev pub count_of_conds : Statement → ℕ
count_of_conds (statements.Select query) = length query.conds
count_of_conds (statements.Delete query) = length query.conds
count_of_conds (statements.Explain query) = length query.conds
count_of_conds statement = 0

-- what its type says of a statement beside its case: numbers and lists are within their limits
abbrev pub IsOfItsType : Statement → Type 0
IsOfItsType (statements.Summarize index block) = IfSome block (λ n. n < 2 ^ 32)
IsOfItsType (statements.Desummarize index block) = block < 2 ^ 32
IsOfItsType statement = count_of_conds statement ≤ MAX_CONDITIONS

-- what the type of an order says of its statement
abbrev pub HasItsType : Line → Type 0
HasItsType (lines.Say session (orders.Whole statement)) = IsOfItsType statement
HasItsType (lines.Say session (orders.Start statement)) = IsOfItsType statement
HasItsType line = Unit {0}

-- the session's name is one
abbrev pub IsNamedLine : Line → Type 0
IsNamedLine lines.Nothing = Unit {0}
IsNamedLine (lines.Say session order) = IsNameWord session

-- a table whose name and columns' names are of the grammar
pub record IsNamedTable (table : Table) : Type 0 where
  pub name : IsNameWord table.name
  pub columns : All (λ c. IsNameWord c.name) table.columns

-- all of them are, and the names of the indexes
pub record HasNames (schema : Schema) : Type 0 where
  pub tables : All IsNamedTable schema.tables
  pub indexes : All (λ i. IsNameWord i.name) schema.indexes

-- what is printed of a line reads as the same line, and fits the limit of lines
pub record ReadsBack (language : List Verb) (schema : Schema) (line : Line) : Type 0 where
  pub short : length (line_text schema line) ≤ MAX_LINE
  pub same : line_in language schema (line_text schema line) ≡ Ok line
