-- What plain lines are to the lines of the engine's language.
use Rattle.std.specs.Prelude.{◌≡◌, ℕ, ◌≤◌, true, Bool, List, [], ◌∷◌, length, Ok, Err}
use Rattle.std.specs.Option.{is_some}
use Rattle.block_model.specs.declared.schema.Schema.{Schema}
use Rattle.query_words.specs.declared.verb.Verb.TheVariants as verbs
use Rattle.query_words.specs.declared.line.Line.{Line}
use Rattle.query_words.specs.declared.line.Line.TheVariants as lines
use Rattle.query_words.specs.declared.line.LineFault.TheVariants as faults
use Rattle.query_words.specs.declared.line.Order.TheVariants as orders
use Rattle.query_words.specs.declared.line_length.TheConstants.{MAX_LINE}
use Rattle.query_words.specs.Grammar.{IsNameWord}
use Rattle.query_words.specs.Lines.{line_in, line_of}
use Rattle.query_words.specs.Statements.{made_of}
use Rattle.query_words.specs.Verbs.{verb_of}
use Rattle.query_words.specs.Words.{PlacedWord, words_of}
use Rattle.plain_script.specs.PlainLines.{plain_verbs, plain_line_of}
use Rattle.plain_script.specs.declared.plain_line.PlainLine.{PlainLine}
use Rattle.plain_script.specs.declared.plain_line.PlainLine.TheVariants as plain

-- the line of the engine's language that says the same
abbrev pub line_of_plain : PlainLine → Line
line_of_plain plain.Nothing = lines.Nothing
line_of_plain (plain.Say session statement) = lines.Say session (orders.Whole statement)

-- the word is `start`, `step` or `finish`
abbrev pub is_step_word : List ℕ → Bool
is_step_word word = is_some (verb_of (verbs.Start ∷ verbs.Step ∷ verbs.Finish ∷ []) word)

-- a line of legal length whose first word is a session's name, and whose second is one of these three
pub record BeginsWithStep (line : List ℕ) (session verb : PlacedWord) : Type 0 where
  pub short : length line ≤ MAX_LINE
  pub rest : List PlacedWord
  pub words : words_of line ≡ session ∷ verb ∷ rest
  pub named : IsNameWord session.text
  pub steps : is_step_word verb.text ≡ true

-- such a line isn't read, and stops at that word
abbrev pub StepsAreNoWords : Type 0
StepsAreNoWords = (schema : Schema) (line : List ℕ) (session verb : PlacedWord) → BeginsWithStep line session verb → plain_line_of schema line ≡ Err (faults.Syntax verb.at)

-- any other says what it says to the engine, or has the same fault
abbrev pub OthersAreTheSame : Type 0
OthersAreTheSame = (schema : Schema) (line : List ℕ) → ((session verb : PlacedWord) → BeginsWithStep line session verb → ⊥)
    → made_of line_of_plain (plain_line_of schema line) ≡ line_of schema line

-- a whole statement is read as the same, and so is a line that says nothing
abbrev pub PlainLinesAreLines : Type 0
PlainLinesAreLines = (schema : Schema) (line : List ℕ) (said : PlainLine) → line_of schema line ≡ Ok (line_of_plain said) → plain_line_of schema line ≡ Ok said

-- nothing that is read in the language is lost: it is such a line
abbrev pub AllOrdersAreWhole : Type 0
AllOrdersAreWhole = (schema : Schema) (line : List ℕ) → made_of line_of_plain (plain_line_of schema line) ≡ line_in plain_verbs schema line
