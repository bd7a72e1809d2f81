-- What a line makes at most, by its second word, and by its third one where that is `start`.
use Rattle.std.specs.Prelude.{◌≡◌, ◌≢◌, ℕ, ◌≤◌, codes, List, slice_get, Option, Some, Ok}
use Rattle.block_model.specs.declared.schema.Schema.{Schema}
use Rattle.query_words.specs.declared.line.Line.TheVariants as lines
use Rattle.query_words.specs.declared.line.Order.{Order}
use Rattle.query_words.specs.declared.line.Order.TheVariants as orders
use Rattle.query_words.specs.declared.verb.Verb.{Verb}
use Rattle.query_words.specs.declared.verb.Verb.TheVariants as verbs
use Rattle.query_words.specs.Lines.{line_of}
use Rattle.query_words.specs.Verbs.{statement_verb, verb_text}
use Rattle.query_words.specs.Words.{texts_of, words_of}
use Rattle.store_layout.specs.declared.statement.Statement.{Statement}
use Rattle.script_laws.specs.RequestBounds.{IsNoDelete, most_of_line}

abbrev pub order_verb : Order → Verb
order_verb (orders.Whole statement) = statement_verb statement
order_verb (orders.Start statement) = verbs.Start
order_verb orders.Step = verbs.Step
order_verb orders.Finish = verbs.Finish

-- the word of that number, counted from 0
abbrev pub word_at : List ℕ → ℕ → Option (List ℕ)
word_at line n = slice_get (texts_of (words_of line)) n

-- a line that is read has its order's verb there
pub record LinesAreReadByVerbs : Type 0 where
  pub verb : (schema : Schema) (line name : List ℕ) (order : Order) → line_of schema line ≡ Ok (lines.Say name order) → word_at line 1 ≡ Some (verb_text (order_verb order))
  pub started : (schema : Schema) (line name : List ℕ) (statement : Statement) → line_of schema line ≡ Ok (lines.Say name (orders.Start statement))
      → word_at line 2 ≡ Some (verb_text (statement_verb statement))

-- neither of the two words is `delete`
pub record HasNoDelete (line : List ℕ) : Type 0 where
  pub second : word_at line 1 ≢ Some (codes "delete")
  pub third : word_at line 2 ≢ Some (codes "delete")

-- So one without that word there makes no delete, and two requests at most; and a step or a finish makes none of its own.
pub record WordsBoundRequests : Type 0 where
  pub no_delete : (schema : Schema) (line : List ℕ) → HasNoDelete line → IsNoDelete schema line
  pub few : (schema : Schema) (rows : ℕ) (line : List ℕ) → HasNoDelete line → most_of_line rows (line_of schema line) ≤ 2
  pub step : (schema : Schema) (rows : ℕ) (line : List ℕ) → word_at line 1 ≡ Some (codes "step") → most_of_line rows (line_of schema line) ≡ 0
  pub finish : (schema : Schema) (rows : ℕ) (line : List ℕ) → word_at line 1 ≡ Some (codes "finish") → most_of_line rows (line_of schema line) ≡ 0
