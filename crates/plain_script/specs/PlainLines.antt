-- What a line of a script says where `start`, `step` and `finish` are no words.
use Rattle.std.specs.Prelude.{ℕ, List, [], ◌∷◌, Result}
use Rattle.block_model.specs.declared.schema.Schema.{Schema}
use Rattle.store_layout.specs.StatementFits.{IsStatementFor}
use Rattle.query_words.specs.declared.verb.Verb.{Verb}
use Rattle.query_words.specs.declared.verb.Verb.TheVariants as verbs
use Rattle.query_words.specs.declared.line.Line.{Line}
use Rattle.query_words.specs.declared.line.Line.TheVariants as lines
use Rattle.query_words.specs.declared.line.LineFault.{LineFault}
use Rattle.query_words.specs.declared.line.Order.TheVariants as orders
use Rattle.query_words.specs.Lines.{line_in}
use Rattle.query_words.specs.Statements.{made_of}
use Rattle.plain_script.specs.declared.plain_line.PlainLine.{PlainLine}
use Rattle.plain_script.specs.declared.plain_line.PlainLine.TheVariants as plain

-- the verbs of the language: all but these three
abbrev pub plain_verbs : List Verb
plain_verbs =
    verbs.Begin ∷ verbs.Commit ∷ verbs.Rollback ∷ verbs.Insert ∷ verbs.Select ∷ verbs.Delete ∷ verbs.Explain ∷ verbs.Summarize
    ∷ verbs.Desummarize ∷ verbs.Vacuum ∷ verbs.Work ∷ []

-- a session's statement as a whole; the language has no other order
abbrev pub plain_of : Line → PlainLine
plain_of (lines.Say session (orders.Whole statement)) = plain.Say session statement
plain_of line = plain.Nothing

-- what the line says in that language, or why it isn't one, with the place of the fault
abbrev pub plain_line_of : Schema → List ℕ → Result PlainLine LineFault
plain_line_of schema line = made_of plain_of (line_in plain_verbs schema line)

-- a line that says nothing, or a statement that fits
abbrev pub IsPlainLineFor : Schema → PlainLine → Type 0
IsPlainLineFor schema plain.Nothing = Unit {0}
IsPlainLineFor schema (plain.Say session statement) = IsStatementFor schema statement
