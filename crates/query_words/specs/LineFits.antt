-- the lines that fit a schema, and those of a language
use Rattle.std.specs.Prelude.{Bool, true, ◌&&◌, List}
use Rattle.block_model.specs.declared.schema.Schema.{Schema}
use Rattle.store_layout.specs.StatementFits.{IsStatementFor}
use Rattle.query_words.specs.declared.verb.Verb.{Verb}
use Rattle.query_words.specs.declared.verb.Verb.TheVariants as verbs
use Rattle.query_words.specs.Verbs.{has_verb, statement_verb}
use Rattle.query_words.specs.declared.line.Line.{Line}
use Rattle.query_words.specs.declared.line.Line.TheVariants as lines
use Rattle.query_words.specs.declared.line.Order.{Order}
use Rattle.query_words.specs.declared.line.Order.TheVariants as orders

-- its verbs are the language's
abbrev pub is_order_in : List Verb → Order → Bool
is_order_in language (orders.Whole statement) = has_verb language (statement_verb statement)
is_order_in language (orders.Start statement) = has_verb language verbs.Start && has_verb language (statement_verb statement)
is_order_in language orders.Step = has_verb language verbs.Step
is_order_in language orders.Finish = has_verb language verbs.Finish

abbrev pub is_line_in : List Verb → Line → Bool
is_line_in language lines.Nothing = true
is_line_in language (lines.Say session order) = is_order_in language order

-- an order that fits: a step, all steps that are left, or a statement that fits, as a whole or started
abbrev pub IsOrderFor : Schema → Order → Type 0
IsOrderFor schema (orders.Whole statement) = IsStatementFor schema statement
IsOrderFor schema (orders.Start statement) = IsStatementFor schema statement
IsOrderFor schema orders.Step = Unit {0}
IsOrderFor schema orders.Finish = Unit {0}

-- a line that says nothing, or an order that fits
abbrev pub IsLineFor : Schema → Line → Type 0
IsLineFor schema lines.Nothing = Unit {0}
IsLineFor schema (lines.Say session order) = IsOrderFor schema order
