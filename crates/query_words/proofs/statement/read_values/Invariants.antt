use Rattle.std.proofs.Common.{◌≡◌, [], length, drop}
use Rattle.query_words.specs.LineParts.{words_left}
use Rattle.query_words.specs.Statements.{values_said}
use Rattle.query_words.proofs.statement.read_values.Given as goal

abbrev pub invariant-columns : goal.invariant-columns
invariant-columns l =
    (length l.values ≡ l.column-index) × (values_said l.line_len l.values (drop l.column-index l.columns) (words_left l.rest) ≡ values_said l.line_len [] l.columns (words_left l.initial.rest))
