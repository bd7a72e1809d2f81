use Rattle.std.proofs.Common.{◌≡◌, length}
use Rattle.query_words.specs.LineParts.{words_left}
use Rattle.query_words.specs.Syntax.{stop_from}
use Rattle.query_words.proofs.syntax.stop_from.Given as goal

abbrev pub invariant-words : goal.invariant-words
invariant-words l = stop_from l.language l.line_len l.expected (words_left l.rest) ≡ stop_from l.language l.line_len l.initial.expected (words_left l.initial.rest)

abbrev pub decreases-words : goal.decreases-words
decreases-words l = length l.rest.bytes.now
