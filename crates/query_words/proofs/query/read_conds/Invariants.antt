use Rattle.std.proofs.Common.{length}
use Rattle.query_words.specs.LineParts.{words_left}
use Rattle.query_words.proofs.OnePass.{Kept}
use Rattle.query_words.proofs.query.read_conds.Given as goal

abbrev pub invariant-conds : goal.invariant-conds
invariant-conds l = Kept l.columns l.count (words_left l.initial.rest) (words_left l.rest) l.conds l.has_memory

abbrev pub decreases-conds : goal.decreases-conds
decreases-conds l = length l.rest.bytes.now
