use Rattle.std.proofs.Common.{sym}
use Rattle.range_tuple.proofs.ByPlace.{nothing_included}
use Rattle.range_tuple.proofs.columns.keep.Goals as goal

pub returns-else-not-have_nothing_read-clause-misses_no_match :
    goal.returns-else-not-have_nothing_read-clause-misses_no_match
returns-else-not-have_nothing_read-clause-misses_no_match c = λ none row all.
    absurd (nothing_included c.args.spare.now row c.requires.some (sym c.if-not-have_nothing_read.ensures) all)
