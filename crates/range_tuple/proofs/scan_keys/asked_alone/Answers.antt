use Rattle.std.proofs.Common.{sym}
use Rattle.range_tuple.proofs.AskingColumns.{asked_alone as alone}
use Rattle.range_tuple.proofs.scan_keys.asked_alone.Goals as goal

pub returns : goal.returns
returns c = alone c.args.place c.args.conds.now (sym c.if-not-are_comparisons_on.ensures)
