use Rattle.brin_insert.proofs.Numbers.{few}
use Rattle.session_parts.proofs.dropped_requests.few_indexes_are_declared.Goals as goal

pub returns : goal.returns
returns c = few c.args.layout.now c.known.ensures.limits
