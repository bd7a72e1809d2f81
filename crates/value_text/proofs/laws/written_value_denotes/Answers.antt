use Rattle.value_text.proofs.Canonical.{canonical_denotes}
use Rattle.value_text.proofs.laws.written_value_denotes.Goals as goal

pub returns : goal.returns
returns c = canonical_denotes c.args.kind c.args.value.now (c.known.ensures c.args.kind c.requires)
