use Rattle.value_text.proofs.Canonical.{canonical_denotes}
use Rattle.value_text.proofs.laws.canonical_text_denotes.Goals as goal

pub returns : goal.returns
returns c = canonical_denotes
