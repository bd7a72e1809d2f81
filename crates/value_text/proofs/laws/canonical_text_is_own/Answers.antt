use Rattle.value_text.proofs.Canonical.{canonical_is_own}
use Rattle.value_text.proofs.laws.canonical_text_is_own.Goals as goal

pub returns : goal.returns
returns c = canonical_is_own
