use Rattle.value_text.proofs.OfKind.{denoted-is_of_kind}
use Rattle.value_text.proofs.laws.denoted_is_of_kind.Goals as goal

pub returns : goal.returns
returns c = denoted-is_of_kind
