use Rattle.value_text.proofs.ValueReading.{one_text}
use Rattle.value_text.proofs.laws.bytes_are_one_text.Goals as goal

pub returns : goal.returns
returns c = one_text
