use Rattle.value_text.proofs.Spaces.{text_has_no_space}
use Rattle.value_text.proofs.laws.text_has_no_space.Goals as goal

pub returns : goal.returns
returns c = text_has_no_space
