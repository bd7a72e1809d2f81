use Rattle.value_text.proofs.ValueOfLemmas.{value_of_denoted, denoted_value_of}
use Rattle.value_text.proofs.laws.value_of_is_denoted.Goals as goal

pub returns : goal.returns
returns c kind bytes value = (value_of_denoted kind bytes value, denoted_value_of kind bytes value)
