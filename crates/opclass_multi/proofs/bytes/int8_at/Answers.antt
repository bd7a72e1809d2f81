use Rattle.std.proofs.Common.{rules, ◌∙◌, FitsSigned}
use Rattle.std.specs.Int.{w64}
use Rattle.std.proofs.lemmas.Int.{to_z-of_z}
use Rattle.opclass_multi.specs.Reading.{number_at}
use Rattle.opclass_multi.proofs.bytes.int8_at.Goals as goal

pub returns : goal.returns
unfolding number_at
returns c = let fits : FitsSigned w64 c.get_i64.result = search rules in to_z-of_z w64 c.get_i64.result fits ∙ c.get_i64.ensures.got
