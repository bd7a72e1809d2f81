use Rattle.std.proofs.Common.{arith}
use Rattle.std.proofs.lemmas.Nat.{mul-le}
use Rattle.summarise_core.proofs.rows.first_block.Goals as goal

pub overflow_mul-result : goal.overflow_mul-result
overflow_mul-result c = omega (arith, mul-le c.from-number.result c.from-each.result 4294967295 131072 (omega (arith, c.from-number.ensures, c.ranges.range)) (omega (arith, c.from-each.ensures, c.requires)))

pub returns-clause-small : goal.returns-clause-small
returns-clause-small c = omega (arith, mul-le c.from-number.result c.from-each.result 4294967295 131072 (omega (arith, c.from-number.ensures, c.ranges.range)) (omega (arith, c.from-each.ensures, c.requires)))
