use Rattle.std.proofs.Common.{◌∙◌, arith}
use Rattle.value_text.proofs.DigitLemmas.{capped_next}
use Rattle.value_text.proofs.numerals.number_up_to.Goals as goal

pub digits-preserved : goal.digits-preserved
digits-preserved c = record {
  within = omega arith;
  same = capped_next c.args.limit c.digits.n c.min-n.result c.digits.c-index c.args.digits.now (omega arith) (omega arith) ∙ c.digits.invariant.same;
}
