use Rattle.std.proofs.Common.{arith, ◌∙◌, sym}
use Rattle.command_line.proofs.NumberLemmas.{digit_more, digit_passed, all_passed, number_done}
use Rattle.command_line.proofs.number.read_number.Goals as goal

pub digits-preserved : goal.digits-preserved
digits-preserved c = record {
  rest = digit_more _ _ _ 0 _ c.digits-test.true c.digits.invariant.rest (omega arith);
  small = omega arith;
  digits = digit_passed _ _ 0 c.digits-test.true c.if-digit-lt48.false c.if-digit-gt57.false c.digits.invariant.digits;
}

pub returns : goal.returns
returns c = (
  all_passed _ _ (sym c.is_empty.ensures ∙ c.if-is_empty.false) c.digits-test.false c.digits.invariant.digits,
  number_done _ _ _ c.digits.invariant.small c.digits-test.false c.digits.invariant.rest,
)
