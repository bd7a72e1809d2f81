use Rattle.std.proofs.Common.{arith}
use Rattle.value_text.proofs.DigitLemmas.{digits_at_count}
use Rattle.value_text.proofs.numerals.digits.Goals as goal

pub returns : goal.returns
returns c =
    digits_at_count c.args.text.now c.split_at.result.0.now c.split_at.result.1.now c.digit_count-count.result c.digit_count-count.ensures.count (omega arith)
    c.split_at.ensures.front c.split_at.ensures.back
