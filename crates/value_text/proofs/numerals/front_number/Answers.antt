use Rattle.std.proofs.Common.{rules, ◌≡◌, ◌+◌, ◌-◌, ◌^◌, true, drop, get_or, arith}
use Rattle.std.specs.List.{prefix_len}
use Rattle.std.proofs.lemmas.List.Sums.{prefix_len-drop_yes}
use Rattle.block_model.specs.Names.{is_digit}
use Rattle.value_text.proofs.DigitLemmas.{counted_next}
use Rattle.value_text.proofs.numerals.front_number.Goals as goal

pub digits-preserved : goal.digits-preserved
digits-preserved c =
    let digit : is_digit (get_or c.args.text.now c.digits.i 0) ≡ true = search rules in
    let one : prefix_len is_digit (drop c.digits.i c.args.text.now) ≡ 1 + prefix_len is_digit (drop (c.digits.i + 1) c.args.text.now) =
    prefix_len-drop_yes is_digit c.args.text.now c.digits.i 0 (omega arith) digit in record {
      count = omega (arith, one, c.digits.invariant.count);
      number = counted_next (2 ^ 64 - 1) c.digits.number c.next_number-number.result c.digits.i c.args.text.now (omega arith) c.digits.invariant.number c.next_number-number.ensures;
    }
