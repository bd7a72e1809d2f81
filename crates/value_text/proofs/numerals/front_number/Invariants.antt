use Rattle.std.proofs.Common.{◌≡◌, ◌+◌, ◌-◌, ◌^◌, min, take, drop}
use Rattle.std.specs.List.{prefix_len}
use Rattle.block_model.specs.Names.{is_digit}
use Rattle.value_text.specs.Digits.{digits_from}
use Rattle.value_text.proofs.numerals.front_number.Given as goal

abbrev pub invariant-digits : goal.invariant-digits
invariant-digits l = record {
  count : prefix_len is_digit l.text ≡ l.i + prefix_len is_digit (drop l.i l.text);
  number : l.number ≡ min (digits_from 0 (take l.i l.text)) (2 ^ 64 - 1);
}
