use Rattle.std.proofs.Common.{◌≡◌, ◌≤◌, min, drop}
use Rattle.value_text.specs.Digits.{digits_from}
use Rattle.value_text.proofs.numerals.number_up_to.Given as goal

abbrev pub invariant-digits : goal.invariant-digits
invariant-digits l = record {
  within : l.n ≤ l.limit;
  same : min (digits_from l.n (drop l.c-index l.digits)) l.limit ≡ min (digits_from 0 l.digits) l.limit;
}
