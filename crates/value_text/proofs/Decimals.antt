-- Printed numbers are digits, and spell the number.
use Rattle.std.proofs.Common.{◌≡◌, ℕ, ◌<◌, ◌^◌, true, decimal, rules}
use Rattle.std.specs.List.{list_all}
use Rattle.std.proofs.lemmas.Str.Parse.{IsNumeralModel, numerals_by_fold}
use Rattle.std.proofs.lemmas.Fmt.{digits_decimal, digits_value-decimal, decimal_nonempty}
use Rattle.block_model.specs.Names.{is_digit}
use Rattle.value_text.specs.Digits.{digits_from}
use Rattle.value_text.specs.Digits.{AreDigits}

own : IsNumeralModel (λ ds. list_all is_digit ds ≡ true) (digits_from 0)
own = numerals_by_fold _ (search rules) digits_from (search rules)

pub decimal_digits : (n : ℕ) → n < 2 ^ 64 → AreDigits (decimal n)
decimal_digits n h = record { some = decimal_nonempty n h; digits = digits_decimal own n h }

pub digits_from_decimal : (n : ℕ) → n < 2 ^ 64 → digits_from 0 (decimal n) ≡ n
digits_from_decimal n h = digits_value-decimal own n h
