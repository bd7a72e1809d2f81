-- The number of a block is printed as digits, which spell it.
use Rattle.std.proofs.Common.{◌≡◌, ℕ, ◌<◌, ◌≤◌, ◌^◌, true, length, decimal, rules, arith}
use Rattle.std.specs.List.{list_all}
use Rattle.std.proofs.lemmas.Str.Parse.{IsNumeralModel, numerals_by_fold}
use Rattle.std.proofs.lemmas.Fmt.{digits_decimal, digits_value-decimal, decimal_nonempty}
use Rattle.block_model.specs.Names.{is_digit}
use Rattle.value_text.specs.Digits.{digits_from}
use Rattle.query_words.specs.Blocks.{IsBlockWord, block_of}
use Rattle.query_words.proofs.PrintedValues.{IsPrinted, decimal_plain}

own_digits : IsNumeralModel (λ ds. list_all is_digit ds ≡ true) (digits_from 0)
own_digits = numerals_by_fold _ (search rules) digits_from (search rules)

pub block_back : (n : ℕ) → n < 2 ^ 32 → block_of (decimal n) ≡ n
block_back n h = digits_value-decimal own_digits n (omega (arith, h))

pub block_written : (n : ℕ) → n < 2 ^ 32 → IsBlockWord (decimal n)
block_written n h =
    (record { some = decimal_nonempty n (omega (arith, h)); digits = digits_decimal own_digits n (omega (arith, h)) }, omega (arith, h, block_back n h))

pub block_printed : (n : ℕ) → n < 2 ^ 32 → IsPrinted (decimal n)
block_printed n h =
    let p = decimal_plain 10 n (omega arith) (omega (arith, h)) (omega (arith, h)) in
    record { some = decimal_nonempty n (omega (arith, h)); no_spaces = p.no_spaces; short = let k : length (decimal n) ≤ 10 = p.short in omega arith }
