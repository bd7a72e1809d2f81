-- The texts of int8 are what is read as them.
use Rattle.std.proofs.Common.{◌≡◌, ℕ, Bool, true, false, List, [], ◌∷◌, ◌++◌, Ok, refl, ◌∙◌, arith}
use Rattle.std.specs.List.{list_all}
use Rattle.std.proofs.lemmas.Bool.{and_parts}
use Rattle.block_model.specs.Names.{is_digit}
use Rattle.value_text.specs.IntTexts.{NumberText, IsNumber, number_bytes}
use Rattle.value_text.specs.TextReading.{mapped, both, begins, choice, byte_at, digits_at}
use Rattle.value_text.specs.Reading.{is_minus, signed_at}
use Rattle.value_text.specs.Digits.{AreDigits}
use Rattle.value_text.proofs.DigitReading.{other_byte, one_digit, digits_lawful, digits_complete}
use Rattle.value_text.proofs.Lawful.{Lawful, both_lawful, mapped_lawful, choice_lawful, same_lawful, byte_lawful, both_read, mapped_read, choice_second}

abbrev negative : Unit {0} × List ℕ → NumberText
negative x = record { negative = true; digits = x.1 }

abbrev positive : List ℕ → NumberText
positive ds = record { negative = false; digits = ds }

is_number : (b : Bool) (ds : List ℕ) → AreDigits ds → IsNumber (record { negative = b; digits = ds })
is_number b ds h = record { some = h.some; digits = h.digits }

pub number_lawful : Lawful signed_at number_bytes IsNumber
unfolding signed_at
number_lawful =
    same_lawful signed_at (choice is_minus (mapped negative (both (byte_at 45) digits_at)) (mapped positive digits_at)) number_bytes IsNumber (λ bytes. refl)
    (choice_lawful is_minus (mapped negative (both (byte_at 45) digits_at)) (mapped positive digits_at) number_bytes IsNumber
    (mapped_lawful negative (both (byte_at 45) digits_at) (λ x. (45 ∷ []) ++ x.1) number_bytes (λ x. Unit {0} × AreDigits x.1) IsNumber (λ a i. (is_number true a.1 i.1, refl))
    (both_lawful (byte_at 45) digits_at (λ x. 45 ∷ []) (λ ds. ds) (λ x. Unit {0}) AreDigits (48 ∷ []) one_digit (byte_lawful 45) digits_lawful))
    (mapped_lawful positive digits_at (λ ds. ds) number_bytes AreDigits IsNumber (λ a i. (is_number false a i, refl)) digits_lawful))

abbrev signed : Bool → List ℕ → NumberText
signed b ds = record { negative = b; digits = ds }

signed_complete : (b : Bool) (ds rest : List ℕ) → AreDigits ds → begins is_digit rest ≡ false → signed_at (number_bytes (signed b ds) ++ rest) ≡ Ok (signed b ds, rest)
unfolding signed_at
signed_complete true ds rest h e =
    mapped_read negative (both (byte_at 45) digits_at) (45 ∷ (ds ++ rest)) ((tt, ds), rest)
    (both_read (byte_at 45) digits_at (45 ∷ (ds ++ rest)) (tt, ds ++ rest) (ds, rest) refl (digits_complete ds rest h e))
signed_complete false [] rest h e = absurd (omega (arith, h.some))
signed_complete false (d ∷ ds) rest h e =
    let p = and_parts (is_digit d) (list_all is_digit ds) h.digits in
    choice_second is_minus (mapped negative (both (byte_at 45) digits_at)) (mapped positive digits_at) (d ∷ (ds ++ rest)) (other_byte is_digit 45 d refl p.0)
    ∙ mapped_read positive digits_at (d ∷ (ds ++ rest)) (d ∷ ds, rest) (digits_complete (d ∷ ds) rest h e)

-- a number behind which no digit stands is read
pub number_complete : (n : NumberText) (rest : List ℕ) → IsNumber n → begins is_digit rest ≡ false → signed_at (number_bytes n ++ rest) ≡ Ok (n, rest)
number_complete n rest h e = signed_complete n.negative n.digits rest (record { some = h.some; digits = h.digits }) e
