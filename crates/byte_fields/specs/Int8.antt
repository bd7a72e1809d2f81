-- numbers of int8 in bytes: 8 in two's complement, the highest byte first
use Rattle.std.proofs.Common.{◌≡◌, ℕ, ℤ, pos, negsuc, ◌+◌, ◌≤◌, ◌<◌, ◌^◌, List, length, refl, sym, ap, ◌∙◌, arith}
use Rattle.std.specs.Prelude.{FitsSigned}
use Rattle.std.specs.Int.{w64, cast_signed, cast_unsigned, bytes_high_first}
use Rattle.std.proofs.lemmas.Int.{to_z-of_z}
use Rattle.byte_fields.specs.Fields.{field_at, number_of, number-bytes, number-put, put_at}

-- the number in the 8 bytes from a place
abbrev pub int8_at : List ℕ → ℕ → ℤ
int8_at bytes at = cast_signed w64 (number_of (field_at bytes at 8))

-- the bytes of a number
unfoldable pub int8_bytes : ℤ → List ℕ
int8_bytes z = bytes_high_first 8 (cast_unsigned w64 z)

pub length-int8 : (z : ℤ) → length (int8_bytes z) ≡ 8
unfolding int8_bytes
length-int8 z = refl

-- a number of int8 in two's complement fits 8 bytes
pub unsigned_small : (z : ℤ) → FitsSigned w64 z → cast_unsigned w64 z < 256 ^ 8
unsigned_small (pos n) fits = omega (arith, fits.sfits)
unsigned_small (negsuc n) fits = omega arith

-- the bytes of a number spell it
pub number_back : (z : ℤ) → FitsSigned w64 z → cast_signed w64 (number_of (int8_bytes z)) ≡ z
unfolding int8_bytes
number_back z fits = ap (cast_signed w64) (number-bytes 8 (cast_unsigned w64 z) (unsigned_small z fits)) ∙ to_z-of_z w64 z fits

-- a number stands where putting it there changes nothing
pub number_in : (z : ℤ) (bytes : List ℕ) (at : ℕ) → FitsSigned w64 z → at + 8 ≤ length bytes → put_at bytes at 8 (cast_unsigned w64 z) ≡ bytes → int8_at bytes at ≡ z
number_in z bytes at fits within same =
    ap (λ (b : List ℕ). cast_signed w64 (number_of (field_at b at 8))) (sym same)
    ∙ ap (cast_signed w64) (number-put bytes at 8 (cast_unsigned w64 z) within (unsigned_small z fits))
    ∙ to_z-of_z w64 z fits
