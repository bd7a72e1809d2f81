-- bytes, and numbers of int8 in them
use Rattle.std.proofs.Common.{◌≡◌, ℕ, zero, suc, ℤ, pos, negsuc, ◌+◌, ◌/◌, ◌^◌, ◌<◌, ◌≤◌, Bool, true, false, cond, Option, None, Some, List, [], ◌∷◌, ◌++◌, length, drop, FitsSigned, refl, ap, subst, ◌∙◌, arith}
use Rattle.std.specs.Prelude.{IfSome}
use Rattle.std.specs.Int.{w64, byte_at, bytes_high_first, cast_unsigned}
use Rattle.std.proofs.lemmas.Bool.{ltb-true}
use Rattle.std.proofs.lemmas.Int.{of_z-to_z}
use Rattle.std.proofs.lemmas.Nat.{mod_below}
use borrow.Author.Gap.{read_sfits}
use Rattle.block_model.specs.ValuesOfKind.{is_int8}
use Rattle.byte_fields.specs.Fields.{AreBytes, AreBytes-drop, AreBytes-take, field_at, length-field, number-fits, number_of, put-number, put_at}
use Rattle.byte_fields.specs.Int8.{int8_at, int8_bytes}

-- a choice that came to this, by its branch
pub by_cond : {X : Type 0} (b : Bool) (x y z : X) (P : Type 0) → cond b x y ≡ z → (b ≡ true → x ≡ z → P) → (b ≡ false → y ≡ z → P) → P
by_cond true x y z P is one other = one refl is
by_cond false x y z P is one other = other refl is

-- ---- bytes

pub none_bytes : AreBytes []
none_bytes i = omega arith

pub byte_more : (b : ℕ) (bytes : List ℕ) → b < 256 → AreBytes bytes → AreBytes (b ∷ bytes)
byte_more b bytes small rest zero = small
byte_more b bytes small rest (suc i) = rest i

pub bytes_more : (xs ys : List ℕ) → AreBytes xs → AreBytes ys → AreBytes (xs ++ ys)
bytes_more [] ys first second i = second i
bytes_more (x ∷ xs) ys first second zero = first zero
bytes_more (x ∷ xs) ys first second (suc i) = bytes_more xs ys (λ j. first (suc j)) second i

byte_small : (k x : ℕ) → byte_at k x < 256
byte_small zero x = mod_below x 256 (omega arith)
byte_small (suc k) x = mod_below (x / 256 ^ suc k) 256 (omega arith)

-- the bytes of a number
pub number_bytes : (n x : ℕ) → AreBytes (bytes_high_first n x)
number_bytes zero x = none_bytes
number_bytes (suc n) x = byte_more (byte_at n x) (bytes_high_first n x) (byte_small n x) (number_bytes n x)

pub int8_are_bytes : (z : ℤ) → AreBytes (int8_bytes z)
unfolding int8_bytes
int8_are_bytes z = number_bytes 8 (cast_unsigned w64 z)

-- ---- numbers of int8

pub int8_fits : (z : ℤ) → is_int8 z ≡ true → FitsSigned w64 z
int8_fits (pos n) is = let small : n < 2 ^ 63 = ltb-true n (2 ^ 63) is in record { sfits = omega (arith, small) }
int8_fits (negsuc n) is = let small : n < 2 ^ 63 = ltb-true n (2 ^ 63) is in record { sfits = omega (arith, small) }

pub bound_fits : (bound : Option ℤ) → IfSome bound (λ z. is_int8 z ≡ true) → IfSome bound (λ z. FitsSigned w64 z)
bound_fits None is = is
bound_fits (Some z) is = int8_fits z is

-- what is read is one
pub read_fits : (bytes : List ℕ) (at : ℕ) → FitsSigned w64 (int8_at bytes at)
read_fits bytes at = read_sfits w64 (number_of (field_at bytes at 8))

field_small : (bytes : List ℕ) (at n : ℕ) → AreBytes bytes → at + n ≤ length bytes → number_of (field_at bytes at n) < 256 ^ n
field_small bytes at n small within =
    subst (λ (k : ℕ). number_of (field_at bytes at n) < 256 ^ k) (length-field bytes at n within) (number-fits (field_at bytes at n) (AreBytes-take n (drop at bytes) (AreBytes-drop at bytes small)))

pub number_small : (bytes : List ℕ) (at n : ℕ) → AreBytes bytes → at + n ≤ length bytes → number_of (field_at bytes at n) < 256 ^ n
number_small = field_small

-- and putting it there again changes nothing
pub read_again : (bytes : List ℕ) (at : ℕ) → AreBytes bytes → at + 8 ≤ length bytes → put_at bytes at 8 (cast_unsigned w64 (int8_at bytes at)) ≡ bytes
read_again bytes at small within =
    ap (put_at bytes at 8) (of_z-to_z w64 (number_of (field_at bytes at 8)) (omega (arith, field_small bytes at 8 small within)))
    ∙ put-number bytes at 8 within small
