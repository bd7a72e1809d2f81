-- Numbers in fields: what was put is read, and what is read was put.
use Rattle.std.proofs.Common.{◌≡◌, ℕ, ℤ, pos, ◌^◌, ◌<◌, ◌≤◌, [], true, eqb, List, ◌++◌, length, take, drop, refl, sym, ap, subst, ◌∙◌, FitsSigned, arith}
use Rattle.std.specs.Int.{w64, bytes_high_first, cast_signed, cast_unsigned}
use Rattle.std.specs.Prelude.{Option, None, Some, unwrap_or}
use Rattle.std.proofs.lemmas.Bool.{eqb-true}
use Rattle.std.proofs.lemmas.Int.{of_z-to_z, to_z-of_z}
use Rattle.std.proofs.lemmas.List.{length-take-le}
use Rattle.index_layout.specs.Fields.{AreBytes, AreBytes-take, number_of, bytes-number, number-fits, put_at}
use Rattle.index_layout.specs.Int8.{int8_bytes, number_back}
use Rattle.index_layout.specs.Written.{put-next}
use Rattle.page_layout.specs.RowBytes.{bound_bytes}

-- the bytes of a signed number spell it
pub signed_back : (z : ℤ) → FitsSigned w64 z → cast_signed w64 (number_of (bytes_high_first 8 (cast_unsigned w64 z))) ≡ z
unfolding int8_bytes
signed_back z fits = number_back z fits

-- a signed number that was put to the front
pub written-signed : (z : ℤ) (out new : List ℕ) → FitsSigned w64 z → new ≡ put_at out 0 8 (cast_unsigned w64 (cast_signed w64 (cast_unsigned w64 z))) → new ≡ bytes_high_first 8 (cast_unsigned w64 z) ++ drop 8 out
written-signed z out new fits put = put-next out out new [] 0 8 (cast_unsigned w64 z) refl refl (put ∙ ap (λ (y : ℤ). put_at out 0 8 (cast_unsigned w64 y)) (to_z-of_z w64 z fits))

-- an absent bound has the bytes of zero
pub bound_number : (b : Option ℤ) → bytes_high_first 8 (cast_unsigned w64 (unwrap_or b (pos 0))) ≡ bound_bytes b
bound_number None = refl
bound_number (Some b) = refl

-- the first n bytes have the bytes of their number
pub field-bytes : (n : ℕ) (bytes : List ℕ) → n ≤ length bytes → AreBytes bytes → bytes_high_first n (number_of (take n bytes)) ≡ take n bytes
field-bytes n bytes long small =
    let len : length (take n bytes) ≡ n = length-take-le n bytes long in
    let tight : AreBytes (take n bytes) = AreBytes-take n bytes small in
    ap (λ (k : ℕ). bytes_high_first k (number_of (take n bytes))) (sym len) ∙ bytes-number (take n bytes) tight

pub field-small : (n : ℕ) (bytes : List ℕ) → n ≤ length bytes → AreBytes bytes → number_of (take n bytes) < 256 ^ n
field-small n bytes long small =
    let len : length (take n bytes) ≡ n = length-take-le n bytes long in
    let tight : AreBytes (take n bytes) = AreBytes-take n bytes small in
    subst (λ (k : ℕ). number_of (take n bytes) < 256 ^ k) len (number-fits (take n bytes) tight)

pub signed_bytes : (bytes : List ℕ) → 8 ≤ length bytes → AreBytes bytes → bytes_high_first 8 (cast_unsigned w64 (cast_signed w64 (number_of (take 8 bytes)))) ≡ take 8 bytes
signed_bytes bytes long small =
    let low : number_of (take 8 bytes) < 256 ^ 8 = field-small 8 bytes long small in
    ap (bytes_high_first 8) (of_z-to_z w64 (number_of (take 8 bytes)) (omega arith)) ∙ field-bytes 8 bytes long small

-- n bytes that spell 0 are zeros
pub zero-bytes : (n : ℕ) (bytes : List ℕ) → n ≤ length bytes → AreBytes bytes → eqb (number_of (take n bytes)) 0 ≡ true → take n bytes ≡ bytes_high_first n 0
zero-bytes n bytes long small e = sym (field-bytes n bytes long small) ∙ ap (bytes_high_first n) (eqb-true (number_of (take n bytes)) 0 e)
