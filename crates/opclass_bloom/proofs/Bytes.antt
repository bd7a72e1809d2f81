-- bytes as bits, and bits as bytes
use Rattle.std.proofs.Common.{◌≡◌, ℕ, zero, suc, ◌+◌, ◌-◌, ◌*◌, ◌/◌, ◌%◌, ◌^◌, ◌<◌, ◌≤◌, max, Bool, true, false, ◌||◌, ◌==◌, List, [], ◌∷◌, ◌++◌, length, get_or, set, replicate, bit_or, refl, sym, ap, ◌∙◌, arith, w8, Fits, inl, inr, Ok, eq-eqb, true≢false, length-set, pow-suc, get_or-set_same, get_or-set_other, ext_get_or}
use Rattle.std.specs.Int.{bit_at}
use Rattle.std.proofs.lemmas.Bool.{cases_eq, cond-true}
use Rattle.std.proofs.lemmas.List.{get_or_append_left, get_or-append_right, set-append_left, set-append_right, replicate-append-replicate}
use Rattle.std.proofs.lemmas.List.FromFn.{get_or-map-range_with_len}
use Rattle.std.proofs.lemmas.Nat.{or_lt}
use Rattle.std.proofs.lemmas.Nat.Bits.{bit_at_or, bit_at-lt, bit_at-zero, bit_at_lowest, bit_at-suc, bit_at_set_same, bit_at_set_other, same_from_bits_below}
use Rattle.opclass_bloom.specs.Bits.{IsSummary, united}
use Rattle.opclass_bloom.specs.Encoding.{number_of, bytes_of, size_of}
use Rattle.opclass_bloom.specs.Kept.{bits_of_byte, bits_of}
use Rattle.opclass_bloom.specs.Parameters.{Parameters}
use Rattle.opclass_bloom.specs.Reading.{read_of}

pub length_bits : (bytes : List ℕ) → length (bits_of bytes) ≡ 8 * length bytes
length_bits [] = refl
length_bits (b ∷ bytes) = omega (arith, length_bits bytes)

-- bit j of byte i, at place k of all bits
pub bit_there : (bytes : List ℕ) (i j k : ℕ) → 8 * i + j ≡ k → i < length bytes → j < 8 → get_or (bits_of bytes) k false ≡ (bit_at (get_or bytes i 0) j == 1)
bit_there [] i j k is within small = absurd (omega (arith, within))
bit_there (b ∷ bytes) zero j k is within small =
    let at : k < 8 = omega arith in
    get_or_append_left (bits_of_byte b) (bits_of bytes) false k at ∙ get_or-map-range_with_len (λ (i : ℕ). bit_at b i == 1) 0 8 k j false at (omega arith)
bit_there (b ∷ bytes) (suc i) j k is within small =
    get_or-append_right (bits_of_byte b) (bits_of bytes) 8 k false refl (omega arith) ∙ bit_there bytes i j (k - 8) (omega arith) (omega (arith, within)) small

-- bit q of a byte with bit j set
set_bit_at : (b j q : ℕ) → j < 8 → q < 8 → (bit_at (bit_or b (1 * 2 ^ j % 2 ^ 8)) q == 1) ≡ get_or (set (bits_of_byte b) j true) q false
set_bit_at b j q small within = elim (cases_eq q j) [
  | inl same ↦ rw same (ap (λ (n : ℕ). n == 1) (bit_at_set_same w8 b j small) ∙ sym (get_or-set_same (bits_of_byte b) j true false small))
  | inr other ↦ ap (λ (n : ℕ). n == 1) (bit_at_set_other w8 b j small q other) ∙ sym (get_or-map-range_with_len (λ (i : ℕ). bit_at b i == 1) 0 8 q q false within (omega arith)) ∙ sym (get_or-set_other (bits_of_byte b) j q true false other)
]

byte_with_bit : (b j : ℕ) → j < 8 → bits_of_byte (bit_or b (1 * 2 ^ j % 2 ^ 8)) ≡ set (bits_of_byte b) j true
byte_with_bit b j small =
    let with = bit_or b (1 * 2 ^ j % 2 ^ 8) in
    ext_get_or false (bits_of_byte with) (set (bits_of_byte b) j true) (sym (length-set (bits_of_byte b) j true))
    (λ q within. get_or-map-range_with_len (λ (i : ℕ). bit_at with i == 1) 0 8 q q false within (omega arith) ∙ set_bit_at b j q small within)

pub with_bit_there : (bytes : List ℕ) (i j k : ℕ) → 8 * i + j ≡ k → i < length bytes → j < 8 → bits_of (set bytes i (bit_or (get_or bytes i 0) (1 * 2 ^ j % 2 ^ 8))) ≡ set (bits_of bytes) k true
with_bit_there [] i j k is within small = absurd (omega (arith, within))
with_bit_there (b ∷ bytes) zero j k is within small =
    let same : k ≡ j = omega arith in
    rw same (ap (λ (s : List Bool). s ++ bits_of bytes) (byte_with_bit b j small) ∙ sym (set-append_left (bits_of_byte b) (bits_of bytes) j true small))
with_bit_there (b ∷ bytes) (suc i) j k is within small =
    ap (λ (s : List Bool). bits_of_byte b ++ s) (with_bit_there bytes i j (k - 8) (omega arith) (omega (arith, within)) small) ∙ sym (set-append_right (bits_of_byte b) (bits_of bytes) 8 k true refl (omega arith))

either_bit : (x y : ℕ) → x < 2 → y < 2 → (max x y == 1) ≡ ((x == 1) || (y == 1))
either_bit zero zero p q = refl
either_bit zero (suc zero) p q = refl
either_bit (suc zero) zero p q = refl
either_bit (suc zero) (suc zero) p q = refl
either_bit x (suc (suc y)) p q = absurd (omega (arith, q))
either_bit (suc (suc x)) y p q = absurd (omega (arith, p))

or_bit : (a b i : ℕ) → (bit_at (bit_or a b) i == 1) ≡ ((bit_at a i == 1) || (bit_at b i == 1))
or_bit a b i = ap (λ (n : ℕ). n == 1) (bit_at_or a b i) ∙ either_bit (bit_at a i) (bit_at b i) (bit_at-lt a i) (bit_at-lt b i)

pub or_fits : (a b : ℕ) → Fits w8 a → Fits w8 b → Fits w8 (bit_or a b)
or_fits a b first second = omega (arith, or_lt 8 a b (omega (arith, first)) (omega (arith, second)))

-- the bits of either list of bytes
pub either_there : (xs ys zs : List ℕ) → length ys ≡ length xs → length zs ≡ length xs → ((k : ℕ) → k < length xs → get_or zs k 0 ≡ bit_or (get_or xs k 0) (get_or ys k 0)) → bits_of zs ≡ united (bits_of xs) (bits_of ys)
either_there [] [] [] long also each = refl
either_there [] [] (z ∷ zs) long also each = absurd (omega (arith, also))
either_there [] (y ∷ ys) zs long also each = absurd (omega (arith, long))
either_there (x ∷ xs) [] zs long also each = absurd (omega (arith, long))
either_there (x ∷ xs) (y ∷ ys) [] long also each = absurd (omega (arith, also))
either_there (x ∷ xs) (y ∷ ys) (z ∷ zs) long also each =
    let is : z ≡ bit_or x y = each 0 (omega arith) in
    let rest = either_there xs ys zs (omega (arith, long)) (omega (arith, also)) (λ k within. each (suc k) (omega (arith, within))) in
    rw is (λ i. or_bit x y 0 i ∷ or_bit x y 1 i ∷ or_bit x y 2 i ∷ or_bit x y 3 i ∷ or_bit x y 4 i ∷ or_bit x y 5 i ∷ or_bit x y 6 i ∷ or_bit x y 7 i ∷ rest i)

-- a number's bits are those that it was made from
number_bit : (bits : List Bool) (i : ℕ) → (bit_at (number_of bits) i == 1) ≡ get_or bits i false
number_bit [] i = ap (λ (n : ℕ). n == 1) (bit_at-zero i)
number_bit (true ∷ bits) zero = let odd : (1 + 2 * number_of bits) % 2 ≡ 1 = omega arith in ap (λ (n : ℕ). n == 1) (bit_at_lowest (1 + 2 * number_of bits) ∙ odd)
number_bit (false ∷ bits) zero = let even : (0 + 2 * number_of bits) % 2 ≡ 0 = omega arith in ap (λ (n : ℕ). n == 1) (bit_at_lowest (0 + 2 * number_of bits) ∙ even)
number_bit (true ∷ bits) (suc i) =
    let half : (1 + 2 * number_of bits) / 2 ≡ number_of bits = omega arith in
    ap (λ (n : ℕ). n == 1) (bit_at-suc (1 + 2 * number_of bits) i ∙ ap (λ (n : ℕ). bit_at n i) half) ∙ number_bit bits i
number_bit (false ∷ bits) (suc i) =
    let half : (0 + 2 * number_of bits) / 2 ≡ number_of bits = omega arith in
    ap (λ (n : ℕ). n == 1) (bit_at-suc (0 + 2 * number_of bits) i ∙ ap (λ (n : ℕ). bit_at n i) half) ∙ number_bit bits i

-- bits as bytes are those bits again
pub bits_again : (s : List Bool) (size : ℕ) → length s ≡ 8 * size → bits_of (bytes_of s) ≡ s
bits_again [] size is = refl
bits_again (b0 ∷ []) size is = absurd (omega (arith, is))
bits_again (b0 ∷ b1 ∷ []) size is = absurd (omega (arith, is))
bits_again (b0 ∷ b1 ∷ b2 ∷ []) size is = absurd (omega (arith, is))
bits_again (b0 ∷ b1 ∷ b2 ∷ b3 ∷ []) size is = absurd (omega (arith, is))
bits_again (b0 ∷ b1 ∷ b2 ∷ b3 ∷ b4 ∷ []) size is = absurd (omega (arith, is))
bits_again (b0 ∷ b1 ∷ b2 ∷ b3 ∷ b4 ∷ b5 ∷ []) size is = absurd (omega (arith, is))
bits_again (b0 ∷ b1 ∷ b2 ∷ b3 ∷ b4 ∷ b5 ∷ b6 ∷ []) size is = absurd (omega (arith, is))
bits_again (b0 ∷ b1 ∷ b2 ∷ b3 ∷ b4 ∷ b5 ∷ b6 ∷ b7 ∷ s) size is =
    let byte = b0 ∷ b1 ∷ b2 ∷ b3 ∷ b4 ∷ b5 ∷ b6 ∷ b7 ∷ [] in
    let rest = bits_again s (size - 1) (omega (arith, is)) in
    λ i. number_bit byte 0 i ∷ number_bit byte 1 i ∷ number_bit byte 2 i ∷ number_bit byte 3 i ∷ number_bit byte 4 i ∷ number_bit byte 5 i ∷ number_bit byte 6 i ∷ number_bit byte 7 i ∷ rest i

number_below : (bits : List Bool) → number_of bits < 2 ^ length bits
number_below [] = omega arith
number_below (true ∷ bits) = omega (arith, number_below bits, pow-suc 2 (length bits))
number_below (false ∷ bits) = omega (arith, number_below bits, pow-suc 2 (length bits))

same_bit : (x y : ℕ) → x < 2 → y < 2 → (x == 1) ≡ (y == 1) → x ≡ y
same_bit zero zero p q is = refl
same_bit zero (suc zero) p q is = absurd (true≢false (sym is))
same_bit (suc zero) zero p q is = absurd (true≢false is)
same_bit (suc zero) (suc zero) p q is = refl
same_bit x (suc (suc y)) p q is = absurd (omega (arith, q))
same_bit (suc (suc x)) y p q is = absurd (omega (arith, p))

byte_again : (b : ℕ) → b < 2 ^ 8 → number_of (bits_of_byte b) ≡ b
byte_again b small =
    let number = number_of (bits_of_byte b) in
    same_from_bits_below 8 number b (number_below (bits_of_byte b)) small
    (λ i within. same_bit (bit_at number i) (bit_at b i) (bit_at-lt number i) (bit_at-lt b i) (number_bit (bits_of_byte b) i ∙ get_or-map-range_with_len (λ (q : ℕ). bit_at b q == 1) 0 8 i i false within (omega arith)))

-- bytes as bits are those bytes again
pub bytes_again : (bytes : List ℕ) → ((k : ℕ) → Fits w8 (get_or bytes k 0)) → bytes_of (bits_of bytes) ≡ bytes
bytes_again [] small = refl
bytes_again (b ∷ bytes) small =
    let first = byte_again b (omega (arith, small 0)) in
    let rest = bytes_again bytes (λ k. small (suc k)) in
    λ i. first i ∷ rest i

-- a byte holds eight of the bits
pub length_bytes : (s : List Bool) → length (bytes_of s) ≡ length s / 8
length_bytes [] = refl
length_bytes (b0 ∷ []) = refl
length_bytes (b0 ∷ b1 ∷ []) = refl
length_bytes (b0 ∷ b1 ∷ b2 ∷ []) = refl
length_bytes (b0 ∷ b1 ∷ b2 ∷ b3 ∷ []) = refl
length_bytes (b0 ∷ b1 ∷ b2 ∷ b3 ∷ b4 ∷ []) = refl
length_bytes (b0 ∷ b1 ∷ b2 ∷ b3 ∷ b4 ∷ b5 ∷ []) = refl
length_bytes (b0 ∷ b1 ∷ b2 ∷ b3 ∷ b4 ∷ b5 ∷ b6 ∷ []) = refl
length_bytes (b0 ∷ b1 ∷ b2 ∷ b3 ∷ b4 ∷ b5 ∷ b6 ∷ b7 ∷ s) = omega (arith, length_bytes s)

pub bits_of_zeros : (n : ℕ) → bits_of (replicate n 0) ≡ replicate (8 * n) false
bits_of_zeros zero = refl
bits_of_zeros (suc n) =
    let size : 8 + 8 * n ≡ 8 * suc n = omega arith in
    ap (λ (s : List Bool). replicate 8 false ++ s) (bits_of_zeros n) ∙ replicate-append-replicate 8 (8 * n) false ∙ ap (λ (m : ℕ). replicate m false) size

-- eight positions are a byte
pub bytes_there : (s : List Bool) → 8 ≤ length s → 0 < length (bytes_of s)
bytes_there (b0 ∷ b1 ∷ b2 ∷ b3 ∷ b4 ∷ b5 ∷ b6 ∷ b7 ∷ s) long = omega arith
bytes_there s long = absurd (omega (arith, long))

-- bytes that were written are read again
pub read_again : (p : Parameters) (s : List Bool) (n : ℕ) → IsSummary p s → 8 * n ≡ p.bits → read_of p (bytes_of s) ≡ Ok s
read_again p s n of_class whole =
    let size : length (bytes_of s) ≡ size_of p = length_bytes s ∙ ap (λ (m : ℕ). m / 8) of_class in
    cond-true (length (bytes_of s) == size_of p) _ _ (eq-eqb (length (bytes_of s)) (size_of p) size) ∙ ap Ok (bits_again s n (of_class ∙ sym whole))
