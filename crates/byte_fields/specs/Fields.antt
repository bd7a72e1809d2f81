-- Fields of bytes: the bytes from a place, the number that they spell with the highest byte first, and a number put there.
use Rattle.std.proofs.Common.{◌/◌, ◌≡◌, ℕ, zero, suc, ◌+◌, ◌*◌, ◌^◌, ◌<◌, ◌≤◌, ◌⊎◌, inl, inr, List, [], ◌∷◌, ◌++◌, length, take, drop, slice_index, refl, sym, ap, ◌∙◌, append_assoc, length-append, length-drop, arith}
use Rattle.std.proofs.lemmas.Bool.{cases_lt}
use Rattle.std.proofs.lemmas.List.{append-nil, drop-drop, drop-take, drop_at, get_or-drop, get_or-take, get_or_past, length-take, length-take-le, take-append-drop, take_at}
use Rattle.std.proofs.lemmas.Nat.{mod_below, same_from_place}
use Rattle.std.proofs.lemmas.Slice.{drop-put_mid, take-put_mid_below}
use Rattle.std.specs.Int.{byte_at, bytes_high_first}
use borrow.Rule.Slice.PartMut.{put_mid}
use Rattle.byteorder.specs.Endian.{big_from}
use Rattle.byteorder.specs.Numbers.{big_from-cons, big_from-lt, big_number-reads_back, length-bytes_high_first}

-- the n bytes from place at
abbrev pub field_at : List ℕ → ℕ → ℕ → List ℕ
field_at bytes at n = take n (drop at bytes)

-- the number that bytes spell, the highest byte first
unfoldable pub number_of : List ℕ → ℕ
number_of [] = 0
number_of (b ∷ bs) = b * 256 ^ length bs + number_of bs

-- the bytes with the number x in the n bytes from place at, the highest byte first
unfoldable pub put_at : List ℕ → ℕ → ℕ → ℕ → List ℕ
put_at bytes at n x = take at bytes ++ bytes_high_first n x ++ drop (at + n) bytes

-- bytes as a slice has them, each below 256
abbrev pub AreBytes : List ℕ → Type 0
AreBytes bytes = (i : ℕ) → slice_index bytes i < 256

-- the same number, as byteorder counts it
pub number-big : (xs : List ℕ) → number_of xs ≡ big_from 0 (length xs) xs
unfolding number_of
number-big [] = refl
number-big (x ∷ xs) = rw (big_from-cons 0 (length xs) x xs, number-big xs) refl

-- no number of n bytes reaches 256 ^ n
pub number-fits : (xs : List ℕ) → AreBytes xs → number_of xs < 256 ^ length xs
number-fits xs small = rw (number-big xs) (big_from-lt 0 (length xs) xs small)

-- a number of n bytes has n bytes
pub length-number : (n x : ℕ) → length (bytes_high_first n x) ≡ n
length-number = length-bytes_high_first

-- the bytes of a number spell it
pub number-bytes : (n x : ℕ) → x < 256 ^ n → number_of (bytes_high_first n x) ≡ x
number-bytes n x fits =
    number-big (bytes_high_first n x)
    ∙ ap (λ (k : ℕ). big_from 0 k (bytes_high_first n x)) (length-bytes_high_first n x)
    ∙ ap (big_from 0 n) (sym (append-nil (bytes_high_first n x)))
    ∙ big_number-reads_back n x [] fits

-- bytes of one length that spell one number are the same bytes
same-bytes : (xs ys : List ℕ) → length xs ≡ length ys → AreBytes xs → AreBytes ys → number_of xs ≡ number_of ys → xs ≡ ys
unfolding number_of
same-bytes [] [] long small below e = refl
same-bytes [] (y ∷ ys) long small below e = absurd (omega arith)
same-bytes (x ∷ xs) [] long small below e = absurd (omega arith)
same-bytes (x ∷ xs) (y ∷ ys) long small below e =
    let one : length xs ≡ length ys = omega arith in
    let high : number_of ys < 256 ^ length xs = rw one (number-fits ys (λ i. below (suc i))) in
    let sums : x * 256 ^ length xs + number_of xs ≡ y * 256 ^ length xs + number_of ys = e ∙ ap (λ (k : ℕ). y * 256 ^ k + number_of ys) (sym one) in
    let parts = same_from_place x (number_of xs) y (number_of ys) (256 ^ length xs) (number-fits xs (λ i. small (suc i))) high sums in
    let rest = same-bytes xs ys one (λ i. small (suc i)) (λ i. below (suc i)) parts.1 in
    rw (parts.0, rest) refl

-- a byte of a number is below 256
byte-small : (k x : ℕ) → byte_at k x < 256
byte-small zero x = mod_below x 256 (omega arith)
byte-small (suc k) x = mod_below (x / 256 ^ suc k) 256 (omega arith)

-- the bytes of a number are bytes
AreBytes-number : (n x : ℕ) → AreBytes (bytes_high_first n x)
AreBytes-number zero x i = omega arith
AreBytes-number (suc n) x zero = byte-small n x
AreBytes-number (suc n) x (suc i) = AreBytes-number n x i

-- the bytes of the number that bytes spell are those bytes
pub bytes-number : (xs : List ℕ) → AreBytes xs → bytes_high_first (length xs) (number_of xs) ≡ xs
bytes-number xs small =
    same-bytes (bytes_high_first (length xs) (number_of xs)) xs (length-bytes_high_first (length xs) (number_of xs)) (AreBytes-number (length xs) (number_of xs)) small (number-bytes (length xs) (number_of xs) (number-fits xs small))

-- a field has its number of bytes
pub length-field : (bytes : List ℕ) (at n : ℕ) → at + n ≤ length bytes → length (field_at bytes at n) ≡ n
length-field bytes at n within = length-take-le n (drop at bytes) (omega (arith, length-drop at bytes))

-- bytes behind others are bytes, and so is a front of them
pub AreBytes-drop : (n : ℕ) (bytes : List ℕ) → AreBytes bytes → AreBytes (drop n bytes)
AreBytes-drop n bytes small i = rw (get_or-drop n bytes i 0) (small (n + i))

pub AreBytes-take : (n : ℕ) (bytes : List ℕ) → AreBytes bytes → AreBytes (take n bytes)
AreBytes-take n bytes small i =
    elim (cases_lt i n) [
      | inl lt ↦ rw (get_or-take n bytes i 0 lt) (small i)
      | inr le ↦ rw (get_or_past (take n bytes) i 0 (omega (arith, length-take n bytes))) (omega arith)
    ]

-- the bytes of a field are bytes
AreBytes-field : (bytes : List ℕ) (at n : ℕ) → AreBytes bytes → AreBytes (field_at bytes at n)
AreBytes-field bytes at n small = AreBytes-take n (drop at bytes) (AreBytes-drop at bytes small)

-- a put is a write to a part
pub put-part : (bytes : List ℕ) (at n x : ℕ) → put_at bytes at n x ≡ put_mid at n bytes (bytes_high_first n x)
unfolding put_at
put-part bytes at n x =
    append_assoc (take at bytes) (bytes_high_first n x) (drop (at + n) bytes)
    ∙ ap (λ (d : List ℕ). take at bytes ++ (bytes_high_first n x ++ d)) (sym (drop-drop n at bytes))

-- a put changes no number of bytes
pub length-put : (bytes : List ℕ) (at n x : ℕ) → at + n ≤ length bytes → length (put_at bytes at n x) ≡ length bytes
unfolding put_at
length-put bytes at n x within =
    simp length-append (omega (arith, length-take-le at bytes (omega arith), length-bytes_high_first n x, length-drop (at + n) bytes))

-- what was put into a field is its number
pub number-put : (bytes : List ℕ) (at n x : ℕ) → at + n ≤ length bytes → x < 256 ^ n → number_of (field_at (put_at bytes at n x) at n) ≡ x
number-put bytes at n x within fits =
    let front = drop_at (take at bytes) (bytes_high_first n x ++ drop n (drop at bytes)) at (length-take-le at bytes (omega arith)) in
    let own = take_at (bytes_high_first n x) (drop n (drop at bytes)) n (length-bytes_high_first n x) in
    ap number_of (ap (λ (l : List ℕ). field_at l at n) (put-part bytes at n x) ∙ ap (take n) front ∙ own) ∙ number-bytes n x fits

-- the number of a field put into it again changes nothing
pub put-number : (bytes : List ℕ) (at n : ℕ) → at + n ≤ length bytes → AreBytes bytes → put_at bytes at n (number_of (field_at bytes at n)) ≡ bytes
put-number bytes at n within small =
    let field = field_at bytes at n in
    let same : bytes_high_first n (number_of field) ≡ field =
    ap (λ (k : ℕ). bytes_high_first k (number_of field)) (sym (length-field bytes at n within)) ∙ bytes-number field (AreBytes-field bytes at n small) in
    put-part bytes at n (number_of field)
    ∙ ap (λ (l : List ℕ). take at bytes ++ (l ++ drop n (drop at bytes))) same
    ∙ ap (λ (l : List ℕ). take at bytes ++ l) (take-append-drop n (drop at bytes))
    ∙ take-append-drop at bytes

-- a put leaves each field as it was that has no byte in common with its own
pub field-apart : (bytes : List ℕ) (at n x from m : ℕ) → at + n ≤ length bytes → (from + m ≤ at) ⊎ (at + n ≤ from) → field_at (put_at bytes at n x) from m ≡ field_at bytes from m
field-apart bytes at n x from m within (inl below) =
    ap (λ (l : List ℕ). field_at l from m) (put-part bytes at n x)
    ∙ sym (drop-take from m (put_mid at n bytes (bytes_high_first n x)))
    ∙ ap (drop from) (take-put_mid_below at n bytes (bytes_high_first n x) (from + m) below (omega arith))
    ∙ drop-take from m bytes
field-apart bytes at n x from m within (inr above) =
    ap (λ (l : List ℕ). field_at l from m) (put-part bytes at n x)
    ∙ ap (take m) (drop-put_mid at n bytes (bytes_high_first n x) from above (omega arith) (length-bytes_high_first n x))
