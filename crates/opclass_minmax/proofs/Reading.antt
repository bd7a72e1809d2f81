-- the bytes of a summary, written and read
use Rattle.std.proofs.Common.{◌≡◌, ℕ, ℤ, ◌≤◌, ◌≤ℤ◌, ◌<ℤ◌, ◌<◌, List, [], ◌++◌, length, drop, refl, sym, ap, ◌∙◌, arith, length-append}
use Rattle.std.proofs.lemmas.List.{take_at, drop_at, drop-drop, append-nil}
use Rattle.std.proofs.Math.ListN.{drop_of_length-le}
use Rattle.std.specs.Prelude.{FitsSigned, ◌==◌, nat_lt, int_lt, false, Ok}
use Rattle.std.proofs.lemmas.Bool.{cond-false}
use Rattle.std.specs.Int.{w64, cast_unsigned, cast_signed, int_min, int_max}
use Rattle.std.proofs.lemmas.Int.{to_z-of_z, ints}
use Rattle.byte_fields.specs.Fields.{number_of, put_at, field_at}
use Rattle.byte_fields.specs.Int8.{int8_at, int8_bytes, length-int8, number_in}
use Rattle.opclass_minmax.specs.Bounds.{Bounds, NothingYet, Between, IsSummary, IsOrdered, widened}
use Rattle.opclass_minmax.specs.Encoding.{bytes_of}
use Rattle.opclass_minmax.specs.Reading.{both_in, read_of}

pub length-between : (l g : ℤ) → length (bytes_of (Between l g)) ≡ 16
length-between l g = length-append (int8_bytes l) (int8_bytes g) ∙ omega (arith, length-int8 l, length-int8 g)

-- a number put at the front
put_front : (z : ℤ) (bytes : List ℕ) → put_at bytes 0 8 (cast_unsigned w64 z) ≡ int8_bytes z ++ drop 8 bytes
unfolding put_at int8_bytes
put_front z bytes = refl

-- and one behind it
put_behind : (l g : ℤ) (rest : List ℕ) → put_at (int8_bytes l ++ rest) 8 8 (cast_unsigned w64 g) ≡ bytes_of (Between l g) ++ drop 8 rest
unfolding put_at int8_bytes
put_behind l g rest =
    let front = take_at (int8_bytes l) rest 8 (length-int8 l) in
    let back : drop 16 (int8_bytes l ++ rest) ≡ drop 8 rest = sym (drop-drop 8 8 (int8_bytes l ++ rest)) ∙ ap (drop 8) (drop_at (int8_bytes l) rest 8 (length-int8 l)) in
    ap (λ (f : List ℕ). f ++ int8_bytes g ++ drop 16 (int8_bytes l ++ rest)) front ∙ ap (λ (b : List ℕ). int8_bytes l ++ int8_bytes g ++ b) back

-- what two puts leave, of numbers as they are passed
pub written_both : (l g : ℤ) (out first new : List ℕ) → FitsSigned w64 l → FitsSigned w64 g
    → first ≡ put_at out 0 8 (cast_unsigned w64 (cast_signed w64 (cast_unsigned w64 l)))
    → new ≡ put_at first 8 8 (cast_unsigned w64 (cast_signed w64 (cast_unsigned w64 g)))
    → new ≡ bytes_of (Between l g) ++ drop 16 out
written_both l g out first new fits also put after =
    after
    ∙ ap (λ (z : ℤ). put_at first 8 8 (cast_unsigned w64 z)) (to_z-of_z w64 g also)
    ∙ ap (λ (b : List ℕ). put_at b 8 8 (cast_unsigned w64 g)) (put ∙ ap (λ (z : ℤ). put_at out 0 8 (cast_unsigned w64 z)) (to_z-of_z w64 l fits) ∙ put_front l out)
    ∙ put_behind l g (drop 8 out)
    ∙ ap (λ (d : List ℕ). bytes_of (Between l g) ++ d) (drop-drop 8 8 out)

-- what was written is read
first_read : (l g : ℤ) (bytes : List ℕ) → IsOrdered l g → bytes ≡ bytes_of (Between l g) → cast_signed w64 (number_of (field_at bytes 0 8)) ≡ l
first_read l g bytes ordered is =
    let same : put_at bytes 0 8 (cast_unsigned w64 l) ≡ bytes =
    put_front l bytes
    ∙ ap (λ (b : List ℕ). int8_bytes l ++ drop 8 b) is
    ∙ ap (λ (d : List ℕ). int8_bytes l ++ d) (drop_at (int8_bytes l) (int8_bytes g) 8 (length-int8 l))
    ∙ sym is in
    number_in l bytes 0 ordered.least_fits (omega (arith, ap length is, length-between l g)) same

second_read : (l g : ℤ) (bytes : List ℕ) → IsOrdered l g → bytes ≡ bytes_of (Between l g) → cast_signed w64 (number_of (field_at bytes 8 8)) ≡ g
second_read l g bytes ordered is =
    let none : drop 8 (int8_bytes g) ≡ [] = drop_of_length-le (int8_bytes g) {i = 8} (omega (arith, length-int8 g)) in
    let same : put_at bytes 8 8 (cast_unsigned w64 g) ≡ bytes =
    ap (λ (b : List ℕ). put_at b 8 8 (cast_unsigned w64 g)) is
    ∙ put_behind l g (int8_bytes g)
    ∙ ap (λ (d : List ℕ). bytes_of (Between l g) ++ d) none
    ∙ append-nil (bytes_of (Between l g))
    ∙ sym is in
    number_in g bytes 8 ordered.greatest_fits (omega (arith, ap length is, length-between l g)) same

-- bytes that were read are those of what was read
pub bytes_again : (l g : ℤ) (bytes : List ℕ) → length bytes ≡ 16 → put_at bytes 0 8 (cast_unsigned w64 l) ≡ bytes → put_at bytes 8 8 (cast_unsigned w64 g) ≡ bytes → bytes ≡ bytes_of (Between l g)
bytes_again l g bytes size first second =
    let parts : bytes ≡ int8_bytes l ++ drop 8 bytes = sym first ∙ put_front l bytes in
    sym second ∙ ap (λ (b : List ℕ). put_at b 8 8 (cast_unsigned w64 g)) parts ∙ put_behind l g (drop 8 bytes)
    ∙ ap (λ (d : List ℕ). bytes_of (Between l g) ++ d) (drop-drop 8 8 bytes ∙ drop_of_length-le bytes {i = 16} (omega arith))
    ∙ append-nil (bytes_of (Between l g))

-- two values out of order are no summary
pub out_of_order : (l g : ℤ) (bytes : List ℕ) → 16 ≤ length bytes → l ≡ cast_signed w64 (number_of (field_at bytes 0 8)) → g ≡ cast_signed w64 (number_of (field_at bytes 8 8)) → g <ℤ l → (s : Bounds) → IsSummary s → bytes ≡ bytes_of s → ⊥
out_of_order l g bytes size first second below NothingYet lawful is = absurd (omega (arith, size, ap length is))
out_of_order l g bytes size first second below (Between low high) lawful is =
    let least : l ≡ low = first ∙ first_read low high bytes lawful is in
    let greatest : g ≡ high = second ∙ second_read low high bytes lawful is in
    let order : low ≤ℤ high = lawful.in_order in
    omega (arith, ints)

-- no summary has another number of bytes
pub wrong_size : (bytes : List ℕ) → (length bytes ≡ 0 → ⊥) → (length bytes ≡ 16 → ⊥) → (s : Bounds) → IsSummary s → bytes ≡ bytes_of s → ⊥
wrong_size bytes none full NothingYet lawful is = none (ap length is)
wrong_size bytes none full (Between l g) lawful is = full (ap length is ∙ length-between l g)

-- no two summaries have the same bytes
pub one_meaning : (s t : Bounds) (bytes : List ℕ) → IsSummary s → IsSummary t → bytes ≡ bytes_of s → bytes ≡ bytes_of t → s ≡ t
one_meaning NothingYet NothingYet bytes first second is was = refl
one_meaning NothingYet (Between l g) bytes first second is was = absurd (omega (arith, length-between l g, ap length is, ap length was))
one_meaning (Between l g) NothingYet bytes first second is was = absurd (omega (arith, length-between l g, ap length is, ap length was))
one_meaning (Between l g) (Between low high) bytes first second is was =
    let least : l ≡ low = sym (first_read l g bytes first is) ∙ first_read low high bytes second was in
    let greatest : g ≡ high = sym (second_read l g bytes first is) ∙ second_read low high bytes second was in
    rw (least, greatest) refl

-- bytes that were written are read again
pub read_again : (s : Bounds) → IsSummary s → read_of (bytes_of s) ≡ Ok s
read_again NothingYet lawful = refl
read_again (Between l g) lawful =
    let bytes = bytes_of (Between l g) in
    let size = length-between l g in
    let least : int8_at bytes 0 ≡ l = first_read l g bytes lawful refl in
    let greatest : int8_at bytes 8 ≡ g = second_read l g bytes lawful refl in
    let order : int_lt g l ≡ false = (let below : l ≤ℤ g = lawful.in_order in grind (arith, ints)) in
    cond-false (length bytes == 0) (Ok NothingYet) (both_in bytes) (ap (λ (n : ℕ). n == 0) size)
    ∙ cond-false (nat_lt (length bytes) 16) _ _ (ap (λ (n : ℕ). nat_lt n 16) size)
    ∙ cond-false (int_lt (int8_at bytes 8) (int8_at bytes 0)) _ _ ((λ i. int_lt (greatest i) (least i)) ∙ order)
    ∙ cond-false (nat_lt 16 (length bytes)) _ _ (ap (λ (n : ℕ). nat_lt 16 n) size)
    ∙ (λ i. Ok (Between (least i) (greatest i)))

-- widened bounds have bytes
pub widened_has_bytes : (s : Bounds) (low high : ℤ) → 0 < length (bytes_of (widened s low high))
widened_has_bytes NothingYet low high = omega (arith, length-between low high)
widened_has_bytes (Between l g) low high = omega (arith, length-between (int_min l low) (int_max g high))
