-- the bytes of a summary of ranges, written and read
use Rattle.std.proofs.Common.{◌≡◌, ℕ, ℤ, pos, ◌≤◌, Bool, true, false, Option, None, Some, Ok, List, [], ◌∷◌, ◌++◌, length, drop, set, get_or, refl, sym, ap, subst, ◌∙◌, arith, length-append}
use Rattle.std.specs.Prelude.{FitsSigned, nat_lt}
use Rattle.std.proofs.lemmas.Bool.{cond-false, le-ltb}
use Rattle.std.proofs.lemmas.List.{drop_at, drop-drop, append-nil}
use Rattle.std.proofs.Math.ListN.{drop_of_length-le}
use Rattle.std.specs.Int.{w64, cast_unsigned, cast_signed}
use Rattle.std.proofs.lemmas.Int.{to_z-of_z}
use Rattle.byte_fields.specs.Fields.{number_of, put_at, field_at}
use Rattle.byte_fields.specs.Int8.{int8_at, int8_bytes, length-int8, number_in}
use Rattle.block_model.specs.Ranges.{Range, Empty, Between, IsRange, lower_of, upper_of}
use Rattle.opclass_inclusion.specs.SpanEncoding.{bytes_of, field_bytes, fields_of, number_of_bound}
use Rattle.opclass_inclusion.specs.Faults.{placed, read_unless}
use Rattle.opclass_inclusion.specs.SpanFaults.{fault_in, field_end, field_fault, fields_in}
use Rattle.opclass_inclusion.specs.SpanHulls.{BoundFits, IsSummary}
use Rattle.opclass_inclusion.specs.SpanReading.{from_fields, read_of}
use Rattle.opclass_inclusion.specs.declared.span_bytes.SpanFields.{SpanFields}
use Rattle.opclass_inclusion.specs.declared.span_summary.SpanSummary.{SpanSummary}

pub length-fields : (f : SpanFields) → length (field_bytes f) ≡ 18
length-fields f = omega (arith, length-append (int8_bytes f.lower) (int8_bytes f.upper), length-int8 f.lower, length-int8 f.upper)

-- a number put behind two bytes
put_lower : (z : ℤ) (a b : ℕ) (rest : List ℕ) → put_at (a ∷ b ∷ rest) 2 8 (cast_unsigned w64 z) ≡ a ∷ b ∷ (int8_bytes z ++ drop 8 rest)
unfolding put_at int8_bytes
put_lower z a b rest = refl

-- and one behind it
put_upper : (l g : ℤ) (a b : ℕ) (rest : List ℕ) → put_at (a ∷ b ∷ (int8_bytes l ++ rest)) 10 8 (cast_unsigned w64 g) ≡ a ∷ b ∷ (int8_bytes l ++ int8_bytes g ++ drop 8 rest)
unfolding put_at int8_bytes
put_upper l g a b rest = refl

-- what two bytes and two numbers leave, as the numbers are passed
pub written : (f : SpanFields) (out first new : List ℕ) → 18 ≤ length out → FitsSigned w64 f.lower → FitsSigned w64 f.upper
    → first ≡ put_at (set (set out 0 f.flags) 1 f.shape) 2 8 (cast_unsigned w64 (cast_signed w64 (cast_unsigned w64 f.lower)))
    → new ≡ put_at first 10 8 (cast_unsigned w64 (cast_signed w64 (cast_unsigned w64 f.upper)))
    → new ≡ field_bytes f ++ drop 18 out
written f [] first new room fits also put after = absurd (omega (arith, room))
written f (a ∷ []) first new room fits also put after = absurd (omega (arith, room))
written f (a ∷ b ∷ rest) first new room fits also put after =
    after
    ∙ ap (λ (z : ℤ). put_at first 10 8 (cast_unsigned w64 z)) (to_z-of_z w64 f.upper also)
    ∙ ap (λ (x : List ℕ). put_at x 10 8 (cast_unsigned w64 f.upper)) (put ∙ ap (λ (z : ℤ). put_at (f.flags ∷ f.shape ∷ rest) 2 8 (cast_unsigned w64 z)) (to_z-of_z w64 f.lower fits) ∙ put_lower f.lower f.flags f.shape rest)
    ∙ put_upper f.lower f.upper f.flags f.shape (drop 8 rest)
    ∙ ap (λ (d : List ℕ). field_bytes f ++ d) (drop-drop 8 8 rest)

-- bytes that were read are those of what was read
pub bytes_again : (l g : ℤ) (bytes : List ℕ) → length bytes ≡ 18 → put_at bytes 2 8 (cast_unsigned w64 l) ≡ bytes → put_at bytes 10 8 (cast_unsigned w64 g) ≡ bytes → bytes ≡ get_or bytes 0 0 ∷ get_or bytes 1 0 ∷ (int8_bytes l ++ int8_bytes g)
bytes_again l g [] size first second = absurd (omega (arith, size))
bytes_again l g (a ∷ []) size first second = absurd (omega (arith, size))
bytes_again l g (a ∷ b ∷ rest) size first second =
    let parts : a ∷ b ∷ rest ≡ a ∷ b ∷ (int8_bytes l ++ drop 8 rest) = sym first ∙ put_lower l a b rest in
    let none : drop 8 (drop 8 rest) ≡ [] = drop-drop 8 8 rest ∙ drop_of_length-le rest {i = 16} (omega (arith, size)) in
    sym second ∙ ap (λ (x : List ℕ). put_at x 10 8 (cast_unsigned w64 g)) parts ∙ put_upper l g a b (drop 8 rest)
    ∙ ap (λ (d : List ℕ). a ∷ b ∷ (int8_bytes l ++ int8_bytes g ++ d)) none
    ∙ ap (λ (d : List ℕ). a ∷ b ∷ d) (append-nil (int8_bytes l ++ int8_bytes g))

-- what was written is read
lower_read : (f : SpanFields) → FitsSigned w64 f.lower → cast_signed w64 (number_of (field_at (field_bytes f) 2 8)) ≡ f.lower
lower_read f fits =
    let same : put_at (field_bytes f) 2 8 (cast_unsigned w64 f.lower) ≡ field_bytes f =
    put_lower f.lower f.flags f.shape (int8_bytes f.lower ++ int8_bytes f.upper)
    ∙ ap (λ (d : List ℕ). f.flags ∷ f.shape ∷ (int8_bytes f.lower ++ d)) (drop_at (int8_bytes f.lower) (int8_bytes f.upper) 8 (length-int8 f.lower)) in
    number_in f.lower (field_bytes f) 2 fits (omega (arith, length-fields f)) same

upper_read : (f : SpanFields) → FitsSigned w64 f.upper → cast_signed w64 (number_of (field_at (field_bytes f) 10 8)) ≡ f.upper
upper_read f fits =
    let none : drop 8 (int8_bytes f.upper) ≡ [] = drop_of_length-le (int8_bytes f.upper) {i = 8} (omega (arith, length-int8 f.upper)) in
    let same : put_at (field_bytes f) 10 8 (cast_unsigned w64 f.upper) ≡ field_bytes f =
    put_upper f.lower f.upper f.flags f.shape (int8_bytes f.upper)
    ∙ ap (λ (d : List ℕ). f.flags ∷ f.shape ∷ (int8_bytes f.lower ++ int8_bytes f.upper ++ d)) none
    ∙ ap (λ (d : List ℕ). f.flags ∷ f.shape ∷ d) (append-nil (int8_bytes f.lower ++ int8_bytes f.upper)) in
    number_in f.upper (field_bytes f) 10 fits (omega (arith, length-fields f)) same

bound_fits : (b : Option ℤ) → BoundFits b → FitsSigned w64 (number_of_bound b)
bound_fits None fits = record { sfits = omega arith }
bound_fits (Some z) fits = fits

fields_read : (s : SpanSummary) → IsSummary s → fields_in (bytes_of s) ≡ fields_of s
fields_read s lawful =
    let f = fields_of s in
    let bytes = bytes_of s in
    let first : nat_lt (length bytes) 10 ≡ false = le-ltb (length bytes) 10 (omega (arith, length-fields f)) in
    let second : nat_lt (length bytes) 18 ≡ false = le-ltb (length bytes) 18 (omega (arith, length-fields f)) in
    let lower = cond-false (nat_lt (length bytes) 10) (pos 0) (int8_at bytes 2) first ∙ lower_read f (bound_fits (lower_of s.hull) lawful.lower_fits) in
    let upper = cond-false (nat_lt (length bytes) 18) (pos 0) (int8_at bytes 10) second ∙ upper_read f (bound_fits (upper_of s.hull) lawful.upper_fits) in
    λ i. record { flags = f.flags; shape = f.shape; lower = lower i; upper = upper i }

-- the fields of a summary are in form
in_form : (e : Bool) (u : Range) → IsRange u → field_fault (fields_of (record { empty_added = e; hull = u })) ≡ None
in_form true Empty is = refl
in_form false Empty is = refl
in_form true (Between None None) is = refl
in_form false (Between None None) is = refl
in_form true (Between (Some l) None) is = refl
in_form false (Between (Some l) None) is = refl
in_form true (Between None (Some h)) is = refl
in_form false (Between None (Some h)) is = refl
in_form true (Between (Some l) (Some h)) is = rw is refl
in_form false (Between (Some l) (Some h)) is = rw is refl

-- bytes of a summary have no fault
pub no_fault : (bytes : List ℕ) (s : SpanSummary) → IsSummary s → bytes ≡ bytes_of s → fault_in bytes ≡ None
no_fault bytes s lawful is =
    ap fault_in is
    ∙ ap (λ (n : ℕ). placed n 18 field_end (field_fault (fields_in (bytes_of s)))) (sized s)
    ∙ ap (λ (f : SpanFields). placed 18 18 field_end (field_fault f)) (fields_read s lawful)
    ∙ ap (placed 18 18 field_end) (in_form s.empty_added s.hull lawful.is_range)
  where
    sized : (s : SpanSummary) → length (bytes_of s) ≡ 18
    sized s = length-fields (fields_of s)

-- the summary of its own fields
from_its_fields : (e : Bool) (u : Range) → from_fields (fields_of (record { empty_added = e; hull = u })) ≡ record { empty_added = e; hull = u }
from_its_fields true Empty = refl
from_its_fields false Empty = refl
from_its_fields true (Between None None) = refl
from_its_fields false (Between None None) = refl
from_its_fields true (Between (Some l) None) = refl
from_its_fields false (Between (Some l) None) = refl
from_its_fields true (Between None (Some h)) = refl
from_its_fields false (Between None (Some h)) = refl
from_its_fields true (Between (Some l) (Some h)) = refl
from_its_fields false (Between (Some l) (Some h)) = refl

-- bytes that were written are read again
pub read_again : (s : SpanSummary) → IsSummary s → read_of (bytes_of s) ≡ Ok s
read_again s lawful =
    ap (λ (fault : Option ℕ). read_unless fault (from_fields (fields_in (bytes_of s)))) (no_fault (bytes_of s) s lawful refl)
    ∙ ap (λ (f : SpanFields). Ok (from_fields f)) (fields_read s lawful)
    ∙ ap Ok (from_its_fields s.empty_added s.hull)
