-- A value in its column: what was written is read and has no fault, and what has no fault was written.
use Rattle.std.proofs.Common.{◌≡◌, ℕ, ℤ, pos, suc, ◌<◌, ◌≤◌, ◌^◌, Bool, true, false, cond, eqb, List, [], ◌∷◌, ◌++◌, length, take, drop, refl, sym, ap, ◌∙◌, FitsSigned, append_assoc, length-drop, arith}
use Rattle.std.specs.Prelude.{None, Some, int_lt, nat_lt}
use Rattle.std.specs.Int.{w64, bytes_high_first, cast_signed, cast_unsigned}
use Rattle.std.specs.Ordering.{int_eq}
use Rattle.std.proofs.lemmas.Bool.{eqb-true, ltb-true}
use Rattle.std.proofs.lemmas.Int.{ints}
use Rattle.std.proofs.Math.Facts.{sfits_to_z}
use Rattle.std.proofs.lemmas.List.{take-append-drop, drop-drop}
use Rattle.block_model.specs.declared.value.Kind.{Kind}
use Rattle.block_model.specs.declared.value.Kind.TheVariants as kinds
use Rattle.block_model.specs.declared.value.Value.{Value}
use Rattle.block_model.specs.declared.value.Value.TheVariants.{Null, Int, Span, Net}
use Rattle.block_model.specs.Ranges.{Range, Empty, Between, IsRange, lower_of, upper_of}
use Rattle.block_model.specs.RowSize.{value_size}
use Rattle.block_model.specs.ValuesOfKind.{has_kind}
use Rattle.index_layout.specs.Int8.{int8_at}
use Rattle.index_layout.specs.Fields.{AreBytes, number_of, number-bytes, AreBytes-drop}
use Rattle.page_layout.specs.RowBytes.{IsValue, IsBound, column_bytes, range_flags, bound_bytes, is_null}
use Rattle.page_layout.specs.RowReading.{stored_range, value_in, column_in}
use Rattle.page_layout.specs.RowFaults.{first_of, fault_unless, absent_fault, range_fault, value_fault, null_fault, column_fault}
use Rattle.page_layout.proofs.Faults.{first_none, holds-unless}
use Rattle.page_layout.proofs.Numbers.{signed_back, signed_bytes, field-bytes, field-small, zero-bytes}

-- a value is read from its column
pub column_again : (kind : Kind) (value : Value) (rest : List ℕ) → has_kind kind value ≡ true → IsValue value → column_in (is_null value) kind (column_bytes kind value ++ rest) ≡ value
column_again kind Null rest h fits = refl
column_again kinds.Int (Int n) rest h fits = ap Int (signed_back n fits)
column_again kinds.Int (Span r) rest h fits = absurd cc
column_again kinds.Int (Net n) rest h fits = absurd cc
column_again kinds.Span (Int n) rest h fits = absurd cc
column_again kinds.Span (Span Empty) rest h fits = refl
column_again kinds.Span (Span (Between None None)) rest h fits = refl
column_again kinds.Span (Span (Between None (Some u))) rest h fits = ap (λ (z : ℤ). Span (Between None (Some z))) (signed_back u fits.1.1)
column_again kinds.Span (Span (Between (Some l) None)) rest h fits = ap (λ (z : ℤ). Span (Between (Some z) None)) (signed_back l fits.1.0)
column_again kinds.Span (Span (Between (Some l) (Some u))) rest h fits = λ i. Span (Between (Some (signed_back l fits.1.0 i)) (Some (signed_back u fits.1.1 i)))
column_again kinds.Span (Net n) rest h fits = absurd cc
column_again kinds.Net (Int n) rest h fits = absurd cc
column_again kinds.Net (Span r) rest h fits = absurd cc
column_again kinds.Net (Net n) rest h fits = λ i. Net (record { family = sym fits.family i; prefix = n.prefix; address = number-bytes 4 n.address fits.address i })

zero-signed : int_eq (cast_signed w64 (number_of (bytes_high_first 8 0))) (pos 0) ≡ true
zero-signed = ap (λ (n : ℕ). int_eq (cast_signed w64 n) (pos 0)) (number-bytes 8 0 (omega arith))

pub zero-number : (n : ℕ) → 0 < 256 ^ n → eqb (number_of (bytes_high_first n 0)) 0 ≡ true
zero-number n some = ap (λ (x : ℕ). eqb x 0) (number-bytes n 0 some)

-- a value's column has no fault
pub column_passes : (kind : Kind) (value : Value) (rest : List ℕ) → has_kind kind value ≡ true → IsValue value → column_fault (is_null value) kind (column_bytes kind value ++ rest) ≡ None
column_passes kinds.Int Null rest h fits = ap (λ (b : Bool). fault_unless b 0) (zero-number 8 (omega arith))
column_passes kinds.Span Null rest h fits = ap (λ (b : Bool). first_of (fault_unless b 1) (fault_unless b 9)) zero-signed
column_passes kinds.Net Null rest h fits = ap (λ (b : Bool). fault_unless b 2) (zero-number 4 (omega arith))
column_passes kinds.Int (Int n) rest h fits = refl
column_passes kinds.Int (Span r) rest h fits = absurd cc
column_passes kinds.Int (Net n) rest h fits = absurd cc
column_passes kinds.Span (Int n) rest h fits = absurd cc
column_passes kinds.Span (Span Empty) rest h fits = ap (λ (b : Bool). first_of (fault_unless b 1) (fault_unless b 9)) zero-signed
column_passes kinds.Span (Span (Between None None)) rest h fits = ap (λ (b : Bool). first_of (fault_unless b 1) (fault_unless b 9)) zero-signed
column_passes kinds.Span (Span (Between None (Some u))) rest h fits = ap (λ (b : Bool). fault_unless b 1) zero-signed
column_passes kinds.Span (Span (Between (Some l) None)) rest h fits = ap (λ (b : Bool). fault_unless b 9) zero-signed
column_passes kinds.Span (Span (Between (Some l) (Some u))) rest h fits =
    ap (λ (b : Bool). fault_unless b 9) ((λ i. int_lt (signed_back l fits.1.0 i) (signed_back u fits.1.1 i)) ∙ fits.0)
column_passes kinds.Span (Net n) rest h fits = absurd cc
column_passes kinds.Net (Int n) rest h fits = absurd cc
column_passes kinds.Net (Span r) rest h fits = absurd cc
column_passes kinds.Net (Net n) rest h fits = ap (λ (b : Bool). fault_unless b 1) (Rattle.std.proofs.lemmas.Bool.lt-ltb n.prefix 33 (let p = fits.prefix in omega arith))

-- what a range's fields say that have no fault
record RangeTaken (flags : ℕ) (l h : ℤ) (r : Range) : Type 0 where
  flagged : range_flags r ≡ flags
  canonical : IsRange r
  lower : bound_bytes (lower_of r) ≡ bytes_high_first 8 (cast_unsigned w64 l)
  upper : bound_bytes (upper_of r) ≡ bytes_high_first 8 (cast_unsigned w64 h)
  lower_fits : FitsSigned w64 l → IsBound (lower_of r)
  upper_fits : FitsSigned w64 h → IsBound (upper_of r)

is_zero : (z : ℤ) → int_eq z (pos 0) ≡ true → z ≡ pos 0
is_zero z e = grind (arith, ints)

zero-bound : (z : ℤ) → int_eq z (pos 0) ≡ true → bound_bytes None ≡ bytes_high_first 8 (cast_unsigned w64 z)
zero-bound z e = ap (λ (y : ℤ). bytes_high_first 8 (cast_unsigned w64 y)) (sym (is_zero z e))

both-absent : (l h : ℤ) → absent_fault l h ≡ None → (int_eq l (pos 0) ≡ true) × (int_eq h (pos 0) ≡ true)
both-absent l h f =
    let parts = first_none (fault_unless (int_eq l (pos 0)) 1) (fault_unless (int_eq h (pos 0)) 9) f in
    (holds-unless (int_eq l (pos 0)) 1 parts.0, holds-unless (int_eq h (pos 0)) 9 parts.1)

range_by : (flags : ℕ) (l h : ℤ) (b0 b2 b4 b1 b6 : Bool) → eqb flags 0 ≡ b0 → eqb flags 2 ≡ b2 → eqb flags 4 ≡ b4 → eqb flags 1 ≡ b1 → eqb flags 6 ≡ b6
    → cond b0 (fault_unless (int_lt l h) 9) (cond b2 (fault_unless (int_eq l (pos 0)) 1) (cond b4 (fault_unless (int_eq h (pos 0)) 9) (cond b1 (absent_fault l h) (cond b6 (absent_fault l h) (Some 0))))) ≡ None
    → RangeTaken flags l h (cond b0 (Between (Some l) (Some h)) (cond b2 (Between None (Some h)) (cond b4 (Between (Some l) None) (cond b6 (Between None None) Empty))))
range_by flags l h true b2 b4 b1 b6 e0 e2 e4 e1 e6 f =
    record { flagged = sym (eqb-true flags 0 e0); canonical = holds-unless (int_lt l h) 9 f; lower = refl; upper = refl; lower_fits = λ g. g; upper_fits = λ g. g }
range_by flags l h false true b4 b1 b6 e0 e2 e4 e1 e6 f =
    record { flagged = sym (eqb-true flags 2 e2); canonical = refl; lower = zero-bound l (holds-unless (int_eq l (pos 0)) 1 f); upper = refl; lower_fits = λ g. tt; upper_fits = λ g. g }
range_by flags l h false false true b1 b6 e0 e2 e4 e1 e6 f =
    record { flagged = sym (eqb-true flags 4 e4); canonical = refl; lower = refl; upper = zero-bound h (holds-unless (int_eq h (pos 0)) 9 f); lower_fits = λ g. g; upper_fits = λ g. tt }
range_by flags l h false false false true true e0 e2 e4 e1 e6 f =
    let one : flags ≡ 1 = eqb-true flags 1 e1 in let six : flags ≡ 6 = eqb-true flags 6 e6 in absurd (omega arith)
range_by flags l h false false false true false e0 e2 e4 e1 e6 f =
    let zero = both-absent l h f in
    record { flagged = sym (eqb-true flags 1 e1); canonical = tt; lower = zero-bound l zero.0; upper = zero-bound h zero.1; lower_fits = λ g. tt; upper_fits = λ g. tt }
range_by flags l h false false false false true e0 e2 e4 e1 e6 f =
    let zero = both-absent l h f in
    record { flagged = sym (eqb-true flags 6 e6); canonical = refl; lower = zero-bound l zero.0; upper = zero-bound h zero.1; lower_fits = λ g. tt; upper_fits = λ g. tt }
range_by flags l h false false false false false e0 e2 e4 e1 e6 f = absurd cc

range_takes : (flags : ℕ) (l h : ℤ) → range_fault flags l h ≡ None → RangeTaken flags l h (stored_range flags l h)
range_takes flags l h f = range_by flags l h (eqb flags 0) (eqb flags 2) (eqb flags 4) (eqb flags 1) (eqb flags 6) refl refl refl refl refl f

two_fields : (b : List ℕ) → (take 8 b ++ take 8 (drop 8 b)) ++ drop 16 b ≡ b
two_fields b =
    append_assoc (take 8 b) (take 8 (drop 8 b)) (drop 16 b)
    ∙ ap (λ (t : List ℕ). take 8 b ++ (take 8 (drop 8 b) ++ t)) (sym (drop-drop 8 8 b))
    ∙ ap (λ (t : List ℕ). take 8 b ++ t) (take-append-drop 8 (drop 8 b))
    ∙ take-append-drop 8 b

fits_signed : (n : ℕ) → n < 256 ^ 8 → FitsSigned w64 (cast_signed w64 n)
fits_signed n low = sfits_to_z (record { fits = omega arith })

-- what stands in a column that has no fault
pub record ColumnTaken (null : Bool) (kind : Kind) (bytes : List ℕ) (value : Value) : Type 0 where
  pub has : has_kind kind value ≡ true
  pub is : IsValue value
  pub nulled : is_null value ≡ null
  pub written : column_bytes kind value ++ drop (value_size kind) bytes ≡ bytes

null_takes : (kind : Kind) (bytes : List ℕ) → value_size kind ≤ length bytes → AreBytes bytes → null_fault kind bytes ≡ None → ColumnTaken true kind bytes Null
null_takes kinds.Int bytes long small f = record {
  has = refl;
  is = tt;
  nulled = refl;
  written = ap (λ (t : List ℕ). t ++ drop 8 bytes) (sym (zero-bytes 8 bytes long small (holds-unless (eqb (number_of (take 8 bytes)) 0) 0 f))) ∙ take-append-drop 8 bytes;
}
null_takes kinds.Span [] long small f = absurd (omega arith)
null_takes kinds.Span (x ∷ b) long small f =
    let more : 16 ≤ length b = omega arith in
    let tight : AreBytes b = λ i. small (suc i) in
    let one = first_none (fault_unless (eqb x 0) 0) (absent_fault (int8_at (x ∷ b) 1) (int8_at (x ∷ b) 9)) f in
    let zero : x ≡ 0 = eqb-true x 0 (holds-unless (eqb x 0) 0 one.0) in
    let both = both-absent (int8_at (x ∷ b) 1) (int8_at (x ∷ b) 9) one.1 in
    let low : bound_bytes None ≡ take 8 b = zero-bound (int8_at (x ∷ b) 1) both.0 ∙ signed_bytes b (omega arith) tight in
    let high : bound_bytes None ≡ take 8 (drop 8 b) = zero-bound (int8_at (x ∷ b) 9) both.1 ∙ signed_bytes (drop 8 b) (omega (arith, length-drop 8 b)) (AreBytes-drop 8 b tight) in
    record { has = refl; is = tt; nulled = refl; written = (λ i. sym zero i ∷ ((low i ++ high i) ++ drop 16 b)) ∙ ap (λ (t : List ℕ). x ∷ t) (two_fields b) }
null_takes kinds.Net [] long small f = absurd (omega arith)
null_takes kinds.Net (x ∷ []) long small f = absurd (omega arith)
null_takes kinds.Net (x ∷ y ∷ b) long small f =
    let tight : AreBytes b = λ i. small (suc (suc i)) in
    let one = first_none (fault_unless (eqb x 0) 0) (first_of (fault_unless (eqb y 0) 1) (fault_unless (eqb (number_of (take 4 b)) 0) 2)) f in
    let two = first_none (fault_unless (eqb y 0) 1) (fault_unless (eqb (number_of (take 4 b)) 0) 2) one.1 in
    let first : x ≡ 0 = eqb-true x 0 (holds-unless (eqb x 0) 0 one.0) in
    let second : y ≡ 0 = eqb-true y 0 (holds-unless (eqb y 0) 1 two.0) in
    let zeros = zero-bytes 4 b (omega arith) tight (holds-unless (eqb (number_of (take 4 b)) 0) 2 two.1) in
    record { has = refl; is = tt; nulled = refl; written = (λ i. sym first i ∷ sym second i ∷ (sym zeros i ++ drop 4 b)) ∙ ap (λ (t : List ℕ). x ∷ y ∷ t) (take-append-drop 4 b) }

value_takes : (kind : Kind) (bytes : List ℕ) → value_size kind ≤ length bytes → AreBytes bytes → value_fault kind bytes ≡ None → ColumnTaken false kind bytes (value_in kind bytes)
value_takes kinds.Int bytes long small f =
    record { has = refl; is = fits_signed (number_of (take 8 bytes)) (field-small 8 bytes long small); nulled = refl; written = ap (λ (t : List ℕ). t ++ drop 8 bytes) (signed_bytes bytes long small) ∙ take-append-drop 8 bytes }
value_takes kinds.Span [] long small f = absurd (omega arith)
value_takes kinds.Span (x ∷ b) long small f =
    let more : 16 ≤ length b = omega arith in
    let tight : AreBytes b = λ i. small (suc i) in
    let t = range_takes x (int8_at (x ∷ b) 1) (int8_at (x ∷ b) 9) f in
    let len : 8 ≤ length (drop 8 b) = omega (arith, length-drop 8 b) in
    let low = t.lower ∙ signed_bytes b (omega arith) tight in
    let high = t.upper ∙ signed_bytes (drop 8 b) len (AreBytes-drop 8 b tight) in
    record {
      has = refl;
      is = (t.canonical, (t.lower_fits (fits_signed (number_of (take 8 b)) (field-small 8 b (omega arith) tight)), t.upper_fits (fits_signed (number_of (take 8 (drop 8 b))) (field-small 8 (drop 8 b) len (AreBytes-drop 8 b tight)))));
      nulled = refl;
      written = (λ i. t.flagged i ∷ ((low i ++ high i) ++ drop 16 b)) ∙ ap (λ (t : List ℕ). x ∷ t) (two_fields b);
    }
value_takes kinds.Net [] long small f = absurd (omega arith)
value_takes kinds.Net (x ∷ []) long small f = absurd (omega arith)
value_takes kinds.Net (x ∷ y ∷ b) long small f =
    let tight : AreBytes b = λ i. small (suc (suc i)) in
    let one = first_none (fault_unless (eqb x 4) 0) (fault_unless (nat_lt y 33) 1) f in
    let first : x ≡ 4 = eqb-true x 4 (holds-unless (eqb x 4) 0 one.0) in
    let second : y < 33 = ltb-true y 33 (holds-unless (nat_lt y 33) 1 one.1) in
    let low = field-small 4 b (omega arith) tight in
    record {
      has = refl;
      is = record { family = refl; prefix = omega arith; address = omega arith };
      nulled = refl;
      written = (λ i. sym first i ∷ y ∷ (field-bytes 4 b (omega arith) tight i ++ drop 4 b)) ∙ ap (λ (t : List ℕ). x ∷ y ∷ t) (take-append-drop 4 b);
    }

-- what has no fault is a column's value
pub column_takes : (null : Bool) (kind : Kind) (bytes : List ℕ) → value_size kind ≤ length bytes → AreBytes bytes → column_fault null kind bytes ≡ None → ColumnTaken null kind bytes (column_in null kind bytes)
column_takes true kind bytes long small f = null_takes kind bytes long small f
column_takes false kind bytes long small f = value_takes kind bytes long small f
