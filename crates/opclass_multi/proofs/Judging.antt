-- one element, judged field by field
use Rattle.std.proofs.Common.{◌≡◌, ℕ, suc, ◌+◌, ◌≤◌, ◌<◌, ℤ, true, false, cond, Option, Ok, Err, List, length, sym, ap, ◌∙◌, arith}
use Rattle.std.specs.Prelude.{int_lt, nat_lt}
use Rattle.std.proofs.lemmas.Bool.{cond-true, cond-false, lt-ltb, le-ltb}
use Rattle.opclass_multi.specs.Elements.{point}
use Rattle.opclass_multi.specs.Reading.{number_at, is_above, point_in, interval_in}

pub point_below : (before : Option ℤ) (bytes : List ℕ) → 8 ≤ length bytes → is_above before (number_at bytes 0) ≡ false → Err 1 ≡ point_in before bytes
point_below before bytes long below =
    sym (cond-false (nat_lt (length bytes) 8) _ _ (le-ltb (length bytes) 8 long) ∙ cond-false (is_above before (number_at bytes 0)) _ _ below)

pub point_found : (before : Option ℤ) (bytes : List ℕ) → 8 ≤ length bytes → is_above before (number_at bytes 0) ≡ true → Ok (point (number_at bytes 0)) ≡ point_in before bytes
point_found before bytes long above =
    sym (cond-false (nat_lt (length bytes) 8) _ _ (le-ltb (length bytes) 8 long) ∙ cond-true (is_above before (number_at bytes 0)) _ _ above)

pub interval_below : (before : Option ℤ) (bytes : List ℕ) → 8 ≤ length bytes → is_above before (number_at bytes 0) ≡ false → Err 1 ≡ interval_in before bytes
interval_below before bytes long below =
    sym (cond-false (nat_lt (length bytes) 8) _ _ (le-ltb (length bytes) 8 long) ∙ cond-false (is_above before (number_at bytes 0)) _ _ below)

pub interval_short : (before : Option ℤ) (bytes : List ℕ) → 8 ≤ length bytes → is_above before (number_at bytes 0) ≡ true → length bytes < 16 → Err (1 + length bytes) ≡ interval_in before bytes
interval_short before bytes long above short =
    let place : 1 + length bytes ≡ suc (length bytes) = omega arith in
    ap Err place
    ∙ sym (cond-false (nat_lt (length bytes) 8) _ _ (le-ltb (length bytes) 8 long)
    ∙ cond-true (is_above before (number_at bytes 0)) _ _ above
    ∙ cond-true (nat_lt (length bytes) 16) _ _ (lt-ltb (length bytes) 16 short))

interval_ends : (before : Option ℤ) (bytes : List ℕ) → is_above before (number_at bytes 0) ≡ true → 16 ≤ length bytes
    → interval_in before bytes ≡ cond (int_lt (number_at bytes 0) (number_at bytes 8)) (Ok (record { least = number_at bytes 0; greatest = number_at bytes 8 })) (Err 9)
interval_ends before bytes above full =
    cond-false (nat_lt (length bytes) 8) _ _ (le-ltb (length bytes) 8 (omega arith))
    ∙ cond-true (is_above before (number_at bytes 0)) _ _ above
    ∙ cond-false (nat_lt (length bytes) 16) _ _ (le-ltb (length bytes) 16 full)

pub interval_narrow : (before : Option ℤ) (bytes : List ℕ) → is_above before (number_at bytes 0) ≡ true → 16 ≤ length bytes → int_lt (number_at bytes 0) (number_at bytes 8) ≡ false → Err 9 ≡ interval_in before bytes
interval_narrow before bytes above full narrow =
    sym (interval_ends before bytes above full ∙ cond-false (int_lt (number_at bytes 0) (number_at bytes 8)) _ _ narrow)

pub interval_found : (before : Option ℤ) (bytes : List ℕ) → is_above before (number_at bytes 0) ≡ true → 16 ≤ length bytes → int_lt (number_at bytes 0) (number_at bytes 8) ≡ true
    → Ok (record { least = number_at bytes 0; greatest = number_at bytes 8 }) ≡ interval_in before bytes
interval_found before bytes above full wide =
    sym (interval_ends before bytes above full ∙ cond-true (int_lt (number_at bytes 0) (number_at bytes 8)) _ _ wide)
