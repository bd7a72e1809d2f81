-- the range that is made from two bounds with a number between them
use Rattle.std.proofs.Common.{◌≡◌, ℤ, pos, ◌^◌, ◌-◌, Bool, true, false, not, ◌&&◌, Option, None, Some, Ok, Err, IfOk, refl, sym, ap, subst, arith}
use Rattle.std.specs.Prelude.{int_lt, int_le, if◌then◌else◌}
use Rattle.std.specs.Ordering.{int_eq}
use Rattle.std.proofs.lemmas.Bool.{false≢true}
use Rattle.std.proofs.lemmas.Int.{ints}
use Rattle.block_model.specs.declared.span.SpanFault.TheVariants as faults
use Rattle.block_model.specs.Ranges.{Range, Empty, Between, leaves_room}
use Rattle.block_model.specs.RangeBounds.{canonical_range, range_from_bounds, within_int8}
use Rattle.opclass_inclusion.specs.SpanHulls.{bracketed}

-- a bound past int8 makes no range
lower_made : (l : ℤ) (b : Bool) → IfOk (canonical_range (if b then Ok (Some l) else Err faults.Range) (Ok None)) (λ r. r ≡ Between (Some l) None)
lower_made l true = refl
lower_made l false = tt

upper_made : (h : ℤ) (b : Bool) → IfOk (canonical_range (Ok None) (if b then Ok (Some h) else Err faults.Range)) (λ r. r ≡ Between None (Some h))
upper_made h true = refl
upper_made h false = tt

both_made : (l h : ℤ) (a b : Bool) → int_eq l h ≡ false → IfOk (canonical_range (if a then Ok (Some l) else Err faults.Range) (if b then Ok (Some h) else Err faults.Range)) (λ r. r ≡ Between (Some l) (Some h))
both_made l h true true apart = ap (λ (e : Bool). if e then Empty else Between (Some l) (Some h)) apart
both_made l h true false apart = tt
both_made l h false b apart = tt

in_order_made : (l h : ℤ) (s t : Bool) → s ≡ false → t ≡ false → int_eq l h ≡ false
    → IfOk (if s then Err faults.Order else if t then Ok Empty else canonical_range (within_int8 (Some l)) (within_int8 (Some h))) (λ r. r ≡ Between (Some l) (Some h))
in_order_made l h true t order several apart = absurd (false≢true (sym order))
in_order_made l h false true order several apart = absurd (false≢true (sym several))
in_order_made l h false false order several apart = both_made l h (int_le l (pos (2 ^ 63 - 1))) (int_le h (pos (2 ^ 63 - 1))) apart

made : (l h : Option ℤ) → leaves_room l h ≡ true → IfOk (range_from_bounds (bracketed l true) (bracketed h false)) (λ r. r ≡ Between l h)
made None None room = refl
made (Some l) None room = lower_made l (int_le l (pos (2 ^ 63 - 1)))
made None (Some h) room = upper_made h (int_le h (pos (2 ^ 63 - 1)))
made (Some l) (Some h) room =
    let order : int_lt h l ≡ false = grind (arith, ints) in
    let apart : int_eq l h ≡ false = grind (arith, ints) in
    let several : (int_eq l h && not (true && false)) ≡ false = ap (λ (e : Bool). e && not (true && false)) apart in
    in_order_made l h (int_lt h l) (int_eq l h && not (true && false)) order several apart

pub range_made : (l h : Option ℤ) (r : Range) → leaves_room l h ≡ true → range_from_bounds (bracketed l true) (bracketed h false) ≡ Ok r → r ≡ Between l h
range_made l h r room is = subst (λ x. IfOk x (λ r. r ≡ Between l h)) is (made l h room)
