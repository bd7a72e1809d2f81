-- the numbers of a range that is made from two bounds
use Rattle.std.specs.Prelude.{◌≡◌, ℤ, pos, ◌+ℤ◌, int_lt, int_le, Bool, true, false, not, ◌&&◌, ◌^◌, ◌-◌, if◌then◌else◌, Some, Ok, Err, IfOk, refl}
use Rattle.std.specs.Ordering.{int_eq}
use Rattle.std.proofs.Common.{arith, ◌∙◌}
use Rattle.std.proofs.lemmas.Int.{ints}
use Rattle.block_model.specs.declared.span.SpanFault.TheVariants as faults
use Rattle.block_model.specs.Ranges.{Range, Empty, Between, has_number}
use Rattle.block_model.specs.RangeBounds.{grown_lower, grown_upper, within_int8, canonical_range, is_not_before, is_not_beyond, range_between, HasNumbersBetween}

-- in canonical form the bounds alone decide
canonical_numbers : (l h n : ℤ) → has_number (if int_eq l h then Empty else Between (Some l) (Some h)) n ≡ (int_le l n && int_lt n h)
canonical_numbers l h n = grind (arith, ints)

none_between : (l h n : ℤ) (i j : Bool) → (int_eq l h && not (i && j)) ≡ true → false ≡ (is_not_before (Some (l, i)) n && is_not_beyond (Some (h, j)) n)
none_between l h n true true e = grind (arith, ints)
none_between l h n true false e = grind (arith, ints)
none_between l h n false true e = grind (arith, ints)
none_between l h n false false e = grind (arith, ints)

from_there : (l n : ℤ) (i : Bool) → int_le (if i then l else l +ℤ pos 1) n ≡ is_not_before (Some (l, i)) n
from_there l n true = refl
from_there l n false = grind (arith, ints)

below_there : (h n : ℤ) (j : Bool) → int_lt n (if j then h +ℤ pos 1 else h) ≡ is_not_beyond (Some (h, j)) n
below_there h n true = grind (arith, ints)
below_there h n false = refl

-- what holds of the canonical form holds wherever it is in int8
where_it_fits : (P : Range → Type 0) (l h : ℤ) → P (if int_eq l h then Empty else Between (Some l) (Some h)) → IfOk (canonical_range (within_int8 (Some l)) (within_int8 (Some h))) P
where_it_fits P l h holds = by (int_le l (pos (2 ^ 63 - 1))) (int_le h (pos (2 ^ 63 - 1)))
  where
    by : (s t : Bool) → IfOk (canonical_range (if s then Ok (Some l) else Err faults.Range) (if t then Ok (Some h) else Err faults.Range)) P
    by true true = holds
    by true false = tt
    by false t = tt

pub numbers_between : (l h : ℤ × Bool) → IfOk (range_between l h) (HasNumbersBetween (Some l) (Some h))
numbers_between l h = by (int_lt h.0 l.0) (int_eq l.0 h.0 && not (l.1 && h.1)) refl
  where
    kept : IfOk (canonical_range (within_int8 (grown_lower (Some l))) (within_int8 (grown_upper (Some h)))) (HasNumbersBetween (Some l) (Some h))
    kept = where_it_fits (HasNumbersBetween (Some l) (Some h)) (if l.1 then l.0 else l.0 +ℤ pos 1) (if h.1 then h.0 +ℤ pos 1 else h.0) (λ n. canonical_numbers (if l.1 then l.0 else l.0 +ℤ pos 1) (if h.1 then h.0 +ℤ pos 1 else h.0) n ∙ (λ k. from_there l.0 n l.1 k && below_there h.0 n h.1 k))

    by : (s t : Bool) → (int_eq l.0 h.0 && not (l.1 && h.1)) ≡ t → IfOk (if s then Err faults.Order else if t then Ok Empty else canonical_range (within_int8 (grown_lower (Some l))) (within_int8 (grown_upper (Some h)))) (HasNumbersBetween (Some l) (Some h))
    by true t e = tt
    by false true e = λ n. none_between l.0 h.0 n l.1 h.1 e
    by false false e = kept
