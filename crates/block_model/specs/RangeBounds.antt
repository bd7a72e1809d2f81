-- which range bounds make that are inclusive or not ("Range Types": inclusive and exclusive bounds, discrete range types)
use Rattle.std.specs.Prelude.{◌≡◌, ℤ, pos, ◌+ℤ◌, int_lt, int_le, Bool, true, not, ◌&&◌, ◌-◌, ◌^◌, if◌then◌else◌, Option, None, Some, Result, Ok, Err}
use Rattle.std.specs.Ordering.{int_eq}
use Rattle.block_model.specs.declared.span.SpanFault.{SpanFault}
use Rattle.block_model.specs.declared.span.SpanFault.TheVariants as faults
use Rattle.block_model.specs.Ranges.{Range, Empty, Between, has_number, touches}

-- a bound's number, and whether it is inclusive; a missing bound is infinite
abbrev pub Bound : Type 0
Bound = Option (ℤ × Bool)

-- an exclusive lower bound grows by one
abbrev pub grown_lower : Bound → Option ℤ
grown_lower None = None
grown_lower (Some b) = Some (if b.1 then b.0 else b.0 +ℤ pos 1)

-- and so does an inclusive upper bound
abbrev pub grown_upper : Bound → Option ℤ
grown_upper None = None
grown_upper (Some b) = Some (if b.1 then b.0 +ℤ pos 1 else b.0)

-- a bound that isn't past the end of int8
abbrev pub within_int8 : Option ℤ → Result (Option ℤ) SpanFault
within_int8 None = Ok None
within_int8 (Some b) = if int_le b (pos (2 ^ 63 - 1)) then Ok (Some b) else Err faults.Range

-- the range from the first bound on and below the second; equal ones leave no number
abbrev pub canonical_range : Result (Option ℤ) SpanFault → Result (Option ℤ) SpanFault → Result Range SpanFault
canonical_range (Ok l) (Ok h) = Ok (if touches l h then Empty else Between l h)
canonical_range (Err e) h = Err e
canonical_range l (Err e) = Err e

-- with both numbers: not out of order, and one number alone is in no range that excludes it
abbrev pub range_between : ℤ × Bool → ℤ × Bool → Result Range SpanFault
range_between l h =
    if int_lt h.0 l.0 then Err faults.Order
    else if int_eq l.0 h.0 && not (l.1 && h.1) then Ok Empty
    else canonical_range (within_int8 (grown_lower (Some l))) (within_int8 (grown_upper (Some h)))

-- the range that the bounds make
abbrev pub range_from_bounds : Bound → Bound → Result Range SpanFault
range_from_bounds (Some l) (Some h) = range_between l h
range_from_bounds l h = canonical_range (within_int8 (grown_lower l)) (within_int8 (grown_upper h))

-- the number isn't before the lower bound
abbrev pub is_not_before : Bound → ℤ → Bool
is_not_before None n = true
is_not_before (Some b) n = if b.1 then int_le b.0 n else int_lt b.0 n

-- the number isn't beyond the upper bound
abbrev pub is_not_beyond : Bound → ℤ → Bool
is_not_beyond None n = true
is_not_beyond (Some b) n = if b.1 then int_le n b.0 else int_lt n b.0

-- the range has the numbers that aren't before the lower bound and aren't beyond the upper one, and no others
abbrev pub HasNumbersBetween : Bound → Bound → Range → Type 0
HasNumbersBetween lower upper r = (n : ℤ) → has_number r n ≡ (is_not_before lower n && is_not_beyond upper n)
