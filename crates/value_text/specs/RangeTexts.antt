-- the texts of int8range ("Range Types"): two bounds in brackets, each with a number or infinite
use Rattle.std.specs.Prelude.{ℕ, ◌+◌, ◌-◌, ◌^◌, Bool, false, not, ◌&&◌, if◌then◌else◌, List, [], ◌++◌, length, codes, ℤ, pos, Option, None, Some, IfSome, Result, Ok, Err}
use Rattle.std.specs.Ordering.{int_eq}
use Rattle.block_model.specs.Ranges.{Range}
use Rattle.block_model.specs.RangeBounds.{Bound, range_from_bounds}
use Rattle.block_model.specs.declared.span.SpanFault.{SpanFault}
use Rattle.block_model.specs.declared.span.SpanFault.TheVariants as faults
use Rattle.value_text.specs.IntTexts.{NumberText, IsNumber, number_bytes, int8_of}

-- a bound as it is written: its number, or none where that side is infinite, and whether its bracket is a square one
pub record BoundText : Type 0 where
  pub number : Option NumberText
  pub inclusive : Bool

-- what stands for a number is one
abbrev pub IsBound : BoundText → Type 0
IsBound b = IfSome b.number IsNumber

-- the bytes of a number, or none
abbrev pub side_bytes : Option NumberText → List ℕ
side_bytes None = []
side_bytes (Some n) = number_bytes n

-- a bracket, and the number behind it
abbrev pub lower_bytes : BoundText → List ℕ
lower_bytes b = (if b.inclusive then codes "[" else codes "(") ++ side_bytes b.number

-- the number, and a bracket behind it
abbrev pub upper_bytes : BoundText → List ℕ
upper_bytes b = side_bytes b.number ++ (if b.inclusive then codes "]" else codes ")")

-- the bytes that write a range
abbrev pub bounds_bytes : BoundText → BoundText → List ℕ
bounds_bytes lower upper = lower_bytes lower ++ codes "," ++ upper_bytes upper

-- a number of int8 with its bracket
abbrev pub bound_with : Bool → Option ℤ → Option Bound
bound_with inclusive None = None
bound_with inclusive (Some n) = Some (Some (n, inclusive))

-- the bound with that number and bracket, without a number an infinite one
abbrev pub side_of : Option NumberText → Bool → Option Bound
side_of None inclusive = Some None
side_of (Some n) inclusive = bound_with inclusive (int8_of n)

-- the bound that is written, where its number is one of int8
abbrev pub bound_of : BoundText → Option Bound
bound_of b = side_of b.number b.inclusive

-- where the number of the lower bound begins
abbrev pub lower_place : ℕ
lower_place = 1

-- where the number of the upper bound begins
abbrev pub upper_place : BoundText → ℕ
upper_place lower = length (lower_bytes lower) + 1

-- an exclusive lower bound at the end of int8 grows past it
abbrev pub lower_grows_past : Bound → Bool
lower_grows_past None = false
lower_grows_past (Some b) = not b.1 && int_eq b.0 (pos (2 ^ 63 - 1))

-- where the number of the bound begins that grows past int8
abbrev pub growth_place : BoundText → Bound → ℕ
growth_place lower l = if lower_grows_past l then lower_place else upper_place lower

-- a range, or where its fault is: at the start where the bounds are out of order
abbrev pub placed : BoundText → Bound → Result Range SpanFault → Result Range ℕ
placed lower l (Ok range) = Ok range
placed lower l (Err faults.Order) = Err 0
placed lower l (Err faults.Range) = Err (growth_place lower l)

-- the range of bounds whose numbers are of int8, else where the first begins that isn't
abbrev pub range_with : BoundText → Option Bound → Option Bound → Result Range ℕ
range_with lower None h = Err lower_place
range_with lower (Some l) None = Err (upper_place lower)
range_with lower (Some l) (Some h) = placed lower l (range_from_bounds l h)

-- the range that is written, or where the number begins that doesn't fit
abbrev pub written_range : BoundText → BoundText → Result Range ℕ
written_range lower upper = range_with lower (bound_of lower) (bound_of upper)
