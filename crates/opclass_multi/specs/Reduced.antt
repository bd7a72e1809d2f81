-- elements reduced to what a limit allows
use Rattle.std.specs.Prelude.{ℕ, zero, suc, ℤ, pos, ◌-ℤ◌, ◌≤ℤ◌, ◌<ℤ◌, ◌<◌, ◌≤◌, int_lt, nat_lt, ◌&&◌, if◌then◌else◌, List, [], ◌∷◌, length, slice_index_or}
use Rattle.opclass_multi.specs.declared.element.Element.{Element}
use Rattle.opclass_multi.specs.Elements.{point, count_of}

-- the gap between the element at a place and the next: the start of the later minus the end of the earlier
abbrev pub gap_at : List Element → ℕ → ℤ
gap_at es at = (slice_index_or es (suc at) (point (pos 0))).least -ℤ (slice_index_or es at (point (pos 0))).greatest

-- at the place is the least gap, and the lowest of those that are as small
pub record IsLeastGap (es : List Element) (at : ℕ) : Type 0 where
  pub within : suc at < length es
  pub least : (i : ℕ) → suc i < length es → gap_at es at ≤ℤ gap_at es i
  pub lowest : (i : ℕ) → i < at → gap_at es at <ℤ gap_at es i

-- the first two as one interval, from the start of the one to the end of the other
abbrev pub merged_first : Element → List Element → List Element
merged_first e [] = e ∷ []
merged_first e (f ∷ fs) = record { least = e.least; greatest = f.greatest } ∷ fs

-- the element at a place and the next as one interval
abbrev pub merged_at : List Element → ℕ → List Element
merged_at [] at = []
merged_at (e ∷ es) zero = merged_first e es
merged_at (e ∷ es) (suc at) = e ∷ merged_at es at

-- the reduction of elements: while they count more than the limit, the two with the least gap become one
pub data Reduces (limit : ℕ) : List Element → List Element → Type 0 where
  Fits : (es : List Element) → count_of es ≤ limit → Reduces limit es es
  Merges : (es all : List Element) (at : ℕ) → limit < count_of es → IsLeastGap es at → Reduces limit (merged_at es at) all → Reduces limit es all

-- the place behind the first element where the later gaps have their least, but the first where its own gap is no greater
abbrev pub lower_gap : List Element → ℕ → ℕ
lower_gap es later = if (nat_lt (suc later) (length es) && int_lt (gap_at es later) (gap_at es 0)) then later else 0

-- the place of the least gap
abbrev pub least_gap : List Element → ℕ
least_gap [] = 0
least_gap (e ∷ es) = lower_gap (e ∷ es) (suc (least_gap es))

-- at most so many mergers
abbrev pub reduced_by : ℕ → ℕ → List Element → List Element
reduced_by zero limit es = es
reduced_by (suc n) limit es = if nat_lt limit (count_of es) then reduced_by n limit (merged_at es (least_gap es)) else es

-- the elements, reduced; each merger leaves one element less
abbrev pub reduced : ℕ → List Element → List Element
reduced limit es = reduced_by (length es) limit es
