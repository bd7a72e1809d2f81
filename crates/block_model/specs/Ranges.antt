-- ranges of whole numbers ("Range Types")
use Rattle.std.specs.Prelude.{◌≡◌, ℤ, int_lt, int_le, Bool, true, false, ◌&&◌, Option, None, Some}
use Rattle.std.specs.Ordering.{int_eq}

-- no number, or those from the first bound on and below the second; a missing bound is infinite
pub data Range : Type 0 where
  Empty : Range
  Between : Option ℤ → Option ℤ → Range

-- the number isn't before the lower bound
abbrev pub is_from : Option ℤ → ℤ → Bool
is_from None n = true
is_from (Some l) n = int_le l n

-- the number is before the upper bound
abbrev pub is_below : Option ℤ → ℤ → Bool
is_below None n = true
is_below (Some h) n = int_lt n h

-- the range has the number
abbrev pub has_number : Range → ℤ → Bool
has_number Empty n = false
has_number (Between l h) n = is_from l n && is_below h n

-- some number is from the lower bound on and below the upper one
abbrev pub leaves_room : Option ℤ → Option ℤ → Bool
leaves_room None h = true
leaves_room (Some l) None = true
leaves_room (Some l) (Some h) = int_lt l h

-- the first lower bound isn't after the second
abbrev pub starts_first : Option ℤ → Option ℤ → Bool
starts_first None l = true
starts_first (Some a) None = false
starts_first (Some a) (Some b) = int_le a b

-- the first upper bound isn't before the second
abbrev pub ends_last : Option ℤ → Option ℤ → Bool
ends_last None h = true
ends_last (Some a) None = false
ends_last (Some a) (Some b) = int_le b a

abbrev pub same_bound : Option ℤ → Option ℤ → Bool
same_bound None None = true
same_bound (Some a) (Some b) = int_eq a b
same_bound a b = false

-- both are finite, and the first isn't after the second
abbrev pub meets_before : Option ℤ → Option ℤ → Bool
meets_before (Some a) (Some b) = int_le a b
meets_before a b = false

-- both are finite and equal
abbrev pub touches : Option ℤ → Option ℤ → Bool
touches (Some a) (Some b) = int_eq a b
touches a b = false

-- a range that isn't empty has a number
abbrev pub IsRange : Range → Type 0
IsRange Empty = Unit {0}
IsRange (Between l h) = leaves_room l h ≡ true

-- the bounds that a range has
abbrev pub lower_of : Range → Option ℤ
lower_of Empty = None
lower_of (Between l h) = l

abbrev pub upper_of : Range → Option ℤ
upper_of Empty = None
upper_of (Between l h) = h
