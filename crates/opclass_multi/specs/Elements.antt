-- the elements of a summary: points and intervals of int8
use Rattle.std.specs.Prelude.{ℕ, ℤ, int_lt, int_le, ◌≤ℤ◌, ◌<ℤ◌, Bool, ◌&&◌, if◌then◌else◌, FitsSigned, List, [], ◌∷◌}
use Rattle.std.specs.Int.{w64}
use Rattle.std.specs.List.{list_any, sum_by}
use Rattle.opclass_multi.specs.declared.element.Element.{Element}

-- a number alone
abbrev pub point : ℤ → Element
point v = record { least = v; greatest = v }

-- both ends are of int8, and the least is not above the greatest
pub record IsOrdered (e : Element) : Type 0 where
  pub least_fits : FitsSigned w64 e.least
  pub greatest_fits : FitsSigned w64 e.greatest
  pub in_order : e.least ≤ℤ e.greatest

-- a point counts 1 and an interval 2
abbrev pub weight : Element → ℕ
weight e = if int_lt e.least e.greatest then 2 else 1

-- what the elements count together
abbrev pub count_of : List Element → ℕ
count_of es = sum_by weight es

-- no element, or the first starts after the number
abbrev pub StartsAfter : ℤ → List Element → Type 0
StartsAfter v [] = Unit {0}
StartsAfter v (e ∷ es) = v <ℤ e.least

-- no element, or the first ends at the number or behind it
abbrev pub EndsFrom : ℤ → List Element → Type 0
EndsFrom v [] = Unit {0}
EndsFrom v (e ∷ es) = v ≤ℤ e.greatest

-- ascending, and no two with a common number
abbrev pub AreApart : List Element → Type 0
AreApart [] = Unit {0}
AreApart (e ∷ es) = IsOrdered e × StartsAfter e.greatest es × AreApart es

-- the element holds the numbers from p to q
abbrev pub covers : ℤ → ℤ → Element → Bool
covers p q e = int_le e.least p && int_le q e.greatest

-- one of the elements holds the numbers from p to q
abbrev pub holds : List Element → ℤ → ℤ → Bool
holds es p q = list_any (covers p q) es
