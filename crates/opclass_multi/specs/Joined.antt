-- elements of which some may have a common number, joined
use Rattle.std.specs.Prelude.{◌≡◌, ℤ, pos, ◌+ℤ◌, int_lt, if◌then◌else◌, ◌||◌, List, [], ◌∷◌, fold, map}
use Rattle.std.specs.Int.{int_min, int_max}
use Rattle.opclass_multi.specs.declared.element.Element.{Element}
use Rattle.opclass_multi.specs.Elements.{AreApart, holds}

-- from the least to the greatest number of both
abbrev pub hull : Element → Element → Element
hull e f = record { least = int_min e.least f.least; greatest = int_max e.greatest f.greatest }

-- the elements and one more in its place: while it has a number in common with one of them, the two become their hull
abbrev pub with_element : Element → List Element → List Element
with_element e [] = e ∷ []
with_element e (f ∷ fs) =
    if int_lt e.greatest f.least then e ∷ f ∷ fs
    else (if int_lt f.greatest e.least then f ∷ with_element e fs else with_element (hull e f) fs)

-- the elements of both
abbrev pub joined : List Element → List Element → List Element
joined es fs = fold (λ all e. with_element e all) es fs

-- The elements of both, joined until no two have a common number: a number is held exactly where one of both held it, and
-- two neighbours lie in one element exactly where they lay in one.
pub record AreJoined (es fs all : List Element) : Type 0 where
  pub apart : AreApart all
  pub numbers : (v : ℤ) → holds all v v ≡ (holds es v v || holds fs v v)
  pub neighbours : (v : ℤ) → let next = v +ℤ pos 1 in holds all v next ≡ (holds es v next || holds fs v next)

-- where the elements start
abbrev pub starts_of : List Element → List ℤ
starts_of es = map (λ e. e.least) es

-- where the elements end
abbrev pub ends_of : List Element → List ℤ
ends_of es = map (λ e. e.greatest) es
