-- elements with gaps that are closed: what their reduction passes
use Rattle.std.specs.Prelude.{ℕ, ◌+◌, ◌-◌, ℤ, ◌-ℤ◌, int_le, nat_lt, ◌&&◌, if◌then◌else◌, List, [], ◌∷◌}
use Rattle.opclass_multi.specs.declared.element.Element.{Element}
use Rattle.opclass_multi.specs.Elements.{weight}

-- from the end of an element to the start of a later one
abbrev pub gap_between : Element → Element → ℤ
gap_between e f = f.least -ℤ e.greatest

-- from the start of an element to the end of a later one
abbrev pub spanned : Element → Element → Element
spanned e f = record { least = e.least; greatest = f.greatest }

-- an element and those behind it, every gap closed that is no wider than the width
abbrev pub closed_from : ℤ → Element → List Element → List Element
closed_from width e [] = e ∷ []
closed_from width e (f ∷ fs) = if int_le (gap_between e f) width then closed_from width (spanned e f) fs else e ∷ closed_from width f fs

-- all such gaps closed
abbrev pub closed : ℤ → List Element → List Element
closed width [] = []
closed width (e ∷ es) = closed_from width e es

-- the same from the lowest gap on, as long as all elements count more than the limit; they counted so much before
abbrev pub swept_from : ℕ → ℤ → ℕ → Element → List Element → List Element
swept_from limit width counted e [] = e ∷ []
swept_from limit width counted e (f ∷ fs) =
    if (nat_lt limit counted && int_le (gap_between e f) width) then swept_from limit width (counted + 2 - (weight e + weight f)) (spanned e f) fs
    else e ∷ swept_from limit width counted f fs

abbrev pub swept : ℕ → ℤ → ℕ → List Element → List Element
swept limit width counted [] = []
swept limit width counted (e ∷ es) = swept_from limit width counted e es
