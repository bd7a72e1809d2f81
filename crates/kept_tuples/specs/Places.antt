-- lists in which every place has an element
use Rattle.std.specs.Prelude.{ℕ, zero, suc, List, [], ◌∷◌}

-- the list with this at a place; places between its end and that one are blank
abbrev pub placed : {X : Type 0} → X → List X → ℕ → X → List X
placed blank [] zero x = x ∷ []
placed blank [] (suc at) x = blank ∷ placed blank [] at x
placed blank (y ∷ ys) zero x = x ∷ ys
placed blank (y ∷ ys) (suc at) x = y ∷ placed blank ys at x
