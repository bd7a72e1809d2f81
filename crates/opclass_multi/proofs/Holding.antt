-- which element holds numbers, looked for from a place on
use Rattle.std.proofs.Common.{◌≡◌, ℕ, ◌+◌, ◌<◌, ℤ, ◌≤ℤ◌, ◌<ℤ◌, Bool, true, false, ◌||◌, ◌&&◌, List, [], ◌∷◌, length, drop, get_or, refl, sym, ap, subst, ◌∙◌, arith}
use Rattle.std.specs.List.{list_all}
use Rattle.std.proofs.lemmas.Int.{ints}
use Rattle.std.proofs.lemmas.List.{drop_more}
use Rattle.opclass_multi.specs.declared.element.Element.{Element}
use Rattle.opclass_multi.specs.Elements.{StartsAfter, EndsFrom, AreApart, covers, holds}
use Rattle.opclass_multi.proofs.Joining.{held_after}
use Rattle.opclass_multi.proofs.Seams.{apart_rest}

or_first : (a b : Bool) → a ≡ false → (a || b) ≡ b
or_first true b is = absurd (cc)
or_first false b is = refl

or_none : (a b : Bool) → (b ≡ true → ⊥) → (a || b) ≡ a
or_none true b none = refl
or_none false true none = absurd (none refl)
or_none false false none = refl

ends_below : (f : Element) (p q : ℤ) → f.greatest <ℤ p → p ≤ℤ q → covers p q f ≡ false
ends_below f p q below order = grind (arith, ints)

-- an element that ends below numbers holds none of them
passed_by : (f : Element) (fs : List Element) (p q : ℤ) → f.greatest <ℤ p → p ≤ℤ q → holds fs p q ≡ holds (f ∷ fs) p q
passed_by f fs p q below order = sym (or_first (covers p q f) (holds fs p q) (ends_below f p q below order))

-- the first that doesn't decides
first_decides : (f : Element) (fs : List Element) (p q : ℤ) → AreApart (f ∷ fs) → p ≤ℤ f.greatest → holds (f ∷ fs) p q ≡ covers p q f
first_decides f fs p q apart high =
    or_none (covers p q f) (holds fs p q) (λ there. let past = held_after f.greatest fs p q apart.1 apart.2 there in absurd (omega (arith, ints)))

-- lists that hold higher numbers alike hold alike what starts higher
pub hold_alike : (low : ℤ) (all some gs : List Element) → AreApart gs → StartsAfter low gs → ((p q : ℤ) → low ≤ℤ p → p ≤ℤ q → holds some p q ≡ holds all p q)
    → list_all (λ g. holds some g.least g.greatest) gs ≡ list_all (λ g. holds all g.least g.greatest) gs
hold_alike low all some [] apart after same = refl
hold_alike low all some (g ∷ gs) apart after same =
    let order : g.least ≤ℤ g.greatest = apart.0.in_order in
    let above : low <ℤ g.least = after in
    let first = same g.least g.greatest (omega (arith, ints)) order in
    let rest = hold_alike g.greatest all some gs apart.2 apart.1 (λ p q high o. same p q (omega (arith, ints)) o) in
    λ i. first i && rest i

-- ---- by place
pub at_apart : (es : List Element) (at : ℕ) (d : Element) → at < length es → AreApart (drop at es) → AreApart (get_or es at d ∷ drop (at + 1) es)
at_apart es at d below apart = subst AreApart (drop_more es at d below) apart

pub at_passed : (es : List Element) (at : ℕ) (d : Element) (p q : ℤ) → at < length es → (get_or es at d).greatest <ℤ p → p ≤ℤ q → holds (drop (at + 1) es) p q ≡ holds (drop at es) p q
at_passed es at d p q below gone order = passed_by (get_or es at d) (drop (at + 1) es) p q gone order ∙ ap (λ (l : List Element). holds l p q) (sym (drop_more es at d below))

pub at_held : (es : List Element) (at : ℕ) (d : Element) (p q : ℤ) → at < length es → AreApart (drop at es) → EndsFrom p (drop at es) → covers p q (get_or es at d) ≡ holds (drop at es) p q
at_held es at d p q below apart high =
    let there = drop_more es at d below in
    sym (first_decides (get_or es at d) (drop (at + 1) es) p q (at_apart es at d below apart) (subst (EndsFrom p) there high)) ∙ ap (λ (l : List Element). holds l p q) (sym there)

-- the first of the others, told by the element that is reached
pub first_told : (es os : List Element) (from reached i : ℕ) (d : Element) (r : Bool) → i < length os → AreApart os
    → ((p q : ℤ) → (get_or os i d).least ≤ℤ p → p ≤ℤ q → holds (drop reached es) p q ≡ holds (drop from es) p q)
    → r ≡ holds (drop reached es) (get_or os i d).least (get_or os i d).greatest
    → holds (drop from es) (get_or os i d).least (get_or os i d).greatest ≡ r
first_told es os from reached i d r below apart passed told =
    let one = (at_apart os i d below (apart_rest os i apart)).0 in
    let least : (get_or os i d).least ≤ℤ (get_or os i d).least = omega (arith, ints) in
    sym (passed (get_or os i d).least (get_or os i d).greatest least one.in_order) ∙ sym told
