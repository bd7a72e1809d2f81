-- elements that are joined in one pass: what is passed is met by no later element
use Rattle.std.proofs.Common.{◌≡◌, ℕ, zero, suc, ◌+◌, ◌<◌, ◌≤ℤ◌, ◌<ℤ◌, List, [], ◌∷◌, ◌++◌, length, take, drop, set, get_or, refl, sym, ap, subst, ◌∙◌, arith, append_assoc}
use Rattle.std.proofs.lemmas.Int.{ints}
use Rattle.opclass_multi.specs.declared.element.Element.{Element}
use Rattle.opclass_multi.specs.Elements.{IsOrdered, StartsAfter, AreApart}
use Rattle.opclass_multi.specs.Joined.{hull, with_element, joined}
use Rattle.opclass_multi.proofs.Joining.{beside, starts_lower}
use Rattle.opclass_multi.proofs.Places.{next_of, kept_items, rest_items}

-- an element that ends before all others start is met by none of them
passed : (f : Element) (es gs : List Element) → IsOrdered f → AreApart gs → StartsAfter f.greatest gs → joined (f ∷ es) gs ≡ f ∷ joined es gs
passed f es [] one apart after = refl
passed f es (g ∷ gs) one apart after =
    let own : f.least ≤ℤ f.greatest = one.in_order in
    let between : f.greatest <ℤ g.least = after in
    let order : g.least ≤ℤ g.greatest = apart.0.in_order in
    let behind : with_element g (f ∷ es) ≡ f ∷ with_element g es =
    beside g f es (λ all. all ≡ f ∷ with_element g es) (λ b. absurd (omega (arith, ints))) (λ b. refl) (λ m n. absurd (omega (arith, ints))) in
    ap (λ (all : List Element). joined all gs) behind ∙ passed f (with_element g es) gs one apart.2 (starts_lower f.greatest g.greatest gs (omega (arith, ints)) apart.1)

behind_it : (new next : Element) (es : List Element) → IsOrdered new → IsOrdered next → next.greatest <ℤ new.least → with_element new (next ∷ es) ≡ next ∷ with_element new es
behind_it new next es one other below =
    let own : new.least ≤ℤ new.greatest = one.in_order in
    let order : next.least ≤ℤ next.greatest = other.in_order in
    beside new next es (λ all. all ≡ next ∷ with_element new es) (λ b. absurd (omega (arith, ints))) (λ b. refl) (λ m n. absurd (omega (arith, ints)))

meets_it : (new next : Element) (es : List Element) → next.least ≤ℤ new.greatest → new.least ≤ℤ next.greatest → with_element new (next ∷ es) ≡ with_element (hull new next) es
meets_it new next es low high =
    beside new next es (λ all. all ≡ with_element (hull new next) es) (λ b. absurd (omega (arith, ints))) (λ b. absurd (omega (arith, ints))) (λ m n. refl)

-- ---- one step of the loop
pub behind_apart : (items : List Element) (back : ℕ) (next : Element) → back < length items → next ≡ get_or items back next → AreApart (drop back items) → AreApart (next ∷ drop (back + 1) items)
behind_apart items back next below is apart = subst AreApart (next_of items back next below is) apart

pub passed_apart : (items : List Element) (front back : ℕ) (next : Element) → front < back → back < length items → next ≡ get_or items back next → AreApart (drop back items) → AreApart (drop (back + 1) (set items front next))
passed_apart items front back next behind below is apart = subst AreApart (sym (rest_items items front back next behind)) (behind_apart items back next below is apart).2

pub passed_joined : (items : List Element) (front back : ℕ) (element new next : Element) (others : List Element) → front < back → back < length items → next ≡ get_or items back next → AreApart (drop back items)
    → IsOrdered new → new.least ≤ℤ element.least → IsOrdered element → next.greatest <ℤ new.least → AreApart others → StartsAfter element.greatest others
    → take (front + 1) (set items front next) ++ joined (with_element new (drop (back + 1) (set items front next))) others ≡ take front items ++ joined (with_element new (drop back items)) others
passed_joined items front back element new next others behind below is apart one low own_one gone others_apart after =
    let rest = drop (back + 1) items in
    let next_one : IsOrdered next = (behind_apart items back next below is apart).0 in
    let order : element.least ≤ℤ element.greatest = own_one.in_order in
    (λ i. kept_items items front back next behind below i ++ joined (with_element new (rest_items items front back next behind i)) others)
    ∙ append_assoc (take front items) (next ∷ []) (joined (with_element new rest) others)
    ∙ ap (λ (l : List Element). take front items ++ l)
    (sym (passed next (with_element new rest) others next_one others_apart (starts_lower next.greatest element.greatest others (omega (arith, ints)) after)))
    ∙ ap (λ (l : List Element). take front items ++ joined l others) (sym (behind_it new next rest one next_one gone))
    ∙ ap (λ (l : List Element). take front items ++ joined (with_element new l) others) (sym (next_of items back next below is))

pub met_joined : (items : List Element) (front back : ℕ) (new next : Element) (others : List Element) → back < length items → next ≡ get_or items back next → next.least ≤ℤ new.greatest → new.least ≤ℤ next.greatest
    → take front items ++ joined (with_element (hull new next) (drop (back + 1) items)) others ≡ take front items ++ joined (with_element new (drop back items)) others
met_joined items front back new next others below is low high =
    ap (λ (l : List Element). take front items ++ joined l others) (sym (meets_it new next (drop (back + 1) items) low high))
    ∙ ap (λ (l : List Element). take front items ++ joined (with_element new l) others) (sym (next_of items back next below is))

-- ---- the others, one after the other
pub apart_rest : (es : List Element) (n : ℕ) → AreApart es → AreApart (drop n es)
apart_rest es zero apart = apart
apart_rest [] (suc n) apart = tt
apart_rest (e ∷ es) (suc n) apart = apart_rest es n apart.2
