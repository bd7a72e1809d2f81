-- what is held, number by number and neighbour by neighbour, says which elements hold it
use Rattle.std.proofs.Common.{◌≡◌, ℤ, pos, ◌+ℤ◌, ◌≤ℤ◌, ◌<ℤ◌, true, false, List, [], ◌∷◌, refl, sym, ◌∙◌, arith}
use Rattle.std.specs.Cmp.{both_ways as one_answer}
use Rattle.std.proofs.lemmas.Bool.{both_ways, or_left, or_right}
use Rattle.std.proofs.lemmas.Int.{ints, by_lt_z}
use Rattle.opclass_multi.specs.declared.element.Element.{Element}
use Rattle.opclass_multi.specs.Elements.{AreApart, covers, holds}
use Rattle.opclass_multi.specs.Joined.{AreJoined, joined}
use Rattle.opclass_multi.proofs.Joining.{or_split, held_after, joined_well}

number_covered : (p q l g : ℤ) (e : Element) → e.least ≡ l → e.greatest ≡ g → l ≤ℤ p → q ≤ℤ g → covers p q e ≡ true
number_covered p q l g e least greatest low high = grind (arith, ints)

covered_low : (p q : ℤ) (e : Element) → covers p q e ≡ true → e.least ≤ℤ p
covered_low p q e held = grind (arith, ints)

covered_high : (p q : ℤ) (e : Element) → covers p q e ≡ true → q ≤ℤ e.greatest
covered_high p q e held = grind (arith, ints)

-- the first element starts with the lowest number
lowest : (e : Element) (es : List Element) (p q : ℤ) → AreApart (e ∷ es) → holds (e ∷ es) p q ≡ true → e.least ≤ℤ p
lowest e es p q apart held =
    let order : e.least ≤ℤ e.greatest = apart.0.in_order in
    or_split (covers p q e) (holds es p q) (e.least ≤ℤ p) held (covered_low p q e) (λ none there. let past = held_after e.greatest es p q apart.1 apart.2 there in omega (arith, ints))

starts_held : (e : Element) (es : List Element) → AreApart (e ∷ es) → holds (e ∷ es) e.least e.least ≡ true
starts_held e es apart = or_left (covers e.least e.least e) (holds es e.least e.least) (number_covered e.least e.least e.least e.greatest e refl refl (omega (arith, ints)) apart.0.in_order)

-- the first elements of two lists end alike
ends_below : (a b : Element) (xs ys : List Element) → AreApart (a ∷ xs) → AreApart (b ∷ ys) → a.least ≡ b.least
    → ((v : ℤ) → holds (a ∷ xs) v (v +ℤ pos 1) ≡ holds (b ∷ ys) v (v +ℤ pos 1)) → b.greatest ≤ℤ a.greatest
ends_below a b xs ys apart other start same =
    by_lt_z a.greatest b.greatest
    (λ below. let g = a.greatest in
    let order : a.least ≤ℤ a.greatest = apart.0.in_order in
    let held : holds (b ∷ ys) g (g +ℤ pos 1) ≡ true = or_left (covers g (g +ℤ pos 1) b) (holds ys g (g +ℤ pos 1)) (number_covered g (g +ℤ pos 1) a.least b.greatest b (sym start) refl order (omega (arith, ints))) in
    or_split (covers g (g +ℤ pos 1) a) (holds xs g (g +ℤ pos 1)) (b.greatest ≤ℤ a.greatest) (same g ∙ held)
    (λ here. let high = covered_high g (g +ℤ pos 1) a here in absurd (omega (arith, ints)))
    (λ none there. let past = held_after g xs g (g +ℤ pos 1) apart.1 apart.2 there in absurd (omega (arith, ints))))
    (λ above. above)

tail_more : (a b : Element) (xs ys : List Element) (p q : ℤ) → p ≤ℤ q → AreApart (a ∷ xs) → a.greatest ≡ b.greatest → holds (a ∷ xs) p q ≡ holds (b ∷ ys) p q → holds xs p q ≡ true → holds ys p q ≡ true
tail_more a b xs ys p q order apart end same held =
    let past = held_after a.greatest xs p q apart.1 apart.2 held in
    or_split (covers p q b) (holds ys p q) (holds ys p q ≡ true) (sym same ∙ or_right (covers p q a) (holds xs p q) held)
    (λ here. let high = covered_high p q b here in absurd (below a.greatest b.greatest p q end past order high)) (λ none there. there)
  where
    below : (a b p q : ℤ) → a ≡ b → a <ℤ p → p ≤ℤ q → q ≤ℤ b → ⊥
    below a b p q end past order high = omega (arith, ints)

tail_same : (a b : Element) (xs ys : List Element) (p q : ℤ) → p ≤ℤ q → AreApart (a ∷ xs) → AreApart (b ∷ ys) → a.greatest ≡ b.greatest → holds (a ∷ xs) p q ≡ holds (b ∷ ys) p q → holds xs p q ≡ holds ys p q
tail_same a b xs ys p q order apart other end same =
    one_answer (holds xs p q) (holds ys p q) (tail_more a b xs ys p q order apart end same) (tail_more b a ys xs p q order other (sym end) (sym same))

between_equal : (x y : ℤ) → x ≤ℤ y → y ≤ℤ x → x ≡ y
between_equal x y low high = omega (arith, ints)

-- two lists that are apart and hold alike are one
pub one_list : (xs ys : List Element) → AreApart xs → AreApart ys → ((v : ℤ) → holds xs v v ≡ holds ys v v) → ((v : ℤ) → holds xs v (v +ℤ pos 1) ≡ holds ys v (v +ℤ pos 1)) → xs ≡ ys
one_list [] [] apart other same near = refl
one_list [] (b ∷ ys) apart other same near = absurd (both_ways false refl (same b.least ∙ starts_held b ys other))
one_list (a ∷ xs) [] apart other same near = absurd (both_ways false refl (sym (same a.least) ∙ starts_held a xs apart))
one_list (a ∷ xs) (b ∷ ys) apart other same near =
    let start : a.least ≡ b.least =
    between_equal a.least b.least (lowest a xs b.least b.least apart (same b.least ∙ starts_held b ys other)) (lowest b ys a.least a.least other (sym (same a.least) ∙ starts_held a xs apart)) in
    let end : a.greatest ≡ b.greatest =
    between_equal a.greatest b.greatest (ends_below b a ys xs other apart (sym start) (λ v. sym (near v))) (ends_below a b xs ys apart other start near) in
    let rest : xs ≡ ys =
    one_list xs ys apart.2 other.2 (λ v. tail_same a b xs ys v v (omega (arith, ints)) apart other end (same v)) (λ v. tail_same a b xs ys v (v +ℤ pos 1) (omega (arith, ints)) apart other end (near v)) in
    λ i. record { least = start i; greatest = end i } ∷ rest i

-- so the elements of two lists are joined in one way
pub one_joined : (es fs all : List Element) → AreApart es → AreApart fs → AreJoined es fs all → all ≡ joined es fs
one_joined es fs all apart others is =
    let own = joined_well es fs apart others in
    one_list all (joined es fs) is.apart own.apart (λ v. is.numbers v ∙ sym (own.numbers v)) (λ v. is.neighbours v ∙ sym (own.neighbours v))
