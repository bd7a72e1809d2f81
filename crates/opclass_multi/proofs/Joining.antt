-- elements that are joined: they are apart, and hold what was held
use Rattle.std.proofs.Common.{◌≡◌, ℤ, pos, ◌+ℤ◌, ◌≤ℤ◌, ◌<ℤ◌, Bool, true, false, ◌||◌, ◌&&◌, List, [], ◌∷◌, refl, ap, ◌∙◌, arith}
use Rattle.std.specs.Prelude.{int_lt, int_le, FitsSigned}
use Rattle.std.specs.Int.{w64, int_min, int_max}
use Rattle.std.specs.List.{list_all}
use Rattle.std.proofs.lemmas.Bool.{cond_both, or_left, or_right, and_from, and_parts}
use Rattle.std.proofs.lemmas.Int.{ints, clamps}
use Rattle.opclass_multi.specs.declared.element.Element.{Element}
use Rattle.opclass_multi.specs.Elements.{IsOrdered, StartsAfter, AreApart, covers, holds}
use Rattle.opclass_multi.specs.Joined.{hull, with_element, joined, AreJoined}

-- an element before the first of some, behind it, or with a number in common
pub beside : (e f : Element) (fs : List Element) (P : List Element → Type 0)
    → (e.greatest <ℤ f.least → P (e ∷ f ∷ fs))
    → (f.greatest <ℤ e.least → P (f ∷ with_element e fs))
    → (f.least ≤ℤ e.greatest → e.least ≤ℤ f.greatest → P (with_element (hull e f) fs))
    → P (with_element e (f ∷ fs))
beside e f fs P before behind meets =
    cond_both (int_lt e.greatest f.least) (e ∷ f ∷ fs) _ P (λ t. before (omega (arith, ints)))
    (λ n. cond_both (int_lt f.greatest e.least) (f ∷ with_element e fs) (with_element (hull e f) fs) P (λ t. behind (omega (arith, ints)))
    (λ o. meets (omega (arith, ints)) (omega (arith, ints))))

-- what starts after a number starts after each number below
pub starts_lower : (v w : ℤ) (es : List Element) → v ≤ℤ w → StartsAfter w es → StartsAfter v es
starts_lower v w [] below after = tt
starts_lower v w (e ∷ es) below after = omega (arith, ints)

starts_later : (v : ℤ) (f : Element) (fs : List Element) → v <ℤ f.least → AreApart (f ∷ fs) → StartsAfter v fs
starts_later v f fs after apart =
    let order : f.least ≤ℤ f.greatest = apart.0.in_order in
    starts_lower v f.greatest fs (omega (arith, ints)) apart.1

pub ordered_hull : (e f : Element) → IsOrdered e → IsOrdered f → IsOrdered (hull e f)
ordered_hull e f one other =
    let first : e.least ≤ℤ e.greatest = one.in_order in
    let second : f.least ≤ℤ f.greatest = other.in_order in
    record {
      least_fits = cond_both (int_lt f.least e.least) f.least e.least (FitsSigned w64) (λ t. other.least_fits) (λ n. one.least_fits);
      greatest_fits = cond_both (int_lt f.greatest e.greatest) e.greatest f.greatest (FitsSigned w64) (λ t. one.greatest_fits) (λ n. other.greatest_fits);
      in_order = omega (arith, ints, clamps);
    }

starts_with : (v : ℤ) (e : Element) (es : List Element) → v <ℤ e.least → StartsAfter v es → AreApart es → StartsAfter v (with_element e es)
starts_with v e [] low after apart = low
starts_with v e (f ∷ fs) low after apart =
    beside e f fs (StartsAfter v) (λ b. low) (λ b. after)
    (λ m n. starts_with v (hull e f) fs (omega (arith, ints, clamps)) (starts_later v f fs after apart) apart.2)

-- an element more, and they are apart again
pub apart_with : (e : Element) (es : List Element) → IsOrdered e → AreApart es → AreApart (with_element e es)
apart_with e [] one apart = (one, tt, tt)
apart_with e (f ∷ fs) one apart =
    beside e f fs AreApart (λ b. (one, b, apart))
    (λ b. (apart.0, starts_with f.greatest e fs b apart.1 apart.2, apart_with e fs one apart.2))
    (λ m n. apart_with (hull e f) fs (ordered_hull e f one apart.0) apart.2)

-- two elements with a common number hold, as their hull, each number and each two neighbours that one of them held
hull_numbers : (a b c d p q : ℤ) → c ≤ℤ b → a ≤ℤ d → p ≤ℤ q → q ≤ℤ (p +ℤ pos 1) → (int_le (int_min a c) p && int_le q (int_max b d)) ≡ ((int_le a p && int_le q b) || (int_le c p && int_le q d))
hull_numbers a b c d p q m n low high = grind (arith, ints, clamps)

hull_holds_first : (e f : Element) (p q : ℤ) → covers p q e ≡ true → covers p q (hull e f) ≡ true
hull_holds_first e f p q held = grind (arith, ints, clamps)

hull_holds_second : (e f : Element) (p q : ℤ) → covers p q f ≡ true → covers p q (hull e f) ≡ true
hull_holds_second e f p q held = grind (arith, ints, clamps)

or_swap : (a b c : Bool) → (b || (a || c)) ≡ (a || (b || c))
or_swap true true c = refl
or_swap true false c = refl
or_swap false b c = refl

or_assoc : (a b c : Bool) → ((a || b) || c) ≡ (a || (b || c))
or_assoc true b c = refl
or_assoc false b c = refl

-- a number is held exactly where the element or one of the others held it, and so are two neighbours
held_exactly : (e : Element) (es : List Element) (p q : ℤ) → p ≤ℤ q → q ≤ℤ (p +ℤ pos 1) → holds (with_element e es) p q ≡ (covers p q e || holds es p q)
held_exactly e [] p q low high = refl
held_exactly e (f ∷ fs) p q low high =
    beside e f fs (λ all. holds all p q ≡ (covers p q e || (covers p q f || holds fs p q))) (λ b. refl)
    (λ b. ap (λ (h : Bool). covers p q f || h) (held_exactly e fs p q low high) ∙ or_swap (covers p q e) (covers p q f) (holds fs p q))
    (λ m n. held_exactly (hull e f) fs p q low high ∙ ap (λ (h : Bool). h || holds fs p q) (hull_numbers e.least e.greatest f.least f.greatest p q m n low high) ∙ or_assoc (covers p q e) (covers p q f) (holds fs p q))

or_behind : (a b c h : Bool) → (a || (b || c)) ≡ true → ((a || c) ≡ true → h ≡ true) → (b || h) ≡ true
or_behind a true c h held later = refl
or_behind a false c h held later = later held

or_hull : (a b c h : Bool) → (a || (b || c)) ≡ true → (a ≡ true → h ≡ true) → (b ≡ true → h ≡ true) → (h || c) ≡ true
or_hull a b c true held first second = refl
or_hull true b c false held first second = cc (first refl)
or_hull false true c false held first second = cc (second refl)
or_hull false false c false held first second = held

-- whatever the element or one of the others held is held
pub held_more : (e : Element) (es : List Element) (p q : ℤ) → (covers p q e || holds es p q) ≡ true → holds (with_element e es) p q ≡ true
held_more e [] p q held = held
held_more e (f ∷ fs) p q held =
    beside e f fs (λ all. holds all p q ≡ true) (λ b. held)
    (λ b. or_behind (covers p q e) (covers p q f) (holds fs p q) (holds (with_element e fs) p q) held (held_more e fs p q))
    (λ m n. held_more (hull e f) fs p q (or_hull (covers p q e) (covers p q f) (holds fs p q) (covers p q (hull e f)) held (hull_holds_first e f p q) (hull_holds_second e f p q)))

pub apart_joined : (es fs : List Element) → AreApart es → AreApart fs → AreApart (joined es fs)
apart_joined es [] apart others = apart
apart_joined es (f ∷ fs) apart others = apart_joined (with_element f es) fs (apart_with f es others.0 apart) others.2

or_last : (a b c : Bool) → ((b || a) || c) ≡ (a || (b || c))
or_last true true c = refl
or_last true false c = refl
or_last false true c = refl
or_last false false c = refl

joined_exactly : (es fs : List Element) (p q : ℤ) → p ≤ℤ q → q ≤ℤ (p +ℤ pos 1) → holds (joined es fs) p q ≡ (holds es p q || holds fs p q)
joined_exactly es [] p q low high = or_none (holds es p q)
  where
    or_none : (a : Bool) → a ≡ (a || false)
    or_none true = refl
    or_none false = refl
joined_exactly es (f ∷ fs) p q low high =
    joined_exactly (with_element f es) fs p q low high
    ∙ ap (λ (h : Bool). h || holds fs p q) (held_exactly f es p q low high)
    ∙ or_last (holds es p q) (covers p q f) (holds fs p q)

-- the elements of both, joined
pub joined_well : (es fs : List Element) → AreApart es → AreApart fs → AreJoined es fs (joined es fs)
joined_well es fs apart others = record {
  apart = apart_joined es fs apart others;
  numbers = λ v. joined_exactly es fs v v (omega (arith, ints)) (omega (arith, ints));
  neighbours = λ v. joined_exactly es fs v (v +ℤ pos 1) (omega (arith, ints)) (omega (arith, ints));
}

pub joined_keeps : (es fs : List Element) (p q : ℤ) → holds es p q ≡ true → holds (joined es fs) p q ≡ true
joined_keeps es [] p q held = held
joined_keeps es (f ∷ fs) p q held = joined_keeps (with_element f es) fs p q (held_more f es p q (or_right (covers p q f) (holds es p q) held))

own_covers : (e : Element) → covers e.least e.greatest e ≡ true
own_covers e = grind (arith, ints)

-- each of the others lies in an element
pub joined_holds_others : (es fs : List Element) → list_all (λ f. holds (joined es fs) f.least f.greatest) fs ≡ true
joined_holds_others es [] = refl
joined_holds_others es (f ∷ fs) =
    and_from (holds (joined (with_element f es) fs) f.least f.greatest) _
    (joined_keeps (with_element f es) fs f.least f.greatest (held_more f es f.least f.greatest (or_left (covers f.least f.greatest f) (holds es f.least f.greatest) (own_covers f))))
    (joined_holds_others (with_element f es) fs)

front_stays : (f : Element) (fs : List Element) → AreApart (f ∷ fs) → with_element f fs ≡ f ∷ fs
front_stays f [] apart = refl
front_stays f (g ∷ fs) apart =
    let own : f.least ≤ℤ f.greatest = apart.0.in_order in
    let between : f.greatest <ℤ g.least = apart.1 in
    let next : g.least ≤ℤ g.greatest = apart.2.0.in_order in
    beside f g fs (λ all. all ≡ f ∷ g ∷ fs) (λ b. refl) (λ b. absurd (omega (arith, ints))) (λ m n. absurd (omega (arith, ints)))

pub or_split : (a b : Bool) (P : Type 0) → (a || b) ≡ true → (a ≡ true → P) → (a ≡ false → b ≡ true → P) → P
or_split true b P held first second = first refl
or_split false b P held first second = second refl held

covered : (e f : Element) → covers e.least e.greatest f ≡ true → (f.least ≤ℤ e.least) × (e.greatest ≤ℤ f.greatest)
covered e f held = (grind (arith, ints), grind (arith, ints))

pub held_after : (v : ℤ) (es : List Element) (p q : ℤ) → StartsAfter v es → AreApart es → holds es p q ≡ true → v <ℤ p
held_after v [] p q after apart held = absurd (cc)
held_after v (f ∷ fs) p q after apart held =
    let order : f.least ≤ℤ f.greatest = apart.0.in_order in
    or_split (covers p q f) (holds fs p q) (v <ℤ p) held
    (λ here. covers_after v f p q after here)
    (λ none there. let past = held_after f.greatest fs p q apart.1 apart.2 there in omega (arith, ints))
  where
    covers_after : (v : ℤ) (f : Element) (p q : ℤ) → v <ℤ f.least → covers p q f ≡ true → v <ℤ p
    covers_after v f p q after here = grind (arith, ints)

same_hull : (e f : Element) → f.least ≤ℤ e.least → e.greatest ≤ℤ f.greatest → hull e f ≡ f
same_hull e f low high =
    let least : int_min e.least f.least ≡ f.least = omega (arith, ints, clamps) in
    let greatest : int_max e.greatest f.greatest ≡ f.greatest = omega (arith, ints, clamps) in
    λ i. record { least = least i; greatest = greatest i }

-- an element that lies in another changes nothing
pub within_stays : (e : Element) (es : List Element) → IsOrdered e → AreApart es → holds es e.least e.greatest ≡ true → with_element e es ≡ es
within_stays e [] one apart held = absurd (cc)
within_stays e (f ∷ fs) one apart held =
    let order : e.least ≤ℤ e.greatest = one.in_order in
    let other : f.least ≤ℤ f.greatest = apart.0.in_order in
    let Same : List Element → Type 0 = λ all. all ≡ f ∷ fs in
    or_split (covers e.least e.greatest f) (holds fs e.least e.greatest) (Same (with_element e (f ∷ fs))) held
    (λ here. let parts = covered e f here in
    beside e f fs Same (λ b. absurd (omega (arith, ints, parts.0, parts.1))) (λ b. absurd (omega (arith, ints, parts.0, parts.1)))
    (λ m n. ap (λ (h : Element). with_element h fs) (same_hull e f parts.0 parts.1) ∙ front_stays f fs apart))
    (λ none there. let past = held_after f.greatest fs e.least e.greatest apart.1 apart.2 there in
    beside e f fs Same (λ b. absurd (omega (arith, ints))) (λ b. ap (λ (all : List Element). f ∷ all) (within_stays e fs one apart.2 there)) (λ m n. absurd (omega (arith, ints))))

-- nor do elements that all do
pub all_within_stay : (es fs : List Element) → AreApart es → AreApart fs → list_all (λ f. holds es f.least f.greatest) fs ≡ true → joined es fs ≡ es
all_within_stay es [] apart others held = refl
all_within_stay es (f ∷ fs) apart others held =
    let parts = and_parts (holds es f.least f.greatest) (list_all (λ f. holds es f.least f.greatest) fs) held in
    ap (λ (all : List Element). joined all fs) (within_stays f es others.0 apart parts.0) ∙ all_within_stay es fs apart others.2 parts.1
