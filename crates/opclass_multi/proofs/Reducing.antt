-- elements that are reduced: which, how far, and what stays
use Rattle.std.proofs.Common.{◌≡◌, ℕ, zero, suc, ◌+◌, ◌*◌, ◌<◌, ◌≤◌, ℤ, ◌≤ℤ◌, ◌<ℤ◌, Bool, true, false, ◌||◌, ◌&&◌, List, [], ◌∷◌, length, get_or, set, refl, sym, ap, ◌∙◌, arith, inl, inr}
use Rattle.std.specs.Prelude.{int_lt, nat_lt}
use Rattle.std.specs.List.{remove}
use Rattle.std.proofs.lemmas.Bool.{cond_both, cond-true, cond-false, cases_order, and_parts, ltb-true, ltb-false, lt-ltb, le-ltb}
use Rattle.std.proofs.lemmas.Int.{ints}
use Rattle.std.proofs.lemmas.List.Sums.{sum_by-cons}
use Rattle.opclass_multi.specs.declared.element.Element.{Element}
use Rattle.opclass_multi.specs.Elements.{StartsAfter, AreApart, covers, holds, weight, count_of}
use Rattle.opclass_multi.specs.Reduced.{gap_at, IsLeastGap, merged_at, Reduces, Fits, Merges, lower_gap, least_gap, reduced_by, reduced}

pub weight_bounds : (e : Element) → (1 ≤ weight e) × (weight e ≤ 2)
weight_bounds e = (cond_both (int_lt e.least e.greatest) 2 1 (λ w. 1 ≤ w) (λ t. omega arith) (λ n. omega arith), cond_both (int_lt e.least e.greatest) 2 1 (λ w. w ≤ 2) (λ t. omega arith) (λ n. omega arith))

-- each element counts 1 or 2
pub count_least : (es : List Element) → length es ≤ count_of es
count_least [] = omega arith
count_least (e ∷ es) = omega (arith, sum_by-cons weight e es, count_least es, (weight_bounds e).0)

pub count_most : (es : List Element) → count_of es ≤ 2 * length es
count_most [] = omega arith
count_most (e ∷ es) = omega (arith, sum_by-cons weight e es, count_most es, (weight_bounds e).1)

pub length_merged : (es : List Element) (at : ℕ) → suc at < length es → suc (length (merged_at es at)) ≡ length es
length_merged [] at within = absurd (omega arith)
length_merged (e ∷ []) zero within = absurd (omega arith)
length_merged (e ∷ f ∷ fs) zero within = refl
length_merged (e ∷ es) (suc at) within = ap suc (length_merged es at (omega arith))

starts_merged : (v : ℤ) (es : List Element) (at : ℕ) → StartsAfter v es → StartsAfter v (merged_at es at)
starts_merged v [] at after = tt
starts_merged v (e ∷ []) zero after = after
starts_merged v (e ∷ f ∷ fs) zero after = after
starts_merged v (e ∷ es) (suc at) after = after

-- a merger keeps them apart
pub apart_merged : (es : List Element) (at : ℕ) → AreApart es → AreApart (merged_at es at)
apart_merged [] at apart = tt
apart_merged (e ∷ []) zero apart = apart
apart_merged (e ∷ f ∷ fs) zero apart =
    let first : e.least ≤ℤ e.greatest = apart.0.in_order in
    let between : e.greatest <ℤ f.least = apart.1 in
    let second : f.least ≤ℤ f.greatest = apart.2.0.in_order in
    (record { least_fits = apart.0.least_fits; greatest_fits = apart.2.0.greatest_fits; in_order = omega (arith, ints) }, apart.2.1, apart.2.2)
apart_merged (e ∷ es) (suc at) apart = (apart.0, starts_merged e.greatest es at apart.1, apart_merged es at apart.2)

merged_covers : (a b c d p q : ℤ) → a ≤ℤ b → b <ℤ c → c ≤ℤ d → (covers p q (record { least = a; greatest = b }) || covers p q (record { least = c; greatest = d })) ≡ true → covers p q (record { least = a; greatest = d }) ≡ true
merged_covers a b c d p q first between second held = grind (arith, ints)

or_merged : (a b c h : Bool) → (a || (b || c)) ≡ true → ((a || b) ≡ true → h ≡ true) → (h || c) ≡ true
or_merged a b c true held here = refl
or_merged true b c false held here = cc (here refl)
or_merged false true c false held here = cc (here refl)
or_merged false false c false held here = held

or_later : (a b c : Bool) → (a || b) ≡ true → (b ≡ true → c ≡ true) → (a || c) ≡ true
or_later true b c held later = refl
or_later false b c held later = later held

-- and loses no number
pub merged_keeps : (es : List Element) (at : ℕ) (p q : ℤ) → AreApart es → holds es p q ≡ true → holds (merged_at es at) p q ≡ true
merged_keeps [] at p q apart held = held
merged_keeps (e ∷ []) zero p q apart held = held
merged_keeps (e ∷ f ∷ fs) zero p q apart held =
    or_merged (covers p q e) (covers p q f) (holds fs p q) (covers p q (record { least = e.least; greatest = f.greatest })) held
    (merged_covers e.least e.greatest f.least f.greatest p q apart.0.in_order apart.1 apart.2.0.in_order)
merged_keeps (e ∷ es) (suc at) p q apart held = or_later (covers p q e) (holds es p q) (holds (merged_at es at) p q) held (merged_keeps es at p q apart.2)

-- it counts 2 in place of what both counted
pub count_merged : (es : List Element) (at : ℕ) (x y : Element) → suc at < length es → AreApart es → count_of (merged_at es at) + (weight (get_or es at x) + weight (get_or es (suc at) y)) ≡ suc (suc (count_of es))
count_merged [] at x y within apart = absurd (omega arith)
count_merged (e ∷ []) zero x y within apart = absurd (omega arith)
count_merged (e ∷ f ∷ fs) zero x y within apart =
    let both : Element = record { least = e.least; greatest = f.greatest } in
    let first : e.least ≤ℤ e.greatest = apart.0.in_order in
    let between : e.greatest <ℤ f.least = apart.1 in
    let second : f.least ≤ℤ f.greatest = apart.2.0.in_order in
    let wide : int_lt e.least f.greatest ≡ true = grind (arith, ints) in
    let two : weight both ≡ 2 = cond-true (int_lt e.least f.greatest) 2 1 wide in
    omega (arith, two, sum_by-cons weight both fs, sum_by-cons weight e (f ∷ fs), sum_by-cons weight f fs)
count_merged (e ∷ es) (suc at) x y within apart = omega (arith, sum_by-cons weight e (merged_at es at), sum_by-cons weight e es, count_merged es at x y (omega arith) apart.2)

-- the code of a merger
pub merged_is : (es : List Element) (at : ℕ) (x later : Element) → suc at < length es → x ≡ get_or (remove es (suc at)) at x → later ≡ get_or es (suc at) later → set (remove es (suc at)) at (record { least = x.least; greatest = later.greatest }) ≡ merged_at es at
merged_is [] at x later within first second = absurd (omega arith)
merged_is (e ∷ []) zero x later within first second = absurd (omega arith)
merged_is (e ∷ f ∷ fs) zero x later within first second = λ i. record { least = (first i).least; greatest = (second i).greatest } ∷ fs
merged_is (e ∷ es) (suc at) x later within first second = ap (λ (all : List Element). e ∷ all) (merged_is es at x later (omega arith) first second)

-- the place of the least gap is one
pub one_least_gap : (es : List Element) (i j : ℕ) → IsLeastGap es i → IsLeastGap es j → i ≡ j
one_least_gap es i j first second =
    elim (cases_order i j) [
      | inl same ↦ same
      | inr (inl below) ↦ absurd (let wider = second.lowest i below in let least = first.least j second.within in omega (arith, ints))
      | inr (inr above) ↦ absurd (let wider = first.lowest j above in let least = second.least i first.within in omega (arith, ints))
    ]

lower_is : (e : Element) (es : List Element) (later : ℕ) → IsLeastGap es later → IsLeastGap (e ∷ es) (lower_gap (e ∷ es) (suc later))
lower_is e es later rest =
    let gap = gap_at (e ∷ es) in
    cond_both (nat_lt (suc (suc later)) (length (e ∷ es)) && int_lt (gap (suc later)) (gap 0)) (suc later) 0 (IsLeastGap (e ∷ es))
    (λ t. let parts = and_parts (nat_lt (suc (suc later)) (length (e ∷ es))) (int_lt (gap (suc later)) (gap 0)) t in
    let lower : gap (suc later) <ℤ gap 0 = omega (arith, ints, parts.1) in
    record {
      within = omega (arith, rest.within);
      least = λ i below. elim i as (λ i. suc i < length (e ∷ es) → gap (suc later) ≤ℤ gap i) [ zero ↦ λ b. omega (arith, ints) | suc i ↦ λ b. rest.least i (omega arith) ] below;
      lowest = λ i below. elim i as (λ i. i < suc later → gap (suc later) <ℤ gap i) [ zero ↦ λ b. lower | suc i ↦ λ b. rest.lowest i (omega arith) ] below;
    })
    (λ n. let higher : gap 0 ≤ℤ gap (suc later) = not_lower (nat_lt (suc (suc later)) (length (e ∷ es))) (gap (suc later)) (gap 0) (lt-ltb (suc (suc later)) (length (e ∷ es)) (omega (arith, rest.within))) n in
    record {
      within = omega (arith, rest.within);
      least = λ i below. elim i as (λ i. suc i < length (e ∷ es) → gap 0 ≤ℤ gap i) [ zero ↦ λ b. omega (arith, ints) | suc i ↦ λ b. (let past : gap (suc later) ≤ℤ gap (suc i) = rest.least i (omega arith) in omega (arith, ints)) ] below;
      lowest = λ i below. absurd (omega arith);
    })
  where
    not_lower : (b : Bool) (x y : ℤ) → b ≡ true → (b && int_lt x y) ≡ false → y ≤ℤ x
    not_lower true x y there fails = omega (arith, ints)
    not_lower false x y there fails = absurd (cc)

-- it is found
pub least_gap_is : (es : List Element) → 1 < length es → IsLeastGap es (least_gap es)
least_gap_is [] some = absurd (omega arith)
least_gap_is (e ∷ []) some = absurd (omega arith)
least_gap_is (e ∷ f ∷ []) some = record {
  within = omega arith;
  least = λ i below. elim i as (λ i. suc i < 2 → gap_at (e ∷ f ∷ []) 0 ≤ℤ gap_at (e ∷ f ∷ []) i) [ zero ↦ λ b. omega (arith, ints) | suc i ↦ λ b. absurd (omega arith) ] below;
  lowest = λ i below. absurd (omega arith);
}
least_gap_is (e ∷ f ∷ g ∷ es) some = lower_is e (f ∷ g ∷ es) (least_gap (f ∷ g ∷ es)) (least_gap_is (f ∷ g ∷ es) (omega arith))

-- nothing is done within the limit
pub reduced_fits : (limit n : ℕ) (es : List Element) → count_of es ≤ limit → reduced_by n limit es ≡ es
reduced_fits limit zero es fits = refl
reduced_fits limit (suc n) es fits = cond-false (nat_lt limit (count_of es)) _ es (le-ltb limit (count_of es) fits)

-- one merger more
pub reduced_more : (limit : ℕ) (es : List Element) (at : ℕ) → limit < count_of es → 1 < length es → IsLeastGap es at → reduced limit es ≡ reduced limit (merged_at es at)
reduced_more limit es at over some is =
    let own = least_gap es in
    let place : own ≡ at = one_least_gap es own at (least_gap_is es some) is in
    let size : length es ≡ suc (length (merged_at es at)) = sym (length_merged es at is.within) in
    ap (λ n. reduced_by n limit es) size
    ∙ cond-true (nat_lt limit (count_of es)) (reduced_by (length (merged_at es at)) limit (merged_at es own)) es (lt-ltb limit (count_of es) over)
    ∙ ap (λ i. reduced_by (length (merged_at es at)) limit (merged_at es i)) place

-- more than a limit of 2 are two elements at least
pub over_has_two : (limit : ℕ) (es : List Element) → 2 ≤ limit → limit < count_of es → 1 < length es
over_has_two limit es some over = omega (arith, count_most es)

apart_by : (n limit : ℕ) (es : List Element) → AreApart es → AreApart (reduced_by n limit es)
apart_by zero limit es apart = apart
apart_by (suc n) limit es apart =
    cond_both (nat_lt limit (count_of es)) (reduced_by n limit (merged_at es (least_gap es))) es AreApart (λ t. apart_by n limit (merged_at es (least_gap es)) (apart_merged es (least_gap es) apart)) (λ f. apart)

keeps_by : (n limit : ℕ) (es : List Element) (p q : ℤ) → AreApart es → holds es p q ≡ true → holds (reduced_by n limit es) p q ≡ true
keeps_by zero limit es p q apart held = held
keeps_by (suc n) limit es p q apart held =
    cond_both (nat_lt limit (count_of es)) (reduced_by n limit (merged_at es (least_gap es))) es (λ all. holds all p q ≡ true)
    (λ t. keeps_by n limit (merged_at es (least_gap es)) p q (apart_merged es (least_gap es) apart) (merged_keeps es (least_gap es) p q apart held)) (λ f. held)

reduces_by : (n limit : ℕ) (es : List Element) → 2 ≤ limit → length es ≤ n → Reduces limit es (reduced_by n limit es)
reduces_by zero limit es some size = Fits es (omega (arith, count_most es))
reduces_by (suc n) limit es some size =
    cond_both (nat_lt limit (count_of es)) (reduced_by n limit (merged_at es (least_gap es))) es (Reduces limit es)
    (λ t. let over : limit < count_of es = ltb-true limit (count_of es) t in
    let is = least_gap_is es (over_has_two limit es some over) in
    Merges es (reduced_by n limit (merged_at es (least_gap es))) (least_gap es) over is (reduces_by n limit (merged_at es (least_gap es)) some (omega (arith, length_merged es (least_gap es) is.within))))
    (λ f. Fits es (ltb-false limit (count_of es) f))

pub apart_reduced : (limit : ℕ) (es : List Element) → AreApart es → AreApart (reduced limit es)
apart_reduced limit es = apart_by (length es) limit es

pub reduced_keeps : (limit : ℕ) (es : List Element) (p q : ℤ) → AreApart es → holds es p q ≡ true → holds (reduced limit es) p q ≡ true
reduced_keeps limit es = keeps_by (length es) limit es

-- the reduction is reached
pub reduces : (limit : ℕ) (es : List Element) → 2 ≤ limit → Reduces limit es (reduced limit es)
reduces limit es some = reduces_by (length es) limit es some (omega arith)

-- it counts no more than the limit
pub fits_reduced : (limit : ℕ) (es all : List Element) → Reduces limit es all → count_of all ≤ limit
fits_reduced limit _ _ (Fits es fits) = fits
fits_reduced limit _ _ (Merges es all at over is rest) = fits_reduced limit (merged_at es at) all rest

-- no other is
pub one_reduction : (limit : ℕ) (es all : List Element) → 2 ≤ limit → Reduces limit es all → all ≡ reduced limit es
one_reduction limit _ _ some (Fits es fits) = sym (reduced_fits limit (length es) es fits)
one_reduction limit _ _ some (Merges es all at over is rest) =
    one_reduction limit (merged_at es at) all some rest ∙ sym (reduced_more limit es at over (over_has_two limit es some over) is)
