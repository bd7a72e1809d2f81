-- gaps that are closed at once are those that are closed one by one
use Rattle.std.proofs.Common.{◌≡◌, ℕ, zero, suc, ◌+◌, ◌-◌, ◌<◌, ◌≤◌, ℤ, pos, ◌-ℤ◌, ◌≤ℤ◌, ◌<ℤ◌, Bool, true, false, cond, ◌&&◌, List, [], ◌∷◌, ◌++◌, length, take, drop, set, get_or, refl, sym, ap, subst, ◌∙◌, arith, inl, inr, append_assoc}
use Rattle.std.specs.Prelude.{int_le, nat_lt}
use Rattle.std.proofs.lemmas.Bool.{cond_both, cond-true, cond-false, cases_lt, and_from, lt-ltb, le-ltb, false≢true}
use Rattle.std.proofs.lemmas.Int.{ints, by_lt_z}
use Rattle.std.proofs.lemmas.List.{drop_all, take_more_set}
use Rattle.std.proofs.lemmas.List.Sums.{sum_by-cons, sum_by-append}
use Rattle.opclass_multi.specs.declared.element.Element.{Element}
use Rattle.opclass_multi.specs.Elements.{point, StartsAfter, AreApart, weight, count_of}
use Rattle.opclass_multi.specs.Reduced.{gap_at, IsLeastGap, merged_at, least_gap, reduced}
use Rattle.opclass_multi.specs.Closing.{gap_between, spanned, closed_from, closed, swept_from, swept}
use Rattle.opclass_multi.proofs.Places.{next_of, kept_items, rest_items}
use Rattle.opclass_multi.proofs.Reducing.{weight_bounds, count_merged, length_merged, apart_merged, least_gap_is, over_has_two, reduced_more}

-- each gap, from the end of an element on, has a property
abbrev pub GapsFrom : (ℤ → Type 0) → ℤ → List Element → Type 0
GapsFrom P v [] = Unit {0}
GapsFrom P v (e ∷ es) = P (e.least -ℤ v) × GapsFrom P e.greatest es

abbrev pub Gaps : (ℤ → Type 0) → List Element → Type 0
Gaps P [] = Unit {0}
Gaps P (e ∷ es) = GapsFrom P e.greatest es

-- by place
gaps_placed : (P : ℤ → Type 0) (e : Element) (es : List Element) → ((i : ℕ) → suc i < length (e ∷ es) → P (gap_at (e ∷ es) i)) → GapsFrom P e.greatest es
gaps_placed P e [] all = tt
gaps_placed P e (f ∷ fs) all = (all 0 (omega arith), gaps_placed P f fs (λ i below. all (suc i) (omega arith)))

pub all_gaps : (P : ℤ → Type 0) (es : List Element) → ((i : ℕ) → suc i < length es → P (gap_at es i)) → Gaps P es
all_gaps P [] all = tt
all_gaps P (e ∷ es) all = gaps_placed P e es all

pub one_gap : (P : ℤ → Type 0) (es : List Element) (i : ℕ) → Gaps P es → suc i < length es → P (gap_at es i)
one_gap P [] i all within = absurd (omega arith)
one_gap P (e ∷ []) i all within = absurd (omega arith)
one_gap P (e ∷ f ∷ fs) zero all within = all.0
one_gap P (e ∷ f ∷ fs) (suc i) all within = one_gap P (f ∷ fs) i all.1 (omega arith)

-- a merger makes no gap
gaps_merged : (P : ℤ → Type 0) (v : ℤ) (es : List Element) (at : ℕ) → GapsFrom P v es → GapsFrom P v (merged_at es at)
gaps_merged P v [] at all = tt
gaps_merged P v (e ∷ []) zero all = all
gaps_merged P v (e ∷ f ∷ fs) zero all = (all.0, all.1.1)
gaps_merged P v (e ∷ es) (suc at) all = (all.0, gaps_merged P e.greatest es at all.1)

all_merged : (P : ℤ → Type 0) (es : List Element) (at : ℕ) → Gaps P es → Gaps P (merged_at es at)
all_merged P [] at all = tt
all_merged P (e ∷ []) zero all = tt
all_merged P (e ∷ f ∷ fs) zero all = all.1
all_merged P (e ∷ es) (suc at) all = gaps_merged P e.greatest es at all

-- no gap is 0 where elements are apart
pub some_gap : (es : List Element) → AreApart es → Gaps (λ g. pos 0 <ℤ g) es
some_gap [] apart = tt
some_gap (e ∷ []) apart = tt
some_gap (e ∷ f ∷ fs) apart = let between : e.greatest <ℤ f.least = apart.1 in (omega (arith, ints), some_gap (f ∷ fs) apart.2)

-- ---- one step of each
narrow : (w : ℤ) (e f : Element) → gap_between e f ≤ℤ w → int_le (gap_between e f) w ≡ true
narrow w e f at_most = grind (arith, ints)

wide : (w : ℤ) (e f : Element) → w <ℤ gap_between e f → int_le (gap_between e f) w ≡ false
wide w e f more = grind (arith, ints)

closed_on : (w : ℤ) (e f : Element) (fs : List Element) → gap_between e f ≤ℤ w → closed_from w e (f ∷ fs) ≡ closed_from w (spanned e f) fs
closed_on w e f fs at_most = cond-true (int_le (gap_between e f) w) (closed_from w (spanned e f) fs) (e ∷ closed_from w f fs) (narrow w e f at_most)

closed_past : (w : ℤ) (e f : Element) (fs : List Element) → w <ℤ gap_between e f → closed_from w e (f ∷ fs) ≡ e ∷ closed_from w f fs
closed_past w e f fs more = cond-false (int_le (gap_between e f) w) (closed_from w (spanned e f) fs) (e ∷ closed_from w f fs) (wide w e f more)

and_first : (a b : Bool) → a ≡ false → (a && b) ≡ false
and_first true b is = absurd (false≢true (sym is))
and_first false b is = refl

and_second : (a b : Bool) → b ≡ false → (a && b) ≡ false
and_second true b is = is
and_second false b is = refl

swept_on : (limit : ℕ) (w : ℤ) (c : ℕ) (e f : Element) (fs : List Element) → limit < c → gap_between e f ≤ℤ w → swept_from limit w c e (f ∷ fs) ≡ swept_from limit w (c + 2 - (weight e + weight f)) (spanned e f) fs
swept_on limit w c e f fs over at_most =
    cond-true (nat_lt limit c && int_le (gap_between e f) w) _ (e ∷ swept_from limit w c f fs) (and_from (nat_lt limit c) (int_le (gap_between e f) w) (lt-ltb limit c over) (narrow w e f at_most))

swept_past : (limit : ℕ) (w : ℤ) (c : ℕ) (e f : Element) (fs : List Element) → w <ℤ gap_between e f → swept_from limit w c e (f ∷ fs) ≡ e ∷ swept_from limit w c f fs
swept_past limit w c e f fs more =
    cond-false (nat_lt limit c && int_le (gap_between e f) w) (swept_from limit w (c + 2 - (weight e + weight f)) (spanned e f) fs) (e ∷ swept_from limit w c f fs)
    (and_second (nat_lt limit c) (int_le (gap_between e f) w) (wide w e f more))

-- ---- nothing is swept within the limit, nor where all gaps are wider
fits_from : (limit : ℕ) (w : ℤ) (c : ℕ) (e : Element) (fs : List Element) → c ≤ limit → swept_from limit w c e fs ≡ e ∷ fs
fits_from limit w c e [] fits = refl
fits_from limit w c e (f ∷ fs) fits =
    cond-false (nat_lt limit c && int_le (gap_between e f) w) (swept_from limit w (c + 2 - (weight e + weight f)) (spanned e f) fs) (e ∷ swept_from limit w c f fs)
    (and_first (nat_lt limit c) (int_le (gap_between e f) w) (le-ltb limit c fits))
    ∙ ap (λ (all : List Element). e ∷ all) (fits_from limit w c f fs fits)

swept_fits : (limit : ℕ) (w : ℤ) (c : ℕ) (es : List Element) → c ≤ limit → swept limit w c es ≡ es
swept_fits limit w c [] fits = refl
swept_fits limit w c (e ∷ es) fits = fits_from limit w c e es fits

wider_from : (limit : ℕ) (w : ℤ) (c : ℕ) (e : Element) (fs : List Element) → GapsFrom (λ g. w <ℤ g) e.greatest fs → swept_from limit w c e fs ≡ e ∷ fs
wider_from limit w c e [] all = refl
wider_from limit w c e (f ∷ fs) all = swept_past limit w c e f fs all.0 ∙ ap (λ (more : List Element). e ∷ more) (wider_from limit w c f fs all.1)

swept_wider : (limit : ℕ) (w : ℤ) (c : ℕ) (es : List Element) → Gaps (λ g. w <ℤ g) es → swept limit w c es ≡ es
swept_wider limit w c [] all = refl
swept_wider limit w c (e ∷ es) all = wider_from limit w c e es all

closed_wider_from : (w : ℤ) (e : Element) (fs : List Element) → GapsFrom (λ g. w <ℤ g) e.greatest fs → closed_from w e fs ≡ e ∷ fs
closed_wider_from w e [] all = refl
closed_wider_from w e (f ∷ fs) all = closed_past w e f fs all.0 ∙ ap (λ (more : List Element). e ∷ more) (closed_wider_from w f fs all.1)

pub closed_wider : (w : ℤ) (es : List Element) → Gaps (λ g. w <ℤ g) es → closed w es ≡ es
closed_wider w [] all = refl
closed_wider w (e ∷ es) all = closed_wider_from w e es all

-- ---- the first gap that is swept, merged before
swept_behind : (limit : ℕ) (w : ℤ) (c at : ℕ) (e f : Element) (fs : List Element) → w <ℤ gap_between e f → swept limit w c (e ∷ merged_at (f ∷ fs) at) ≡ e ∷ swept limit w c (merged_at (f ∷ fs) at)
swept_behind limit w c zero e f [] more = swept_past limit w c e f [] more
swept_behind limit w c zero e f (g ∷ gs) more = swept_past limit w c e (spanned f g) gs more
swept_behind limit w c (suc at) e f fs more = swept_past limit w c e f (merged_at fs at) more

swept_merged : (limit : ℕ) (w : ℤ) (c at : ℕ) (es : List Element) (x y : Element) → limit < c → suc at < length es → ((i : ℕ) → i < at → w <ℤ gap_at es i) → gap_at es at ≤ℤ w
    → swept limit w c es ≡ swept limit w (c + 2 - (weight (get_or es at x) + weight (get_or es (suc at) y))) (merged_at es at)
swept_merged limit w c at [] x y over within before here = absurd (omega arith)
swept_merged limit w c at (e ∷ []) x y over within before here = absurd (omega arith)
swept_merged limit w c zero (e ∷ f ∷ fs) x y over within before here = swept_on limit w c e f fs over here
swept_merged limit w c (suc at) (e ∷ f ∷ fs) x y over within before here =
    let more : w <ℤ gap_between e f = before 0 (omega arith) in
    swept_past limit w c e f fs more
    ∙ ap (λ (all : List Element). e ∷ all) (swept_merged limit w c at (f ∷ fs) x y over (omega arith) (λ i below. before (suc i) (omega arith)) here)
    ∙ sym (swept_behind limit w (c + 2 - (weight (get_or (f ∷ fs) at x) + weight (get_or (f ∷ fs) (suc at) y))) at e f fs more)

-- ---- the least gaps, swept
pub swept_least : (n limit : ℕ) (w : ℤ) (es : List Element) → length es ≤ n → 2 ≤ limit → AreApart es → Gaps (λ g. w ≤ℤ g) es → reduced limit (swept limit w (count_of es) es) ≡ reduced limit es
swept_least n limit w [] size some apart all = refl
swept_least zero limit w (e ∷ es) size some apart all = absurd (omega arith)
swept_least (suc n) limit w (e ∷ fs) size some apart all =
    let es : List Element = e ∷ fs in
    let c = count_of es in
    elim (cases_lt limit c) [
      | inl over ↦ (
          let two = over_has_two limit es some over in
          let at = least_gap es in
          let is = least_gap_is es two in
          by_lt_z w (gap_at es at)
          (λ wider. ap (reduced limit) (swept_wider limit w c es (all_gaps (λ g. w <ℤ g) es (λ i below. let least = is.least i below in omega (arith, ints)))))
          (λ here. let own : w ≤ℤ gap_at es at = one_gap (λ g. w ≤ℤ g) es at all is.within in
          let x = point (pos 0) in
          let left : c + 2 - (weight (get_or es at x) + weight (get_or es (suc at) x)) ≡ count_of (merged_at es at) = omega (arith, count_merged es at x x is.within apart) in
          ap (reduced limit) (swept_merged limit w c at es x x over is.within (λ i below. let more = is.lowest i below in omega (arith, ints)) here
          ∙ ap (λ k. swept limit w k (merged_at es at)) left)
          ∙ swept_least n limit w (merged_at es at) (omega (arith, length_merged es at is.within)) some (apart_merged es at apart) (all_merged (λ g. w ≤ℤ g) es at all)
          ∙ sym (reduced_more limit es at over two is)))
      | inr fits ↦ ap (reduced limit) (swept_fits limit w c es fits)
    ]

-- ---- all gaps up to a width, closed
closed_merged_from : (w : ℤ) (e : Element) (fs : List Element) (at : ℕ) → suc at < length fs → gap_at fs at ≤ℤ w → closed_from w e (merged_at fs at) ≡ closed_from w e fs
closed_merged_from w e [] at within here = absurd (omega arith)
closed_merged_from w e (f ∷ []) at within here = absurd (omega arith)
closed_merged_from w e (f ∷ g ∷ gs) zero within here =
    let first = closed_on w (spanned e f) g gs here in
    let second = closed_on w f g gs here in
    λ i. cond (int_le (gap_between e f) w) (sym first i) (e ∷ sym second i)
closed_merged_from w e (f ∷ g ∷ gs) (suc at) within here =
    let first = closed_merged_from w (spanned e f) (g ∷ gs) at (omega arith) here in
    let second = closed_merged_from w f (g ∷ gs) at (omega arith) here in
    λ i. cond (int_le (gap_between e f) w) (first i) (e ∷ second i)

closed_merged : (w : ℤ) (es : List Element) (at : ℕ) → suc at < length es → gap_at es at ≤ℤ w → closed w (merged_at es at) ≡ closed w es
closed_merged w [] at within here = absurd (omega arith)
closed_merged w (e ∷ []) at within here = absurd (omega arith)
closed_merged w (e ∷ f ∷ fs) zero within here = sym (closed_on w e f fs here)
closed_merged w (e ∷ f ∷ fs) (suc at) within here = closed_merged_from w e (f ∷ fs) at (omega arith) here

-- the first two, merged
span_counts : (e f : Element) (fs : List Element) → AreApart (e ∷ f ∷ fs) → count_of (spanned e f ∷ fs) + (weight e + weight f) ≡ count_of (e ∷ f ∷ fs) + 2
span_counts e f fs apart = omega (arith, count_merged (e ∷ f ∷ fs) 0 e f (omega arith) apart)

pub span_apart : (e f : Element) (fs : List Element) → AreApart (e ∷ f ∷ fs) → AreApart (spanned e f ∷ fs)
span_apart e f fs apart = apart_merged (e ∷ f ∷ fs) 0 apart

closed_counts_from : (w : ℤ) (e : Element) (fs : List Element) → AreApart (e ∷ fs) → count_of (closed_from w e fs) ≤ count_of (e ∷ fs)
closed_counts_from w e [] apart = omega arith
closed_counts_from w e (f ∷ fs) apart =
    cond_both (int_le (gap_between e f) w) (closed_from w (spanned e f) fs) (e ∷ closed_from w f fs) (λ all. count_of all ≤ count_of (e ∷ f ∷ fs))
    (λ t. omega (arith, closed_counts_from w (spanned e f) fs (span_apart e f fs apart), span_counts e f fs apart, (weight_bounds e).0, (weight_bounds f).0))
    (λ n. omega (arith, closed_counts_from w f fs apart.2, sum_by-cons weight e (closed_from w f fs), sum_by-cons weight e (f ∷ fs)))

closed_counts : (w : ℤ) (es : List Element) → AreApart es → count_of (closed w es) ≤ count_of es
closed_counts w [] apart = omega arith
closed_counts w (e ∷ es) apart = closed_counts_from w e es apart

-- where they count more than the limit still, their reduction passes them
pub reduced_closed : (n limit : ℕ) (w : ℤ) (es : List Element) → length es ≤ n → 2 ≤ limit → AreApart es → limit < count_of (closed w es) → reduced limit (closed w es) ≡ reduced limit es
reduced_closed n limit w [] size some apart over = refl
reduced_closed zero limit w (e ∷ es) size some apart over = absurd (omega arith)
reduced_closed (suc n) limit w (e ∷ fs) size some apart over =
    let es : List Element = e ∷ fs in
    let all_over : limit < count_of es = omega (arith, closed_counts w es apart) in
    let two = over_has_two limit es some all_over in
    let at = least_gap es in
    let is = least_gap_is es two in
    by_lt_z w (gap_at es at)
    (λ wider. ap (reduced limit) (closed_wider w es (all_gaps (λ g. w <ℤ g) es (λ i below. let least = is.least i below in omega (arith, ints)))))
    (λ here. let same = closed_merged w es at is.within here in
    ap (reduced limit) (sym same)
    ∙ reduced_closed n limit w (merged_at es at) (omega (arith, length_merged es at is.within)) some (apart_merged es at apart) (omega (arith, ap count_of same))
    ∙ sym (reduced_more limit es at all_over two is))

-- and a sweep closes them all
closed_swept_from : (limit : ℕ) (w : ℤ) (d : ℕ) (e : Element) (fs : List Element) → AreApart (e ∷ fs) → limit < d + count_of (closed_from w e fs) → swept_from limit w (d + count_of (e ∷ fs)) e fs ≡ closed_from w e fs
closed_swept_from limit w d e [] apart over = refl
closed_swept_from limit w d e (f ∷ fs) apart over =
    let c = d + count_of (e ∷ f ∷ fs) in
    by_lt_z w (gap_between e f)
    (λ more. let next = closed_past w e f fs more in
    let own : c ≡ d + weight e + count_of (f ∷ fs) = omega (arith, sum_by-cons weight e (f ∷ fs)) in
    swept_past limit w c e f fs more
    ∙ ap (λ k. e ∷ swept_from limit w k f fs) own
    ∙ ap (λ (all : List Element). e ∷ all) (closed_swept_from limit w (d + weight e) f fs apart.2 (omega (arith, ap count_of next, sum_by-cons weight e (closed_from w f fs))))
    ∙ sym next)
    (λ here. let next = closed_on w e f fs here in
    let still : limit < c = omega (arith, closed_counts_from w e (f ∷ fs) apart) in
    let left : c + 2 - (weight e + weight f) ≡ d + count_of (spanned e f ∷ fs) = omega (arith, span_counts e f fs apart) in
    swept_on limit w c e f fs still here
    ∙ ap (λ k. swept_from limit w k (spanned e f) fs) left
    ∙ closed_swept_from limit w d (spanned e f) fs (span_apart e f fs apart) (omega (arith, ap count_of next))
    ∙ sym next)

pub closed_swept : (limit : ℕ) (w : ℤ) (es : List Element) → AreApart es → limit < count_of (closed w es) → swept limit w (count_of es) es ≡ closed w es
closed_swept limit w [] apart over = refl
closed_swept limit w (e ∷ es) apart over =
    let own : count_of (e ∷ es) ≡ 0 + count_of (e ∷ es) = omega arith in
    ap (λ k. swept_from limit w k e es) own ∙ closed_swept_from limit w 0 e es apart (omega (arith, over))

-- ---- what a sweep leaves
starts_swept : (v : ℤ) (limit : ℕ) (w : ℤ) (c : ℕ) (e : Element) (fs : List Element) → v <ℤ e.least → StartsAfter v (swept_from limit w c e fs)
starts_swept v limit w c e [] after = after
starts_swept v limit w c e (f ∷ fs) after =
    cond_both (nat_lt limit c && int_le (gap_between e f) w) (swept_from limit w (c + 2 - (weight e + weight f)) (spanned e f) fs) (e ∷ swept_from limit w c f fs) (StartsAfter v)
    (λ t. starts_swept v limit w (c + 2 - (weight e + weight f)) (spanned e f) fs after) (λ n. after)

apart_swept_from : (limit : ℕ) (w : ℤ) (c : ℕ) (e : Element) (fs : List Element) → AreApart (e ∷ fs) → AreApart (swept_from limit w c e fs)
apart_swept_from limit w c e [] apart = apart
apart_swept_from limit w c e (f ∷ fs) apart =
    cond_both (nat_lt limit c && int_le (gap_between e f) w) (swept_from limit w (c + 2 - (weight e + weight f)) (spanned e f) fs) (e ∷ swept_from limit w c f fs) AreApart
    (λ t. apart_swept_from limit w (c + 2 - (weight e + weight f)) (spanned e f) fs (span_apart e f fs apart))
    (λ n. (apart.0, starts_swept e.greatest limit w c f fs apart.1, apart_swept_from limit w c f fs apart.2))

pub apart_swept : (limit : ℕ) (w : ℤ) (c : ℕ) (es : List Element) → AreApart es → AreApart (swept limit w c es)
apart_swept limit w c [] apart = apart
apart_swept limit w c (e ∷ es) apart = apart_swept_from limit w c e es apart

length_swept_from : (limit : ℕ) (w : ℤ) (c : ℕ) (e : Element) (fs : List Element) → length (swept_from limit w c e fs) ≤ suc (length fs)
length_swept_from limit w c e [] = omega arith
length_swept_from limit w c e (f ∷ fs) =
    cond_both (nat_lt limit c && int_le (gap_between e f) w) (swept_from limit w (c + 2 - (weight e + weight f)) (spanned e f) fs) (e ∷ swept_from limit w c f fs) (λ all. length all ≤ suc (suc (length fs)))
    (λ t. omega (arith, length_swept_from limit w (c + 2 - (weight e + weight f)) (spanned e f) fs)) (λ n. omega (arith, length_swept_from limit w c f fs))

pub length_swept : (limit : ℕ) (w : ℤ) (c : ℕ) (es : List Element) → length (swept limit w c es) ≤ length es
length_swept limit w c [] = omega arith
length_swept limit w c (e ∷ es) = length_swept_from limit w c e es

-- the least gap is closed where they count more than the limit
pub fewer_swept : (limit c at : ℕ) (es : List Element) → limit < c → IsLeastGap es at → length (swept limit (gap_at es at) c es) < length es
fewer_swept limit c at es over is =
    let w = gap_at es at in
    let x = point (pos 0) in
    let left = c + 2 - (weight (get_or es at x) + weight (get_or es (suc at) x)) in
    omega (arith, ap length (swept_merged limit w c at es x x over is.within (λ i below. is.lowest i below) (omega (arith, ints))), length_swept limit w left (merged_at es at), length_merged es at is.within)

-- ---- how the loops begin
pub closed_begins : (w : ℤ) (es : List Element) (x : Element) → 0 < length es → x ≡ get_or es 0 x → closed_from w x (drop 1 es) ≡ closed w es
closed_begins w [] x some is = absurd (omega arith)
closed_begins w (e ∷ es) x some is = ap (λ (y : Element). closed_from w y es) is

pub swept_begins : (limit : ℕ) (w : ℤ) (c : ℕ) (es : List Element) (x : Element) → 0 < length es → x ≡ get_or es 0 x → swept_from limit w c x (drop 1 es) ≡ swept limit w c es
swept_begins limit w c [] x some is = absurd (omega arith)
swept_begins limit w c (e ∷ es) x some is = ap (λ (y : Element). swept_from limit w c y es) is

pub first_and_rest : (es : List Element) (x : Element) → 0 < length es → x ≡ get_or es 0 x → x ∷ drop 1 es ≡ es
first_and_rest [] x some is = absurd (omega arith)
first_and_rest (e ∷ es) x some is = ap (λ (y : Element). y ∷ es) is

-- ---- one step of the loop
pub step_apart : (items : List Element) (at : ℕ) (last next : Element) → at < length items → next ≡ get_or items at next → AreApart (last ∷ drop at items) → AreApart (last ∷ next ∷ drop (at + 1) items)
step_apart items at last next below is apart = subst (λ (l : List Element). AreApart (last ∷ l)) (next_of items at next below is) apart

pub on_counted : (items : List Element) (at kept left : ℕ) (last next : Element) → at < length items → next ≡ get_or items at next → AreApart (last ∷ drop at items)
    → left ≡ count_of (take kept items) + count_of (last ∷ drop at items)
    → left + 2 - weight last - weight next ≡ count_of (take kept items) + count_of (spanned last next ∷ drop (at + 1) items)
on_counted items at kept left last next below is apart counted =
    omega (arith, counted, ap (λ (l : List Element). count_of (last ∷ l)) (next_of items at next below is), span_counts last next (drop (at + 1) items) (step_apart items at last next below is apart))

pub on_swept : (limit : ℕ) (w : ℤ) (left kept at : ℕ) (items all : List Element) (last next : Element) → at < length items → next ≡ get_or items at next
    → (nat_lt limit left && int_le (gap_between last next) w) ≡ true
    → take kept items ++ swept_from limit w left last (drop at items) ≡ all
    → take kept items ++ swept_from limit w (left + 2 - weight last - weight next) (spanned last next) (drop (at + 1) items) ≡ all
on_swept limit w left kept at items all last next below is goes so_far =
    let fs = drop (at + 1) items in
    let twice : left + 2 - weight last - weight next ≡ left + 2 - (weight last + weight next) = omega arith in
    ap (λ k. take kept items ++ swept_from limit w k (spanned last next) fs) twice
    ∙ ap (λ (l : List Element). take kept items ++ l)
    (sym (cond-true (nat_lt limit left && int_le (gap_between last next) w) (swept_from limit w (left + 2 - (weight last + weight next)) (spanned last next) fs) (last ∷ swept_from limit w left next fs) goes))
    ∙ ap (λ (l : List Element). take kept items ++ swept_from limit w left last l) (sym (next_of items at next below is))
    ∙ so_far

pub past_swept : (limit : ℕ) (w : ℤ) (left kept at : ℕ) (items all : List Element) (last next : Element) → kept < at → at < length items → next ≡ get_or items at next
    → (nat_lt limit left && int_le (gap_between last next) w) ≡ false
    → take kept items ++ swept_from limit w left last (drop at items) ≡ all
    → take (kept + 1) (set items kept last) ++ swept_from limit w left next (drop (at + 1) (set items kept last)) ≡ all
past_swept limit w left kept at items all last next behind below is stays so_far =
    let fs = drop (at + 1) items in
    (λ i. kept_items items kept at last behind below i ++ swept_from limit w left next (rest_items items kept at last behind i))
    ∙ append_assoc (take kept items) (last ∷ []) (swept_from limit w left next fs)
    ∙ ap (λ (l : List Element). take kept items ++ l)
    (sym (cond-false (nat_lt limit left && int_le (gap_between last next) w) (swept_from limit w (left + 2 - (weight last + weight next)) (spanned last next) fs) (last ∷ swept_from limit w left next fs) stays))
    ∙ ap (λ (l : List Element). take kept items ++ swept_from limit w left last l) (sym (next_of items at next below is))
    ∙ so_far

pub past_counted : (items : List Element) (at kept left : ℕ) (last next : Element) → kept < at → at < length items → next ≡ get_or items at next
    → left ≡ count_of (take kept items) + count_of (last ∷ drop at items)
    → left ≡ count_of (take (kept + 1) (set items kept last)) + count_of (next ∷ drop (at + 1) (set items kept last))
past_counted items at kept left last next behind below is counted =
    let fs = drop (at + 1) items in
    omega (
      arith,
      counted,
      ap (λ (l : List Element). count_of (last ∷ l)) (next_of items at next below is),
      ap count_of (kept_items items kept at last behind below),
      ap (λ (l : List Element). count_of (next ∷ l)) (rest_items items kept at last behind),
      sum_by-append weight (take kept items) (last ∷ []),
      sum_by-cons weight last [],
      sum_by-cons weight last (next ∷ fs),
    )

pub past_apart : (items : List Element) (at kept : ℕ) (last next : Element) → kept < at → at < length items → next ≡ get_or items at next → AreApart (last ∷ drop at items)
    → AreApart (next ∷ drop (at + 1) (set items kept last))
past_apart items at kept last next behind below is apart =
    subst (λ (l : List Element). AreApart (next ∷ l)) (sym (rest_items items kept at last behind)) (step_apart items at last next below is apart).2

pub end_counted : (items : List Element) (at kept left : ℕ) (last : Element) → kept < at → at ≡ length items → left ≡ count_of (take kept items) + count_of (last ∷ drop at items)
    → left ≡ count_of (take (kept + 1) (set items kept last))
end_counted items at kept left last behind is counted =
    omega (arith, counted, ap (λ (l : List Element). count_of (last ∷ l)) (drop_all at items (omega arith)), ap count_of (take_more_set items kept last (omega arith)), sum_by-append weight (take kept items) (last ∷ []))
