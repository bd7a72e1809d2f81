-- elements that are widened, and reduced
use Rattle.std.proofs.Common.{◌≡◌, ℕ, ◌≤◌, ℤ, true, false, List, [], ◌∷◌, length, refl, ap, subst, ◌∙◌, arith}
use Rattle.std.specs.Prelude.{FitsSigned}
use Rattle.std.specs.Int.{w64}
use Rattle.std.specs.List.{list_all}
use Rattle.std.proofs.lemmas.Bool.{cond_both, or_left, or_right, and_parts, and_from}
use Rattle.std.proofs.lemmas.Int.{ints}
use Rattle.block_model.specs.declared.value.Value.{Value}
use Rattle.block_model.specs.declared.value.Value.TheVariants.{Null, Int, Span, Net}
use Rattle.opclass_multi.specs.declared.element.Element.{Element}
use Rattle.opclass_multi.specs.Elements.{point, IsOrdered, AreApart, covers, holds, count_of}
use Rattle.opclass_multi.specs.Joined.{with_element, joined}
use Rattle.opclass_multi.specs.Reduced.{reduced}
use Rattle.opclass_multi.specs.Kept.{Kept, with_number, reduced_to}
use Rattle.opclass_multi.specs.Includes.{Includes}
use Rattle.opclass_multi.proofs.Joining.{apart_with, held_more, apart_joined, joined_well, joined_keeps, joined_holds_others, all_within_stay}
use Rattle.opclass_multi.proofs.Reducing.{apart_reduced, reduced_keeps, reduced_fits, reduces, fits_reduced}

pub ordered_point : (v : ℤ) → FitsSigned w64 v → IsOrdered (point v)
ordered_point v fits = record { least_fits = fits; greatest_fits = fits; in_order = omega (arith, ints) }

point_covers : (v : ℤ) → covers v v (point v) ≡ true
point_covers v = grind (arith, ints)

pub apart_point : (v : ℤ) (es : List Element) → FitsSigned w64 v → AreApart es → AreApart (with_element (point v) es)
apart_point v es fits apart = apart_with (point v) es (ordered_point v fits) apart

-- a number more, and they are apart
pub apart_widened : (limit : ℕ) (v : ℤ) (es : List Element) → FitsSigned w64 v → AreApart es → AreApart (reduced limit (with_element (point v) es))
apart_widened limit v es fits apart = apart_reduced limit (with_element (point v) es) (apart_point v es fits apart)

-- they hold it
pub widened_holds : (limit : ℕ) (v : ℤ) (es : List Element) → FitsSigned w64 v → AreApart es → holds (reduced limit (with_element (point v) es)) v v ≡ true
widened_holds limit v es fits apart =
    reduced_keeps limit (with_element (point v) es) v v (apart_point v es fits apart) (held_more (point v) es v v (or_left (covers v v (point v)) (holds es v v) (point_covers v)))

-- and what they held
pub widened_keeps : (limit : ℕ) (v : ℤ) (es : List Element) (p q : ℤ) → FitsSigned w64 v → AreApart es → holds es p q ≡ true → holds (reduced limit (with_element (point v) es)) p q ≡ true
widened_keeps limit v es p q fits apart held =
    reduced_keeps limit (with_element (point v) es) p q (apart_point v es fits apart) (held_more (point v) es p q (or_right (covers p q (point v)) (holds es p q) held))

-- a reduction is within the limit
pub within_limit : (limit : ℕ) (es : List Element) → 2 ≤ limit → count_of (reduced limit es) ≤ limit
within_limit limit es some = fits_reduced limit es (reduced limit es) (reduces limit es some)

pub apart_united : (limit : ℕ) (es fs : List Element) → AreApart es → AreApart fs → AreApart (reduced limit (joined es fs))
apart_united limit es fs apart others = apart_reduced limit (joined es fs) (apart_joined es fs apart others)

-- the elements of both hold what the first held
pub united_keeps : (limit : ℕ) (es fs : List Element) (p q : ℤ) → AreApart es → AreApart fs → holds es p q ≡ true → holds (reduced limit (joined es fs)) p q ≡ true
united_keeps limit es fs p q apart others held = reduced_keeps limit (joined es fs) p q (apart_joined es fs apart others) (joined_keeps es fs p q held)

-- and what the second held
pub united_takes : (limit : ℕ) (es fs : List Element) (v : ℤ) → AreApart es → AreApart fs → holds fs v v ≡ true → holds (reduced limit (joined es fs)) v v ≡ true
united_takes limit es fs v apart others held =
    reduced_keeps limit (joined es fs) v v (apart_joined es fs apart others) ((joined_well es fs apart others).numbers v ∙ or_right (holds es v v) (holds fs v v) held)

all_wider : (all most fs : List Element) → ((f : Element) → holds all f.least f.greatest ≡ true → holds most f.least f.greatest ≡ true) → list_all (λ f. holds all f.least f.greatest) fs ≡ true → list_all (λ f. holds most f.least f.greatest) fs ≡ true
all_wider all most [] wider held = refl
all_wider all most (f ∷ fs) wider held =
    let parts = and_parts (holds all f.least f.greatest) (list_all (λ f. holds all f.least f.greatest) fs) held in
    and_from (holds most f.least f.greatest) (list_all (λ f. holds most f.least f.greatest) fs) (wider f parts.0) (all_wider all most fs wider parts.1)

-- nothing changes exactly where each of the second lies in an element of the first
pub united_same : (limit : ℕ) (es fs : List Element) → AreApart es → AreApart fs → count_of es ≤ limit → list_all (λ f. holds es f.least f.greatest) fs ≡ true → reduced limit (joined es fs) ≡ es
united_same limit es fs apart others within held = ap (reduced limit) (all_within_stay es fs apart others held) ∙ reduced_fits limit (length es) es within

pub united_changed : (limit : ℕ) (es fs : List Element) → AreApart es → AreApart fs → list_all (λ f. holds es f.least f.greatest) fs ≡ false → reduced limit (joined es fs) ≡ es → ⊥
united_changed limit es fs apart others missing same =
    let held = all_wider (joined es fs) (reduced limit (joined es fs)) fs (λ f. reduced_keeps limit (joined es fs) f.least f.greatest (apart_joined es fs apart others)) (joined_holds_others es fs) in
    let own : list_all (λ f. holds es f.least f.greatest) fs ≡ true = subst (λ (all : List Element). list_all (λ f. holds all f.least f.greatest) fs ≡ true) same held in
    absurd (cc)

-- a number that is added is held, and so is what was held
pub number_held : (s : Kept) (v : ℤ) → FitsSigned w64 v → AreApart s.elements → holds (with_number s v).elements v v ≡ true
number_held s v fits apart =
    cond_both (holds s.elements v v) s (reduced_to s.limit (with_element (point v) s.elements)) (λ t. holds t.elements v v ≡ true) (λ h. h) (λ n. widened_holds s.limit v s.elements fits apart)

pub number_keeps : (s : Kept) (v w : ℤ) → FitsSigned w64 v → AreApart s.elements → holds s.elements w w ≡ true → holds (with_number s v).elements w w ≡ true
number_keeps s v w fits apart held =
    cond_both (holds s.elements v v) s (reduced_to s.limit (with_element (point v) s.elements)) (λ t. holds t.elements w w ≡ true) (λ h. held) (λ n. widened_keeps s.limit v s.elements w w fits apart held)

-- what includes each number of a summary includes its values
pub includes_more : (s t : Kept) → ((w : ℤ) → holds s.elements w w ≡ true → holds t.elements w w ≡ true) → (w : Value) → Includes s w → Includes t w
includes_more s t more (Int w) within = more w within
includes_more s t more Null within = within
includes_more s t more (Span r) within = within
includes_more s t more (Net a) within = within
