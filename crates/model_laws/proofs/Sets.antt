-- ranges as sets of numbers
use Rattle.std.specs.Prelude.{◌≡◌, ◌⊎◌, ℤ, pos, ◌-ℤ◌, ◌≤ℤ◌, true, false, ◌&&◌, ◌||◌, Option, refl}
use Rattle.std.proofs.Common.{sym, ap, ◌∙◌, inl, inr}
use Rattle.std.proofs.lemmas.Bool.{false≢true, and_from, and_parts, or_cases, or_left, or_right}
use Rattle.block_model.specs.Ranges.{Range, Empty, Between, has_number, is_from, is_below, leaves_room, starts_first, ends_last, same_bound, meets_before, touches}
use Rattle.model_laws.specs.NumbersOfRanges.{Has, HasNumbers}
use Rattle.model_laws.specs.ContainsIsSuperset.{IsSuperset, ContainsIsSuperset}
use Rattle.model_laws.specs.EqualIsSameNumbers.{HaveSameNumbers, EqualIsSameNumbers}
use Rattle.model_laws.specs.OverlapsIsCommonNumber.{HaveCommonNumber, OverlapsIsCommonNumber}
use Rattle.model_laws.specs.AdjacentIsNeighbours.{GoesOverInto, AreNeighbours, AdjacentIsNeighbours}
use Rattle.model_laws.specs.BeforeIsLess.{IsLess, BeforeIsLess}
use Rattle.model_laws.specs.NotAfterIsReached.{IsReached, NotAfterIsReached}
use Rattle.model_laws.specs.NotBeforeIsPreceded.{IsPreceded, NotBeforeIsPreceded}
use Rattle.model_laws.proofs.Equality.{same_range}
use Rattle.model_laws.proofs.Bounds.{NumberBetween, number_between, room_for, from_first, below_last, first_of, last_of, CommonNumber, common_number, same_lower, same_upper, touches_at, ends_at, begins_at, Touching, touching, touching_apart, less_across, meets_where_less, NumberAfter, number_after, ends_where_reached, NumberBefore, number_before, starts_where_preceded}

-- no number is in an empty range, and no test that fails holds
not_true : {X : Type 0} → false ≡ true → X
not_true h = absurd (false≢true h)

in_between : (l h : Option ℤ) (n : ℤ) → is_from l n ≡ true → is_below h n ≡ true → Has (Between l h) n
in_between l h n f b = and_from _ _ f b

sides : (l h : Option ℤ) (n : ℤ) → Has (Between l h) n → (is_from l n ≡ true) × (is_below h n ≡ true)
sides l h n e = and_parts _ _ e

has_numbers : (l h : Option ℤ) → leaves_room l h ≡ true → HasNumbers (Between l h)
has_numbers l h r = let found : NumberBetween l h = number_between l h r in (found.n, in_between l h found.n found.from found.below)

-- ---- `@>`

superset_of : (a b c d : Option ℤ) → (starts_first a c && ends_last b d) ≡ true → IsSuperset (Between a b) (Between c d)
superset_of a b c d e n h =
    let p : (starts_first a c ≡ true) × (ends_last b d ≡ true) = and_parts _ _ e in
    let s : (is_from c n ≡ true) × (is_below d n ≡ true) = sides c d n h in
    in_between a b n (from_first a c n p.0 s.0) (below_last b d n p.1 s.1)

bounds_of : (a b c d : Option ℤ) → leaves_room c d ≡ true → IsSuperset (Between a b) (Between c d) → (starts_first a c ≡ true) × (ends_last b d ≡ true)
bounds_of a b c d r all = (
  first_of a c d r (λ n f b'. (sides a b n (all n (in_between c d n f b'))).0),
  last_of b c d r (λ n f b'. (sides a b n (all n (in_between c d n f b'))).1),
)

pub contains_is_superset : ContainsIsSuperset
contains_is_superset Empty Empty r s = (λ e n h. h, λ all. refl)
contains_is_superset Empty (Between c d) r s = (λ e. not_true e, λ all. let some : HasNumbers (Between c d) = has_numbers c d s in not_true (all some.0 some.1))
contains_is_superset (Between a b) Empty r s = (λ e n h. not_true h, λ all. refl)
contains_is_superset (Between a b) (Between c d) r s = (superset_of a b c d, λ all. let p : (starts_first a c ≡ true) × (ends_last b d ≡ true) = bounds_of a b c d s all in and_from _ _ p.0 p.1)

-- ---- `=`

same_numbers_of : (a b c d : Option ℤ) → (same_bound a c && same_bound b d) ≡ true → HaveSameNumbers (Between a b) (Between c d)
same_numbers_of a b c d e n = ap (λ (r : Range). has_number r n) (same_range a b c d e)

same_bounds_of : (a b c d : Option ℤ) → leaves_room a b ≡ true → leaves_room c d ≡ true → HaveSameNumbers (Between a b) (Between c d) → (same_bound a c && same_bound b d) ≡ true
same_bounds_of a b c d r s all =
    let p : (starts_first a c ≡ true) × (ends_last b d ≡ true) = bounds_of a b c d s (λ n h. all n ∙ h) in
    let q : (starts_first c a ≡ true) × (ends_last d b ≡ true) = bounds_of c d a b r (λ n h. sym (all n) ∙ h) in
    and_from _ _ (same_lower a c p.0 q.0) (same_upper b d p.1 q.1)

pub equal_is_same_numbers : EqualIsSameNumbers
equal_is_same_numbers Empty Empty r s = (λ e n. refl, λ all. refl)
equal_is_same_numbers Empty (Between c d) r s = (λ e. not_true e, λ all. let some : HasNumbers (Between c d) = has_numbers c d s in not_true (all some.0 ∙ some.1))
equal_is_same_numbers (Between a b) Empty r s = (λ e. not_true e, λ all. let some : HasNumbers (Between a b) = has_numbers a b r in not_true (sym (all some.0) ∙ some.1))
equal_is_same_numbers (Between a b) (Between c d) r s = (same_numbers_of a b c d, same_bounds_of a b c d r s)

-- ---- `&&`

common_of : (a b c d : Option ℤ) → leaves_room a b ≡ true → leaves_room c d ≡ true → (leaves_room a d && leaves_room c b) ≡ true → HaveCommonNumber (Between a b) (Between c d)
common_of a b c d r s e =
    let p : (leaves_room a d ≡ true) × (leaves_room c b ≡ true) = and_parts _ _ e in
    let found : CommonNumber a b c d = common_number a b c d r s p.0 p.1 in
    (found.n, in_between a b found.n found.from.0 found.below.0, in_between c d found.n found.from.1 found.below.1)

room_of : (a b c d : Option ℤ) → HaveCommonNumber (Between a b) (Between c d) → (leaves_room a d && leaves_room c b) ≡ true
room_of a b c d h =
    let p : (is_from a h.0 ≡ true) × (is_below b h.0 ≡ true) = sides a b h.0 h.1 in
    let q : (is_from c h.0 ≡ true) × (is_below d h.0 ≡ true) = sides c d h.0 h.2 in
    and_from _ _ (room_for a d h.0 p.0 q.1) (room_for c b h.0 q.0 p.1)

pub overlaps_is_common_number : OverlapsIsCommonNumber
overlaps_is_common_number Empty Empty r s = (λ e. not_true e, λ h. not_true h.1)
overlaps_is_common_number Empty (Between c d) r s = (λ e. not_true e, λ h. not_true h.1)
overlaps_is_common_number (Between a b) Empty r s = (λ e. not_true e, λ h. not_true h.2)
overlaps_is_common_number (Between a b) (Between c d) r s = (common_of a b c d r s, room_of a b c d)

-- ---- `-|-`

goes_over : (a b c d : Option ℤ) → leaves_room a b ≡ true → leaves_room c d ≡ true → touches b c ≡ true → GoesOverInto (Between a b) (Between c d)
goes_over a b c d r s e =
    let t : Touching a b c d = touching a b c d r s e in
    (t.n, in_between a b (t.n -ℤ pos 1) t.in_first.0 t.in_first.1, in_between c d t.n t.in_second.0 t.in_second.1)

neighbours_of : (a b c d : Option ℤ) → leaves_room a b ≡ true → leaves_room c d ≡ true → (touches b c || touches d a) ≡ true → AreNeighbours (Between a b) (Between c d)
neighbours_of a b c d r s e = elim (or_cases (touches b c) (touches d a) e) [
  | inl t ↦ record {
    apart = λ h. touching_apart b c h.0 t (sides a b h.0 h.1).1 (sides c d h.0 h.2).0;
    no_gap = inl (goes_over a b c d r s t);
  }
  | inr t ↦ record {
    apart = λ h. touching_apart d a h.0 t (sides c d h.0 h.2).1 (sides a b h.0 h.1).0;
    no_gap = inr (goes_over c d a b s r t);
  }
]

touching_there : (a b c d : Option ℤ) → ¬ (HaveCommonNumber (Between a b) (Between c d)) → GoesOverInto (Between a b) (Between c d) → touches b c ≡ true
touching_there a b c d off g =
    let p : (is_from a (g.0 -ℤ pos 1) ≡ true) × (is_below b (g.0 -ℤ pos 1) ≡ true) = sides a b (g.0 -ℤ pos 1) g.1 in
    let q : (is_from c g.0 ≡ true) × (is_below d g.0 ≡ true) = sides c d g.0 g.2 in
    touches_at b c g.0
    (ends_at a b g.0 p.0 p.1 (λ x. off (g.0, in_between a b g.0 x.0 x.1, g.2)))
    (begins_at c d g.0 q.0 q.1 (λ x. off (g.0 -ℤ pos 1, g.1, in_between c d (g.0 -ℤ pos 1) x.0 x.1)))

adjacent_of : (a b c d : Option ℤ) → AreNeighbours (Between a b) (Between c d) → (touches b c || touches d a) ≡ true
adjacent_of a b c d h = elim h.no_gap [
  | inl g ↦ or_left (touches b c) (touches d a) (touching_there a b c d h.apart g)
  | inr g ↦ or_right (touches b c) (touches d a) (touching_there c d a b (λ x. h.apart (x.0, x.2, x.1)) g)
]

never_empty : {X : Type 0} (r : Range) → GoesOverInto Empty r ⊎ GoesOverInto r Empty → X
never_empty {X} r g = elim g [ inl g' ↦ not_true g'.1 | inr g' ↦ not_true g'.2 ]

pub adjacent_is_neighbours : AdjacentIsNeighbours
adjacent_is_neighbours Empty Empty r s = (λ e. not_true e, λ h. never_empty Empty h.no_gap)
adjacent_is_neighbours Empty (Between c d) r s = (λ e. not_true e, λ h. never_empty (Between c d) h.no_gap)
adjacent_is_neighbours (Between a b) Empty r s = (λ e. not_true e, λ h. never_empty (Between a b) (elim h.no_gap [ inl g ↦ inr g | inr g ↦ inl g ]))
adjacent_is_neighbours (Between a b) (Between c d) r s = (neighbours_of a b c d r s, adjacent_of a b c d)

-- ---- `<<`

less_of : (a b c d : Option ℤ) → leaves_room a b ≡ true → leaves_room c d ≡ true → meets_before b c ≡ true → IsLess (Between a b) (Between c d)
less_of a b c d r s e = record {
  first = has_numbers a b r;
  second = has_numbers c d s;
  less = λ n m h k. less_across b c n m e (sides a b n h).1 (sides c d m k).0;
}

before_of : (a b c d : Option ℤ) → IsLess (Between a b) (Between c d) → meets_before b c ≡ true
before_of a b c d h =
    let p : (is_from a h.first.0 ≡ true) × (is_below b h.first.0 ≡ true) = sides a b h.first.0 h.first.1 in
    let q : (is_from c h.second.0 ≡ true) × (is_below d h.second.0 ≡ true) = sides c d h.second.0 h.second.1 in
    meets_where_less a b c d h.first.0 h.second.0 p.0 p.1 q.0 q.1 (λ n m f b' f' b''. h.less n m (in_between a b n f b') (in_between c d m f' b''))

pub before_is_less : BeforeIsLess
before_is_less Empty Empty r s = (λ e. not_true e, λ h. not_true h.first.1)
before_is_less Empty (Between c d) r s = (λ e. not_true e, λ h. not_true h.first.1)
before_is_less (Between a b) Empty r s = (λ e. not_true e, λ h. not_true h.second.1)
before_is_less (Between a b) (Between c d) r s = (less_of a b c d r s, before_of a b c d)

-- ---- `&<`

reached_of : (a b c d : Option ℤ) → leaves_room a b ≡ true → leaves_room c d ≡ true → ends_last d b ≡ true → IsReached (Between a b) (Between c d)
reached_of a b c d r s e = record {
  first = has_numbers a b r;
  second = has_numbers c d s;
  reached = λ n h. let m : NumberAfter c d n = number_after b c d n s e (sides a b n h).1 in (m.n, m.after, in_between c d m.n m.from m.below);
}

not_after_of : (a b c d : Option ℤ) → IsReached (Between a b) (Between c d) → ends_last d b ≡ true
not_after_of a b c d h =
    let p : (is_from a h.first.0 ≡ true) × (is_below b h.first.0 ≡ true) = sides a b h.first.0 h.first.1 in
    ends_where_reached a b c d h.first.0 p.0 p.1
    (λ n f u. let m : (m : ℤ) × (n ≤ℤ m) × Has (Between c d) m = h.reached n (in_between a b n f u) in
    record { n = m.0; after = m.1; from = (sides c d m.0 m.2).0; below = (sides c d m.0 m.2).1 })

pub not_after_is_reached : NotAfterIsReached
not_after_is_reached Empty Empty r s = (λ e. not_true e, λ h. not_true h.first.1)
not_after_is_reached Empty (Between c d) r s = (λ e. not_true e, λ h. not_true h.first.1)
not_after_is_reached (Between a b) Empty r s = (λ e. not_true e, λ h. not_true h.second.1)
not_after_is_reached (Between a b) (Between c d) r s = (reached_of a b c d r s, not_after_of a b c d)

-- ---- `&>`

preceded_of : (a b c d : Option ℤ) → leaves_room a b ≡ true → leaves_room c d ≡ true → starts_first c a ≡ true → IsPreceded (Between a b) (Between c d)
preceded_of a b c d r s e = record {
  first = has_numbers a b r;
  second = has_numbers c d s;
  preceded = λ n h. let m : NumberBefore c d n = number_before a c d n s e (sides a b n h).0 in (m.n, m.before, in_between c d m.n m.from m.below);
}

not_before_of : (a b c d : Option ℤ) → IsPreceded (Between a b) (Between c d) → starts_first c a ≡ true
not_before_of a b c d h =
    let p : (is_from a h.first.0 ≡ true) × (is_below b h.first.0 ≡ true) = sides a b h.first.0 h.first.1 in
    starts_where_preceded a b c d h.first.0 p.0 p.1
    (λ n f u. let m : (m : ℤ) × (m ≤ℤ n) × Has (Between c d) m = h.preceded n (in_between a b n f u) in
    record { n = m.0; before = m.1; from = (sides c d m.0 m.2).0; below = (sides c d m.0 m.2).1 })

pub not_before_is_preceded : NotBeforeIsPreceded
not_before_is_preceded Empty Empty r s = (λ e. not_true e, λ h. not_true h.first.1)
not_before_is_preceded Empty (Between c d) r s = (λ e. not_true e, λ h. not_true h.first.1)
not_before_is_preceded (Between a b) Empty r s = (λ e. not_true e, λ h. not_true h.second.1)
not_before_is_preceded (Between a b) (Between c d) r s = (preceded_of a b c d r s, not_before_of a b c d)
