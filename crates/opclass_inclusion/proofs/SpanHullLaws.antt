-- the smallest range that contains two
use Rattle.std.proofs.Common.{◌≡◌, ℤ, Bool, true, ◌&&◌, ◌||◌, Option, None, Some, refl, arith}
use Rattle.std.proofs.lemmas.Int.{ints, clamps}
use Rattle.std.proofs.lemmas.Bool.{and_from, and_parts, or_left, or_right}
use Rattle.block_model.specs.declared.value.Value.{Value}
use Rattle.block_model.specs.declared.value.Value.TheVariants.{Null, Int, Span, Net}
use Rattle.block_model.specs.Ranges.{Range, Empty, Between, starts_first, ends_last}
use Rattle.opclass_inclusion.specs.SpanExact.{HoldsRange}
use Rattle.opclass_inclusion.specs.SpanHulls.{least_lower, greatest_upper, hull_of, united}
use Rattle.opclass_inclusion.specs.SpanIncludes.{IncludesRange, Includes}
use Rattle.opclass_inclusion.specs.declared.span_summary.SpanSummary.{SpanSummary}

-- ---- lower bounds by their order

pub lower_itself : (a : Option ℤ) → starts_first a a ≡ true
lower_itself None = refl
lower_itself (Some a) = grind (arith, ints)

pub lower_further : (a b c : Option ℤ) → starts_first a b ≡ true → starts_first b c ≡ true → starts_first a c ≡ true
lower_further None b c s t = refl
lower_further (Some a) None c s t = grind arith
lower_further (Some a) (Some b) None s t = grind arith
lower_further (Some a) (Some b) (Some c) s t = grind (arith, ints)

least_first : (a b : Option ℤ) → starts_first (least_lower a b) a ≡ true
least_first None b = refl
least_first (Some a) None = refl
least_first (Some a) (Some b) = grind (arith, ints, clamps)

least_second : (a b : Option ℤ) → starts_first (least_lower a b) b ≡ true
least_second None b = refl
least_second (Some a) None = refl
least_second (Some a) (Some b) = grind (arith, ints, clamps)

least_of_both : (r a b : Option ℤ) → starts_first r a ≡ true → starts_first r b ≡ true → starts_first r (least_lower a b) ≡ true
least_of_both None a b s t = refl
least_of_both (Some r) None b s t = grind arith
least_of_both (Some r) (Some a) None s t = grind arith
least_of_both (Some r) (Some a) (Some b) s t = grind (arith, ints, clamps)

-- ---- upper bounds by their order

pub upper_itself : (a : Option ℤ) → ends_last a a ≡ true
upper_itself None = refl
upper_itself (Some a) = grind (arith, ints)

pub upper_further : (a b c : Option ℤ) → ends_last a b ≡ true → ends_last b c ≡ true → ends_last a c ≡ true
upper_further None b c s t = refl
upper_further (Some a) None c s t = grind arith
upper_further (Some a) (Some b) None s t = grind arith
upper_further (Some a) (Some b) (Some c) s t = grind (arith, ints)

greatest_first : (a b : Option ℤ) → ends_last (greatest_upper a b) a ≡ true
greatest_first None b = refl
greatest_first (Some a) None = refl
greatest_first (Some a) (Some b) = grind (arith, ints, clamps)

greatest_second : (a b : Option ℤ) → ends_last (greatest_upper a b) b ≡ true
greatest_second None b = refl
greatest_second (Some a) None = refl
greatest_second (Some a) (Some b) = grind (arith, ints, clamps)

greatest_of_both : (r a b : Option ℤ) → ends_last r a ≡ true → ends_last r b ≡ true → ends_last r (greatest_upper a b) ≡ true
greatest_of_both None a b s t = refl
greatest_of_both (Some r) None b s t = grind arith
greatest_of_both (Some r) (Some a) None s t = grind arith
greatest_of_both (Some r) (Some a) (Some b) s t = grind (arith, ints, clamps)

-- ---- ranges by `@>`

pub holds_itself : (r : Range) → HoldsRange r r
holds_itself Empty = refl
holds_itself (Between a b) = and_from _ _ (lower_itself a) (upper_itself b)

bounds_further : (a b c d e f : Option ℤ) → (starts_first a c && ends_last b d) ≡ true → (starts_first c e && ends_last d f) ≡ true → (starts_first a e && ends_last b f) ≡ true
bounds_further a b c d e f s t =
    let p : (starts_first a c ≡ true) × (ends_last b d ≡ true) = and_parts _ _ s in
    let q : (starts_first c e ≡ true) × (ends_last d f ≡ true) = and_parts _ _ t in
    and_from _ _ (lower_further a c e p.0 q.0) (upper_further b d f p.1 q.1)

pub holds_further : (r u v : Range) → HoldsRange r u → HoldsRange u v → HoldsRange r v
holds_further Empty Empty Empty s t = refl
holds_further (Between a b) Empty Empty s t = refl
holds_further (Between a b) (Between c d) Empty s t = refl
holds_further Empty (Between c d) Empty s t = refl
holds_further Empty Empty (Between e f) s t = t
holds_further Empty (Between c d) (Between e f) s t = cc
holds_further (Between a b) Empty (Between e f) s t = cc
holds_further (Between a b) (Between c d) (Between e f) s t = bounds_further a b c d e f s t

pub holds_empty : (r : Range) → HoldsRange r Empty
holds_empty Empty = refl
holds_empty (Between a b) = refl

pub hull_holds_first : (u k : Range) → HoldsRange (hull_of u k) u
hull_holds_first Empty k = holds_empty k
hull_holds_first (Between a b) Empty = holds_itself (Between a b)
hull_holds_first (Between a b) (Between c d) = and_from _ _ (least_first a c) (greatest_first b d)

pub hull_holds_second : (u k : Range) → HoldsRange (hull_of u k) k
hull_holds_second Empty k = holds_itself k
hull_holds_second (Between a b) Empty = refl
hull_holds_second (Between a b) (Between c d) = and_from _ _ (least_second a c) (greatest_second b d)

bounds_of_both : (r s a b c d : Option ℤ) → (starts_first r a && ends_last s b) ≡ true → (starts_first r c && ends_last s d) ≡ true → (starts_first r (least_lower a c) && ends_last s (greatest_upper b d)) ≡ true
bounds_of_both r s a b c d first second =
    let p : (starts_first r a ≡ true) × (ends_last s b ≡ true) = and_parts _ _ first in
    let q : (starts_first r c ≡ true) × (ends_last s d ≡ true) = and_parts _ _ second in
    and_from _ _ (least_of_both r a c p.0 q.0) (greatest_of_both s b d p.1 q.1)

pub hull_is_smallest : (r u k : Range) → HoldsRange r u → HoldsRange r k → HoldsRange r (hull_of u k)
hull_is_smallest r Empty k first second = second
hull_is_smallest r (Between a b) Empty first second = first
hull_is_smallest Empty (Between a b) (Between c d) first second = first
hull_is_smallest (Between r s) (Between a b) (Between c d) first second = bounds_of_both r s a b c d first second

-- ---- what a summary includes

still_included : (e f : Bool) (u k r : Range) → IncludesRange e u r → IncludesRange (e || f) (hull_of u k) r
still_included e f u k Empty within = or_left e f within
still_included e f u k (Between a b) within = (within.0, holds_further (hull_of u k) u (Between a b) (hull_holds_first u k) within.1)

also_included : (e f : Bool) (u k r : Range) → IncludesRange f k r → IncludesRange (e || f) (hull_of u k) r
also_included e f u k Empty within = or_right e f within
also_included e f u k (Between a b) within = (within.0, holds_further (hull_of u k) k (Between a b) (hull_holds_second u k) within.1)

-- a union includes what both summaries did
pub union_keeps : (s t : SpanSummary) (v : Value) → Includes s v → Includes (united s t) v
union_keeps s t (Span r) within = still_included s.empty_added t.empty_added s.hull t.hull r within
union_keeps s t Null within = within
union_keeps s t (Int n) within = within
union_keeps s t (Net n) within = within

pub union_includes : (s t : SpanSummary) (v : Value) → Includes t v → Includes (united s t) v
union_includes s t (Span r) within = also_included s.empty_added t.empty_added s.hull t.hull r within
union_includes s t Null within = within
union_includes s t (Int n) within = within
union_includes s t (Net n) within = within
