-- a summary of ranges that is asked misses no range that it includes
use Rattle.std.proofs.Common.{◌≡◌, ℤ, Bool, true, false, not, ◌&&◌, ◌||◌, Option, None, Some, List, refl, sym, ◌∙◌, inl, inr, arith}
use Rattle.std.proofs.lemmas.Bool.{false≢true, and_from, and_parts, or_cases, or_left, or_right}
use Rattle.std.proofs.lemmas.Int.{ints}
use Rattle.block_model.specs.declared.value.Value.{Value}
use Rattle.block_model.specs.declared.value.Value.TheVariants.{Null, Int, Span, Net}
use Rattle.block_model.specs.declared.value.Op.{Op}
use Rattle.block_model.specs.declared.value.Op.TheVariants.{Eq, Overlaps, Contains, Within, Before, After, NotAfter, NotBefore, Adjacent}
use Rattle.block_model.specs.declared.row.Cond.{Cond}
use Rattle.block_model.specs.Matches.{matches, range_matches, bounds_match}
use Rattle.block_model.specs.Ranges.{Range, Empty, Between, IsRange, leaves_room, starts_first, ends_last, same_bound, meets_before, touches}
use Rattle.opclass_api.specs.Conditions.{compares, has_null_key, is_null}
use Rattle.opclass_inclusion.specs.SpanConsistent.{condition_holds, consistent, ends_after, hull_holds, key_holds, range_key_holds, starts_before}
use Rattle.opclass_inclusion.specs.SpanIncludes.{IncludesRange, Includes}
use Rattle.opclass_inclusion.specs.declared.span_summary.SpanSummary.{SpanSummary}
use Rattle.opclass_api.specs.Asking.{by_kind, fails, null_fails}
use Rattle.opclass_inclusion.proofs.SpanHullLaws.{lower_further, upper_further}

-- ---- bounds

-- wider bounds leave room where narrower do
room_from : (a b h : Option ℤ) → starts_first a b ≡ true → leaves_room b h ≡ true → leaves_room a h ≡ true
room_from None b h s r = refl
room_from (Some a) None h s r = absurd (false≢true s)
room_from (Some a) (Some b) None s r = refl
room_from (Some a) (Some b) (Some h) s r = grind (arith, ints)

room_to : (l a b : Option ℤ) → ends_last a b ≡ true → leaves_room l b ≡ true → leaves_room l a ≡ true
room_to None a b s r = refl
room_to (Some l) None b s r = refl
room_to (Some l) (Some a) None s r = absurd (false≢true s)
room_to (Some l) (Some a) (Some b) s r = grind (arith, ints)

first_of_same : (a b c : Option ℤ) → starts_first a b ≡ true → same_bound b c ≡ true → starts_first a c ≡ true
first_of_same None b c s e = refl
first_of_same (Some a) None c s e = absurd (false≢true s)
first_of_same (Some a) (Some b) None s e = absurd (false≢true e)
first_of_same (Some a) (Some b) (Some c) s e = grind (arith, ints)

last_of_same : (a b c : Option ℤ) → ends_last a b ≡ true → same_bound b c ≡ true → ends_last a c ≡ true
last_of_same None b c s e = refl
last_of_same (Some a) None c s e = absurd (false≢true s)
last_of_same (Some a) (Some b) None s e = absurd (false≢true e)
last_of_same (Some a) (Some b) (Some c) s e = grind (arith, ints)

-- ---- the operators, for bounds u, v and k, where u's contain v's, between which there is a number

before_kept : (ul vh kl : Option ℤ) → leaves_room ul vh ≡ true → meets_before vh kl ≡ true → starts_before ul kl ≡ true
before_kept ul None kl r m = absurd (false≢true m)
before_kept ul (Some x) None r m = absurd (false≢true m)
before_kept None (Some x) (Some k) r m = refl
before_kept (Some u) (Some x) (Some k) r m = grind (arith, ints)

after_kept : (uh vl kh : Option ℤ) → leaves_room vl uh ≡ true → meets_before kh vl ≡ true → ends_after uh kh ≡ true
after_kept uh vl None r m = absurd (false≢true m)
after_kept uh None (Some k) r m = absurd (false≢true m)
after_kept None (Some x) (Some k) r m = refl
after_kept (Some u) (Some x) (Some k) r m = grind (arith, ints)

not_after_kept : (ul vh kh : Option ℤ) → leaves_room ul vh ≡ true → ends_last kh vh ≡ true → not (meets_before kh ul) ≡ true
not_after_kept ul vh None r m = refl
not_after_kept None vh (Some k) r m = refl
not_after_kept (Some u) None (Some k) r m = absurd (false≢true m)
not_after_kept (Some u) (Some x) (Some k) r m = grind (arith, ints)

not_before_kept : (uh vl kl : Option ℤ) → leaves_room vl uh ≡ true → starts_first kl vl ≡ true → not (meets_before uh kl) ≡ true
not_before_kept None vl kl r m = refl
not_before_kept (Some u) vl None r m = refl
not_before_kept (Some u) None (Some k) r m = absurd (false≢true m)
not_before_kept (Some u) (Some x) (Some k) r m = grind (arith, ints)

-- ul is below vh = kl, and uh isn't
touching_below : (ul uh vh kl kh : Option ℤ) → leaves_room ul vh ≡ true → ends_last uh vh ≡ true → touches vh kl ≡ true → leaves_room kl kh ≡ true → ((leaves_room ul kh && leaves_room kl uh) || (touches uh kl || touches kh ul)) ≡ true
touching_below ul uh None kl kh r e m k = absurd (false≢true m)
touching_below ul uh (Some x) None kh r e m k = absurd (false≢true m)
touching_below None None (Some x) (Some y) kh r e m k = refl
touching_below None (Some z) (Some x) (Some y) kh r e m k = grind (arith, ints)
touching_below (Some u) None (Some x) (Some y) None r e m k = refl
touching_below (Some u) None (Some x) (Some y) (Some h) r e m k = grind (arith, ints)
touching_below (Some u) (Some z) (Some x) (Some y) None r e m k = grind (arith, ints)
touching_below (Some u) (Some z) (Some x) (Some y) (Some h) r e m k = grind (arith, ints)

-- uh is above vl = kh, and ul isn't
touching_above : (ul uh vl kl kh : Option ℤ) → leaves_room vl uh ≡ true → starts_first ul vl ≡ true → touches kh vl ≡ true → leaves_room kl kh ≡ true → ((leaves_room ul kh && leaves_room kl uh) || (touches uh kl || touches kh ul)) ≡ true
touching_above ul uh vl kl None r e m k = absurd (false≢true m)
touching_above ul uh None kl (Some y) r e m k = absurd (false≢true m)
touching_above None None (Some x) None (Some y) r e m k = refl
touching_above None None (Some x) (Some l) (Some y) r e m k = refl
touching_above None (Some z) (Some x) None (Some y) r e m k = refl
touching_above None (Some z) (Some x) (Some l) (Some y) r e m k = grind (arith, ints)
touching_above (Some u) None (Some x) None (Some y) r e m k = grind (arith, ints)
touching_above (Some u) None (Some x) (Some l) (Some y) r e m k = grind (arith, ints)
touching_above (Some u) (Some z) (Some x) None (Some y) r e m k = grind (arith, ints)
touching_above (Some u) (Some z) (Some x) (Some l) (Some y) r e m k = grind (arith, ints)

-- bounds u contain bounds v, between which there is a number
record Around (ul uh vl vh : Option ℤ) : Type 0 where
  room : leaves_room vl vh ≡ true
  lower : starts_first ul vl ≡ true
  upper : ends_last uh vh ≡ true

bounds_kept : (ul uh vl vh : Option ℤ) (op : Op) (kl kh : Option ℤ) → Around ul uh vl vh → leaves_room kl kh ≡ true → bounds_match vl vh op kl kh ≡ true → hull_holds (Between ul uh) op (Between kl kh) ≡ true
bounds_kept ul uh vl vh Eq kl kh a k m =
    let p : (same_bound vl kl ≡ true) × (same_bound vh kh ≡ true) = and_parts _ _ m in
    and_from _ _ (first_of_same ul vl kl a.lower p.0) (last_of_same uh vh kh a.upper p.1)
bounds_kept ul uh vl vh Contains kl kh a k m =
    let p : (starts_first vl kl ≡ true) × (ends_last vh kh ≡ true) = and_parts _ _ m in
    and_from _ _ (lower_further ul vl kl a.lower p.0) (upper_further uh vh kh a.upper p.1)
bounds_kept ul uh vl vh Overlaps kl kh a k m =
    let p : (leaves_room vl kh ≡ true) × (leaves_room kl vh ≡ true) = and_parts _ _ m in
    and_from _ _ (room_from ul vl kh a.lower p.0) (room_to kl uh vh a.upper p.1)
bounds_kept ul uh vl vh Within kl kh a k m =
    let p : (starts_first kl vl ≡ true) × (ends_last kh vh ≡ true) = and_parts _ _ m in
    and_from _ _ (room_from ul vl kh a.lower (room_to vl kh vh p.1 a.room)) (room_to kl uh vh a.upper (room_from kl vl vh p.0 a.room))
bounds_kept ul uh vl vh Before kl kh a k m = before_kept ul vh kl (room_from ul vl vh a.lower a.room) m
bounds_kept ul uh vl vh After kl kh a k m = after_kept uh vl kh (room_to vl uh vh a.upper a.room) m
bounds_kept ul uh vl vh NotAfter kl kh a k m = not_after_kept ul vh kh (room_from ul vl vh a.lower a.room) m
bounds_kept ul uh vl vh NotBefore kl kh a k m = not_before_kept uh vl kl (room_to vl uh vh a.upper a.room) m
bounds_kept ul uh vl vh Adjacent kl kh a k m = elim (or_cases (touches vh kl) (touches kh vl) m) [
  | inl t ↦ touching_below ul uh vh kl kh (room_from ul vl vh a.lower a.room) a.upper t k
  | inr t ↦ touching_above ul uh vl kl kh (room_to vl uh vh a.upper a.room) a.lower t k
]
bounds_kept ul uh vl vh op kl kh a k m = absurd (false≢true m)

-- ---- keys

-- an operator but `<@` holds of a hull where it does of its bounds
empty_kept : (e : Bool) (u : Range) (op : Op) (k : Range) → e ≡ true → range_matches Empty op k ≡ true → range_key_holds e u op k ≡ true
empty_kept e u Eq Empty flag m = flag
empty_kept e u Contains Empty flag m = or_left e _ flag
empty_kept e u Within Empty flag m = flag
empty_kept e u Within (Between kl kh) flag m = or_left e _ flag
empty_kept e u op Empty flag m = absurd (false≢true m)
empty_kept e u op (Between kl kh) flag m = absurd (false≢true m)

empty_key_kept : (e : Bool) (ul uh vl vh : Option ℤ) (op : Op) → range_matches (Between vl vh) op Empty ≡ true → range_key_holds e (Between ul uh) op Empty ≡ true
empty_key_kept e ul uh vl vh Contains m = or_right e true refl
empty_key_kept e ul uh vl vh op m = absurd (false≢true m)

bounded_kept : (e : Bool) (ul uh vl vh : Option ℤ) (op : Op) (kl kh : Option ℤ) → Around ul uh vl vh → leaves_room kl kh ≡ true → bounds_match vl vh op kl kh ≡ true → range_key_holds e (Between ul uh) op (Between kl kh) ≡ true
bounded_kept e ul uh vl vh Within kl kh a k m = or_right e _ (bounds_kept ul uh vl vh Within kl kh a k m)
bounded_kept e ul uh vl vh op kl kh a k m = bounds_kept ul uh vl vh op kl kh a k m

range_kept : (e : Bool) (u v : Range) (op : Op) (k : Range) → IncludesRange e u v → IsRange k → range_matches v op k ≡ true → range_key_holds e u op k ≡ true
range_kept e u Empty op k within is m = empty_kept e u op k within m
range_kept e Empty (Between vl vh) op k within is m = absurd (false≢true within.1)
range_kept e (Between ul uh) (Between vl vh) op Empty within is m = empty_key_kept e ul uh vl vh op m
range_kept e (Between ul uh) (Between vl vh) op (Between kl kh) within is m =
    let p : (starts_first ul vl ≡ true) × (ends_last uh vh ≡ true) = and_parts _ _ within.1 in
    bounded_kept e ul uh vl vh op kl kh (record { room = within.0; lower = p.0; upper = p.1 }) is m

-- where a key holds nothing, no value that is included meets it
pub misses_none : (s : SpanSummary) (op : Op) (k : Range) → IsRange k → range_key_holds s.empty_added s.hull op k ≡ false → compares op ≡ true → (v : Value) → Includes s v → matches v op (Span k) ≡ false
misses_none s op k is none c (Span v) within = fails (matches (Span v) op (Span k)) (range_key_holds s.empty_added s.hull op k) none (λ m. range_kept s.empty_added s.hull v op k within is (sym (by_kind (Span v) op (Span k) c) ∙ m))
misses_none s op k is none c Null within = absurd within
misses_none s op k is none c (Int n) within = absurd within
misses_none s op k is none c (Net n) within = absurd within

key_null : (e : Bool) (u : Range) (op : Op) (key : Value) → is_null key ≡ true → key_holds e u op key ≡ false
key_null e u op Null null = refl
key_null e u op (Int n) null = absurd (false≢true null)
key_null e u op (Span r) null = absurd (false≢true null)
key_null e u op (Net n) null = absurd (false≢true null)

-- a null key holds nothing
pub null_holds_nothing : (s : SpanSummary) (conds : List Cond) → has_null_key conds ≡ true → consistent s conds ≡ false
null_holds_nothing s conds some = null_fails (condition_holds s) conds (λ cond null. key_null s.empty_added s.hull cond.op cond.key null) some
