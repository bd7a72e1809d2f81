-- A value that a text denotes is one of the text's kind.
use Rattle.std.proofs.Common.{◌≡◌, ℕ, ◌-◌, ◌^◌, ◌<◌, ◌≤◌, Bool, true, false, cond, ◌&&◌, List, ℤ, pos, negsuc, Result, Ok, Err, Option, Some, None, unwrap_or, refl, ap, subst, ◌∙◌, arith}
use Rattle.std.specs.Prelude.{int_lt, int_le, IfSome, not, ◌+ℤ◌}
use Rattle.std.specs.Result.{is_ok}
use Rattle.std.specs.Ordering.{int_eq}
use Rattle.std.proofs.lemmas.Bool.{ltb-true, lt-ltb, false≢true}
use Rattle.std.proofs.lemmas.Int.{ints}
use Rattle.block_model.specs.Ranges.{Range, Empty, Between, IsRange, touches, leaves_room}
use Rattle.block_model.specs.RangeBounds.{Bound, grown_lower, grown_upper, within_int8, canonical_range, range_from_bounds}
use Rattle.block_model.specs.Networks.{IsNetwork}
use Rattle.block_model.specs.declared.span.SpanFault.{SpanFault}
use Rattle.block_model.specs.declared.span.SpanFault.TheVariants as faults
use Rattle.block_model.specs.declared.value.Kind.{Kind}
use Rattle.block_model.specs.declared.value.Kind.TheVariants as kinds
use Rattle.block_model.specs.declared.value.Value.{Value}
use Rattle.block_model.specs.declared.value.Value.TheVariants as values
use Rattle.value_text.specs.IntTexts.{NumberText, number_of, int8_of}
use Rattle.block_model.specs.ValuesOfKind.{is_int8}
use Rattle.value_text.specs.RangeTexts.{BoundText, side_of, bound_with, bound_of, placed, range_with, written_range}
use Rattle.value_text.specs.NetTexts.{NetText, IsNet, network_of}
use Rattle.value_text.specs.ValueTexts.{ValueText, Null, Number, NoNumber, Bounds, Address, IsTextOf, int_value, range_value, meaning, Denotes}
use Rattle.block_model.specs.ValuesOfKind.{HasBounds, IsValueOf}

abbrev Is8 : ℤ → Type 0
Is8 z = is_int8 z ≡ true

abbrev IsWithin : ℤ → Type 0
IsWithin z = int_le z (pos (2 ^ 63 - 1)) ≡ true

from_least : (z : ℤ) → Is8 z → int_le (negsuc (2 ^ 63 - 1)) z ≡ true
from_least (pos n) h = grind (arith, ints)
from_least (negsuc n) h = let k : n < 2 ^ 63 = ltb-true n (2 ^ 63) h in grind (arith, ints)

between : (z : ℤ) → int_le (negsuc (2 ^ 63 - 1)) z ≡ true → IsWithin z → Is8 z
between (pos n) l h = lt-ltb n (2 ^ 63) (let k : n ≤ 2 ^ 63 - 1 = grind (arith, ints) in omega arith)
between (negsuc n) l h = lt-ltb n (2 ^ 63) (let k : n ≤ 2 ^ 63 - 1 = grind (arith, ints) in omega arith)

-- a bound that grows stays one of int8 where it doesn't pass the end
next_is : (z : ℤ) → Is8 z → IsWithin (z +ℤ pos 1) → Is8 (z +ℤ pos 1)
next_is z h w = let k : int_le (negsuc (2 ^ 63 - 1)) z ≡ true = from_least z h in between (z +ℤ pos 1) (grind (arith, ints)) w

lower_next : (b : Bool) (z : ℤ) → Is8 z → IsWithin (cond b z (z +ℤ pos 1)) → Is8 (cond b z (z +ℤ pos 1))
lower_next true z h w = h
lower_next false z h w = next_is z h w

upper_next : (b : Bool) (z : ℤ) → Is8 z → IsWithin (cond b (z +ℤ pos 1) z) → Is8 (cond b (z +ℤ pos 1) z)
upper_next true z h w = next_is z h w
upper_next false z h w = h

-- the numbers of bounds are of int8
abbrev HasNumber : Bound → Type 0
HasNumber None = Unit {0}
HasNumber (Some b) = Is8 b.0

number_step : (x z : ℤ) (b : Bool) → is_int8 x ≡ b → cond b (Some x) None ≡ Some z → Is8 z
number_step x z true e h = let k : x ≡ z = cc in subst Is8 k e
number_step x z false e h = cc

number_is : (n : NumberText) (z : ℤ) → int8_of n ≡ Some z → Is8 z
number_is n z h = number_step (number_of n) z (is_int8 (number_of n)) refl h

side_step : (n : NumberText) (i : Bool) (x : Bound) (o : Option ℤ) → int8_of n ≡ o → bound_with i o ≡ Some x → HasNumber x
side_step n i x None e h = cc
side_step n i x (Some z) e h = let k : Some (z, i) ≡ x = cc in subst HasNumber k (number_is n z e)

side_is : (side : Option NumberText) (i : Bool) (x : Bound) → side_of side i ≡ Some x → HasNumber x
side_is None i x h = let k : None ≡ x = cc in subst HasNumber k tt
side_is (Some n) i x h = side_step n i x (int8_of n) refl h

-- what a range is that is made of bounds
abbrev IsMade : Range → Type 0
IsMade r = IsRange r × HasBounds r

abbrev Fitted : Type 0
Fitted = Result (Option ℤ) SpanFault

abbrev Made : Type 0
Made = Result Range SpanFault

abbrev pair_of : Option ℤ → Option ℤ → Bool → Made
pair_of a b touch = Ok (cond touch Empty (Between a b))

pair_is : (a b : Option ℤ) → IfSome a Is8 → IfSome b Is8 → (touch : Bool) → touches a b ≡ touch → (touches a b ≡ false → leaves_room a b ≡ true) → (r : Range) → pair_of a b touch ≡ Ok r → IsMade r
pair_is a b ia ib true e room r h = let k : Empty ≡ r = cc in subst IsMade k (tt, tt)
pair_is a b ia ib false e room r h = let k : Between a b ≡ r = cc in subst IsMade k (room e, (ia, ib))

abbrev fitted : ℤ → Bool → Fitted
fitted z within = cond within (Ok (Some z)) (Err faults.Range)

within_step : (z : ℤ) (b : Bool) → int_le z (pos (2 ^ 63 - 1)) ≡ b → (x : Option ℤ) → fitted z b ≡ Ok x → (Some z ≡ x) × IsWithin z
within_step z true e x h = (cc, e)
within_step z false e x h = absurd (false≢true (ap is_ok h))

within_is : (a x : Option ℤ) → within_int8 a ≡ Ok x → (a ≡ x) × IfSome a IsWithin
within_is None x h = (cc, tt)
within_is (Some z) x h = within_step z (int_le z (pos (2 ^ 63 - 1))) refl x h

-- both bounds fit where there is a range
canonical_parts : (o p : Fitted) (r : Range) → canonical_range o p ≡ Ok r → (x : Option ℤ) × (y : Option ℤ) × (o ≡ Ok x) × (p ≡ Ok y) × (pair_of x y (touches x y) ≡ Ok r)
canonical_parts (Ok x) (Ok y) r h = (x, y, refl, refl, h)
canonical_parts (Ok x) (Err f) r h = absurd (false≢true (ap is_ok h))
canonical_parts (Err f) p r h = absurd (false≢true (ap is_ok h))

abbrev Grows : Option ℤ → Type 0
Grows a = IfSome a (λ z. IsWithin z → Is8 z)

grown_is : (a : Option ℤ) → Grows a → IfSome a IsWithin → IfSome a Is8
grown_is None g w = tt
grown_is (Some z) g w = g w

canonical_is : (a b : Option ℤ) → Grows a → Grows b → (touches a b ≡ false → leaves_room a b ≡ true) → (r : Range) → canonical_range (within_int8 a) (within_int8 b) ≡ Ok r → IsMade r
canonical_is a b ga gb room r h =
    let p = canonical_parts (within_int8 a) (within_int8 b) r h in
    let x = within_is a p.0 p.2 in
    let y = within_is b p.1 p.3 in
    let k : pair_of a b (touches a b) ≡ Ok r = (λ i. pair_of (x.0 i) (y.0 i) (touches (x.0 i) (y.0 i))) ∙ p.4 in
    pair_is a b (grown_is a ga x.1) (grown_is b gb y.1) (touches a b) refl room r k

abbrev chosen : ℤ × Bool → ℤ × Bool → Bool → Bool → Made
chosen l h past alone = cond past (Err faults.Order) (cond alone (Ok Empty) (canonical_range (within_int8 (grown_lower (Some l))) (within_int8 (grown_upper (Some h)))))

-- bounds in order that aren't one excluded number leave room, or meet
room : (n m : ℤ) (i j : Bool) → int_lt m n ≡ false → (int_eq n m && not (i && j)) ≡ false
    → int_eq (cond i n (n +ℤ pos 1)) (cond j (m +ℤ pos 1) m) ≡ false → int_lt (cond i n (n +ℤ pos 1)) (cond j (m +ℤ pos 1) m) ≡ true
room n m true true s t e = grind (arith, ints)
room n m true false s t e = grind (arith, ints)
room n m false true s t e = grind (arith, ints)
room n m false false s t e = grind (arith, ints)

chosen_is : (l h : ℤ × Bool) → Is8 l.0 → Is8 h.0 → (past alone : Bool) → int_lt h.0 l.0 ≡ past → (int_eq l.0 h.0 && not (l.1 && h.1)) ≡ alone → (r : Range) → chosen l h past alone ≡ Ok r → IsMade r
chosen_is l h il ih true alone s t r e = absurd (false≢true (ap is_ok e))
chosen_is l h il ih false true s t r e = let k : Empty ≡ r = cc in subst IsMade k (tt, tt)
chosen_is l h il ih false false s t r e =
    canonical_is (grown_lower (Some l)) (grown_upper (Some h)) (lower_next l.1 l.0 il) (upper_next h.1 h.0 ih) (room l.0 h.0 l.1 h.1 s t) r e

made_is : (l h : Bound) → HasNumber l → HasNumber h → (r : Range) → range_from_bounds l h ≡ Ok r → IsMade r
made_is None None il ih r e = canonical_is None None tt tt (λ k. refl) r e
made_is None (Some h) il ih r e = canonical_is None (grown_upper (Some h)) tt (upper_next h.1 h.0 ih) (λ k. refl) r e
made_is (Some l) None il ih r e = canonical_is (grown_lower (Some l)) None (lower_next l.1 l.0 il) tt (λ k. refl) r e
made_is (Some l) (Some h) il ih r e = chosen_is l h il ih (int_lt h.0 l.0) (int_eq l.0 h.0 && not (l.1 && h.1)) refl refl r e

placed_step : (lower : BoundText) (l : Bound) (o : Made) (r : Range) → placed lower l o ≡ Ok r → o ≡ Ok r
placed_step lower l (Ok x) r h = (let k : x ≡ r = cc in ap Ok k)
placed_step lower l (Err faults.Order) r h = absurd (false≢true (ap is_ok h))
placed_step lower l (Err faults.Range) r h = absurd (false≢true (ap is_ok h))

range_step : (lower upper : BoundText) (a b : Option Bound) → bound_of lower ≡ a → bound_of upper ≡ b → (r : Range) → range_with lower a b ≡ Ok r → IsMade r
range_step lower upper None b e k r h = absurd (false≢true (ap is_ok h))
range_step lower upper (Some l) None e k r h = absurd (false≢true (ap is_ok h))
range_step lower upper (Some l) (Some u) e k r h =
    made_is l u (side_is lower.number lower.inclusive l e) (side_is upper.number upper.inclusive u k) r (placed_step lower l (range_from_bounds l u) r h)

int_step : (n : NumberText) (value : Value) (o : Option ℤ) → int8_of n ≡ o → int_value o ≡ Ok value → IsValueOf kinds.Int value
int_step n value None e h = absurd (false≢true (ap is_ok h))
int_step n value (Some z) e h = let k : values.Int z ≡ value = cc in subst (IsValueOf kinds.Int) k (number_is n z e)

span_step : (lower upper : BoundText) (value : Value) (o : Result Range ℕ) → written_range lower upper ≡ o → range_value o ≡ Ok value → IsValueOf kinds.Span value
span_step lower upper value (Err at) e h = absurd (false≢true (ap is_ok h))
span_step lower upper value (Ok r) e h = let k : values.Span r ≡ value = cc in subst (IsValueOf kinds.Span) k (range_step lower upper (bound_of lower) (bound_of upper) refl refl r e)

prefix_is : (p : Option ℕ) → IfSome p (λ bits. bits ≤ 32) → unwrap_or p 32 ≤ 32
prefix_is None h = omega arith
prefix_is (Some bits) h = h

network_is : (n : NetText) → IsNet n → IsNetwork (network_of n)
network_is n h = record { family = refl; prefix = prefix_is n.prefix h.prefix; address = (let a : n.first ≤ 255 = h.first in let b : n.second ≤ 255 = h.second in let c : n.third ≤ 255 = h.third in let d : n.fourth ≤ 255 = h.fourth in omega arith) }

meaning_is : (kind : Kind) (text : ValueText) (value : Value) → IsTextOf kind text → meaning text ≡ Ok value → IsValueOf kind value
meaning_is kind Null value i h = let k : values.Null ≡ value = cc in subst (IsValueOf kind) k tt
meaning_is kinds.Int (Number n) value i h = int_step n value (int8_of n) refl h
meaning_is kinds.Span NoNumber value i h = let k : values.Span Empty ≡ value = cc in subst (IsValueOf kinds.Span) k (tt, tt)
meaning_is kinds.Span (Bounds lower upper) value i h = span_step lower upper value (written_range lower upper) refl h
meaning_is kinds.Net (Address n) value i h = let k : values.Net (network_of n) ≡ value = cc in subst (IsValueOf kinds.Net) k (network_is n i)
meaning_is kinds.Int NoNumber value i h = absurd i
meaning_is kinds.Int (Bounds lower upper) value i h = absurd i
meaning_is kinds.Int (Address n) value i h = absurd i
meaning_is kinds.Span (Number n) value i h = absurd i
meaning_is kinds.Span (Address n) value i h = absurd i
meaning_is kinds.Net (Number n) value i h = absurd i
meaning_is kinds.Net NoNumber value i h = absurd i
meaning_is kinds.Net (Bounds lower upper) value i h = absurd i

pub denoted-is_of_kind : (kind : Kind) (bytes : List ℕ) (value : Value) → Denotes kind bytes (Ok value) → IsValueOf kind value
denoted-is_of_kind kind bytes value d = meaning_is kind d.0 value d.1 d.3
