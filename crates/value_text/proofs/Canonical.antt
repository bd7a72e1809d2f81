-- A value's canonical text is a text that denotes it.
use Rattle.std.proofs.Common.{◌≡◌, ℕ, suc, ◌+◌, ◌*◌, ◌-◌, ◌^◌, ◌<◌, ◌≤◌, ◌==◌, Bool, true, false, cond, ◌&&◌, [], ◌++◌, codes, decimal, ℤ, pos, negsuc, neg_ℤ, Result, Ok, Err, Option, Some, None, unwrap_or, refl, sym, ap, ◌∙◌, inl, inr, arith}
use Rattle.std.specs.Prelude.{int_lt, int_le, IfSome}
use Rattle.std.specs.Fmt.{signed_decimal}
use Rattle.std.specs.Ordering.{int_eq}
use Rattle.std.proofs.lemmas.Bool.{ltb-true}
use Rattle.std.proofs.lemmas.Bool.Decides.{eqb_tells}
use Rattle.std.proofs.lemmas.Int.{ints}
use Rattle.block_model.specs.Ranges.{Range, Empty, Between, IsRange}
use Rattle.block_model.specs.RangeBounds.{Bound, within_int8, canonical_range, range_from_bounds}
use Rattle.block_model.specs.Networks.{Network, IsNetwork}
use Rattle.block_model.specs.declared.span.SpanFault.{SpanFault}
use Rattle.block_model.specs.declared.span.SpanFault.TheVariants as faults
use Rattle.block_model.specs.declared.value.Kind.{Kind}
use Rattle.block_model.specs.declared.value.Kind.TheVariants as kinds
use Rattle.block_model.specs.declared.value.Value.{Value}
use Rattle.block_model.specs.declared.value.Value.TheVariants as values
use Rattle.value_text.specs.IntTexts.{NumberText, IsNumber, number_bytes, number_of, int8_of}
use Rattle.block_model.specs.ValuesOfKind.{is_int8}
use Rattle.value_text.specs.RangeTexts.{BoundText, IsBound, lower_bytes, upper_bytes, bound_of, placed, range_with}
use Rattle.value_text.specs.NetTexts.{NetText, IsNet, prefix_bytes, net_bytes, network_of}
use Rattle.value_text.specs.ValueTexts.{Null, Number, NoNumber, Bounds, Address, int_value, range_value, meaning, Denotes}
use Rattle.value_text.specs.CanonicalTexts.{lower_text, upper_text, byte_of, network_text, canonical_text}
use Rattle.block_model.specs.ValuesOfKind.{IsValueOf}
use Rattle.value_text.proofs.Decimals.{decimal_digits, digits_from_decimal}
use Rattle.value_text.proofs.ValueReading.{null_is, one_text}

-- how a number is printed
signed_text : ℤ → NumberText
signed_text (pos n) = record { negative = false; digits = decimal n }
signed_text (negsuc n) = record { negative = true; digits = decimal (suc n) }

printed_is : (n : ℕ) (b : Bool) → n < 2 ^ 64 → IsNumber (record { negative = b; digits = decimal n })
printed_is n b h = let d = decimal_digits n h in record { some = d.some; digits = d.digits }

signed_is : (z : ℤ) → is_int8 z ≡ true → IsNumber (signed_text z)
unfolding signed_text
signed_is (pos n) h = printed_is n false (omega (arith, ltb-true n (2 ^ 63) h))
signed_is (negsuc n) h = printed_is (suc n) true (omega (arith, ltb-true n (2 ^ 63) h))

signed_bytes : (z : ℤ) → number_bytes (signed_text z) ≡ signed_decimal z
unfolding signed_text
signed_bytes (pos n) = refl
signed_bytes (negsuc n) = refl

signed_number : (z : ℤ) → is_int8 z ≡ true → number_of (signed_text z) ≡ z
unfolding signed_text
signed_number (pos n) h = ap pos (digits_from_decimal n (omega (arith, ltb-true n (2 ^ 63) h)))
signed_number (negsuc n) h = ap (λ m. neg_ℤ (pos m)) (digits_from_decimal (suc n) (omega (arith, ltb-true n (2 ^ 63) h)))

signed_value : (z : ℤ) → is_int8 z ≡ true → int8_of (signed_text z) ≡ Some z
signed_value z h = ap (λ n. cond (is_int8 n) (Some n) None) (signed_number z h) ∙ ap (λ b. cond b (Some z) None) h

-- how the sides of a range are printed
lower_side : Option ℤ → BoundText
lower_side None = record { number = None; inclusive = false }
lower_side (Some n) = record { number = Some (signed_text n); inclusive = true }

upper_side : Option ℤ → BoundText
upper_side None = record { number = None; inclusive = false }
upper_side (Some n) = record { number = Some (signed_text n); inclusive = false }

abbrev IsSide : Option ℤ → Type 0
IsSide side = IfSome side (λ n. is_int8 n ≡ true)

abbrev with_bracket : Bool → Option ℤ → Bound
with_bracket b None = None
with_bracket b (Some n) = Some (n, b)

lower_is : (side : Option ℤ) → IsSide side → IsBound (lower_side side)
unfolding lower_side
lower_is None h = tt
lower_is (Some n) h = signed_is n h

upper_is : (side : Option ℤ) → IsSide side → IsBound (upper_side side)
unfolding upper_side
upper_is None h = tt
upper_is (Some n) h = signed_is n h

lower-bytes : (side : Option ℤ) → lower_bytes (lower_side side) ≡ lower_text side
unfolding lower_side
lower-bytes None = refl
lower-bytes (Some n) = ap (λ l. codes "[" ++ l) (signed_bytes n)

upper-bytes : (side : Option ℤ) → upper_bytes (upper_side side) ≡ upper_text side
unfolding upper_side
upper-bytes None = refl
upper-bytes (Some n) = ap (λ l. l ++ codes ")") (signed_bytes n)

abbrev bracketed : Bool → Option ℤ → Option Bound
bracketed b None = None
bracketed b (Some n) = Some (Some (n, b))

lower-bound : (side : Option ℤ) → IsSide side → bound_of (lower_side side) ≡ Some (with_bracket true side)
unfolding lower_side
lower-bound None h = refl
lower-bound (Some n) h = ap (bracketed true) (signed_value n h)

upper-bound : (side : Option ℤ) → IsSide side → bound_of (upper_side side) ≡ Some (with_bracket false side)
unfolding upper_side
upper-bound None h = refl
upper-bound (Some n) h = ap (bracketed false) (signed_value n h)

below_end : (z : ℤ) → is_int8 z ≡ true → int_le z (pos (2 ^ 63 - 1)) ≡ true
below_end (pos n) h = let k : n < 2 ^ 63 = ltb-true n (2 ^ 63) h in grind (arith, ints)
below_end (negsuc n) h = grind (arith, ints)

abbrev Fitted : Type 0
Fitted = Result (Option ℤ) SpanFault

fits : (z : ℤ) → is_int8 z ≡ true → within_int8 (Some z) ≡ Ok (Some z)
fits z h = ap (λ (b : Bool). let r : Fitted = cond b (Ok (Some z)) (Err faults.Range) in r) (below_end z h)

abbrev Made : Type 0
Made = Result Range SpanFault

-- where the bounds are in order, the range is what they make
abbrev ordered : Bool → Bool → Made → Made
ordered past equal r = cond past (Err faults.Order) (cond (equal && true) (Ok Empty) r)

abbrev unless_equal : ℤ → ℤ → Bool → Made
unless_equal n h equal = Ok (cond equal Empty (Between (Some n) (Some h)))

-- a range that has its canonical form already stays as it is
canonical : (lower upper : Option ℤ) → IsSide lower → IsSide upper → IsRange (Between lower upper)
    → range_from_bounds (with_bracket true lower) (with_bracket false upper) ≡ Ok (Between lower upper)
canonical None None l u r = refl
canonical None (Some h) l u r = ap (canonical_range (Ok None)) (fits h u)
canonical (Some n) None l u r = ap (λ o. canonical_range o (Ok None)) (fits n l)
canonical (Some n) (Some h) l u r =
    let past : int_lt h n ≡ false = grind (arith, ints) in
    let equal : int_eq n h ≡ false = grind (arith, ints) in
    let made : Made = canonical_range (within_int8 (Some n)) (within_int8 (Some h)) in
    ap (λ b. ordered b (int_eq n h) made) past ∙ ap (λ b. ordered false b made) equal
    ∙ ap (λ o. canonical_range o (within_int8 (Some h))) (fits n l) ∙ ap (canonical_range (Ok (Some n))) (fits h u) ∙ ap (unless_equal n h) equal

range_denotes : (lower upper : Option ℤ) → IsSide lower → IsSide upper → IsRange (Between lower upper)
    → meaning (Bounds (lower_side lower) (upper_side upper)) ≡ Ok (values.Span (Between lower upper))
range_denotes lower upper l u r =
    ap (λ b. range_value (range_with (lower_side lower) b (bound_of (upper_side upper)))) (lower-bound lower l)
    ∙ ap (λ b. range_value (range_with (lower_side lower) (Some (with_bracket true lower)) b)) (upper-bound upper u)
    ∙ ap (λ o. range_value (placed (lower_side lower) (with_bracket true lower) o)) (canonical lower upper l u r)

-- how an address is printed
prefix_side : ℕ → Bool → Option ℕ
prefix_side bits whole = cond whole None (Some bits)

prefix-bytes : (bits : ℕ) (b : Bool) → prefix_bytes (prefix_side bits b) ≡ cond b [] (codes "/" ++ decimal bits)
unfolding prefix_side
prefix-bytes bits true = refl
prefix-bytes bits false = refl

prefix-is : (bits : ℕ) (b : Bool) → bits ≤ 32 → IfSome (prefix_side bits b) (λ n. n ≤ 32)
unfolding prefix_side
prefix-is bits true h = tt
prefix-is bits false h = h

prefix_number : (bits : ℕ) → unwrap_or (prefix_side bits (bits == 32)) 32 ≡ bits
unfolding prefix_side
prefix_number bits = elim (eqb_tells bits 32) as (λ x. unwrap_or (cond (bits == 32) None (Some bits)) 32 ≡ bits) [
  | inl t ↦ ap (λ b. unwrap_or (cond b None (Some bits)) 32) t.0 ∙ sym t.1
  | inr t ↦ ap (λ b. unwrap_or (cond b None (Some bits)) 32) t.0
]

net_text : Network → NetText
net_text n = record {
  first = byte_of n.address 24;
  second = byte_of n.address 16;
  third = byte_of n.address 8;
  fourth = byte_of n.address 0;
  prefix = prefix_side n.prefix (n.prefix == 32);
}

bytes_together : (a : ℕ) → a < 2 ^ 32 → byte_of a 24 * 2 ^ 24 + byte_of a 16 * 2 ^ 16 + byte_of a 8 * 2 ^ 8 + byte_of a 0 ≡ a
bytes_together a h = omega arith

net_is : (n : Network) → IsNetwork n → IsNet (net_text n)
unfolding net_text
net_is n h = record { first = omega arith; second = omega arith; third = omega arith; fourth = omega arith; prefix = prefix-is n.prefix (n.prefix == 32) h.prefix }

net-bytes : (n : Network) → net_bytes (net_text n) ≡ network_text n
unfolding net_text
net-bytes n = ap (λ l. (decimal (byte_of n.address 24) ++ codes "." ++ decimal (byte_of n.address 16) ++ codes "." ++ decimal (byte_of n.address 8) ++ codes "." ++ decimal (byte_of n.address 0)) ++ l) (prefix-bytes n.prefix (n.prefix == 32))

net_denotes : (n : Network) → IsNetwork n → network_of (net_text n) ≡ n
unfolding net_text
net_denotes n h = λ i. record { family = sym h.family i; prefix = prefix_number n.prefix i; address = bytes_together n.address h.address i }

pub canonical_denotes : (kind : Kind) (value : Value) → IsValueOf kind value → Denotes kind (canonical_text value) (Ok value)
canonical_denotes kind values.Null h = (Null, null_is kind, refl, refl)
canonical_denotes kinds.Int (values.Int z) h = (Number (signed_text z), signed_is z h, sym (signed_bytes z), ap int_value (signed_value z h))
canonical_denotes kinds.Span (values.Span Empty) h = (NoNumber, tt, refl, refl)
canonical_denotes kinds.Span (values.Span (Between lower upper)) h = (
  Bounds (lower_side lower) (upper_side upper),
  (lower_is lower h.1.0, upper_is upper h.1.1),
  sym (λ i. lower-bytes lower i ++ codes "," ++ upper-bytes upper i),
  range_denotes lower upper h.1.0 h.1.1 h.0,
)
canonical_denotes kinds.Net (values.Net n) h = (Address (net_text n), net_is n h, sym (net-bytes n), ap (λ m. Ok (values.Net m)) (net_denotes n h))
canonical_denotes kinds.Int (values.Span range) h = absurd h
canonical_denotes kinds.Int (values.Net n) h = absurd h
canonical_denotes kinds.Span (values.Int z) h = absurd h
canonical_denotes kinds.Span (values.Net n) h = absurd h
canonical_denotes kinds.Net (values.Int z) h = absurd h
canonical_denotes kinds.Net (values.Span range) h = absurd h

-- texts that denote are the same where their bytes are
pub canonical_is_own : (kind : Kind) (a b : Value) → IsValueOf kind a → IsValueOf kind b → canonical_text a ≡ canonical_text b → a ≡ b
canonical_is_own kind a b is are same =
    let x = canonical_denotes kind a is in
    let y = canonical_denotes kind b are in
    let text : x.0 ≡ y.0 = one_text kind x.0 y.0 x.1 y.1 (sym x.2 ∙ same ∙ y.2) in
    let k : Ok a ≡ meaning y.0 = sym x.3 ∙ ap meaning text in
    let e : meaning y.0 ≡ Ok b = y.3 in
    cc
