-- The texts of values are short words without spaces.
use Rattle.std.proofs.Common.{◌≡◌, ℕ, suc, ◌+◌, ◌%◌, ◌^◌, ◌<◌, ◌≤◌, ◌==◌, Bool, true, false, not, ◌&&◌, cond, List, [], ◌∷◌, ◌++◌, length, codes, decimal, ℤ, pos, negsuc, Option, None, Some, refl, ap, ◌∙◌, inl, inr, arith, length-append}
use Rattle.std.specs.Prelude.{IfSome}
use Rattle.std.specs.Fmt.{signed_decimal}
use Rattle.std.specs.List.{list_all}
use Rattle.std.proofs.lemmas.Bool.{ltb-true}
use Rattle.std.proofs.lemmas.Bool.Decides.{eqb_tells}
use Rattle.std.proofs.lemmas.Fmt.{decimal_by_steps, decimal_nonempty, length-decimal-le}
use Rattle.std.proofs.lemmas.List.Folds.{list_all-append}
use Rattle.block_model.specs.Ranges.{Range, Empty, Between}
use Rattle.block_model.specs.Networks.{Network, IsNetwork}
use Rattle.block_model.specs.declared.value.Kind.{Kind}
use Rattle.block_model.specs.declared.value.Kind.TheVariants as kinds
use Rattle.block_model.specs.declared.value.Value.{Value}
use Rattle.block_model.specs.declared.value.Value.TheVariants as values
use Rattle.block_model.specs.ValuesOfKind.{is_int8}
use Rattle.value_text.specs.CanonicalTexts.{lower_text, upper_text, range_text, prefix_text, byte_of, address_text, network_text, canonical_text}
use Rattle.block_model.specs.ValuesOfKind.{HasBounds, IsValueOf}

abbrev pub no_space : ℕ → Bool
no_space c = not (c == 32)

-- bytes without spaces, at most so many
pub record IsPlain (size : ℕ) (text : List ℕ) : Type 0 where
  pub no_spaces : list_all no_space text ≡ true
  pub short : length text ≤ size

-- a word that is printed
pub record IsPrinted (text : List ℕ) : Type 0 where
  pub some : 0 < length text
  pub no_spaces : list_all no_space text ≡ true
  pub short : length text ≤ 43

pub past_space : (c : ℕ) → 33 ≤ c → no_space c ≡ true
past_space c h = elim (eqb_tells c 32) as (λ _. no_space c ≡ true) [ inl here ↦ absurd (omega (arith, here.1)) | inr there ↦ ap not there.0 ]

pub plain_append : (a b : ℕ) (xs ys : List ℕ) → IsPlain a xs → IsPlain b ys → IsPlain (a + b) (xs ++ ys)
plain_append a b xs ys p q = record {
  no_spaces = list_all-append no_space xs ys ∙ ap (λ t. t && list_all no_space ys) p.no_spaces ∙ q.no_spaces;
  short = let k : length xs ≤ a = p.short in let l : length ys ≤ b = q.short in omega (arith, length-append xs ys);
}

some_append : (xs ys : List ℕ) → 0 < length xs → 0 < length (xs ++ ys)
some_append xs ys h = omega (arith, length-append xs ys)

digits_plain : (n : ℕ) → n < 2 ^ 64 → list_all no_space (decimal n) ≡ true
digits_plain n h =
    decimal_by_steps (λ m ds. list_all no_space ds ≡ true)
    (λ m low. ap (λ t. t && true) (past_space (48 + m) (omega arith)))
    (λ m ds low ih. list_all-append no_space ds ((48 + m % 10) ∷ []) ∙ ap (λ t. t && (no_space (48 + m % 10) && true)) ih ∙ ap (λ t. t && true) (past_space (48 + m % 10) (omega arith))) n h

pub decimal_plain : (k n : ℕ) → 0 < k → n < 10 ^ k → n < 2 ^ 64 → IsPlain k (decimal n)
decimal_plain k n some low fits = record { no_spaces = digits_plain n fits; short = length-decimal-le k n some low fits }

signed_plain : (z : ℤ) → is_int8 z ≡ true → IsPlain 20 (signed_decimal z)
signed_plain (pos n) h =
    let low : n < 2 ^ 63 = ltb-true n (2 ^ 63) h in
    let p = decimal_plain 19 n (omega arith) (omega (arith, low)) (omega (arith, low)) in
    record { no_spaces = p.no_spaces; short = let k : length (decimal n) ≤ 19 = p.short in omega arith }
signed_plain (negsuc n) h =
    let low : n < 2 ^ 63 = ltb-true n (2 ^ 63) h in
    let p = decimal_plain 19 (suc n) (omega arith) (omega (arith, low)) (omega (arith, low)) in
    record { no_spaces = p.no_spaces; short = let k : length (decimal (suc n)) ≤ 19 = p.short in omega arith }

signed_some : (z : ℤ) → is_int8 z ≡ true → 0 < length (signed_decimal z)
signed_some (pos n) h = let low : n < 2 ^ 63 = ltb-true n (2 ^ 63) h in decimal_nonempty n (omega (arith, low))
signed_some (negsuc n) h = omega arith

one_plain : (c : ℕ) → no_space c ≡ true → IsPlain 1 (c ∷ [])
one_plain c h = record { no_spaces = ap (λ t. t && true) h; short = omega arith }

lower_plain : (o : Option ℤ) → IfSome o (λ n. is_int8 n ≡ true) → IsPlain 21 (lower_text o)
lower_plain None h = record { no_spaces = refl; short = omega arith }
lower_plain (Some n) h = plain_append 1 20 (codes "[") (signed_decimal n) (one_plain 91 refl) (signed_plain n h)

upper_plain : (o : Option ℤ) → IfSome o (λ n. is_int8 n ≡ true) → IsPlain 21 (upper_text o)
upper_plain None h = record { no_spaces = refl; short = omega arith }
upper_plain (Some n) h = plain_append 20 1 (signed_decimal n) (codes ")") (signed_plain n h) (one_plain 41 refl)

range_plain : (r : Range) → HasBounds r → IsPlain 43 (range_text r)
range_plain Empty h = record { no_spaces = refl; short = omega arith }
range_plain (Between l u) h =
    plain_append 22 21 (lower_text l ++ codes ",") (upper_text u) (plain_append 21 1 (lower_text l) (codes ",") (lower_plain l h.0) (one_plain 44 refl)) (upper_plain u h.1)

lower_some : (o : Option ℤ) → 0 < length (lower_text o)
lower_some None = omega arith
lower_some (Some n) = omega arith

range_some : (r : Range) → 0 < length (range_text r)
range_some Empty = omega arith
range_some (Between l u) = some_append (lower_text l ++ codes ",") (upper_text u) (some_append (lower_text l) (codes ",") (lower_some l))

byte_plain : (a bits : ℕ) → IsPlain 3 (decimal (byte_of a bits))
byte_plain a bits = let low : byte_of a bits < 256 = omega arith in decimal_plain 3 (byte_of a bits) (omega arith) (omega arith) (omega arith)

address_plain : (a : ℕ) → IsPlain 15 (address_text a)
address_plain a =
    let b = λ (bits : ℕ). decimal (byte_of a bits) in
    let dot : IsPlain 1 (codes ".") = one_plain 46 refl in
    plain_append 12 3 (b 24 ++ codes "." ++ b 16 ++ codes "." ++ b 8 ++ codes ".") (b 0)
    (plain_append 11 1 (b 24 ++ codes "." ++ b 16 ++ codes "." ++ b 8) (codes ".")
    (plain_append 8 3 (b 24 ++ codes "." ++ b 16 ++ codes ".") (b 8)
    (plain_append 7 1 (b 24 ++ codes "." ++ b 16) (codes ".")
    (plain_append 4 3 (b 24 ++ codes ".") (b 16)
    (plain_append 3 1 (b 24) (codes ".") (byte_plain a 24) dot) (byte_plain a 16)) dot) (byte_plain a 8)) dot) (byte_plain a 0)

address_some : (a : ℕ) → 0 < length (address_text a)
address_some a =
    let b = λ (bits : ℕ). decimal (byte_of a bits) in
    let low : byte_of a 24 < 256 = omega arith in
    some_append (b 24 ++ codes "." ++ b 16 ++ codes "." ++ b 8 ++ codes ".") (b 0)
    (some_append (b 24 ++ codes "." ++ b 16 ++ codes "." ++ b 8) (codes ".")
    (some_append (b 24 ++ codes "." ++ b 16 ++ codes ".") (b 8)
    (some_append (b 24 ++ codes "." ++ b 16) (codes ".")
    (some_append (b 24 ++ codes ".") (b 16)
    (some_append (b 24) (codes ".") (decimal_nonempty (byte_of a 24) (omega arith)))))))

prefix_cases : (b : Bool) (bits : ℕ) → bits ≤ 32 → IsPlain 4 (cond b [] (codes "/" ++ decimal bits))
prefix_cases true bits h = record { no_spaces = refl; short = omega arith }
prefix_cases false bits h = plain_append 1 3 (codes "/") (decimal bits) (one_plain 47 refl) (decimal_plain 3 bits (omega arith) (omega arith) (omega arith))

network_plain : (n : Network) → IsNetwork n → IsPlain 19 (network_text n)
network_plain n i = plain_append 15 4 (address_text n.address) (prefix_text n.prefix) (address_plain n.address) (prefix_cases (n.prefix == 32) n.prefix i.prefix)

printed : (size : ℕ) (text : List ℕ) → size ≤ 43 → 0 < length text → IsPlain size text → IsPrinted text
printed size text small some p = record { some = some; no_spaces = p.no_spaces; short = let k : length text ≤ size = p.short in omega arith }

-- the text of a value is one
pub value_printed : (kind : Kind) (value : Value) → IsValueOf kind value → IsPrinted (canonical_text value)
value_printed kind values.Null is = record { some = omega arith; no_spaces = refl; short = omega arith }
value_printed kinds.Int (values.Int n) is = printed 20 (signed_decimal n) (omega arith) (signed_some n is) (signed_plain n is)
value_printed kinds.Span (values.Span r) is = printed 43 (range_text r) (omega arith) (range_some r) (range_plain r is.1)
value_printed kinds.Net (values.Net n) is =
    printed 19 (network_text n) (omega arith) (some_append (address_text n.address) (prefix_text n.prefix) (address_some n.address)) (network_plain n is)
value_printed kinds.Int (values.Span r) is = absurd is
value_printed kinds.Int (values.Net n) is = absurd is
value_printed kinds.Span (values.Int n) is = absurd is
value_printed kinds.Span (values.Net n) is = absurd is
value_printed kinds.Net (values.Int n) is = absurd is
value_printed kinds.Net (values.Span r) is = absurd is
