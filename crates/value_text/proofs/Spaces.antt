-- No text of a value has a space.
use Rattle.std.proofs.Common.{◌≡◌, ℕ, ◌≤◌, Bool, true, false, not, ◌&&◌, cond, List, [], ◌∷◌, ◌++◌, codes, decimal, Option, None, Some, refl, ap, ◌∙◌, inl, inr, arith}
use Rattle.std.specs.Prelude.{IfSome, nat_le}
use Rattle.std.specs.List.{list_all}
use Rattle.std.proofs.lemmas.Bool.{leb-true, and_parts}
use Rattle.std.proofs.lemmas.Bool.Decides.{eqb_tells}
use Rattle.std.proofs.lemmas.List.Folds.{list_all-append}
use Rattle.block_model.specs.Names.{is_digit}
use Rattle.block_model.specs.declared.value.Kind.{Kind}
use Rattle.block_model.specs.declared.value.Kind.TheVariants as kinds
use Rattle.value_text.specs.IntTexts.{NumberText, IsNumber, number_bytes}
use Rattle.value_text.specs.RangeTexts.{BoundText, IsBound, side_bytes, lower_bytes, upper_bytes, bounds_bytes}
use Rattle.value_text.specs.NetTexts.{NetText, IsNet, prefix_bytes, net_bytes}
use Rattle.value_text.specs.ValueTexts.{ValueText, Null, Number, NoNumber, Bounds, Address, IsTextOf, bytes_of}
use Rattle.value_text.specs.Laws.{is_space}
use Rattle.value_text.proofs.Decimals.{decimal_digits}

abbrev past : ℕ → Bool
past c = not (is_space c)

-- the bytes have no space
abbrev Free : List ℕ → Type 0
Free bytes = list_all past bytes ≡ true

free_append : (a b : List ℕ) → Free a → Free b → Free (a ++ b)
free_append a b p q = list_all-append past a b ∙ ap (λ t. t && list_all past b) p ∙ q

past_digit : (c : ℕ) → is_digit c ≡ true → past c ≡ true
past_digit c h =
    let p = and_parts (nat_le 48 c) (nat_le c 57) h in
    let low : 48 ≤ c = leb-true 48 c p.0 in
    elim (eqb_tells c 32) as (λ _. past c ≡ true) [ inl here ↦ absurd (omega (arith, here.1)) | inr there ↦ ap not there.0 ]

digits_free : (ds : List ℕ) → list_all is_digit ds ≡ true → Free ds
digits_free [] h = refl
digits_free (d ∷ ds) h =
    let p = and_parts (is_digit d) (list_all is_digit ds) h in
    ap (λ t. t && list_all past ds) (past_digit d p.0) ∙ digits_free ds p.1

signed_free : (negative : Bool) (ds : List ℕ) → Free ds → Free (cond negative (45 ∷ ds) ds)
signed_free true ds h = h
signed_free false ds h = h

number_free : (n : NumberText) → IsNumber n → Free (number_bytes n)
number_free n i = signed_free n.negative n.digits (digits_free n.digits i.digits)

side_free : (o : Option NumberText) → IfSome o IsNumber → Free (side_bytes o)
side_free None i = refl
side_free (Some n) i = number_free n i

one_free : (b : Bool) (x y : ℕ) → past x ≡ true → past y ≡ true → Free (cond b (x ∷ []) (y ∷ []))
one_free true x y p q = ap (λ t. t && true) p
one_free false x y p q = ap (λ t. t && true) q

bounds_free : (l u : BoundText) → IsBound l → IsBound u → Free (bounds_bytes l u)
bounds_free l u i k =
    free_append (lower_bytes l ++ codes ",") (upper_bytes u)
    (free_append (lower_bytes l) (codes ",") (free_append (cond l.inclusive (codes "[") (codes "(")) (side_bytes l.number) (one_free l.inclusive 91 40 refl refl) (side_free l.number i)) refl)
    (free_append (side_bytes u.number) (cond u.inclusive (codes "]") (codes ")")) (side_free u.number k) (one_free u.inclusive 93 41 refl refl))

byte_free : (n : ℕ) → n ≤ 255 → Free (decimal n)
byte_free n h = digits_free (decimal n) (decimal_digits n (omega arith)).digits

prefix_free : (o : Option ℕ) → IfSome o (λ bits. bits ≤ 32) → Free (prefix_bytes o)
prefix_free None i = refl
prefix_free (Some bits) i = let k : bits ≤ 255 = omega arith in free_append (codes "/") (decimal bits) refl (byte_free bits k)

net_free : (n : NetText) → IsNet n → Free (net_bytes n)
net_free n i =
    let dot : Free (codes ".") = refl in
    let a : List ℕ = decimal n.first ++ codes "." in
    let b : List ℕ = a ++ decimal n.second ++ codes "." in
    let c : List ℕ = b ++ decimal n.third ++ codes "." in
    let a_free : Free a = free_append (decimal n.first) (codes ".") (byte_free n.first i.first) dot in
    let b_free : Free b = free_append (a ++ decimal n.second) (codes ".") (free_append a (decimal n.second) a_free (byte_free n.second i.second)) dot in
    let c_free : Free c = free_append (b ++ decimal n.third) (codes ".") (free_append b (decimal n.third) b_free (byte_free n.third i.third)) dot in
    free_append (c ++ decimal n.fourth) (prefix_bytes n.prefix) (free_append c (decimal n.fourth) c_free (byte_free n.fourth i.fourth)) (prefix_free n.prefix i.prefix)

pub text_has_no_space : (kind : Kind) (text : ValueText) → IsTextOf kind text → Free (bytes_of text)
text_has_no_space kind Null i = refl
text_has_no_space kinds.Int (Number n) i = number_free n i
text_has_no_space kinds.Span NoNumber i = refl
text_has_no_space kinds.Span (Bounds l u) i = bounds_free l u i.0 i.1
text_has_no_space kinds.Net (Address n) i = net_free n i
text_has_no_space kinds.Int NoNumber i = absurd i
text_has_no_space kinds.Int (Bounds l u) i = absurd i
text_has_no_space kinds.Int (Address n) i = absurd i
text_has_no_space kinds.Span (Number n) i = absurd i
text_has_no_space kinds.Span (Address n) i = absurd i
text_has_no_space kinds.Net (Number n) i = absurd i
text_has_no_space kinds.Net NoNumber i = absurd i
text_has_no_space kinds.Net (Bounds l u) i = absurd i
