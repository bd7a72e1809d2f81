-- networks within networks
use Rattle.std.specs.Prelude.{◌≡◌, ℕ, ◌+◌, ◌-◌, ◌/◌, ◌^◌, ◌≤◌, true, ◌&&◌, nat_le, ◌==◌, refl}
use Rattle.std.proofs.Common.{arith, sym, ap, ◌∙◌}
use Rattle.std.proofs.lemmas.Nat.{shr-shr}
use Rattle.std.proofs.lemmas.Bool.{and_from, and_parts}
use Rattle.block_model.specs.Networks.{Network, leading_bits, width_of}
use Rattle.model_laws.specs.WithinIsPreorder.{IsWithin, WithinIsPreorder}

-- fewer leading bits of addresses that agree in more
pub fewer : (a b w p q : ℕ) → q ≤ p → a / 2 ^ (w - p) ≡ b / 2 ^ (w - p) → a / 2 ^ (w - q) ≡ b / 2 ^ (w - q)
fewer a b w p q h e =
    let split : w - q ≡ (w - p) + ((w - q) - (w - p)) = omega arith in
    ap (λ (m : ℕ). a / 2 ^ m) split ∙ sym (shr-shr a (w - p) ((w - q) - (w - p))) ∙ ap (λ (x : ℕ). x / 2 ^ ((w - q) - (w - p))) e ∙ shr-shr b (w - p) ((w - q) - (w - p)) ∙ ap (λ (m : ℕ). b / 2 ^ m) (sym split)

fewer_bits : (v m : Network) (q : ℕ) → v.family ≡ m.family → q ≤ m.prefix → leading_bits v m.prefix ≡ leading_bits m m.prefix → leading_bits v q ≡ leading_bits m q
fewer_bits v m q same h agree =
    let e : v.address / 2 ^ (width_of m.family - m.prefix) ≡ m.address / 2 ^ (width_of m.family - m.prefix) = ap (λ (f : ℕ). v.address / 2 ^ (width_of f - m.prefix)) (sym same) ∙ agree in
    ap (λ (f : ℕ). v.address / 2 ^ (width_of f - q)) same ∙ fewer v.address m.address (width_of m.family) m.prefix q h e

-- the three parts of it
pub record Parts (v k : Network) : Type 0 where
  pub family : v.family ≡ k.family
  pub longer : k.prefix ≤ v.prefix
  pub agree : leading_bits v k.prefix ≡ leading_bits k k.prefix

equal : (a b : ℕ) → (a == b) ≡ true → a ≡ b
equal a b e = grind arith

is_equal : (a b : ℕ) → a ≡ b → (a == b) ≡ true
is_equal a b e = grind arith

at_most : (a b : ℕ) → nat_le a b ≡ true → a ≤ b
at_most a b e = grind arith

is_at_most : (a b : ℕ) → a ≤ b → nat_le a b ≡ true
is_at_most a b e = grind arith

pub parts : (v k : Network) → IsWithin v k → Parts v k
parts v k h =
    let p : (((v.family == k.family) && nat_le k.prefix v.prefix) ≡ true) × ((leading_bits v k.prefix == leading_bits k k.prefix) ≡ true) = and_parts _ _ h in
    let q : ((v.family == k.family) ≡ true) × (nat_le k.prefix v.prefix ≡ true) = and_parts _ _ p.0 in
    record { family = equal v.family k.family q.0; longer = at_most k.prefix v.prefix q.1; agree = equal (leading_bits v k.prefix) (leading_bits k k.prefix) p.1 }

pub whole : (v k : Network) → Parts v k → IsWithin v k
whole v k h = and_from _ _ (and_from _ _ (is_equal v.family k.family h.family) (is_at_most k.prefix v.prefix h.longer)) (is_equal (leading_bits v k.prefix) (leading_bits k k.prefix) h.agree)

transitive : (v m k : Network) → Parts v m → Parts m k → Parts v k
transitive v m k a b = record {
  family = a.family ∙ b.family;
  longer = omega (arith, a.longer, b.longer);
  agree = fewer_bits v m k.prefix a.family b.longer a.agree ∙ b.agree;
}

pub within_is_preorder : WithinIsPreorder
within_is_preorder = record {
  reflexive = λ v. whole v v (record { family = refl; longer = omega arith; agree = refl });
  transitive = λ v m k a b. whole v k (transitive v m k (parts v m a) (parts m k b));
}
