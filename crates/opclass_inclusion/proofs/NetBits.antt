-- networks within networks, and the network of some first bits
use Rattle.std.proofs.Common.{◌≡◌, ℕ, zero, suc, ◌+◌, ◌-◌, ◌*◌, ◌/◌, ◌%◌, ◌^◌, ◌<◌, ◌≤◌, Bool, true, false, ◌&&◌, refl, sym, ap, ◌∙◌, arith}
use Rattle.std.specs.Prelude.{nat_le, ◌==◌, min, if◌then◌else◌}
use Rattle.std.proofs.lemmas.Nat.{shr-shr, shl-shr, shr_split}
use Rattle.std.proofs.Math.Nat.{mul-mod_left}
use Rattle.std.proofs.lemmas.Bool.{and_from, and_parts}
use Rattle.block_model.specs.Matches.{is_within}
use Rattle.block_model.specs.Networks.{Network, leading_bits, width_of}
use Rattle.opclass_inclusion.specs.NetHulls.{HasNoHost, IsCommonPrefix, agreeing_bits, common_prefix, merged, network_with}

-- ---- `<<=` by its parts

pub record Within (v k : Network) : Type 0 where
  pub family : v.family ≡ k.family
  pub longer : k.prefix ≤ v.prefix
  pub agree : leading_bits v k.prefix ≡ leading_bits k k.prefix

pub equal : (a b : ℕ) → (a == b) ≡ true → a ≡ b
equal a b e = grind arith

pub is_equal : (a b : ℕ) → a ≡ b → (a == b) ≡ true
is_equal a b e = grind arith

at_most : (a b : ℕ) → nat_le a b ≡ true → a ≤ b
at_most a b e = grind arith

is_at_most : (a b : ℕ) → a ≤ b → nat_le a b ≡ true
is_at_most a b e = grind arith

pub parts : (v k : Network) → is_within v k ≡ true → Within v k
parts v k h =
    let p : (((v.family == k.family) && nat_le k.prefix v.prefix) ≡ true) × ((leading_bits v k.prefix == leading_bits k k.prefix) ≡ true) = and_parts _ _ h in
    let q : ((v.family == k.family) ≡ true) × (nat_le k.prefix v.prefix ≡ true) = and_parts _ _ p.0 in
    record { family = equal v.family k.family q.0; longer = at_most k.prefix v.prefix q.1; agree = equal (leading_bits v k.prefix) (leading_bits k k.prefix) p.1 }

pub whole : (v k : Network) → Within v k → is_within v k ≡ true
whole v k h = and_from _ _ (and_from _ _ (is_equal v.family k.family h.family) (is_at_most k.prefix v.prefix h.longer)) (is_equal (leading_bits v k.prefix) (leading_bits k k.prefix) h.agree)

-- ---- first bits

-- fewer first bits of numbers that agree in more
fewer : (a b w p q : ℕ) → q ≤ p → a / 2 ^ (w - p) ≡ b / 2 ^ (w - p) → a / 2 ^ (w - q) ≡ b / 2 ^ (w - q)
fewer a b w p q h e =
    let split : w - q ≡ (w - p) + ((w - q) - (w - p)) = omega arith in
    ap (λ (m : ℕ). a / 2 ^ m) split ∙ sym (shr-shr a (w - p) ((w - q) - (w - p))) ∙ ap (λ (x : ℕ). x / 2 ^ ((w - q) - (w - p))) e ∙ shr-shr b (w - p) ((w - q) - (w - p)) ∙ ap (λ (m : ℕ). b / 2 ^ m) (sym split)

pub fewer_bits : (v m : Network) (p q : ℕ) → v.family ≡ m.family → q ≤ p → leading_bits v p ≡ leading_bits m p → leading_bits v q ≡ leading_bits m q
fewer_bits v m p q same h agree =
    let e : v.address / 2 ^ (width_of m.family - p) ≡ m.address / 2 ^ (width_of m.family - p) = ap (λ (f : ℕ). v.address / 2 ^ (width_of f - p)) (sym same) ∙ agree in
    ap (λ (f : ℕ). v.address / 2 ^ (width_of f - q)) same ∙ fewer v.address m.address (width_of m.family) p q h e

-- the bits that are kept are those of the number
kept : (a w p q : ℕ) → q ≤ p → (a / 2 ^ (w - p) * 2 ^ (w - p)) / 2 ^ (w - q) ≡ a / 2 ^ (w - q)
kept a w p q h = fewer (a / 2 ^ (w - p) * 2 ^ (w - p)) a w p q h (shl-shr (a / 2 ^ (w - p)) (w - p))

pub network_bits : (n : Network) (p q : ℕ) → q ≤ p → leading_bits (network_with n p) q ≡ leading_bits n q
network_bits n p q h = kept n.address (width_of n.family) p q h

pub no_host_with : (n : Network) (p : ℕ) → HasNoHost (network_with n p)
no_host_with n p = mul-mod_left (leading_bits n p) (2 ^ (width_of n.family - p))

split_whole : (x y n : ℕ) → x + y ≡ n → y ≡ 0 → x ≡ n
split_whole x y n e none = omega (arith, e, none)

-- a network without host bits is that of its own prefix
pub network_itself : (u : Network) → HasNoHost u → network_with u u.prefix ≡ u
network_itself u none =
    let k = width_of u.family - u.prefix in
    let same = split_whole (u.address / 2 ^ k * 2 ^ k) (u.address % 2 ^ k) u.address (shr_split u.address k) none in
    λ i. record { family = u.family; prefix = u.prefix; address = same i }

-- ---- `<<=` as an order

pub within_itself : (u : Network) → is_within u u ≡ true
within_itself u = whole u u (record { family = refl; longer = omega arith; agree = refl })

pub within_further : (v m k : Network) → is_within v m ≡ true → is_within m k ≡ true → is_within v k ≡ true
within_further v m k first second =
    let a = parts v m first in
    let b = parts m k second in
    whole v k (record { family = a.family ∙ b.family; longer = omega (arith, a.longer, b.longer); agree = fewer_bits v m m.prefix k.prefix a.family b.longer a.agree ∙ b.agree })

-- an address is in the network of its first bits
pub within_its_network : (v : Network) (p : ℕ) → p ≤ v.prefix → is_within v (network_with v p) ≡ true
within_its_network v p h = whole v (network_with v p) (record { family = refl; longer = h; agree = sym (network_bits v p p (omega arith)) })

-- and in every network that has fewer of them
pub network_within : (v n : Network) (p : ℕ) → is_within v n ≡ true → n.prefix ≤ p → is_within (network_with v p) n ≡ true
network_within v n p within h =
    let a = parts v n within in
    whole (network_with v p) n (record { family = a.family; longer = h; agree = network_bits v p n.prefix h ∙ a.agree })

-- networks within each other and without host bits are one
pub one_network : (u n : Network) → HasNoHost u → HasNoHost n → is_within u n ≡ true → is_within n u ≡ true → u ≡ n
one_network u n none nor first second =
    let a = parts u n first in
    let b = parts n u second in
    let prefix : u.prefix ≡ n.prefix = omega (arith, a.longer, b.longer) in
    sym (network_itself u none)
    ∙ (λ i. record { family = a.family i; prefix = prefix i; address = (ap (λ (q : ℕ). leading_bits u q) prefix ∙ a.agree) i * 2 ^ (width_of (a.family i) - prefix i) })
    ∙ network_itself n nor

-- ---- the greatest number of first bits that agree

one_at_most : (t : Bool) (p r : ℕ) → r ≤ p → (if t then suc p else r) ≤ suc p
one_at_most true p r h = omega arith
one_at_most false p r h = omega (arith, h)

agreeing_at_most : (a b : Network) (n : ℕ) → agreeing_bits a b n ≤ n
agreeing_at_most a b zero = omega arith
agreeing_at_most a b (suc p) = one_at_most (leading_bits a (suc p) == leading_bits b (suc p)) p (agreeing_bits a b p) (agreeing_at_most a b p)

one_agrees : (a b : Network) (t : Bool) (p r : ℕ) → (leading_bits a (suc p) == leading_bits b (suc p)) ≡ t → leading_bits a r ≡ leading_bits b r → leading_bits a (if t then suc p else r) ≡ leading_bits b (if t then suc p else r)
one_agrees a b true p r e same = equal (leading_bits a (suc p)) (leading_bits b (suc p)) e
one_agrees a b false p r e same = same

agreeing_agree : (a b : Network) (n : ℕ) → leading_bits a 0 ≡ leading_bits b 0 → leading_bits a (agreeing_bits a b n) ≡ leading_bits b (agreeing_bits a b n)
agreeing_agree a b zero none = none
agreeing_agree a b (suc p) none = one_agrees a b (leading_bits a (suc p) == leading_bits b (suc p)) p (agreeing_bits a b p) refl (agreeing_agree a b p none)

pub not_equal : (a b : ℕ) → (a == b) ≡ false → a ≡ b → ⊥
not_equal a b e same = grind arith

one_greatest : (a b : Network) (t : Bool) (p q r : ℕ) → (leading_bits a (suc p) == leading_bits b (suc p)) ≡ t → q ≤ suc p → leading_bits a q ≡ leading_bits b q → (q ≤ p → q ≤ r) → q ≤ (if t then suc p else r)
one_greatest a b true p q r e h same below = h
one_greatest a b false p q r e h same below =
    let other : q ≡ suc p → ⊥ = λ is. not_equal (leading_bits a (suc p)) (leading_bits b (suc p)) e (ap (λ (m : ℕ). leading_bits a m) (sym is) ∙ same ∙ ap (λ (m : ℕ). leading_bits b m) is) in
    below (omega (arith, h, other))

agreeing_greatest : (a b : Network) (n q : ℕ) → q ≤ n → leading_bits a q ≡ leading_bits b q → q ≤ agreeing_bits a b n
agreeing_greatest a b zero q h same = h
agreeing_greatest a b (suc p) q h same = one_greatest a b (leading_bits a (suc p) == leading_bits b (suc p)) p q (agreeing_bits a b p) refl h same (λ below. agreeing_greatest a b p q below same)

-- a bit that doesn't agree isn't counted
pub one_fewer : (a b : Network) (n : ℕ) → 0 < n → (leading_bits a n == leading_bits b n) ≡ false → agreeing_bits a b n ≡ agreeing_bits a b (n - 1)
one_fewer a b zero above differ = absurd (omega (arith, above))
one_fewer a b (suc p) above differ =
    let e : suc p - 1 ≡ p = omega arith in
    ap (λ (t : Bool). if t then suc p else agreeing_bits a b p) differ ∙ ap (agreeing_bits a b) (sym e)

pub all_agree : (a b : Network) (n : ℕ) → 0 < n → (leading_bits a n == leading_bits b n) ≡ true → agreeing_bits a b n ≡ n
all_agree a b zero above same = refl
all_agree a b (suc p) above same = ap (λ (t : Bool). if t then suc p else agreeing_bits a b p) same

pub common_prefix_is : (a b : Network) → leading_bits a 0 ≡ leading_bits b 0 → IsCommonPrefix a b (common_prefix a b)
common_prefix_is a b none = record {
  within_first = omega (arith, agreeing_at_most a b (min a.prefix b.prefix));
  within_second = omega (arith, agreeing_at_most a b (min a.prefix b.prefix));
  agrees = agreeing_agree a b (min a.prefix b.prefix) none;
  no_longer = λ q above first second same.
      let within : q ≤ min a.prefix b.prefix = omega (arith, first, second) in
      omega (arith, above, agreeing_greatest a b (min a.prefix b.prefix) q within same);
}

-- ---- the network of both

pub within_merged : (a b : Network) → leading_bits a 0 ≡ leading_bits b 0 → is_within a (merged a b) ≡ true
within_merged a b none = within_its_network a (common_prefix a b) (common_prefix_is a b none).within_first

pub also_within_merged : (a b : Network) → a.family ≡ b.family → leading_bits a 0 ≡ leading_bits b 0 → is_within b (merged a b) ≡ true
also_within_merged a b same none =
    let p = common_prefix_is a b none in
    whole b (merged a b) (record { family = sym same; longer = p.within_second; agree = sym p.agrees ∙ sym (network_bits a (common_prefix a b) (common_prefix a b) (omega arith)) })

pub merged_within : (a b n : Network) → is_within a n ≡ true → is_within b n ≡ true → is_within (merged a b) n ≡ true
merged_within a b n first second =
    let p = parts a n first in
    let q = parts b n second in
    let within : n.prefix ≤ min a.prefix b.prefix = omega (arith, p.longer, q.longer) in
    network_within a n (common_prefix a b) first (agreeing_greatest a b (min a.prefix b.prefix) n.prefix within (p.agree ∙ sym q.agree))
