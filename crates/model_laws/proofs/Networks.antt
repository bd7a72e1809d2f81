-- the operators of networks as sets of addresses
use Rattle.std.specs.Prelude.{◌≡◌, ℕ, ◌+◌, ◌-◌, ◌/◌, ◌^◌, ◌<◌, ◌≤◌, true, ◌&&◌, ◌||◌, nat_lt}
use Rattle.std.proofs.Common.{arith, sym, ap, ◌∙◌, subst, inl, inr}
use Rattle.std.proofs.lemmas.Bool.{and_from, and_parts, or_cases, or_left, or_right, cases_lt}
use Rattle.std.proofs.lemmas.Nat.{pow_below}
use Rattle.block_model.specs.Matches.{is_within}
use Rattle.block_model.specs.Networks.{Network, leading_bits}
use Rattle.model_laws.specs.AddressesOfNetworks.{address_bits, bit_at, HasAddress, IsInternetNetwork, address_count, first_address}
use Rattle.model_laws.specs.NetworksAreSets.{IsSubnet, IsProperSubnet, HaveCommonAddress, NetworksAreSets}
use Rattle.model_laws.proofs.Within.{Parts, parts, whole}
use Rattle.model_laws.proofs.Addresses.{Agree, same_quotient, agree_of, network_is_block, has_own, has_first, has_last}

-- ---- subnets

-- an address of the first, where both agree in the second's prefix, is one of the second
subnet_of : (v k : Network) → Parts v k → IsSubnet v k
subnet_of v k p = record {
  family = p.family;
  each = λ address has. record {
    whole = subst (λ (f : ℕ). address < 2 ^ address_bits f) p.family has.whole;
    first_bits = λ place l.
        subst (λ (f : ℕ). bit_at (address_bits f) address place ≡ bit_at (address_bits f) v.address place) p.family (has.first_bits place (let less : place < v.prefix = omega (arith, p.longer) in less))
        ∙ agree place l;
  };
}
  where
    agree : Agree (address_bits k.family) k.prefix v.address k.address
    agree = agree_of (address_bits k.family) k.prefix v.address k.address (ap (λ (f : ℕ). v.address / 2 ^ (address_bits f - k.prefix)) (sym p.family) ∙ p.agree)

-- where an address is in both, the one with the longer prefix is within the other
parts_by : (v k : Network) → IsInternetNetwork v → IsInternetNetwork k → v.family ≡ k.family → k.prefix ≤ v.prefix → (address : ℕ) → HasAddress v address → HasAddress k address → Parts v k
parts_by v k iv ik same longer address hv hk = record {
  family = same;
  longer = longer;
  agree =
      ap (λ (f : ℕ). v.address / 2 ^ (address_bits f - k.prefix)) same
      ∙ same_quotient (address_bits k.family) k.prefix v.address k.address ik.prefix (subst (λ (f : ℕ). v.address < 2 ^ address_bits f) same iv.address) ik.address
      (λ place l.
      sym (subst (λ (f : ℕ). bit_at (address_bits f) address place ≡ bit_at (address_bits f) v.address place) same (hv.first_bits place (let less : place < v.prefix = omega arith in less)))
      ∙ hk.first_bits place l);
}

-- a longer prefix leaves fewer addresses
fewer_addresses : (v k : Network) → v.family ≡ k.family → k.prefix ≤ address_bits k.family → v.prefix < k.prefix → address_count k < address_count v
fewer_addresses v k same fits less =
    let below : address_bits k.family - k.prefix < address_bits k.family - v.prefix = omega arith in
    subst (λ (f : ℕ). address_count k < 2 ^ (address_bits f - v.prefix)) (sym same) (pow_below (address_bits k.family - k.prefix) (address_bits k.family - v.prefix) below)

no_room : (first first' count count' : ℕ) → first' ≤ first → first + (count - 1) < first' + count' → count' < count → ⊥
no_room first first' count count' from below fewer = omega arith

longer_of : (v k : Network) → IsInternetNetwork v → IsInternetNetwork k → IsSubnet v k → k.prefix ≤ v.prefix
longer_of v k iv ik s = elim (cases_lt v.prefix k.prefix) [
  | inr longer ↦ longer
  | inl less ↦ absurd (no_room (first_address v) (first_address k) (address_count v) (address_count k)
      ((network_is_block k ik (first_address v)).0 (s.each (first_address v) (has_first v iv))).0
      ((network_is_block k ik (first_address v + (address_count v - 1))).0 (s.each (first_address v + (address_count v - 1)) (has_last v iv))).1
      (fewer_addresses v k s.family ik.prefix less))
]

parts_of : (v k : Network) → IsInternetNetwork v → IsInternetNetwork k → IsSubnet v k → Parts v k
parts_of v k iv ik s = parts_by v k iv ik s.family (longer_of v k iv ik s) v.address (has_own v iv) (s.each v.address (has_own v iv))

-- ---- proper ones

is_less : (a b : ℕ) → a < b → nat_lt a b ≡ true
is_less a b h = grind arith

less_is : (a b : ℕ) → nat_lt a b ≡ true → a < b
less_is a b h = grind arith

past_it : (first first' count count' : ℕ) → first' + (count' - 1) < first + count → count < count' → first ≤ first' → ⊥
past_it first first' count count' below fewer from = omega arith

-- the second has an address more: its last one, or else its first one
one_more : (v k : Network) → IsInternetNetwork v → IsInternetNetwork k → Parts v k → k.prefix < v.prefix → (address : ℕ) × HasAddress k address × ¬ (HasAddress v address)
one_more v k iv ik p less = elim (cases_lt (first_address k + (address_count k - 1)) (first_address v + address_count v)) [
  | inl below ↦ (
    first_address k,
    has_first k ik,
    λ has.
        past_it (first_address v) (first_address k) (address_count v) (address_count k) below (fewer_addresses k v (sym p.family) iv.prefix less) ((network_is_block v iv (first_address k)).0 has).0,
  )
  | inr beyond ↦ (
    first_address k + (address_count k - 1),
    has_last k ik,
    λ has.
        let below : first_address k + (address_count k - 1) < first_address v + address_count v = ((network_is_block v iv (first_address k + (address_count k - 1))).0 has).1 in omega arith,
  )
]

proper_of : (v k : Network) → IsInternetNetwork v → IsInternetNetwork k → (is_within v k && nat_lt k.prefix v.prefix) ≡ true → IsProperSubnet v k
proper_of v k iv ik e =
    let h : (is_within v k ≡ true) × (nat_lt k.prefix v.prefix ≡ true) = and_parts _ _ e in
    let p : Parts v k = parts v k h.0 in
    record { subnet = subnet_of v k p; more = one_more v k iv ik p (less_is k.prefix v.prefix h.1) }

-- with equal prefixes each is within the other
turned : (v k : Network) → Parts v k → v.prefix ≡ k.prefix → Parts k v
turned v k p e = record {
  family = sym p.family;
  longer = (let at_most : v.prefix ≤ k.prefix = omega arith in at_most);
  agree = ap (leading_bits k) e ∙ sym p.agree ∙ ap (leading_bits v) (sym e);
}

before_of : (v k : Network) → IsInternetNetwork v → IsInternetNetwork k → IsProperSubnet v k → (is_within v k && nat_lt k.prefix v.prefix) ≡ true
before_of v k iv ik s =
    let p : Parts v k = parts_of v k iv ik s.subnet in
    and_from _ _ (whole v k p) (is_less k.prefix v.prefix (elim (cases_lt k.prefix v.prefix) [
      | inl less ↦ less
      | inr at_most ↦ let same : v.prefix ≡ k.prefix = omega (arith, p.longer) in absurd (s.more.2 ((subnet_of k v (turned v k p same)).each s.more.0 s.more.1))
    ]))

-- ---- common addresses

common_of : (v k : Network) → IsInternetNetwork v → IsInternetNetwork k → (is_within v k || is_within k v) ≡ true → HaveCommonAddress v k
common_of v k iv ik e = elim (or_cases (is_within v k) (is_within k v) e) [
  | inl h ↦ let s : IsSubnet v k = subnet_of v k (parts v k h) in record { family = s.family; both = (v.address, has_own v iv, s.each v.address (has_own v iv)) }
  | inr h ↦ let s : IsSubnet k v = subnet_of k v (parts k v h) in record { family = sym s.family; both = (k.address, s.each k.address (has_own k ik), has_own k ik) }
]

overlaps_of : (v k : Network) → IsInternetNetwork v → IsInternetNetwork k → HaveCommonAddress v k → (is_within v k || is_within k v) ≡ true
overlaps_of v k iv ik h = elim (cases_lt v.prefix k.prefix) [
  | inr longer ↦ or_left (is_within v k) (is_within k v) (whole v k (parts_by v k iv ik h.family longer h.both.0 h.both.1 h.both.2))
  | inl less ↦ let longer : v.prefix ≤ k.prefix = omega arith in or_right (is_within v k) (is_within k v) (whole k v (parts_by k v ik iv (sym h.family) longer h.both.0 h.both.2 h.both.1))
]

pub networks_are_sets : NetworksAreSets
networks_are_sets = record {
  within_or_equal = λ v k iv ik. (λ e. subnet_of v k (parts v k e), λ s. whole v k (parts_of v k iv ik s));
  contains_or_equal = λ v k iv ik. (λ e. subnet_of k v (parts k v e), λ s. whole k v (parts_of k v ik iv s));
  within = λ v k iv ik. (proper_of v k iv ik, before_of v k iv ik);
  contains = λ v k iv ik. (proper_of k v ik iv, before_of k v ik iv);
  overlaps = λ v k iv ik. (common_of v k iv ik, overlaps_of v k iv ik);
}
