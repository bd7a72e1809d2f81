-- the addresses of a network, by their first bits and as a block of numbers
use Rattle.std.specs.Prelude.{◌≡◌, ℕ, zero, suc, ◌+◌, ◌-◌, ◌*◌, ◌/◌, ◌%◌, ◌^◌, ◌<◌, ◌≤◌, refl}
use Rattle.std.proofs.Common.{arith, sym, ap, ◌∙◌, subst}
use Rattle.std.proofs.Math.Nat.{div-lt_iff_lt-mul}
use Rattle.std.proofs.lemmas.Nat.{pow_pos, pow-add, shr-shr, shr_below, div_below, div-add-mod', div-mul-add, mod_below}
use Rattle.block_model.specs.Networks.{Network}
use Rattle.model_laws.specs.AddressesOfNetworks.{address_bits, bit_at, HasAddress, IsInternetNetwork, address_count, first_address, NetworkIsBlock}
use Rattle.model_laws.proofs.Within.{fewer}

-- ---- numbers of w bits that agree in the first p of them

abbrev pub Agree : ℕ → ℕ → ℕ → ℕ → Type 0
Agree w p a b = (place : ℕ) → place < p → bit_at w a place ≡ bit_at w b place

none_left : (w a : ℕ) → a < 2 ^ w → a / 2 ^ (w - 0) ≡ 0
none_left w a h =
    let whole : w - 0 ≡ w = omega arith in
    let below : a / 2 ^ w < 1 = div_below a (2 ^ w) 1 (pow_pos w) (omega arith) in
    let none : a / 2 ^ w ≡ 0 = omega arith in
    ap (λ (m : ℕ). a / 2 ^ m) whole ∙ none

half : (a w q : ℕ) → q < w → a / 2 ^ (w - (q + 1)) / 2 ≡ a / 2 ^ (w - q)
half a w q h =
    let more : (w - (q + 1)) + 1 ≡ w - q = omega arith in
    shr-shr a (w - (q + 1)) 1 ∙ ap (λ (m : ℕ). a / 2 ^ m) more

doubled : (x y : ℕ) → x / 2 ≡ y / 2 → x % 2 ≡ y % 2 → x ≡ y
doubled x y e f = omega arith

pub same_quotient : (w p a b : ℕ) → p ≤ w → a < 2 ^ w → b < 2 ^ w → Agree w p a b → a / 2 ^ (w - p) ≡ b / 2 ^ (w - p)
same_quotient w zero a b h la lb agree = none_left w a la ∙ sym (none_left w b lb)
same_quotient w (suc q) a b h la lb agree =
    let before : a / 2 ^ (w - q) ≡ b / 2 ^ (w - q) = same_quotient w q a b (omega arith) la lb (λ place l. agree place (omega arith)) in
    let less : q < w = omega arith in
    let next : q + 1 ≡ suc q = omega arith in
    let same : a / 2 ^ (w - (q + 1)) ≡ b / 2 ^ (w - (q + 1)) =
    doubled (a / 2 ^ (w - (q + 1))) (b / 2 ^ (w - (q + 1))) (half a w q less ∙ before ∙ sym (half b w q less)) (agree q (omega arith)) in
    subst (λ (m : ℕ). a / 2 ^ (w - m) ≡ b / 2 ^ (w - m)) next same

pub agree_of : (w p a b : ℕ) → a / 2 ^ (w - p) ≡ b / 2 ^ (w - p) → Agree w p a b
agree_of w p a b e place l = let more : place + 1 ≤ p = omega arith in ap (λ (x : ℕ). x % 2) (fewer a b w p (place + 1) more e)

-- ---- as a block

pub some_addresses : (n : Network) → 0 < address_count n
some_addresses n = pow_pos (address_bits n.family - n.prefix)

in_block : (a b s : ℕ) → 0 < s → a / s ≡ b / s → (b - b % s ≤ a) × (a < (b - b % s) + s)
in_block a b s some e =
    let this : a / s * s + a % s ≡ a = div-add-mod' a s in
    let that : b / s * s + b % s ≡ b = div-add-mod' b s in
    let same : a / s * s ≡ b / s * s = ap (λ (q : ℕ). q * s) e in
    let rest : a % s < s = mod_below a s some in
    (omega arith, omega arith)

from_block : (a b s : ℕ) → b - b % s ≤ a → a < (b - b % s) + s → a / s ≡ b / s
from_block a b s from below =
    let that : b / s * s + b % s ≡ b = div-add-mod' b s in
    let is : a ≡ b / s * s + (a - (b - b % s)) = omega arith in
    let rest : a - (b - b % s) < s = omega arith in
    ap (λ (x : ℕ). x / s) is ∙ div-mul-add (b / s) s (a - (b - b % s)) rest

within_bits : (w p a b : ℕ) → p ≤ w → b < 2 ^ w → a / 2 ^ (w - p) ≡ b / 2 ^ (w - p) → a < 2 ^ w
within_bits w p a b h lb e =
    let parts : w ≡ p + (w - p) = omega arith in
    let below : b / 2 ^ (w - p) < 2 ^ p = shr_below b p (w - p) (subst (λ (m : ℕ). b < 2 ^ m) parts lb) in
    let less : a / 2 ^ (w - p) < 2 ^ p = omega arith in
    let product : a < 2 ^ p * 2 ^ (w - p) = (div-lt_iff_lt-mul {k = 2 ^ (w - p)} {x = a} {y = 2 ^ p} (pow_pos (w - p))).0 less in
    subst (λ (m : ℕ). a < m) (sym (pow-add 2 p (w - p)) ∙ ap (λ (m : ℕ). 2 ^ m) (sym parts)) product

pub network_is_block : NetworkIsBlock
network_is_block n is a = (
  λ has. in_block a n.address (address_count n) (some_addresses n) (same_quotient (address_bits n.family) n.prefix a n.address is.prefix has.whole is.address has.first_bits),
  λ block. let e : a / address_count n ≡ n.address / address_count n = from_block a n.address (address_count n) block.0 block.1 in
      record { whole = within_bits (address_bits n.family) n.prefix a n.address is.prefix is.address e; first_bits = agree_of (address_bits n.family) n.prefix a n.address e },
)

-- a network has its own address, the first and the last of its block
pub has_own : (n : Network) → IsInternetNetwork n → HasAddress n n.address
has_own n is = record { whole = is.address; first_bits = λ place l. refl }

pub has_first : (n : Network) → IsInternetNetwork n → HasAddress n (first_address n)
has_first n is = let some = some_addresses n in (network_is_block n is (first_address n)).1 (omega arith, omega arith)

pub has_last : (n : Network) → IsInternetNetwork n → HasAddress n (first_address n + (address_count n - 1))
has_last n is = let some = some_addresses n in (network_is_block n is (first_address n + (address_count n - 1))).1 (omega arith, omega arith)
