-- `=` as equality
use Rattle.std.specs.Prelude.{◌≡◌, ◌≢◌, ℕ, ℤ, true, ◌&&◌, ◌==◌, Option, None, Some, refl}
use Rattle.std.specs.Ordering.{int_eq}
use Rattle.std.proofs.Common.{arith, ap, subst}
use Rattle.std.proofs.lemmas.Bool.{false≢true, and_from, and_parts}
use Rattle.std.proofs.lemmas.Int.{ints}
use Rattle.block_model.specs.declared.value.Value.{Value}
use Rattle.block_model.specs.declared.value.Value.TheVariants.{Null, Int, Span, Net}
use Rattle.block_model.specs.declared.value.Op.TheVariants.{Eq}
use Rattle.block_model.specs.Matches.{matches}
use Rattle.block_model.specs.Networks.{Network}
use Rattle.block_model.specs.Ranges.{Empty, Between, same_bound}
use Rattle.model_laws.specs.EqualityIsIdentity.{EqualityIsIdentity}
use Rattle.model_laws.proofs.Bounds.{same_bound_is}

int_itself : (n : ℤ) → int_eq n n ≡ true
int_itself n = grind (arith, ints)

int_same : (a b : ℤ) → int_eq a b ≡ true → a ≡ b
int_same a b e = grind (arith, ints)

nat_itself : (n : ℕ) → (n == n) ≡ true
nat_itself n = grind arith

nat_same : (a b : ℕ) → (a == b) ≡ true → a ≡ b
nat_same a b e = grind arith

bound_itself : (a : Option ℤ) → same_bound a a ≡ true
bound_itself None = refl
bound_itself (Some a) = int_itself a

itself : (v : Value) → v ≢ Null → matches v Eq v ≡ true
itself Null there = absurd (there refl)
itself (Int v) there = int_itself v
itself (Span Empty) there = refl
itself (Span (Between a b)) there = and_from _ _ (bound_itself a) (bound_itself b)
itself (Net v) there = and_from _ _ (and_from _ _ (nat_itself v.family) (nat_itself v.prefix)) (nat_itself v.address)

same_network : (v k : Network) → ((v.family == k.family) && (v.prefix == k.prefix) && (v.address == k.address)) ≡ true → v ≡ k
same_network v k e =
    let p : (((v.family == k.family) && (v.prefix == k.prefix)) ≡ true) × ((v.address == k.address) ≡ true) = and_parts _ _ e in
    let q : ((v.family == k.family) ≡ true) × ((v.prefix == k.prefix) ≡ true) = and_parts _ _ p.0 in
    λ i. record { family = nat_same v.family k.family q.0 i; prefix = nat_same v.prefix k.prefix q.1 i; address = nat_same v.address k.address p.1 i }

pub same_range : (a b c d : Option ℤ) → (same_bound a c && same_bound b d) ≡ true → Between a b ≡ Between c d
same_range a b c d e =
    let p : (same_bound a c ≡ true) × (same_bound b d ≡ true) = and_parts _ _ e in
    λ i. Between (same_bound_is a c p.0 i) (same_bound_is b d p.1 i)

same : (v k : Value) → v ≢ Null → matches v Eq k ≡ true → v ≡ k
same Null k there e = absurd (there refl)
same (Int v) (Int k) there e = ap Int (int_same v k e)
same (Span Empty) (Span Empty) there e = refl
same (Span Empty) (Span (Between c d)) there e = absurd (false≢true e)
same (Span (Between a b)) (Span Empty) there e = absurd (false≢true e)
same (Span (Between a b)) (Span (Between c d)) there e = ap Span (same_range a b c d e)
same (Net v) (Net k) there e = ap Net (same_network v k e)
same (Int v) k there e = absurd (false≢true e)
same (Span v) k there e = absurd (false≢true e)
same (Net v) k there e = absurd (false≢true e)

pub equality_is_identity : EqualityIsIdentity
equality_is_identity v k there = (same v k there, λ e. subst (λ (x : Value). matches v Eq x ≡ true) e (itself v there))
