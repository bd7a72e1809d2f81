-- what stands at a key after a change of a map
use Rattle.std.proofs.Common.{◌≡◌, ℕ, false, sym, ap, ◌∙◌, ne_eqb, ◌⊎◌, inl, inr, Some, None}
use Rattle.std.specs.declared.cmp.Ordering.{Ordering}
use Rattle.std.specs.Ordering.{eq_by_cmp, nat_cmp}
use Rattle.std.specs.Cmp.{IsTotalOrder, unsigned_tied}
use Rattle.std.specs.FinMap.{FinMap, get, insert, remove, get-insert, get-remove}
use Rattle.std.proofs.lemmas.Bool.{cond-true, cond-false, cases_eq}
use Rattle.std.proofs.lemmas.Cmp.{nat_cmp_total, eq_by_cmp_equiv}

module _ {K X : Type 0} {R : K → K → Ordering} (o : IsTotalOrder R) where
  pub get_put_here : (m : FinMap R X) (k : K) (v : X) → get (insert m k v) k ≡ Some v
  get_put_here m k v = get-insert o m k v k ∙ cond-true (eq_by_cmp R k k) (Some v) (get m k) ((eq_by_cmp_equiv o).refl k)

  pub get_put_apart : (m : FinMap R X) (k q : K) (v : X) → eq_by_cmp R q k ≡ false → get (insert m k v) q ≡ get m q
  get_put_apart m k q v e = get-insert o m k v q ∙ cond-false (eq_by_cmp R q k) (Some v) (get m q) e

  pub get_removed_here : (m : FinMap R X) (k : K) → get (remove m k) k ≡ None
  get_removed_here m k = get-remove o m k k ∙ cond-true (eq_by_cmp R k k) None (get m k) ((eq_by_cmp_equiv o).refl k)

  pub get_removed_apart : (m : FinMap R X) (k q : K) → eq_by_cmp R q k ≡ false → get (remove m k) q ≡ get m q
  get_removed_apart m k q e = get-remove o m k q ∙ cond-false (eq_by_cmp R q k) None (get m q) e

-- numbers that differ don't tie
pub numbers_apart : (q k : ℕ) → (q ≡ k → ⊥) → eq_by_cmp nat_cmp q k ≡ false
numbers_apart q k h = unsigned_tied q k ∙ ne_eqb q k h

-- ---- what is found after a change of a map from numbers

pub same_Some : {X : Type 0} (x y : X) → Some x ≡ Some y → x ≡ y
same_Some x y e = cc

pub none_Some : {X : Type 0} (x : X) → None ≡ Some x → ⊥
none_Some x e = cc

pub found_after_put : {X : Type 0} (ss : FinMap nat_cmp X) (n m : ℕ) (y z : X) → get (insert ss n y) m ≡ Some z → ((m ≡ n) × (y ≡ z)) ⊎ ((m ≡ n → ⊥) × (get ss m ≡ Some z))
found_after_put ss n m y z got = elim (cases_eq m n) [
  | inl same ↦ inl (same, same_Some y z (sym (ap (get (insert ss n y)) same ∙ get_put_here nat_cmp_total ss n y) ∙ got))
  | inr apart ↦ inr (apart, sym (get_put_apart nat_cmp_total ss n m y (numbers_apart m n apart)) ∙ got)
]

pub found_after_removal : {X : Type 0} (ss : FinMap nat_cmp X) (n m : ℕ) (z : X) → get (remove ss n) m ≡ Some z → (m ≡ n → ⊥) × (get ss m ≡ Some z)
found_after_removal ss n m z got = elim (cases_eq m n) [
  | inl same ↦ absurd (none_Some z (sym (ap (get (remove ss n)) same ∙ get_removed_here nat_cmp_total ss n) ∙ got))
  | inr apart ↦ (apart, sym (get_removed_apart nat_cmp_total ss n m (numbers_apart m n apart)) ∙ got)
]
