-- A count of numbers decides which numbers are so.
use Rattle.std.proofs.Common.{◌≡◌, ◌≢◌, ◌⊎◌, inl, inr, ℕ, suc, ◌≤◌, ◌<◌, Bool, true, false, sym, ◌∙◌, subst, arith}
use Rattle.std.specs.Prelude.{IsTrue}
use Rattle.std.proofs.lemmas.Bool.{false≢true}
use Rattle.coverage.specs.Counts.{IsCountBelow, IsCountOf, NoneBelow, NotThisOne, OneMoreBelow}
use Rattle.coverage.proofs.Numbers.{lt_or_ge}
use Rattle.coverage.specs.Table.{pick}
use Rattle.coverage.proofs.Views.{pick_other, pick_same, pick_there}

apart_below : (k n : ℕ) → k < n → k ≢ n
apart_below k n less is = omega arith

the_last : (k n : ℕ) → k < suc n → n ≤ k → k ≡ n
the_last k n less le = omega arith

module _ (Is : ℕ → Type 0) where
  pub said : (m c : ℕ) → IsCountBelow Is m c → ℕ → Bool
  said _ _ NoneBelow k = false
  said _ _ (OneMoreBelow n c is more) k = pick k n true (said n c more k)
  said _ _ (NotThisOne n c not more) k = pick k n false (said n c more k)

  one_true : (k n : ℕ) (b : Bool) → Is n → (IsTrue b → Is k) → IsTrue (pick k n true b) → Is k
  one_true k n b is more so = by (pick_there k n true b)
    where
      by : (k ≡ n) ⊎ (pick k n true b ≡ b) → Is k
      by (inl same) = subst Is (sym same) is
      by (inr same) = more (sym same ∙ so)

  one_false : (k n : ℕ) (b : Bool) → (IsTrue b → Is k) → IsTrue (pick k n false b) → Is k
  one_false k n b more so = by (pick_there k n false b)
    where
      by : (k ≡ n) ⊎ (pick k n false b ≡ b) → Is k
      by (inl same) = absurd (false≢true (sym (pick_same n false b) ∙ subst (λ (j : ℕ). pick j n false b ≡ true) same so))
      by (inr same) = more (sym same ∙ so)

  said_is : (m c : ℕ) (count : IsCountBelow Is m c) (k : ℕ) → IsTrue (said m c count k) → Is k
  unfolding said
  said_is _ _ NoneBelow k so = absurd (false≢true so)
  said_is _ _ (OneMoreBelow n c is more) k so = one_true k n (said n c more k) is (λ b. said_is n c more k b) so
  said_is _ _ (NotThisOne n c not more) k so = one_false k n (said n c more k) (λ b. said_is n c more k b) so

  true_one : (k n : ℕ) (b : Bool) → k < suc n → (k < n → IsTrue b) → IsTrue (pick k n true b)
  true_one k n b less more = by (lt_or_ge k n)
    where
      by : (k < n) ⊎ (n ≤ k) → pick k n true b ≡ true
      by (inl below) = pick_other k n true b (apart_below k n below) ∙ more below
      by (inr le) = subst (λ (j : ℕ). pick k j true b ≡ true) (the_last k n less le) (pick_same k true b)

  true_other : (k n : ℕ) (b : Bool) → (Is n → ⊥) → Is k → k < suc n → (k < n → IsTrue b) → IsTrue (pick k n false b)
  true_other k n b not is less more = by (lt_or_ge k n)
    where
      by : (k < n) ⊎ (n ≤ k) → pick k n false b ≡ true
      by (inl below) = pick_other k n false b (apart_below k n below) ∙ more below
      by (inr le) = absurd (not (subst Is (the_last k n less le) is))

  is_said : (m c : ℕ) (count : IsCountBelow Is m c) (k : ℕ) → k < m → Is k → IsTrue (said m c count k)
  unfolding said
  is_said _ _ NoneBelow k less is = absurd (omega arith)
  is_said _ _ (OneMoreBelow n c it more) k less is = true_one k n (said n c more k) less (λ below. is_said n c more k below is)
  is_said _ _ (NotThisOne n c not more) k less is = true_other k n (said n c more k) not is less (λ below. is_said n c more k below is)

  module _ (c : ℕ) (count : IsCountOf Is c) where
    pub decided : ℕ → Bool
    decided k = said count.below c count.counted k

    pub decided_is : (k : ℕ) → IsTrue (decided k) → Is k
    unfolding decided
    decided_is k so = said_is count.below c count.counted k so

    pub is_decided : (k : ℕ) → Is k → IsTrue (decided k)
    unfolding decided
    is_decided k is = by (lt_or_ge k count.below)
      where
        by : (k < count.below) ⊎ (count.below ≤ k) → IsTrue (said count.below c count.counted k)
        by (inl below) = is_said count.below c count.counted k below is
        by (inr le) = absurd (count.rest k le is)

-- the same numbers are so
module _ (P Q : ℕ → Type 0) (on : (k : ℕ) → P k → Q k) (back : (k : ℕ) → Q k → P k) where
  below_same : (m c : ℕ) → IsCountBelow P m c → IsCountBelow Q m c
  below_same _ _ NoneBelow = NoneBelow
  below_same _ _ (OneMoreBelow n c is more) = OneMoreBelow n c (on n is) (below_same n c more)
  below_same _ _ (NotThisOne n c not more) = NotThisOne n c (λ is. not (back n is)) (below_same n c more)

  pub count_same : (c : ℕ) → IsCountOf P c → IsCountOf Q c
  count_same c count = record { below = count.below; counted = below_same count.below c count.counted; rest = λ k le is. count.rest k le (back k is) }
