-- the sum of shares
use Rattle.std.proofs.Common.{◌≡◌, ◌≢◌, ℕ, zero, suc, ◌+◌, ◌<◌, ◌≤◌, inl, inr, List, Option, refl, subst, arith}
use Rattle.std.proofs.lemmas.Bool.{cases_eq}
use Rattle.snapshot_core.specs.declared.sessions.Open.{Open}
use Rattle.snapshot_core.specs.StoredVersions.{transaction_of}
use Rattle.session_parts.specs.declared.hand.Hand.{Hand}
use Rattle.session_parts.specs.Shares.{share_of}
use Rattle.session_parts.specs.ShareLaws.{PromisesStay, ShareIsWithin, SharesChange, shares_below}
use Rattle.session_parts.specs.StoreStates.{hand_in}

module _ (n : ℕ) (hands now : List (Option Hand)) (opens then : List (Option Open)) (same : (m : ℕ) → m ≢ n → hand_in now m ≡ hand_in hands m)
    (alike : (m : ℕ) → m ≢ n → transaction_of then m ≡ transaction_of opens m) where
  share_stays : (m : ℕ) → m ≢ n → share_of (hand_in now m) (transaction_of then m) ≡ share_of (hand_in hands m) (transaction_of opens m)
  share_stays m other = λ i. share_of (same m other i) (alike m other i)

  below_stays : (count : ℕ) → count ≤ n → shares_below count now then ≡ shares_below count hands opens
  below_stays zero low = refl
  below_stays (suc m) low = λ i. below_stays m (omega arith) i + share_stays m (λ (is : m ≡ n). absurd (omega (arith, is))) i

  changes : (count : ℕ) → n < count
      → shares_below count now then + share_of (hand_in hands n) (transaction_of opens n) ≡ shares_below count hands opens + share_of (hand_in now n) (transaction_of then n)
  changes zero below = absurd (omega arith)
  changes (suc m) below = elim (cases_eq m n) [
    | inl is ↦
        let rest : shares_below m now then ≡ shares_below m hands opens = below_stays m (omega (arith, is)) in
        subst (λ (k : ℕ). shares_below m now then + share_of (hand_in now m) (transaction_of then m) + share_of (hand_in hands k) (transaction_of opens k)
        ≡ shares_below m hands opens + share_of (hand_in hands m) (transaction_of opens m) + share_of (hand_in now k) (transaction_of then k)) is (omega (arith, rest))
    | inr other ↦
        let rest : shares_below m now then + share_of (hand_in hands n) (transaction_of opens n) ≡ shares_below m hands opens + share_of (hand_in now n) (transaction_of then n) = changes m (omega (arith, other)) in
        let own : share_of (hand_in now m) (transaction_of then m) ≡ share_of (hand_in hands m) (transaction_of opens m) = share_stays m other in
        omega (arith, rest, own)
  ]

pub shares_change : SharesChange
shares_change count n hands now opens then below same alike = changes n hands now opens then same alike count below

pub share_is_within : ShareIsWithin
share_is_within zero n hands opens below = absurd (omega arith)
share_is_within (suc m) n hands opens below = elim (cases_eq m n) [
  | inl is ↦ subst (λ (k : ℕ). share_of (hand_in hands k) (transaction_of opens k) ≤ shares_below m hands opens + share_of (hand_in hands m) (transaction_of opens m)) is (omega arith)
  | inr other ↦ omega (arith, share_is_within m n hands opens (omega (arith, other)))
]

pub promises_stay : PromisesStay
promises_stay count n promised after hands now opens then below same alike changes sum =
    let changed : shares_below count now then + share_of (hand_in hands n) (transaction_of opens n) ≡ shares_below count hands opens + share_of (hand_in now n) (transaction_of then n) =
    shares_change count n hands now opens then below same alike in
    omega (arith, changed, changes, sum)
