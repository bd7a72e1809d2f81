-- what an insert asks for, as what its session asks for in the table
use Rattle.std.proofs.Common.{◌≡◌, ℕ, suc, ◌+◌, ◌/◌, ◌≤◌, ◌<◌, inl, inr, Bool, true, false, List, [], ◌∷◌, ◌++◌, length, Option, Some, refl, sym, ap, subst, ◌∙◌, arith}
use Rattle.std.proofs.lemmas.Bool.{cases_lt, false≢true}
use Rattle.block_model.specs.declared.place.Spot.{Spot}
use Rattle.store_layout.specs.DiskLayout.{DiskLayout}
use Rattle.page_map.specs.PageMap.{PageMap}
use Rattle.brin_insert.specs.declared.queue.TheConstants.{MAX_REQUESTS}
use Rattle.coverage.specs.Accounts.{Account, Accounts, Asked, Asking, HasEntry, IsDropped, Joins}
use Rattle.coverage.specs.Table.{pick}
use Rattle.index_contents.specs.IndexContents.{contents}
use Rattle.index_steps.specs.IndexTuples.{index_at}
use Rattle.brin_insert.specs.InsertHands.{InsertHand}
use Rattle.brin_insert.specs.AskedFor.{AreRequestsOf, AsksBy, AsksHere, HasOne, InVain, IsAsked, IsRequestOf, JoinsQueue, NoRequests, OneMoreRequest}
use Rattle.coverage.proofs.Views.{pick_same}

as_long : (layout : DiskLayout) (requests : List (ℕ × ℕ)) (asked : List Asked) → AreRequestsOf layout requests asked → length requests ≡ length asked
as_long layout _ _ NoRequests = refl
as_long layout _ _ (OneMoreRequest request one requests more is rest) = ap suc (as_long layout requests more rest)

one_more : (layout : DiskLayout) (request : ℕ × ℕ) (one : Asked) (requests : List (ℕ × ℕ)) (asked : List Asked) → IsRequestOf layout request one → AreRequestsOf layout requests asked
    → AreRequestsOf layout (requests ++ (request ∷ [])) (asked ++ (one ∷ []))
one_more layout request one _ _ is NoRequests = OneMoreRequest request one [] [] is NoRequests
one_more layout request one _ _ is (OneMoreRequest first its requests more are rest) = OneMoreRequest first its (requests ++ (request ∷ [])) (more ++ (one ∷ [])) are (one_more layout request one requests more is rest)

module _ (layout : DiskLayout) (request : ℕ × ℕ) (queue queued dropped after : List (ℕ × ℕ)) (s : ℕ) (a : Accounts) (one : Asked) (is : IsRequestOf layout request one)
    (queue_is : AreRequestsOf layout queue a.queue) (dropped_is : AreRequestsOf layout dropped (a.of s).dropped) where
  abbrev Shown : Option Spot → Type 0
  Shown entry = (c : Accounts) × Asking s a c one entry × AreRequestsOf layout queued c.queue × AreRequestsOf layout after (c.of s).dropped

  -- in vain, the account keeps it
  abbrev kept_account : Account
  kept_account = record (a.of s) { dropped = (a.of s).dropped ++ (one ∷ []) }

  abbrev in_vain : Accounts
  in_vain = record a { of = λ n. pick n s kept_account (a.of n) }

  own_account : in_vain.of s ≡ kept_account
  own_account = pick_same s kept_account (a.of s)

  pub shown_by_accounts : (entry : Option Spot) → IsAsked request queue queued dropped after entry → Shown entry
  shown_by_accounts _ (HasOne x same as_before) = (
    a,
    HasEntry x (record { account = refl; queue = refl }),
    subst (λ (l : List (ℕ × ℕ)). AreRequestsOf layout l a.queue) (sym same) queue_is,
    subst (λ (l : List (ℕ × ℕ)). AreRequestsOf layout l (a.of s).dropped) (sym as_before) dropped_is,
  )
  shown_by_accounts _ (JoinsQueue few joins as_before) = (
    record a { queue = a.queue ++ (one ∷ []) },
    Joins (omega (arith, few, as_long layout queue a.queue queue_is)) refl refl,
    subst (λ (l : List (ℕ × ℕ)). AreRequestsOf layout l (a.queue ++ (one ∷ []))) (sym joins) (one_more layout request one queue a.queue is queue_is),
    subst (λ (l : List (ℕ × ℕ)). AreRequestsOf layout l (a.of s).dropped) (sym as_before) dropped_is,
  )
  shown_by_accounts _ (InVain full same joins) = (
    in_vain,
    IsDropped (omega (arith, full, as_long layout queue a.queue queue_is)) (record { account = own_account; queue = refl }),
    subst (λ (l : List (ℕ × ℕ)). AreRequestsOf layout l a.queue) (sym same) queue_is,
    subst (λ (l : List (ℕ × ℕ)). AreRequestsOf layout l (in_vain.of s).dropped) (sym joins)
        (subst (λ (account : Account). AreRequestsOf layout (dropped ++ (request ∷ [])) account.dropped) (sym own_account) (one_more layout request one dropped (a.of s).dropped is dropped_is)),
  )

-- what a step that asks makes of the queue
pub asks_here : (layout : DiskLayout) (pages : PageMap) (asking : Bool) (place : Option Spot) (work : Option InsertHand) (x : Spot) (hand : InsertHand) (index range : ℕ) (queue queued dropped after : List (ℕ × ℕ)) → asking ≡ true → place ≡ Some x → work ≡ Some hand
    → index ≡ hand.index → x.block / (index_at layout hand.index).pages_per_range ≡ range + 1 → IsAsked (index, range) queue queued dropped after ((contents layout pages index).entry range) → AsksBy layout pages asking place work queue queued dropped after
asks_here layout pages asking place work x hand index range queue queued dropped after wants placed got same at asked =
    subst (λ (b : Bool). AsksBy layout pages b place work queue queued dropped after) (sym wants)
    (subst (λ (o : Option Spot). AsksHere layout pages o work queue queued dropped after) (sym placed)
    (subst (λ (o : Option InsertHand). AsksHere layout pages (Some x) o queue queued dropped after) (sym got)
    (range, at, subst (λ (n : ℕ). IsAsked (n, range) queue queued dropped after ((contents layout pages n).entry range)) same asked)))

-- a queue that takes no request is full
pub is_full : (joins : Bool) (n : ℕ) → joins ≡ false → (n < MAX_REQUESTS → joins ≡ true) → MAX_REQUESTS ≤ n
is_full joins n refused room = elim (cases_lt n MAX_REQUESTS) [
  | inl below ↦ absurd (false≢true (sym refused ∙ room below))
  | inr full ↦ full
]
