-- A summarize of a whole table that steps alone in an index with room for its ranges: where it is between its steps, and that none is refused.
use Rattle.std.proofs.Common.{◌≡◌, ◌≢◌, inl, inr, ⊎_elim, ◌↔◌, ℕ, suc, ◌+◌, ◌*◌, ◌≤◌, ◌<◌, Option, None, refl, sym, ap, ◌∙◌, subst, arith}
use Rattle.coverage.proofs.Numbers.{lt_or_ge}
use Rattle.block_model.specs.declared.reply.Point.{Point}
use Rattle.coverage.specs.Counts.{summarise_count}
use Rattle.coverage.specs.Refusals.{Refusal, does_refusal}
use Rattle.coverage.specs.Statements.{Empty, Holding, Maintaining, NotBuilding, Phase, Statement}
use Rattle.coverage.specs.Steps.{SummariseStep}
use Rattle.coverage.specs.Accounts.{Account, Accounts, AccountsStep}
use Rattle.coverage.specs.Table.{Considers, EachRange, Index, Maintains, Resting, TableState, index_view_at}
use Rattle.coverage.specs.TableSteps.{IsBlocked, Settles, SummariseWaits, TableStep}
use Rattle.script_laws.proofs.IndexMakes.{AreOwn}
use Rattle.script_laws.proofs.Maintained.{counted}
use Rattle.script_laws.proofs.MaintainDoes.{AtRange, Completes, FindsLocked, Goes, LacksPage, SettlesSo, at_first, at_range, settles_so}
use Rattle.script_laws.proofs.RoomySteps.{AreAhead, HasRoom, Leaves, Says, never_full, never_waits, step_leaves}

-- the index where its statement is at this phase of the range
pub record IsRoomyAt (s ranges its range : ℕ) (x : Index) (phase : Phase) : Type 0 where
  pub says : Says ranges range x.contents x.tuple x.pages (x.entry range) phase
  pub ahead : AreAhead range x.entry
  pub own : AreOwn s x.lock
  pub per : x.pages_per_range ≡ its

-- where it is before the range
pub record IsRoomyBefore (s ranges its range : ℕ) (x : Index) : Type 0 where
  pub room : HasRoom ranges range x.contents x.tuple x.pages
  pub empty : (m : ℕ) → range ≤ m → x.entry m ≡ None
  pub own : AreOwn s x.lock
  pub per : x.pages_per_range ≡ its

onto : (r m : ℕ) → suc r ≤ m → r < m
onto r m le = omega arith

below_it : (r m : ℕ) → r < m → r ≤ m
below_it r m less = omega arith

one_more : (r c : ℕ) → c ≡ 1 → r + c ≡ suc r
one_more r c is = omega arith

no_more : (r c : ℕ) → c ≡ 0 → r + c ≡ r
no_more r c is = omega arith

all_done : (r ranges : ℕ) → r ≤ ranges → (r < ranges → ⊥) → r ≡ ranges
all_done r ranges le not = ⊎_elim (λ (less : r < ranges). absurd (not less)) (λ (ge : ranges ≤ r). omega (arith, le, ge)) (lt_or_ge r ranges)

module _ (s at ranges extent its : ℕ) (are : (m : ℕ) → (m * its < extent) ↔ (m < ranges)) where
  -- between what it does and where it comes by that
  pub data IsWithin (w : TableState) (account : Account) : Type 0 where
    InRange : (r : ℕ) (phase : Phase) → w.task s ≡ Maintains (EachRange extent) at r phase → r < ranges → account ≡ counted 0 0 r → IsRoomyAt s ranges its r (w.index at) phase → IsWithin w account
    Between : (r : ℕ) → w.task s ≡ Considers (EachRange extent) at r → r ≤ ranges → account ≡ counted 0 0 r → IsRoomyBefore s ranges its r (w.index at) → IsWithin w account

  -- it is at a range; or it is done
  pub data IsAtWork (w : TableState) (account : Account) : Type 0 where
    StillAt : (r : ℕ) (phase : Phase) → w.task s ≡ Maintains (EachRange extent) at r phase → r < ranges → account ≡ counted 0 0 r → IsRoomyAt s ranges its r (w.index at) phase → IsAtWork w account
    IsDone : w.task s ≡ Resting → account ≡ counted 0 0 ranges → IsAtWork w account

  settled : (w v : TableState) (account : Account) → IsWithin w account → Settles s w v → IsAtWork v account
  settled w v account (InRange r phase is inside counts stands) settles =
      let so = subst (SettlesSo s w v) is (settles_so s w v settles) in
      StillAt r phase so.0 inside counts (subst (λ (x : Index). IsRoomyAt s ranges its r x phase) (sym (so.1.index at)) stands)
  settled w v account (Between r is within counts stands) settles = by (subst (SettlesSo s w v) is (settles_so s w v settles))
    where
      by : SettlesSo s w v (Considers (EachRange extent) at r) → IsAtWork v account
      by (same, inl has) = StillAt r (NotBuilding Empty) has.1 ((are r).0 (subst (λ k. r * k < extent) stands.per has.0)) counts
          (subst (λ (x : Index). IsRoomyAt s ranges its r x (NotBuilding Empty)) (sym (same.index at))
          (record { says = (stands.room, stands.empty r (omega arith)); ahead = λ m less. stands.empty m (below_it r m less); own = stands.own; per = stands.per }))
      by (same, inr none) =
          let all = all_done r ranges within (λ less. none.0 (subst (λ k. r * k < extent) (sym stands.per) ((are r).1 less))) in
          IsDone none.1 (counts ∙ ap (λ k. counted 0 0 k) all)

  module _ (w v : TableState) (r : ℕ) (phase : Phase) (inside : r < ranges) (stands : IsRoomyAt s ranges its r (w.index at) phase) where
    not_blocked : IsBlocked w s (Maintains (EachRange extent) at r phase) → ⊥
    not_blocked (SummariseWaits q _ _ _ _ waits) = never_waits s ranges r inside (index_view_at at w) (index_view_at at w) phase q stands.own waits

    leaves : (new : Statement) (step : SummariseStep s r (index_view_at at w) (index_view_at at v) phase new)
        → Leaves s ranges r (w.index at).pages_per_range (index_view_at at v) (summarise_count step) new
    leaves new step = step_leaves s ranges r inside (index_view_at at w) (index_view_at at v) stands.ahead stands.own phase new stands.says step

    does_at : (a b : Accounts) → a.of s ≡ counted 0 0 r → (point : Option Point) (refused : Option Refusal) → AtRange s w v a b (EachRange extent) at r phase point refused
        → IsWithin v (b.of s) × (refused ≡ None)
    does_at a b counts _ _ (Goes new point now below step account) =
        let left = leaves (Maintaining r new) step in (
          InRange r new now inside (account ∙ ap (λ (x : Account). record x { ranges = x.ranges + summarise_count step }) counts ∙ ap (λ k. counted 0 0 k) (no_more r (summarise_count step) left.says.0))
              (record { says = left.says.1; ahead = left.ahead; own = left.own; per = left.per ∙ stands.per }),
          refl,
        )
    does_at a b counts _ _ (Completes point now below step account) =
        let left = leaves Holding step in (
          Between (suc r) now inside (account ∙ ap (λ (x : Account). record x { ranges = x.ranges + summarise_count step }) counts ∙ ap (λ k. counted 0 0 k) (one_more r (summarise_count step) left.says.0))
              (record { room = left.says.1; empty = λ m le. left.ahead m (onto r m le); own = left.own; per = left.per ∙ stands.per }),
          refl,
        )
    does_at a b counts _ _ (LacksPage number why full) = absurd (never_full s ranges r inside (index_view_at at w) (index_view_at at w) phase number stands.says full)
    does_at a b counts _ _ (FindsLocked blocked) = absurd (not_blocked blocked)

  -- a step at a range is not refused
  pub works_on : (w v : TableState) (a b : Accounts) (step : TableStep s w v) → AccountsStep s w step.between step.does a b → (w.task s ≢ Resting) → IsAtWork w (a.of s)
      → IsAtWork v (b.of s) × (does_refusal s w step.between step.does ≡ None)
  works_on w v a b step accounts busy (IsDone rests counts) = absurd (busy rests)
  works_on w v a b step accounts busy (StillAt r phase is inside counts stands) =
      let did = does_at w step.between r phase inside stands a b counts _ _ (at_range s w step.between a b (EachRange extent) at r phase step.does accounts.adds is) in
      (settled step.between v (b.of s) did.0 step.settles, did.1)

  -- nor is its first one
  pub works_first : (w v : TableState) (a b : Accounts) (step : TableStep s w v) → AccountsStep s w step.between step.does a b → w.task s ≡ Resting
      → step.between.task s ≡ Considers (EachRange extent) at 0 → IsRoomyBefore s ranges its 0 (w.index at) → IsAtWork v (b.of s) × (does_refusal s w step.between step.does ≡ None)
  works_first w v a b step accounts rests begun stands =
      let did = at_first s w step.between a b (EachRange extent) at 0 step.does accounts.adds rests begun in
      (settled step.between v (b.of s) (Between 0 begun (omega arith) did.1 (subst (λ (x : Index). IsRoomyBefore s ranges its 0 x) (sym (did.0.index at)) stands)) step.settles, did.2)

  -- no page is waited for
  pub works_unblocked : (w : TableState) (account : Account) → w.task s ≢ Resting → IsAtWork w account → IsBlocked w s (w.task s) → ⊥
  works_unblocked w account busy (IsDone rests counts) blocked = busy rests
  works_unblocked w account busy (StillAt r phase is inside counts stands) blocked = not_blocked w w r phase inside stands (subst (IsBlocked w s) is blocked)
