-- what a step of a scan leaves of the parts of a store
use Rattle.std.proofs.Common.{◌≡◌, ◌≢◌, ℕ, zero, suc, ◌+◌, ◌≤◌, Bool, false, List, [], ◌∷◌, length, set, Option, None, Some, refl, sym, ap, ◌∙◌, subst, arith}
use Rattle.std.specs.Prelude.{if◌then◌else◌}
use Rattle.std.proofs.lemmas.Option.{none-some}
use Rattle.std.proofs.lemmas.List.{get_or-set_other}
use Rattle.disk_trait.specs.Told.{Told}
use Rattle.page_locks.specs.LockCounts.{locks_of}
use Rattle.page_map.specs.Keeps.{Keeps, Leaves}
use Rattle.page_map.specs.PageMap.{PageMap, View, block_at}
use Rattle.store_layout.specs.declared.limits.TheConstants.{MAX_ENTRIES}
use Rattle.store_layout.specs.DiskLayout.{DiskLayout}
use Rattle.snapshot_core.specs.declared.sessions.Open.{Open}
use Rattle.snapshot_core.specs.SessionChanges.{failed_open}
use Rattle.snapshot_core.specs.StoredVersions.{transaction_of}
use Rattle.tx_table.specs.Kept.{over_kept}
use Rattle.tx_table.specs.Statuses.{status_relation}
use Rattle.tx_table.specs.TxState.{IsOver, TxState}
use Rattle.session_parts.specs.declared.hand.Hand.{Hand}
use Rattle.session_parts.specs.declared.hand.Stepped.{Stepped}
use Rattle.session_parts.specs.declared.parts.Parts.{Parts}
use Rattle.session_parts.specs.HandFits.{FitsHand, IsUnderWay, locks_held, right_held}
use Rattle.session_parts.specs.Shares.{hand_share, open_share, share_of}
use Rattle.session_parts.specs.StepIs.{hand_after}
use Rattle.session_parts.specs.JournalState.{JournalState}
use Rattle.transactions.specs.TransactionsState.{TransactionsState}
use Rattle.session_parts.specs.StepAnswers.{HasCause}
use Rattle.session_parts.specs.Stepping.{IsFit, MakesItsStep, StaysUndone}
use Rattle.session_parts.specs.StoreStates.{with_hand}
use Rattle.session_parts.specs.UndoneLaws.{FitsParts, StepsSo}
use Rattle.session_parts.proofs.Stores.{hand_changes}
use Rattle.session_parts.proofs.Undone.{fit_of_parts, fit_of_stores}

-- what a step leaves, behind which the session has that in hand
pub record LeavesParts {D : Type 0} (told : D → Told) (old : Parts D) (pages : View D) (tx : TransactionsState) (j : JournalState) (n : ℕ) (was : Hand) (now : Option Hand) : Type 0 where
  pub fits : IsFit told old n was
  pub leaves : Leaves told old.pages pages
  pub over : IsOver told tx.tx pages
  pub in_hand : FitsHand pages.layout (transaction_of tx.opens n) now
  pub held : locks_held now ≡ locks_held (Some was)
  pub right : right_held old.pages.layout (Some was) ≡ None
  pub entries : length j.entries ≤ MAX_ENTRIES
  pub promised : j.promised + share_of (Some was) (transaction_of old.transactions.opens n) ≡ old.journal.promised + share_of now (transaction_of tx.opens n)
  pub opens : (m : ℕ) → m ≢ n → transaction_of tx.opens m ≡ transaction_of old.transactions.opens m

less_share : (new old was now : ℕ) → new + was ≡ old + now → was ≤ old → now ≤ new
less_share new old was now is within = omega arith

module _ {D : Type 0} (told : D → Told) (old : Parts D) (pages : View D) (tx : TransactionsState) (j : JournalState) (n : ℕ) (was : Hand) (now : Option Hand) (left : LeavesParts told old pages tx j n was now) where
  abbrev new : Parts D
  new = record old { pages = pages; transactions = tx; journal = j }

  fitted : FitsParts told old n (Some was)
  fitted = fit_of_parts told old n was left.fits

  fit_now : FitsParts told new n now
  fit_now = record {
    session = fitted.session;
    over = left.over;
    in_hand = left.in_hand;
    limit = fitted.limit;
    own = subst (λ (count : ℕ). locks_of old.locks n ≤ count) (sym left.held) fitted.own;
    held = λ table holds. absurd (none-some table (sym left.right ∙ fitted.held table holds));
    rights = fitted.rights ∙ ap (λ (layout : DiskLayout). length layout.schema.tables) (sym left.leaves.layout);
    entries = left.entries;
    share = less_share j.promised old.journal.promised _ _ left.promised fitted.share;
  }

  -- a step that is made so
  pub made_so : (answer : Stepped) → hand_after answer ≡ now → MakesItsStep told old new n was answer → StaysUndone told old new n was answer → HasCause told old.pages pages answer → StepsSo told old new n was answer
  made_so answer after steps stays cause = record {
    steps = steps;
    fit = λ names hands_ is. fit_of_stores told new n now names (with_hand hands_ n (hand_after answer)) fit_now ((hand_changes hands_ n was (hand_after answer) is).own ∙ after);
    others = λ names hands_ is. record {
      leaves = left.leaves;
      transactions = left.opens;
      locks = λ m apart. refl;
      dropped = λ m apart. refl;
      rights = λ m table apart holds. holds;
      promised = ap (λ (h : Option Hand). j.promised + share_of h (transaction_of old.transactions.opens n)) is ∙ left.promised
          ∙ ap (λ (h : Option Hand). old.journal.promised + share_of h (transaction_of tx.opens n)) (sym ((hand_changes hands_ n was (hand_after answer) is).own ∙ after));
    };
    stays = stays;
    cause = cause;
  }

-- the pages of statuses stay where no page changes
pub over_still : {D : Type 0} (told : D → Told) (tx : TxState) (old new : View D) → IsOver told tx old → Keeps told old new → IsOver told tx new
over_still told tx old new over keeps = over_kept told tx old new over keeps.leaves (λ tells block. ap (λ (m : PageMap). block_at m status_relation block) (keeps.pages tells))

-- ---- the session's transaction

-- it is under way
pub under_way : (own : Option Open) (o : Open) → own ≡ Some o → IsUnderWay own → o.failed ≡ false
under_way own o is under = subst IsUnderWay is under

pub some_open : (own : Option Open) → IsUnderWay own → (o : Open) × (own ≡ Some o)
some_open None under = absurd under
some_open (Some o) under = (o, refl)

-- the session has the failed one later, and the others theirs
pub failed_here : (opens : List (Option Open)) (n : ℕ) (o p : Open) → transaction_of opens n ≡ Some o → transaction_of (set opens n (Some p)) n ≡ Some p
failed_here [] zero o p is = absurd (none-some o is)
failed_here [] (suc n) o p is = absurd (none-some o is)
failed_here (x ∷ opens) zero o p is = refl
failed_here (x ∷ opens) (suc n) o p is = failed_here opens n o p is

pub failed_apart : (opens : List (Option Open)) (n m : ℕ) (o : Open) → m ≢ n → transaction_of (set opens n (Some (failed_open o))) m ≡ transaction_of opens m
failed_apart opens n m o apart = get_or-set_other opens n m (Some (failed_open o)) None apart

-- ---- what is promised

pub shared : (o : Open) → o.failed ≡ false → open_share (Some o) ≡ 2
shared o whole = ap (λ (b : Bool). if b then 1 else 2) whole

-- by the promise of the step, whose statement has this share beside that of its transaction
pub promised_on : (own : Option Open) (was now : Option Hand) (new old before share : ℕ) → hand_share was ≡ share → old + 1 ≡ before + share → new + 1 ≡ before + hand_share now → new + share_of was own ≡ old + share_of now own
promised_on own was now new old before share is promise later = omega (arith, is, promise, later)

pub promised_failed : (o p : Open) (own after : Option Open) (was : Option Hand) (new old before share : ℕ) → own ≡ Some o → after ≡ Some p → o.failed ≡ false → open_share (Some p) ≡ 1 → hand_share was ≡ share → old + 1 ≡ before + share
    → new + 2 ≡ before → new + share_of was own ≡ old + share_of None after
promised_failed o p own after was new old before share is later whole one share_is promise left =
    omega (arith, share_is, promise, left, one, ap open_share is ∙ shared o whole, ap open_share later)
