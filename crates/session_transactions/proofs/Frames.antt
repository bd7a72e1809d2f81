-- What a mark leaves of the parts of a store, on any disk.
use Rattle.std.proofs.Common.{◌≡◌, ◌≢◌, ℕ, zero, suc, ◌+◌, ◌<◌, ◌≤◌, Bool, false, List, [], ◌∷◌, drop, set, length, length-drop, Option, None, Some, refl, sym, ap, ◌∙◌, subst, arith}
use Rattle.std.specs.Prelude.{if◌then◌else◌}
use Rattle.std.proofs.lemmas.Option.{none-some}
use Rattle.disk_trait.specs.Told.{Told}
use Rattle.heap_rows.specs.LeavesOthers.{LeavesOthers}
use Rattle.page_locks.specs.LockCounts.{locks_of}
use Rattle.page_map.specs.Keeps.{Leaves}
use Rattle.page_map.specs.PageMap.{View}
use Rattle.snapshot_core.specs.declared.sessions.Open.{Open}
use Rattle.snapshot_core.specs.StoredVersions.{transaction_of}
use Rattle.store_layout.specs.declared.limits.TheConstants.{MAX_ENTRIES}
use Rattle.store_layout.specs.DiskLayout.{DiskLayout}
use Rattle.tx_table.specs.Kept.{over_kept}
use Rattle.tx_table.specs.Statuses.{status_relation}
use Rattle.tx_table.specs.TxState.{IsOver, TxState}
use Rattle.session_parts.specs.declared.hand.Hand.{Hand}
use Rattle.session_parts.specs.declared.hand.Hand.TheVariants as hands
use Rattle.session_parts.specs.declared.hand.Marking.{Marking}
use Rattle.session_parts.specs.declared.hand.Stepped.{Stepped}
use Rattle.session_parts.specs.declared.parts.Parts.{Parts}
use Rattle.session_parts.specs.HandFits.{FitsHand, IsHandFor, locks_held, right_held}
use Rattle.session_parts.specs.JournalState.{JournalState}
use Rattle.session_parts.specs.StepAnswers.{HasCause}
use Rattle.transactions.specs.TransactionsState.{TransactionsState}
use Rattle.session_parts.specs.Shares.{look_share, open_share, share_of}
use Rattle.session_parts.specs.StepIs.{hand_after}
use Rattle.session_parts.specs.Stepping.{IsFit, MakesItsStep, StaysUndone}
use Rattle.session_parts.specs.StoreStates.{with_hand}
use Rattle.session_parts.specs.UndoneLaws.{FitsParts, StepsSo}
use Rattle.session_parts.proofs.Stores.{hand_changes}
use Rattle.session_parts.proofs.Undone.{fit_of_parts, fit_of_stores}

-- what a step leaves, behind which the session has that in hand
pub record LeavesParts {D : Type 0} (told : D → Told) (old : Parts D) (pages : View D) (tx : TransactionsState) (j : JournalState) (n : ℕ) (was : Hand) (now : Option Hand) : Type 0 where
  pub fits : IsFit told old n was
  pub ready : old.pages.failed ≡ None
  pub still : pages.failed ≡ None
  pub leaves : Leaves told old.pages pages
  pub over : IsOver told tx.tx pages
  pub in_hand : FitsHand pages.layout (transaction_of tx.opens n) now
  pub held : locks_held now ≡ locks_held (Some was)
  pub right : right_held old.pages.layout (Some was) ≡ None
  pub entries : length j.entries ≤ MAX_ENTRIES
  pub promised : j.promised + share_of (Some was) (transaction_of old.transactions.opens n) ≡ old.journal.promised + share_of now (transaction_of tx.opens n)
  pub opens : (m : ℕ) → m ≢ n → transaction_of tx.opens m ≡ transaction_of old.transactions.opens m

less_share : (new old was now : ℕ) → new + was ≡ old + now → was ≤ old → now ≤ new
less_share new old was now is within = omega arith

module _ {D : Type 0} (told : D → Told) (old : Parts D) (pages : View D) (tx : TransactionsState) (j : JournalState) (n : ℕ) (was : Hand) (now : Option Hand) (left : LeavesParts told old pages tx j n was now) where
  abbrev new : Parts D
  new = record old { pages = pages; transactions = tx; journal = j }

  fitted : FitsParts told old n (Some was)
  fitted = fit_of_parts told old n was left.fits

  fit_now : FitsParts told new n now
  fit_now = record {
    session = fitted.session;
    over = left.over;
    in_hand = left.in_hand;
    limit = fitted.limit;
    own = subst (λ (count : ℕ). locks_of old.locks n ≤ count) (sym left.held) fitted.own;
    held = λ table holds. absurd (none-some table (sym left.right ∙ fitted.held table holds));
    rights = fitted.rights ∙ ap (λ (layout : DiskLayout). length layout.schema.tables) (sym left.leaves.layout);
    entries = left.entries;
    share = less_share j.promised old.journal.promised _ _ left.promised fitted.share;
  }

  -- a step that is made so
  pub made_so : (answer : Stepped) → hand_after answer ≡ now → MakesItsStep told old new n was answer → StaysUndone told old new n was answer → HasCause told old.pages pages answer → StepsSo told old new n was answer
  made_so answer after steps stays cause = record {
    steps = steps;
    fit = λ names hands_ is. fit_of_stores told new n now names (with_hand hands_ n (hand_after answer)) fit_now ((hand_changes hands_ n was (hand_after answer) is).own ∙ after);
    others = λ names hands_ is. record {
      leaves = left.leaves;
      transactions = left.opens;
      locks = λ m apart. refl;
      dropped = λ m apart. refl;
      rights = λ m table apart holds. holds;
      promised = ap (λ (h : Option Hand). j.promised + share_of h (transaction_of old.transactions.opens n)) is ∙ left.promised
          ∙ ap (λ (h : Option Hand). old.journal.promised + share_of h (transaction_of tx.opens n)) (sym ((hand_changes hands_ n was (hand_after answer) is).own ∙ after));
    };
    stays = stays;
    cause = cause;
  }

-- the session has that one later
pub set_here : (opens : List (Option Open)) (n : ℕ) (o : Open) (x : Option Open) → transaction_of opens n ≡ Some o → transaction_of (set opens n x) n ≡ x
set_here [] zero o x is = absurd (none-some o is)
set_here [] (suc n) o x is = absurd (none-some o is)
set_here (p ∷ opens) zero o x is = refl
set_here (p ∷ opens) (suc n) o x is = set_here opens n o x is

-- ---- what is promised

shared : (o : Open) → o.failed ≡ false → open_share (Some o) ≡ 2
shared o whole = ap (λ (b : Bool). if b then 1 else 2) whole

pub conflict_promised : (marking : Marking) (o : Open) (j mid before old unneeded : ℕ) → o.failed ≡ false → unneeded + marking.next ≡ length marking.hits.items
    → j + unneeded ≡ mid → mid + 1 ≡ before → before + look_share marking.look ≡ old → j + share_of (Some (hands.Marks marking)) (Some o) ≡ old + (0 + 1)
conflict_promised marking o j mid before old unneeded whole is released entered looked =
    omega (arith, is, released, entered, looked, shared o whole, length-drop marking.next marking.hits.items)

pub mark_promised : (marking : Marking) (o : Open) (rest j before old : ℕ) → o.failed ≡ false → length (drop marking.next marking.hits.items) ≡ rest + 1 → j + 1 ≡ before → before + look_share marking.look ≡ old
    → j + share_of (Some (hands.Marks marking)) (Some o) ≡ old + ((rest + 0) + open_share (Some o))
mark_promised marking o rest j before old whole left entered looked = omega (arith, left, entered, looked, shared o whole)

-- ---- the pages of statuses stay

pub over_marked : {D : Type 0} (told : D → Told) (tx : TxState) (table : ℕ) (old new : View D) → IsOver told tx old → LeavesOthers told table old new → IsOver told tx new
over_marked told tx table old new over others = over_kept told tx old new over others.leaves (λ tells block. others.pages tells (record { relation = status_relation; block = block }) (λ is. omega (arith, is)))

-- what is left to mark fits
pub marking_fits : (layout later : DiskLayout) (own : Option Open) (marking : Marking) → later ≡ layout → IsHandFor layout own (hands.Marks marking) → marking.next + 1 < length marking.hits.items
    → IsHandFor later own (hands.Marks (record { query = marking.query; look = None; hits = marking.hits; next = marking.next + 1 }))
marking_fits layout later own marking is fits left = subst (λ (l : DiskLayout). IsHandFor l own (hands.Marks (record { query = marking.query; look = None; hits = marking.hits; next = marking.next + 1 }))) (sym is)
    (fits.0, record { look = λ copy none. absurd (none-some copy none); table = fits.1.table; within = fits.1.within; left = left })
