-- a statement for whose scan memory is short, or the journal has no room, before its first step or later
use Rattle.std.proofs.Common.{◌≡◌, ℕ, ◌+◌, ◌<◌, ◌≤◌, ◌++◌, ◌∷◌, [], length, None, Some, sym, ap, ◌∙◌, subst}
use Rattle.disk_trait.specs.Told.{Told}
use Rattle.block_model.specs.declared.reply.Refusal.TheVariants as refusals
use Rattle.block_model.specs.declared.reply.Reply.TheVariants as replies
use Rattle.store_layout.specs.declared.limits.TheConstants.{MAX_ENTRIES}
use Rattle.snapshot_core.specs.declared.sessions.Open.{Open}
use Rattle.snapshot_core.specs.StoredVersions.{transaction_of}
use Rattle.transactions.specs.TransactionsState.{OfOpen, TransactionsState, with_failed}
use Rattle.tx_table.proofs.Stores.{keeps_same}
use Rattle.bitmap_scan.specs.declared.stage.Stage.TheVariants as stages
use Rattle.bitmap_scan.specs.Finds.{FindHand, IsFindOf}
use Rattle.session_parts.specs.declared.faults.StoreFault.TheVariants as stops
use Rattle.session_parts.specs.declared.hand.Hand.{Hand}
use Rattle.session_parts.specs.declared.hand.Stepped.{Stepped}
use Rattle.session_parts.specs.declared.hand.Stepped.TheVariants as stepped
use Rattle.session_parts.specs.declared.parts.Parts.{Parts}
use Rattle.session_parts.specs.Shares.{hand_share}
use Rattle.session_parts.specs.Stepping.{IsFit}
use Rattle.session_parts.specs.UndoneLaws.{StepsSo}
use Rattle.session_parts.proofs.Undone.{fit_of_parts}
use Rattle.session_scans.specs.declared.looking.Looking.{Looking}
use Rattle.session_scans.specs.LookLaws.{LookLaws}
use Rattle.session_scans.specs.Looks.{hand_before}
use Rattle.session_scans.specs.ScanSteps.{IsFresh}
use Rattle.session_scans.proofs.Frames.{some_open}
use Rattle.session_scans.proofs.Refusals.{refused_entry}
use Rattle.session_scans.proofs.Steps.{refused_so, spent_so}
use Rattle.session_scans.proofs.Words.{hand_is}

module _ {D : Type 0} (told : D → Told) (laws : LookLaws) (old : Parts D) (n : ℕ) (looking : Looking) (scan : FindHand) (fit : IsFit told old n (hand_before looking scan scan.judging.stage))
    (find : IsFindOf old.pages.layout scan) (fresh : scan.judging.stage ≡ stages.Extent → IsFresh scan) (ready : old.pages.failed ≡ None) where
  abbrev was : Hand
  was = hand_before looking scan scan.judging.stage

  pub its_open : (o : Open) × (transaction_of old.transactions.opens n ≡ Some o)
  its_open = some_open (transaction_of old.transactions.opens n)
      ((hand_is looking scan scan.judging.stage).look old.pages.layout (transaction_of old.transactions.opens n) (fit_of_parts told old n was fit).in_hand).0

  as_told : (answer other : Stepped) (new then : Parts D) → answer ≡ other → new ≡ then → StepsSo told old then n was other → StepsSo told old new n was answer
  as_told answer other new then answer_is new_is so =
      subst (λ (a : Stepped). StepsSo told old new n was a) (sym answer_is) (subst (λ (x : Parts D). StepsSo told old x n was other) (sym new_is) so)

  pub is_spent : MAX_ENTRIES < length old.journal.entries + 1 → (new : Parts D) (answer : Stepped) → answer ≡ stepped.Undone (stops.Spent (length old.journal.entries)) was → new ≡ old → StepsSo told old new n was answer
  is_spent full new answer answer_is new_is = as_told answer (stepped.Undone (stops.Spent (length old.journal.entries)) was) new old answer_is new_is
      (spent_so told laws old old.pages n looking scan fit find fresh its_open.0 its_open.1 (keeps_same told old.pages) ready full)

  module _ (new : Parts D) (answer : Stepped) (answer_is : answer ≡ stepped.Done (replies.Refused refusals.Memory)) (failed : OfOpen old.transactions n (λ o. new.transactions ≡ with_failed old.transactions n o))
      (entries : new.journal.entries ≡ old.journal.entries ++ refused_entry n scan.judging.query ∷ []) (rest : new ≡ record old { transactions = new.transactions; journal = new.journal })
      (room : length old.journal.entries + 1 ≤ MAX_ENTRIES) where
    pub short_refused : (share before_share : ℕ) → hand_share (Some was) ≡ share → old.journal.promised + 1 ≡ before_share + share → new.journal.promised + 2 ≡ before_share → StepsSo told old new n was answer
    short_refused share before_share share_was promise less = as_told answer (stepped.Done (replies.Refused refusals.Memory)) new
        (record old { transactions = with_failed old.transactions n its_open.0; journal = new.journal }) answer_is
        (rest ∙ ap (λ (t : TransactionsState). record old { transactions = t; journal = new.journal }) (failed its_open.0 its_open.1))
        (refused_so told laws old old.pages n looking scan fit find fresh its_open.0 its_open.1 (keeps_same told old.pages) ready ready new.journal entries room share before_share share_was promise less)
