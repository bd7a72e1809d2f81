-- a first step, or a later one, behind its readiness and the memory for its scan
use Rattle.std.proofs.Common.{◌≡◌, ℕ, ◌+◌, refl, sym, ap, ◌∙◌, subst}
use Rattle.disk_trait.specs.Told.{Told}
use Rattle.block_model.specs.declared.row.Query.{Query}
use Rattle.page_map.specs.declared.faults.StoreError.{StoreError}
use Rattle.page_map.specs.Keeps.{Untold}
use Rattle.page_map.specs.Outcome.{IsReopen, Refused}
use Rattle.page_map.specs.PageMap.{View}
use Rattle.page_store.specs.Survives.{Survives}
use Rattle.tx_table.specs.Durable.{IsBefore}
use Rattle.tx_table.proofs.Parts.{passed_none}
use Rattle.tx_table.proofs.Stores.{keeps_same}
use Rattle.bitmap_scan.specs.Finds.{FindHand}
use Rattle.session_parts.specs.declared.faults.StoreFault.{StoreFault}
use Rattle.session_parts.specs.declared.hand.Hand.{Hand}
use Rattle.session_parts.specs.declared.hand.Stepped.{Stepped}
use Rattle.session_parts.specs.declared.hand.Stepped.TheVariants as stepped
use Rattle.session_parts.specs.declared.parts.Parts.{Parts}
use Rattle.session_parts.specs.JournalState.{JournalState}
use Rattle.session_parts.specs.DamagedPages.{reopen_names}
use Rattle.session_parts.specs.StoreFaults.{fault_of}
use Rattle.session_parts.specs.Stepping.{IsFit, IsShown}
use Rattle.session_parts.specs.UndoneLaws.{StepsSo}
use Rattle.session_parts.proofs.Undone.{fit_of_parts, refused_is_undone}
use Rattle.session_scans.specs.declared.looking.Looking.{Looking}
use Rattle.session_scans.specs.Looks.{first_hand_of}
use Rattle.session_scans.specs.ScanSteps.{MayScan, ScanStepsSo}
use Rattle.session_scans.proofs.Mays.{before_first, begun_so, may_begin}

module _ {D : Type 0} (told : D → Told) (parts : Parts D) (n : ℕ) where
  -- the pages refuse it before anything is done
  pub refused_at_once : (hand : Hand) (fit : IsFit told parts n hand) (error : StoreError) → IsReopen error → Refused told (Untold told parts.pages) parts.pages parts.pages error
      → (fault : StoreFault) → fault ≡ fault_of error → (other : Hand) → other ≡ hand → StepsSo told parts parts n hand (stepped.Undone fault other)
  refused_at_once hand fit error reopen refused fault is other other_is =
      subst (λ (a : Stepped). StepsSo told parts parts n hand a) (λ i. stepped.Undone (sym is i) (sym other_is i))
      (refused_is_undone told parts parts n hand error fit (fit_of_parts told parts n hand fit).over (keeps_same told parts.pages).leaves (record { transactions = refl; locks = refl; rights = refl; journal = refl; queue = refl; dropped = refl }) refused (reopen_names parts.pages.layout error reopen))

  -- and a crash leaves what one left before
  pub passes_nothing : (mid : Parts D) → mid ≡ record parts { journal = mid.journal } → (pages : View D) → pages ≡ mid.pages → Survives told (λ passed. ⊥) parts.pages parts.pages
      → Survives told (IsBefore parts.pages) parts.pages pages
  passes_nothing mid rest pages is stays = subst (λ (v : View D). Survives told (IsBefore parts.pages) parts.pages v) (sym (is ∙ ap (λ (p : Parts D). p.pages) rest))
      (passed_none told (IsBefore parts.pages) parts.pages parts.pages stays)

  module _ (looking : Looking) (query : Query) (fit : IsFit told parts n (first_hand_of looking query)) (mid : Parts D) (entries : mid.journal.entries ≡ parts.journal.entries)
      (rest : mid ≡ record parts { journal = mid.journal }) where
    -- there is memory for the scan
    module _ (promised : mid.journal.promised ≡ parts.journal.promised + 1) (scan : FindHand) (begins : scan ≡ before_first told parts n looking query fit) where
      pub may_scan : IsShown told parts n (first_hand_of looking query) → MayScan told mid n looking scan
      may_scan shown = subst (λ (s : FindHand). MayScan told mid n looking s) (sym begins)
          (subst (λ (p : Parts D). MayScan told p n looking (before_first told parts n looking query fit)) (sym rest) (may_begin told parts n looking query fit mid.journal entries promised shown))

      pub scan_so : (new : Parts D) (answer : Stepped) → ScanStepsSo told mid new n looking scan answer → StepsSo told parts new n (first_hand_of looking query) answer
      scan_so new answer so = begun_so told parts n looking query fit mid.journal entries promised new answer
          (subst (λ (p : Parts D). ScanStepsSo told p new n looking (before_first told parts n looking query fit) answer) rest
          (subst (λ (s : FindHand). ScanStepsSo told mid new n looking s answer) begins so))

    -- and there isn't
    module _ (same : mid.journal.promised ≡ parts.journal.promised) where
      journal_is : mid.journal ≡ parts.journal
      journal_is = λ i. record { entries = entries i; promised = same i }

      pub mid_is : mid ≡ parts
      mid_is = rest ∙ ap (λ (j : JournalState). record parts { journal = j }) journal_is

      pub short_so : (back : Query) → back ≡ query → (new : Parts D) (answer : Stepped) → StepsSo told mid new n (first_hand_of looking back) answer → StepsSo told parts new n (first_hand_of looking query) answer
      short_so back is new answer so = subst (λ (q : Query). StepsSo told parts new n (first_hand_of looking q) answer) is
          (subst (λ (p : Parts D). StepsSo told p new n (first_hand_of looking back) answer) mid_is so)
