-- when a step of a scan may be made
use Rattle.std.proofs.Common.{◌≡◌, ◌≢◌, ℕ, ◌+◌, ◌-◌, ◌<◌, List, length, Option, None, Some, refl, sym, ap, ◌∙◌, subst, arith}
use Rattle.std.proofs.lemmas.List.{length-replicate}
use Rattle.disk_trait.specs.Told.{Told}
use Rattle.block_model.specs.declared.row.Query.{Query}
use Rattle.heap_rows.specs.Heaps.{slots_a_page}
use Rattle.page_map.specs.Keeps.{Keeps, Tells}
use Rattle.page_map.specs.PageMap.{View}
use Rattle.store_layout.specs.DiskLayout.{DiskLayout}
use Rattle.snapshot_core.specs.StoredVersions.{transaction_of}
use Rattle.bitmap_scan.specs.declared.stage.Stage.TheVariants as stages
use Rattle.bitmap_scan.specs.Finds.{FindHand, IsFindOf, first_find}
use Rattle.bitmap_scan.specs.ScanHands.{first_hand as judging_first}
use Rattle.session_parts.specs.declared.hand.Hand.{Hand}
use Rattle.session_parts.specs.declared.hand.Stepped.{Stepped}
use Rattle.session_parts.specs.declared.parts.Parts.{Parts}
use Rattle.session_parts.specs.HandFits.{FitsHand, right_held}
use Rattle.session_parts.specs.JournalState.{JournalState}
use Rattle.session_parts.specs.ShowsPlace.{IsPlaceOf}
use Rattle.session_parts.specs.Stepping.{IsFit, IsShown}
use Rattle.session_parts.specs.StoreStates.{ShownStore, shown_of, store_of}
use Rattle.session_parts.specs.UndoneLaws.{FitsParts, StepsSo}
use Rattle.session_parts.proofs.Undone.{fit_of_parts, fit_of_stores, steps_behind}
use Rattle.session_scans.specs.declared.looking.Looking.{Looking}
use Rattle.session_scans.specs.Looks.{first_hand_of, hand_before, scan_hand_of}
use Rattle.session_scans.specs.ScanSteps.{MayScan, ScanStepsSo, parts_before}
use Rattle.session_scans.proofs.Frames.{over_still}
use Rattle.session_scans.proofs.Words.{first_is, hand_later, promised_later, scan_fits, scan_is}

module _ {D : Type 0} (told : D → Told) where
  -- ---- behind a call that changes no page

  module _ (old : Parts D) (pages : View D) (n : ℕ) (hand : Hand) (keeps : Keeps told old.pages pages) where
    abbrev mid : Parts D
    mid = record old { pages = pages }

    fits_mid : FitsParts told old n (Some hand) → FitsParts told mid n (Some hand)
    fits_mid fits = record {
      session = fits.session;
      over = over_still told old.transactions.tx old.pages pages fits.over keeps;
      in_hand = subst (λ (l : DiskLayout). FitsHand l (transaction_of old.transactions.opens n) (Some hand)) (sym keeps.leaves.layout) fits.in_hand;
      limit = fits.limit;
      own = fits.own;
      held = λ table holds. subst (λ (l : DiskLayout). right_held l (Some hand) ≡ Some table) (sym keeps.leaves.layout) (fits.held table holds);
      rights = fits.rights ∙ ap (λ (l : DiskLayout). length l.schema.tables) (sym keeps.leaves.layout);
      entries = fits.entries;
      share = fits.share;
    }

    pub fit_still : IsFit told old n hand → IsFit told mid n hand
    fit_still fit = (fit.0, fit.1, fit.2, fit_of_stores told mid n (Some hand) fit.0 fit.1 (fits_mid (fit_of_parts told old n hand fit)) fit.2)

    shown_alike : (names : List (List ℕ)) (hands : List (Option Hand)) → Tells told old.pages → shown_of (store_of old names hands) ≡ shown_of (store_of mid names hands)
    shown_alike names hands tells = λ i. record {
      layout = sym keeps.leaves.layout i;
      pages = sym (keeps.pages tells) i;
      transactions = old.transactions;
      locks = old.locks;
      rights = old.rights;
      entries = old.journal.entries;
      queue = old.queue;
      dropped = old.dropped;
      names = names;
      hands = hands;
    }

    pub shown_still : IsShown told old n hand → old.pages.failed ≡ None → IsShown told mid n hand
    shown_still shown ready tells still =
        let tells_old : Tells told old.pages = sym keeps.leaves.tells ∙ tells in
        let it = shown tells_old ready in
        (it.0, it.1, it.2, (it.3.0, subst (λ (s : ShownStore). IsPlaceOf s it.3.0) (shown_alike it.0 it.1 tells_old) it.3.1))

  module _ (parts : Parts D) (pages : View D) (n : ℕ) (looking : Looking) (scan : FindHand) (keeps : Keeps told parts.pages pages) (ready : parts.pages.failed ≡ None) where
    pub may_still : MayScan told parts n looking scan → MayScan told (record parts { pages = pages }) n looking scan
    may_still may = record {
      find = subst (λ (l : DiskLayout). IsFindOf l scan) (sym keeps.leaves.layout) may.find;
      work = may.work;
      fresh = may.fresh;
      promised = may.promised;
      fit = fit_still (parts_before scan.judging.stage parts) pages n (hand_before looking scan scan.judging.stage) keeps may.fit;
      shown = shown_still (parts_before scan.judging.stage parts) pages n (hand_before looking scan scan.judging.stage) keeps may.shown ready;
    }

    pub behind : pages.failed ≡ None → (new : Parts D) (answer : Stepped) → ScanStepsSo told (record parts { pages = pages }) new n looking scan answer → ScanStepsSo told parts new n looking scan answer
    behind still new answer so = steps_behind told (parts_before scan.judging.stage parts) (parts_before scan.judging.stage (record parts { pages = pages })) new n (hand_before looking scan scan.judging.stage) answer keeps ready still
        (record { transactions = refl; locks = refl; rights = refl; journal = refl; queue = refl; dropped = refl }) so

  -- ---- before the first step

  module _ (parts : Parts D) (n : ℕ) (looking : Looking) (query : Query) (fit : IsFit told parts n (first_hand_of looking query)) where
    abbrev pub before_first : FindHand
    before_first = first_find (judging_first parts.pages.layout query) (slots_a_page parts.pages.layout query.table)

    pub table_below : query.table < length parts.pages.layout.schema.tables
    table_below = ((first_is looking query).look parts.pages.layout (transaction_of parts.transactions.opens n) (fit_of_parts told parts n (first_hand_of looking query) fit).in_hand).1

    pub is_find : IsFindOf parts.pages.layout before_first
    is_find = record { judging = record { table = table_below; indexes = refl; room = length-replicate parts.pages.layout.sizes.heap_blocks _ }; room = omega arith }

    module _ (j : JournalState) (entries : j.entries ≡ parts.journal.entries) (promised : j.promised ≡ parts.journal.promised + 1) where
      less_is : j.promised - 1 ≡ parts.journal.promised
      less_is = omega (arith, promised)

      journal_is : record j { promised = j.promised - 1 } ≡ parts.journal
      journal_is = λ i. record { entries = entries i; promised = less_is i }

      pub may_begin : IsShown told parts n (first_hand_of looking query) → MayScan told (record parts { journal = j }) n looking before_first
      may_begin shown = record {
        find = is_find;
        work = tt;
        fresh = λ is. record { read = refl; next = refl; found = refl; last = refl };
        promised = omega (arith, promised);
        fit = subst (λ (x : JournalState). IsFit told (record parts { journal = x }) n (first_hand_of looking query)) (sym journal_is) fit;
        shown = subst (λ (x : JournalState). IsShown told (record parts { journal = x }) n (first_hand_of looking query)) (sym journal_is) shown;
      }

      pub begun_so : (new : Parts D) (answer : Stepped) → ScanStepsSo told (record parts { journal = j }) new n looking before_first answer → StepsSo told parts new n (first_hand_of looking query) answer
      begun_so new answer so = subst (λ (x : JournalState). StepsSo told (record parts { journal = x }) new n (first_hand_of looking query) answer) journal_is so

  -- ---- later

  module _ (parts : Parts D) (n : ℕ) (looking : Looking) (scan : FindHand) (fit : IsFit told parts n (scan_hand_of looking scan)) where
    begun : scan.judging.stage ≢ stages.Extent
    begun = (scan_fits parts.pages.layout (transaction_of parts.transactions.opens n) looking scan (fit_of_parts told parts n (scan_hand_of looking scan) fit).in_hand).3

    -- the parts before it are these
    parts_are : parts_before scan.judging.stage parts ≡ parts
    parts_are = ap (λ (k : ℕ). record parts { journal = record parts.journal { promised = k } }) (promised_later scan.judging.stage parts.journal.promised begun)

    hand_is : hand_before looking scan scan.judging.stage ≡ scan_hand_of looking scan
    hand_is = hand_later looking scan scan.judging.stage begun

    pub may_go_on : IsShown told parts n (scan_hand_of looking scan) → MayScan told parts n looking scan
    may_go_on shown =
        let fits = fit_of_parts told parts n (scan_hand_of looking scan) fit in
        let of = scan_fits parts.pages.layout (transaction_of parts.transactions.opens n) looking scan fits.in_hand in
        record {
          find = of.1;
          work = of.2;
          fresh = λ is. absurd (begun is);
          promised = omega (arith, fits.share, (scan_is looking scan).share);
          fit = subst (λ (x : Parts D). IsFit told x n (hand_before looking scan scan.judging.stage)) (sym parts_are) (subst (λ (h : Hand). IsFit told parts n h) (sym hand_is) fit);
          shown = subst (λ (x : Parts D). IsShown told x n (hand_before looking scan scan.judging.stage)) (sym parts_are) (subst (λ (h : Hand). IsShown told parts n h) (sym hand_is) shown);
        }

    pub later_so : (new : Parts D) (answer : Stepped) → ScanStepsSo told parts new n looking scan answer → StepsSo told parts new n (scan_hand_of looking scan) answer
    later_so new answer so = subst (λ (h : Hand). StepsSo told parts new n h answer) hand_is (subst (λ (x : Parts D). StepsSo told x new n (hand_before looking scan scan.judging.stage) answer) parts_are so)
