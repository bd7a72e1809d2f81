-- a delete that goes on to mark what its scan found, over the parts of a store
use Rattle.std.proofs.Common.{◌≡◌, ℕ, ◌+◌, ◌<◌, length, Some, All, refl, sym, ap, ◌∙◌, subst}
use Rattle.std.specs.Global.{Vec}
use Rattle.std.proofs.lemmas.List.Elements.{All-map}
use Rattle.std.proofs.lemmas.List.Sorted.{All-permutation}
use Rattle.std.proofs.lemmas.Option.{same_Some}
use Rattle.disk_trait.specs.Told.{Told}
use Rattle.block_model.specs.declared.place.Spot.{Spot}
use Rattle.block_model.specs.declared.reply.Point.{Point}
use Rattle.block_model.specs.declared.row.Query.{Query}
use Rattle.block_model.specs.declared.row.Row.{Row}
use Rattle.page_locks.specs.declared.did.Did.TheVariants as did
use Rattle.page_map.specs.Keeps.{Keeps}
use Rattle.page_map.specs.PageMap.{View}
use Rattle.store_layout.specs.declared.statement.Statement.TheVariants as statements
use Rattle.snapshot_core.specs.declared.sessions.Open.{Open}
use Rattle.snapshot_core.specs.StoredVersions.{transaction_of}
use Rattle.bitmap_scan.specs.declared.stage.Stage.TheVariants as stages
use Rattle.bitmap_scan.specs.Finds as scans
use Rattle.bitmap_scan.specs.Finds.{FindHand, IsFindOf}
use Rattle.session_parts.specs.declared.hand.Hand.TheVariants as hands
use Rattle.session_parts.specs.declared.hand.Hit.{Hit}
use Rattle.session_parts.specs.declared.hand.Marking.{Marking}
use Rattle.session_parts.specs.declared.hand.Stepped.TheVariants as stepped
use Rattle.session_parts.specs.declared.parts.Parts.{Parts}
use Rattle.session_parts.specs.HandFits.{IsHandFor}
use Rattle.session_parts.specs.JournalState.{JournalState}
use Rattle.session_parts.specs.Shares.{share_of}
use Rattle.session_parts.specs.Stepping.{IsFit}
use Rattle.session_parts.specs.UndoneLaws.{StepsSo}
use Rattle.session_parts.proofs.Stores.{hand_changes}
use Rattle.session_scans.specs.declared.looking.Looking.{Looking}
use Rattle.session_scans.specs.declared.looking.Looking.TheVariants as lookings
use Rattle.session_scans.specs.FoundLists.{ListsHits, hit_of}
use Rattle.session_scans.specs.LookLaws.{LookLaws}
use Rattle.session_scans.specs.Looks.{hand_before}
use Rattle.session_scans.specs.ScanSteps.{IsFresh}
use Rattle.session_scans.proofs.Frames.{made_so}
use Rattle.session_scans.proofs.Marking.{goes_to_marks}
use Rattle.session_scans.proofs.Steps.{DidScan, few, fits, left, left_parts, look, stand_there, steps_there, store, store_then, there}
use Rattle.session_scans.proofs.Words.{hand_is}

module _ {D : Type 0} (told : D → Told) (laws : LookLaws) (old : Parts D) (pages : View D) (n : ℕ) (before : FindHand) (find : IsFindOf old.pages.layout before)
    (fresh : before.judging.stage ≡ stages.Extent → IsFresh before) (o : Open) (opened : transaction_of old.transactions.opens n ≡ Some o) (keeps : Keeps told old.pages pages)
    (j : JournalState) (same_entries : j.entries ≡ old.journal.entries) (after : FindHand) (point : Point) (made : DidScan told old pages o before after (did.Finished point))
    (ascend : scans.Ascend 0 0 after.found) (within : All (λ (f : Row × Spot). f.1.block < length after.judging.candidates) after.found)
    (hits : Vec Hit) (copy : Query) (copied : copy ≡ after.judging.query) (lists : ListsHits after.found hits.items) (some : 0 < length hits.items) where
  abbrev pub marking : Marking
  marking = record { query = after.judging.query; look = Some copy; hits = hits; next = 0 }

  hits_within : All (λ (h : Hit). h.spot.block < old.pages.layout.sizes.heap_blocks) hits.items
  hits_within =
      let Q : Hit → Type 0 = λ h. h.spot.block < old.pages.layout.sizes.heap_blocks in
      subst (All Q) (sym lists.2) (All-map Q hit_of lists.0 (All-permutation (λ (f : Row × Spot). Q (hit_of f)) after.found lists.0 lists.1.permutation
      (subst (λ (k : ℕ). All (λ (f : Row × Spot). f.1.block < k) after.found) made.find.judging.room within)))

  module _ (fit : IsFit told old n (hand_before lookings.Delete before before.judging.stage)) where
    fits_marks : IsHandFor old.pages.layout (transaction_of old.transactions.opens n) (hands.Marks marking)
    fits_marks = (
      (look told laws old pages n lookings.Delete before fit find fresh o opened keeps).0,
      record {
        look = λ q is. sym (same_Some copy q is) ∙ copied;
        table = made.find.judging.table;
        within = hits_within;
        left = some;
      },
    )

    module _ (promised : j.promised + share_of (Some (hand_before lookings.Delete before before.judging.stage)) (transaction_of old.transactions.opens n)
        ≡ old.journal.promised + share_of (Some (hands.Marks marking)) (transaction_of old.transactions.opens n)) where
      delete_marks : StepsSo told old (record old { pages = pages; journal = j }) n (hand_before lookings.Delete before before.judging.stage) (stepped.Moved point (hands.Marks marking))
      delete_marks = made_so told old pages old.transactions j n (hand_before lookings.Delete before before.judging.stage) (Some (hands.Marks marking))
          (left_parts told laws old pages n lookings.Delete before fit find fresh o opened keeps j (Some (hands.Marks marking)) fits_marks refl
          (few told laws old pages n lookings.Delete before fit find fresh o opened keeps j same_entries) promised) (stepped.Moved point (hands.Marks marking)) refl
          (λ names hands_ is tells first last p shown.
          goes_to_marks laws (store told laws old pages n lookings.Delete before fit find fresh o opened keeps names hands_ is)
          (store_then told laws old pages n lookings.Delete before fit find fresh o opened keeps names hands_ is j (Some (hands.Marks marking))) n before after o
          (there told laws old pages n lookings.Delete before fit find fresh o opened keeps names hands_ is) p shown
          (left told laws old pages n lookings.Delete before fit find fresh o opened keeps names hands_ is tells j (Some (hands.Marks marking)))
          (fits told laws old pages n lookings.Delete before fit find fresh o opened keeps).entries same_entries made.same point made.point.0
          (steps_there told laws old pages n lookings.Delete before fit find fresh o opened keeps names hands_ is tells p shown after (did.Finished point) made)
          (stand_there told laws old pages n lookings.Delete before fit find fresh o opened keeps names hands_ is tells p shown after (did.Finished point) made) ascend hits copy lists some
          (hand_changes hands_ n (hand_before lookings.Delete before before.judging.stage) (Some (hands.Marks marking)) is).own)
          (λ names hands_ is. ap statements.Delete made.same ∙ sym (hand_is lookings.Delete before before.judging.stage).statement) (made.ready, made.still)

  -- where the statement is a delete
  pub marks_so : (looking : Looking) → looking ≡ lookings.Delete → (fit : IsFit told old n (hand_before looking before before.judging.stage))
      → j.promised + share_of (Some (hand_before looking before before.judging.stage)) (transaction_of old.transactions.opens n) ≡ old.journal.promised + share_of (Some (hands.Marks marking)) (transaction_of old.transactions.opens n)
      → StepsSo told old (record old { pages = pages; journal = j }) n (hand_before looking before before.judging.stage) (stepped.Moved point (hands.Marks marking))
  marks_so looking deletes = subst (λ (l : Looking). (fit : IsFit told old n (hand_before l before before.judging.stage))
      → j.promised + share_of (Some (hand_before l before before.judging.stage)) (transaction_of old.transactions.opens n) ≡ old.journal.promised + share_of (Some (hands.Marks marking)) (transaction_of old.transactions.opens n)
      → StepsSo told old (record old { pages = pages; journal = j }) n (hand_before l before before.judging.stage) (stepped.Moved point (hands.Marks marking))) (sym deletes) delete_marks
