-- what comes of the last step of a scan, as a step of its session
use Rattle.std.proofs.Common.{◌≡◌, ℕ, ◌+◌, ◌<◌, ◌++◌, ◌∷◌, [], List, length, Option, None, Some, All, sym, ap, ◌∙◌, subst, arith}
use Rattle.disk_trait.specs.Told.{Told}
use Rattle.block_model.specs.declared.place.Spot.{Spot}
use Rattle.block_model.specs.declared.reply.Point.{Point}
use Rattle.block_model.specs.declared.reply.Refusal.TheVariants as refusals
use Rattle.block_model.specs.declared.reply.Reply.TheVariants as replies
use Rattle.block_model.specs.declared.request.Entry.{Entry}
use Rattle.block_model.specs.declared.row.Query.{Query}
use Rattle.block_model.specs.declared.row.Row.{Row}
use Rattle.page_locks.specs.declared.did.Did.TheVariants as did
use Rattle.page_map.specs.Keeps.{Keeps, Tells}
use Rattle.page_map.specs.PageMap.{View}
use Rattle.store_layout.specs.declared.limits.TheConstants.{MAX_ENTRIES}
use Rattle.store_layout.specs.StatementRequests.{look_entry}
use Rattle.snapshot_core.specs.declared.sessions.Open.{Open}
use Rattle.snapshot_core.specs.StoredVersions.{transaction_of}
use Rattle.transactions.specs.TransactionsState.{TransactionsState, with_failed}
use Rattle.bitmap_scan.specs.Finds as scans
use Rattle.bitmap_scan.specs.Finds.{FindHand}
use Rattle.bitmap_scan.specs.LooksAhead.{NextIs}
use Rattle.session_parts.specs.declared.faults.StoreFault.TheVariants as stops
use Rattle.session_parts.specs.declared.hand.Hand.{Hand}
use Rattle.session_parts.specs.declared.hand.Hand.TheVariants as hands
use Rattle.session_parts.specs.declared.hand.Stepped.{Stepped}
use Rattle.session_parts.specs.declared.hand.Stepped.TheVariants as stepped
use Rattle.session_parts.specs.declared.parts.Parts.{Parts}
use Rattle.session_parts.specs.JournalState.{JournalState}
use Rattle.session_parts.specs.Shares.{hand_share, share_of}
use Rattle.session_scans.specs.declared.looking.Looking.{Looking}
use Rattle.session_scans.specs.Finishes.{BeginsAnew, Finishes, GoesToMarks, LacksMemory, Tells as TellsRows}
use Rattle.session_scans.specs.LookLaws.{LookLaws}
use Rattle.session_scans.specs.Looks.{first_hand_of, hand_before}
use Rattle.session_scans.specs.ScanSteps.{MayScan, ScanStepsSo, parts_before}
use Rattle.session_scans.proofs.Frames.{promised_on}
use Rattle.session_scans.proofs.Marked.{marking, marks_so}
use Rattle.session_scans.proofs.Refusals.{refused_entry}
use Rattle.session_scans.proofs.Steps.{DidScan, anew_so, refused_so, tells_so}
use Rattle.session_scans.proofs.Words.{first_is, hand_is, promised_is, scan_share}

module _ {D : Type 0} (told : D → Told) (laws : LookLaws) (parts : Parts D) (pages : View D) (n : ℕ) (looking : Looking) (before : FindHand) (may : MayScan told parts n looking before)
    (o : Open) (opened : transaction_of parts.transactions.opens n ≡ Some o) (keeps : Keeps told parts.pages pages) (after : FindHand) (point : Point)
    (made : DidScan told (parts_before before.judging.stage parts) pages o before after (did.Finished point)) (ascend : scans.Ascend 0 0 after.found)
    (within : All (λ (f : Row × Spot). f.1.block < length after.judging.candidates) after.found)
    (ahead : MAX_ENTRIES < length parts.journal.entries + 1 → Tells told parts.pages → NextIs parts.pages.layout parts.pages.pages before did.Moved) where
  abbrev old : Parts D
  old = parts_before before.judging.stage parts

  abbrev was : Hand
  was = hand_before looking before before.judging.stage

  abbrev mid : Parts D
  mid = record parts { pages = pages }

  -- the promises
  promised_then : (now : Option Hand) (j : JournalState) → j.promised + 1 ≡ parts.journal.promised + hand_share now
      → j.promised + share_of (Some was) (transaction_of old.transactions.opens n) ≡ old.journal.promised + share_of now (transaction_of old.transactions.opens n)
  promised_then now j is = promised_on (transaction_of old.transactions.opens n) (Some was) now j.promised old.journal.promised parts.journal.promised (scan_share before.judging.stage)
      (hand_is looking before before.judging.stage).share (promised_is before.judging.stage parts.journal.promised may.promised) is

  -- of the query that it had
  looked : (entries : List Entry) → entries ≡ parts.journal.entries ++ look_entry n after.judging.query ∷ [] → entries ≡ parts.journal.entries ++ look_entry n before.judging.query ∷ []
  looked entries is = is ∙ ap (λ (q : Query). parts.journal.entries ++ look_entry n q ∷ []) made.same

  refused : (entries : List Entry) → entries ≡ parts.journal.entries ++ refused_entry n after.judging.query ∷ [] → entries ≡ parts.journal.entries ++ refused_entry n before.judging.query ∷ []
  refused entries is = is ∙ ap (λ (q : Query). parts.journal.entries ++ refused_entry n q ∷ []) made.same

  as_told : (answer other : Stepped) (new then : Parts D) → answer ≡ other → new ≡ then → ScanStepsSo told parts then n looking before other → ScanStepsSo told parts new n looking before answer
  as_told answer other new then answer_is new_is so =
      subst (λ (a : Stepped). ScanStepsSo told parts new n looking before a) (sym answer_is) (subst (λ (x : Parts D). ScanStepsSo told parts x n looking before other) (sym new_is) so)

  pub finished_so : (answer : Stepped) (new : Parts D) → Finishes mid n looking after.judging.query after.found point answer new → ScanStepsSo told parts new n looking before answer
  finished_so answer new (TellsRows reply rows lists replied answer_is enters room) =
      as_told answer (stepped.Done reply) new (record mid { journal = new.journal }) answer_is enters.rest
      (tells_so told laws old pages n looking before may.fit may.find may.fresh o opened keeps new.journal (looked new.journal.entries enters.entries) room
      (promised_then None new.journal (omega (arith, enters.promised))) after point made ascend reply rows lists replied)
  finished_so answer new (GoesToMarks hits copy deletes copied lists some answer_is promises) =
      let its_marking = marking told laws old pages n before may.find may.fresh o opened keeps new.journal promises.entries after point made ascend within hits copy copied lists some in
      as_told answer (stepped.Moved point (hands.Marks its_marking)) new (record mid { journal = new.journal }) answer_is promises.rest
      (marks_so told laws old pages n before may.find may.fresh o opened keeps new.journal promises.entries after point made ascend within hits copy copied lists some looking deletes may.fit
      (promised_then (Some (hands.Marks its_marking)) new.journal (omega (arith, promises.promised))))
  finished_so answer new (LacksMemory answer_is refuses room) =
      as_told answer (stepped.Done (replies.Refused refusals.Memory)) new (record mid { transactions = with_failed parts.transactions n o; journal = new.journal }) answer_is
      (refuses.rest ∙ ap (λ (t : TransactionsState). record mid { transactions = t; journal = new.journal }) (refuses.failed o opened))
      (refused_so told laws old pages n looking before may.fit may.find may.fresh o opened keeps made.ready made.still new.journal (refused new.journal.entries refuses.entries) room
      (scan_share before.judging.stage) parts.journal.promised (hand_is looking before before.judging.stage).share (promised_is before.judging.stage parts.journal.promised may.promised) refuses.promised)
  finished_so answer new (BeginsAnew full answer_is releases) =
      as_told answer (stepped.Undone (stops.Spent (length parts.journal.entries)) (first_hand_of looking after.judging.query)) new (record mid { journal = new.journal }) answer_is releases.rest
      (anew_so told laws old pages n looking before may.fit may.find may.fresh o opened keeps new.journal releases.entries after point made (ahead full) full
      (promised_then (Some (first_hand_of looking after.judging.query)) new.journal (omega (arith, releases.promised, (first_is looking after.judging.query).share))))

-- and no page is changed
module _ {D : Type 0} (old : Parts D) (n : ℕ) (looking : Looking) (query : Query) (found : List (Row × Spot)) (point : Point) (answer : Stepped) (new : Parts D) where
  pub finished_pages : Finishes old n looking query found point answer new → new.pages ≡ old.pages
  finished_pages (TellsRows reply rows lists replied answer_is enters room) = ap (λ (x : Parts D). x.pages) enters.rest
  finished_pages (GoesToMarks hits copy deletes copied lists some answer_is promises) = ap (λ (x : Parts D). x.pages) promises.rest
  finished_pages (LacksMemory answer_is refuses room) = ap (λ (x : Parts D). x.pages) refuses.rest
  finished_pages (BeginsAnew full answer_is releases) = ap (λ (x : Parts D). x.pages) releases.rest
