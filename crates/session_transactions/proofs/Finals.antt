-- What a mark promises, by what its calls ensure.
use Rattle.std.proofs.Common.{◌≡◌, ℕ, suc, ◌+◌, ◌<◌, ◌≤◌, ◌==◌, Bool, true, false, List, [], ◌∷◌, ◌++◌, drop, length, length-drop, Option, None, Some, refl, sym, ap, ◌∙◌, subst, arith}
use Rattle.std.specs.Prelude.{IfSome, if◌then◌else◌}
use Rattle.std.specs.List.{slice_get}
use Rattle.std.proofs.lemmas.Bool.{eqb-true, eq-eqb, true≢false}
use Rattle.std.proofs.lemmas.List.{get_or-set_other}
use Rattle.block_model.specs.declared.reply.Point.TheVariants as points
use Rattle.block_model.specs.declared.reply.Refusal.TheVariants as refusals
use Rattle.block_model.specs.declared.reply.Reply.TheVariants as replies
use Rattle.block_model.specs.declared.request.Entry.{Entry}
use Rattle.block_model.specs.declared.request.Request.TheVariants as requests
use Rattle.disk_trait.specs.Told.{Told}
use Rattle.heap_rows.specs.HeapBlocks.{OfBlocks}
use Rattle.heap_rows.specs.LeavesOthers.{LeavesOthers as LeavesOtherTables}
use Rattle.heap_rows.specs.RowPlaces.{MarksRow, MarksSlot}
use Rattle.page_map.specs.PageMap.{View}
use Rattle.snapshot_core.specs.declared.sessions.Open.{Open}
use Rattle.snapshot_core.specs.SessionChanges.{failed_open}
use Rattle.snapshot_core.specs.StoredVersions.{transaction_of}
use Rattle.store_layout.specs.declared.limits.TheConstants.{MAX_ENTRIES}
use Rattle.store_layout.specs.StatementRequests.{request_entry}
use Rattle.transactions.specs.TransactionsState.{OfOpen, TransactionsState, with_failed}
use Rattle.session_parts.specs.declared.hand.Hand.{Hand}
use Rattle.session_parts.specs.declared.hand.Hand.TheVariants as hands
use Rattle.session_parts.specs.declared.hand.Hit.{Hit}
use Rattle.session_parts.specs.declared.hand.Marking.{Marking}
use Rattle.session_parts.specs.declared.hand.Stepped.{Stepped}
use Rattle.session_parts.specs.declared.hand.Stepped.TheVariants as stepped
use Rattle.session_parts.specs.declared.parts.Parts.{Parts}
use Rattle.session_parts.specs.JournalState.{JournalState}
use Rattle.session_parts.specs.HandFits.{FitsHand, locks_held}
use Rattle.session_parts.specs.Shares.{look_share, share_of}
use Rattle.session_parts.specs.Stepping.{IsFit}
use Rattle.session_parts.specs.UndoneLaws.{FitsParts, StepsSo}
use Rattle.session_parts.proofs.Undone.{fit_of_parts}
use Rattle.session_transactions.specs.HitConflicts.{HitConflicts}
use Rattle.session_transactions.specs.Looks.{look_entries, stepped_behind}
use Rattle.session_transactions.proofs.Frames.{LeavesParts, conflict_promised, made_so, mark_promised, marking_fits, over_marked, set_here}
use Rattle.session_transactions.proofs.Making.{MarkLaws, moves, replies_so}
use Rattle.session_transactions.proofs.Refusing.{ConflictLaws, meets_conflict}
use Rattle.session_transactions.proofs.Standing.{under_way}

module _ {D : Type 0} (told : D → Told) (old : Parts D) (n : ℕ) (marking : Marking) (hit : Hit) (fits : IsFit told old n (hands.Marks marking)) (ready : old.pages.failed ≡ None)
    (next : slice_get marking.hits.items marking.next ≡ Some hit) where
  was : FitsParts told old n (Some (hands.Marks marking))
  was = fit_of_parts told old n (hands.Marks marking) fits

  own : (o : Open) × (transaction_of old.transactions.opens n ≡ Some o) × (o.failed ≡ false)
  own = under_way (transaction_of old.transactions.opens n) was.in_hand.0

  -- ---- a conflict

  module _ (laws : ConflictLaws) (looked entered j : JournalState) (tx : TransactionsState) (unneeded : ℕ)
      (conflict : IfSome (slice_get marking.hits.items marking.next) (λ hit. OfOpen old.transactions n (λ o. HitConflicts told old.pages old.transactions.tx.first marking.query.table hit o.t true)))
      (look_entered : looked.entries ≡ old.journal.entries ++ look_entries n marking.look) (look_promised : looked.promised + look_share marking.look ≡ old.journal.promised)
      (mark_entered : entered.entries ≡ looked.entries ++ request_entry n marking.query.table (requests.Mark hit.id) ∷ []) (mark_promised_ : entered.promised + 1 ≡ looked.promised)
      (kept : j.entries ≡ entered.entries) (released : j.promised + unneeded ≡ entered.promised) (left : unneeded + marking.next ≡ length marking.hits.items)
      (fails : OfOpen old.transactions n (λ o. tx ≡ with_failed old.transactions n o)) (room : length j.entries ≤ MAX_ENTRIES) where
    entries_then : j.entries ≡ (old.journal.entries ++ look_entries n marking.look) ++ request_entry n marking.query.table (requests.Mark hit.id) ∷ []
    entries_then = kept ∙ mark_entered ∙ ap (λ (l : List Entry). l ++ request_entry n marking.query.table (requests.Mark hit.id) ∷ []) look_entered

    conflict_here : HitConflicts told old.pages old.transactions.tx.first marking.query.table hit own.0.t true
    conflict_here = subst (λ (x : Option Hit). IfSome x (λ hit. OfOpen old.transactions n (λ o. HitConflicts told old.pages old.transactions.tx.first marking.query.table hit o.t true))) next conflict own.0 own.1

    abbrev failed : Parts D
    failed = record old { transactions = with_failed old.transactions n own.0; journal = j }

    failed_so : StepsSo told old failed n (hands.Marks marking) (stepped.Done (replies.Refused (refusals.Conflict hit.id)))
    failed_so = made_so told old old.pages (with_failed old.transactions n own.0) j n (hands.Marks marking) None (record {
      fits = fits;
      ready = ready;
      still = ready;
      leaves = record { layout = refl; tells = refl; faults = omega arith };
      over = was.over;
      in_hand = tt;
      held = refl;
      right = refl;
      entries = room;
      promised = (λ i. j.promised + share_of (Some (hands.Marks marking)) (own.1 i))
          ∙ conflict_promised marking own.0 j.promised entered.promised looked.promised old.journal.promised unneeded own.2 left released mark_promised_ look_promised
          ∙ (λ i. old.journal.promised + share_of None (sym (set_here old.transactions.opens n own.0 (Some (failed_open own.0)) own.1) i));
      opens = λ m apart. get_or-set_other old.transactions.opens n m (Some (failed_open own.0)) None apart;
    }) (stepped.Done (replies.Refused (refusals.Conflict hit.id))) refl
        (meets_conflict told laws old j n marking hit own.0 was.in_hand.1 own.1 own.2 next conflict_here entries_then room) (λ names hands_ is. tt) (ready, ready)

    pub refuses_so : StepsSo told old (record old { transactions = tx; journal = j }) n (hands.Marks marking) (stepped.Done (replies.Refused (refusals.Conflict hit.id)))
    refuses_so = subst (λ (t : TransactionsState). StepsSo told old (record old { transactions = t; journal = j }) n (hands.Marks marking) (stepped.Done (replies.Refused (refusals.Conflict hit.id)))) (sym (fails own.0 own.1)) failed_so

  -- ---- a mark

  module _ (laws : MarkLaws) (pages : View D) (looked j : JournalState) (t : ℕ)
      (free : IfSome (slice_get marking.hits.items marking.next) (λ hit. OfOpen old.transactions n (λ o. HitConflicts told old.pages old.transactions.tx.first marking.query.table hit o.t false)))
      (number : OfOpen old.transactions n (λ o. t ≡ o.t))
      (still : pages.failed ≡ None)
      (marks : OfBlocks told old.pages marking.query.table (MarksRow old.pages.layout pages.pages marking.query.table hit.spot t)) (slots : OfBlocks told old.pages marking.query.table (MarksSlot hit.spot t))
      (others : LeavesOtherTables told marking.query.table old.pages pages)
      (look_entered : looked.entries ≡ old.journal.entries ++ look_entries n marking.look) (look_promised : looked.promised + look_share marking.look ≡ old.journal.promised)
      (mark_entered : j.entries ≡ looked.entries ++ request_entry n marking.query.table (requests.Mark hit.id) ∷ []) (mark_promised_ : j.promised + 1 ≡ looked.promised)
      (room : length j.entries ≤ MAX_ENTRIES) where
    entries_now : j.entries ≡ (old.journal.entries ++ look_entries n marking.look) ++ request_entry n marking.query.table (requests.Mark hit.id) ∷ []
    entries_now = mark_entered ∙ ap (λ (l : List Entry). l ++ request_entry n marking.query.table (requests.Mark hit.id) ∷ []) look_entered

    free_here : HitConflicts told old.pages old.transactions.tx.first marking.query.table hit own.0.t false
    free_here = subst (λ (x : Option Hit). IfSome x (λ hit. OfOpen old.transactions n (λ o. HitConflicts told old.pages old.transactions.tx.first marking.query.table hit o.t false))) next free own.0 own.1

    marks_own : OfBlocks told old.pages marking.query.table (MarksRow old.pages.layout pages.pages marking.query.table hit.spot own.0.t)
    marks_own = subst (λ (u : ℕ). OfBlocks told old.pages marking.query.table (MarksRow old.pages.layout pages.pages marking.query.table hit.spot u)) (number own.0 own.1) marks

    slots_own : OfBlocks told old.pages marking.query.table (MarksSlot hit.spot own.0.t)
    slots_own = subst (λ (u : ℕ). OfBlocks told old.pages marking.query.table (MarksSlot hit.spot u)) (number own.0 own.1) slots

    abbrev now : Parts D
    now = record old { pages = pages; journal = j }

    abbrev later : Marking
    later = record { query = marking.query; look = None; hits = marking.hits; next = marking.next + 1 }

    left_so : (after : Option Hand) → FitsHand pages.layout (transaction_of old.transactions.opens n) after → locks_held after ≡ 0
        → j.promised + share_of (Some (hands.Marks marking)) (Some own.0) ≡ old.journal.promised + share_of after (Some own.0) → LeavesParts told old pages old.transactions j n (hands.Marks marking) after
    left_so after in_hand held promised = record {
      fits = fits;
      ready = ready;
      still = still;
      leaves = others.leaves;
      over = over_marked told old.transactions.tx marking.query.table old.pages pages was.over others;
      in_hand = in_hand;
      held = held;
      right = refl;
      entries = room;
      promised = subst (λ (x : Option Open). j.promised + share_of (Some (hands.Marks marking)) x ≡ old.journal.promised + share_of after x) (sym own.1) promised;
      opens = λ m apart. refl;
    }

    goes_on_so : (h : Hit) (hs : List Hit) → drop (suc marking.next) marking.hits.items ≡ h ∷ hs → StepsSo told old now n (hands.Marks marking) (stepped.Moved points.Mark (hands.Marks later))
    goes_on_so h hs more =
        let one_less : length (drop marking.next marking.hits.items) ≡ length (drop (marking.next + 1) marking.hits.items) + 1 =
        omega (arith, length-drop marking.next marking.hits.items, length-drop (marking.next + 1) marking.hits.items, was.in_hand.1.left) in
        let left : marking.next + 1 < length marking.hits.items = omega (arith, ap length more, length-drop (suc marking.next) marking.hits.items) in
        made_so told old pages old.transactions j n (hands.Marks marking) (Some (hands.Marks later))
        (left_so (Some (hands.Marks later)) (marking_fits old.pages.layout pages.layout (transaction_of old.transactions.opens n) marking others.leaves.layout was.in_hand left) refl
        (mark_promised marking own.0 (length (drop (marking.next + 1) marking.hits.items)) j.promised looked.promised old.journal.promised own.2 one_less mark_promised_ look_promised))
        (stepped.Moved points.Mark (hands.Marks later)) refl (moves told laws old pages j n marking hit own.0 was.in_hand.1 own.1 own.2 next free_here marks_own slots_own others entries_now room h hs more)
        (λ names hands_ is. refl) (ready, still)

    ends_so : drop (suc marking.next) marking.hits.items ≡ [] → StepsSo told old now n (hands.Marks marking) (stepped.Done (replies.Deleted (marking.next + 1)))
    ends_so none =
        let last : length (drop marking.next marking.hits.items) ≡ 0 + 1 =
        omega (arith, length-drop marking.next marking.hits.items, length-drop (suc marking.next) marking.hits.items, ap length none, was.in_hand.1.left) in
        made_so told old pages old.transactions j n (hands.Marks marking) None
        (left_so None tt refl (mark_promised marking own.0 0 j.promised looked.promised old.journal.promised own.2 last mark_promised_ look_promised))
        (stepped.Done (replies.Deleted (marking.next + 1))) refl (replies_so told laws old pages j n marking hit own.0 was.in_hand.1 own.1 own.2 next free_here marks_own slots_own others entries_now room none)
        (λ names hands_ is. tt) (ready, still)

    -- by whether one is left
    by_left : (rest : List Hit) → drop (suc marking.next) marking.hits.items ≡ rest → (last : Bool) → (marking.next + 1 == length marking.hits.items) ≡ last
        → StepsSo told old now n (hands.Marks marking) (if last then stepped.Done (replies.Deleted (marking.next + 1)) else stepped.Moved points.Mark (hands.Marks later))
    by_left [] is true last = ends_so is
    by_left (h ∷ hs) is false last = goes_on_so h hs is
    by_left (h ∷ hs) is true last = absurd (let same : marking.next + 1 ≡ length marking.hits.items = eqb-true _ _ last in omega (arith, same, ap length is, length-drop (suc marking.next) marking.hits.items))
    by_left [] is false last = absurd (true≢false (sym (eq-eqb _ _ (omega (arith, ap length is, length-drop (suc marking.next) marking.hits.items, was.in_hand.1.left))) ∙ last))

    pub marks_so : (answer : Stepped) → answer ≡ stepped_behind marking.query marking.hits (marking.next + 1) → StepsSo told old now n (hands.Marks marking) answer
    marks_so answer is = subst (StepsSo told old now n (hands.Marks marking)) (sym is) (by_left (drop (suc marking.next) marking.hits.items) refl (marking.next + 1 == length marking.hits.items) refl)
