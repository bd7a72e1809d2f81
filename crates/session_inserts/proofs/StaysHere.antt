-- an insert that waits, or isn't stepped: the store shows the same place
use Rattle.std.proofs.Common.{◌≡◌, inl, ℕ, ◌<◌, ◌≤◌, List, length, Option, Some, refl, sym, ap, subst, ◌∙◌}
use Rattle.std.specs.FinMap as finite
use Rattle.std.proofs.lemmas.Option.{same_Some}
use Rattle.block_model.specs.declared.place.Place.{Place as PagePlace}
use Rattle.block_model.specs.declared.place.Spot.{Spot}
use Rattle.block_model.specs.declared.reply.Refusal.TheVariants as refusals
use Rattle.block_model.specs.declared.reply.What.TheVariants as whats
use Rattle.block_model.specs.declared.request.Entry.{Entry}
use Rattle.block_model.specs.declared.row.Row.{Row}
use Rattle.store_layout.specs.DiskLayout.{DiskLayout}
use Rattle.page_layout.specs.PageContents.{Slot}
use Rattle.page_map.specs.PageMap.{page_at}
use Rattle.page_locks.specs.LockChanges.{page_of}
use Rattle.page_locks.specs.LockHolders.{holder}
use Rattle.recovery.specs.PageOrder.{IsIndexInOrder}
use Rattle.heap_rows.specs.Heaps.{relation_of as heap_of}
use Rattle.snapshot_core.specs.declared.statuses.Status.{Status}
use Rattle.snapshot_core.specs.StoredVersions.{transaction_of}
use Rattle.store_layout.specs.declared.limits.TheConstants.{MAX_ENTRIES}
use Rattle.tx_table.specs.Statuses.{status_relation}
use Rattle.transactions.specs.Laws.{ShowAlike}
use Rattle.transactions.specs.TransactionsState.{TransactionsState}
use Rattle.index_contents.specs.IndexContents.{index_page, relation_of as index_relation}
use Rattle.coverage.specs.Machines.{table_state}
use Rattle.coverage.specs.Table.{TableState, Task}
use Rattle.coverage.specs.TablePoints.{IsHeldBy, PageLock}
use Rattle.index_steps.specs.ShownRows.{shown_by}
use Rattle.index_steps.specs.ShownTable.{shown_at}
use Rattle.script_semantics.specs.Names.{index_name, name_of}
use Rattle.script_semantics.specs.Place.{Hand as HandAt, Place, database_at}
use Rattle.script_semantics.specs.StatementSteps.{Steps, StepsTo, Waits}
use Rattle.brin_insert.specs.AskedFor.{AreRequestsOf}
use Rattle.brin_insert.specs.declared.insert.Insert.{Insert}
use Rattle.brin_insert.specs.InsertAnswers.{InsertWaitsFor, relation_at}
use Rattle.brin_insert.specs.InsertHands.{InsertHand}
use Rattle.brin_insert.specs.Inserts.{task_of}
use Rattle.session_parts.specs.declared.hand.Hand.{Hand}
use Rattle.session_parts.specs.declared.hand.Hand.TheVariants as hands
use Rattle.session_parts.specs.Hands.{HandShows}
use Rattle.session_parts.specs.HandsAsk.{HandAsked}
use Rattle.session_parts.specs.HandsInTables.{IsTaskOf}
use Rattle.session_parts.specs.LeadLaws.{NoRequestLeads}
use Rattle.session_parts.specs.Leaving.{LeavesOthers}
use Rattle.session_parts.specs.PlaceLaws.{PlaceStaysShown}
use Rattle.session_parts.specs.ShowsPlace.{IsOfTransaction, IsPlaceOf, IsRowOf, is_put}
use Rattle.session_parts.specs.StepLaws.{TurnWaits}
use Rattle.session_parts.specs.StoreStates.{ShownStore, hand_in}
use Rattle.session_inserts.proofs.AtIndex.{AtIndex, asked_here, busy_before, hand_here, kept_here, number_here, own_row_here, put_of, relation_here, shows_here, task_here, told_here}
use Rattle.session_inserts.proofs.IndexStep.{not_resting, put_shown, row_stays}

-- nothing changed, but that the insert is kept anew, at the same task
pub record StaysHere (old new : ShownStore) (n : ℕ) (before after : Insert) (hand : InsertHand) (x : Spot) : Type 0 where
  pub at : AtIndex old n before hand x
  pub still : after.place ≡ Some x
  pub row : after.row ≡ before.row
  pub task : task_of old.layout after ≡ task_of old.layout before
  pub now : hand_in new.hands n ≡ Some (hands.Inserts after)
  pub others : LeavesOthers n old new
  pub pages : (place : PagePlace) → page_at new.pages place ≡ page_at old.pages place
  pub order : (index : ℕ) → index < length old.layout.schema.indexes → IsIndexInOrder old.layout.sizes.index_blocks (index_page old.layout old.pages index)
      → IsIndexInOrder old.layout.sizes.index_blocks (index_page old.layout new.pages index)
  pub locks : new.locks ≡ old.locks
  pub transactions : new.transactions ≡ old.transactions
  pub rights : new.rights ≡ old.rights
  pub entries : new.entries ≡ old.entries
  pub queue : new.queue ≡ old.queue
  pub dropped : new.dropped ≡ old.dropped
  pub same_dropped : after.dropped.items ≡ before.dropped.items

module _ (old new : ShownStore) (n : ℕ) (before after : Insert) (hand : InsertHand) (x : Spot) (stays : StaysHere old new n before after hand x) (p : Place) (shown : IsPlaceOf old p) where
  hand_then : HandShows (hand_in new.hands n) (p.hands n) (p.accounts n)
  hand_then =
      subst (λ (h : Option Hand). HandShows h (p.hands n) (p.accounts n)) (sym stays.now)
      (subst (λ (at : Option HandAt). HandShows (Some (hands.Inserts after)) at (p.accounts n)) (sym (hand_here old n before hand x stays.at p shown))
      (put_shown after before.row x (p.accounts n) stays.still stays.row (told_here old n before hand x stays.at p shown)))

  own_then : (h : Hand) → hand_in new.hands n ≡ Some h → IsOfTransaction (transaction_of new.transactions.opens n) (finite.get (database_at p).sessions n) h
  own_then h is = subst (λ (h : Hand). IsOfTransaction (transaction_of new.transactions.opens n) (finite.get (database_at p).sessions n) h) (same_Some (hands.Inserts after) h (sym stays.now ∙ is)) row_then
    where
      row_then : IsRowOf (transaction_of new.transactions.opens n) (is_put after.place) after.row.id.t after.row.id.k
      row_then = row_stays (transaction_of old.transactions.opens n) (transaction_of new.transactions.opens n) before after (ap (λ (s : TransactionsState). transaction_of s.opens n) stays.transactions) (stays.still ∙ sym stays.at.placed) stays.row
          (own_row_here old n before hand x stays.at p shown)

  tasks_then : (table : ℕ) (stored : List Status) (blocks : List (List Slot)) (task : Task)
      → IsTaskOf old.layout table blocks old.transactions.tx stored (transaction_of old.transactions.opens n) (hand_in old.hands n) task
      → IsTaskOf old.layout table blocks old.transactions.tx stored (transaction_of old.transactions.opens n) (hand_in new.hands n) task
  tasks_then table stored blocks task is =
      let was : IsTaskOf old.layout table blocks old.transactions.tx stored (transaction_of old.transactions.opens n) (Some (hands.Inserts before)) task =
      subst (λ (h : Option Hand). IsTaskOf old.layout table blocks old.transactions.tx stored (transaction_of old.transactions.opens n) h task) stays.at.was is in
      subst (λ (h : Option Hand). IsTaskOf old.layout table blocks old.transactions.tx stored (transaction_of old.transactions.opens n) h task) (sym stays.now)
      ((λ own. was.0 (ap (λ (r : Row). r.table) (sym stays.row) ∙ own) ∙ sym stays.task), (λ apart. was.1 (λ own. apart (ap (λ (r : Row). r.table) stays.row ∙ own))))

  pub stays_shown : PlaceStaysShown → NoRequestLeads → ShowAlike → IsPlaceOf new p
  stays_shown law leads alike = law old new p n shown (record {
    others = stays.others;
    pages = stays.pages;
    transactions = stays.transactions;
    locks = stays.locks;
    rights = stays.rights;
    entries = stays.entries;
    queue = stays.queue;
    dropped = stays.dropped;
    asked = subst (λ (h : Option Hand). HandAsked old.layout h (p.accounts n).dropped) (sym stays.now)
        (subst (λ (l : List (ℕ × ℕ)). AreRequestsOf old.layout l (p.accounts n).dropped) (sym stays.same_dropped) (asked_here old n before hand x stays.at p shown));
    hand = leads alike old new p n (p.hands n) (p.accounts n) shown stays.entries stays.transactions
        (λ block. stays.pages (record { relation = status_relation; block = block })) (λ other block below. stays.pages (record { relation = heap_of other; block = block }))
        (record { hand = hand_then; own = own_then; order = stays.order });
    tasks = tasks_then;
  })

-- it waits for a page that another session locks
module _ (law : TurnWaits) (old : ShownStore) (n : ℕ) (before : Insert) (hand : InsertHand) (x : Spot) (at : AtIndex old n before hand x) (p : Place) (shown : IsPlaceOf old p) (held : PagePlace) (by : ℕ)
    (waits : InsertWaitsFor n (shown_by old.layout old.pages old.locks before.row.table (shows_here old n before hand x at p shown).blocks) (task_of old.layout before) before.at held.block)
    (relation : held.relation ≡ relation_at old.layout before) (holds : holder old.locks held ≡ Some by) (few : length old.entries ≤ MAX_ENTRIES) where
  abbrev table : ℕ
  table = before.row.table

  abbrev w : TableState
  w = table_state (shown_by old.layout old.pages old.locks table (shows_here old n before hand x at p shown).blocks) (shows_here old n before hand x at p shown).unseen

  here : page_of (index_relation old.layout hand.index) held.block ≡ held
  here = λ j. record { relation = sym (relation ∙ relation_here old n before hand x at) j; block = held.block }

  is_held : IsHeldBy w (PageLock before.at held.block) by
  is_held =
      ap (λ (o : Option ℕ). (shown_at old.layout old.pages old.locks o).lock held.block) (number_here old n before hand x at)
      ∙ ap (λ (page : PagePlace). holder old.locks page) here ∙ holds

  pub is_waiting : Steps p n (Waits (refusals.Blocked (whats.Page (index_name old.layout table before.at) held.block) (name_of p by))) p
  is_waiting =
      let blocked = waits (shows_here old n before hand x at p shown).unseen (task_here old n before hand x at p shown) (kept_here old n before hand x at p shown) in
      record {
        hand = put_of before.row;
        in_hand = hand_here old n before hand x at p shown;
        steps = subst (λ (l : DiskLayout). StepsTo p n (put_of before.row) (Waits (refusals.Blocked (whats.Page (index_name l table before.at) held.block) (name_of p by))) p) shown.layout
            (law p n table (put_of before.row) w (task_of old.layout before) (PageLock before.at held.block) by (shows_here old n before hand x at p shown).shown refl (task_here old n before hand x at p shown)
            (inl (not_resting (task_of old.layout before) (busy_before old n before hand x at))) blocked.0 blocked.1 is_held);
        fits = subst (λ (l : List Entry). length l ≤ MAX_ENTRIES) (sym shown.journal) few;
      }
