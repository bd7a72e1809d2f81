-- A mark that is made, as a step of its session.
use Rattle.std.proofs.Common.{◌≡◌, ◌≢◌, ◌⊎◌, inl, inr, ℕ, suc, ◌+◌, ◌<◌, ◌≤◌, Bool, true, false, cond, List, [], ◌∷◌, ◌++◌, length, drop, map, replicate, All, Option, None, Some, refl, sym, ap, ◌∙◌, subst, arith}
use Rattle.std.specs.Prelude.{IsTrue, if◌then◌else◌}
use Rattle.std.specs.List.{slice_get}
use Rattle.std.specs.FinMap as finite
use Rattle.std.specs.Ordering.{eq_by_cmp, nat_cmp}
use Rattle.std.specs.Cmp.{eq_by_cmp_equiv, nat_cmp_total}
use Rattle.std.proofs.lemmas.Bool.{cases_eq, true≢false}
use Rattle.std.proofs.lemmas.List.{length-map, length-set, nil_from_length}
use Rattle.std.proofs.lemmas.List.Elements.{All-tail, All-weaker}
use Rattle.std.proofs.lemmas.Option.{none-some, same_Some}
use Rattle.block_model.specs.declared.reply.Reply.TheVariants as replies
use Rattle.block_model.specs.declared.request.Entry.{Entry}
use Rattle.block_model.specs.declared.request.Request.TheVariants as requests
use Rattle.block_model.specs.declared.row.Row.{Row}
use Rattle.block_model.specs.declared.row.RowId.{RowId}
use Rattle.block_model.specs.DatabaseState.{DatabaseState, OpenTransaction}
use Rattle.block_model.specs.RequestEffect.{Answer, Conflict, Found, Marked, after_failure, after_mark, effect, effect_at, effect_is, is_conflict, with_transaction}
use Rattle.disk_trait.specs.Told.{Told}
use Rattle.block_model.specs.declared.place.Spot.{Spot}
use Rattle.block_model.specs.declared.reply.Point.TheVariants as points
use Rattle.page_layout.specs.PageContents.{Slot}
use Rattle.page_layout.specs.PageWrites.{marked}
use Rattle.page_layout.specs.RowBytes.{StoredRow}
use Rattle.heap_rows.specs.HeapBlocks.{HasBlocks, OfBlocks}
use Rattle.heap_rows.specs.Heaps.{relation_of}
use Rattle.heap_rows.specs.LeavesOthers.{LeavesOthers as LeavesOtherTables}
use Rattle.heap_rows.specs.RowPlaces.{ChangesSlot, MarksRow, MarksSlot, slot_at, with_slot}
use Rattle.recovery.specs.PageOrder.{IsIndexInOrder}
use Rattle.page_map.specs.PageMap.{View}
use Rattle.store_layout.specs.DiskLayout.{DiskLayout}
use Rattle.index_contents.specs.IndexContents.{relation_of as index_relation}
use Rattle.script_semantics.specs.ShownRows.{row_in, rows_in}
use Rattle.page_map.specs.Keeps.{Tells}
use Rattle.snapshot_core.specs.declared.statuses.Status.{Status}
use Rattle.store_layout.specs.declared.limits.TheConstants.{MAX_ENTRIES}
use Rattle.store_layout.specs.declared.statement.Statement.TheVariants as statements
use Rattle.store_layout.specs.StatementRequests.{request_entry}
use Rattle.snapshot_core.specs.declared.sessions.Open.{Open}
use Rattle.snapshot_core.specs.StoredVersions.{transaction_of}
use Rattle.transactions.specs.CountedRows.{counts as counts_of}
use Rattle.transactions.specs.Laws.{CopyStands, MarkIsShown, MarkIsUnseen, SessionsAreShown}
use Rattle.transactions.specs.StoredRows.{MarksRowAt, conflicts_with}
use Rattle.transactions.specs.TransactionsState.{TransactionsState}
use Rattle.transactions.specs.ShowsDatabase.{DoesRequest}
use Rattle.coverage.specs.Machines.{ShownTable, table_state, task_turned}
use Rattle.coverage.specs.TableSteps.{OnlyTurns}
use Rattle.coverage.specs.Table.{Marks, Resting, TableState, Task, pick}
use Rattle.coverage.proofs.Views.{pick_other, pick_same}
use Rattle.script_semantics.specs.ShownRows.{shown_by}
use Rattle.script_semantics.specs.Place.{Hand as HandAt, Place, database_at}
use Rattle.script_semantics.specs.Requests.{Course}
use Rattle.script_semantics.specs.StatementSteps.{Ended, Moved, Steps, StepsTo}
use Rattle.session_parts.specs.declared.hand.Hand.{Hand}
use Rattle.session_parts.specs.declared.hand.Hand.TheVariants as hands
use Rattle.session_parts.specs.declared.hand.Hit.{Hit}
use Rattle.session_parts.specs.declared.hand.Marking.{Marking}
use Rattle.session_parts.specs.declared.hand.Stepped.TheVariants as stepped
use Rattle.session_parts.specs.declared.parts.Parts.{Parts}
use Rattle.session_parts.specs.RowsFollow.{IsOfOpen}
use Rattle.session_parts.specs.SeenBefore.{RowsGoOn}
use Rattle.session_parts.proofs.SeenBefore.{saw_rows_stay}
use Rattle.session_parts.specs.HandFits.{IsMarkingFor}
use Rattle.session_parts.specs.Hands.{HandShows, hits_left, ids_of}
use Rattle.session_parts.specs.HandsAsk.{IsNoInsert}
use Rattle.session_parts.specs.HandsInTables.{IsMarkingAt, IsMarkingBy, IsTaskOf, table_in}
use Rattle.session_parts.specs.JournalState.{JournalState}
use Rattle.session_parts.specs.Leaving.{CountsFew, LeadsTo, LeavesOthers, RowsStay, SlotsStay, StepsInTable}
use Rattle.session_parts.specs.PlacesAfter.{place_after}
use Rattle.session_parts.specs.ShowsPlace.{AreInCopy, IsOfTransaction, IsPlaceOf, ShowsTable}
use Rattle.session_parts.specs.Stepping.{MakesItsStep}
use Rattle.session_parts.specs.StoreLaws.{HasHand}
use Rattle.session_parts.specs.StoreStates.{ShownStore, hand_in, shown_of, store_of, with_hand}
use Rattle.session_parts.proofs.Fronts.{mark_stays_within}
use Rattle.session_parts.proofs.Leads.{mark_leaves_slots}
use Rattle.session_parts.proofs.Slots.{marked_slot}
use Rattle.session_parts.proofs.Places.{table_step_is_shown}
use Rattle.session_parts.proofs.Stores.{hand_changes}
use Rattle.session_parts.proofs.Tables.{own_table_goes_on, same_contents, shown_alike}
use Rattle.session_transactions.specs.HitConflicts.{HitConflicts}
use Rattle.session_transactions.specs.Looks.{look_entries}
use Rattle.session_transactions.proofs.Answered.{steps_in_table, is_marking, does as its_does, leads as its_leads, longer as its_longer}
use Rattle.session_transactions.proofs.Definition.{answers_are, course, ends, goes_on}
use Rattle.session_transactions.proofs.Hits.{first_of, hits_from}
use Rattle.session_transactions.proofs.Turns.{IsMarkTurn, at_task, left_at, mark_turns, task_then}
use Rattle.session_transactions.proofs.Standing.{MarksAt, is_first, marks_at}

-- the laws of transactions that it takes
pub record MarkLaws : Type 0 where
  pub sessions : SessionsAreShown
  pub copies : CopyStands
  pub mark : MarkIsShown
  pub unseen : MarkIsUnseen

-- ---- a mark leaves the copy

marked_or : Answer → Bool
marked_or Marked = true
marked_or answer = false

-- a mark that is answered so isn't in conflict, and its row leaves the copy
copy_then : (d after : DatabaseState) (n table : ℕ) (id : RowId) (x : OpenTransaction) → finite.get d.sessions n ≡ Some x
    → effect d (request_entry n table (requests.Mark id)) ≡ (after, Marked) → finite.get after.sessions n ≡ Some (after_mark x id)
unfolding marked_or
copy_then d after n table id x got does = by (is_conflict d n x id) (sym (effect_is d (request_entry n table (requests.Mark id)) ∙ ap (λ (o : Option OpenTransaction). effect_at o d (request_entry n table (requests.Mark id))) got) ∙ does)
  where
    same_number : (n : ℕ) → eq_by_cmp nat_cmp n n ≡ true
    same_number n = (eq_by_cmp_equiv nat_cmp_total).refl n

    by : (b : Bool) → ◌≡◌ {A = DatabaseState × Answer} (if b then (after_failure d n x, Conflict id) else (with_transaction d n (after_mark x id), Marked)) (after, Marked) → finite.get after.sessions n ≡ Some (after_mark x id)
    by true is = absurd (true≢false (sym (ap (λ (r : DatabaseState × Answer). marked_or r.1) is)))
    by false is = ap (λ (r : DatabaseState × Answer). finite.get r.0.sessions n) (sym is) ∙ finite.get-insert nat_cmp_total d.sessions n (after_mark x id) n
        ∙ ap (λ (b : Bool). cond b (Some (after_mark x id)) (finite.get d.sessions n)) (same_number n)

-- ---- the slots

same_spot : (a b : Spot) → (a ≡ b) ⊎ (a ≢ b)
same_spot a b = elim (cases_eq a.block b.block) [
  | inl blocks ↦ elim (cases_eq a.slot b.slot) [
    | inl slots ↦ inl (λ i. record { block = blocks i; slot = slots i })
    | inr apart ↦ inr (λ is. apart (ap (λ (x : Spot). x.slot) is))
  ]
  | inr apart ↦ inr (λ is. apart (ap (λ (x : Spot). x.block) is))
]

-- a table shows the same rows where one is marked
same_rows : (table : ℕ) (blocks now : List (List Slot)) (spot : Spot) (row : StoredRow) (t : ℕ) → slot_at blocks spot ≡ Some row → ChangesSlot blocks now spot (Some (marked row t))
    → (b k : ℕ) → rows_in table now b k ≡ rows_in table blocks b k
same_rows table blocks now spot row t there changes b k = elim (same_spot (record { block = b; slot = k }) spot) [
  | inl is ↦ ap (λ (x : Spot). row_in table (slot_at now x)) is ∙ ap (row_in table) changes.there ∙ sym (ap (row_in table) there) ∙ ap (λ (x : Spot). row_in table (slot_at blocks x)) (sym is)
  | inr apart ↦ ap (row_in table) (changes.others (record { block = b; slot = k }) apart)
]

-- each row that stood stands there, with its deleter or that of the open transaction that marked it
marked_goes_on : (t : TransactionsState) (n : ℕ) (o : Open) → transaction_of t.opens n ≡ Some o → (sees : ℕ → ℕ → Bool) (blocks now : List (List Slot)) (spot : Spot) (row : StoredRow)
    → slot_at blocks spot ≡ Some row → ChangesSlot blocks now spot (Some (marked row o.t)) → RowsGoOn t sees blocks now
marked_goes_on t n o opened sees blocks now spot row there changes x after after_there seen = elim (same_spot x spot) [
  | inl is ↦
      let same : marked row o.t ≡ after = same_Some (marked row o.t) after (sym changes.there ∙ ap (slot_at now) (sym is) ∙ after_there) in
      (row, ap (slot_at blocks) is ∙ there, ap (λ (r : StoredRow). r.id) same, inr (subst (IsOfOpen t) (ap (λ (r : StoredRow). r.deleter) same) (n, o, opened, refl)))
  | inr apart ↦ (after, sym (changes.others x apart) ∙ after_there, refl, inl refl)
]

-- where a row stood one stands
still_standing : (blocks now : List (List Slot)) → RowsStay blocks now → (x : Spot) → slot_at blocks x ≢ None → slot_at now x ≢ None
still_standing blocks now rows x stood none = by_slot (slot_at blocks x) refl
  where
    by_slot : (slot : Slot) → slot_at blocks x ≡ slot → ⊥
    by_slot None is = stood is
    by_slot (Some row) is = let stays = rows x row is in none-some stays.0 (sym none ∙ stays.1)

-- an index's pages are of another relation than a table's heap
apart_from_heap : (layout : DiskLayout) (index table : ℕ) → table < length layout.schema.tables → index_relation layout index ≢ relation_of table
apart_from_heap layout index table below is = omega (arith, is, below)

module _ {D : Type 0} (told : D → Told) (laws : MarkLaws) (old : Parts D) (pages : View D) (j : JournalState) (n : ℕ) (marking : Marking) (hit : Hit) (o : Open)
    (fits : IsMarkingFor old.pages.layout marking) (opened : transaction_of old.transactions.opens n ≡ Some o) (whole : o.failed ≡ false) (next : slice_get marking.hits.items marking.next ≡ Some hit)
    (free : HitConflicts told old.pages old.transactions.tx.first marking.query.table hit o.t false)
    (marks : OfBlocks told old.pages marking.query.table (MarksRow old.pages.layout pages.pages marking.query.table hit.spot o.t)) (slots : OfBlocks told old.pages marking.query.table (MarksSlot hit.spot o.t))
    (others : LeavesOtherTables told marking.query.table old.pages pages)
    (entries : j.entries ≡ (old.journal.entries ++ look_entries n marking.look) ++ request_entry n marking.query.table (requests.Mark hit.id) ∷ []) (room : length j.entries ≤ MAX_ENTRIES) where
  abbrev new : Parts D
  new = record old { pages = pages; journal = j }

  -- the delete then, where it goes on
  abbrev marking_then : Marking
  marking_then = record { query = marking.query; look = None; hits = marking.hits; next = marking.next + 1 }

  module _ (hand_then : Option Hand) (names : List (List ℕ)) (hands_ : List (Option Hand)) (is : hand_in hands_ n ≡ Some (hands.Marks marking)) (tells : Tells told old.pages) (p : Place) (shown : IsPlaceOf (shown_of (store_of old names hands_)) p) where
    abbrev s : ShownStore
    s = shown_of (store_of old names hands_)

    abbrev after_store : ShownStore
    after_store = shown_of (store_of new names (with_hand hands_ n hand_then))

    abbrev table : ℕ
    table = marking.query.table

    abbrev stored : List Status
    stored = shown.database.stored

    pub has_hand : HasHand hands_ (with_hand hands_ n hand_then) n hand_then
    has_hand = hand_changes hands_ n (hands.Marks marking) hand_then is

    pub at : MarksAt s p n marking hit o shown
    at = marks_at laws.sessions laws.copies s p n marking hit is fits o opened whole next shown

    conflict_free : conflicts_with s.transactions.tx.first stored o.t at.row ≡ false
    conflict_free = sym (free tells stored at.table.blocks at.row shown.database.has at.table.has at.there at.row_id)

    abbrev now : List (List Slot)
    now = with_slot at.table.blocks hit.spot (Some (marked at.row o.t))

    has_now : HasBlocks s.layout pages.pages table now
    has_now = marks tells at.table.blocks at.table.has at.row at.there

    changes : ChangesSlot at.table.blocks now hit.spot (Some (marked at.row o.t))
    changes = slots tells at.table.blocks at.table.has at.row at.there

    marks_row : MarksRowAt s.layout s.pages pages.pages table hit.spot at.row o.t
    marks_row = record { blocks = at.table.blocks; has = at.table.has; there = at.there; marks = has_now; others = λ place apart. others.pages tells place apart }

    pub made : DoesRequest s.layout pages.pages s.transactions (database_at p) (request_entry n table (requests.Mark at.row.id)) Marked
    made = laws.mark s.layout s.pages pages.pages s.transactions (database_at p) n table o hit.spot at.row
        (is_marking s after_store n marking hit o p shown at false fits.table opened conflict_free) marks_row

    abbrev pub does : effect (database_at p) (request_entry n table (requests.Mark at.stands.row.id)) ≡ (made.0, Marked)
    does = its_does s after_store n marking hit o p shown at (λ id. Marked) made fits.look entries

    abbrev pub course_then : Course
    course_then = course p n marking.query at.answers (is_first marking.look) marking.next at.stands Marked made.0 does

    pub longer : j.entries ≡ course_then.journal
    longer = its_longer s after_store n marking hit o p shown at (λ id. Marked) made fits.look entries

    abbrev more_ids : List RowId
    more_ids = map (λ (r : Row). r.id) at.stands.more

    abbrev task : Task
    task = left_at at.stands.scan more_ids

    abbrev plain : TableState
    plain = table_state (shown_by s.layout pages.pages s.locks table now) at.table.unseen

    abbrev pub v : TableState
    v = at_task n plain task

    alike : shown_by s.layout pages.pages s.locks table at.table.blocks ≡ shown_by s.layout s.pages s.locks table at.table.blocks
    alike = shown_alike s.layout s.pages pages.pages s.locks s.locks table at.table.blocks
        (λ index below of. same_contents s.layout s.pages pages.pages index (λ block. others.pages tells (record { relation = index_relation s.layout index; block = block }) (apart_from_heap s.layout index table fits.table)))
        (λ index page below of. refl)

    only_there : OnlyTurns (table_state (shown_by s.layout s.pages s.locks table at.table.blocks) at.table.unseen) plain
    only_there = record {
      rows = record {
        layout = record { indexes = refl; rows_per_page = refl; heap_limit = refl };
        blocks = length-set at.table.blocks hit.spot.block _;
        row = same_rows table at.table.blocks now hit.spot at.row o.t at.there changes;
        counts = λ t. refl;
      };
      indexes = record { index = λ i. ap (λ (shown_ : ShownTable). (table_state shown_ at.table.unseen).index i) alike };
      summarise_lock = refl;
    }

    only : OnlyTurns (p.tables table) plain
    only = subst (λ (w : TableState). OnlyTurns w plain) (sym at.table.shown) only_there

    pub turn : IsMarkTurn p n marking.query v
    turn = mark_turns p n marking.query plain at.stands.scan at.stands.row.id more_ids at.stands.at only (λ m. ap (λ (w : TableState). w.task m) (sym at.table.shown))

    leaves : LeavesOthers n s after_store
    leaves = record { layout = others.leaves.layout; names = refl; first = refl; hands = has_hand.others; opens = λ m apart. refl }

    abbrev IsInTable : Type 0
    IsInTable = (other : ℕ) → table_in s.layout hand_then ≡ Some other → other ≡ table

    in_table : IsInTable → StepsInTable n table s after_store
    in_table is_there = steps_in_table s after_store n marking hit o p shown at is fits.table (λ place elsewhere. others.pages tells place (λ same. elsewhere (inl same))) refl refl hand_then has_hand.own is_there

    -- what the session is at then
    abbrev IsTaskThen : Type 0
    IsTaskThen = IsTaskOf s.layout table now s.transactions.tx stored (transaction_of s.transactions.opens n) hand_then task

    slots_stay : SlotsStay n s stored at.table.blocks now
    slots_stay = mark_leaves_slots laws.unseen s (database_at p) stored n table o hit.spot at.row at.table.blocks now shown.database shown.database.has opened fits.table
        (record { blocks = at.table.blocks; has = at.table.has; there = at.there }) conflict_free at.there changes

    own_table : IsTaskThen → ShowsTable after_store stored table v
    own_table is_task = own_table_goes_on s after_store stored n table (p.tables table) v (task_turned n task at.table.unseen) now at.table leaves turn.0.step refl has_now at.table.lock at.table.counts
        (λ m apart. pick_other m n task (at.table.unseen.task m) apart)
        (subst (λ (h : Option Hand). IsTaskOf s.layout table now s.transactions.tx stored (transaction_of s.transactions.opens n) h (pick n n task (at.table.unseen.task n))) (sym has_hand.own)
        (subst (λ (k : Task). IsTaskOf s.layout table now s.transactions.tx stored (transaction_of s.transactions.opens n) hand_then k) (sym (pick_same n task (at.table.unseen.task n))) is_task))
        slots_stay

    few : CountsFew s after_store stored stored
    few t counted = inl counted

    -- the session's copy then
    pub copy_is : finite.get made.0.sessions n ≡ Some (after_mark at.stands.copy hit.id)
    copy_is = subst (λ (id : RowId). finite.get made.0.sessions n ≡ Some (after_mark at.stands.copy id)) at.its_id (copy_then (database_at p) made.0 n table at.stands.row.id at.stands.copy at.stands.got does)

    abbrev IsOwnThen : Type 0
    IsOwnThen = (hand : Hand) → hand_then ≡ Some hand → IsOfTransaction (transaction_of s.transactions.opens n) (Some (after_mark at.stands.copy hit.id)) hand

    leads : (at_then : Option HandAt) → HandShows hand_then at_then (p.accounts n) → IsOwnThen → LeadsTo s after_store p n at_then (p.accounts n)
    leads at_then shows_then own_then = its_leads s after_store n marking hit o p shown at (λ id. Marked) made fits.look entries at_then (record {
      hand = subst (λ (h : Option Hand). HandShows h at_then (p.accounts n)) (sym has_hand.own) shows_then;
      own = λ hand there. subst (λ (copy : Option OpenTransaction). IsOfTransaction (transaction_of s.transactions.opens n) copy hand) (sym copy_is) (own_then hand (sym has_hand.own ∙ there));
      order = λ index below order. subst (IsIndexInOrder s.layout.sizes.index_blocks)
          (λ i block. sym (others.pages tells (record { relation = index_relation s.layout index; block = block }) (apart_from_heap s.layout index table fits.table)) i) order;
    }) (mark_stays_within s after_store n table o hit.spot at.row opened refl marks_row)

    abbrev pub counts : ℕ → Bool
    counts = counts_of s.transactions stored

    abbrev pub place_then : Option HandAt → Place
    place_then at_then = place_after p n table at_then v (p.accounts n) counts j.entries

    pub shown_then : (at_then : Option HandAt) → HandShows hand_then at_then (p.accounts n) → IsInTable → IsTaskThen → IsOwnThen → IsNoInsert hand_then → IsPlaceOf after_store (place_then at_then)
    shown_then at_then shows_then is_there is_task own_then no_insert =
        table_step_is_shown s after_store p n table at_then v (p.accounts n) shown leaves (in_table is_there) few (leads at_then shows_then own_then) (own_table is_task)
        (record { queue = refl; dropped = refl; told = refl; hand = subst IsNoInsert (sym has_hand.own) no_insert })

  -- ---- one more is left

  one_later : marking.next + 1 ≡ suc marking.next
  one_later = omega arith

  left_later : drop (marking.next + 1) marking.hits.items ≡ drop (suc marking.next) marking.hits.items
  left_later = ap (λ (k : ℕ). drop k marking.hits.items) one_later

  module _ (names : List (List ℕ)) (hands_ : List (Option Hand)) (is : hand_in hands_ n ≡ Some (hands.Marks marking)) (tells : Tells told old.pages) (p : Place) (shown : IsPlaceOf (shown_of (store_of old names hands_)) p) where
    module _ (h : Hit) (hs : List Hit) (one_more : drop (suc marking.next) marking.hits.items ≡ h ∷ hs) where
      abbrev hand_then : Option Hand
      hand_then = Some (hands.Marks marking_then)

      abbrev there : MarksAt (shown_of (store_of old names hands_)) p n marking hit o shown
      there = at hand_then names hands_ is tells p shown

      abbrev course_now : Course
      course_now = course_then hand_then names hands_ is tells p shown

      abbrev at_then : HandAt
      at_then = record { statement = statements.Delete marking.query; answers = course_now.answers }

      answers_then : course_now.answers ≡ Found there.stands.rows ∷ replicate (marking.next + 1) Marked
      answers_then = answers_are p n marking.query there.answers (is_first marking.look) marking.next there.stands _ (does hand_then names hands_ is tells p shown)
          ∙ ap (λ (k : ℕ). Found there.stands.rows ∷ replicate k Marked) (sym one_later)

      shows_then : HandShows hand_then (Some at_then) (p.accounts n)
      shows_then = (at_then, refl, refl, (there.stands.rows, there.rows_ids, answers_then), there.account)

      in_its_table : (other : ℕ) → table_in old.pages.layout hand_then ≡ Some other → other ≡ marking.query.table
      in_its_table other is = sym (same_Some marking.query.table other is)

      abbrev now_blocks : List (List Slot)
      now_blocks = with_slot there.table.blocks hit.spot (Some (marked there.row o.t))

      abbrev StandsStill : List (List Slot) → Hit → Type 0
      StandsStill blocks h = (row : StoredRow) × (slot_at blocks h.spot ≡ Some row) × (row.id ≡ h.id) × IsTrue (there.marking_at.scan.sees h.spot.block h.spot.slot)

      stays : RowsStay there.table.blocks now_blocks
      stays = (marked_slot hit.spot there.row o.t there.table.blocks now_blocks there.there (slots tells there.table.blocks there.table.has there.row there.there)).rows

      stands_still : (h : Hit) → StandsStill there.table.blocks h → StandsStill now_blocks h
      stands_still h stood = let row = stays h.spot stood.0 stood.1 in (row.0, row.1, row.2 ∙ stood.2, stood.3)

      stand_then : All (StandsStill now_blocks) (hits_left marking_then)
      stand_then = subst (All (StandsStill now_blocks)) (sym left_later)
          (All-weaker (StandsStill there.table.blocks) (StandsStill now_blocks) stands_still (drop (suc marking.next) marking.hits.items)
          (All-tail (StandsStill there.table.blocks) hit (drop (suc marking.next) marking.hits.items)
          (subst (All (StandsStill there.table.blocks)) (hits_from marking.hits.items marking.next hit next) there.marking_at.stand)))

      abbrev task_now : Task
      task_now = left_at there.stands.scan (map (λ (r : Row). r.id) there.stands.more)

      task_is : task_now ≡ Marks there.marking_at.scan (ids_of (hits_left marking_then))
      task_is = ap (left_at there.stands.scan) there.others ∙ ap (λ (l : List Hit). left_at there.stands.scan (ids_of l)) one_more ∙ (λ i. Marks (there.scan_is i) (ids_of (sym one_more i)))
          ∙ ap (λ (l : List Hit). Marks there.marking_at.scan (ids_of l)) (sym left_later)

      marks_then : IsMarkingAt old.transactions.tx.first shown.database.stored o now_blocks marking_then task_now
      marks_then = record {
        scan = there.marking_at.scan;
        task_is = task_is;
        stand = stand_then;
        standing = λ x sees. still_standing there.table.blocks now_blocks stays x (there.marking_at.standing x sees);
        saw = saw_rows_stay old.pages.layout old.pages.pages old.transactions (database_at p) shown.database.stored o there.marking_at.scan.sees there.table.blocks now_blocks shown.database shown.database.has
            (marked_goes_on old.transactions n o opened there.marking_at.scan.sees there.table.blocks now_blocks hit.spot there.row there.there (slots tells there.table.blocks there.table.has there.row there.there))
            there.marking_at.saw;
      }

      marks_by : IsMarkingBy old.transactions.tx shown.database.stored (transaction_of old.transactions.opens n) now_blocks marking_then task_now
      marks_by = subst (λ (x : Option Open). IsMarkingBy old.transactions.tx shown.database.stored x now_blocks marking_then task_now) (sym opened) marks_then

      own_then : (hand : Hand) → hand_then ≡ Some hand → IsOfTransaction (transaction_of old.transactions.opens n) (Some (after_mark there.stands.copy hit.id)) hand
      own_then hand is = subst (IsOfTransaction (transaction_of old.transactions.opens n) (Some (after_mark there.stands.copy hit.id))) (same_Some (hands.Marks marking_then) hand is)
          (subst (λ (l : List Hit). AreInCopy (after_mark there.stands.copy hit.id) (ids_of l)) (sym left_later) there.left_then)

      pub shown_moved : IsPlaceOf (shown_of (store_of new names (with_hand hands_ n hand_then))) (place_then hand_then names hands_ is tells p shown (Some at_then))
      shown_moved = shown_then hand_then names hands_ is tells p shown (Some at_then) shows_then in_its_table ((λ same. marks_by), (λ apart. absurd (apart refl))) own_then tt

      pub steps_moved : Steps p n (Moved points.Mark) (place_then hand_then names hands_ is tells p shown (Some at_then))
      steps_moved =
          let next = first_of there.stands.more h.id (ids_of hs) (there.others ∙ ap ids_of one_more) in
          record {
            hand = record { statement = statements.Delete marking.query; answers = there.answers };
            in_hand = there.stands.in_hand;
            steps = subst (λ (l : List Entry). StepsTo p n (record { statement = statements.Delete marking.query; answers = there.answers }) (Moved points.Mark)
                (place_after p n marking.query.table (Some at_then) (v hand_then names hands_ is tells p shown) (p.accounts n) (counts hand_then names hands_ is tells p shown) l)) (sym (longer hand_then names hands_ is tells p shown))
                (goes_on p n marking.query there.answers (is_first marking.look) marking.next there.stands _ (does hand_then names hands_ is tells p shown) next.row next.more
                (v hand_then names hands_ is tells p shown) (counts hand_then names hands_ is tells p shown) next.is (turn hand_then names hands_ is tells p shown)
                (λ rests. let both : Marks there.marking_at.scan (ids_of (hits_left marking_then)) ≡ Resting = sym (task_then n (plain hand_then names hands_ is tells p shown) task_now ∙ task_is) ∙ rests in cc));
            fits = room;
          }

    -- ---- none is left

    module _ (no_more : drop (suc marking.next) marking.hits.items ≡ []) where
      abbrev there_last : MarksAt (shown_of (store_of old names hands_)) p n marking hit o shown
      there_last = at None names hands_ is tells p shown

      none_more : there_last.stands.more ≡ []
      none_more = nil_from_length there_last.stands.more (omega (arith, length-map there_last.stands.more (λ (r : Row). r.id), ap length (there_last.others ∙ ap ids_of no_more)))

      rests_then : left_at there_last.stands.scan (map (λ (r : Row). r.id) there_last.stands.more) ≡ Resting
      rests_then = ap (left_at there_last.stands.scan) (there_last.others ∙ ap ids_of no_more)

      pub shown_ended : IsPlaceOf (shown_of (store_of new names (with_hand hands_ n None))) (place_then None names hands_ is tells p shown None)
      shown_ended = shown_then None names hands_ is tells p shown None refl (λ other there. absurd (none-some other there)) rests_then (λ hand there. absurd (none-some hand there)) tt

      pub steps_ended : Steps p n (Ended (replies.Deleted (marking.next + 1))) (place_then None names hands_ is tells p shown None)
      steps_ended = record {
        hand = record { statement = statements.Delete marking.query; answers = there_last.answers };
        in_hand = there_last.stands.in_hand;
        steps = subst (λ (k : ℕ). StepsTo p n (record { statement = statements.Delete marking.query; answers = there_last.answers }) (Ended (replies.Deleted k)) (place_then None names hands_ is tells p shown None)) (sym one_later)
            (subst (λ (l : List Entry). StepsTo p n (record { statement = statements.Delete marking.query; answers = there_last.answers }) (Ended (replies.Deleted (suc marking.next)))
            (place_after p n marking.query.table None (v None names hands_ is tells p shown) (p.accounts n) (counts None names hands_ is tells p shown) l)) (sym (longer None names hands_ is tells p shown))
            (ends p n marking.query there_last.answers (is_first marking.look) marking.next there_last.stands _ (does None names hands_ is tells p shown)
            (v None names hands_ is tells p shown) (counts None names hands_ is tells p shown) none_more (turn None names hands_ is tells p shown) (task_then n (plain None names hands_ is tells p shown) (left_at there_last.stands.scan (map (λ (r : Row). r.id) there_last.stands.more)) ∙ rests_then)));
        fits = room;
      }

  pub moves : (h : Hit) (hs : List Hit) → drop (suc marking.next) marking.hits.items ≡ h ∷ hs → MakesItsStep told old new n (hands.Marks marking) (stepped.Moved points.Mark (hands.Marks marking_then))
  moves h hs one_more names hands_ is tells before after p shown = (
    place_then (Some (hands.Marks marking_then)) names hands_ is tells p shown (Some (at_then names hands_ is tells p shown h hs one_more)),
    shown_moved names hands_ is tells p shown h hs one_more,
    steps_moved names hands_ is tells p shown h hs one_more,
  )

  pub replies_so : drop (suc marking.next) marking.hits.items ≡ [] → MakesItsStep told old new n (hands.Marks marking) (stepped.Done (replies.Deleted (marking.next + 1)))
  replies_so no_more names hands_ is tells before after p shown =
      (place_then None names hands_ is tells p shown None, shown_ended names hands_ is tells p shown no_more, steps_ended names hands_ is tells p shown no_more)
