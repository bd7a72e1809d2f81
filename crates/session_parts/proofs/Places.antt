-- the place that a store shows behind a step
use Rattle.std.proofs.Common.{◌≡◌, ◌≢◌, ◌⊎◌, inl, inr, ℕ, ◌<◌, Bool, List, length, Option, None, Some, refl, sym, ap, subst, ◌∙◌, arith}
use Rattle.std.specs.Prelude.{IsTrue}
use Rattle.std.specs.FinMap as finite
use Rattle.std.proofs.lemmas.Bool.{cases_eq}
use Rattle.std.proofs.lemmas.Option.{none-some, same_Some}
use Rattle.block_model.specs.declared.request.Entry.{Entry}
use Rattle.block_model.specs.declared.row.Row.{Row}
use Rattle.block_model.specs.DatabaseState.{OpenTransaction}
use Rattle.block_model.specs.SerialRun.{serial_run}
use Rattle.store_layout.specs.DiskLayout.{DiskLayout}
use Rattle.page_layout.specs.PageContents.{Slot}
use Rattle.page_locks.specs.LockChanges.{page_of}
use Rattle.page_locks.specs.LockHolders.{LockState}
use Rattle.page_locks.specs.RightHolders.{right_of}
use Rattle.heap_rows.specs.HeapBlocks.{HasBlocks}
use Rattle.heap_rows.specs.Heaps.{relation_of as heap_of}
use Rattle.heap_rows.specs.RowPlaces.{slot_at}
use Rattle.snapshot_core.specs.declared.statuses.Status.{Status}
use Rattle.snapshot_core.specs.declared.sessions.Open.{Open}
use Rattle.snapshot_core.specs.StoredVersions.{transaction_of}
use Rattle.tx_table.specs.Statuses.{HasStatuses, status_relation}
use Rattle.tx_table.proofs.Pages.{statuses_one}
use Rattle.transactions.specs.CountedRows.{counts as counts_of}
use Rattle.transactions.specs.TransactionsState.{TransactionsState}
use Rattle.transactions.specs.ShowsDatabase.{ShowsDatabase}
use Rattle.index_contents.specs.IndexContents.{relation_of}
use Rattle.reply_texts.specs.declared.dropped.Dropped.{Dropped}
use Rattle.coverage.specs.Accounts.{Account, Asked}
use Rattle.coverage.specs.Machines.{ShownTable, table_state}
use Rattle.coverage.specs.Table.{Resting, TableState}
use Rattle.script_semantics.specs.IndexTuples.{index_at}
use Rattle.script_semantics.specs.ShownIndex.{lock_in}
use Rattle.script_semantics.specs.ShownRows.{row_in}
use Rattle.brin_insert.specs.AskedFor.{AreRequestsOf}
use Rattle.script_semantics.specs.Names.{dropped_of}
use Rattle.script_semantics.specs.Place.{Hand as HandAt, Place, database_at}
use Rattle.session_parts.specs.declared.hand.Hand.{Hand}
use Rattle.session_parts.specs.Hands.{HandShows}
use Rattle.session_parts.specs.HandsAsk.{HandAsked}
use Rattle.session_parts.specs.HandsInTables.{IsTaskOf, table_in}
use Rattle.session_parts.specs.Leaving.{AsksForNone, ChangesLocks, CountsFew, GivesLocks, HasAsked, HasNoRows, IsRelationOf, LeadsTo, LeavesOthers, LeavesTable, LocksIn, SameLocks, SeeAlike, StepsAtOnce, StepsInTable}
use Rattle.session_parts.specs.PlaceLaws.{AskingStepIsShown, PlaceStaysShown, StaysShown, StepAtOnceIsShown, TableStepIsShown}
use Rattle.session_parts.specs.PlacesAfter.{place_asking, place_at_once}
use Rattle.session_parts.specs.ShowsPlace.{IsOfTransaction, IsPlaceOf, ShowsTable}
use Rattle.session_parts.specs.StoreStates.{ShownStore, dropped_in, hand_in}
use Rattle.session_parts.specs.TableLaws.{CountsFewIn, IsQuiet}
use Rattle.session_parts.proofs.Asks.{asked_then, asks_none, told_then}
use Rattle.session_parts.proofs.Fronts.{statuses_stay}
use Rattle.session_parts.proofs.Locks.{gives_none}
use Rattle.session_parts.proofs.Steps.{other_after, table_after, updated_apart, updated_here}
use Rattle.session_parts.proofs.Tables.{all_rows_stay, at_layout, locks_none, own_rests, same_blocks, same_contents, sees_same, shown_alike, table_stays}
use Rattle.session_parts.proofs.Slots.{same_slots}

-- ---- rows that count in a table

absent : (s : ShownStore) (i t : ℕ) (blocks : List (List Slot)) → HasBlocks s.layout s.pages i blocks → i < length s.layout.schema.tables → HasNoRows s t → (b k : ℕ) (r : Row)
    → row_in i (slot_at blocks (record { block = b; slot = k })) ≡ Some r → r.id.t ≢ t
absent s i t blocks has below none b k r is = by_slot (slot_at blocks (record { block = b; slot = k })) refl is
  where
    by_slot : (slot : Slot) → slot_at blocks (record { block = b; slot = k }) ≡ slot → row_in i slot ≡ Some r → r.id.t ≢ t
    by_slot None there is = absurd (none-some r is)
    by_slot (Some row) there is = λ (own : r.id.t ≡ t). none i (record { block = b; slot = k }) row below (record { blocks = blocks; has = has; there = there })
        (ap (λ (x : Row). x.id.t) (same_Some (record { table = i; id = row.id; values = row.values }) r is) ∙ own)

counts_in : (old : ShownStore) (stored : List Status) (counts : ℕ → Bool) (i : ℕ) (w : TableState) → i < length old.layout.schema.tables → ShowsTable old stored i w
    → ((t : ℕ) → IsTrue (counts t) → IsTrue (counts_of old.transactions stored t) ⊎ HasNoRows old t) → CountsFewIn w counts
counts_in old stored counts i w below shows few = λ t counted. elim (few t counted) [
  | inl was ↦ inl (subst IsTrue (sym (ap (λ (x : TableState). x.counts t) shows.shown ∙ shows.counts t)) was)
  | inr none ↦ inr (λ b k r is. absent old i t shows.blocks shows.has below none b k r (sym (ap (λ (x : TableState). x.row b k) shows.shown) ∙ is))
]

-- ---- relations of different tables

-- another table's heap is none of this table's relations
module _ (layout : DiskLayout) (table i : ℕ) (apart : i ≢ table) where
  heap_apart : i < length layout.schema.tables → IsRelationOf layout table (heap_of i) → ⊥
  heap_apart below of = elim of [
    | inl is ↦ apart (omega (arith, is))
    | inr other ↦ absurd (omega (arith, below, other.3))
  ]

  index_apart : table < length layout.schema.tables → (index : ℕ) → (index_at layout index).table ≡ i → IsRelationOf layout table (relation_of layout index) → ⊥
  index_apart below index of is_of = elim is_of [
    | inl is ↦ absurd (omega (arith, below, is))
    | inr other ↦
        let same : index ≡ other.0 = omega (arith, other.3) in
        apart (sym of ∙ ap (λ (m : ℕ). (index_at layout m).table) same ∙ other.2)
  ]

statuses_apart : (layout : DiskLayout) (table : ℕ) → IsRelationOf layout table status_relation → ⊥
statuses_apart layout table of = elim of [
  | inl is ↦ absurd (omega (arith, is))
  | inr other ↦ absurd (omega (arith, other.3))
]

-- ---- how statements in hand stand to their transactions

pub own_then : (old new : ShownStore) (p : Place) (n : ℕ) → IsPlaceOf old p → LeavesOthers n old new → (at : Option HandAt) (account : Account) → LeadsTo old new p n at account
    → (m : ℕ) (hand : Hand) → hand_in new.hands m ≡ Some hand
    → IsOfTransaction (transaction_of new.transactions.opens m) (finite.get (serial_run p.opening new.entries).sessions m) hand
own_then old new p n shown leaves at account leads m hand is = elim (cases_eq m n) [
  | inl same ↦ subst (λ (k : ℕ). IsOfTransaction (transaction_of new.transactions.opens k) (finite.get (serial_run p.opening new.entries).sessions k) hand) (sym same)
      (leads.own hand (ap (hand_in new.hands) (sym same) ∙ is))
  | inr apart ↦ subst (λ (o : Option Open). IsOfTransaction o (finite.get (serial_run p.opening new.entries).sessions m) hand) (sym (leaves.opens m apart))
      (subst (λ (x : Option OpenTransaction). IsOfTransaction (transaction_of old.transactions.opens m) x hand) (sym (leads.copies m apart))
      (shown.own m hand (sym (leaves.hands m apart) ∙ is)))
]

-- ---- a step in one table

module _ (old new : ShownStore) (p : Place) (n table : ℕ) (shown : IsPlaceOf old p) (leaves : LeavesOthers n old new) (steps : StepsInTable n table old new) where
  abbrev stored : List Status
  stored = shown.database.stored

  module _ (i : ℕ) (apart : i ≢ table) (below : i < length old.layout.schema.tables) where
    abbrev there : ShowsTable old stored i (p.tables i)
    there = shown.tables i below

    was_elsewhere : table_in old.layout (hand_in old.hands n) ≢ Some i
    was_elsewhere is = apart (steps.was_in i is)

    rests_there : (p.tables i).task n ≡ Resting
    rests_there = ap (λ (x : TableState). x.task n) there.shown
        ∙ own_rests old new stored stored n i (p.tables i) there leaves there.blocks (λ m away. all_rows_stay (there.unseen.task m) there.blocks there.blocks (same_slots there.blocks).rows) was_elsewhere

    quiet_there : IsQuiet ((p.tables i).task n)
    quiet_there = subst IsQuiet (sym rests_there) tt

    locks_stay : ChangesLocks n table old new → (index page : ℕ) → index < length old.layout.schema.indexes → (index_at old.layout index).table ≡ i
        → lock_in old.layout new.locks index page ≡ lock_in old.layout old.locks index page
    locks_stay (SameLocks same) index page inside of = ap (λ (l : LockState). lock_in old.layout l index page) same
    locks_stay (LocksIn relation is changes) index page inside of =
        changes.elsewhere (page_of (relation_of old.layout index) page)
        (λ (same : relation_of old.layout index ≡ relation). index_apart old.layout table i apart steps.below index of (subst (IsRelationOf old.layout table) (sym same) is))
        (locks_none old stored n i (p.tables i) there quiet_there index page inside of)
    locks_stay (GivesLocks gives) index page inside of = gives_none old.layout old.locks new.locks n index page gives (locks_none old stored n i (p.tables i) there quiet_there index page inside of)

    left : LeavesTable n i old new
    left = record {
      heap = λ block. steps.pages (record { relation = heap_of i; block = block }) (heap_apart old.layout table i apart below);
      indexes = λ index inside of. same_contents old.layout old.pages new.pages index
          (λ block. steps.pages (record { relation = relation_of old.layout index; block = block }) (index_apart old.layout table i apart steps.below index of));
      locks = locks_stay steps.locks;
      right = steps.rights i apart;
      was_in = was_elsewhere;
      is_in = λ is. apart (steps.is_in i is);
    }

  module _ (few : CountsFew old new stored stored) (at : Option HandAt) (account : Account) (queue : List Asked) (leads : LeadsTo old new p n at account) (v : TableState) (own : ShowsTable new stored table v)
      (asked : HasAsked n old new account queue) where
    abbrev counts : ℕ → Bool
    counts = counts_of new.transactions stored

    abbrev led : Place
    led = place_asking p n table at v account counts new.entries queue

    -- the statuses that the pages show then are those that they showed
    same_stored : leads.database.stored ≡ stored
    same_stored = statuses_one old.layout new.pages leads.database.stored stored leads.database.has
        (statuses_stay old.layout old.pages new.pages stored (λ block. steps.pages (record { relation = status_relation; block = block }) (statuses_apart old.layout table)) shown.database.has)

    table_then : (i : ℕ) → i < length old.layout.schema.tables → ShowsTable (at_layout new old.layout) stored i (led.tables i)
    table_then i below = subst (λ (l : DiskLayout). ShowsTable (at_layout new l) stored i (led.tables i)) leaves.layout (elim (cases_eq i table) [
      | inl is ↦ subst (λ (k : ℕ). ShowsTable new stored k (led.tables k)) (sym is)
          (subst (λ (x : TableState). ShowsTable new stored table x) (sym (table_after p n table at v account counts new.entries)) own)
      | inr apart ↦ subst (λ (x : TableState). ShowsTable new stored i x) (sym (other_after p n table at v account counts new.entries i apart))
          (table_stays old new stored stored n i (p.tables i) (shown.tables i below) leaves (left i apart below) (λ m o other is. sees_same old new stored o leaves.first)
          (counts_in old stored counts i (p.tables i) below (shown.tables i below) few))
    ])

    hand_then : (m : ℕ) → HandShows (hand_in new.hands m) (led.hands m) (led.accounts m)
    hand_then m = elim (cases_eq m n) [
      | inl is ↦ subst (λ (k : ℕ). HandShows (hand_in new.hands k) (led.hands k) (led.accounts k)) (sym is)
          (subst (λ (h : Option HandAt). HandShows (hand_in new.hands n) h (led.accounts n)) (sym (updated_here p.hands n at))
          (subst (λ (a : Account). HandShows (hand_in new.hands n) at a) (sym (updated_here p.accounts n account)) leads.hand))
      | inr apart ↦ subst (λ (h : Option Hand). HandShows h (led.hands m) (led.accounts m)) (sym (leaves.hands m apart))
          (subst (λ (h : Option HandAt). HandShows (hand_in old.hands m) h (led.accounts m)) (sym (updated_apart p.hands n at m apart))
          (subst (λ (a : Account). HandShows (hand_in old.hands m) (p.hands m) a) (sym (updated_apart p.accounts n account m apart)) (shown.hands m)))
    ]

    place_then : IsPlaceOf (at_layout new old.layout) led
    place_then = record {
      layout = shown.layout;
      names = shown.names ∙ sym leaves.names;
      queue = asked.requests;
      told = told_then old new p n account queue shown leaves asked;
      asked = asked_then old new p n account queue shown leaves asked;
      journal = refl;
      legal = leads.legal;
      database = leads.database;
      fronts = leads.fronts leads.database.stored led leads.database.has refl refl;
      hands = hand_then;
      own = own_then old new p n shown leaves at account leads;
      tables = λ i below. subst (λ (l : List Status). ShowsTable (at_layout new old.layout) l i (led.tables i)) (sym same_stored) (table_then i below);
      order = λ index below. leads.order index below (shown.order index below);
    }

pub asking_step_is_shown : AskingStepIsShown
asking_step_is_shown old new p n table at v account queue shown leaves steps few leads own asked =
    subst (λ (l : DiskLayout). IsPlaceOf (at_layout new l) (place_asking p n table at v account (counts_of new.transactions shown.database.stored) new.entries queue)) (sym leaves.layout)
    (place_then old new p n table shown leaves steps few at account queue leads v own asked)

pub table_step_is_shown : TableStepIsShown
table_step_is_shown old new p n table at v account shown leaves steps few leads own none =
    asking_step_is_shown old new p n table at v account p.queue shown leaves steps few leads own (asks_none old new p n account shown none)

-- ---- a step in no table

module _ (old new : ShownStore) (p : Place) (n : ℕ) (later : List Status) (shown : IsPlaceOf old p) (leaves : LeavesOthers n old new) (steps : StepsAtOnce n old new)
    (has : HasStatuses old.layout new.pages later) (alike : SeeAlike n old new shown.database.stored later) (few : CountsFew old new shown.database.stored later)
    (done : hand_in new.hands n ≡ None) (leads : LeadsTo old new p n None (p.accounts n)) (none : AsksForNone n old new p (p.accounts n)) where
  abbrev counts_then : ℕ → Bool
  counts_then = counts_of new.transactions later

  abbrev at_once : Place
  at_once = place_at_once p n counts_then new.entries

  left_alone : (i : ℕ) → i < length old.layout.schema.tables → LeavesTable n i old new
  left_alone i below = record {
    heap = λ block. steps.pages (record { relation = heap_of i; block = block }) (λ is. absurd (omega (arith, is)));
    indexes = λ index inside of. same_contents old.layout old.pages new.pages index
        (λ block. steps.pages (record { relation = relation_of old.layout index; block = block }) (λ is. absurd (omega (arith, is))));
    locks = λ index page inside of. ap (λ (l : LockState). lock_in old.layout l index page) steps.locks;
    right = ap (λ (r : List (Option ℕ)). right_of r i) steps.rights;
    was_in = steps.was_in i;
    is_in = steps.is_in i;
  }

  same_later : leads.database.stored ≡ later
  same_later = statuses_one old.layout new.pages leads.database.stored later leads.database.has has

  table_at_once : (i : ℕ) → i < length old.layout.schema.tables → ShowsTable (at_layout new old.layout) later i (at_once.tables i)
  table_at_once i below = subst (λ (l : DiskLayout). ShowsTable (at_layout new l) later i (at_once.tables i)) leaves.layout
      (table_stays old new shown.database.stored later n i (p.tables i) (shown.tables i below) leaves (left_alone i below) alike
      (counts_in old shown.database.stored counts_then i (p.tables i) below (shown.tables i below) few))

  hand_at_once : (m : ℕ) → HandShows (hand_in new.hands m) (at_once.hands m) (at_once.accounts m)
  hand_at_once m = elim (cases_eq m n) [
    | inl is ↦ subst (λ (k : ℕ). HandShows (hand_in new.hands k) (at_once.hands k) (at_once.accounts k)) (sym is)
        (subst (λ (h : Option HandAt). HandShows (hand_in new.hands n) h (p.accounts n)) (sym (updated_here p.hands n None)) leads.hand)
    | inr apart ↦ subst (λ (h : Option Hand). HandShows h (at_once.hands m) (at_once.accounts m)) (sym (leaves.hands m apart))
        (subst (λ (h : Option HandAt). HandShows (hand_in old.hands m) h (p.accounts m)) (sym (updated_apart p.hands n None m apart)) (shown.hands m))
  ]

  abbrev asked : HasAsked n old new (p.accounts n) p.queue
  asked = asks_none old new p n (p.accounts n) shown none

  told_at_once : (m : ℕ) → dropped_in new.dropped m ≡ dropped_of old.layout (p.accounts m).dropped
  told_at_once m = ap (λ (l : List (List Dropped)). dropped_in l m) none.dropped ∙ shown.told m

  asked_at_once : (m : ℕ) → HandAsked old.layout (hand_in new.hands m) (p.accounts m).dropped
  asked_at_once m = elim (cases_eq m n) [
    | inl is ↦ subst (λ (k : ℕ). HandAsked old.layout (hand_in new.hands k) (p.accounts k).dropped) (sym is) asked.hand
    | inr apart ↦ subst (λ (h : Option Hand). HandAsked old.layout h (p.accounts m).dropped) (sym (leaves.hands m apart)) (shown.asked m)
  ]

  place_at_once_then : IsPlaceOf (at_layout new old.layout) at_once
  place_at_once_then = record {
    layout = shown.layout;
    names = shown.names ∙ sym leaves.names;
    queue = asked.requests;
    told = told_at_once;
    asked = asked_at_once;
    journal = refl;
    legal = leads.legal;
    database = leads.database;
    fronts = leads.fronts leads.database.stored at_once leads.database.has refl refl;
    hands = hand_at_once;
    own = own_then old new p n shown leaves None (p.accounts n) leads;
    tables = λ i below. subst (λ (l : List Status). ShowsTable (at_layout new old.layout) l i (at_once.tables i)) (sym same_later) (table_at_once i below);
    order = λ index below. leads.order index below (shown.order index below);
  }

pub step_at_once_is_shown : StepAtOnceIsShown
step_at_once_is_shown old new p n later shown leaves steps has alike few done leads none =
    subst (λ (l : DiskLayout). IsPlaceOf (at_layout new l) (place_at_once p n (counts_of new.transactions later) new.entries)) (sym leaves.layout)
    (place_at_once_then old new p n later shown leaves steps has alike few done leads none)

-- ---- where nothing is done

module _ (old new : ShownStore) (p : Place) (n : ℕ) (shown : IsPlaceOf old p) (stays : StaysShown n old new p) (same_entries : p.journal ≡ new.entries) where
  abbrev others : LeavesOthers n old new
  others = stays.others

  abbrev before : List Status
  before = shown.database.stored

  database_same : ShowsDatabase old.layout new.pages new.transactions (database_at p)
  database_same = subst (λ (e : List Entry). ShowsDatabase old.layout new.pages new.transactions (serial_run p.opening e)) (sym same_entries) stays.hand.database

  stored_same : (d : ShowsDatabase old.layout new.pages new.transactions (database_at p)) → d.stored ≡ before
  stored_same d = statuses_one old.layout new.pages d.stored before d.has
      (statuses_stay old.layout old.pages new.pages before (λ block. stays.pages (record { relation = status_relation; block = block })) shown.database.has)

  task_same : (i : ℕ) (below : i < length old.layout.schema.tables) (m : ℕ)
      → IsTaskOf old.layout i (shown.tables i below).blocks old.transactions.tx before (transaction_of old.transactions.opens m) (hand_in new.hands m) ((shown.tables i below).unseen.task m)
  task_same i below m = elim (cases_eq m n) [
    | inl is ↦ subst (λ (k : ℕ). IsTaskOf old.layout i (shown.tables i below).blocks old.transactions.tx before (transaction_of old.transactions.opens k) (hand_in new.hands k) ((shown.tables i below).unseen.task k)) (sym is)
        (stays.tasks i before (shown.tables i below).blocks ((shown.tables i below).unseen.task n) ((shown.tables i below).tasks n))
    | inr apart ↦ subst (λ (h : Option Hand). IsTaskOf old.layout i (shown.tables i below).blocks old.transactions.tx before (transaction_of old.transactions.opens m) h ((shown.tables i below).unseen.task m))
        (sym (others.hands m apart)) ((shown.tables i below).tasks m)
  ]

  table_same : (i : ℕ) → i < length old.layout.schema.tables → ShowsTable (at_layout new old.layout) before i (p.tables i)
  table_same i below =
      let there = shown.tables i below in
      record {
        blocks = there.blocks;
        has = same_blocks old.layout old.pages new.pages i there.blocks (λ block. stays.pages (record { relation = heap_of i; block = block })) there.has;
        unseen = there.unseen;
        shown = there.shown ∙ ap (λ (t : ShownTable). table_state t there.unseen) (sym (shown_alike old.layout old.pages new.pages old.locks new.locks i there.blocks
            (λ index inside of. same_contents old.layout old.pages new.pages index (λ block. stays.pages (record { relation = relation_of old.layout index; block = block })))
            (λ index page inside of. ap (λ (l : LockState). lock_in old.layout l index page) stays.locks)));
        lock = there.lock ∙ ap (λ (r : List (Option ℕ)). right_of r i) (sym stays.rights);
        counts = λ t. there.counts t ∙ ap (λ (x : TransactionsState). counts_of x before t) (sym stays.transactions);
        tasks = λ m. subst (λ (x : TransactionsState). IsTaskOf old.layout i there.blocks x.tx before (transaction_of x.opens m) (hand_in new.hands m) (there.unseen.task m)) (sym stays.transactions) (task_same i below m);
        kept = there.kept;
      }

  hand_same : (m : ℕ) → HandShows (hand_in new.hands m) (p.hands m) (p.accounts m)
  hand_same m = elim (cases_eq m n) [
    | inl is ↦ subst (λ (k : ℕ). HandShows (hand_in new.hands k) (p.hands k) (p.accounts k)) (sym is) stays.hand.hand
    | inr apart ↦ subst (λ (h : Option Hand). HandShows h (p.hands m) (p.accounts m)) (sym (others.hands m apart)) (shown.hands m)
  ]

  asked_same : (m : ℕ) → HandAsked old.layout (hand_in new.hands m) (p.accounts m).dropped
  asked_same m = elim (cases_eq m n) [
    | inl is ↦ subst (λ (k : ℕ). HandAsked old.layout (hand_in new.hands k) (p.accounts k).dropped) (sym is) stays.asked
    | inr apart ↦ subst (λ (h : Option Hand). HandAsked old.layout h (p.accounts m).dropped) (sym (others.hands m apart)) (shown.asked m)
  ]

  place_same : IsPlaceOf (at_layout new old.layout) p
  place_same = record {
    layout = shown.layout;
    names = shown.names ∙ sym others.names;
    queue = subst (λ (l : List (ℕ × ℕ)). AreRequestsOf old.layout l p.queue) (sym stays.queue) shown.queue;
    told = λ m. ap (λ (l : List (List Dropped)). dropped_in l m) stays.dropped ∙ shown.told m;
    asked = asked_same;
    journal = same_entries;
    legal = shown.legal;
    database = database_same;
    fronts = stays.hand.fronts database_same.stored p database_same.has refl same_entries;
    hands = hand_same;
    own = λ m hand is. subst (λ (e : List Entry). IsOfTransaction (transaction_of new.transactions.opens m) (finite.get (serial_run p.opening e).sessions m) hand) (sym same_entries)
        (own_then old new p n shown others (p.hands n) (p.accounts n) stays.hand m hand is);
    tables = λ i below. subst (λ (l : List Status). ShowsTable (at_layout new old.layout) l i (p.tables i)) (sym (stored_same database_same)) (table_same i below);
    order = λ index below. stays.hand.order index below (shown.order index below);
  }

pub place_stays_shown : PlaceStaysShown
place_stays_shown old new p n shown stays =
    subst (λ (l : DiskLayout). IsPlaceOf (at_layout new l) p) (sym stays.others.layout) (place_same old new p n shown stays (shown.journal ∙ sym stays.entries))
