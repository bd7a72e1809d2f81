-- a table that a step leaves, and one in which it steps
use Rattle.std.proofs.Common.{◌≡◌, ◌≢◌, inl, inr, ℕ, ◌<◌, Bool, List, [], ◌∷◌, length, Option, None, Some, refl, sym, ap, subst, ◌∙◌, arith}
use Rattle.std.specs.Prelude.{IsTrue, slice_get}
use Rattle.std.proofs.lemmas.Bool.{cases_eq}
use Rattle.std.proofs.lemmas.Option.{none-some, slice_get_within}
use Rattle.store_layout.specs.DiskLayout.{DiskLayout}
use Rattle.page_layout.specs.PageContents.{HasSlots, IsUnstarted, Slot}
use Rattle.page_locks.specs.LockHolders.{LockState}
use Rattle.page_map.specs.PageMap.{PageMap, block_at}
use Rattle.heap_rows.specs.HeapBlocks.{HasBlocks, slots_of}
use Rattle.heap_rows.specs.Heaps.{form_at, relation_of as heap_of}
use Rattle.snapshot_core.specs.declared.statuses.Status.{Status}
use Rattle.snapshot_core.specs.declared.sessions.Open.{Open}
use Rattle.snapshot_core.specs.StoredVersions.{transaction_of}
use Rattle.transactions.specs.CountedRows.{counts as counts_of}
use Rattle.index_contents.specs.IndexContents.{contents, contents_in, relation_of}
use Rattle.coverage.specs.Machines.{ShownTable, Unseen, table_state}
use Rattle.coverage.specs.Table.{Resting, Scans, TableScan, TableState, Task}
use Rattle.coverage.specs.TableCovered.{IsTableKept}
use Rattle.coverage.specs.TableSteps.{TableDone, TableNext, TableStep, Transacts}
use Rattle.coverage.proofs.TableSeen.{table_between_kept, table_run_kept}
use Rattle.script_semantics.specs.IndexTuples.{contents_of, index_at, shape_of}
use Rattle.script_semantics.specs.ShownIndex.{lock_in, tuple_in_place}
use Rattle.script_semantics.specs.ShownRows.{row_in, shown_by}
use Rattle.script_semantics.specs.ShownTable.{indexes_of, shown_at}
use Rattle.script_semantics.proofs.Listed.{is_counted, is_listed}
use Rattle.snapshot_core.specs.Visibility.{is_committed}
use Rattle.bitmap_scan.specs.Finds.{stands_by}
use Rattle.bitmap_scan.specs.SeenRows.{SeesLater}
use Rattle.session_parts.specs.declared.hand.Hand.{Hand}
use Rattle.session_parts.specs.HandsInTables.{IsTaskOf, sight_of, table_in}
use Rattle.session_parts.specs.Leaving.{LacksDeleters, LeavesOthers, LeavesTable, RowsStay, SeeAlike, SeenRowsStay, SeesSlots}
use Rattle.session_parts.specs.PlacesAfter.{recounted}
use Rattle.session_parts.specs.ShowsPlace.{ShowsTable}
use Rattle.session_parts.specs.StoreStates.{ShownStore, hand_in}
use Rattle.session_parts.specs.TableLaws.{AnotherTableStays, CountsFewIn, IsQuiet, OwnTableGoesOn, OwnTableIsPruned, RestsElsewhere, TableIsKept, TableShowsAlike}
use Rattle.session_parts.proofs.Locks.{quiet_ones_lock_none}
use Rattle.session_parts.proofs.Seeing.{ScansWell, SeesStanding, rests_elsewhere, task_elsewhere, task_goes_on}
use Rattle.session_parts.proofs.Slots.{same_slots}

-- an index that a table lists is one of the layout, and of the table
record IsOneOfTable (layout : DiskLayout) (table n : ℕ) : Type 0 where
  below : n < length layout.schema.indexes
  of : (index_at layout n).table ≡ table

listed : (layout : DiskLayout) (table at n : ℕ) → slice_get (indexes_of layout table) at ≡ Some n → IsOneOfTable layout table n
unfolding indexes_of
listed layout table at n there =
    let counted = is_counted table 0 layout.schema.indexes at n there in
    let same : counted.by ≡ n = omega (arith, counted.is) in
    record { below = omega (arith, counted.is, counted.below); of = subst (λ (k : ℕ). (index_at layout k).table ≡ table) same counted.of }

-- the heap's blocks are the same where its pages are
pub same_blocks : (layout : DiskLayout) (pages paged : PageMap) (table : ℕ) (blocks : List (List Slot)) → ((block : ℕ) → block_at paged (heap_of table) block ≡ block_at pages (heap_of table) block)
    → HasBlocks layout pages table blocks → HasBlocks layout paged table blocks
same_blocks layout pages paged table blocks same has = record {
  within = has.within;
  started = λ block below. subst (λ (page : List ℕ). HasSlots (form_at layout table) page (slots_of blocks block)) (sym (same block)) (has.started block below);
  unstarted = λ block behind below. subst IsUnstarted (sym (same block)) (has.unstarted block behind below);
}

-- an index has the same where its pages are
pub same_contents : (layout : DiskLayout) (pages paged : PageMap) (index : ℕ) → ((block : ℕ) → block_at paged (relation_of layout index) block ≡ block_at pages (relation_of layout index) block)
    → contents layout paged index ≡ contents layout pages index
unfolding contents
same_contents layout pages paged index same = λ i. contents_in layout.sizes.index_blocks (λ (block : ℕ). same block i)

-- a table shows the same where what its indexes have, and their locks, are the same
module _ (layout : DiskLayout) (pages paged : PageMap) (locks locked : LockState) (table : ℕ) (blocks : List (List Slot))
    (same : (index : ℕ) → index < length layout.schema.indexes → (index_at layout index).table ≡ table → contents layout paged index ≡ contents layout pages index)
    (held : (index page : ℕ) → index < length layout.schema.indexes → (index_at layout index).table ≡ table → lock_in layout locked index page ≡ lock_in layout locks index page) where
  by_number : (at : ℕ) (o : Option ℕ) → slice_get (indexes_of layout table) at ≡ o → shown_at layout paged locked o ≡ shown_at layout pages locks o
  by_number at None is = refl
  by_number at (Some m) is =
      let one = listed layout table at m is in
      λ j. record {
        contents = contents_of (shape_of layout m);
        pages_per_range = (index_at layout m).pages_per_range;
        autosummarize = (index_at layout m).auto;
        entry = (same m one.below one.of j).entry;
        tuple = tuple_in_place (shape_of layout m) (same m one.below one.of j);
        pages = (same m one.below one.of j).pages;
        lock = λ page. held m page one.below one.of j;
      }

  pub shown_alike : shown_by layout paged locked table blocks ≡ shown_by layout pages locks table blocks
  shown_alike = λ j. record (shown_by layout pages locks table blocks) { index = λ at. by_number at (slice_get (indexes_of layout table) at) refl j }

-- what a scan's session sees stands in a slot, and it sees what it found
scans_well : (s : ShownStore) (stored : List Status) (table m : ℕ) (w : TableState) → (shows : ShowsTable s stored table w) → ScansWell shows.blocks (shows.unseen.task m)
scans_well s stored table m w shows = record { standing = standing; finds = finds }
  where
    task : (scan : TableScan) → shows.unseen.task m ≡ Scans scan → w.task m ≡ Scans scan
    task scan is = ap (λ (x : TableState). x.task m) shows.shown ∙ is

    standing : SeesStanding shows.blocks (shows.unseen.task m)
    standing scan b k is seen none =
        let there = shows.kept.scans m scan (task scan is) b k seen in
        none-some there.0 (sym (ap (row_in table) none) ∙ sym (ap (λ (x : TableState). x.row b k) shows.shown) ∙ there.1)

    finds : (scan : TableScan) (b k : ℕ) → shows.unseen.task m ≡ Scans scan → IsTrue (scan.found b k) → IsTrue (scan.sees b k)
    finds scan b k is found = (shows.kept.finds m scan (task scan is) b k found).2

-- rows that stay do so for all
pub all_rows_stay : (task : Task) (old new : List (List Slot)) → RowsStay old new → SeenRowsStay task old new
all_rows_stay task old new rows = λ spot row seen there. rows spot row there

-- the same layout, said of the new store
abbrev pub at_layout : (new : ShownStore) → DiskLayout → ShownStore
at_layout new layout = record new { layout = layout }

module _ (old new : ShownStore) (stored later : List Status) (n table : ℕ) (w : TableState) (shows : ShowsTable old stored table w) (leaves : LeavesOthers n old new) (now : List (List Slot)) (rows : (m : ℕ) → m ≢ n → SeenRowsStay (shows.unseen.task m) shows.blocks now) where
  -- what each other session sees
  abbrev pub OthersSeeOn : Type 0
  OthersSeeOn = (m : ℕ) (o : Open) → m ≢ n → transaction_of old.transactions.opens m ≡ Some o
      → SeesLater (sight_of old.transactions.tx stored o) (sight_of new.transactions.tx later o) × SeesSlots (sight_of old.transactions.tx stored o) shows.blocks now
      × LacksDeleters (sight_of old.transactions.tx stored o) shows.blocks now

  -- another session's statement is at what it was at
  pub other_task : OthersSeeOn → (m : ℕ) → m ≢ n → IsTaskOf old.layout table now new.transactions.tx later (transaction_of new.transactions.opens m) (hand_in new.hands m) (shows.unseen.task m)
  other_task on m other =
      subst (λ (o : Option Open). IsTaskOf old.layout table now new.transactions.tx later o (hand_in new.hands m) (shows.unseen.task m)) (sym (leaves.opens m other))
      (subst (λ (h : Option Hand). IsTaskOf old.layout table now new.transactions.tx later (transaction_of old.transactions.opens m) h (shows.unseen.task m)) (sym (leaves.hands m other))
      (task_goes_on old.layout table shows.blocks now old.transactions.tx new.transactions.tx stored later (shows.unseen.task m) (rows m other) (scans_well old stored table m w shows)
      (transaction_of old.transactions.opens m) (hand_in old.hands m) (λ o is. on m o other is) (shows.tasks m)))

  -- a task that was elsewhere is nothing
  pub own_rests : table_in old.layout (hand_in old.hands n) ≢ Some table → shows.unseen.task n ≡ Resting
  own_rests apart = task_elsewhere old.layout table shows.blocks old.transactions.tx stored (transaction_of old.transactions.opens n) (hand_in old.hands n) (shows.unseen.task n) apart (shows.tasks n)

module _ (old new : ShownStore) (stored later : List Status) (n table : ℕ) (w : TableState) (shows : ShowsTable old stored table w) (leaves : LeavesOthers n old new)
    (left : LeavesTable n table old new) (alike : SeeAlike n old new stored later) (few : CountsFewIn w (counts_of new.transactions later)) where
  abbrev counts : ℕ → Bool
  counts = counts_of new.transactions later

  abbrev unseen_then : Unseen
  unseen_then = record shows.unseen { counts = counts }

  alike_there : shown_by old.layout new.pages new.locks table shows.blocks ≡ shown_by old.layout old.pages old.locks table shows.blocks
  alike_there = shown_alike old.layout old.pages new.pages old.locks new.locks table shows.blocks left.indexes left.locks

  shown_then : recounted w counts ≡ table_state (shown_by old.layout new.pages new.locks table shows.blocks) unseen_then
  shown_then = ap (λ (x : TableState). recounted x counts) shows.shown ∙ ap (λ (t : ShownTable). table_state t unseen_then) (sym alike_there)

  rests : shows.unseen.task n ≡ Resting
  rests = own_rests old new stored later n table w shows leaves shows.blocks (λ m other. all_rows_stay (shows.unseen.task m) shows.blocks shows.blocks (same_slots shows.blocks).rows) left.was_in

  rests_in_w : w.task n ≡ Resting
  rests_in_w = ap (λ (x : TableState). x.task n) shows.shown ∙ rests

  own_task : IsTaskOf old.layout table shows.blocks new.transactions.tx later (transaction_of new.transactions.opens n) (hand_in new.hands n) (shows.unseen.task n)
  own_task = subst (λ (q : Task). IsTaskOf old.layout table shows.blocks new.transactions.tx later (transaction_of new.transactions.opens n) (hand_in new.hands n) q) (sym rests)
      (rests_elsewhere old.layout table shows.blocks new.transactions.tx later (transaction_of new.transactions.opens n) (hand_in new.hands n) left.is_in)

  tasks_then : (m : ℕ) → IsTaskOf old.layout table shows.blocks new.transactions.tx later (transaction_of new.transactions.opens m) (hand_in new.hands m) (shows.unseen.task m)
  tasks_then m = elim (cases_eq m n) [
    | inl same ↦ subst (λ (k : ℕ). IsTaskOf old.layout table shows.blocks new.transactions.tx later (transaction_of new.transactions.opens k) (hand_in new.hands k) (shows.unseen.task k)) (sym same) own_task
    | inr other ↦ other_task old new stored later n table w shows leaves shows.blocks (λ k away. all_rows_stay (shows.unseen.task k) shows.blocks shows.blocks (same_slots shows.blocks).rows)
        (λ k o away is. (alike k o away is, (same_slots shows.blocks).seen (sight_of old.transactions.tx stored o), (same_slots shows.blocks).lacks (sight_of old.transactions.tx stored o))) m other
  ]

  shown_at_layout : ShowsTable (at_layout new old.layout) later table (recounted w counts)
  shown_at_layout = record {
    blocks = shows.blocks;
    has = same_blocks old.layout old.pages new.pages table shows.blocks left.heap shows.has;
    unseen = unseen_then;
    shown = shown_then;
    lock = shows.lock ∙ sym left.right;
    counts = λ t. refl;
    tasks = tasks_then;
    kept = table_between_kept n w (recounted w counts) shows.kept (Transacts counts rests_in_w few refl);
  }

  pub table_stays : ShowsTable new later table (recounted w counts)
  table_stays = subst (λ (l : DiskLayout). ShowsTable (at_layout new l) later table (recounted w counts)) (sym leaves.layout) shown_at_layout

pub another_table_stays : AnotherTableStays
another_table_stays old new stored later n table w shows leaves left alike few = table_stays old new stored later n table w shows leaves left alike few

pub rests_in_others : RestsElsewhere
rests_in_others s stored blocks n table apart = rests_elsewhere s.layout table blocks s.transactions.tx stored (transaction_of s.transactions.opens n) (hand_in s.hands n) apart

-- one step keeps its table
step_kept : (n : ℕ) (w v : TableState) → IsTableKept w → TableStep n w v → IsTableKept v
step_kept n w v kept step = table_run_kept (n ∷ []) w v kept (TableNext n [] w v v step (TableDone v))

-- a later sight where statuses stay
pub sees_same : (old new : ShownStore) (stored : List Status) (o : Open) → new.transactions.tx.first ≡ old.transactions.tx.first
    → SeesLater (sight_of old.transactions.tx stored o) (sight_of new.transactions.tx stored o)
sees_same old new stored o first = record {
  snapshot = refl;
  own = refl;
  ended = λ t ended. ap (λ (f : ℕ). committed_by f t) first;
}
  where
    committed_by : ℕ → ℕ → Bool
    committed_by f t = is_committed (stands_by f stored t)

pub own_table_is_pruned : OwnTableIsPruned
own_table_is_pruned old new stored n table w v u now shows leaves step shown has lock counts others own slots =
    subst (λ (l : DiskLayout). ShowsTable (at_layout new l) stored table v) (sym leaves.layout) (record {
      blocks = now;
      has = has;
      unseen = u;
      shown = shown;
      lock = lock;
      counts = counts;
      tasks = tasks;
      kept = step_kept n w v shows.kept step;
    })
  where
    tasks : (m : ℕ) → IsTaskOf old.layout table now new.transactions.tx stored (transaction_of new.transactions.opens m) (hand_in new.hands m) (u.task m)
    tasks m = elim (cases_eq m n) [
      | inl same ↦ subst (λ (k : ℕ). IsTaskOf old.layout table now new.transactions.tx stored (transaction_of new.transactions.opens k) (hand_in new.hands k) (u.task k)) (sym same) own
      | inr other ↦ subst (λ (q : Task). IsTaskOf old.layout table now new.transactions.tx stored (transaction_of new.transactions.opens m) (hand_in new.hands m) q) (sym (others m other))
          (other_task old new stored stored n table w shows leaves now slots.rows (λ k o away is. (sees_same old new stored o leaves.first, slots.seen k o away is, slots.lacks k o away is)) m other)
    ]

pub own_table_goes_on : OwnTableGoesOn
own_table_goes_on old new stored n table w v u now shows leaves step shown has lock counts others own slots =
    own_table_is_pruned old new stored n table w v u now shows leaves step shown has lock counts others own
    (record { rows = λ m away. all_rows_stay (shows.unseen.task m) shows.blocks now slots.rows; seen = slots.seen; lacks = slots.lacks })

pub table_is_kept : TableIsKept
table_is_kept s stored n table w task shows at = record {
  blocks = shows.blocks;
  has = shows.has;
  unseen = shows.unseen;
  at = sym (ap (λ (x : TableState). x.task n) shows.shown) ∙ at;
  kept = subst IsTableKept shows.shown shows.kept;
}

pub table_shows_alike : TableShowsAlike
table_shows_alike n table old new blocks pages held = shown_alike old.layout old.pages new.pages old.locks new.locks table blocks
    (λ index below of. same_contents old.layout old.pages new.pages index (λ block. pages (record { relation = relation_of old.layout index; block = block })))
    (λ index page below of. held index page)

-- a session whose statement is quiet in a table locks no page of an index of it
pub unlisted : (layout : DiskLayout) (i index : ℕ) → index < length layout.schema.indexes → (index_at layout index).table ≡ i → (at : ℕ) × (slice_get (indexes_of layout i) at ≡ Some index)
unfolding indexes_of
unlisted layout i index below of =
    let found = is_listed i 0 layout.schema.indexes index below of in
    (found.0, found.1 ∙ ap Some (omega arith))

pub locks_none : (s : ShownStore) (stored : List Status) (n i : ℕ) (w : TableState) → ShowsTable s stored i w → IsQuiet (w.task n)
    → (index page : ℕ) → index < length s.layout.schema.indexes → (index_at s.layout index).table ≡ i → lock_in s.layout s.locks index page ≢ Some n
locks_none s stored n i w shows quiet index page below of locked =
    let listed = unlisted s.layout i index below of in
    let inside : listed.0 < w.indexes =
    subst (λ (x : TableState). listed.0 < x.indexes) (sym shows.shown) (slice_get_within (indexes_of s.layout i) listed.0 index listed.1) in
    let held : (w.index listed.0).lock page ≡ Some n =
    ap (λ (x : TableState). (x.index listed.0).lock page) shows.shown ∙ ap (λ (o : Option ℕ). (shown_at s.layout s.pages s.locks o).lock page) listed.1 ∙ locked in
    quiet_ones_lock_none w n listed.0 page shows.kept quiet inside held
