-- That the pages of a store which shows a place, and those that a commit passes, are those of a store with a table.
use Rattle.std.proofs.Common.{◌≡◌, ◌≢◌, inl, inr, ℕ, ◌+◌, ◌<◌, Bool, false, List, length, Some, refl, sym, ap, subst, ◌∙◌, arith}
use Rattle.std.specs.Prelude.{IsTrue}
use Rattle.std.specs.FinMap as finite
use Rattle.std.proofs.lemmas.Option.{same_Some}
use Rattle.block_model.specs.declared.place.Place.{Place as PagePlace}
use Rattle.block_model.specs.declared.place.Spot.{Spot}
use Rattle.block_model.specs.declared.row.Row.{Row}
use Rattle.block_model.specs.DatabaseState.{DatabaseState}
use Rattle.block_model.specs.RequestEffect.{Answer}
use Rattle.block_model.specs.TableState.{TableState as CommittedTable}
use Rattle.store_layout.specs.DiskLayout.{DiskLayout}
use Rattle.page_map.specs.PageMap.{PageMap, block_at, page_at}
use Rattle.recovery.specs.PageOrder.{IsIndexInOrder}
use Rattle.heap_rows.specs.Heaps.{relation_of as heap_of}
use Rattle.snapshot_core.specs.declared.statuses.Status.{Status}
use Rattle.snapshot_core.specs.declared.sessions.Open.{Open}
use Rattle.snapshot_core.specs.StoredVersions.{transaction_of}
use Rattle.tx_table.specs.Statuses.{HasStatuses, status_of, status_relation}
use Rattle.transactions.specs.CountedRows.{counts as counts_of}
use Rattle.transactions.specs.Laws.{CommitCounts, CommitIsWhole, OpeningIsShown, OthersAreApart, SessionsAreShown}
use Rattle.transactions.specs.ShowsDatabase.{ShowsDatabase}
use Rattle.transactions.specs.TransactionsState.{TransactionsState}
use Rattle.transactions.proofs.Shown.{open_one}
use Rattle.coverage.specs.Statements.{Inserting, OnIndex}
use Rattle.index_contents.specs.IndexContents.{index_page, relation_of}
use Rattle.coverage.specs.Machines.{ShownTable, table_state}
use Rattle.coverage.specs.Table.{TableState, seen_by}
use Rattle.coverage.specs.TableCovered.{IsTableAtRest, IsTableCovered, IsTableKept, TableStops}
use Rattle.index_steps.specs.ShownRows.{shown_by}
use Rattle.session_parts.specs.Insert.{Insert}
use Rattle.script_semantics.specs.Place.{Place, database_at}
use Rattle.session_parts.specs.declared.hand.Hand.TheVariants as hands
use Rattle.session_parts.specs.ShowsPlace.{IsPlaceOf, ShowsTable}
use Rattle.session_parts.specs.StoreStates.{ShownStore, hand_in}
use Rattle.session_parts.proofs.Tables.{same_blocks, same_contents, shown_alike}
use Rattle.store_image.proofs.Unnamed.{is_unnamed}
use Rattle.session_starts.specs.ImageLaws.{CommitIsImage, ShownIsImage}
use Rattle.session_starts.specs.StoreImage.{IsRestingTable, IsStoreImage, database_with, opened_at, unseen_at_rest}
use Rattle.session_starts.proofs.Counts.{IsPartOf, begun_is_void, counted_before, part_counts_no_more, part_of_one, part_voids_others}
use Rattle.session_starts.proofs.Order.{pages_in_order}
use Rattle.session_starts.proofs.PutRows.{row_in_hand, row_inserted}
use Rattle.session_starts.proofs.Resting.{kept_at_rest, locks_then, nobody_locks, table_at_rest, with_its_locks}

-- an opening keeps the database, without what was under way
database_opened : OpeningIsShown → SessionsAreShown → (layout : DiskLayout) (pages : PageMap) (t : TransactionsState) (d : DatabaseState) → ShowsDatabase layout pages t d
    → ShowsDatabase layout pages (opened_at t.tx.next) (database_with t.tx.next d.table)
database_opened ends sessions layout pages t d shows =
    let next : d.next ≡ t.tx.next = (sessions layout pages t d shows).next in
    subst (ShowsDatabase layout pages (opened_at t.tx.next)) (λ i. record { next = next i; table = d.table; sessions = finite.empty })
    (ends layout pages t (opened_at t.tx.next) d shows.stored shows shows.has shows.next (record { first = refl; opens = refl }))

-- what is known of a table's steps
abbrev pub KeepsStopped : Type 0
KeepsStopped = (w v : TableState) → IsTableKept w → TableStops w v → IsTableKept v

abbrev pub CoversKept : Type 0
CoversKept = (w : TableState) → IsTableKept w → IsTableCovered w

-- pages whose tables and indexes are those of a store that shows a place
module _ (stopped : KeepsStopped) (covered : CoversKept) (s : ShownStore) (p : Place) (shown : IsPlaceOf s p) (new : PageMap)
    (stays : (place : PagePlace) → place.relation ≢ status_relation → page_at new place ≡ page_at s.pages place) where
  heap_stays : (table block : ℕ) → block_at new (heap_of table) block ≡ block_at s.pages (heap_of table) block
  heap_stays table block = stays (record { relation = heap_of table; block = block }) (λ e. absurd (let none : table + 1 ≡ 0 = e in omega arith))

  index_stays : (index block : ℕ) → index_page s.layout new index block ≡ index_page s.layout s.pages index block
  index_stays index block =
      stays (record { relation = relation_of s.layout index; block = block }) (λ e. absurd (let none : length s.layout.schema.tables + index + 1 ≡ 0 = e in omega arith))

  index_in_order : (index : ℕ) → index < length s.layout.schema.indexes → IsIndexInOrder s.layout.sizes.index_blocks (index_page s.layout new index)
  index_in_order index below = subst (IsIndexInOrder s.layout.sizes.index_blocks) (λ i block. sym (index_stays index block) i) (shown.order index below)

  -- these rows count, which counted before, and none of an insert in hand
  module _ (counted : ℕ → Bool) (fewer : (u : ℕ) → IsTrue (counted u) → IsTrue (counts_of s.transactions shown.database.stored u))
      (void : (m : ℕ) (insert : Insert) (o : Open) → hand_in s.hands m ≡ Some (hands.Inserts insert) → transaction_of s.transactions.opens m ≡ Some o → counted o.t ≡ false) where
    module _ (table : ℕ) (shows : ShowsTable s shown.database.stored table (p.tables table)) where
      abbrev table_then : ShownTable
      table_then = shown_by s.layout new s.locks table shows.blocks

      abbrev unnamed : ℕ → Spot → Bool
      unnamed i x = is_unnamed (table_then.index i).entry ((table_then.index i).tuple x) x

      table_stays : table_then ≡ shown_by s.layout s.pages s.locks table shows.blocks
      table_stays = shown_alike s.layout s.pages new s.locks s.locks table shows.blocks (λ index within of. same_contents s.layout s.pages new index (index_stays index)) (λ index page within of. refl)

      kept_then : IsTableKept (table_state table_then shows.unseen)
      kept_then = subst IsTableKept (shows.shown ∙ ap (λ (x : ShownTable). table_state x shows.unseen) (sym table_stays)) shows.kept

      running : (m i b k : ℕ) (r : Row) (on_index : OnIndex) → seen_by i (shows.unseen.task m) ≡ Inserting b k r on_index → counted r.id.t ≡ false
      running m i b k r on_index is =
          let put = row_in_hand s.layout table shows.blocks s.transactions.tx shown.database.stored (shows.unseen.task m) (transaction_of s.transactions.opens m) r
          (row_inserted i b k r on_index (shows.unseen.task m) is) (hand_in s.hands m) (shows.tasks m) in
          let own = shown.own m (hands.Inserts put.insert) put.is in
          ap (λ (q : Row). counted q.id.t) put.row ∙ ap counted own.number ∙ void m put.insert own.own put.is own.is

      counted_there : (t : ℕ) → IsTrue (counted t) → IsTrue (shows.unseen.counts t)
      counted_there t is = shows.counts t ∙ fewer t is

      table_rests : IsRestingTable s.layout new counted table
      table_rests = record {
        blocks = shows.blocks;
        has = same_blocks s.layout s.pages new table shows.blocks (heap_stays table) shows.has;
        unnamed = unnamed;
        rest = λ locks free. subst (λ (x : ShownTable). IsTableAtRest (table_state x (unseen_at_rest counted unnamed))) (with_its_locks s.layout new s.locks locks table shows.blocks)
            (table_at_rest stopped table_then shows.unseen kept_then (locks_then s.layout new s.locks locks table shows.blocks) (nobody_locks s.layout new s.locks locks table shows.blocks free)
            counted counted_there running);
        covered = λ locks free. covered (table_state (shown_by s.layout new locks table shows.blocks) (unseen_at_rest counted unnamed))
            (subst (λ (x : ShownTable). IsTableKept (table_state x (unseen_at_rest counted unnamed))) (with_its_locks s.layout new s.locks locks table shows.blocks)
            (kept_at_rest stopped table_then shows.unseen kept_then (locks_then s.layout new s.locks locks table shows.blocks) (nobody_locks s.layout new s.locks locks table shows.blocks free)
            counted counted_there running));
      }

  -- where they show a database with this table, they are those of a store with it
  module _ (next : ℕ) (table : CommittedTable) (database : ShowsDatabase s.layout new (opened_at next) (database_with next table)) where
    image_with : ((u : ℕ) → IsTrue (counts_of (opened_at next) database.stored u) → IsTrue (counts_of s.transactions shown.database.stored u))
        → ((m : ℕ) (insert : Insert) (o : Open) → hand_in s.hands m ≡ Some (hands.Inserts insert) → transaction_of s.transactions.opens m ≡ Some o → counts_of (opened_at next) database.stored o.t ≡ false)
        → IsStoreImage s.layout new table
    image_with fewer void = record {
      next = next;
      database = database;
      tables = λ n below. table_rests (counts_of (opened_at next) database.stored) fewer void n (shown.tables n below);
      order = pages_in_order s.layout new database.started database.blocks index_in_order;
    }

-- the pages have one list of statuses
abbrev pub HaveOneList : Type 0
HaveOneList = (layout : DiskLayout) (pages : PageMap) (a b : List Status) → HasStatuses layout pages a → HasStatuses layout pages b → a ≡ b

pub shown_is_image : KeepsStopped → CoversKept → OpeningIsShown → SessionsAreShown → HaveOneList → ShownIsImage
shown_is_image stopped covered ends sessions one s p shown =
    let next : ℕ = s.transactions.tx.next in
    let database : ShowsDatabase s.layout s.pages (opened_at next) (database_with next (database_at p).table) = database_opened ends sessions s.layout s.pages s.transactions (database_at p) shown.database in
    let same : database.stored ≡ shown.database.stored = one s.layout s.pages database.stored shown.database.stored database.has shown.database.has in
    image_with stopped covered s p shown s.pages (λ place other. refl) next (database_at p).table database
    (λ u counted. subst (λ (l : List Status). IsTrue (counts_of s.transactions l u)) same (counted_before s.transactions next database.stored u counted))
    (λ m insert o hand is. begun_is_void next database.stored o.t (ap (λ (l : List Status). status_of l o.t) same ∙ (open_one shown.database m o is).begun))

-- a session that commits inserts nothing
insert_no_commit : (s : ShownStore) (n m : ℕ) (insert : Insert) → hand_in s.hands n ≡ Some hands.Commits → hand_in s.hands m ≡ Some (hands.Inserts insert) → m ≢ n
insert_no_commit s n m insert commits inserts same =
    let alike : hands.Inserts insert ≡ hands.Commits = same_Some (hands.Inserts insert) hands.Commits (sym inserts ∙ ap (hand_in s.hands) same ∙ commits) in
    absurd cc

pub commit_is_image : KeepsStopped → CoversKept → OpeningIsShown → SessionsAreShown → HaveOneList → CommitIsWhole → CommitCounts → OthersAreApart → CommitIsImage
commit_is_image stopped covered ends sessions one whole commits apart s p n o pages shown in_hand was within part =
    elim (whole s.layout s.pages pages s.transactions (database_at p) n o shown.database was within part) [
      | inl before ↦ inl (by_database s.transactions (database_at p) before)
      | inr behind ↦
          let after : DatabaseState = behind.1.0 in
          inr (behind.0, subst (IsStoreImage s.layout pages) (sym (ap (λ (r : DatabaseState × Answer). r.0.table) behind.1.1)) (by_database _ after behind.1.2))
    ]
  where
    by_database : (t : TransactionsState) (d : DatabaseState) → ShowsDatabase s.layout pages t d → IsStoreImage s.layout pages d.table
    by_database t d shows =
        let next : ℕ = t.tx.next in
        let database : ShowsDatabase s.layout pages (opened_at next) (database_with next d.table) = database_opened ends sessions s.layout pages t d shows in
        let old : List Status = shown.database.stored in
        let some = part.statuses old shown.database.has in
        let is_part : IsPartOf o old database.stored = subst (IsPartOf o old) (sym (one s.layout pages database.stored _ database.has some.1)) (part_of_one old o some.0) in
        image_with stopped covered s p shown pages part.others next d.table database
        (part_counts_no_more s.layout s.pages s.transactions (database_at p) shown.database n o was database.stored is_part next commits)
        (λ m insert q hand is. part_voids_others s.layout s.pages s.transactions (database_at p) shown.database n o was database.stored is_part next apart m q (insert_no_commit s n m insert in_hand hand) is)
