-- The place that a store shows which was opened over the pages of an image.
use Rattle.std.proofs.Common.{◌≡◌, ℕ, ◌<◌, Bool, true, false, List, [], length, Option, None, Some, refl, sym, ◌∙◌, ap, subst}
use Rattle.std.specs.Prelude.{nat_lt, replicate, slice_get}
use Rattle.std.proofs.lemmas.Bool.{false≢true, lt-ltb, ltb-true}
use Rattle.std.proofs.lemmas.Option.{get_or_from_slice_get}
use Rattle.block_model.specs.declared.schema.Table.{Table}
use Rattle.block_model.specs.DatabaseState.{DatabaseState}
use Rattle.block_model.specs.TableState.{TableState as CommittedTable}
use Rattle.store_layout.specs.declared.limits.TheConstants.{MAX_SESSIONS}
use Rattle.store_layout.specs.DiskLayout.{DiskLayout}
use Rattle.page_layout.specs.PageContents.{Slot}
use Rattle.page_locks.specs.LockHolders.{LockState}
use Rattle.page_map.specs.PageMap.{PageMap}
use Rattle.recovery.specs.PageOrder.{AreInOrder, IsIndexInOrder}
use Rattle.heap_rows.specs.Heaps.{no_table}
use Rattle.snapshot_core.specs.declared.statuses.Status.{Status}
use Rattle.snapshot_core.specs.declared.sessions.Open.{Open}
use Rattle.tx_table.specs.Statuses.{HasStatuses}
use Rattle.tx_table.specs.TxState.{IsNext}
use Rattle.transactions.specs.CountedRows.{counts}
use Rattle.transactions.specs.ShowsDatabase.{ShowsDatabase}
use Rattle.transactions.specs.TransactionsState.{TransactionsState}
use Rattle.index_contents.specs.IndexContents.{contents, index_page}
use Rattle.coverage.specs.Machines.{Unseen, table_state}
use Rattle.coverage.specs.Table.{TableState}
use Rattle.coverage.specs.TableCovered.{IsTableAtRest, IsTableCovered, IsTableKept}
use Rattle.index_steps.specs.ShownRows.{shown_by}
use Rattle.index_steps.specs.ShownTable.{indexes_of, shown_at}
use Rattle.script_semantics.specs.Place.{Place}
use Rattle.script_semantics.specs.Starts.{IsLaidOut, IsOpening}
use Rattle.session_parts.specs.OpeningLaws.{IsTableOpened, OpenedIsShown, place_opened}
use Rattle.session_parts.specs.ShowsPlace.{IsPlaceOf}
use Rattle.session_parts.specs.StoreStates.{ShownStore}
use Rattle.session_starts.specs.ImageLaws.{IsOpenedStore}
use Rattle.session_starts.specs.StoreImage.{IsRestingTable, IsStoreImage, database_with, opened_at, unseen_at_rest}

-- ---- the transactions

-- pages have one list of statuses
abbrev pub HaveOneList : Type 0
HaveOneList = (layout : DiskLayout) (pages : PageMap) (a b : List Status) → HasStatuses layout pages a → HasStatuses layout pages b → a ≡ b

-- a list of statuses has one next number
abbrev pub HasOneNext : Type 0
HasOneNext = (statuses : List Status) (a b : ℕ) → IsNext statuses a → IsNext statuses b → a ≡ b

-- the transactions of an opened store are those that are started over its next number
started : (s : ShownStore) → IsOpenedStore s → opened_at s.transactions.tx.next ≡ s.transactions
started s opened =
    let from : ℕ → TransactionsState = λ first. record { tx = record { first = first; next = s.transactions.tx.next }; opens = replicate MAX_SESSIONS None } in
    let with_places : List (Option Open) → TransactionsState = λ opens. record { tx = s.transactions.tx; opens = opens } in
    ap from (sym opened.opened.first) ∙ ap with_places (sym opened.opened.opens)

-- the next number of an image is that of a store which was opened over it
one_next : (s : ShownStore) (table : CommittedTable) → HaveOneList → HasOneNext → IsOpenedStore s → (image : IsStoreImage s.layout s.pages table) → image.next ≡ s.transactions.tx.next
one_next s table list next opened image =
    let same : image.database.stored ≡ opened.stored = list s.layout s.pages image.database.stored opened.stored image.database.has opened.has in
    next opened.stored image.next s.transactions.tx.next (subst (λ (l : List Status). IsNext l image.next) same image.database.next) opened.next

-- the database and the resting tables of an image, as these transactions see them
record ImageOver (layout : DiskLayout) (pages : PageMap) (table : CommittedTable) (t : TransactionsState) (next : ℕ) : Type 0 where
  database : ShowsDatabase layout pages t (database_with next table)
  tables : (n : ℕ) → n < length layout.schema.tables → IsRestingTable layout pages (counts t database.stored) n

image_over : (s : ShownStore) (table : CommittedTable) → HaveOneList → HasOneNext → IsOpenedStore s → IsStoreImage s.layout s.pages table
    → ImageOver s.layout s.pages table s.transactions s.transactions.tx.next
image_over s table list next opened image =
    let first : ImageOver s.layout s.pages table (opened_at image.next) image.next = record { database = image.database; tables = image.tables } in
    let then : ImageOver s.layout s.pages table (opened_at s.transactions.tx.next) s.transactions.tx.next =
    subst (λ (n : ℕ). ImageOver s.layout s.pages table (opened_at n) n) (one_next s table list next opened image) first in
    subst (λ (t : TransactionsState). ImageOver s.layout s.pages table t s.transactions.tx.next) (started s opened) then

-- ---- the tables

-- the table that pages show is laid out as its declaration says, whatever its blocks
module _ (layout : DiskLayout) (pages : PageMap) (locks : LockState) (table : ℕ) (blocks : List (List Slot)) (unseen : Unseen) where
  limit_at : (o : Option ℕ) (n : ℕ) → o ≡ Some n → ◌≡◌ {A = ℕ} (shown_at layout pages locks o).pages.limit layout.sizes.index_blocks
  unfolding contents
  limit_at o n is = ap (λ (p : Option ℕ). (shown_at layout pages locks p).pages.limit) is

  shown_laid_out : IsLaidOut layout table (table_state (shown_by layout pages locks table blocks) unseen)
  shown_laid_out = record {
    indexes = refl;
    index = λ at number is. record {
      contents = ap (λ (o : Option ℕ). (shown_at layout pages locks o).contents) is;
      pages_per_range = ap (λ (o : Option ℕ). (shown_at layout pages locks o).pages_per_range) is;
      autosummarize = ap (λ (o : Option ℕ). (shown_at layout pages locks o).autosummarize) is;
      limit = limit_at (slice_get (indexes_of layout table) at) number is;
    };
    slots = λ declared is. ap (λ (t : Table). t.rows_per_page) (get_or_from_slice_get layout.schema.tables table declared no_table is);
    limit = refl;
  }

-- a table with which a script begins
record BeginsWith (s : ShownStore) (stored : List Status) (n : ℕ) (w : TableState) : Type 0 where
  opened : IsTableOpened s stored n w
  laid_out : IsLaidOut s.layout n w
  rest : IsTableAtRest w
  covered : IsTableCovered w

-- what is covered and rests is kept
abbrev pub RestIsKept : Type 0
RestIsKept = (w : TableState) → IsTableCovered w → IsTableAtRest w → IsTableKept w

module _ (s : ShownStore) (stored : List Status) (kept : RestIsKept) (store : IsOpenedStore s) where
  -- the table that rests there
  abbrev table_at : (n : ℕ) → IsRestingTable s.layout s.pages (counts s.transactions stored) n → TableState
  table_at n at = table_state (shown_by s.layout s.pages s.locks n at.blocks) (unseen_at_rest (counts s.transactions stored) at.unnamed)

  begins_at : (n : ℕ) (at : IsRestingTable s.layout s.pages (counts s.transactions stored) n) → BeginsWith s stored n (table_at n at)
  begins_at n at =
      let rest : IsTableAtRest (table_at n at) = at.rest s.locks store.unlocked in
      let covered : IsTableCovered (table_at n at) = at.covered s.locks store.unlocked in
      record {
        opened = record { blocks = at.blocks; has = at.has; unnamed = at.unnamed; is = refl; free = store.free n; kept = kept (table_at n at) covered rest };
        laid_out = shown_laid_out s.layout s.pages s.locks n at.blocks (unseen_at_rest (counts s.transactions stored) at.unnamed);
        rest = rest;
        covered = covered;
      }

  -- The tables that rest in these pages. A number that is no table's has one without a block.
  module _ (resting : (n : ℕ) → n < length s.layout.schema.tables → IsRestingTable s.layout s.pages (counts s.transactions stored) n) where
    table_if : (n : ℕ) (there : Bool) → nat_lt n (length s.layout.schema.tables) ≡ there → TableState
    table_if n true is = table_at n (resting n (ltb-true n (length s.layout.schema.tables) is))
    table_if n false is = table_state (shown_by s.layout s.pages s.locks n []) (unseen_at_rest (counts s.transactions stored) (λ i x. false))

    begins_if : (n : ℕ) (there : Bool) (is : nat_lt n (length s.layout.schema.tables) ≡ there) → n < length s.layout.schema.tables → BeginsWith s stored n (table_if n there is)
    unfolding table_if
    begins_if n true is below = begins_at n (resting n (ltb-true n (length s.layout.schema.tables) is))
    begins_if n false is below = absurd (false≢true (sym is ∙ lt-ltb n (length s.layout.schema.tables) below))

    abbrev resting_tables : ℕ → TableState
    resting_tables n = table_if n (nat_lt n (length s.layout.schema.tables)) refl

    begins : (n : ℕ) → n < length s.layout.schema.tables → BeginsWith s stored n (resting_tables n)
    begins n below = begins_if n (nat_lt n (length s.layout.schema.tables)) refl below

    -- a script begins at the place of these tables
    is_opening : (opening : DatabaseState) → IsOpening s.layout opening (place_opened s opening resting_tables)
    is_opening opening = record {
      layout_is = refl;
      opening_is = refl;
      names = store.names;
      journal = refl;
      queue = refl;
      hands = λ n. refl;
      accounts = λ n. refl;
      laid_out = λ n below. (begins n below).laid_out;
      rest = λ n below. (begins n below).rest;
      covered = λ n below. (begins n below).covered;
    }

-- ---- the place

-- each index of pages in order is in order
abbrev pub OrderIsEach : Type 0
OrderIsEach = (layout : DiskLayout) (pages : PageMap) (index : ℕ) → AreInOrder layout pages → index < length layout.schema.indexes → IsIndexInOrder layout.sizes.index_blocks (index_page layout pages index)

pub image_is_shown : HaveOneList → HasOneNext → RestIsKept → OrderIsEach → OpenedIsShown → (s : ShownStore) (table : CommittedTable) → IsOpenedStore s → (image : IsStoreImage s.layout s.pages table)
    → (p : Place) × IsOpening s.layout (database_with image.next table) p × IsPlaceOf s p
image_is_shown list next kept each shown s table store image =
    let over : ImageOver s.layout s.pages table s.transactions s.transactions.tx.next = image_over s table list next store image in
    let stored : List Status = over.database.stored in
    let opening : DatabaseState = database_with s.transactions.tx.next table in
    let tables : ℕ → TableState = resting_tables s stored kept store over.tables in
    let opened : (n : ℕ) → n < length s.layout.schema.tables → IsTableOpened s stored n (tables n) = λ n below. (begins s stored kept store over.tables n below).opened in
    let order : (index : ℕ) → index < length s.layout.schema.indexes → IsIndexInOrder s.layout.sizes.index_blocks (index_page s.layout s.pages index) =
    λ index below. each s.layout s.pages index image.order below in
    let is : IsPlaceOf s (place_opened s opening tables) = shown s opening tables store.entries store.queue store.dropped store.hands store.opened over.database opened order in
    let begins : IsOpening s.layout (database_with image.next table) (place_opened s opening tables) =
    subst (λ (n : ℕ). IsOpening s.layout (database_with n table) (place_opened s opening tables)) (sym (one_next s table list next store image)) (is_opening s stored kept store over.tables opening) in
    (place_opened s opening tables, begins, is)
