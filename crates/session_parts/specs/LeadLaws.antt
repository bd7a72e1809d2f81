-- what requests and changes of transactions lead to
use Rattle.std.specs.Prelude.{◌≡◌, ℕ, ◌<◌, Bool, false, not, ◌&&◌, ◌||◌, ◌==◌, List, [], ◌∷◌, ◌++◌, length, set, Option, Some}
use Rattle.std.specs.FinMap as finite
use Rattle.block_model.specs.declared.place.Place.{Place as PagePlace}
use Rattle.block_model.specs.declared.place.Spot.{Spot}
use Rattle.block_model.specs.declared.request.Entry.{Entry}
use Rattle.block_model.specs.DatabaseState.{DatabaseState}
use Rattle.block_model.specs.RequestEffect.{Answer, IsLegalRequest, after_request}
use Rattle.page_layout.specs.PageContents.{Slot}
use Rattle.page_layout.specs.PageWrites.{marked}
use Rattle.page_layout.specs.RowBytes.{StoredRow}
use Rattle.page_map.specs.PageMap.{block_at, page_at}
use Rattle.recovery.specs.PageOrder.{IsIndexInOrder}
use Rattle.heap_rows.specs.Heaps.{relation_of as heap_of}
use Rattle.heap_rows.specs.RowPlaces.{ChangesSlot, FillsSlot, slot_at, with_row}
use Rattle.snapshot_core.specs.declared.statuses.Status.{Status}
use Rattle.snapshot_core.specs.declared.statuses.Status.TheVariants as statuses
use Rattle.snapshot_core.specs.declared.sessions.Open.{Open}
use Rattle.snapshot_core.specs.StoredVersions.{transaction_of}
use Rattle.tx_table.specs.Statuses.{HasStatuses, number_limit, status_relation}
use Rattle.tx_table.specs.TxState.{TxState}
use Rattle.transactions.specs.CountedRows.{counts as counts_of}
use Rattle.transactions.specs.Laws.{BeginIsUnseen, EndIsUnseen, MarkIsUnseen, PutIsUnseen, RowIsOfTransactions, ShowAlike}
use Rattle.transactions.specs.ShowsDatabase.{DoesRequest, ShowsDatabase}
use Rattle.transactions.specs.StoredRows.{MarksRowAt, PutsRow, StandsAt, conflicts_with}
use Rattle.transactions.specs.TransactionsState.{with_failed, with_row_counted}
use Rattle.index_contents.specs.IndexContents.{index_page}
use Rattle.coverage.specs.Accounts.{Account}
use Rattle.coverage.specs.Table.{TableState}
use Rattle.bitmap_scan.specs.Finds.{sees_stored}
use Rattle.script_semantics.specs.Place.{Hand as HandAt, Place, database_at}
use Rattle.session_parts.specs.SeenBefore.{SawRows}
use Rattle.session_parts.specs.FrontLaws.{IsWithin}
use Rattle.session_parts.specs.declared.hand.Hand.{Hand}
use Rattle.session_parts.specs.Hands.{HandShows}
use Rattle.session_parts.specs.HandsInTables.{sight_of}
use Rattle.session_parts.specs.Leaving.{CountsFew, HasNoRows, LeadsTo, SeeAlike, SlotsStay, StaysWithin}
use Rattle.session_parts.specs.RefusalLaws.{CountsNoMore}
use Rattle.session_parts.specs.ShowsPlace.{IsOfTransaction, IsPlaceOf, ShowsTable}
use Rattle.session_parts.specs.StoreStates.{ShownStore, hand_in}

-- what the session has in hand, with its copy in this database, and the order of the indexes' pages
pub record HasInHand (old new : ShownStore) (n : ℕ) (at : Option HandAt) (account : Account) (d : DatabaseState) : Type 0 where
  pub hand : HandShows (hand_in new.hands n) at account
  pub own : (hand : Hand) → hand_in new.hands n ≡ Some hand → IsOfTransaction (transaction_of new.transactions.opens n) (finite.get d.sessions n) hand
  pub order : (index : ℕ) → index < length old.layout.schema.indexes → IsIndexInOrder old.layout.sizes.index_blocks (index_page old.layout old.pages index)
      → IsIndexInOrder old.layout.sizes.index_blocks (index_page old.layout new.pages index)

-- one request of the session, a put, a look or a mark
abbrev pub RequestLeads : Type 0
RequestLeads = (old new : ShownStore) (p : Place) (n : ℕ) (at : Option HandAt) (account : Account) (e : Entry) (answer : Answer) → IsPlaceOf old p → e.session ≡ n
    → IsLegalRequest (database_at p) e → new.entries ≡ old.entries ++ e ∷ [] → DoesRequest old.layout new.pages new.transactions (database_at p) e answer
    → IsWithin e.request → StaysWithin old new → HasInHand old new n at account (after_request (database_at p) e) → LeadsTo old new p n at account

-- two requests of the session, one right after the other
abbrev pub TwoRequestsLead : Type 0
TwoRequestsLead = (old new : ShownStore) (p : Place) (n : ℕ) (at : Option HandAt) (account : Account) (e f : Entry) → IsPlaceOf old p → e.session ≡ n → f.session ≡ n
    → IsLegalRequest (database_at p) e → IsLegalRequest (after_request (database_at p) e) f → new.entries ≡ (old.entries ++ e ∷ []) ++ f ∷ []
    → ShowsDatabase old.layout new.pages new.transactions (after_request (after_request (database_at p) e) f)
    → IsWithin e.request → IsWithin f.request → StaysWithin old new → HasInHand old new n at account (after_request (after_request (database_at p) e) f) → LeadsTo old new p n at account

-- none, where the pages of statuses and of the tables' heaps stay, and so do the transactions
abbrev pub NoRequestLeads : Type 0
NoRequestLeads = ShowAlike → (old new : ShownStore) (p : Place) (n : ℕ) (at : Option HandAt) (account : Account) → IsPlaceOf old p
    → new.entries ≡ old.entries → new.transactions ≡ old.transactions
    → ((block : ℕ) → block_at new.pages status_relation block ≡ block_at old.pages status_relation block)
    → ((table block : ℕ) → table < length old.layout.schema.tables → block_at new.pages (heap_of table) block ≡ block_at old.pages (heap_of table) block)
    → HasInHand old new n at account (database_at p) → LeadsTo old new p n at account

-- ---- which steps begin and end no transaction

-- where the session's transaction puts a row
abbrev pub PutStaysWithin : Type 0
PutStaysWithin = (old new : ShownStore) (n table : ℕ) (o : Open) (spot : Spot) (row : StoredRow) → transaction_of old.transactions.opens n ≡ Some o
    → new.transactions ≡ with_row_counted old.transactions n o → PutsRow old.layout old.pages new.pages table spot row → row.deleter ≡ 0 → StaysWithin old new

-- where it marks one
abbrev pub MarkStaysWithin : Type 0
MarkStaysWithin = (old new : ShownStore) (n table : ℕ) (o : Open) (spot : Spot) (row : StoredRow) → transaction_of old.transactions.opens n ≡ Some o
    → new.transactions ≡ old.transactions → MarksRowAt old.layout old.pages new.pages table spot row o.t → StaysWithin old new

-- where it looks, and no page changes
abbrev pub LookStaysWithin : Type 0
LookStaysWithin = (old new : ShownStore) → new.transactions ≡ old.transactions → ((place : PagePlace) → page_at new.pages place ≡ page_at old.pages place) → StaysWithin old new

-- and where it fails, and no page changes
abbrev pub FailureStaysWithin : Type 0
FailureStaysWithin = (old new : ShownStore) (n : ℕ) (o : Open) → transaction_of old.transactions.opens n ≡ Some o
    → new.transactions ≡ with_failed old.transactions n o → ((place : PagePlace) → page_at new.pages place ≡ page_at old.pages place) → StaysWithin old new

-- ---- what the others see

-- a row that the session's transaction puts
abbrev pub PutLeavesSlots : Type 0
PutLeavesSlots = PutIsUnseen → (s : ShownStore) (d : DatabaseState) (stored : List Status) (n : ℕ) (o : Open) (count : ℕ) (spot : Spot) (row : StoredRow) (blocks : List (List Slot))
    → ShowsDatabase s.layout s.pages s.transactions d → transaction_of s.transactions.opens n ≡ Some o → row.id.t ≡ o.t → FillsSlot count spot row blocks
    → SlotsStay n s stored blocks (with_row count blocks spot row)

-- and one that it marks
abbrev pub MarkLeavesSlots : Type 0
MarkLeavesSlots = MarkIsUnseen → (s : ShownStore) (d : DatabaseState) (stored : List Status) (n table : ℕ) (o : Open) (spot : Spot) (row : StoredRow) (blocks now : List (List Slot))
    → ShowsDatabase s.layout s.pages s.transactions d → HasStatuses s.layout s.pages stored → transaction_of s.transactions.opens n ≡ Some o → table < length s.layout.schema.tables
    → StandsAt s.layout s.pages table spot row → conflicts_with s.transactions.tx.first stored o.t row ≡ false → slot_at blocks spot ≡ Some row
    → ChangesSlot blocks now spot (Some (marked row o.t)) → SlotsStay n s stored blocks now

-- nothing changes
abbrev pub NothingLeavesSlots : Type 0
NothingLeavesSlots = (s : ShownStore) (stored : List Status) (n : ℕ) (blocks : List (List Slot)) → SlotsStay n s stored blocks blocks

-- a begin, and the end of the session's transaction
abbrev pub BeginSeesAlike : Type 0
BeginSeesAlike = BeginIsUnseen → (old new : ShownStore) (d : DatabaseState) (stored : List Status) (n : ℕ) → ShowsDatabase old.layout old.pages old.transactions d
    → HasStatuses old.layout old.pages stored → old.transactions.tx.next < number_limit old.layout → new.transactions.tx.first ≡ old.transactions.tx.first
    → SeeAlike n old new stored (set stored old.transactions.tx.next statuses.Begun)

abbrev pub EndSeesAlike : Type 0
EndSeesAlike = EndIsUnseen → (old new : ShownStore) (d : DatabaseState) (stored : List Status) (n : ℕ) (o : Open) (end : Status) → ShowsDatabase old.layout old.pages old.transactions d
    → transaction_of old.transactions.opens n ≡ Some o → new.transactions.tx.first ≡ old.transactions.tx.first → SeeAlike n old new stored (set stored o.t end)

-- statuses that stay
abbrev pub SameSeesAlike : Type 0
SameSeesAlike = (old new : ShownStore) (stored : List Status) (n : ℕ) → new.transactions.tx.first ≡ old.transactions.tx.first → SeeAlike n old new stored stored

-- ---- what a scan sees

-- its transaction saw before its own deletes
abbrev pub ScanSawRows : Type 0
ScanSawRows = (tx : TxState) (stored : List Status) (o : Open) (sees : ℕ → ℕ → Bool) (blocks : List (List Slot))
    → ((b k : ℕ) (row : StoredRow) → slot_at blocks (record { block = b; slot = k }) ≡ Some row → sees b k ≡ sees_stored (sight_of tx stored o) row) → SawRows tx.first stored o sees blocks

-- ---- which rows count

abbrev pub SameCountsFew : Type 0
SameCountsFew = (old new : ShownStore) (stored later : List Status) → ((t : ℕ) → counts_of new.transactions later t ≡ counts_of old.transactions stored t) → CountsFew old new stored later

-- those of one transaction don't any more
abbrev pub FewerCountsFew : Type 0
FewerCountsFew = (old new : ShownStore) (stored later : List Status) (u : ℕ)
    → ((t : ℕ) → counts_of new.transactions later t ≡ (counts_of old.transactions stored t && not (t == u))) → CountsFew old new stored later

-- those of one more do, which has none
abbrev pub MoreCountsFew : Type 0
MoreCountsFew = (old new : ShownStore) (stored later : List Status) (u : ℕ) → HasNoRows old u
    → ((t : ℕ) → counts_of new.transactions later t ≡ (counts_of old.transactions stored t || (t == u))) → CountsFew old new stored later

-- the next transaction has no rows
abbrev pub NextHasNoRows : Type 0
NextHasNoRows = RowIsOfTransactions → (s : ShownStore) (d : DatabaseState) (stored : List Status) → ShowsDatabase s.layout s.pages s.transactions d → HasStatuses s.layout s.pages stored
    → HasNoRows s s.transactions.tx.next

-- in a table that is shown
abbrev pub FailureCountsNoMore : Type 0
FailureCountsNoMore = (old new : ShownStore) (stored : List Status) (table u : ℕ) (w : TableState) → ShowsTable old stored table w
    → ((t : ℕ) → counts_of new.transactions stored t ≡ (counts_of old.transactions stored t && not (t == u))) → CountsNoMore w (counts_of new.transactions stored) u
