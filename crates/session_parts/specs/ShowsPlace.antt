-- the place of the definition of texts that a store shows
use Rattle.std.specs.Prelude.{◌≡◌, ℕ, ◌<◌, All, Bool, true, false, List, length, map, Option, None, Some}
use Rattle.std.specs.List.{IsDistinct}
use Rattle.std.specs.Ordering.{eq_by_cmp}
use Rattle.std.specs.FinMap as finite
use Rattle.block_model.specs.declared.row.Query.{Query}
use Rattle.block_model.specs.declared.row.Row.{Row}
use Rattle.block_model.specs.declared.row.RowId.{RowId}
use Rattle.block_model.specs.DatabaseState.{OpenTransaction}
use Rattle.block_model.specs.RequestEffect.{rows_found}
use Rattle.block_model.specs.SerialRun.{IsLegal}
use Rattle.block_model.specs.TableState.{id_cmp}
use Rattle.page_layout.specs.PageContents.{Slot}
use Rattle.page_locks.specs.RightHolders.{right_of}
use Rattle.recovery.specs.PageOrder.{IsIndexInOrder}
use Rattle.heap_rows.specs.HeapBlocks.{HasBlocks}
use Rattle.snapshot_core.specs.declared.statuses.Status.{Status}
use Rattle.snapshot_core.specs.declared.sessions.Open.{Open}
use Rattle.snapshot_core.specs.StoredVersions.{transaction_of}
use Rattle.transactions.specs.CountedRows.{counts as counts_of}
use Rattle.transactions.specs.ShowsDatabase.{ShowsDatabase}
use Rattle.index_contents.specs.IndexContents.{index_page}
use Rattle.coverage.specs.Machines.{Unseen, table_state}
use Rattle.coverage.specs.Table.{TableState}
use Rattle.coverage.specs.TableCovered.{IsTableKept}
use Rattle.script_semantics.specs.ShownRows.{shown_by}
use Rattle.brin_insert.specs.AskedFor.{AreRequestsOf}
use Rattle.script_semantics.specs.Names.{dropped_of}
use Rattle.script_semantics.specs.Place.{Place, database_at}
use Rattle.session_parts.specs.FrontsStand.{FrontsStand}
use Rattle.session_parts.specs.declared.hand.Hand.{Hand}
use Rattle.session_parts.specs.declared.hand.Hand.TheVariants as hands
use Rattle.session_parts.specs.declared.hand.Marking.{Marking}
use Rattle.session_parts.specs.Hands.{HandShows, hits_left, ids_of}
use Rattle.session_parts.specs.HandsAsk.{HandAsked}
use Rattle.session_parts.specs.HandsInTables.{IsTaskOf}
use Rattle.session_parts.specs.StoreStates.{ShownStore, StoreState, dropped_in, hand_in, shown_of}

-- The table that pages, locks and summarise locks show, with each session's statement at its task, and kept. The rows of committed transactions count, and
-- of open ones that haven't failed.
pub record ShowsTable (s : ShownStore) (stored : List Status) (table : ℕ) (w : TableState) : Type 0 where
  pub blocks : List (List Slot)
  pub has : HasBlocks s.layout s.pages table blocks
  pub unseen : Unseen
  pub shown : w ≡ table_state (shown_by s.layout s.pages s.locks table blocks) unseen
  pub lock : unseen.summarise_lock ≡ right_of s.rights table
  pub counts : (t : ℕ) → unseen.counts t ≡ counts_of s.transactions stored t
  pub tasks : (n : ℕ) → IsTaskOf s.layout table blocks s.transactions.tx stored (transaction_of s.transactions.opens n) (hand_in s.hands n) (unseen.task n)
  pub kept : IsTableKept w

-- an insert's row is the next one of its session's transaction, which hasn't failed; once it is put it is one of that transaction's
pub record IsRowOf (transaction : Option Open) (put : Bool) (t k : ℕ) : Type 0 where
  pub own : Open
  pub is : transaction ≡ Some own
  pub whole : own.failed ≡ false
  pub number : t ≡ own.t
  pub next : put ≡ false → k ≡ own.next_k

abbrev pub is_put : {A : Type 0} → Option A → Bool
is_put None = false
is_put (Some x) = true

-- rows of the copy, each once
abbrev pub AreInCopy : OpenTransaction → List RowId → Type 0
AreInCopy x ids = IsDistinct (eq_by_cmp id_cmp) ids × All (λ (id : RowId). finite.contains_key x.view id ≡ true) ids

-- before a delete's look is entered, the hits are what its query finds in its session's copy, in order; behind it, those that are left are in the copy
abbrev pub AreToMark : (look : Option Query) → OpenTransaction → Marking → Type 0
AreToMark (Some look) x marking = map (λ (r : Row). r.id) (rows_found x marking.query) ≡ ids_of marking.hits.items
AreToMark None x marking = AreInCopy x (ids_of (hits_left marking))

-- so it is with what a delete has still to mark
abbrev pub IsLeftToMark : Option OpenTransaction → Hand → Type 0
IsLeftToMark None hand = Unit {0}
IsLeftToMark (Some x) (hands.Marks marking) = AreToMark marking.look x marking
IsLeftToMark (Some x) hand = Unit {0}

-- how a statement in hand stands to its session's transaction
abbrev pub IsOfTransaction : Option Open → Option OpenTransaction → Hand → Type 0
IsOfTransaction transaction copy (hands.Inserts insert) = IsRowOf transaction (is_put insert.place) insert.row.id.t insert.row.id.k
IsOfTransaction transaction copy hand = IsLeftToMark copy hand

-- These parts of a store show a place of the definition of texts.
pub record IsPlaceOf (s : ShownStore) (p : Place) : Type 0 where
  pub layout : p.layout ≡ s.layout
  pub names : p.names ≡ s.names
  -- the requests for summaries, and what the sessions' inserts asked for in vain
  pub queue : AreRequestsOf s.layout s.queue p.queue
  pub told : (n : ℕ) → dropped_in s.dropped n ≡ dropped_of s.layout (p.accounts n).dropped
  pub asked : (n : ℕ) → HandAsked s.layout (hand_in s.hands n) (p.accounts n).dropped
  pub journal : p.journal ≡ s.entries
  pub legal : IsLegal p.opening p.journal
  -- the rows on the pages, their statuses and the open transactions show the database of the journal
  pub database : ShowsDatabase s.layout s.pages s.transactions (database_at p)
  -- these statuses and the snapshots of the open transactions stand to the fronts of the journal
  pub fronts : FrontsStand s.layout s.pages s.transactions database.stored p
  -- the statements in hand
  pub hands : (n : ℕ) → HandShows (hand_in s.hands n) (p.hands n) (p.accounts n)
  pub own : (n : ℕ) (hand : Hand) → hand_in s.hands n ≡ Some hand → IsOfTransaction (transaction_of s.transactions.opens n) (finite.get (database_at p).sessions n) hand
  -- the tables, and the order of their indexes' pages
  pub tables : (table : ℕ) → table < length s.layout.schema.tables → ShowsTable s database.stored table (p.tables table)
  pub order : (index : ℕ) → index < length s.layout.schema.indexes → IsIndexInOrder s.layout.sizes.index_blocks (index_page s.layout s.pages index)

-- the store shows the place
abbrev pub ShowsPlace : {D : Type 0} → StoreState D → Place → Type 0
ShowsPlace s p = IsPlaceOf (shown_of s) p
