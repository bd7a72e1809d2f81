-- What the pages of a store are when nobody is at work, as each stop leaves them and each opening finds them.
use Rattle.std.specs.Prelude.{◌≡◌, ℕ, ◌<◌, Bool, List, length, replicate, None}
use Rattle.std.specs.FinMap as map
use Rattle.block_model.specs.declared.place.Place.{Place as PagePlace}
use Rattle.block_model.specs.declared.place.Spot.{Spot}
use Rattle.block_model.specs.DatabaseState.{DatabaseState}
use Rattle.block_model.specs.TableState.{TableState}
use Rattle.store_layout.specs.declared.limits.TheConstants.{MAX_SESSIONS}
use Rattle.store_layout.specs.DiskLayout.{DiskLayout}
use Rattle.page_layout.specs.PageContents.{Slot}
use Rattle.page_locks.specs.LockHolders.{LockState, holder}
use Rattle.recovery.specs.PageMap.{PageMap}
use Rattle.recovery.specs.PageOrder.{AreInOrder}
use Rattle.heap_rows.specs.HeapBlocks.{HasBlocks}
use Rattle.transactions.specs.CountedRows.{counts}
use Rattle.transactions.specs.ShowsDatabase.{ShowsDatabase}
use Rattle.transactions.specs.TransactionsState.{TransactionsState}
use Rattle.coverage.specs.Machines.{Unseen, table_state}
use Rattle.coverage.specs.Table as protocol
use Rattle.coverage.specs.TableCovered.{IsTableAtRest, IsTableCovered}
use Rattle.index_steps.specs.ShownRows.{shown_by}

-- the transactions as they are started over pages whose next number is that one: none is open
abbrev pub opened_at : ℕ → TransactionsState
opened_at next = record { tx = record { first = next; next = next }; opens = replicate MAX_SESSIONS None }

-- the database of this table, in which no session has a transaction
abbrev pub database_with : (next : ℕ) → TableState → DatabaseState
database_with next table = record { next = next; table = table; sessions = map.empty }

-- Nobody is at anything: who holds no summarise lock, with these rows that count, and these tuples that were unnamed.
abbrev pub unseen_at_rest : (counts : ℕ → Bool) → (unnamed : ℕ → Spot → Bool) → Unseen
unseen_at_rest counts unnamed = record { summarise_lock = None; task = λ n. protocol.Resting; counts = counts; unnamed = unnamed }

-- nobody has the lock of a page
abbrev pub IsUnlocked : LockState → Type 0
IsUnlocked locks = (page : PagePlace) → holder locks page ≡ None

-- Nobody is at work in the table, and every index of it is covered. A placeholder that no statement builds, a tuple that the map doesn't name, a page that
-- was being evacuated and a page of the map that isn't counted may stand there, and a started block without a row.
pub record IsRestingTable (layout : DiskLayout) (pages : PageMap) (counted : ℕ → Bool) (table : ℕ) : Type 0 where
  pub blocks : List (List Slot)
  pub has : HasBlocks layout pages table blocks
  pub unnamed : ℕ → Spot → Bool
  pub rest : (locks : LockState) → IsUnlocked locks → IsTableAtRest (table_state (shown_by layout pages locks table blocks) (unseen_at_rest counted unnamed))
  pub covered : (locks : LockState) → IsUnlocked locks → IsTableCovered (table_state (shown_by layout pages locks table blocks) (unseen_at_rest counted unnamed))

-- The table of that number is the one that these pages hold: its rows, the entries and tuples of its indexes, and the kinds and room of their pages. Who holds
-- locks, what sessions are at, whose rows count and which tuples were left unnamed no page shows.
pub record IsTableOn (layout : DiskLayout) (pages : PageMap) (table : ℕ) (w : protocol.TableState) : Type 0 where
  pub blocks : List (List Slot)
  pub has : HasBlocks layout pages table blocks
  pub locks : LockState
  pub unseen : Unseen
  pub is : w ≡ table_state (shown_by layout pages locks table blocks) unseen

-- The pages are those of a store with this table: the rows that a commit put and no commit deleted. Each row's id is its own and of a number that isn't
-- unused; each table rests; and the pages stand in their order.
pub record IsStoreImage (layout : DiskLayout) (pages : PageMap) (table : TableState) : Type 0 where
  pub next : ℕ
  pub database : ShowsDatabase layout pages (opened_at next) (database_with next table)
  pub tables : (n : ℕ) → n < length layout.schema.tables → IsRestingTable layout pages (counts (opened_at next) database.stored) n
  pub order : AreInOrder layout pages
