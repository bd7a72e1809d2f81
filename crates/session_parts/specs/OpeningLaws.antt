-- the place that an opened store shows
use Rattle.std.specs.Prelude.{◌≡◌, ℕ, ◌<◌, Bool, List, [], length, None}
use Rattle.block_model.specs.declared.place.Spot.{Spot}
use Rattle.block_model.specs.DatabaseState.{DatabaseState}
use Rattle.page_layout.specs.PageContents.{Slot}
use Rattle.page_locks.specs.RightHolders.{right_of}
use Rattle.recovery.specs.PageOrder.{IsIndexInOrder}
use Rattle.heap_rows.specs.HeapBlocks.{HasBlocks}
use Rattle.snapshot_core.specs.declared.statuses.Status.{Status}
use Rattle.transactions.specs.CountedRows.{counts as counts_of}
use Rattle.transactions.specs.Laws.{IsOpened}
use Rattle.transactions.specs.ShowsDatabase.{ShowsDatabase}
use Rattle.index_contents.specs.IndexContents.{index_page}
use Rattle.coverage.specs.Accounts.{no_account}
use Rattle.coverage.specs.Machines.{table_state}
use Rattle.coverage.specs.Table.{Resting, TableState}
use Rattle.coverage.specs.TableCovered.{IsTableKept}
use Rattle.script_semantics.specs.ShownRows.{shown_by}
use Rattle.script_semantics.specs.Place.{Place}
use Rattle.session_parts.specs.ShowsPlace.{IsPlaceOf}
use Rattle.session_parts.specs.StoreStates.{ShownStore, dropped_in, hand_in}

-- the table that the pages show, and which is kept, while nobody is at anything, and these tuples were unnamed
pub record IsTableOpened (s : ShownStore) (stored : List Status) (table : ℕ) (w : TableState) : Type 0 where
  pub blocks : List (List Slot)
  pub has : HasBlocks s.layout s.pages table blocks
  pub unnamed : ℕ → Spot → Bool
  pub is : w ≡ table_state (shown_by s.layout s.pages s.locks table blocks) (record { summarise_lock = None; task = λ n. Resting; counts = counts_of s.transactions stored; unnamed = unnamed })
  pub free : right_of s.rights table ≡ None
  pub kept : IsTableKept w

-- nobody has anything in hand, and nothing was asked of it
abbrev pub place_opened : ShownStore → DatabaseState → (tables : ℕ → TableState) → Place
place_opened s opening tables = record {
  layout = s.layout;
  opening = opening;
  names = s.names;
  hands = λ n. None;
  tables = tables;
  accounts = λ n. no_account;
  queue = [];
  journal = [];
}

abbrev pub OpenedIsShown : Type 0
OpenedIsShown = (s : ShownStore) (opening : DatabaseState) (tables : ℕ → TableState) → s.entries ≡ [] → s.queue ≡ [] → ((n : ℕ) → dropped_in s.dropped n ≡ []) → ((n : ℕ) → hand_in s.hands n ≡ None)
    → IsOpened s.transactions → (database : ShowsDatabase s.layout s.pages s.transactions opening)
    → ((table : ℕ) → table < length s.layout.schema.tables → IsTableOpened s database.stored table (tables table))
    → ((index : ℕ) → index < length s.layout.schema.indexes → IsIndexInOrder s.layout.sizes.index_blocks (index_page s.layout s.pages index))
    → IsPlaceOf s (place_opened s opening tables)
