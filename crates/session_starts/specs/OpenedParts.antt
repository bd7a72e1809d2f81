-- a store of sessions as it begins
use Rattle.std.specs.Prelude.{◌≡◌, ℕ, List, [], length, None, Ok, Err, ⊤}
use Rattle.block_model.specs.declared.place.Place.{Place as PagePlace}
use Rattle.disk_trait.specs.Told.{Told}
use Rattle.store_layout.specs.DiskLayout.{DiskLayout}
use Rattle.page_locks.specs.LockCounts.{locks_of}
use Rattle.page_locks.specs.LockHolders.{holder}
use Rattle.page_locks.specs.RightHolders.{right_of}
use Rattle.page_map.specs.Keeps.{Untold}
use Rattle.page_map.specs.Outcome.{Outcome}
use Rattle.page_map.specs.PageMap.{View}
use Rattle.page_map.specs.declared.faults.MachineFault.{MachineFault}
use Rattle.snapshot_core.specs.StoredVersions.{transaction_of}
use Rattle.snapshot_core.specs.declared.statuses.Status.{Status}
use Rattle.tx_table.specs.Statuses.{HasStatuses}
use Rattle.tx_table.specs.TxState.{IsNext, IsOver}
use Rattle.transactions.specs.Laws.{IsOpened}
use Rattle.transactions.specs.StartAnswers.{StartOutcome}
use Rattle.script_semantics.specs.Place.{Place}
use Rattle.script_semantics.specs.Starts.{IsStart}
use Rattle.session_parts.specs.declared.limits.TheConstants.{MAX_LOCKS}
use Rattle.session_parts.specs.declared.parts.Parts.{Parts}
use Rattle.session_parts.specs.ShowsPlace.{ShowsPlace}
use Rattle.session_parts.specs.StoreStates.{ShownStore, StoreState, dropped_in, hand_in}
use Rattle.session_starts.specs.FreshPages.{fresh_pages}

-- The transactions are started over the pages and none is open, nobody has the lock of a page or the summarise lock of a table, the journal has no request
-- and promises none, and no summary was asked for.
pub record AreOpened {D : Type 0} (told : D → Told) (parts : Parts D) : Type 0 where
  pub over : IsOver told parts.transactions.tx parts.pages
  pub opened : IsOpened parts.transactions
  pub idle : (session : ℕ) → transaction_of parts.transactions.opens session ≡ None
  pub limit : parts.locks.limit ≡ MAX_LOCKS
  pub unlocked : (page : PagePlace) → holder parts.locks page ≡ None
  pub locks : (session : ℕ) → locks_of parts.locks session ≡ 0
  pub rights : length parts.rights ≡ length parts.pages.layout.schema.tables
  pub free : (table : ℕ) → right_of parts.rights table ≡ None
  pub entries : parts.journal.entries ≡ []
  pub promised : parts.journal.promised ≡ 0
  pub queue : parts.queue ≡ []
  pub dropped : (session : ℕ) → dropped_in parts.dropped session ≡ []

-- a store over the pages of a new one, whose transactions are started and in which nothing was done
pub record IsNewStore (s : ShownStore) : Type 0 where
  pub pages : s.pages ≡ fresh_pages s.layout
  pub opened : IsOpened s.transactions
  pub stored : List Status
  pub has : HasStatuses s.layout s.pages stored
  pub next : IsNext stored s.transactions.tx.next
  pub unlocked : (page : PagePlace) → holder s.locks page ≡ None
  pub free : (table : ℕ) → right_of s.rights table ≡ None
  pub entries : s.entries ≡ []
  pub queue : s.queue ≡ []
  pub dropped : (n : ℕ) → dropped_in s.dropped n ≡ []
  pub names : s.names ≡ []
  pub hands : (n : ℕ) → hand_in s.hands n ≡ None

-- the store shows a place at which a script begins over that layout
abbrev pub ShowsStart : {D : Type 0} → DiskLayout → StoreState D → Type 0
ShowsStart layout s = (p : Place) × IsStart layout p × ShowsPlace s p

-- the start of a store's transactions is done, or refused
abbrev pub IsDone : {D : Type 0} → (D → Told) → View D → View D → Type 0
IsDone told old new = Outcome {T = ⊤} told (Untold told old) old new (Ok tt)

abbrev pub IsRefused : {D : Type 0} → (D → Told) → View D → View D → MachineFault → Type 0
IsRefused told old new fault = StartOutcome {T = ⊤} told old new (Err fault)
