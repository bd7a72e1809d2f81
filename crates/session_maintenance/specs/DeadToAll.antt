-- The rows that are dead to all by snapshots and statuses are those that are dead by the journal.
use Rattle.std.specs.Prelude.{◌≡◌, ◌↔◌, ℕ, ◌<◌, IsTrue, List, [], ◌∷◌, length, Option, None, Some}
use Rattle.block_model.specs.declared.place.Spot.{Spot}
use Rattle.block_model.specs.declared.row.Row.{Row}
use Rattle.page_layout.specs.PageContents.{Slot}
use Rattle.page_layout.specs.RowBytes.{StoredRow}
use Rattle.heap_rows.specs.HeapBlocks.{HasBlocks}
use Rattle.index_steps.specs.ShownRows.{rows_in}
use Rattle.snapshot_core.specs.declared.snapshots.Snapshot.{Snapshot}
use Rattle.snapshot_core.specs.declared.statuses.Status.{Status}
use Rattle.snapshot_core.specs.declared.sessions.Open.{Open}
use Rattle.snapshot_core.specs.OldestOpen.{oldest_of}
use Rattle.transactions.specs.StoredRows.{StandsAt}
use Rattle.transactions.specs.TransactionsState.{TransactionsState}
use Rattle.vacuum_core.specs.DeadRows.{DropsTheDead, Living, is_dead, living}
use Rattle.vacuum_core.specs.TableSteps.{has_gone}
use Rattle.script_semantics.specs.DeadRows.{IsDead}
use Rattle.script_semantics.specs.Place.{Place}
use Rattle.session_parts.specs.ShowsPlace.{IsPlaceOf}
use Rattle.session_parts.specs.StoreStates.{ShownStore}

-- the snapshots of the open transactions
abbrev pub snapshots_of : List (Option Open) → List Snapshot
snapshots_of [] = []
snapshots_of (None ∷ places) = snapshots_of places
snapshots_of (Some o ∷ places) = o.snapshot ∷ snapshots_of places

-- these, and how each transaction stands by the statuses
abbrev pub living_of : TransactionsState → List Status → Living
living_of t stored = living (snapshots_of t.opens) t.tx.first stored

-- of the rows that stand in a table of a store
abbrev pub DeadToAllIsDead : Type 0
DeadToAllIsDead = (s : ShownStore) (p : Place) (table : ℕ) (spot : Spot) (row : StoredRow) → (shown : IsPlaceOf s p)
    → table < length s.layout.schema.tables → StandsAt s.layout s.pages table spot row
    → IsTrue (is_dead (living_of s.transactions shown.database.stored) row) ↔ IsDead p row.id

-- where exactly the rows of a block go that are dead to all, the dead by the journal go
abbrev pub DropsTheDeadByJournal : Type 0
DropsTheDeadByJournal = (s : ShownStore) (p : Place) (table block : ℕ) (blocks blocked : List (List Slot)) → (shown : IsPlaceOf s p)
    → table < length s.layout.schema.tables → HasBlocks s.layout s.pages table blocks
    → DropsTheDead (living_of s.transactions shown.database.stored) blocks blocked block → (k : ℕ)
    → IsTrue (has_gone (rows_in table blocks block k) (rows_in table blocked block k)) ↔ ((r : Row) × (rows_in table blocks block k ≡ Some r) × IsDead p r.id)

-- ---- the oldest view speaks for all

abbrev pub snapshot_in : Option Open → List Snapshot
snapshot_in None = []
snapshot_in (Some o) = o.snapshot ∷ []

-- the snapshot of the open transaction with the oldest view, if one is open
abbrev pub oldest_snapshots : List (Option Open) → List Snapshot
oldest_snapshots opens = snapshot_in (oldest_of opens)

-- where exactly the rows of a block go that are dead by its snapshot alone, exactly those that are dead to all go
abbrev pub OldestSpeaksForAll : Type 0
OldestSpeaksForAll = (s : ShownStore) (p : Place) (table block : ℕ) (blocks blocked : List (List Slot)) → (shown : IsPlaceOf s p)
    → table < length s.layout.schema.tables → HasBlocks s.layout s.pages table blocks
    → DropsTheDead (living (oldest_snapshots s.transactions.opens) s.transactions.tx.first shown.database.stored) blocks blocked block
    → DropsTheDead (living_of s.transactions shown.database.stored) blocks blocked block
