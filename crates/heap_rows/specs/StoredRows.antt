-- the rows of a page
use Rattle.std.specs.Prelude.{ℕ, ◌+◌, ◌≤◌, ◌<◌, List, [], ◌∷◌, None, Some, length}
use Rattle.std.specs.List.{All}
use Rattle.block_model.specs.declared.value.Kind.{Kind}
use Rattle.page_layout.specs.RowBytes.{StoredRow, IsRow}
use Rattle.page_layout.specs.PageContents.{Slot}
use Rattle.heap_rows.specs.declared.rows.Stored.{Stored}

-- a row and its slot
abbrev pub stored_in : ℕ → StoredRow → Stored
stored_in slot row = record { slot = slot; id = row.id; deleter = row.deleter; values = row.values }

-- the rows in use from a slot on, in order of slot
unfoldable pub stored_from : ℕ → List Slot → List Stored
stored_from slot [] = []
stored_from slot (None ∷ slots) = stored_from (slot + 1) slots
stored_from slot (Some row ∷ slots) = stored_in slot row ∷ stored_from (slot + 1) slots

-- the rows in use, in order of slot
abbrev pub stored_rows : List Slot → List Stored
stored_rows slots = stored_from 0 slots

-- rows, and how many there is room for
pub record RowsInRoom : Type 0 where
  pub rows : List Stored
  pub room : ℕ

-- the row without its slot
abbrev pub row_of : Stored → StoredRow
row_of stored = record { id = stored.id; deleter = stored.deleter; values = stored.values }

-- the slots ascend from the least one, and all are below the count
abbrev pub SlotsAscend : ℕ → ℕ → List Stored → Type 0
SlotsAscend least count [] = Unit {0}
SlotsAscend least count (stored ∷ rows) = (least ≤ stored.slot) × (stored.slot < count) × SlotsAscend (stored.slot + 1) count rows

-- rows of a page with that many slots: no more of them, each one of a table with columns of these kinds, in order of slot
pub record AreRowsOf (kinds : List Kind) (count : ℕ) (rows : List Stored) : Type 0 where
  pub few : length rows ≤ count
  pub each : All (λ stored. IsRow kinds (row_of stored)) rows
  pub ascending : SlotsAscend 0 count rows
