-- the rows of a block that are dead to all
use Rattle.std.specs.Prelude.{◌≡◌, ◌⊎◌, ℕ, ◌==◌, Bool, true, List, [], ◌∷◌, ◌++◌, length, None, Some, if◌then◌else◌}
use Rattle.block_model.specs.declared.place.Spot.{Spot}
use Rattle.coverage.specs.Counts.{HasGone, IsCountOf}
use Rattle.page_layout.specs.PageContents.{Slot}
use Rattle.page_layout.specs.RowBytes.{StoredRow}
use Rattle.snapshot_core.specs.Dead.{is_dead_to_all}
use Rattle.snapshot_core.specs.declared.snapshots.Snapshot.{Snapshot}
use Rattle.snapshot_core.specs.declared.statuses.Status.{Status}
use Rattle.snapshot_core.specs.declared.statuses.Status.TheVariants.{Unused}
use Rattle.tx_table.specs.Statuses.{shown_status}
use Rattle.heap_rows.specs.RowPlaces.{slot_at}
use Rattle.heap_rows.specs.declared.rows.Stored.{Stored}
use Rattle.heap_rows.specs.StoredRows.{row_of}

-- the snapshots by which rows are judged, and how each transaction stands; the number 0 is none's, and stays unused
pub record Living : Type 0 where
  pub live : List Snapshot
  pub status : ℕ → Status

abbrev pub living : List Snapshot → (first : ℕ) → List Status → Living
living live first statuses = record { live = live; status = λ t. if t == 0 then Unused else shown_status first statuses t }

-- no open transaction sees the row, and none will
abbrev pub is_dead : Living → StoredRow → Bool
is_dead by row = is_dead_to_all by.live row.deleter (by.status row.id.t) (by.status row.deleter)

-- the slots of the dead rows, in order
abbrev pub listed : Bool → ℕ → List ℕ → List ℕ
listed dead slot slots = if dead then slot ∷ slots else slots

unfoldable pub dead_slots : Living → List Stored → List ℕ
dead_slots by [] = []
dead_slots by (row ∷ rows) = listed (is_dead by (row_of row)) row.slot (dead_slots by rows)

-- these are the slots of some of the rows, in order
abbrev pub IsPicked : List ℕ → List Stored → Type 0
IsPicked slots [] = slots ≡ []
IsPicked slots (row ∷ rows) = IsPicked slots rows ⊎ ((rest : List ℕ) × (slots ≡ row.slot ∷ rest) × IsPicked rest rows)

-- the slot comes behind the others, or nothing does
abbrev pub AddsAtMost : (slot : ℕ) → (before after : List ℕ) → Type 0
AddsAtMost slot before after = (after ≡ before ++ slot ∷ []) ⊎ (after ≡ before)

-- Rows of one block have gone, so many; all else of the heap is as before.
pub record DropsFrom (old new : List (List Slot)) (block count : ℕ) : Type 0 where
  pub blocks : length new ≡ length old
  pub slots : (x : Spot) → (slot_at new x ≡ slot_at old x) ⊎ ((x.block ≡ block) × (slot_at new x ≡ None))
  pub counted : IsCountOf (λ k. HasGone (slot_at old (record { block = block; slot = k })) (slot_at new (record { block = block; slot = k }))) count

-- exactly the rows of the block that are dead to all have gone
pub record DropsTheDead (by : Living) (old new : List (List Slot)) (block : ℕ) : Type 0 where
  pub dead : (k : ℕ) (row : StoredRow) → slot_at old (record { block = block; slot = k }) ≡ Some row → is_dead by row ≡ true → slot_at new (record { block = block; slot = k }) ≡ None
  pub gone : (x : Spot) (row : StoredRow) → slot_at old x ≡ Some row → slot_at new x ≡ None → (x.block ≡ block) × (is_dead by row ≡ true)
