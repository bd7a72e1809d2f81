-- whether a transaction can't delete the row that a delete found
use Rattle.std.specs.Prelude.{◌≡◌, ℕ, Bool, List, Some}
use Rattle.disk_trait.specs.Told.{Told}
use Rattle.page_layout.specs.PageContents.{Slot}
use Rattle.page_layout.specs.RowBytes.{StoredRow}
use Rattle.page_map.specs.Keeps.{Tells}
use Rattle.page_map.specs.PageMap.{View}
use Rattle.heap_rows.specs.HeapBlocks.{HasBlocks}
use Rattle.heap_rows.specs.RowPlaces.{slot_at}
use Rattle.snapshot_core.specs.declared.statuses.Status.{Status}
use Rattle.tx_table.specs.Statuses.{HasStatuses}
use Rattle.transactions.specs.StoredRows.{conflicts_with}
use Rattle.session_parts.specs.declared.hand.Hit.{Hit}

-- it is as said, by the statuses and by the row that stands at the hit's spot now, where the disk tells its contents
abbrev pub HitConflicts : {D : Type 0} → (D → Told) → View D → (first table : ℕ) → Hit → (own : ℕ) → (conflicts : Bool) → Type 0
HitConflicts told store first table hit own conflicts = Tells told store → (stored : List Status) (blocks : List (List Slot)) (row : StoredRow)
    → HasStatuses store.layout store.pages stored → HasBlocks store.layout store.pages table blocks → slot_at blocks hit.spot ≡ Some row → row.id ≡ hit.id
    → conflicts ≡ conflicts_with first stored own row
