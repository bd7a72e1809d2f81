-- the changes of pages that the log tells
use Rattle.std.specs.Prelude.{◌≡◌, ℕ, ◌<◌, ◌≤◌, ◌^◌, ◌%◌, List, length}
use Rattle.block_model.specs.declared.limits.TheConstants.{PAGE_SIZE}
use Rattle.block_model.specs.declared.place.Place.{Place}
use Rattle.block_model.specs.declared.place.Spot.{Spot}
use Rattle.wal_record.specs.declared.change.Change.{Change}
use Rattle.wal_record.specs.declared.change.Change.TheVariants as code

-- a change without where its bytes lie in memory
pub data LoggedChange : Type 0 where
  FullPage : Place → List ℕ → LoggedChange
  PageStart : Place → ℕ → LoggedChange
  RowPut : Place → ℕ → List ℕ → LoggedChange
  RowMark : Place → ℕ → ℕ → LoggedChange
  RowsDrop : Place → List ℕ → LoggedChange
  TuplePut : Place → ℕ → List ℕ → LoggedChange
  TupleReplace : Place → ℕ → List ℕ → LoggedChange
  TupleDrop : Place → List ℕ → LoggedChange
  Evacuate : Place → LoggedChange
  MapPage : Place → LoggedChange
  MapSet : Place → ℕ → Spot → LoggedChange
  MetaSet : Place → ℕ → LoggedChange
  StatusSet : Place → ℕ → ℕ → LoggedChange

-- the change that a program has in hand
abbrev pub logged : Change → LoggedChange
logged (code.FullPage place bytes) = FullPage place bytes.now
logged (code.PageStart place kind) = PageStart place kind
logged (code.RowPut place slot bytes) = RowPut place slot bytes.now
logged (code.RowMark place slot deleter) = RowMark place slot deleter
logged (code.RowsDrop place slots) = RowsDrop place slots.now
logged (code.TuplePut place slot bytes) = TuplePut place slot bytes.now
logged (code.TupleReplace place slot bytes) = TupleReplace place slot bytes.now
logged (code.TupleDrop place slots) = TupleDrop place slots.now
logged (code.Evacuate place) = Evacuate place
logged (code.MapPage place) = MapPage place
logged (code.MapSet place entry spot) = MapSet place entry spot
logged (code.MetaSet place maps) = MetaSet place maps
logged (code.StatusSet place entry status) = StatusSet place entry status

-- two bytes a slot, of at most 65535 slots
abbrev pub AreSlots : List ℕ → Type 0
AreSlots slots = (length slots % 2 ≡ 0) × (length slots ≤ 131070)

-- what a change carries has a size that its bytes can tell
abbrev pub HasSizes : LoggedChange → Type 0
HasSizes (FullPage place bytes) = length bytes ≡ PAGE_SIZE
HasSizes (RowPut place slot bytes) = length bytes ≤ 65535
HasSizes (RowsDrop place slots) = AreSlots slots
HasSizes (TuplePut place slot bytes) = length bytes ≤ 65535
HasSizes (TupleReplace place slot bytes) = length bytes ≤ 65535
HasSizes (TupleDrop place slots) = AreSlots slots
HasSizes change = Unit {0}

-- the page that is changed
abbrev pub place_of : LoggedChange → Place
place_of (FullPage place bytes) = place
place_of (PageStart place kind) = place
place_of (RowPut place slot bytes) = place
place_of (RowMark place slot deleter) = place
place_of (RowsDrop place slots) = place
place_of (TuplePut place slot bytes) = place
place_of (TupleReplace place slot bytes) = place
place_of (TupleDrop place slots) = place
place_of (Evacuate place) = place
place_of (MapPage place) = place
place_of (MapSet place entry spot) = place
place_of (MetaSet place maps) = place
place_of (StatusSet place entry status) = place

-- the numbers behind the place are within their fields
abbrev pub NumbersFit : LoggedChange → Type 0
NumbersFit (RowPut place slot bytes) = slot < 2 ^ 16
NumbersFit (RowMark place slot deleter) = (slot < 2 ^ 16) × (deleter < 2 ^ 64)
NumbersFit (TuplePut place slot bytes) = slot < 2 ^ 16
NumbersFit (TupleReplace place slot bytes) = slot < 2 ^ 16
NumbersFit (MapSet place entry spot) = (entry < 2 ^ 16) × (spot.block < 2 ^ 32) × (spot.slot < 2 ^ 16)
NumbersFit (MetaSet place maps) = maps < 2 ^ 32
NumbersFit (StatusSet place entry status) = entry < 2 ^ 16
NumbersFit change = Unit {0}

-- a change as the log can tell it
pub record IsChange (change : LoggedChange) : Type 0 where
  pub sizes : HasSizes change
  pub block : (place_of change).block < 2 ^ 32
  pub numbers : NumbersFit change
