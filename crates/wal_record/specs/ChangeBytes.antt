-- the bytes of a change: its tag, its place, and what it carries
use Rattle.std.specs.Prelude.{◌≡◌, ℕ, ◌/◌, ◌&&◌, List, [], ◌∷◌, ◌++◌, length, drop, nat_le, if◌then◌else◌}
use Rattle.std.specs.Int.{bytes_high_first}
use Rattle.block_model.specs.declared.place.Place.{Place}
use Rattle.block_model.specs.declared.place.Spot.{Spot}
use Rattle.wal_record.specs.Changes.{LoggedChange, FullPage, PageStart, RowPut, RowMark, RowsDrop, TuplePut, TupleReplace, TupleDrop, Evacuate, MapPage, MapSet, MetaSet, StatusSet}

-- the relation, and four bytes of block
abbrev pub place_bytes : Place → List ℕ
place_bytes place = place.relation ∷ bytes_high_first 4 place.block

-- four bytes of block, and two of slot
abbrev pub spot_bytes : Spot → List ℕ
spot_bytes spot = bytes_high_first 4 spot.block ++ bytes_high_first 2 spot.slot

-- two bytes of length, and that many bytes
abbrev pub counted_bytes : List ℕ → List ℕ
counted_bytes bytes = bytes_high_first 2 (length bytes) ++ bytes

-- two bytes of count, and two bytes for each slot
abbrev pub counted_slots : List ℕ → List ℕ
counted_slots slots = bytes_high_first 2 (length slots / 2) ++ slots

-- two bytes of slot, and the bytes of what is put there
abbrev pub put_bytes : ℕ → List ℕ → List ℕ
put_bytes slot bytes = bytes_high_first 2 slot ++ counted_bytes bytes

-- the tag, the place, and what the change carries
abbrev pub tagged : ℕ → Place → List ℕ → List ℕ
tagged tag place carried = tag ∷ (place_bytes place ++ carried)

-- by the kind of the change: its tag, and what it carries behind its place
unfoldable pub bytes_of : LoggedChange → List ℕ
bytes_of (FullPage place bytes) = tagged 1 place bytes
bytes_of (PageStart place kind) = tagged 2 place (kind ∷ [])
bytes_of (RowPut place slot bytes) = tagged 3 place (put_bytes slot bytes)
bytes_of (RowMark place slot deleter) = tagged 4 place (bytes_high_first 2 slot ++ bytes_high_first 8 deleter)
bytes_of (RowsDrop place slots) = tagged 5 place (counted_slots slots)
bytes_of (TuplePut place slot bytes) = tagged 6 place (put_bytes slot bytes)
bytes_of (TupleReplace place slot bytes) = tagged 7 place (put_bytes slot bytes)
bytes_of (TupleDrop place slots) = tagged 8 place (counted_slots slots)
bytes_of (Evacuate place) = tagged 9 place []
bytes_of (MapPage place) = tagged 10 place []
bytes_of (MapSet place entry spot) = tagged 11 place (bytes_high_first 2 entry ++ spot_bytes spot)
bytes_of (MetaSet place maps) = tagged 12 place (bytes_high_first 4 maps)
bytes_of (StatusSet place entry status) = tagged 13 place (bytes_high_first 2 entry ++ status ∷ [])

-- the bytes begin with those of the front
abbrev pub IsFront : List ℕ → List ℕ → Type 0
IsFront front bytes = (rest : List ℕ) × (bytes ≡ front ++ rest)

-- where bytes that no change begins can't go on: at a tag that none has, else at their end
abbrev pub fault_place : List ℕ → ℕ
fault_place [] = 0
fault_place (tag ∷ bytes) = if nat_le 1 tag && nat_le tag 13 then length (tag ∷ bytes) else 0

-- the bytes stand at the front of what was there, which stays behind them
abbrev pub IsWritten : List ℕ → List ℕ → List ℕ → Type 0
IsWritten old new bytes = new ≡ bytes ++ drop (length bytes) old
