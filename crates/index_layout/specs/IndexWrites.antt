-- what is written to pages of an index
use Rattle.std.specs.Prelude.{◌≡◌, ℕ, zero, suc, ◌+◌, ◌-◌, ◌*◌, ◌<◌, ◌≤◌, ◌⊎◌, ◌==◌, ◌&&◌, nat_le, nat_lt, Bool, true, false, List, [], ◌∷◌, ◌++◌, length, take, drop, set, slice_get, slice_index, Option, None, Some, if◌then◌else◌}
use Rattle.std.specs.Int.{bytes_high_first}
use Rattle.block_model.specs.declared.place.Spot.{Spot}
use Rattle.index_layout.specs.declared.format.TheConstants.{REGULAR}
use Rattle.index_layout.specs.IndexPages.{Slot}
use Rattle.index_layout.specs.IndexReading.{free_of, free_slot_of, is_regular, number_at, slots_of}

-- the slots with a tuple in slot n, which is there or the next one
abbrev pub put_in : List Slot → ℕ → List ℕ → List Slot
put_in slots n tuple = if nat_lt n (length slots) then set slots n (Some tuple) else slots ++ Some tuple ∷ []

-- a slot in front of others, unless it is free and there are none
abbrev pub before : Slot → List Slot → List Slot
before None [] = []
before slot slots = slot ∷ slots

-- the slots up to the last one that isn't free
unfoldable pub trimmed : List Slot → List Slot
trimmed [] = []
trimmed (slot ∷ slots) = before slot (trimmed slots)

-- slots of two bytes each, ascending from the least one, and all below the count
unfoldable pub are_ascending : ℕ → ℕ → List ℕ → Bool
are_ascending least count [] = true
are_ascending least count (high ∷ []) = false
are_ascending least count (high ∷ low ∷ slots) = (nat_le least (high * 256 + low) && nat_lt (high * 256 + low) count) && are_ascending (high * 256 + low + 1) count slots

-- the slots with those of two bytes each free
unfoldable pub dropped : List Slot → List ℕ → List Slot
dropped slots [] = slots
dropped slots (high ∷ []) = slots
dropped slots (high ∷ low ∷ rest) = dropped (set slots (high * 256 + low) None) rest

-- a free slot takes a tuple of so many bytes where they are free, the next slot where 4 more are
abbrev pub IsRoom : List Slot → ℕ → ℕ → Type 0
IsRoom slots n size = ((slice_get slots n ≡ Some None) × (size ≤ free_of slots)) ⊎ ((n ≡ length slots) × (size + 4 ≤ free_of slots))

-- the bytes of the greatest further tuple that has room, in a free slot or the next one
abbrev pub room_for_further : List Slot → ℕ
room_for_further slots = if nat_lt (free_slot_of slots) (length slots) then free_of slots else free_of slots - 4

-- and on a page: one that isn't of tuples, or is being evacuated, takes none
abbrev pub room_on : List ℕ → ℕ
room_on page = if slice_index page 0 == REGULAR then room_for_further (slots_of page) else 0

-- a page of tuples that isn't being evacuated has room in slot n
abbrev pub CanPut : List ℕ → ℕ → ℕ → Type 0
CanPut page n size = (slice_index page 0 ≡ REGULAR) × (0 < size) × IsRoom (slots_of page) n size

-- slot n has a tuple, in whose place one of so many bytes has room
abbrev pub IsRoomInPlace : List Slot → ℕ → ℕ → Type 0
IsRoomInPlace slots n size = (tuple : List ℕ) × (slice_get slots n ≡ Some (Some tuple)) × (size ≤ free_of slots + length tuple)

abbrev pub CanReplace : List ℕ → ℕ → ℕ → Type 0
CanReplace page n size = (slice_index page 0 ≡ REGULAR) × (0 < size) × IsRoomInPlace (slots_of page) n size

-- a page of tuples, also one that is being evacuated, has these slots
abbrev pub CanDrop : List ℕ → List ℕ → Type 0
CanDrop page slots = (is_regular (slice_index page 0) ≡ true) × (are_ascending 0 (length (slots_of page)) slots ≡ true)

-- the entry that names a spot; zeros name none
abbrev pub entry_for : Spot → Option Spot
entry_for spot = if spot.block + spot.slot == 0 then None else Some spot

-- a slot of these bytes: free where there are none
abbrev pub slot_with : List ℕ → Slot
slot_with [] = None
slot_with (byte ∷ bytes) = Some (byte ∷ bytes)

-- the offset of a tuple that ends at that place, and the length that stands there; the offset of a free slot is 0
abbrev pub laid_entry : ℕ → List ℕ → List ℕ
laid_entry end bytes = bytes_high_first 2 (if number_at bytes 2 2 == 0 then 0 else end - number_at bytes 2 2) ++ take 2 (drop 2 bytes)

-- this many slots of a directory with their offsets written anew, of tuples of which the first ends at that place
unfoldable pub laid : ℕ → ℕ → List ℕ → List ℕ
laid end zero bytes = bytes
laid end (suc n) bytes = laid_entry end bytes ++ laid (end - number_at bytes 2 2) n (drop 4 bytes)

-- the lengths of this many slots of a directory
unfoldable pub lengths_in : ℕ → List ℕ → ℕ
lengths_in zero bytes = 0
lengths_in (suc n) bytes = number_at bytes 2 2 + lengths_in n (drop 4 bytes)
