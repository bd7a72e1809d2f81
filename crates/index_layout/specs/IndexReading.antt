-- what stands on a page of an index, read from its bytes
use Rattle.std.specs.Prelude.{ℕ, zero, suc, ◌-◌, ◌==◌, ◌+◌, ◌||◌, Bool, List, [], ◌∷◌, length, drop, slice_index, Option, None, Some, if◌then◌else◌}
use Rattle.block_model.specs.declared.limits.TheConstants.{PAGE_ROOM}
use Rattle.block_model.specs.declared.place.Spot.{Spot}
use Rattle.byte_fields.specs.Fields.{field_at, number_of}
use Rattle.index_layout.specs.declared.format.TheConstants.{META, MAP, MAP_ENTRIES, REGULAR, EVACUATED}
use Rattle.index_layout.specs.IndexPages.{Slot, taken, tuple_bytes}

-- the number of n bytes from a place
abbrev pub number_at : List ℕ → ℕ → ℕ → ℕ
number_at bytes at n = number_of (field_at bytes at n)

-- the slot whose offset and length are the first of these bytes: free where the length is 0
abbrev pub slot_in : List ℕ → List ℕ → Slot
slot_in page bytes = if number_at bytes 2 2 == 0 then None else Some (field_at page (number_at bytes 0 2) (number_at bytes 2 2))

-- so many slots of a directory
unfoldable pub slots_in : List ℕ → ℕ → List ℕ → List Slot
slots_in page zero bytes = []
slots_in page (suc n) bytes = slot_in page bytes ∷ slots_in page n (drop 4 bytes)

-- a page of tuples, also one that is being evacuated
abbrev pub is_regular : ℕ → Bool
is_regular kind = kind == REGULAR || kind == EVACUATED

-- the slots of a page; one without tuples has none
unfoldable pub slots_of : List ℕ → List Slot
slots_of page = if is_regular (slice_index page 0) then slots_in page (number_at page 2 2) (drop 32 page) else []

-- the spot whose block and slot are the first of these bytes: none where they are zeros
abbrev pub entry_in : List ℕ → Option Spot
entry_in bytes = if number_at bytes 0 4 + number_at bytes 4 2 == 0 then None else Some (record { block = number_at bytes 0 4; slot = number_at bytes 4 2 })

-- so many entries of a map
unfoldable pub entries_in : ℕ → List ℕ → List (Option Spot)
entries_in zero bytes = []
entries_in (suc n) bytes = entry_in bytes ∷ entries_in n (drop 8 bytes)

-- the entries of a page; one that isn't of the map has none
unfoldable pub entries_of : List ℕ → List (Option Spot)
entries_of page = if slice_index page 0 == MAP then entries_in MAP_ENTRIES (drop 32 page) else []

-- the number of map pages; a page that isn't the metapage has none
unfoldable pub map_pages_of : List ℕ → ℕ
map_pages_of page = if slice_index page 0 == META then number_at page 32 4 else 0

-- where the tuple of slot n would end, of slots of which the first tuple ends at that place
unfoldable pub end_from : ℕ → ℕ → List Slot → ℕ
end_from end zero slots = end
end_from end (suc n) [] = end
end_from end (suc n) (slot ∷ slots) = end_from (end - length (tuple_bytes slot)) n slots

-- the bytes of a page that no slot takes
abbrev pub free_of : List Slot → ℕ
free_of slots = PAGE_ROOM - taken slots

-- the lowest slot that is free, else the next one
unfoldable pub free_slot_of : List Slot → ℕ
free_slot_of [] = 0
free_slot_of (None ∷ slots) = 0
free_slot_of (Some tuple ∷ slots) = suc (free_slot_of slots)
