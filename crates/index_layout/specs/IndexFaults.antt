-- the first field of an index's page whose rule is broken, as its place on the page
use Rattle.std.specs.Prelude.{ℕ, zero, suc, ◌+◌, ◌-◌, ◌*◌, ◌==◌, nat_le, Bool, not, List, take, drop, slice_index, Option, None, Some, if◌then◌else◌}
use Rattle.std.specs.List.{position}
use Rattle.block_model.specs.declared.limits.TheConstants.{PAGE_ROOM, PAGE_SIZE}
use Rattle.index_layout.specs.declared.format.TheConstants.{UNSTARTED, META, MAP, MAP_ENTRIES}
use Rattle.index_layout.specs.IndexReading.{is_regular, number_at}

-- a fault of the part before, or of the part behind it
abbrev pub first_of : Option ℕ → Option ℕ → Option ℕ
first_of (Some at) later = Some at
first_of None later = later

-- a fault of a part that begins n bytes on
abbrev pub shifted : ℕ → Option ℕ → Option ℕ
shifted n (Some at) = Some (n + at)
shifted n None = None

-- a field at a place that holds a fact
abbrev pub fault_unless : Bool → ℕ → Option ℕ
fault_unless holds at = if holds then None else Some at

-- each of these bytes is a field that is zero
abbrev pub zeros_fault : List ℕ → Option ℕ
zeros_fault bytes = position (λ byte. not (byte == 0)) bytes

-- Offset and length of a slot whose tuple ends at that place. The offset of a free slot is 0, that of a tuple is where it begins;
-- the last slot has a length, and no tuple begins below the floor, where the directory ends.
abbrev pub slot_fault : ℕ → ℕ → Bool → ℕ → ℕ → Option ℕ
slot_fault floor end last offset size =
    if size == 0 then first_of (fault_unless (offset == 0) 0) (fault_unless (not last) 2)
    else first_of (fault_unless (offset + size == end) 0) (fault_unless (nat_le floor offset) 2)

-- this many slots of a directory, and the zeros between it and the last tuple
unfoldable pub directory_fault : ℕ → ℕ → ℕ → List ℕ → Option ℕ
directory_fault floor end zero bytes = zeros_fault (take (end - floor) bytes)
directory_fault floor end (suc n) bytes = first_of (slot_fault floor end (n == 0) (number_at bytes 0 2) (number_at bytes 2 2)) (shifted 4 (directory_fault floor (end - number_at bytes 2 2) n (drop 4 bytes)))

-- a zero, a number of slots whose directory has room, 28 zeros, and the slots
unfoldable pub regular_fault : List ℕ → Option ℕ
regular_fault page =
    first_of (fault_unless (slice_index page 1 == 0) 1)
    (first_of (fault_unless (nat_le (number_at page 2 2 * 4) PAGE_ROOM) 2)
    (first_of (shifted 4 (zeros_fault (take 28 (drop 4 page))))
    (shifted 32 (directory_fault (32 + number_at page 2 2 * 4) PAGE_SIZE (number_at page 2 2) (drop 32 page)))))

-- every four bytes are a number of map pages, and zeros follow
unfoldable pub meta_fault : List ℕ → Option ℕ
meta_fault page = first_of (shifted 1 (zeros_fault (take 31 (drop 1 page)))) (shifted 36 (zeros_fault (drop 36 page)))

-- every six bytes are block and slot, and two zeros follow
unfoldable pub entries_fault : ℕ → List ℕ → Option ℕ
entries_fault zero bytes = None
entries_fault (suc n) bytes = first_of (shifted 6 (zeros_fault (take 2 (drop 6 bytes)))) (shifted 8 (entries_fault n (drop 8 bytes)))

unfoldable pub map_fault : List ℕ → Option ℕ
map_fault page = first_of (shifted 1 (zeros_fault (take 31 (drop 1 page)))) (shifted 32 (entries_fault MAP_ENTRIES (drop 32 page)))

-- a page isn't started, or is of one of the four kinds
unfoldable pub index_fault : List ℕ → Option ℕ
index_fault page =
    if slice_index page 0 == UNSTARTED then zeros_fault page
    else (if slice_index page 0 == META then meta_fault page
    else (if slice_index page 0 == MAP then map_fault page
    else (if is_regular (slice_index page 0) then regular_fault page
    else Some 0)))
