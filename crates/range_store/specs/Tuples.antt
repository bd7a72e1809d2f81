-- what the calls on the tuples of an index answer
use Rattle.std.specs.Prelude.{◌≡◌, ◌≢◌, ◌⊎◌, ℕ, ◌+◌, ◌*◌, ◌≤◌, ◌<◌, ◌==◌, nat_lt, List, length, slice_index, None, Some, Result, Ok, Err, if◌then◌else◌}
use Rattle.block_model.specs.declared.place.Place.{Place}
use Rattle.block_model.specs.declared.place.Spot.{Spot}
use Rattle.byte_fields.specs.Fields.{field_at, number_of}
use Rattle.store_layout.specs.DiskLayout.{DiskLayout}
use Rattle.disk_trait.specs.Told.{Told}
use Rattle.page_map.specs.Keeps.{Untold}
use Rattle.page_map.specs.Outcome.{IsReopen, NamesPage, Outcome, Refused}
use Rattle.page_map.specs.PageMap.{View}
use Rattle.index_contents.specs.TheConstants.{REGULAR, UNSTARTED}
use Rattle.index_contents.specs.IndexPages.{Slot, tuple_bytes}
use Rattle.index_contents.specs.IndexReading.{free_slot_of, number_at, slots_of}
use Rattle.coverage.specs.IndexView.{Pages, Regular, most_bytes}
use Rattle.coverage.specs.Rooms.{page_room}
use Rattle.coverage.specs.Verdicts.{IsLowestNumber, IsPageUnstarted, MustMove}
use Rattle.index_contents.specs.IndexContents.{IndexContents, room_in_place, tuple_on}
use Rattle.range_store.specs.declared.putting.Opening.{Opening}
use Rattle.range_store.specs.declared.putting.Opening.TheVariants as openings
use Rattle.range_store.specs.declared.faults.SwapFault.{SwapFault}
use Rattle.range_store.specs.declared.faults.SwapFault.TheVariants as faults

-- a tuple isn't empty, and has room on a page
abbrev pub IsTupleSize : ℕ → Type 0
IsTupleSize size = (0 < size) × (size ≤ most_bytes)

-- the first four bytes of a tuple are the number of its range
abbrev pub IsOfRange : List ℕ → ℕ → Type 0
IsOfRange bytes range = (4 ≤ length bytes) × (number_of (field_at bytes 0 4) ≡ range)

-- a page takes so many bytes: it is one for tuples with that much room, or isn't started
abbrev pub TakesBytes : Pages → (Spot → Slot) → ℕ → ℕ → Type 0
TakesBytes pages bytes need block = ((pages.kind block ≡ Regular) × (need ≤ page_room bytes block)) ⊎ IsPageUnstarted pages block

-- no page before one that isn't started is unstarted, too
abbrev pub IsFirstUnstarted : Pages → ℕ → Type 0
IsFirstUnstarted pages block = IsPageUnstarted pages block → IsLowestNumber (IsPageUnstarted pages) block

-- so many bytes of a page from a place on are a tuple; where they are none there is none
abbrev pub tuple_from : List ℕ → ℕ → ℕ → Slot
tuple_from page at size = if size == 0 then None else Some (field_at page at size)

-- where the directory of a page has the tuple in a slot begin: 0 where the slot is free, and where there is no such slot
abbrev pub place_on : List ℕ → ℕ → ℕ
place_on page slot = if nat_lt slot (length (slots_of page)) then number_at page (32 + slot * 4) 2 else 0

-- how many bytes a slot's tuple has: none where it is free
abbrev pub size_of : Slot → ℕ
size_of slot = length (tuple_bytes slot)

-- Why bytes aren't replaced: others stand at the spot, which are shown by their place on the page and how many they are, or none;
-- or those that are expected stand there, and the new ones have more than the most that may take their place, or the page takes none.
abbrev pub ShowsMisfit : IndexContents → List ℕ → Spot → List ℕ → ℕ → SwapFault → Type 0
ShowsMisfit c page x expect size (faults.Changed found at) = (c.bytes x ≡ tuple_from page at found) × (found ≡ size_of (c.bytes x)) × (at ≡ place_on page x.slot) × (c.bytes x ≢ Some expect)
ShowsMisfit c page x expect size (faults.Full need most_free) = (c.bytes x ≡ Some expect) × MustMove c.pages c.bytes x size × (need ≡ size) × (most_free ≡ room_in_place page x.slot)
ShowsMisfit c page x expect size (faults.Store error) = Unit {0}

-- damage is told by the byte at which the page of the spot begins
abbrev pub FaultNamesPlace : DiskLayout → Place → SwapFault → Type 0
FaultNamesPlace layout place (faults.Store error) = NamesPage layout place error
FaultNamesPlace layout place fault = Unit {0}

-- a tuple that has no room stands on a page that the index may have, and only such a page is found damaged
abbrev pub StandsWithin : ℕ → ℕ → SwapFault → Type 0
StandsWithin limit block (faults.Full need most_free) = block < limit
StandsWithin limit block (faults.Store error) = limit ≤ block → IsReopen error
StandsWithin limit block (faults.Changed found at) = Unit {0}

-- A replace is done or refused as the page store does or refuses. Other bytes, and want of room, are told only where no disk
-- fault was kept.
abbrev pub SwapOutcome : {D T : Type 0} → (D → Told) → View D → View D → Result T SwapFault → Type 0
SwapOutcome told old new (Ok done) = Outcome told (Untold told old) old new (Ok done)
SwapOutcome told old new (Err (faults.Store error)) = Refused told (Untold told old) old new error
SwapOutcome told old new (Err fault) = Outcome told (Untold told old) old new (Ok fault)

-- where a further tuple may stand: on a page that takes tuples in the lowest free slot, else in the next one; on one that isn't
-- started in its first one; on no other page
abbrev pub opening_of : List ℕ → Opening
opening_of page =
    if slice_index page 0 == REGULAR then openings.Slot (free_slot_of (slots_of page))
    else (if slice_index page 0 == UNSTARTED then openings.NewPage
    else openings.Closed)

-- the expected bytes stand in the slot, and so many have room in their place
abbrev pub TakesInPlace : List ℕ → ℕ → List ℕ → ℕ → Type 0
TakesInPlace page slot expect need = (tuple_on page slot ≡ Some expect) × (slice_index page 0 ≡ REGULAR) × (need ≤ room_in_place page slot)

-- other bytes stand in the slot, or the new ones have no room in place of the expected ones
abbrev pub MisfitsOn : List ℕ → ℕ → List ℕ → ℕ → SwapFault → Type 0
MisfitsOn page slot expect size (faults.Changed found at) = (tuple_on page slot ≡ tuple_from page at found) × (found ≡ size_of (tuple_on page slot)) × (at ≡ place_on page slot) × (tuple_on page slot ≢ Some expect)
MisfitsOn page slot expect size (faults.Full need most_free) = (tuple_on page slot ≡ Some expect) × (most_free < size) × (need ≡ size) × (most_free ≡ room_in_place page slot)
MisfitsOn page slot expect size (faults.Store error) = Unit {0}

-- other bytes, or want of room: no refusal of the page store
abbrev pub IsMisfit : SwapFault → Type 0
IsMisfit (faults.Store error) = ⊥
IsMisfit fault = Unit {0}

-- the tuple in the slot has that length and place on the page
abbrev pub IsFound : List ℕ → ℕ → SwapFault → Type 0
IsFound page slot (faults.Changed found at) = (tuple_on page slot ≡ tuple_from page at found) × (found ≡ size_of (tuple_on page slot)) × (at ≡ place_on page slot)
IsFound page slot fault = ⊥
