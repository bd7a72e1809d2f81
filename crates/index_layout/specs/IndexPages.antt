-- the pages of an index as lists
use Rattle.std.specs.Prelude.{◌≡◌, ℕ, ◌+◌, ◌-◌, ◌<◌, ◌≤◌, ◌^◌, ◌⊎◌, List, [], ◌∷◌, ◌++◌, length, replicate, Option, None, Some}
use Rattle.std.specs.Int.{bytes_high_first}
use Rattle.block_model.specs.declared.limits.TheConstants.{PAGE_ROOM, PAGE_SIZE}
use Rattle.block_model.specs.declared.place.Spot.{Spot}
use Rattle.index_layout.specs.declared.format.TheConstants.{META, MAP, REGULAR, EVACUATED, MAP_ENTRIES}

-- the kind, a zero, the number of slots, and 28 zeros
abbrev pub header : ℕ → ℕ → List ℕ
header kind count = kind ∷ 0 ∷ (bytes_high_first 2 count ++ replicate 28 0)

-- a slot is free or has a tuple
abbrev pub Slot : Type 0
Slot = Option (List ℕ)

-- no tuple is empty
abbrev pub IsSlot : Slot → Type 0
IsSlot None = Unit {0}
IsSlot (Some tuple) = 0 < length tuple

abbrev pub AreSlots : List Slot → Type 0
AreSlots [] = Unit {0}
AreSlots (slot ∷ slots) = IsSlot slot × AreSlots slots

-- the last slot isn't free
abbrev pub IsLastUsed : List Slot → Type 0
IsLastUsed [] = Unit {0}
IsLastUsed (None ∷ []) = ⊥
IsLastUsed (Some tuple ∷ []) = Unit {0}
IsLastUsed (slot ∷ next ∷ slots) = IsLastUsed (next ∷ slots)

-- the bytes of a slot's tuple, none where it is free
abbrev pub tuple_bytes : Slot → List ℕ
tuple_bytes None = []
tuple_bytes (Some tuple) = tuple

-- the bytes that slots take: 4 and the length for every one
unfoldable pub taken : List Slot → ℕ
taken [] = 0
taken (slot ∷ slots) = 4 + length (tuple_bytes slot) + taken slots

-- the offset and the length of a tuple that ends at that place of the page; zeros where the slot is free
abbrev pub directory_entry : ℕ → Slot → List ℕ
directory_entry end None = replicate 4 0
directory_entry end (Some tuple) = bytes_high_first 2 (end - length tuple) ++ bytes_high_first 2 (length tuple)

-- the directory of slots of which the first tuple ends at that place, and each next one where the tuple before it begins
unfoldable pub directory : ℕ → List Slot → List ℕ
directory end [] = []
directory end (slot ∷ slots) = directory_entry end slot ++ directory (end - length (tuple_bytes slot)) slots

-- the tuples as they stand on a page, the first one last
unfoldable pub tuples : List Slot → List ℕ
tuples [] = []
tuples (slot ∷ slots) = tuples slots ++ tuple_bytes slot

-- the directory follows the header, the tuples end with the page, and between them are zeros
unfoldable pub regular_bytes : ℕ → List Slot → List ℕ
regular_bytes kind slots = header kind (length slots) ++ (directory PAGE_SIZE slots ++ (replicate (PAGE_ROOM - taken slots) 0 ++ tuples slots))

-- slots that have room on a page
pub record FitPage (slots : List Slot) : Type 0 where
  pub are : AreSlots slots
  pub room : taken slots ≤ PAGE_ROOM

-- a page with these slots, which may be one that is being evacuated
pub record HasSlots (kind : ℕ) (slots : List Slot) (page : List ℕ) : Type 0 where
  pub of : (kind ≡ REGULAR) ⊎ (kind ≡ EVACUATED)
  pub fit : FitPage slots
  pub bytes : page ≡ regular_bytes kind slots

-- a page of tuples
pub record IsRegular (kind : ℕ) (slots : List Slot) (page : List ℕ) : Type 0 where
  pub has : HasSlots kind slots page
  pub last : IsLastUsed slots

-- a number, and zeros up to the end of the page
unfoldable pub meta_bytes : ℕ → List ℕ
meta_bytes pages = header META 0 ++ (bytes_high_first 4 pages ++ replicate (PAGE_ROOM - 4) 0)

-- the metapage with its number of map pages
pub record IsMeta (pages : ℕ) (page : List ℕ) : Type 0 where
  pub small : pages < 2 ^ 32
  pub bytes : page ≡ meta_bytes pages

-- an entry names a spot, and not with zeros alone, or there is none
abbrev pub IsEntry : Option Spot → Type 0
IsEntry None = Unit {0}
IsEntry (Some spot) = (spot.block < 2 ^ 32) × (spot.slot < 2 ^ 16) × (0 < spot.block + spot.slot)

abbrev pub AreEntries : List (Option Spot) → Type 0
AreEntries [] = Unit {0}
AreEntries (entry ∷ entries) = IsEntry entry × AreEntries entries

-- block, slot and two zeros
abbrev pub entry_bytes : Option Spot → List ℕ
entry_bytes None = replicate 8 0
entry_bytes (Some spot) = bytes_high_first 4 spot.block ++ bytes_high_first 2 spot.slot ++ replicate 2 0

-- one after the other
unfoldable pub entries_bytes : List (Option Spot) → List ℕ
entries_bytes [] = []
entries_bytes (entry ∷ entries) = entry_bytes entry ++ entries_bytes entries

-- the entries, which end with the page
unfoldable pub map_bytes : List (Option Spot) → List ℕ
map_bytes entries = header MAP 0 ++ entries_bytes entries

-- a page of the map with its entries
pub record IsMap (entries : List (Option Spot)) (page : List ℕ) : Type 0 where
  pub counted : length entries ≡ MAP_ENTRIES
  pub are : AreEntries entries
  pub bytes : page ≡ map_bytes entries

-- a page of an index: zeros where it isn't started, else the metapage, a page of the map, or one of tuples
pub data IsIndexPage (page : List ℕ) : Type 0 where
  Unstarted : page ≡ replicate PAGE_SIZE 0 → IsIndexPage page
  Meta : (pages : ℕ) → IsMeta pages page → IsIndexPage page
  Map : (entries : List (Option Spot)) → IsMap entries page → IsIndexPage page
  Regular : (kind : ℕ) (slots : List Slot) → IsRegular kind slots page → IsIndexPage page
