-- pages as lists
use Rattle.std.specs.Prelude.{◌≡◌, ◌≢◌, ℕ, ◌-◌, ◌*◌, ◌/◌, ◌%◌, ◌<◌, ◌≤◌, ◌⊎◌, List, [], ◌∷◌, ◌++◌, length, Option, None, Some, replicate, slice_get, slice_index, ◌==◌, if◌then◌else◌}
use Rattle.block_model.specs.declared.limits.TheConstants.{PAGE_ROOM, PAGE_SIZE}
use Rattle.block_model.specs.declared.value.Kind.{Kind}
use Rattle.block_model.specs.RowSize.{row_size}
use Rattle.store_layout.specs.declared.layout.TheConstants.{FORMAT}
use Rattle.index_layout.specs.declared.format.TheConstants.{UNSTARTED}
use Rattle.index_layout.specs.IndexPages.{IsIndexPage}
use Rattle.page_layout.specs.declared.page.Form.{Form}
use Rattle.page_layout.specs.declared.page.Form.TheVariants as forms
use Rattle.page_layout.specs.RowBytes.{StoredRow, IsRow, IsRowBytes, row_bytes}

-- a heap slot is free or has a row
abbrev pub Slot : Type 0
Slot = Option StoredRow

abbrev pub IsSlot : List Kind → Slot → Type 0
IsSlot kinds None = Unit {0}
IsSlot kinds (Some row) = IsRow kinds row

-- a free slot is zeros
abbrev pub slot_bytes : List Kind → Slot → List ℕ
slot_bytes kinds None = replicate (row_size kinds) 0
slot_bytes kinds (Some row) = row_bytes kinds row

-- one after the other
unfoldable pub slots_bytes : List Kind → List Slot → List ℕ
slots_bytes kinds [] = []
slots_bytes kinds (slot ∷ slots) = slot_bytes kinds slot ++ slots_bytes kinds slots

abbrev pub AreSlots : List Kind → List Slot → Type 0
AreSlots kinds [] = Unit {0}
AreSlots kinds (slot ∷ slots) = IsSlot kinds slot × AreSlots kinds slots

-- the kind, and 31 zeros
abbrev pub header_bytes : ℕ → List ℕ
header_bytes kind = kind ∷ replicate 31 0

-- the slots, and zeros up to the end of a page
unfoldable pub heap_bytes : List Kind → List Slot → List ℕ
heap_bytes kinds slots = header_bytes 2 ++ (slots_bytes kinds slots ++ replicate (PAGE_ROOM - length (slots_bytes kinds slots)) 0)

-- a heap page with this many slots, and what is in each
pub record IsHeap (columns : List Kind) (count : ℕ) (slots : List Slot) (page : List ℕ) : Type 0 where
  pub counted : length slots ≡ count
  pub are : AreSlots columns slots
  pub bytes : page ≡ heap_bytes columns slots

-- one of the four statuses in a byte
abbrev pub status_in : ℕ → ℕ → ℕ
status_in byte place =
    if place == 0 then byte % 4
    else (if place == 1 then byte / 4 % 4
    else (if place == 2 then byte / 16 % 4
    else byte / 64 % 4))

-- four statuses a byte, two bits each, the lowest ones first
unfoldable pub statuses : List ℕ → List ℕ
statuses [] = []
statuses (byte ∷ bytes) = byte % 4 ∷ byte / 4 % 4 ∷ byte / 16 % 4 ∷ byte / 64 % 4 ∷ statuses bytes

-- a page of statuses, of which every 8160 bytes are some
pub record IsStatusPage (page : List ℕ) (entries : List ℕ) : Type 0 where
  pub bytes : (body : List ℕ) × (length body ≡ PAGE_ROOM) × (page ≡ header_bytes 1 ++ body) × (entries ≡ statuses body)

-- a page that isn't started is zeros
abbrev pub IsUnstarted : List ℕ → Type 0
IsUnstarted page = page ≡ replicate PAGE_SIZE 0

-- a page of an index that is started: a metapage, a page of the map, or one of tuples
abbrev pub IsStartedIndex : List ℕ → Type 0
IsStartedIndex page = IsIndexPage page × (slice_index page 0 ≢ UNSTARTED)

-- a page of its form that is started
abbrev pub IsStarted : Form → List ℕ → Type 0
IsStarted forms.Status page = (entries : List ℕ) × IsStatusPage page entries
IsStarted (forms.Heap row count kinds format) page = (slots : List Slot) × IsHeap kinds count slots page
IsStarted forms.Index page = IsStartedIndex page

abbrev pub IsPageOf : Form → List ℕ → Type 0
IsPageOf form page = IsUnstarted page ⊎ IsStarted form page

-- the slots are of the size of a row and fit a page
abbrev pub IsForm : Form → Type 0
IsForm forms.Status = Unit {0}
IsForm (forms.Heap row count kinds format) = (row ≡ row_size kinds) × (count * row ≤ PAGE_ROOM) × (format ≡ FORMAT)
IsForm forms.Index = Unit {0}

-- a table has at most eight columns
abbrev pub HasFewColumns : Form → Type 0
HasFewColumns forms.Status = Unit {0}
HasFewColumns (forms.Heap row count kinds format) = length kinds ≤ 8
HasFewColumns forms.Index = Unit {0}

-- the page has these slots
abbrev pub HasSlots : Form → List ℕ → List Slot → Type 0
HasSlots forms.Status page slots = ⊥
HasSlots (forms.Heap row count kinds format) page slots = IsHeap kinds count slots page
HasSlots forms.Index page slots = ⊥

-- a slot of that number is on each page
abbrev pub HasSlot : Form → ℕ → Type 0
HasSlot forms.Status slot = ⊥
HasSlot (forms.Heap row count kinds format) slot = slot < count
HasSlot forms.Index slot = ⊥

-- the bytes of a row, where a slot is in use
abbrev pub used_bytes : List Kind → Option Slot → Option (List ℕ)
used_bytes kinds (Some (Some row)) = Some (row_bytes kinds row)
used_bytes kinds slot = None

abbrev pub row_bytes_in : Form → List Slot → ℕ → Option (List ℕ)
row_bytes_in forms.Status slots slot = None
row_bytes_in (forms.Heap row count kinds format) slots slot = used_bytes kinds (slice_get slots slot)
row_bytes_in forms.Index slots slot = None

-- the bytes are those of a row
abbrev pub IsRowOf : Form → List ℕ → Type 0
IsRowOf forms.Status bytes = ⊥
IsRowOf (forms.Heap row count kinds format) bytes = IsRowBytes kinds bytes
IsRowOf forms.Index bytes = ⊥

-- the bytes of a slot, unless it is free
abbrev pub used_in : List ℕ → Option (List ℕ)
used_in bytes = if slice_index bytes 0 == 0 then None else Some bytes
