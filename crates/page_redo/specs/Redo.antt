-- which pages a change of the log fits, and what it does to them
use Rattle.std.specs.Prelude.{◌≡◌, ℕ, ◌+◌, ◌*◌, ◌<◌, ◌==◌, ◌&&◌, ◌||◌, Bool, true, false, MatchBool, List, [], ◌∷◌, None, Some, length, nat_le, nat_lt, replicate, set, slice_get, slice_index}
use Rattle.wal_record.specs.TheConstants.{PAGE_SIZE}
use Rattle.page_layout.specs.TheConstants.{EVACUATED, MAP, MAP_ENTRIES, META, REGULAR}
use Rattle.page_layout.specs.IndexPages.{IsMap, IsMeta, IsRegular}
use Rattle.page_layout.specs.IndexReading.{entries_of, slots_of}
use Rattle.page_layout.specs.IndexWrites.{CanDrop, CanPut, CanReplace, dropped as tuples_dropped, entry_for, put_in, trimmed}
use Rattle.page_layout.specs.declared.format.TheConstants.{HEAP, STATUS_ENTRIES}
use Rattle.page_layout.specs.Fields.{AreBytes}
use Rattle.page_layout.specs.declared.page.Form.{Form}
use Rattle.page_layout.specs.declared.page.Form.TheVariants as forms
use Rattle.page_layout.specs.RowBytes.{StoredRow}
use Rattle.page_layout.specs.PageContents.{Slot, HasSlots, IsPageOf, IsRowOf, IsStatusPage}
use Rattle.page_layout.specs.FreeSlots.{slot_count}
use Rattle.page_layout.specs.PageWrites.{HasRowMarked, HasRowPut, IsEmptyHeap, IsOfHeap, IsOfIndex}
use Rattle.wal_record.specs.Changes.{LoggedChange, FullPage, PageStart, RowPut, RowMark, RowsDrop, TuplePut, TupleReplace, TupleDrop, Evacuate, MapPage, MapSet, MetaSet, StatusSet}

-- the kinds of pages that a change starts in an index: of the map, and of tuples
abbrev pub is_index_start : ℕ → Bool
is_index_start kind = kind == MAP || kind == REGULAR

-- those, and the kind of a heap
abbrev pub is_start : ℕ → Bool
is_start kind = kind == HEAP || is_index_start kind

-- a relation of the form has pages of a kind that a change starts
abbrev pub IsStart : Form → ℕ → Type 0
IsStart form kind = MatchBool (kind == HEAP) (IsOfHeap form) (IsOfIndex form) × (is_start kind ≡ true)

-- a page of that kind as it is started: a heap whose slots are free, a page of the map without entries, or one without tuples
abbrev pub IsEmptyPage : Form → ℕ → List ℕ → Type 0
IsEmptyPage form kind page = MatchBool (kind == HEAP) (IsEmptyHeap form page) (MatchBool (kind == MAP) (IsMap (replicate MAP_ENTRIES None) page) (IsRegular REGULAR [] page))

-- a heap page
abbrev pub IsHeapPage : Form → List ℕ → Type 0
IsHeapPage form page = (slots : List Slot) × HasSlots form page slots

-- a slot of a heap page that is free
abbrev pub IsFreeSlot : Form → List ℕ → ℕ → Type 0
IsFreeSlot form page n = (slots : List Slot) × HasSlots form page slots × (slice_get slots n ≡ Some None)

-- a slot of a heap page that has a row
abbrev pub IsUsedSlot : Form → List ℕ → ℕ → Type 0
IsUsedSlot form page n = (slots : List Slot) × (row : StoredRow) × HasSlots form page slots × (slice_get slots n ≡ Some (Some row))

-- a page of statuses
abbrev pub IsOfStatuses : Form → List ℕ → Type 0
IsOfStatuses forms.Status page = (entries : List ℕ) × IsStatusPage page entries
IsOfStatuses (forms.Heap row count kinds format) page = ⊥
IsOfStatuses forms.Index page = ⊥

-- a page of an index
abbrev pub IsIndexPageOf : Form → List ℕ → Type 0
IsIndexPageOf form page = IsOfIndex form × IsPageOf forms.Index page

-- slots of two bytes each, ascending from the least one, and all below the count
unfoldable pub are_ascending : ℕ → ℕ → List ℕ → Bool
are_ascending least count [] = true
are_ascending least count (high ∷ []) = false
are_ascending least count (high ∷ low ∷ slots) = (nat_le least (high * 256 + low) && nat_lt (high * 256 + low) count) && are_ascending (high * 256 + low + 1) count slots

-- the slots with those of two bytes each free
unfoldable pub dropped : List Slot → List ℕ → List Slot
dropped slots [] = slots
dropped slots (high ∷ []) = slots
dropped slots (high ∷ low ∷ rest) = dropped (set slots (high * 256 + low) None) rest

-- Whole pages and starts fit whatever bytes stand there. Other changes fit a page that passes its check and has the kind
-- that they need: a free slot for a row, a used one for a deleter, slots of the page, entries and statuses in range; of an
-- index, room for a tuple in a free or next slot, or in the place of another, and no tuples where a page of the map is made.
abbrev pub Fits : Form → List ℕ → LoggedChange → Type 0
Fits form page (FullPage place bytes) = (length bytes ≡ PAGE_SIZE) × IsPageOf form bytes
Fits form page (PageStart place kind) = IsStart form kind
Fits form page (RowPut place slot bytes) = IsFreeSlot form page slot × IsRowOf form bytes
Fits form page (RowMark place slot deleter) = IsUsedSlot form page slot
Fits form page (RowsDrop place slots) = IsHeapPage form page × (are_ascending 0 (slot_count form) slots ≡ true)
Fits form page (StatusSet place entry status) = IsOfStatuses form page × (entry < STATUS_ENTRIES) × (status < 4)
Fits form page (TuplePut place slot bytes) = IsIndexPageOf form page × CanPut page slot (length bytes)
Fits form page (TupleReplace place slot bytes) = IsIndexPageOf form page × CanReplace page slot (length bytes)
Fits form page (TupleDrop place slots) = IsIndexPageOf form page × CanDrop page slots
Fits form page (Evacuate place) = IsIndexPageOf form page × (slice_index page 0 ≡ REGULAR)
Fits form page (MapPage place) = IsIndexPageOf form page × (slice_index page 0 ≡ EVACUATED) × (length (slots_of page) ≡ 0)
Fits form page (MapSet place entry spot) = IsIndexPageOf form page × (slice_index page 0 ≡ MAP) × (entry < MAP_ENTRIES)
Fits form page (MetaSet place maps) = IsIndexPageOf form page × (slice_index page 0 ≡ META)

-- by the lists of slots, statuses or entries that the page has before: those that it has afterwards
abbrev pub Means : Form → List ℕ → LoggedChange → List ℕ → Type 0
Means form old (FullPage place bytes) new = new ≡ bytes
Means form old (PageStart place kind) new = IsEmptyPage form kind new
Means form old (RowPut place slot bytes) new = HasRowPut form old slot bytes new
Means form old (RowMark place slot deleter) new = HasRowMarked form old slot deleter new
Means form old (RowsDrop place bytes) new = (slots : List Slot) → HasSlots form old slots → HasSlots form new (dropped slots bytes)
Means form old (StatusSet place entry status) new = (entries : List ℕ) → IsStatusPage old entries → IsStatusPage new (set entries entry status)
Means form old (TuplePut place slot bytes) new = IsRegular REGULAR (put_in (slots_of old) slot bytes) new
Means form old (TupleReplace place slot bytes) new = IsRegular REGULAR (set (slots_of old) slot (Some bytes)) new
Means form old (TupleDrop place slots) new = IsRegular (slice_index old 0) (trimmed (tuples_dropped (slots_of old) slots)) new
Means form old (Evacuate place) new = IsRegular EVACUATED (slots_of old) new
Means form old (MapPage place) new = IsMap (replicate MAP_ENTRIES None) new
Means form old (MapSet place entry spot) new = IsMap (set (entries_of old) entry (entry_for spot)) new
Means form old (MetaSet place maps) new = IsMeta maps new

-- the changes, one after the other, make one page of another
abbrev pub Redone : Form → List ℕ → List LoggedChange → List ℕ → Type 0
Redone form page [] new = new ≡ page
Redone form page (change ∷ changes) new = (next : List ℕ) × AreBytes next × Fits form page change × Means form page change next × Redone form next changes new

-- what the changes make of a page, they make of any
abbrev pub ForgetPage : Form → List LoggedChange → Type 0
ForgetPage form changes = (page other new : List ℕ) → Redone form page changes new → Redone form other changes new

-- a change that makes the whole page, whatever stood there
abbrev pub IsAnew : LoggedChange → Type 0
IsAnew (FullPage place bytes) = Unit {0}
IsAnew (PageStart place kind) = Unit {0}
IsAnew change = ⊥
