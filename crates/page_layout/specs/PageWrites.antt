-- what is written to pages
use Rattle.std.specs.Prelude.{◌≡◌, ℕ, ◌+◌, ◌*◌, ◌/◌, ◌%◌, List, None, Some, replicate, set, slice_get, ◌==◌, if◌then◌else◌}
use Rattle.block_model.specs.declared.value.Value.{Value}
use Rattle.page_layout.specs.declared.page.Form.{Form}
use Rattle.page_layout.specs.declared.page.Form.TheVariants as forms
use Rattle.page_layout.specs.RowBytes.{AreBytesOf, StoredRow, HaveKinds}
use Rattle.page_layout.specs.PageContents.{HasSlots, IsHeap, Slot}

-- the bytes are those of this row
abbrev pub RowHasBytes : Form → List ℕ → StoredRow → Type 0
RowHasBytes forms.Status bytes row = ⊥
RowHasBytes (forms.Heap size count kinds format) bytes row = AreBytesOf kinds bytes row
RowHasBytes forms.Index bytes row = ⊥

-- a form of heap pages
abbrev pub IsOfHeap : Form → Type 0
IsOfHeap forms.Status = ⊥
IsOfHeap (forms.Heap size count kinds format) = Unit {0}
IsOfHeap forms.Index = ⊥

-- the form of an index's pages
abbrev pub IsOfIndex : Form → Type 0
IsOfIndex forms.Status = ⊥
IsOfIndex (forms.Heap size count kinds format) = ⊥
IsOfIndex forms.Index = Unit {0}

-- a heap page whose slots are all free
abbrev pub IsEmptyHeap : Form → List ℕ → Type 0
IsEmptyHeap forms.Status page = ⊥
IsEmptyHeap (forms.Heap size count kinds format) page = IsHeap kinds count (replicate count None) page
IsEmptyHeap forms.Index page = ⊥

-- values of the kinds of the form's columns
abbrev pub AreValuesFor : Form → List Value → Type 0
AreValuesFor forms.Status values = ⊥
AreValuesFor (forms.Heap size count kinds format) values = HaveKinds kinds values
AreValuesFor forms.Index values = ⊥

-- the bytes of a row
abbrev pub row_length : Form → ℕ
row_length forms.Status = 0
row_length (forms.Heap size count kinds format) = size
row_length forms.Index = 0

-- the row with that deleter
abbrev pub marked : StoredRow → ℕ → StoredRow
marked row t = record { id = row.id; deleter = t; values = row.values }

-- Slots that a page has afterwards, by those that it had. The row of the bytes stands in the slot:
abbrev pub HasRowPut : Form → List ℕ → ℕ → List ℕ → List ℕ → Type 0
HasRowPut form old slot bytes new = (slots : List Slot) (row : StoredRow) → HasSlots form old slots → RowHasBytes form bytes row → HasSlots form new (set slots slot (Some row))

-- the row in the slot has that deleter
abbrev pub HasRowMarked : Form → List ℕ → ℕ → ℕ → List ℕ → Type 0
HasRowMarked form old slot deleter new = (slots : List Slot) (row : StoredRow) → HasSlots form old slots → slice_get slots slot ≡ Some (Some row) → HasSlots form new (set slots slot (Some (marked row deleter)))

-- the slot is free
abbrev pub HasSlotFreed : Form → List ℕ → ℕ → List ℕ → Type 0
HasSlotFreed form old slot new = (slots : List Slot) → HasSlots form old slots → HasSlots form new (set slots slot None)

-- the byte with one of its four statuses in that place
abbrev pub put_status : ℕ → ℕ → ℕ → ℕ
put_status byte place status =
    if place == 0 then byte / 4 * 4 + status
    else (if place == 1 then byte / 16 * 16 + status * 4 + byte % 4
    else (if place == 2 then byte / 64 * 64 + status * 16 + byte % 16
    else status * 64 + byte % 64))
