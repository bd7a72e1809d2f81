-- the slots of a page, read from its bytes
use Rattle.std.specs.Prelude.{ℕ, zero, suc, ◌==◌, List, [], ◌∷◌, take, drop, slice_index, Option, None, Some, if◌then◌else◌}
use Rattle.block_model.specs.declared.value.Kind.{Kind}
use Rattle.block_model.specs.RowSize.{row_size}
use Rattle.page_layout.specs.declared.page.Form.{Form}
use Rattle.page_layout.specs.declared.page.Form.TheVariants as forms
use Rattle.page_layout.specs.FreeSlots.{free_count, lowest_free}
use Rattle.page_layout.specs.PageContents.{Slot}
use Rattle.page_layout.specs.RowReading.{row_in}

-- the row in the bytes of a slot, unless it is free
abbrev pub slot_in : List Kind → List ℕ → Slot
slot_in kinds bytes = if slice_index bytes 0 == 0 then None else Some (row_in kinds bytes)

-- so many slots, one after the other
unfoldable pub slots_in : List Kind → ℕ → List ℕ → List Slot
slots_in kinds zero bytes = []
slots_in kinds (suc n) bytes = slot_in kinds (take (row_size kinds) bytes) ∷ slots_in kinds n (drop (row_size kinds) bytes)

-- the slots behind the header of a heap page, all free where it isn't started; other pages have none
abbrev pub slots_on : Form → List ℕ → List Slot
slots_on forms.Status page = []
slots_on (forms.Heap row count kinds format) page = slots_in kinds count (drop 32 page)
slots_on forms.Index page = []

-- how many slots of a started page are free
abbrev pub free_on : Form → List ℕ → ℕ
free_on form page = if slice_index page 0 == 0 then 0 else free_count (slots_on form page)

-- the lowest free slot of a started page
abbrev pub lowest_on : Form → List ℕ → Option ℕ
lowest_on form page = if slice_index page 0 == 0 then None else lowest_free (slots_on form page)
