-- the free slots of a page
use Rattle.std.specs.Prelude.{◌≡◌, ℕ, ◌+◌, ◌<◌, Bool, true, false, List, drop, slice_index_or, Option, None, Some, count_by}
use Rattle.std.specs.List.{position}
use Rattle.std.specs.Option.{option_map}
use Rattle.page_layout.specs.declared.page.Form.{Form}
use Rattle.page_layout.specs.declared.page.Form.TheVariants as forms
use Rattle.page_layout.specs.PageContents.{Slot}

-- how many slots a page of the form has
abbrev pub slot_count : Form → ℕ
slot_count forms.Status = 0
slot_count (forms.Heap row count kinds format) = count
slot_count forms.Index = 0

-- a slot without a row
abbrev pub is_free : Slot → Bool
is_free None = true
is_free (Some row) = false

-- how many slots are free
abbrev pub free_count : List Slot → ℕ
free_count slots = count_by is_free slots

-- the lowest slot that is free
abbrev pub lowest_free : List Slot → Option ℕ
lowest_free slots = position is_free slots

-- the lowest slot from that number on that is free
abbrev pub lowest_free_from : ℕ → List Slot → Option ℕ
lowest_free_from from slots = option_map (λ n. from + n) (lowest_free (drop from slots))

-- each slot below that number has a row
abbrev pub AreUsedBelow : ℕ → List Slot → Type 0
AreUsedBelow n slots = (slot : ℕ) → slot < n → is_free (slice_index_or slots slot None) ≡ false
