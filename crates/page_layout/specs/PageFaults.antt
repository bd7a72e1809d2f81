-- the first field of a page whose rule is broken, as its place on the page
use Rattle.std.specs.Prelude.{ℕ, zero, suc, ◌==◌, ◌||◌, Bool, List, take, drop, slice_index, Option, None, Some, if◌then◌else◌}
use Rattle.block_model.specs.declared.value.Kind.{Kind}
use Rattle.block_model.specs.RowSize.{row_size}
use Rattle.index_layout.specs.declared.format.TheConstants.{MAP, META}
use Rattle.index_layout.specs.IndexFaults.{index_fault}
pub use Rattle.index_layout.specs.IndexFaults.{zeros_fault}
use Rattle.index_layout.specs.IndexReading.{is_regular}
use Rattle.page_layout.specs.declared.format.TheConstants.{HEAP, STATUS}
use Rattle.page_layout.specs.declared.page.Form.{Form}
use Rattle.page_layout.specs.declared.page.Form.TheVariants as forms
use Rattle.page_layout.specs.RowFaults.{first_of, shifted, slot_fault}

-- this many slots, and zeros
unfoldable pub slots_fault : List Kind → ℕ → List ℕ → Option ℕ
slots_fault kinds zero bytes = zeros_fault bytes
slots_fault kinds (suc n) bytes = first_of (slot_fault kinds (take (row_size kinds) bytes)) (shifted (row_size kinds) (slots_fault kinds n (drop (row_size kinds) bytes)))

-- every bytes are statuses, and slots have rules; those of an index are told with their header
abbrev pub body_fault : Form → List ℕ → Option ℕ
body_fault forms.Status bytes = None
body_fault (forms.Heap row count kinds format) bytes = slots_fault kinds count bytes
body_fault forms.Index bytes = None

-- the kinds of started pages
abbrev pub has_page_kind : Form → ℕ → Bool
has_page_kind forms.Status kind = kind == STATUS
has_page_kind (forms.Heap row count kinds format) kind = kind == HEAP
has_page_kind forms.Index kind = kind == META || (kind == MAP || is_regular kind)

-- 31 bytes of the header, and the body
unfoldable pub started_fault : Form → List ℕ → Option ℕ
started_fault form page = first_of (shifted 1 (zeros_fault (take 31 (drop 1 page)))) (shifted 32 (body_fault form (drop 32 page)))

-- a page of statuses or of a heap isn't started, or has the kind of its form
unfoldable pub rows_fault : Form → List ℕ → Option ℕ
rows_fault form page =
    if slice_index page 0 == 0 then zeros_fault page
    else (if has_page_kind form (slice_index page 0) then started_fault form page
    else Some 0)

-- a page of an index has rules of its own
abbrev pub page_fault : Form → List ℕ → Option ℕ
page_fault forms.Status page = rows_fault forms.Status page
page_fault (forms.Heap row count kinds format) page = rows_fault (forms.Heap row count kinds format) page
page_fault forms.Index page = index_fault page
