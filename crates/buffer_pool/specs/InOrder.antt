-- dirty pages that were put in order
use Rattle.std.specs.Prelude.{◌≡◌, ℕ, ◌<◌, ◌≤◌, List, Option, Some, None, slice_index}
use Rattle.buffer_pool.specs.declared.held.Held.{Held}
use Rattle.buffer_pool.specs.LowestDirty.{dirty_page}
use Rattle.buffer_pool.specs.Slots.{slot_at}

-- numbers of pages, how many of them count, how many of these are passed, and the number from which on they are in order
pub record Walk : Type 0 where
  pub pages : List ℕ
  pub count : ℕ
  pub next : ℕ
  pub from : Option ℕ

-- the page in a frame
abbrev pub page_number : Option Held → ℕ
page_number None = 0
page_number (Some held) = held.page

-- the pages rise, and each dirty one from that number on is ahead
pub record IsAhead (slots : List (Option Held)) (from : ℕ) (walk : Walk) : Type 0 where
  pub rising : (i j : ℕ) → i ≤ j → j < walk.count → slice_index walk.pages i ≤ slice_index walk.pages j
  pub ahead : (k page : ℕ) → dirty_page from (slot_at slots k) ≡ Some page → (s : ℕ) × (walk.next ≤ s) × (s < walk.count) × (slice_index walk.pages s ≡ page)

-- the same, where they are in order
abbrev pub IsInOrder : List (Option Held) → Walk → Type 0
IsInOrder slots walk = (from : ℕ) → walk.from ≡ Some from → IsAhead slots from walk
