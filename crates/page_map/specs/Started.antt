-- how many pages of a relation are started
use Rattle.std.specs.Prelude.{ℕ, ◌≤◌, ◌<◌, ◌==◌, not, Bool, List, [], slice_index, slice_index_or, count_by}
use Rattle.page_redo.specs.PageContents.{IsUnstarted}
use Rattle.page_map.specs.PageMap.{PageMap}

-- the kind of a page that isn't started is 0
abbrev pub is_started : List ℕ → Bool
is_started page = not (slice_index page 0 == 0)

-- how many pages of the relation are started
abbrev pub started_count : PageMap → ℕ → ℕ
started_count pages relation = count_by is_started (slice_index_or pages relation [])

-- of the pages of the blocks below the limit, the first n are started, and no other is
pub record AreFirst (limit : ℕ) (page : ℕ → List ℕ) (n : ℕ) : Type 0 where
  pub within : n ≤ limit
  pub started : (block : ℕ) → block < n → IsUnstarted (page block) → ⊥
  pub others : (block : ℕ) → n ≤ block → block < limit → IsUnstarted (page block)
