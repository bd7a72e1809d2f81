-- the lowest dirty page in frames
use Rattle.std.specs.Prelude.{◌≡◌, ℕ, ◌<◌, ◌≤◌, List, Option, Some, None, cond, nat_le}
use Rattle.buffer_pool.specs.declared.held.Held.{Held}
use Rattle.buffer_pool.specs.Slots.{slot_at}

-- a page that waits for a log change, where it has that number or a higher one
abbrev pub logged_page : ℕ → Option ℕ → ℕ → Option ℕ
logged_page from None page = None
logged_page from (Some log) page = cond (nat_le from page) (Some page) None

-- the same of what a frame holds
abbrev pub dirty_page : ℕ → Option Held → Option ℕ
dirty_page from None = None
dirty_page from (Some held) = logged_page from held.log held.page

-- the lowest dirty page from a number on in the first n frames
pub record IsLowestDirty (slots : List (Option Held)) (from n : ℕ) (lowest : Option ℕ) : Type 0 where
  pub one : (page : ℕ) → lowest ≡ Some page → (k : ℕ) × (dirty_page from (slot_at slots k) ≡ Some page)
  pub below : (k page : ℕ) → k < n → dirty_page from (slot_at slots k) ≡ Some page → (low : ℕ) × (lowest ≡ Some low) × (low ≤ page)
