-- the entries of one page of statuses, as they are read of its bytes
use Rattle.std.specs.Prelude.{◌≡◌, ◌≢◌, ℕ, ◌+◌, ◌-◌, ◌*◌, ◌<◌, ◌≤◌, ◌==◌, List, drop, slice_index, if◌then◌else◌}
use Rattle.page_layout.specs.declared.format.TheConstants.{STATUS_ENTRIES}
use Rattle.page_layout.specs.PageContents.{statuses}

-- the number in that entry, behind the header
abbrev pub entry_on : List ℕ → ℕ → ℕ
entry_on page entry = slice_index (statuses (drop 32 page)) entry

-- the page has this many entries up to the last one that isn't 0
pub record HasUsed (page : List ℕ) (used : ℕ) : Type 0 where
  pub last : 0 < used → entry_on page (used - 1) ≢ 0
  pub behind : (entry : ℕ) → used ≤ entry → entry < STATUS_ENTRIES → entry_on page entry ≡ 0

-- the next number, where it was this one before the block
abbrev pub next_after : ℕ → ℕ → ℕ → ℕ
next_after next block used = if used == 0 then next else block * STATUS_ENTRIES + used
