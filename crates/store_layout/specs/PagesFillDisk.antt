-- the pages of a layout are disjoint, and fill the disk behind the control page and the log
use Rattle.std.specs.Prelude.{◌≡◌, ◌≢◌, ℕ, ◌+◌, ◌*◌, ◌≤◌, ◌⊎◌}
use Rattle.block_model.specs.declared.place.Place.{Place}
use Rattle.block_model.specs.declared.limits.TheConstants.{PAGE_SIZE}
use Rattle.store_layout.specs.DiskLayout.{DiskLayout, IsPlace, page_offset, disk_size, first_offset, area_offset, area_size}

-- one page ends before the other begins
abbrev pub AreApart : DiskLayout → Place → Place → Type 0
AreApart d p q = (page_offset d p + PAGE_SIZE ≤ page_offset d q) ⊎ (page_offset d q + PAGE_SIZE ≤ page_offset d p)

-- every page has its own place on the disk, and none is left over
pub record PagesFillDisk (d : DiskLayout) : Type 0 where
  -- the areas of the log end where the first page begins
  pub areas : area_offset d 1 + area_size d ≡ first_offset d
  -- the pages of two places share no byte
  pub disjoint : (p q : Place) → IsPlace d p → IsPlace d q → p ≢ q → AreApart d p q
  -- a page begins at a multiple of a page's bytes
  pub aligned : (p : Place) → IsPlace d p → (n : ℕ) × (page_offset d p ≡ PAGE_SIZE * n)
  -- behind the control page and the log
  pub begins : (p : Place) → IsPlace d p → first_offset d ≤ page_offset d p
  -- and it ends on the disk
  pub ends : (p : Place) → IsPlace d p → page_offset d p + PAGE_SIZE ≤ disk_size d
  -- at each such multiple a page of the layout begins
  pub filled : (n : ℕ) → first_offset d ≤ PAGE_SIZE * n → PAGE_SIZE * n + PAGE_SIZE ≤ disk_size d → (p : Place) × IsPlace d p × (page_offset d p ≡ PAGE_SIZE * n)
