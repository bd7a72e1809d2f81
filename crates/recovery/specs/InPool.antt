-- how the pages in a pool stand to the disk and the log
use Rattle.std.specs.Prelude.{◌≡◌, ℕ, ◌+◌, ◌<◌, ◌≤◌, Bool, true, List, Some, None, length}
use Rattle.block_model.specs.declared.limits.TheConstants.{PAGE_SIZE}
use Rattle.block_model.specs.declared.place.Place.{Place}
use Rattle.store_layout.specs.DiskLayout.{DiskLayout, IsPlace}
use Rattle.log_area.specs.Log.{Log}
use Rattle.wal_record.specs.Changes.{LoggedChange}
use Rattle.buffer_pool.specs.PoolState.{HeldPage, PoolState, held_at}
use Rattle.page_map.specs.Forms.{IsPageIn}
use Rattle.recovery.specs.LoggedChanges.{changes_at}
use Rattle.recovery.specs.Opens.{disk_page}
use Rattle.recovery.specs.PageNumbers.{page_number}
use Rattle.recovery.specs.Safe.{is_marked}

-- the page at the place is held
abbrev pub Holds : DiskLayout → PoolState → Place → HeldPage → Type 0
Holds layout pool place held = held_at pool (page_number layout place) ≡ Some held

-- the page of a place, of so many bytes, that passes the check of its form
pub record IsHeldPage (layout : DiskLayout) (at : ℕ) (bytes : List ℕ) : Type 0 where
  pub place : Place
  pub is : IsPlace layout place
  pub number : page_number layout place ≡ at
  pub whole : length bytes ≡ PAGE_SIZE
  pub passes : IsPageIn layout place.relation bytes

-- what is held are such pages
abbrev pub HoldsPages : DiskLayout → PoolState → Type 0
HoldsPages layout pool = (number : ℕ) (held : HeldPage) → held_at pool number ≡ Some held → IsHeldPage layout number held.content

-- No page waits for more than the frame to come. The number that a page waits for is that of the bytes that the log has once it is
-- sure, and any greater one than those that it has stands for the frame to come.
abbrev pub WaitsAtMost : Log → PoolState → Type 0
WaitsAtMost log pool = (number waits : ℕ) (held : HeldPage) → held_at pool number ≡ Some held → held.log ≡ Some waits → waits ≤ log.used + 1

-- A clean page is as it stands on the disk, a dirty one is marked, and one of which changes wait, waits for the frame to come.
pub record IsInPool (layout : DiskLayout) (log : Log) (pool : PoolState) (marks : List Bool) (waiting : List LoggedChange) (contents : List ℕ) : Type 0 where
  pub clean : (place : Place) (held : HeldPage) → IsPlace layout place → Holds layout pool place held → held.log ≡ None → held.content ≡ disk_page layout contents place
  pub dirty : (place : Place) (held : HeldPage) (waits : ℕ) → IsPlace layout place → Holds layout pool place held → held.log ≡ Some waits → is_marked marks layout place ≡ true
  pub waits : (place : Place) → IsPlace layout place → 0 < length (changes_at place waiting) → (held : HeldPage) × Holds layout pool place held × (held.log ≡ Some (log.used + 1))
