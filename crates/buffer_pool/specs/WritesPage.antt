-- what a page that is cleaned does to pool and disk
use Rattle.std.specs.Prelude.{◌≡◌, ℕ, ◌+◌, ◌*◌, ◌≤◌, ◌<◌, Some, None, Result, Ok, Err, Bool, true, false, IsTrue}
use Rattle.block_model.specs.declared.limits.TheConstants.{PAGE_SIZE}
use Rattle.disk_trait.specs.Told.{Told}
use Rattle.disk_trait.specs.Spliced.{spliced}
use Rattle.disk_trait.specs.Torn.{Torn}
use Rattle.disk_trait.specs.Follows.{Follows}
use Rattle.disk_trait.specs.GoesOn.{GoesOn}
use Rattle.disk_trait.specs.declared.disk.DiskFault.{DiskFault}
use Rattle.buffer_pool.specs.PoolState.{HeldPage, PoolState, IsDirty, held_at, with_page}

-- the first byte of a page on the disk
abbrev pub place_of : ℕ → ℕ → ℕ
place_of at page = at + PAGE_SIZE * page

-- each page that is held lies within a disk of that size
abbrev pub LieWithin : PoolState → ℕ → ℕ → Type 0
LieWithin pool at size = (page : ℕ) (held : HeldPage) → held_at pool page ≡ Some held → place_of at page + PAGE_SIZE ≤ size

-- a dirty page whose log is durable
pub record IsCleanable (pool : PoolState) (durable page : ℕ) (it : HeldPage) : Type 0 where
  pub held : held_at pool page ≡ Some it
  pub log : ℕ
  pub dirty : it.log ≡ Some log
  pub within : log ≤ durable

-- only the bytes of one page are written, whether they all come or not; a crash may leave any bytes there
pub record WritesAt (place : ℕ) (old new : Told) : Type 0 where
  pub others : IsTrue old.tells_contents → Torn place PAGE_SIZE old.contents new.contents
  pub images : Follows (Torn place PAGE_SIZE) old new
  pub moments : GoesOn old new

-- one page is written to its place and held on as a clean one
pub record Cleans (old new : PoolState) (at durable : ℕ) (disk after : Told) : Type 0 where
  pub page : ℕ
  pub held : HeldPage
  pub cleanable : IsCleanable old durable page held
  pub clean : new ≡ with_page old page (record held { log = None })
  pub written : IsTrue disk.tells_contents → after.contents ≡ spliced disk.contents (place_of at page) held.content
  pub writes : WritesAt (place_of at page) disk after

-- the write of one page failed, and the pool is as it was
pub record Fails (old new : PoolState) (at durable : ℕ) (disk after : Told) : Type 0 where
  pub page : ℕ
  pub held : HeldPage
  pub cleanable : IsCleanable old durable page held
  pub same : new ≡ old
  pub writes : WritesAt (place_of at page) disk after

-- no page can be cleaned, and nothing is changed
pub record FindsNone (old new : PoolState) (durable : ℕ) (disk after : Told) : Type 0 where
  pub none : (page log : ℕ) → IsDirty old page log → durable < log
  pub same : new ≡ old
  pub untouched : after ≡ disk

abbrev pub CleansOne : PoolState → PoolState → ℕ → ℕ → Told → Told → Result Bool DiskFault → Type 0
CleansOne old new at durable disk after (Ok true) = Cleans old new at durable disk after
CleansOne old new at durable disk after (Ok false) = FindsNone old new durable disk after
CleansOne old new at durable disk after (Err fault) = Fails old new at durable disk after

-- the page waits for a later log change, or isn't held as a dirty one, and nothing is changed
pub record Leaves (old new : PoolState) (page durable : ℕ) (disk after : Told) : Type 0 where
  pub waits : (log : ℕ) → IsDirty old page log → durable < log
  pub same : new ≡ old
  pub untouched : after ≡ disk

-- the same of a page that is named
abbrev pub CleansPage : PoolState → PoolState → ℕ → ℕ → ℕ → Told → Told → Result Bool DiskFault → Type 0
CleansPage old new at page durable disk after (Ok true) = (it : Cleans old new at durable disk after) × (it.page ≡ page)
CleansPage old new at page durable disk after (Ok false) = Leaves old new page durable disk after
CleansPage old new at page durable disk after (Err fault) = (it : Fails old new at durable disk after) × (it.page ≡ page)
