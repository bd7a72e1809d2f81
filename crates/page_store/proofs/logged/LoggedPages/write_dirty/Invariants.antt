use Rattle.std.proofs.Common.{◌≡◌, ◌-◌, ◌<◌, ℕ, length}
use Rattle.std.specs.Prelude.{None}
use Rattle.buffer_pool.specs.PoolState.{IsDirty}
use Rattle.wal_record.specs.Waiting.{no_changes}
use Rattle.page_store.specs.Contents.{HoldsAlike}
use Rattle.page_store.specs.KeptPages.{KeptPages}
use Rattle.page_store.specs.LoggedState.{store_of}
use Rattle.page_store.proofs.logged.LoggedPages.write_dirty.Given as goal

abbrev pub invariant-pages : goal.invariant-pages
invariant-pages g l = record {
  kept : KeptPages g.D.Disk.told (store_of g.D.Disk.told l.fn.self) (store_of g.D.Disk.told l.self);
  failed : l.self.failed ≡ None;
  empty : l.self.waiting ≡ no_changes;
  marks : l.self.marks ≡ l.fn.self.marks;
  alike : HoldsAlike l.fn.self.pool l.self.pool;
  below : (number waits : ℕ) → number < l.from → IsDirty l.self.pool number waits → ⊥;
}

abbrev pub decreases-pages : goal.decreases-pages
decreases-pages g l = length l.fn.self.marks - l.from
