-- the numbers of transactions
use Rattle.std.specs.Prelude.{◌≡◌, ◌≢◌, ℕ, ◌-◌, ◌<◌, ◌≤◌, List}
use Rattle.disk_trait.specs.Told.{Told}
use Rattle.page_map.specs.Keeps.{Tells}
use Rattle.page_map.specs.PageMap.{View}
use Rattle.snapshot_core.specs.declared.statuses.Status.{Status}
use Rattle.snapshot_core.specs.declared.statuses.Status.TheVariants.{Unused}
use Rattle.tx_table.specs.Statuses.{HasStatuses, number_limit, status_of}

-- the first number of this opening, and the number that the next transaction gets
pub record TxState : Type 0 where
  pub first : ℕ
  pub next : ℕ

-- one above the greatest number that isn't unused; numbers begin at 1
pub record IsNext (statuses : List Status) (next : ℕ) : Type 0 where
  pub some : 1 ≤ next
  pub used : 1 < next → status_of statuses (next - 1) ≢ Unused
  pub unused : (t : ℕ) → next ≤ t → status_of statuses t ≡ Unused

-- the transaction began since the opening
pub record IsOwn (table : TxState) (t : ℕ) : Type 0 where
  pub opened : table.first ≤ t
  pub given : t < table.next

-- the table is one that was started over this store: the next number is that of its pages, and none of them is passed
pub record IsOver {D : Type 0} (told : D → Told) (table : TxState) (store : View D) : Type 0 where
  pub some : 1 ≤ table.first
  pub opened : table.first ≤ table.next
  pub within : table.next ≤ number_limit store.layout
  pub statuses : Tells told store → (statuses : List Status) × HasStatuses store.layout store.pages statuses × IsNext statuses table.next
