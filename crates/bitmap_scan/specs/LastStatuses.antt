-- what a scan remembers of transactions, so that it reads the status of one once for many rows
use Rattle.std.specs.Prelude.{◌≡◌, Option, None, Some, true}
use Rattle.snapshot_core.specs.Visibility.{had_ended, is_committed}
use Rattle.bitmap_scan.specs.Finds.{Sight}
use Rattle.bitmap_scan.specs.declared.sight.LastStatus.{LastStatus}
use Rattle.bitmap_scan.specs.declared.sight.LastStatuses.{LastStatuses}

-- The transaction had ended when the snapshot was taken, and whether it committed is as it is remembered.
pub record StandsSo (sight : Sight) (last : LastStatus) : Type 0 where
  pub ended : had_ended sight.snapshot last.number ≡ true
  pub stands : last.committed ≡ is_committed (sight.status last.number)

-- so it is of a transaction, if one is remembered
abbrev pub RemembersOne : Sight → Option LastStatus → Type 0
RemembersOne sight None = Unit {0}
RemembersOne sight (Some last) = StandsSo sight last

-- so it is of one that put a row, and of one that deleted a row
pub record Remembers (sight : Sight) (last : LastStatuses) : Type 0 where
  pub put : RemembersOne sight last.put
  pub gone : RemembersOne sight last.gone
