-- marks of rows by a delete
use Rattle.std.specs.Prelude.{ℕ, Bool, true, false, not, ◌&&◌, ◌==◌, List}
use Rattle.snapshot_core.specs.declared.statuses.Status.{Status}
use Rattle.snapshot_core.specs.declared.statuses.Status.TheVariants.{Unused, Begun, Committed, RolledBack}
use Rattle.snapshot_core.specs.declared.table.Version.{Version}
use Rattle.snapshot_core.specs.VisibleState.{status_of}

-- a deleter that stands so keeps others from deleting the row
abbrev pub holds : Status → Bool
holds Unused = false
holds Begun = true
holds Committed = true
holds RolledBack = false

-- the transaction numbered own can't delete the row: it is another's, and a third one has deleted it
abbrev pub conflicts : List Status → ℕ → Version → Bool
conflicts statuses own v = not (v.row.id.t == own) && (not (v.deleter == own) && holds (status_of statuses v.deleter))

-- the same row with another deleter
abbrev pub with_deleter : Version → ℕ → Version
with_deleter v own = record v { deleter = own }
