-- The table after a journal is the table before, into which the committed transactions were merged one after the other.
use Rattle.std.specs.Prelude.{◌≡◌, List, fold}
use Rattle.block_model.specs.declared.request.Entry.{Entry}
use Rattle.block_model.specs.DatabaseState.{DatabaseState}
use Rattle.block_model.specs.RequestEffect.{merged}
use Rattle.block_model.specs.SerialRun.{serial_run}
use Rattle.model_laws.specs.Commits.{committed_in}

-- from each state and for each journal
abbrev pub TableIsCommits : Type 0
TableIsCommits = (s : DatabaseState) (journal : List Entry) → (serial_run s journal).table ≡ fold merged s.table (committed_in s journal)
