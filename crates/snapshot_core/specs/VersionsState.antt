-- how sessions stand in the database that row versions show, and the rows of its tables
use Rattle.std.specs.Prelude.{Option, None, Some, if◌then◌else◌}
use Rattle.block_model.specs.DatabaseState.{OpenTransaction}
use Rattle.snapshot_core.specs.declared.standing.Standing.{Standing}
use Rattle.snapshot_core.specs.declared.standing.Standing.TheVariants as standings

-- how a session stands
abbrev pub standing_of : Option OpenTransaction → Standing
standing_of None = standings.Idle
standing_of (Some x) = if x.failed then standings.Failed else standings.UnderWay
