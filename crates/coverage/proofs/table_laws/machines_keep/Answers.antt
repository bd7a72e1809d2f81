use Rattle.coverage.proofs.MachinesKeep.{steps_keep, ends_keep, reply_finds, waits_held, scans_step}
use Rattle.coverage.proofs.table_laws.machines_keep.Goals as goal

pub returns : goal.returns
returns c = record { steps = steps_keep; ends = ends_keep; replies = reply_finds; waits = waits_held; scans = scans_step }
