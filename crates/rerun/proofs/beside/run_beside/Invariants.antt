use Rattle.std.specs.Prelude.{true}
use Rattle.block_model.specs.DatabaseState.{initial_state}
use Rattle.disk_trait.specs.Memory.{told_by_memory}
use Rattle.rerun.proofs.beside.run_beside.Given as goal

abbrev pub ghosts-run_named : goal.ghosts-run_named
ghosts-run_named g a = record { faults = (told_by_memory a.disk).faults; honest = true; opening = initial_state; layout = a.layout.now; script = a.streams.now.script.left }
