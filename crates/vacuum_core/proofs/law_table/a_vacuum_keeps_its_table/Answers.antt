use Rattle.vacuum_core.proofs.Calls.{kept_then, machine_waits}
use Rattle.vacuum_core.proofs.law_table.a_vacuum_keeps_its_table.Goals as goal

pub returns-clause-keeps : goal.returns-clause-keeps
returns-clause-keeps c = λ s old new held held_then before after point account u goes at lock kept spared. (
  (goes u at lock kept spared).0,
  (goes u at lock kept spared).1,
  kept_then s old new held held_then before after point account goes u at lock kept spared c.table_stays_covered.ensures.kept,
)

pub returns-clause-waits : goal.returns-clause-waits
returns-clause-waits c = λ s at page shown what waits. machine_waits s at page shown what waits
