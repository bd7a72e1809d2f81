use Rattle.summarise_core.proofs.Calls.{kept_then, machine_waits}
use Rattle.summarise_core.proofs.summarise_laws.a_summarise_keeps_its_table.Goals as goal

pub returns-clause-keeps : goal.returns-clause-keeps
returns-clause-keeps c = λ s old new held held_then before after point account u goes at lock kept. (
  (goes u at lock kept).0,
  (goes u at lock kept).1,
  kept_then c.table_stays_covered.ensures.kept s old new held held_then before after point account goes u at lock kept,
)

pub returns-clause-waits : goal.returns-clause-waits
returns-clause-waits c = λ s at range shown job phase what waits. machine_waits s at range shown job phase what waits
