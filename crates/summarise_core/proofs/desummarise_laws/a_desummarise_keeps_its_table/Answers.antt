use Rattle.summarise_core.proofs.DesummariseCalls.{kept_then, machine_waits}
use Rattle.summarise_core.proofs.desummarise_laws.a_desummarise_keeps_its_table.Goals as goal

pub returns-clause-keeps : goal.returns-clause-keeps
returns-clause-keeps c = λ s old new held held_then before after point account u goes at lock kept.
    kept_then c.table_stays_covered.ensures.kept s old new held held_then before after point account goes u at lock kept

pub returns-clause-waits : goal.returns-clause-waits
returns-clause-waits c = λ s at range shown job phase what waits. machine_waits s at range shown job phase what waits
