use Rattle.summarise_core.proofs.DesummariseCalls.{calls_end}
use Rattle.summarise_core.proofs.desummarise_laws.a_desummarise_ends_alone.Goals as goal

pub returns : goal.returns
returns c = λ s calls only at range shown phase u run task kept.
    calls_end c.table_stays_covered.ensures.kept s c.statements_end.ensures.desummarises calls only at range shown phase u run task kept
