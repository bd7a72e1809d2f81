use Rattle.vacuum_core.proofs.Calls.{fewer_left}
use Rattle.vacuum_core.proofs.law_table.a_vacuum_ends_alone.Goals as goal

pub returns : goal.returns
returns c = λ s old new held held_then before after point account u goes at lock kept spared cleans goes_on.
    fewer_left s old new held held_then before after point account goes u at lock kept spared c.statements_end.ensures.cleans cleans goes_on
