use Rattle.std.proofs.Common.{subst}
use Rattle.store_layout.specs.declared.statement.Statement.{Statement}
use Rattle.store_layout.specs.StatementFits.{IsStatementFor}
use Rattle.session_core.proofs.Declared.{index_below, table_below}
use Rattle.session_core.proofs.submitting.hand_for.Goals as goal

pub summarise_hand-requires : goal.summarise_hand-requires
summarise_hand-requires g c =
    let schema = c.args.parts.now.pages.layout.schema in
    index_below schema c.in-Summarize.index (subst (λ (s : Statement). IsStatementFor schema s) c.in-Summarize.is c.requires.statement)

pub desummarise_hand-requires : goal.desummarise_hand-requires
desummarise_hand-requires g c =
    let schema = c.args.parts.now.pages.layout.schema in
    index_below schema c.in-Desummarize.index (subst (λ (s : Statement). IsStatementFor schema s) c.in-Desummarize.is c.requires.statement)

pub vacuum_hand-requires : goal.vacuum_hand-requires
vacuum_hand-requires g c =
    let schema = c.args.parts.now.pages.layout.schema in
    table_below schema c.in-Vacuum.table (subst (λ (s : Statement). IsStatementFor schema s) c.in-Vacuum.is c.requires.statement)
