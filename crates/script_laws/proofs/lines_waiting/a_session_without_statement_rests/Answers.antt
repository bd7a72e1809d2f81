use Rattle.store_layout.proofs.FirstBroken.{keeps_limits}
use Rattle.script_laws.proofs.Reaching.{reached_is_orderly}
use Rattle.script_laws.proofs.lines_waiting.a_session_without_statement_rests.Goals as goal

pub returns : goal.returns
returns c = λ layout p n table within reached none below.
    let limits = keeps_limits layout.schema layout.sizes within in
    let o = reached_is_orderly c.table_stays_covered.ensures.kept layout limits (record { new = c.table_stays_covered.ensures.new; opened = c.table_stays_covered.ensures.opened }) p reached in
    o.idle n table none below
