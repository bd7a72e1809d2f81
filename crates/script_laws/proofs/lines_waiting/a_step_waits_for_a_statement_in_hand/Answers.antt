use Rattle.store_layout.proofs.FirstBroken.{keeps_limits}
use Rattle.script_laws.proofs.Holders.{not_alone, only_hands}
use Rattle.script_laws.proofs.Reaching.{reached_is_orderly}
use Rattle.script_laws.proofs.lines_waiting.a_step_waits_for_a_statement_in_hand.Goals as goal

pub returns-clause-hands : goal.returns-clause-hands
returns-clause-hands c = λ layout p q n hand told within reached has step.
    let limits = keeps_limits layout.schema layout.sizes within in
    only_hands c.blocked_statements_wait.ensures.held layout limits p q n hand told
    (reached_is_orderly c.table_stays_covered.ensures.kept layout limits (record { new = c.table_stays_covered.ensures.new; opened = c.table_stays_covered.ensures.opened }) p reached) has step

pub returns-clause-alone : goal.returns-clause-alone
returns-clause-alone c = λ layout p q n hand told within reached has alone step.
    let limits = keeps_limits layout.schema layout.sizes within in
    not_alone p n told alone
    (only_hands c.blocked_statements_wait.ensures.held layout limits p q n hand told
    (reached_is_orderly c.table_stays_covered.ensures.kept layout limits (record { new = c.table_stays_covered.ensures.new; opened = c.table_stays_covered.ensures.opened }) p reached) has step)
