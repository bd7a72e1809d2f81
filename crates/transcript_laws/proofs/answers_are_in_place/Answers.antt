use Rattle.store_layout.proofs.FirstBroken.{keeps_limits}
use Rattle.script_laws.proofs.Reaching.{reached_is_orderly}
use Rattle.transcript_laws.proofs.InPlace.{reached_drops_none, reached_stands}
use Rattle.transcript_laws.proofs.answers_are_in_place.Goals as goal

pub returns-clause-place : goal.returns-clause-place
returns-clause-place c = λ layout p n hand within reached has.
    let limits = keeps_limits layout.schema layout.sizes within in
    let orderly = reached_is_orderly c.table_stays_covered.ensures.kept layout limits (record { new = c.table_stays_covered.ensures.new; opened = c.table_stays_covered.ensures.opened }) in
    (reached_stands layout limits orderly p reached n hand has).answers

pub returns-clause-drops : goal.returns-clause-drops
returns-clause-drops c = λ layout p q n hand reply within reached has step.
    let limits = keeps_limits layout.schema layout.sizes within in
    let orderly = reached_is_orderly c.table_stays_covered.ensures.kept layout limits (record { new = c.table_stays_covered.ensures.new; opened = c.table_stays_covered.ensures.opened }) in
    reached_drops_none layout limits orderly p q n hand reply reached has step
