use Rattle.std.proofs.Common.{◌≡◌, List, ap, ◌∙◌}
use Rattle.snapshot_core.specs.Dead.{is_dead_to_all}
use Rattle.snapshot_core.specs.declared.statuses.Status.{Status}
use Rattle.page_store.specs.SurvivesLaws.{survives_on}
use Rattle.vacuum_core.specs.DeadRows.{living}
use Rattle.vacuum_core.proofs.Onward.{statuses_before}
use Rattle.vacuum_core.proofs.dead_rows.is_dead.Goals as goal

pub returns-in-Ok-status_of-clause-dead : goal.returns-in-Ok-status_of-clause-dead
returns-in-Ok-status_of-clause-dead g c = λ tells statuses has.
    let by = living c.args.live.now c.args.tx.now.first statuses in
    let row = c.args.row.now in
    let put = c.in-Ok.ensures.status c.args.live.now tells statuses has in
    let gone = statuses_before g.D.Disk.told c.args.pages.now c.status_of.new.pages c.in-Ok.ensures.kept
    (λ (l : List Status). c.in-Ok-status_of.gone ≡ (living c.args.live.now c.args.tx.now.first l).status row.deleter) (c.in-Ok-status_of.ensures.status c.args.live.now) tells statuses has in
    c.dead_to_all.ensures ∙ ap (λ (s : Status). is_dead_to_all by.live row.deleter s c.in-Ok-status_of.gone) put ∙ ap (λ (s : Status). is_dead_to_all by.live row.deleter (by.status row.id.t) s) gone

pub returns-in-Ok-status_of-clause-survives : goal.returns-in-Ok-status_of-clause-survives
returns-in-Ok-status_of-clause-survives g c = survives_on g.D.Disk.told c.args.pages.now c.status_of.new.pages c.status_of-2.new.pages c.in-Ok.ensures.kept c.in-Ok.ensures.survives c.in-Ok-status_of.ensures.survives

pub returns-in-Err-status_of-clause-survives : goal.returns-in-Err-status_of-clause-survives
returns-in-Err-status_of-clause-survives g c = survives_on g.D.Disk.told c.args.pages.now c.status_of.new.pages c.status_of-2.new.pages c.in-Ok.ensures.kept c.in-Ok.ensures.survives c.in-Err-status_of.ensures.survives
