use Rattle.std.proofs.Common.{ℕ, arith, subst, ◌∙◌, inr}
use Rattle.block_model.specs.Causes.{Rose}
use Rattle.brin_app.specs.declared.top.Task.TheVariants.{ThreadsStored}
use Rattle.brin_app.proofs.Doing.{its_layout, its_opening, refused_done}
use Rattle.brin_app.proofs.Performed.{answered_done}
use Rattle.brin_app.proofs.Threading.{as_stored, opened_stored, stored_refused, stored_worked, worked_as_answered}
use Rattle.brin_app.proofs.threads.open_and_work.Goals as goal

pub work_on-requires-clause-fresh : goal.work_on-requires-clause-fresh
work_on-requires-clause-fresh g c κs within = (c.in-Ok.ensures.fresh.0, c.in-Ok.ensures.fresh.1, c.in-Ok.ensures.ready)

pub work_on-requires-clause-faults : goal.work_on-requires-clause-faults
work_on-requires-clause-faults g c κs within = omega (arith, c.requires.faults, c.in-Ok.ensures.later)

pub work_on-requires-clause-given : goal.work_on-requires-clause-given
work_on-requires-clause-given g c κs within honest =
    let given = c.requires.given honest in
    let told = g.D.Disk.told in
    let store = c.in-Ok.store in
    let map = c.each_image_opens_to_one_map.ensures store.pages.layout in
    let opened = its_opening told c.one_layout.ensures (told c.args.disk) store map c.in-Ok.ensures.there c.in-Ok.ensures.pages c.in-Ok.ensures.tells c.in-Ok.ensures.ready c.in-Ok.ensures.opens c.in-Ok.ensures.any_moment
    g.N.Names.layout given.table given.tells given.holds given.holds.image in
    let same = its_layout told c.one_layout.ensures (told c.args.disk) store map c.in-Ok.ensures.there c.in-Ok.ensures.pages c.in-Ok.ensures.tells c.in-Ok.ensures.ready c.in-Ok.ensures.opens c.in-Ok.ensures.any_moment
    g.N.Names.layout given.table given.tells given.holds in
    (opened_stored told store (c.in-Ok.ensures.tells ∙ given.tells) c.a_start_stands.ensures (told c.args.disk) (g.S.Source.left c.args.source.now) g.N.Names.opening g.N.Names.layout g.N.Names.script given same opened, given.source)

pub returns-in-Ok-clause-done : goal.returns-in-Ok-clause-done
returns-in-Ok-clause-done g c =
    let told = g.D.Disk.told in
    stored_worked c.work_on.result.0 (told c.args.disk) (told c.work_on.result.1) _ _ _ _ _ _ c.work_on.ensures.known c.work_on.ensures.read c.work_on.ensures.read_fault c.work_on.ensures.write_fault
    (λ six. subst (λ (n : ℕ). Rose n (told c.work_on.result.1).faults) c.requires.faults (c.work_on.ensures.disk_fault six)) c.work_on.ensures.damaged c.work_on.ensures.others

pub returns-in-Ok-clause-threads : goal.returns-in-Ok-clause-threads
returns-in-Ok-clause-threads g c = λ honest. inr (c.work_on.ensures.works honest)

pub returns-in-Err-clause-done : goal.returns-in-Err-clause-done
returns-in-Err-clause-done g c =
    as_stored (answered_done g.D.Disk.told (g.D.Disk.told c.args.disk) _ _ _ _ c.refused.ensures.status c.refused.ensures.disk
    (refused_done c.one_layout.ensures c.a_stored_table_is_not_damaged.ensures (g.D.Disk.told c.args.disk) (g.D.Disk.told c.in-Err.refusal.1) _ _ c.in-Err.ensures.any_moment c.in-Err.refusal.0 _ _
    c.in-Err.ensures.untouched c.in-Err.ensures.front c.in-Err.ensures.refused))

pub returns-in-Err-clause-threads : goal.returns-in-Err-clause-threads
returns-in-Err-clause-threads g c = λ honest.
    worked_as_answered g.D.Disk.told ThreadsStored (g.D.Disk.told c.args.disk) _ _ _ _ c.refused.ensures.status c.refused.ensures.disk _ _ _ _ _ _ _
    (stored_refused c.one_layout.ensures c.a_stored_table_is_not_damaged.ensures (g.D.Disk.told c.args.disk) (g.D.Disk.told c.in-Err.refusal.1) (g.S.Source.left c.args.source.now) (g.K.Sink.taken c.args.sink.now)
    c.in-Err.ensures.any_moment g.N.Names.opening g.N.Names.layout g.N.Names.script (c.requires.given honest) c.in-Err.refusal.0 c.in-Err.ensures.refused)
