use Rattle.std.proofs.Common.{ℕ, arith, subst, sym, ◌∙◌, inl, inr}
use Rattle.block_model.specs.Causes.{Rose}
use Rattle.block_model.specs.DatabaseState.{initial_state}
use Rattle.brin_app.specs.declared.top.Task.TheVariants.{Threads}
use Rattle.brin_app.proofs.Doing.{fresh_image, fresh_start, held, new_done, refused_done, refused_fresh, unfit_done}
use Rattle.brin_app.proofs.Threading.{as_new, done_as_answered, new_refused, new_worked, not_opened, opened_new, unfit_worked, worked_as_answered}
use Rattle.brin_app.proofs.threads.run_new_threads.Goals as goal

pub start-requires : goal.start-requires
start-requires g c = record {
  image = fresh_image c.one_layout.ensures (g.D.Disk.told c.make.new.disk) c.args.layout.now (c.each_image_opens_to_one_map.ensures c.args.layout.now)
      (λ tells. c.in-Ok.ensures.holds (sym c.make.ensures.any_moment.tells_contents ∙ tells));
}

pub work_on-requires-clause-fresh : goal.work_on-requires-clause-fresh
work_on-requires-clause-fresh g c κs within = (c.in-Ok-start.ensures.fresh.0, c.in-Ok-start.ensures.fresh.1, c.in-Ok-start.ensures.ready)

pub work_on-requires-clause-faults : goal.work_on-requires-clause-faults
work_on-requires-clause-faults g c κs within = omega (arith, c.requires.faults, c.in-Ok.ensures.fit.1, c.in-Ok-start.ensures.later)

pub work_on-requires-clause-given : goal.work_on-requires-clause-given
work_on-requires-clause-given g c κs within honest =
    let given = c.requires.given honest in
    let told = g.D.Disk.told in
    let store = c.in-Ok-start.store in
    let tells = c.make.ensures.any_moment.tells_contents ∙ given.tells in
    let start = fresh_start told c.one_layout.ensures (told c.make.new.disk) store (c.each_image_opens_to_one_map.ensures store.pages.layout) c.in-Ok-start.ensures.there c.in-Ok-start.ensures.pages c.in-Ok-start.ensures.tells
    c.in-Ok-start.ensures.ready c.in-Ok-start.ensures.opens c.in-Ok-start.ensures.any_moment c.in-Ok-start.ensures.starts tells c.args.layout.now (c.in-Ok.ensures.holds given.tells) in
    (opened_new told store (c.in-Ok-start.ensures.tells ∙ tells) c.args.layout.now start (told c.args.disk) (g.S.Source.left c.args.source.now) g.N.Names.opening g.N.Names.layout g.N.Names.script given, given.source)

pub returns-in-Ok-start-clause-done : goal.returns-in-Ok-start-clause-done
returns-in-Ok-start-clause-done g c =
    let told = g.D.Disk.told in
    new_worked c.work_on.result.0 (told c.args.disk) (told c.work_on.result.1) _ _ _ _ _ _ c.work_on.ensures.known c.work_on.ensures.read c.work_on.ensures.read_fault c.work_on.ensures.write_fault
    (λ six. subst (λ (n : ℕ). Rose n (told c.work_on.result.1).faults) c.requires.faults (c.work_on.ensures.disk_fault six)) c.work_on.ensures.damaged c.work_on.ensures.others c.args.layout.now c.in-Ok.ensures.fit.0

pub returns-in-Ok-start-clause-threads : goal.returns-in-Ok-start-clause-threads
returns-in-Ok-start-clause-threads g c = λ honest.
    inr (record { made = g.D.Disk.told c.make.new.disk; any_moment = c.make.ensures.any_moment; empty = c.in-Ok.ensures.made }, c.work_on.ensures.works honest)

pub returns-in-Err-start-clause-done : goal.returns-in-Err-start-clause-done
returns-in-Err-start-clause-done g c =
    let told = g.D.Disk.told in
    let refused = refused_done c.one_layout.ensures c.a_stored_table_is_not_damaged.ensures (told c.make.new.disk) (told c.in-Err-start.refusal.1) _ _ c.in-Err-start.ensures.any_moment c.in-Err-start.refusal.0 _ _
    c.in-Err-start.ensures.untouched c.in-Err-start.ensures.front c.in-Err-start.ensures.refused in
    let fresh = refused_fresh c.one_layout.ensures c.a_stored_table_is_not_damaged.ensures (told c.make.new.disk) (told c.in-Err-start.refusal.1) _ _ c.in-Err-start.ensures.any_moment c.in-Err-start.refusal.0 c.in-Err-start.ensures.refused in
    done_as_answered told (Threads c.args.layout.now) (told c.args.disk) _ _ _ _ c.refused.ensures.status c.refused.ensures.disk
    (as_new (new_done c.one_layout.ensures c.a_stored_table_is_not_damaged.ensures c.args.layout.now (told c.args.disk) (told c.make.new.disk) c.make.ensures.any_moment
    (told c.in-Err-start.refusal.1) _ _ _ _ _ c.in-Ok.ensures.made _ _ c.in-Ok.ensures.holds refused c.in-Ok.ensures.fit fresh))

pub returns-in-Err-start-clause-threads : goal.returns-in-Err-start-clause-threads
returns-in-Err-start-clause-threads g c = λ honest.
    let given = c.requires.given honest in
    let told = g.D.Disk.told in
    let layout = c.args.layout.now in
    let mid = told c.make.new.disk in
    let tells = c.make.ensures.any_moment.tells_contents ∙ given.tells in
    let un = not_opened c.one_layout.ensures c.a_stored_table_is_not_damaged.ensures mid (told c.in-Err-start.refusal.1) (g.S.Source.left c.args.source.now) (g.K.Sink.taken c.args.sink.now) c.in-Err-start.ensures.any_moment
    layout initial_state.table tells (held mid layout (c.in-Ok.ensures.holds given.tells)) c.in-Err-start.refusal.0 c.in-Err-start.ensures.refused in
    worked_as_answered told (Threads layout) (told c.args.disk) _ _ _ _ c.refused.ensures.status c.refused.ensures.disk _ _ _ _ _ _ _
    (inl (new_refused layout (told c.args.disk) mid c.make.ensures.any_moment _ (told c.in-Err-start.refusal.1) _ _ _ _ c.in-Ok.ensures.made un))

pub returns-in-Err-clause-done : goal.returns-in-Err-clause-done
returns-in-Err-clause-done g c =
    as_new (unfit_done c.one_layout.ensures c.a_stored_table_is_not_damaged.ensures c.args.layout.now (g.D.Disk.told c.args.disk) (g.D.Disk.told c.make.new.disk) c.make.ensures.any_moment
    c.in-Err.status _ _ _ _ c.in-Err.ensures.unfit)

pub returns-in-Err-clause-threads : goal.returns-in-Err-clause-threads
returns-in-Err-clause-threads g c = λ honest.
    unfit_worked c.args.layout.now (g.D.Disk.told c.args.disk) (g.D.Disk.told c.make.new.disk) c.make.ensures.any_moment c.in-Err.status _ _ c.in-Err.ensures.unfit _ _ _
