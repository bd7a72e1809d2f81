use Rattle.std.proofs.Common.{refl, inl, inr}
use Rattle.block_model.specs.DatabaseState.{initial_state}
use Rattle.brin_app.specs.declared.top.Task.TheVariants.{Init}
use Rattle.brin_app.proofs.Doing.{unfit_made}
use Rattle.brin_app.proofs.Holding.{laws_of, made_on, stays_sure, unfit_on}
use Rattle.brin_app.proofs.top.init.Goals as goal

pub returns-in-Ok-clause-made : goal.returns-in-Ok-clause-made
returns-in-Ok-clause-made g c = record {
  any_moment = c.make.ensures.fresh_moment;
  made = λ _. c.in-Ok.ensures.fresh;
  holds = λ _. c.in-Ok.ensures.holds;
}

pub returns-in-Ok-clause-cause : goal.returns-in-Ok-clause-cause
returns-in-Ok-clause-cause g c = inl (refl, c.in-Ok.ensures.fit)

pub returns-in-Err-clause-made : goal.returns-in-Err-clause-made
returns-in-Err-clause-made g c = unfit_made c.in-Err.status c.args.layout.now (g.D.Disk.told c.args.disk) (g.D.Disk.told c.make.new.disk) c.make.ensures.fresh_moment c.in-Err.ensures.unfit

pub returns-in-Err-clause-cause : goal.returns-in-Err-clause-cause
returns-in-Err-clause-cause g c = inr c.in-Err.ensures.unfit

pub returns-in-Ok-clause-holds_on : goal.returns-in-Ok-clause-holds_on
returns-in-Ok-clause-holds_on g c =
    let one = c.one_layout.ensures in
    let map = c.each_image_opens_to_one_map.ensures in
    let layout = c.args.layout.now in
    let old = g.D.Disk.told c.args.disk in
    let new = g.D.Disk.told c.make.new.disk in
    let obeys = laws_of g.D.Disk.told g.met.D.Disk.images_need_contents g.met.D.Disk.contents_are_an_image g.met.D.Disk.now_is_since in
    made_on one map layout old new c.make.ensures.any_moment c.in-Ok.ensures.made c.in-Ok.ensures.holds (obeys c.args.disk) (Init layout) 0 new
    (λ sure. stays_sure one map new (obeys c.make.new.disk) 0 (layout, initial_state.table, sure)) (λ image _ _ _. image)

pub returns-in-Err-clause-holds_on : goal.returns-in-Err-clause-holds_on
returns-in-Err-clause-holds_on g c =
    let old = g.D.Disk.told c.args.disk in
    let new = g.D.Disk.told c.make.new.disk in
    let obeys = laws_of g.D.Disk.told g.met.D.Disk.images_need_contents g.met.D.Disk.contents_are_an_image g.met.D.Disk.now_is_since in
    unfit_on c.one_layout.ensures c.each_image_opens_to_one_map.ensures old new (obeys c.make.new.disk) (Init c.args.layout.now) c.in-Err.status c.args.layout.now (obeys c.args.disk)
    c.make.ensures.any_moment c.in-Err.ensures.unfit
