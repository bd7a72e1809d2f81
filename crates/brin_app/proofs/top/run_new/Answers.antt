use Rattle.std.proofs.Common.{sym, ◌∙◌}
use Rattle.block_model.specs.DatabaseState.{initial_state}
use Rattle.brin_app.specs.declared.top.Task.TheVariants.{Run}
use Rattle.brin_app.proofs.Doing.{fresh_image, new_done, unfit_done}
use Rattle.brin_app.proofs.Holding.{laws_of, made_on, unfit_on}
use Rattle.brin_app.proofs.top.run_new.Goals as goal

pub run_stored-requires : goal.run_stored-requires
run_stored-requires g c =
    fresh_image c.one_layout.ensures (g.D.Disk.told c.make.new.disk) c.args.layout.now (c.each_image_opens_to_one_map.ensures c.args.layout.now)
    (λ tells. c.in-Ok.ensures.holds (sym c.make.ensures.any_moment.tells_contents ∙ tells))

pub returns-in-Ok : goal.returns-in-Ok
returns-in-Ok g c = record {
  done = new_done c.one_layout.ensures c.a_stored_table_is_not_damaged.ensures c.args.layout.now (g.D.Disk.told c.args.disk) (g.D.Disk.told c.make.new.disk) c.make.ensures.any_moment
      (g.D.Disk.told c.run_stored.result.1) c.run_stored.result.0 _ _ _ _ c.in-Ok.ensures.made _ _ c.in-Ok.ensures.holds c.run_stored.ensures.done c.in-Ok.ensures.fit c.run_stored.ensures.fresh;
  holds_on =
      let obeys = laws_of g.D.Disk.told g.met.D.Disk.images_need_contents g.met.D.Disk.contents_are_an_image g.met.D.Disk.now_is_since in
      made_on c.one_layout.ensures c.each_image_opens_to_one_map.ensures c.args.layout.now (g.D.Disk.told c.args.disk) (g.D.Disk.told c.make.new.disk) c.make.ensures.any_moment c.in-Ok.ensures.made c.in-Ok.ensures.holds
      (obeys c.args.disk) (Run c.args.layout.now) c.run_stored.result.0 (g.D.Disk.told c.run_stored.result.1) (λ sure. c.run_stored.ensures.holds_on.kept (c.args.layout.now, initial_state.table, sure))
      c.run_stored.ensures.holds_on.image;
}

pub returns-in-Err : goal.returns-in-Err
returns-in-Err g c = record {
  done = unfit_done c.one_layout.ensures c.a_stored_table_is_not_damaged.ensures c.args.layout.now (g.D.Disk.told c.args.disk) (g.D.Disk.told c.make.new.disk) c.make.ensures.any_moment
      c.in-Err.status _ _ _ _ c.in-Err.ensures.unfit;
  holds_on =
      let obeys = laws_of g.D.Disk.told g.met.D.Disk.images_need_contents g.met.D.Disk.contents_are_an_image g.met.D.Disk.now_is_since in
      unfit_on c.one_layout.ensures c.each_image_opens_to_one_map.ensures (g.D.Disk.told c.args.disk) (g.D.Disk.told c.make.new.disk) (obeys c.make.new.disk) (Run c.args.layout.now) c.in-Err.status c.args.layout.now
      (obeys c.args.disk) c.make.ensures.any_moment c.in-Err.ensures.unfit;
}
