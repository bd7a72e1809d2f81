use Rattle.std.proofs.Common.{None, sym, ◌∙◌}
use Rattle.std.specs.Prelude.{IsTrue}
use Rattle.brin_app.specs.declared.top.Task.TheVariants.{Demo}
use Rattle.brin_app.proofs.DemoDone.{new_demo, unfit_demo}
use Rattle.brin_app.proofs.Doing.{fresh_image}
use Rattle.brin_app.proofs.Holding.{demo_image, demo_on, laws_of, made_on, unfit_on}
use Rattle.brin_app.proofs.demo.run_demo.Goals as goal

pub demo_on-requires-clause-image : goal.demo_on-requires-clause-image
demo_on-requires-clause-image g c =
    fresh_image c.one_layout.ensures (g.D.Disk.told c.make.new.disk) c.args.layout.now (c.each_image_opens_to_one_map.ensures c.args.layout.now)
    (λ tells. c.in-Ok.ensures.holds (sym c.make.ensures.any_moment.tells_contents ∙ tells))

pub returns-in-Ok : goal.returns-in-Ok
returns-in-Ok g c = record {
  done = λ left.
      new_demo c.one_layout.ensures c.a_stored_table_is_not_damaged.ensures c.args.layout.now c.args.numbers.seed c.args.numbers.rows (g.D.Disk.told c.args.disk) (g.D.Disk.told c.make.new.disk)
      c.make.ensures.any_moment (g.D.Disk.told c.demo_on.result.1) c.demo_on.result.0 _ _ c.in-Ok.ensures.made ⊥ _ c.in-Ok.ensures.holds c.demo_on.ensures.sums
      (c.a_demo_fits_the_journal.ensures c.args.layout.now c.args.numbers.seed c.args.numbers.rows c.requires) c.in-Ok.ensures.fit left;
  holds_on =
      let one = c.one_layout.ensures in
      let map = c.each_image_opens_to_one_map.ensures in
      let layout = c.args.layout.now in
      let mid = g.D.Disk.told c.make.new.disk in
      let new = g.D.Disk.told c.demo_on.result.1 in
      let obeys = laws_of g.D.Disk.told g.met.D.Disk.images_need_contents g.met.D.Disk.contents_are_an_image g.met.D.Disk.now_is_since in
      let laws = obeys c.demo_on.result.1 in
      let taken = g.K.Sink.taken c.args.sink.now in
      let taken' = g.K.Sink.taken c.demo_on.new.sink in
      let holds = λ (tells : IsTrue mid.tells_contents). c.in-Ok.ensures.holds (sym c.make.ensures.any_moment.tells_contents ∙ tells) in
      let run = λ (tells : IsTrue mid.tells_contents). c.demo_on.ensures.sums.run tells layout (holds tells) None in
      made_on one map layout (g.D.Disk.told c.args.disk) mid c.make.ensures.any_moment c.in-Ok.ensures.made c.in-Ok.ensures.holds (obeys c.args.disk) (Demo layout c.args.numbers.seed c.args.numbers.rows)
      c.demo_on.result.0 new (λ sure. demo_on one map mid new laws c.demo_on.result.0 c.args.numbers.seed c.args.numbers.rows layout None taken taken' (run sure.tells_contents) sure)
      (λ _ has tells images. demo_image one map mid new laws c.demo_on.result.0 c.args.numbers.seed c.args.numbers.rows layout None taken taken' (run tells) has images);
}

pub returns-in-Err : goal.returns-in-Err
returns-in-Err g c = record {
  done = λ left.
      unfit_demo c.one_layout.ensures c.a_stored_table_is_not_damaged.ensures c.args.layout.now c.args.numbers.seed c.args.numbers.rows (g.D.Disk.told c.args.disk) (g.D.Disk.told c.make.new.disk)
      c.make.ensures.any_moment c.in-Err.status left _ ⊥ _ c.in-Err.ensures.unfit;
  holds_on =
      let obeys = laws_of g.D.Disk.told g.met.D.Disk.images_need_contents g.met.D.Disk.contents_are_an_image g.met.D.Disk.now_is_since in
      unfit_on c.one_layout.ensures c.each_image_opens_to_one_map.ensures (g.D.Disk.told c.args.disk) (g.D.Disk.told c.make.new.disk) (obeys c.make.new.disk) (Demo c.args.layout.now c.args.numbers.seed c.args.numbers.rows)
      c.in-Err.status c.args.layout.now (obeys c.args.disk) c.make.ensures.any_moment c.in-Err.ensures.unfit;
}
