use Rattle.brin_app.proofs.DemoDone.{answered_sums, opened_sums, refused_sums}
use Rattle.brin_app.proofs.demo.demo_on.Goals as goal

pub returns-in-Ok : goal.returns-in-Ok
returns-in-Ok g c = record {
  sums = opened_sums g.D.Disk.told c.one_layout.ensures (g.D.Disk.told c.args.disk) c.in-Ok.store (c.each_image_opens_to_one_map.ensures c.in-Ok.store.pages.layout) c.in-Ok.ensures.there c.in-Ok.ensures.pages c.in-Ok.ensures.tells
      c.in-Ok.ensures.ready c.in-Ok.ensures.opens c.in-Ok.ensures.any_moment (g.D.Disk.told c.demo_over.result.1) c.demo_over.result.0 c.args.numbers.seed c.args.numbers.rows _ _ c.demo_over.ensures.runs c.demo_over.ensures.known _
      c.in-Ok.ensures.starts c.demo_over.ensures.write_fault c.in-Ok.ensures.later c.demo_over.ensures.disk_fault c.demo_over.ensures.damaged c.demo_over.ensures.others;
}

pub returns-in-Err : goal.returns-in-Err
returns-in-Err g c = record {
  sums = answered_sums g.D.Disk.told (g.D.Disk.told c.args.disk) _ _ _ _ c.args.numbers.seed c.args.numbers.rows _ _ _ c.refused.ensures.status c.refused.ensures.disk
      (refused_sums c.one_layout.ensures c.a_stored_table_is_not_damaged.ensures (g.D.Disk.told c.args.disk) (g.D.Disk.told c.in-Err.refusal.1) _ c.in-Err.ensures.any_moment c.args.numbers.seed c.args.numbers.rows
      c.in-Err.refusal.0 _ c.in-Err.ensures.refused);
}
