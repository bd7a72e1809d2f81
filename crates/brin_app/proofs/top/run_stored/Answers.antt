use Rattle.brin_app.proofs.Doing.{fresh_run, refused_done, refused_fresh, stored_done}
use Rattle.brin_app.proofs.Holding.{laws_of, opened_on, refused_on}
use Rattle.brin_app.proofs.Performed.{answered_done, answered_fresh}
use Rattle.brin_app.proofs.top.run_stored.Goals as goal

pub returns-in-Ok-clause-done : goal.returns-in-Ok-clause-done
returns-in-Ok-clause-done g c =
    stored_done g.D.Disk.told c.one_layout.ensures (g.D.Disk.told c.args.disk) c.in-Ok.store (c.each_image_opens_to_one_map.ensures c.in-Ok.store.pages.layout) c.in-Ok.ensures.there c.in-Ok.ensures.pages c.in-Ok.ensures.tells
    c.in-Ok.ensures.ready c.in-Ok.ensures.opens c.in-Ok.ensures.any_moment (g.D.Disk.told c.run_opened.result.1) c.run_opened.result.0 _ _ _ _ c.run_opened.ensures.runs c.requires c.run_opened.ensures.known _ _
    c.run_opened.ensures.read_fault c.run_opened.ensures.write_fault c.in-Ok.ensures.later c.run_opened.ensures.disk_fault c.run_opened.ensures.damaged c.run_opened.ensures.others

pub returns-in-Ok-clause-fresh : goal.returns-in-Ok-clause-fresh
returns-in-Ok-clause-fresh g c =
    fresh_run g.D.Disk.told c.one_layout.ensures (g.D.Disk.told c.args.disk) c.in-Ok.store (c.each_image_opens_to_one_map.ensures c.in-Ok.store.pages.layout) c.in-Ok.ensures.there c.in-Ok.ensures.pages c.in-Ok.ensures.tells
    c.in-Ok.ensures.ready c.in-Ok.ensures.opens c.in-Ok.ensures.any_moment (g.D.Disk.told c.run_opened.result.1) c.run_opened.result.0 _ _ _ _ c.run_opened.ensures.runs c.in-Ok.ensures.starts

pub returns-in-Err-clause-done : goal.returns-in-Err-clause-done
returns-in-Err-clause-done g c =
    answered_done g.D.Disk.told (g.D.Disk.told c.args.disk) _ _ _ _ c.refused.ensures.status c.refused.ensures.disk
    (refused_done c.one_layout.ensures c.a_stored_table_is_not_damaged.ensures (g.D.Disk.told c.args.disk) (g.D.Disk.told c.in-Err.refusal.1) _ _ c.in-Err.ensures.any_moment c.in-Err.refusal.0 _ _
    c.in-Err.ensures.untouched c.in-Err.ensures.front c.in-Err.ensures.refused)

pub returns-in-Err-clause-fresh : goal.returns-in-Err-clause-fresh
returns-in-Err-clause-fresh g c =
    answered_fresh g.D.Disk.told (g.D.Disk.told c.args.disk) _ _ _ _ c.refused.ensures.status c.refused.ensures.disk
    (refused_fresh c.one_layout.ensures c.a_stored_table_is_not_damaged.ensures (g.D.Disk.told c.args.disk) (g.D.Disk.told c.in-Err.refusal.1) _ _ c.in-Err.ensures.any_moment c.in-Err.refusal.0
    c.in-Err.ensures.refused)

pub returns-in-Ok-clause-holds_on : goal.returns-in-Ok-clause-holds_on
returns-in-Ok-clause-holds_on g c =
    let obeys = laws_of g.D.Disk.told g.met.D.Disk.images_need_contents g.met.D.Disk.contents_are_an_image g.met.D.Disk.now_is_since in
    let layout = c.in-Ok.store.pages.layout in
    let pages = c.in-Ok.store.pages.pages in
    opened_on c.one_layout.ensures c.each_image_opens_to_one_map.ensures (g.D.Disk.told c.args.disk) (g.D.Disk.told c.run_opened.result.1) (obeys c.run_opened.result.1) c.run_opened.result.0 _ _ _ _
    (returns-in-Ok-clause-done g c).output
    (λ holds tells.
    let found = holds tells layout pages (c.in-Ok.ensures.pages tells) in
    (layout, found.0, record { sized = (c.in-Ok.ensures.there tells).sized; pages = pages; opens = c.in-Ok.ensures.pages tells; image = found.1 }))

pub returns-in-Err-clause-holds_on : goal.returns-in-Err-clause-holds_on
returns-in-Err-clause-holds_on g c =
    let obeys = laws_of g.D.Disk.told g.met.D.Disk.images_need_contents g.met.D.Disk.contents_are_an_image g.met.D.Disk.now_is_since in
    refused_on c.one_layout.ensures c.each_image_opens_to_one_map.ensures (g.D.Disk.told c.args.disk) (g.D.Disk.told c.refused.result.1) (obeys c.refused.result.1) c.refused.result.0 c.in-Err.refusal.0 _ _ _ _ _ _
    c.refused.ensures.status (returns-in-Err-clause-done g c)
