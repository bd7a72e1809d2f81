use Rattle.std.proofs.Common.{refl, ◌∙◌}
use Rattle.session_transactions.proofs.Finals.{refuses_so}
use Rattle.session_transactions.proofs.Lacking.{more_entries}
use Rattle.session_transactions.proofs.marks.refuse.Goals as goal

pub returns : goal.returns
returns g c =
    let laws = c.laws_of_marks.ensures in
    let r = refuses_so g.D.Disk.told c.args.parts.now c.args.session c.args.marking.now c.next_hit-hit.result c.requires.fit c.requires.ready c.next_hit-hit.ensures
    (record { sessions = laws.sessions; copies = laws.copies; conflict = laws.conflict; counts = laws.failed }) c.enter_look.new.journal c.enter.new.self c.release.new.self c.fail.new.self c.hits_left-left.result
    c.requires.conflict c.enter_look.ensures.entries c.enter_look.ensures.promised c.enter.ensures.entries c.enter.ensures.promised c.release.ensures.entries c.release.ensures.promised c.hits_left-left.ensures c.fail.ensures
    (more_entries c.args.marking.now.look c.args.session _ _ _ _ c.requires.room (c.release.ensures.entries ∙ c.enter.ensures.entries) c.enter_look.ensures.entries) in
    record { steps = r.steps; fit = r.fit; others = r.others; stays = r.stays; cause = r.cause; pages = refl }
