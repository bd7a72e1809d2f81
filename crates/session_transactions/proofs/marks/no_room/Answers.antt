use Rattle.session_parts.specs.declared.hand.Hand.TheVariants as hands
use Rattle.session_transactions.proofs.Lacking.{lacks}
use Rattle.session_transactions.proofs.Undoing.{no_room_for, none_marked}
use Rattle.session_transactions.proofs.marks.no_room.Goals as goal

pub returns : goal.returns
returns g c =
    let laws = c.laws_of_marks.ensures in
    let r = no_room_for g.D.Disk.told c.args.parts.now c.args.session (hands.Marks c.args.marking.now) c.spent.result c.requires.fit c.requires.ready c.spent.ensures (none_marked c.args.marking.now.look _ c.requires.full)
    (lacks g.D.Disk.told laws.sessions laws.copies c.args.parts.now c.args.session c.args.marking.now c.requires.fit c.requires.full) in
    record { steps = r.steps; fit = r.fit; others = r.others; stays = r.stays; cause = r.cause }
