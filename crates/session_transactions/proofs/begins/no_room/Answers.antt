use Rattle.session_transactions.proofs.Stopping.{passes_nothing}
use Rattle.session_transactions.proofs.Beginning.{idle, no_begin, the_begin_laws}
use Rattle.session_transactions.proofs.Undoing.{no_room_for, none_more}
use Rattle.session_parts.specs.declared.hand.Hand.TheVariants as hands
use Rattle.session_transactions.proofs.begins.no_room.Goals as goal

pub returns : goal.returns
returns g c =
    let laws = c.laws_of_transactions.ensures in
    let of_begin = the_begin_laws laws.sessions laws.begin_unseen laws.begun laws.rows in
    let r = no_room_for g.D.Disk.told c.args.parts.now c.args.session (hands.Begins c.args.numbers) c.spent.result c.requires.fit c.requires.ready c.spent.ensures (none_more _ c.requires.full)
    (no_begin of_begin c.args.parts.now c.args.session c.args.numbers c.requires.full (idle g.D.Disk.told of_begin c.args.parts.now c.args.session c.args.numbers c.requires.fit c.requires.ready) c.requires.some) in
    record { steps = r.steps; fit = r.fit; others = r.others; stays = r.stays; cause = r.cause; survives = passes_nothing g.D.Disk.told c.args.parts.now.pages c.known.ensures.stays }
