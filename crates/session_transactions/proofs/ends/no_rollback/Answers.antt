use Rattle.session_transactions.proofs.Stopping.{passes_nothing}
use Rattle.session_transactions.proofs.Rooms.{no_rollback}
use Rattle.session_transactions.proofs.Undoing.{no_room_for, none_more}
use Rattle.session_parts.specs.declared.hand.Hand.TheVariants as hands
use Rattle.session_parts.proofs.Undone.{fit_of_parts}
use Rattle.session_transactions.proofs.ends.no_rollback.Goals as goal

pub returns : goal.returns
returns g c =
    let r = no_room_for g.D.Disk.told c.args.parts.now c.args.session hands.RollsBack c.spent.result c.requires.fit c.requires.ready c.spent.ensures (none_more _ c.requires.full)
    (no_rollback c.laws_of_transactions.ensures.sessions c.args.parts.now c.args.session c.requires.full (fit_of_parts g.D.Disk.told c.args.parts.now c.args.session hands.RollsBack c.requires.fit).in_hand) in
    record { steps = r.steps; fit = r.fit; others = r.others; stays = r.stays; cause = r.cause; survives = passes_nothing g.D.Disk.told c.args.parts.now.pages c.known.ensures.stays }
