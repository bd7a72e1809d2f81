use Rattle.std.proofs.Common.{length}
use Rattle.buffer_pool.proofs.Seats.{exchanged, seat_here, seat_there, seat_others}
use Rattle.buffer_pool.proofs.ring.exchange.Goals as goal

pub returns-clause-paired : goal.returns-clause-paired
returns-clause-paired c = exchanged (length c.args.members.now) c.args.members.now c.args.seats.now c.args.frame c.args.seat c.requires.paired c.requires.frame c.requires.seat

pub returns-clause-here : goal.returns-clause-here
returns-clause-here c = seat_here (length c.args.members.now) c.args.members.now c.args.seats.now c.args.frame c.args.seat c.requires.paired c.requires.frame c.requires.seat

pub returns-clause-there : goal.returns-clause-there
returns-clause-there c = seat_there (length c.args.members.now) c.args.members.now c.args.seats.now c.args.frame c.args.seat c.requires.paired c.requires.frame c.requires.seat

pub returns-clause-others : goal.returns-clause-others
returns-clause-others c = seat_others (length c.args.members.now) c.args.members.now c.args.seats.now c.args.frame c.args.seat c.requires.paired c.requires.frame c.requires.seat
