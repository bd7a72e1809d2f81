use Rattle.std.proofs.Common.{arith}
use Rattle.page_map.proofs.Soughts.{room_end, unstarted_end}
use Rattle.page_map.proofs.lowest.first_from.Goals as goal

pub returns-in-Room : goal.returns-in-Room
returns-in-Room c = room_end c.args.sought c.args.facts.now c.args.limit c.candidates.n c.in-Room.is (omega arith) c.candidates.invariant

pub returns-in-Unstarted : goal.returns-in-Unstarted
returns-in-Unstarted c = unstarted_end c.args.sought c.args.facts.now c.args.limit c.candidates.n c.in-Unstarted.is (omega arith) c.requires.few c.candidates.invariant
