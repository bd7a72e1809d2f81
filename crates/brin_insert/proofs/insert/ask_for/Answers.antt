use Rattle.std.proofs.Common.{length, refl}
use Rattle.brin_insert.specs.AskedFor.{InVain, JoinsQueue}
use Rattle.brin_insert.proofs.Asked.{is_full}
use Rattle.brin_insert.proofs.insert.ask_for.Goals as goal

pub returns-then-not-ask-clause-asked : goal.returns-then-not-ask-clause-asked
returns-then-not-ask-clause-asked c = InVain (is_full c.ask.result (length c.args.queue.now) c.if-not-ask.true c.ask.ensures.room.1) (c.ask.ensures.same c.if-not-ask.true) c.push_reserved.ensures.items

pub returns-else-not-ask-clause-asked : goal.returns-else-not-ask-clause-asked
returns-else-not-ask-clause-asked c = JoinsQueue (c.ask.ensures.room.0 c.if-not-ask.false) (c.ask.ensures.joins c.if-not-ask.false) refl
