use Rattle.std.proofs.Common.{sym, subst}
use Rattle.recovery.specs.PooledPages.{HoldsDurablePages}
use Rattle.recovery.proofs.judging.judge.Goals as goal

pub judge_order-requires-clause-held : goal.judge_order-requires-clause-held
judge_order-requires-clause-held g c = subst (HoldsDurablePages c.args.layout.now) (sym c.in-Ok.ensures.pool) c.requires.held
