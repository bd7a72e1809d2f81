use Rattle.std.proofs.Common.{sym, subst, arith}
use Rattle.vacuum_core.specs.Vacuums.{ComesTo, ToBlock, ToPages}
use Rattle.vacuum_core.specs.declared.standing.Standing.{Standing}
use Rattle.vacuum_core.proofs.vacuum.stand_at.Goals as goal

pub returns-then-block-extent-clause-comes : goal.returns-then-block-extent-clause-comes
returns-then-block-extent-clause-comes g c = λ tells. ToBlock c.if-block-extent.true

pub returns-in-Ok-clause-comes : goal.returns-in-Ok-clause-comes
returns-in-Ok-clause-comes g c = λ tells.
    let store = c.args.pages.now in
    subst (λ (q : Standing). ComesTo store.layout store.pages c.args.indexes.now c.args.extent c.args.block q) (sym c.standing_of.ensures)
    (ToPages c.in-Ok.next (omega (arith, c.if-block-extent.false)) (c.in-Ok.ensures.next tells))
