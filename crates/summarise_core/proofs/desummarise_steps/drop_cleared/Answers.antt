use Rattle.std.proofs.Common.{arith}
use Rattle.index_contents.specs.IndexContents.{contents}
use Rattle.index_steps.specs.IndexTuples.{shape_of}
use Rattle.index_steps.specs.ShownIndex.{lock_in}
use Rattle.summarise_core.proofs.DesummariseStepped.{is_dropped}
use Rattle.summarise_core.proofs.desummarise_steps.drop_cleared.Goals as goal

pub returns-in-Ok-clause-stepped : goal.returns-in-Ok-clause-stepped
returns-in-Ok-clause-stepped g c = λ tells.
    let store = c.args.pages.now in
    let at = c.args.at in
    is_dropped (shape_of store.layout at.index) at.actor at.range (contents store.layout store.pages at.index) (contents store.layout c.drop_moved.new.pages.pages at.index)
    (lock_in store.layout c.args.locks.now at.index) (lock_in store.layout c.drop_moved.new.locks at.index) c.args.from (c.in-Ok.ensures.dropped tells)

pub returns-in-Ok-clause-own : goal.returns-in-Ok-clause-own
returns-in-Ok-clause-own g c = let none = c.in-Ok.ensures.given.none in omega (arith, none)
