use Rattle.summarise_core.specs.declared.range_stage.Stage.TheVariants as stages
use Rattle.summarise_core.specs.Works.{hand_of}
use Rattle.summarise_core.specs.ShownHeap.{heap_of}
use Rattle.summarise_core.proofs.work.unite_in.Goals as goal

pub returns-in-Ok-clause-stepped : goal.returns-in-Ok-clause-stepped
returns-in-Ok-clause-stepped g c = λ tells locks heap. c.in-Ok.ensures.stepped tells locks heap (hand_of (stages.Copy c.args.spot) c.args.work.now)

pub returns-in-Ok-clause-exact : goal.returns-in-Ok-clause-exact
returns-in-Ok-clause-exact g c = λ tells blocks has so_far. c.in-Ok.ensures.exact (heap_of c.args.pages.now.layout c.args.at.index blocks) (hand_of (stages.Copy c.args.spot) c.args.work.now) so_far
