use Rattle.std.proofs.Common.{subst}
use Rattle.std.specs.Prelude.{IfOk}
use Rattle.heap_rows.specs.HeapBlocks.{OfBlocks}
use Rattle.summarise_core.specs.SummariseHands.{table_of}
use Rattle.summarise_core.specs.Summarises.{KeepsExact, SummariseState, state_of}
use Rattle.summarise_core.proofs.summarise.Summarise.step.Goals as goal

pub returns-in-AtRange-clause-exact : goal.returns-in-AtRange-clause-exact
returns-in-AtRange-clause-exact g c =
    subst (λ (a : SummariseState). IfOk c.go_on.result (λ did. OfBlocks g.D.Disk.told c.args.pages.now (table_of c.args.pages.now.layout a.index) (λ blocks. KeepsExact c.args.pages.now.layout blocks a (state_of c.self.inside.index c.go_on.new.course c.go_on.new.work)))) c.self.view_is c.go_on.ensures.exact
