use Rattle.std.specs.Prelude.{IfSome}
use Rattle.std.proofs.Common.{subst}
use Rattle.brin_app.specs.declared.top.Task.TheVariants.{Threads}
use Rattle.brin_app.specs.Tasks.{Asks}
use Rattle.rerun.proofs.beside.run_beside.Goals as goal

pub returns : goal.returns
returns g c = λ has. (c.in-Some.layout, subst (λ found. IfSome found (λ l. Asks c.args.words.now (Threads l))) c.in-Some.is c.in-Ok.ensures.asked, c.run_named.ensures has)
