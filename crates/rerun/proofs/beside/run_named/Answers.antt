use Rattle.std.proofs.Common.{◌≡◌, Some, refl, sym, ap, subst}
use Rattle.disk_trait.specs.Memory.{told_by_memory}
use Rattle.brin_app.specs.declared.top.Task.{Task}
use Rattle.brin_app.specs.declared.top.Task.TheVariants.{RunStored, Threads}
use Rattle.brin_app.specs.Threads.{IsGivenFor}
use Rattle.rerun.proofs.Named.{worked_named}
use Rattle.rerun.proofs.beside.run_named.Goals as goal

pub brin_main-requires-clause-image : goal.brin_main-requires-clause-image
brin_main-requires-clause-image g c κs within asked = absurd (let bad : RunStored ≡ Threads c.args.layout.now = c.requires.alone RunStored asked in cc)

pub brin_main-requires-clause-faults : goal.brin_main-requires-clause-faults
brin_main-requires-clause-faults g c κs within threads = c.requires.named.0

pub brin_main-requires-clause-given : goal.brin_main-requires-clause-given
brin_main-requires-clause-given g c κs within honest task asked =
    subst (λ (t : Task). IsGivenFor t (told_by_memory c.args.disk) (Some c.args.streams.now.script.left) g.N.Names.opening g.N.Names.layout g.N.Names.script) (sym (c.requires.alone task asked))
    (record { tells = refl; source = ap Some (sym c.requires.named.4); layout_is = c.requires.named.3; opening_is = c.requires.named.2 })

pub returns : goal.returns
returns g c = λ has.
    worked_named c.brin_main.result.0 g.N.Names.opening g.N.Names.layout c.args.layout.now g.N.Names.script c.args.streams.now.script.left _ _ _ _ _ _ c.requires.named.2 c.requires.named.3 c.requires.named.4 has
    (c.brin_main.ensures.threads_output c.requires.named.1 (Threads c.args.layout.now) c.requires.asked)
