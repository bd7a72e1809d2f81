use Rattle.std.proofs.Common.{subst}
use Rattle.block_model.specs.declared.schema.Schema.{Schema}
use Rattle.block_model.specs.declared.schema.Sizes.{Sizes}
use Rattle.store_layout.specs.DiskLayout.{DiskLayout}
use Rattle.store_layout.specs.FirstBrokenRule.{IsLeastBroken, KeepsLimits}
use Rattle.plain_script.specs.PlainScripts.{plain_script}
use Rattle.script_run.specs.Script.{script_lines}
use Rattle.session_stepper.proofs.Watching.{knows}
use Rattle.session_stepper.proofs.locked_store.LockedStore.known.Goals as goal

pub returns-clause-watched : goal.returns-clause-watched
returns-clause-watched g c honest =
    let i = c.self.inside in
    rw (← c.self.view_is)
    (knows g.D.Disk.told g.N.Names.opening g.N.Names.layout (plain_script g.N.Names.layout.schema (script_lines g.N.Names.script)) i.kept c.schedules_are_transcripts.ensures.told
    c.schedules_are_transcripts.ensures.reached c.answers_are_in_place.ensures.place c.answers_are_in_place.ensures.drops c.a_step_enters.ensures
    (subst (λ (l : DiskLayout). KeepsLimits l.schema l.sizes) c.layout-layout.ensures c.known.ensures.limits)
    (subst (λ (l : DiskLayout). IsLeastBroken l.schema l.sizes) c.layout-layout.ensures (subst (λ (x : Schema). IsLeastBroken x c.layout-layout.result.now.sizes) c.schema.ensures
    (subst (λ (z : Sizes). IsLeastBroken c.schema.result.now z) c.sizes.ensures c.the_first_broken_rule_is_the_least.ensures))) c.known-2.ensures
    (c.self.invariant.1 honest))
