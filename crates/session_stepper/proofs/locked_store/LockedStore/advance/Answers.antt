use Rattle.plain_script.specs.PlainScripts.{plain_script}
use Rattle.script_run.specs.Script.{script_lines}
use Rattle.session_stepper.proofs.Books.{advance_is, locked_on, over_ends, status_stays}
use Rattle.session_stepper.proofs.Watching.{advanced_on}
use Rattle.session_stepper.proofs.locked_store.LockedStore.advance.Goals as goal

pub invariant_of-self : goal.invariant_of-self
invariant_of-self g c =
    let i = c.self.inside in
    let call = advance_is g.D.Disk.told g.N.Names.faults i.kept c.step-turn.new.self c.args.session c.step-turn.result c.step-turn.ensures in (
      locked_on g.D.Disk.told g.N.Names.faults i.kept c.step-turn.new.self c.step-turn.result i.answers.total c.count.new.answers.total i.ends.total c.count.new.ends.total call c.self.invariant.0
          c.count.ensures.answers c.count.ensures.ends,
      λ honest. advanced_on g.D.Disk.told g.N.Names.opening g.N.Names.layout (plain_script g.N.Names.layout.schema (script_lines g.N.Names.script)) i.kept c.step-turn.new.self c.args.session c.step-turn.result c.step-turn.ensures
          c.self.invariant.0.ready (c.self.invariant.1 honest),
    )

pub returns-clause-advanced : goal.returns-clause-advanced
returns-clause-advanced g c = rw (← c.self.view_is) c.step-turn.ensures

pub returns-clause-answers : goal.returns-clause-answers
returns-clause-answers g c = rw (← c.self.view_is) (advance_is g.D.Disk.told g.N.Names.faults c.self.inside.kept c.step-turn.new.self c.args.session c.step-turn.result c.step-turn.ensures).said

pub returns-clause-over : goal.returns-clause-over
returns-clause-over g c =
    let i = c.self.inside in
    rw (← c.self.view_is)
    (over_ends g.D.Disk.told g.N.Names.faults i.kept c.step-turn.new.self c.step-turn.result i.answers.total i.ends.total
    (advance_is g.D.Disk.told g.N.Names.faults i.kept c.step-turn.new.self c.args.session c.step-turn.result c.step-turn.ensures) c.self.invariant.0)

pub returns-clause-status : goal.returns-clause-status
returns-clause-status g c =
    let i = c.self.inside in
    rw (← c.self.view_is)
    (status_stays g.D.Disk.told g.N.Names.faults i.kept c.step-turn.new.self c.step-turn.result (advance_is g.D.Disk.told g.N.Names.faults i.kept c.step-turn.new.self c.args.session c.step-turn.result c.step-turn.ensures))
