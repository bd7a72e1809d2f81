use Rattle.plain_script.specs.PlainScripts.{plain_script}
use Rattle.script_run.specs.Script.{script_lines}
use Rattle.session_stepper.proofs.Books.{submit_is, locked_on, over_ends, status_stays}
use Rattle.session_stepper.proofs.Watching.{submitted_on}
use Rattle.session_stepper.proofs.locked_store.LockedStore.submit_line.Goals as goal

pub invariant_of-self : goal.invariant_of-self
invariant_of-self g c =
    let i = c.self.inside in
    let call = submit_is g.D.Disk.told g.N.Names.faults i.kept c.submit-turn.new.self c.args.session c.args.line c.submit-turn.result c.submit-turn.ensures in (
      locked_on g.D.Disk.told g.N.Names.faults i.kept c.submit-turn.new.self c.submit-turn.result i.answers.total c.count.new.answers.total i.ends.total c.count.new.ends.total call c.self.invariant.0
          c.count.ensures.answers c.count.ensures.ends,
      λ honest. submitted_on g.D.Disk.told g.N.Names.opening g.N.Names.layout (plain_script g.N.Names.layout.schema (script_lines g.N.Names.script)) i.kept c.submit-turn.new.self c.args.session c.args.line c.submit-turn.result c.submit-turn.ensures
          c.self.invariant.0.ready (c.self.invariant.1 honest),
    )

pub returns-clause-submitted : goal.returns-clause-submitted
returns-clause-submitted g c = rw (← c.self.view_is) c.submit-turn.ensures

pub returns-clause-answers : goal.returns-clause-answers
returns-clause-answers g c = rw (← c.self.view_is) (submit_is g.D.Disk.told g.N.Names.faults c.self.inside.kept c.submit-turn.new.self c.args.session c.args.line c.submit-turn.result c.submit-turn.ensures).said

pub returns-clause-over : goal.returns-clause-over
returns-clause-over g c =
    let i = c.self.inside in
    rw (← c.self.view_is)
    (over_ends g.D.Disk.told g.N.Names.faults i.kept c.submit-turn.new.self c.submit-turn.result i.answers.total i.ends.total
    (submit_is g.D.Disk.told g.N.Names.faults i.kept c.submit-turn.new.self c.args.session c.args.line c.submit-turn.result c.submit-turn.ensures) c.self.invariant.0)

pub returns-clause-status : goal.returns-clause-status
returns-clause-status g c =
    let i = c.self.inside in
    rw (← c.self.view_is)
    (status_stays g.D.Disk.told g.N.Names.faults i.kept c.submit-turn.new.self c.submit-turn.result (submit_is g.D.Disk.told g.N.Names.faults i.kept c.submit-turn.new.self c.args.session c.args.line c.submit-turn.result c.submit-turn.ensures))
