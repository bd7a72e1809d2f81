use Rattle.plain_script.specs.PlainScripts.{plain_script}
use Rattle.script_run.specs.Script.{script_lines}
use Rattle.session_stepper.proofs.Books.{locked_new}
use Rattle.session_stepper.proofs.Watching.{watched_new}
use Rattle.session_stepper.proofs.locked_store.LockedStore.new.Goals as goal

pub invariant_of-result : goal.invariant_of-result
invariant_of-result g c = (
  locked_new g.D.Disk.told g.N.Names.faults c.in-Ok.kept c.args.store c.args.script c.args.answers.total c.args.ends.total c.in-Ok.ensures.ok c.requires.fresh.ready c.requires.faults c.requires.books.0
      c.requires.books.1,
  λ honest. watched_new g.D.Disk.told g.N.Names.opening g.N.Names.layout (plain_script g.N.Names.layout.schema (script_lines g.N.Names.script)) c.args.store c.args.script c.in-Ok.kept (c.requires.given honest)
      c.requires.fresh.ready c.in-Ok.ensures.ok,
)
