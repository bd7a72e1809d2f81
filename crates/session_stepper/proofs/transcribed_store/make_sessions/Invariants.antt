use Rattle.session_stepper.proofs.Naming.{SoFar}
use Rattle.session_stepper.proofs.transcribed_store.make_sessions.Given as goal

abbrev pub invariant-names : goal.invariant-names
invariant-names g l = SoFar g.D.Disk.told l.script.script.names l.initial.store l.store l.session
