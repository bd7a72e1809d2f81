use Rattle.std.proofs.Common.{ℕ, List, ◌≤◌}
use Rattle.script_run.specs.Reading.{still}
use Rattle.script_run.proofs.Progress.{SoFar}
use Rattle.script_run.proofs.script.run.Given as goal

abbrev pub invariant-lines : goal.invariant-lines
invariant-lines g l = record {
  so_far : (script : List ℕ) × (done : List (List ℕ)) × (texts : List (List ℕ))
      × SoFar g.E.Engine.answers l.fn.engine l.engine l.limit l.lines (g.S.Source.left l.fn.source) (g.S.Source.left l.source) (g.K.Sink.taken l.fn.sink) (g.K.Sink.taken l.sink) script done texts;
  read : g.S.Source.faults l.fn.source ≤ g.S.Source.faults l.source;
  write : g.K.Sink.faults l.fn.sink ≤ g.K.Sink.faults l.sink;
}

abbrev pub decreases-lines : goal.decreases-lines
decreases-lines g l = still l.lines
