use Rattle.std.proofs.Common.{◌-◌, ◌≤◌, ℕ, List, []}
use Rattle.std.specs.Io.KnownBytes.{Consumes}
use Rattle.script_run.specs.Reading.{ReadsOn}
use Rattle.script_run.specs.Buffered.{reading, IsFilling}
use Rattle.script_run.proofs.cursor.fill.Given as goal

-- no line ends in the pieces so far
abbrev pub invariant-pieces : goal.invariant-pieces
invariant-pieces g l = record {
  filling : IsFilling l.buffer l.cursor;
  reads : (came : List ℕ) × Consumes (g.S.Source.left l.fn.source) (g.S.Source.left l.source) came × ReadsOn (reading l.fn.buffer l.fn.cursor) (reading l.buffer l.cursor) came [];
  later : g.S.Source.faults l.fn.source ≤ g.S.Source.faults l.source;
}

abbrev pub decreases-pieces : goal.decreases-pieces
decreases-pieces g l = l.cursor.limit - l.cursor.taken
