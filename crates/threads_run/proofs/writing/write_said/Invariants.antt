use Rattle.std.proofs.Common.{◌≤◌, take}
use Rattle.std.specs.Io.KnownBytes.{Appends}
use Rattle.threads_run.specs.Output.{texts_of}
use Rattle.threads_run.proofs.writing.write_said.Given as goal

-- the texts of the entries so far are written
abbrev pub invariant-said : goal.invariant-said
invariant-said g l =
    record {
      written : Appends (g.K.Sink.taken l.fn.sink) (g.K.Sink.taken l.sink) (texts_of (take l.entry-index l.said));
      later : g.K.Sink.faults l.fn.sink ≤ g.K.Sink.faults l.sink;
    }
