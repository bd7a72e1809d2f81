use Rattle.std.proofs.Common.{subst}
use Rattle.io_traits.specs.Written.{AppendsPart}
use Rattle.transcripts.specs.Transcript.{Said}
use Rattle.threads_run.proofs.WrittenParts.{on_err, part_of_texts}
use Rattle.threads_run.proofs.writing.write_said.Goals as goal

pub returns-in_err-write_all-clause-part : goal.returns-in_err-write_all-clause-part
returns-in_err-write_all-clause-part g c =
    on_err c.from_residual.result _
    (part_of_texts (λ (e : Said). e.text) _ _ _ c.args.said.now c.said.entry-index c.entry-item.result c.said-test.true c.entry-item.is c.said.invariant.written
    (subst (AppendsPart (g.K.Sink.taken c.said.sink) (g.K.Sink.taken c.write_all.new.sink)) c.text.ensures c.in_err-write_all.ensures.part))
