use Rattle.transcripts.specs.Transcript.{Further, next_statement}
use Rattle.transcripts.proofs.Lines.{others_stay}
use Rattle.transcript_laws.proofs.an_answer_is_an_entry.Goals as goal
use Rattle.std.proofs.Common.{[]}
use Rattle.std.specs.Prelude.{◌++◌, ◌∷◌}
use Rattle.transcript_laws.proofs.Events.{begins_ahead}

pub returns-clause-begins : goal.returns-clause-begins
returns-clause-begins c = begins_ahead

pub returns-clause-entry : goal.returns-clause-entry
returns-clause-entry c = λ limits names script opening d s said hands e statement reply before next text answered. (
  answered.0,
  Further said s answered.0 e statement reply before next text answered.1,
  answered.2 (next_statement script (said ++ e ∷ [])) (λ m other. others_stay script said e m other),
)
