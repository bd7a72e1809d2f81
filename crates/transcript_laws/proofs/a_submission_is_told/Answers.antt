use Rattle.transcript_laws.proofs.Places.{refused_told, taken_ahead}
use Rattle.transcript_laws.proofs.a_submission_is_told.Goals as goal

pub returns-clause-taken : goal.returns-clause-taken
returns-clause-taken c = taken_ahead

pub returns-clause-refused : goal.returns-clause-refused
returns-clause-refused c = refused_told
