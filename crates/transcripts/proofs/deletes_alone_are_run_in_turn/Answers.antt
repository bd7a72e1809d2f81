use Rattle.transcripts.proofs.InTurn.{one_session_alone, runs_are_transcripts, transcripts_are_runs}
use Rattle.transcripts.proofs.deletes_alone_are_run_in_turn.Goals as goal

pub returns-clause-run : goal.returns-clause-run
returns-clause-run c = transcripts_are_runs

pub returns-clause-transcript : goal.returns-clause-transcript
returns-clause-transcript c = runs_are_transcripts

pub returns-clause-one : goal.returns-clause-one
returns-clause-one c = one_session_alone
