use Rattle.transcripts.proofs.Answers.{conflicts_have_causes, requests_are_told, told_are_requests}
use Rattle.transcripts.proofs.entries_have_their_answers.Goals as goal

pub returns-clause-requests : goal.returns-clause-requests
returns-clause-requests c = told_are_requests

pub returns-clause-told : goal.returns-clause-told
returns-clause-told c = requests_are_told

pub returns-clause-conflict : goal.returns-clause-conflict
returns-clause-conflict c = conflicts_have_causes
