use Rattle.script_laws.proofs.AskSteps.{an_ask_is_dropped, an_ask_joins}
use Rattle.script_laws.proofs.asking.an_ask_beyond_64_is_dropped.Goals as goal

pub returns-clause-dropped : goal.returns-clause-dropped
returns-clause-dropped c = an_ask_is_dropped

pub returns-clause-joins : goal.returns-clause-joins
returns-clause-joins c = an_ask_joins
