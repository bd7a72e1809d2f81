use Rattle.script_semantics.proofs.Answered.{insert_refused, select_finds_its_copy}
use Rattle.script_semantics.proofs.laws.answers_are_of_the_copy.Goals as goal

pub returns-clause-insert : goal.returns-clause-insert
returns-clause-insert c = insert_refused

pub returns-clause-select : goal.returns-clause-select
returns-clause-select c = select_finds_its_copy
