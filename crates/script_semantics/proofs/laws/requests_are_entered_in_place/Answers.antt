use Rattle.script_semantics.proofs.Requests.{as_one_step}
use Rattle.script_semantics.proofs.Entering.{enters_in_place, enters_its_own}
use Rattle.script_semantics.proofs.OneStep.{plain_as_one_step}
use Rattle.script_semantics.proofs.laws.requests_are_entered_in_place.Goals as goal

pub returns-clause-at_once : goal.returns-clause-at_once
returns-clause-at_once c = as_one_step

pub returns-clause-plain : goal.returns-clause-plain
returns-clause-plain c = plain_as_one_step

pub returns-clause-in_place : goal.returns-clause-in_place
returns-clause-in_place c = enters_in_place

pub returns-clause-own : goal.returns-clause-own
returns-clause-own c = enters_its_own
