use Rattle.range_store.proofs.Targets.{first_it, takes_it}
use Rattle.range_store.proofs.room.a_target_takes_its_tuple.Goals as goal

pub returns-clause-takes : goal.returns-clause-takes
returns-clause-takes c = takes_it

pub returns-clause-first : goal.returns-clause-first
returns-clause-first c = first_it
