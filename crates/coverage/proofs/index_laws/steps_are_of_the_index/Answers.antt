use Rattle.coverage.proofs.OnThisView.{insert_makes, summarise_makes, desummarise_makes, sweep_makes}
use Rattle.coverage.proofs.index_laws.steps_are_of_the_index.Goals as goal

pub returns : goal.returns
returns c = record { insert = insert_makes; summarise = summarise_makes; desummarise = desummarise_makes; sweep = sweep_makes }
