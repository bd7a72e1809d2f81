use Rattle.coverage.proofs.Stable.{knows_on, placeholder_on, held_named}
use Rattle.coverage.proofs.index_laws.knowledge_is_stable.Goals as goal

pub returns : goal.returns
returns c = record {
  kept = λ a d w v s statement sound on other spared known. knows_on a d w v sound on s other statement spared known;
  placeholder = λ a d w v s range sound on other held names. placeholder_on a d w v sound on s other held range names;
  compared = λ w s range x t sound held here of free none. held_named w s range x t sound held here of free none;
}
