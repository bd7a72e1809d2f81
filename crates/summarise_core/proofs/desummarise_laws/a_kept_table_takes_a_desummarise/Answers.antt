use Rattle.summarise_core.proofs.DesummariseKeptTable.{sound_there}
use Rattle.summarise_core.proofs.desummarise_laws.a_kept_table_takes_a_desummarise.Goals as goal

pub returns : goal.returns
returns c = λ layout pages locks blocks at a u there kept damage. sound_there c.a_sound_index_is_not_misread.ensures.named layout pages locks blocks at a u there kept damage
