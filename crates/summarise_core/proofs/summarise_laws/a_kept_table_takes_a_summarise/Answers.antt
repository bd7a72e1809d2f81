use Rattle.summarise_core.proofs.KeptTable.{ready_there, sound_there}
use Rattle.summarise_core.proofs.summarise_laws.a_kept_table_takes_a_summarise.Goals as goal

pub returns-clause-ready : goal.returns-clause-ready
returns-clause-ready c = λ layout pages locks blocks s at a u there task kept. ready_there layout pages locks blocks s at a u there task kept c.a_kept_index_takes_a_summarise.ensures.ready

pub returns-clause-sound : goal.returns-clause-sound
returns-clause-sound c = λ layout pages locks blocks s at a u there task kept order damage. sound_there layout pages locks blocks s at a u there task kept c.a_kept_index_takes_a_summarise.ensures.sound order damage
