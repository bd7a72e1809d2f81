use Rattle.index_steps.proofs.Damage.{not_misnamed, not_misread}
use Rattle.index_steps.proofs.laws.a_sound_index_is_not_misread.Goals as goal

pub returns-clause-named : goal.returns-clause-named
returns-clause-named c = λ shape e lock w range shows sound misnamed. not_misnamed shape e lock w range shows sound misnamed

pub returns-clause-read : goal.returns-clause-read
returns-clause-read c = λ shape e lock w range x shows of misread. not_misread shape e lock w range x shows of misread
