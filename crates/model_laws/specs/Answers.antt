-- the program's answers as those of the definitions
use Rattle.block_model.specs.RequestEffect as effects
use Rattle.model_laws.specs.declared.model.Answered.{Answered}
use Rattle.model_laws.specs.declared.model.Answered.TheVariants.{Begun, Inserted, Found, Marked, Conflict, Committed, RolledBack, Full, NoMemory, Illegal}

-- one for each
abbrev pub answer_of : Answered → effects.Answer
answer_of (Begun t) = effects.Begun t
answer_of (Inserted id) = effects.Inserted id
answer_of (Found rows) = effects.Found rows
answer_of Marked = effects.Marked
answer_of (Conflict id) = effects.Conflict id
answer_of Committed = effects.Committed
answer_of RolledBack = effects.RolledBack
answer_of Full = effects.Full
answer_of NoMemory = effects.NoMemory
answer_of Illegal = effects.Illegal
