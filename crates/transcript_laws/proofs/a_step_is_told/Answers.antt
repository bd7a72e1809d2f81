use Rattle.transcript_laws.proofs.Places.{place_told}
use Rattle.transcript_laws.proofs.a_step_is_told.Goals as goal

pub returns : goal.returns
returns c = λ p q s next n hand outcome opens was has fit step. place_told p q s next n hand outcome opens was has (c.a_step_enters.ensures p q n hand outcome has fit step) step
