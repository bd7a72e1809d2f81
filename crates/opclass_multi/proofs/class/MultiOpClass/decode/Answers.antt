use Rattle.std.proofs.Common.{sym, subst}
use Rattle.opclass_multi.specs.Kept.{IsSummary}
use Rattle.opclass_multi.proofs.class.MultiOpClass.decode.Goals as goal

pub returns-clause-stays_of_class : goal.returns-clause-stays_of_class
returns-clause-stays_of_class c = subst (λ limit. IsSummary limit c.read.new.self) c.requires.of_class.own_limit c.read.ensures.lawful

pub returns-clause-again : goal.returns-clause-again
returns-clause-again c = λ s lawful is. c.read.ensures.again s (subst (λ limit. IsSummary limit s) (sym c.requires.of_class.own_limit) lawful) is
