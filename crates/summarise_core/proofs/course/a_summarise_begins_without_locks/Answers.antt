use Rattle.std.proofs.Common.{refl, arith}
use Rattle.summarise_core.proofs.Coming.{begins_given, begins_own}
use Rattle.summarise_core.proofs.course.a_summarise_begins_without_locks.Goals as goal

pub returns-clause-counts : goal.returns-clause-counts
returns-clause-counts c = λ a locks actor. record { limit = refl; adds = record { own = omega arith; others = λ b other. refl; all = omega arith } }

pub returns-clause-leaves : goal.returns-clause-leaves
returns-clause-leaves c = λ locks relation actor. record { elsewhere = λ page other none. refl; others = λ page n other. (λ is. is, λ is. is) }

pub returns-clause-given : goal.returns-clause-given
returns-clause-given c = λ a n begins gives. begins_given a n begins gives

pub returns-clause-own : goal.returns-clause-own
returns-clause-own c = λ a b n begins none few. begins_own a b n begins none few
