use Rattle.std.proofs.Common.{sym, subst}
use Rattle.opclass_multi.specs.Kept.{Kept, IsSummary, united}
use Rattle.opclass_multi.specs.Includes.{Includes}
use Rattle.opclass_multi.proofs.Widening.{united_keeps, united_takes, includes_more}
use Rattle.opclass_multi.proofs.class.MultiOpClass.union.Goals as goal

pub returns-clause-stays_of_class : goal.returns-clause-stays_of_class
returns-clause-stays_of_class c = subst (λ limit. IsSummary limit c.unite.new.self) c.requires.of_class.own_limit c.unite.ensures.lawful

pub returns-clause-keeps_what_it_included : goal.returns-clause-keeps_what_it_included
returns-clause-keeps_what_it_included c = λ w within.
    let s : Kept = c.args.s.now in
    let other : Kept = c.args.other.now in
    subst (λ (t : Kept). Includes t w) (sym c.unite.ensures.widened)
    (includes_more s (united s other) (λ v held. united_keeps s.limit s.elements other.elements v v c.requires.of_class.apart c.requires.other_of_class.apart held) w within)

pub returns-clause-includes_the_others : goal.returns-clause-includes_the_others
returns-clause-includes_the_others c = λ w within.
    let s : Kept = c.args.s.now in
    let other : Kept = c.args.other.now in
    subst (λ (t : Kept). Includes t w) (sym c.unite.ensures.widened)
    (includes_more other (united s other) (λ v held. united_takes s.limit s.elements other.elements v c.requires.of_class.apart c.requires.other_of_class.apart held) w within)
