use Rattle.std.proofs.Common.{rules, ℤ, ap, sym, subst, ◌∙◌, FitsSigned}
use Rattle.std.specs.Int.{w64}
use Rattle.std.proofs.lemmas.Int.{to_z-of_z}
use Rattle.opclass_multi.specs.Kept.{Kept, IsSummary, with_number}
use Rattle.opclass_multi.specs.Elements.{holds}
use Rattle.opclass_multi.specs.Includes.{Includes}
use Rattle.opclass_multi.proofs.Widening.{number_held, number_keeps, includes_more}
use Rattle.opclass_multi.proofs.class.MultiOpClass.add.Goals as goal

pub returns-in-Int-clause-stays_of_class : goal.returns-in-Int-clause-stays_of_class
returns-in-Int-clause-stays_of_class c = subst (λ limit. IsSummary limit c.add.new.self) c.requires.of_class.own_limit c.add.ensures.lawful

pub returns-in-Int-clause-includes_the_value : goal.returns-in-Int-clause-includes_the_value
returns-in-Int-clause-includes_the_value c =
    let s : Kept = c.args.s.now in
    let v : ℤ = c.in-Int.v in
    let fits : FitsSigned w64 v = search rules in
    rw (c.add.ensures.widened, c.in-Int.is)
    (ap (λ (u : ℤ). holds (with_number s u).elements v v) (to_z-of_z w64 v fits) ∙ number_held s v fits c.requires.of_class.apart)

pub returns-in-Int-clause-keeps_what_it_included : goal.returns-in-Int-clause-keeps_what_it_included
returns-in-Int-clause-keeps_what_it_included c = λ w within.
    let s : Kept = c.args.s.now in
    let v : ℤ = c.in-Int.v in
    let fits : FitsSigned w64 v = search rules in
    subst (λ (t : Kept). Includes t w) (sym (c.add.ensures.widened ∙ ap (with_number s) (to_z-of_z w64 v fits)))
    (includes_more s (with_number s v) (λ u held. number_keeps s v u fits c.requires.of_class.apart held) w within)
