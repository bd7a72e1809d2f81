use Rattle.std.proofs.Common.{Some, Option, subst, w64, ◌∙◌}
use Rattle.std.proofs.lemmas.Int.{to_z-of_z}
use Rattle.kept_tuples.specs.MinMaxTuples.{Tells}
use Rattle.kept_tuples.specs.Wanted.{may_have}
use Rattle.kept_tuples.specs.declared.bounds.Bounds.{Bounds}
use Rattle.kept_tuples.specs.declared.bounds.Bounds.TheVariants.{MinMax}
use Rattle.kept_tuples.specs.declared.wanted.Wanted.{Wanted}
use Rattle.summary_directory.specs.KnownBounds.{IsWantedOf}
use Rattle.summary_directory.proofs.KnownBounds.{known_keeps}
use Rattle.summary_directory.proofs.judge.Judge.keeps_range.Goals as goal

pub returns-in-MinMax-clause-answer : goal.returns-in-MinMax-clause-answer
returns-in-MinMax-clause-answer c =
    let classes = c.args.self.now.classes in
    let conds = c.args.keys.now in
    let nulls = c.in-MinMax.nulls in
    let least = c.in-MinMax.least in
    let greatest = c.in-MinMax.greatest in
    let wanted : IsWantedOf classes conds (Some c.in-Some.wanted) = subst (λ (o : Option Wanted). IsWantedOf classes conds o) c.in-Some.is c.requires.wanted in
    let tells : Tells (MinMax nulls least greatest) c.args.tuple.now = subst (λ (b : Bounds). Tells b c.args.tuple.now) c.in-MinMax.is c.requires.bounds in
    c.may_be_in.ensures
    ∙ (λ i. may_have c.in-Some.wanted nulls (to_z-of_z w64 least tells.0.least_fits i) (to_z-of_z w64 greatest tells.0.greatest_fits i))
    ∙ known_keeps classes conds c.in-Some.wanted nulls least greatest c.args.tuple.now c.reads_again.ensures wanted tells
