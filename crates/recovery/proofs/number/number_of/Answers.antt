use Rattle.std.proofs.Common.{◌∙◌, arith}
use Rattle.recovery.specs.ShownLaws.{offset_of}
use Rattle.recovery.proofs.number.number_of.Goals as goal

pub returns-clause-number : goal.returns-clause-number
returns-clause-number c =
    let at = c.page_at.ensures ∙ offset_of c.args.layout.now c.args.place in
    omega (arith, at)

pub returns-clause-within : goal.returns-clause-within
returns-clause-within c =
    let at = c.page_at.ensures ∙ offset_of c.args.layout.now c.args.place in
    omega (arith, at, c.pages_fill_the_disk.ensures.ends c.args.place c.requires.place)
