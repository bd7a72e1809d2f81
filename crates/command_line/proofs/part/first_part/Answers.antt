use Rattle.std.proofs.Common.{arith, refl, ap, length}
use Rattle.command_line.specs.Words.{part_text}
use Rattle.command_line.proofs.PartsLoop.{first_none, first_more, first_last, part_shortens}
use Rattle.command_line.proofs.part.first_part.Goals as goal

pub returns-in_default-clause-first : goal.returns-in_default-clause-first
returns-in_default-clause-first c = first_none c.args.parts.now c.in_default.field-0.now c.in_default.ensures

pub returns-in-Some-clause-first : goal.returns-in-Some-clause-first
returns-in-Some-clause-first c = first_more c.args.parts.now c.in-Ok.behind.now c.in-Ok.part c.in-Ok.ensures c.in-Some.others c.in-Some.ensures

pub returns-in-Some-clause-shorter : goal.returns-in-Some-clause-shorter
returns-in-Some-clause-shorter c = omega (arith, part_shortens c.args.parts.now c.in-Ok.behind.now (part_text c.in-Ok.part) c.in-Ok.ensures, ap length c.in-Some.ensures)

pub returns-in-None-clause-first : goal.returns-in-None-clause-first
returns-in-None-clause-first c = first_last c.args.parts.now c.in-Ok.behind.now c.in-Ok.part c.in-Ok.ensures c.in-Ok.behind c.in-None.ensures refl

pub returns-in-None-clause-shorter : goal.returns-in-None-clause-shorter
returns-in-None-clause-shorter c = part_shortens c.args.parts.now c.in-Ok.behind.now (part_text c.in-Ok.part) c.in-Ok.ensures
