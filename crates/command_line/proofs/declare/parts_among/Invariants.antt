use Rattle.std.proofs.Common.{List, length}
use Rattle.command_line.specs.DeclarationTexts.{PartText}
use Rattle.command_line.specs.Words.{index_text}
use Rattle.command_line.proofs.PartsLoop.{AreLeft, AreFound}
use Rattle.command_line.proofs.declare.parts_among.Given as goal

-- the others are left, and those before them are found
abbrev pub invariant-parts : goal.invariant-parts
invariant-parts l = (ps : List PartText) × AreLeft l.index.parts.now l.rest ps × AreFound l.columns (index_text l.index) l.index.parts.now l.rest ps l.parts

abbrev pub decreases-parts : goal.decreases-parts
decreases-parts l = length l.rest
