use Rattle.std.proofs.Common.{◌≡◌, List, length}
use Rattle.block_model.specs.declared.schema.Part.{Part}
use Rattle.command_line.specs.DeclarationTexts.{TableText, table_bytes, IsTable, PartText}
use Rattle.command_line.specs.Words.{index_text}
use Rattle.command_line.proofs.PartsLoop.{AreLeft, AreFound}
use Rattle.command_line.proofs.judge.judge_parts.Given as goal

-- the others are left, and the table has those before them
abbrev pub invariant-parts : goal.invariant-parts
invariant-parts l =
    (ps : List PartText)
    × AreLeft l.index.parts.now l.rest ps
    × ((table : TableText) → IsTable table → l.text ≡ table_bytes table → (done : List Part) × AreFound table.columns (index_text l.index) l.index.parts.now l.rest ps done)

abbrev pub decreases-parts : goal.decreases-parts
decreases-parts l = length l.rest
