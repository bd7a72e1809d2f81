use Rattle.std.proofs.Common.{◌≡◌, List, length}
use Rattle.command_line.specs.DeclarationTexts.{PartText}
use Rattle.command_line.specs.DeclarationReading.{part_at, others_at, parts_at}
use Rattle.command_line.proofs.MoreItems.{goes_on}
use Rattle.command_line.proofs.part.behind_parts.Given as goal

abbrev pub invariant-more : goal.invariant-more
invariant-more l = (ps : List PartText) × (parts_at l.text ≡ goes_on ps (others_at part_at l.rest))

abbrev pub decreases-more : goal.decreases-more
decreases-more l = length l.rest
