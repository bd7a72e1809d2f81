use Rattle.std.proofs.Common.{take}
use Rattle.command_line.specs.DeclaredSchema.{DenotesWith}
use Rattle.command_line.proofs.declarations.read_declarations_with.Given as goal

-- the schema is what the words so far denote
abbrev pub invariant-words : goal.invariant-words
invariant-words l = DenotesWith l.autos (take l.word l.words) l.schema
