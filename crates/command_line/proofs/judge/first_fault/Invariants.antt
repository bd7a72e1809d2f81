use Rattle.std.proofs.Common.{take}
use Rattle.block_model.specs.declared.schema.Schema.{Schema}
use Rattle.command_line.specs.DeclaredSchema.{DenotesWith}
use Rattle.command_line.proofs.judge.first_fault.Given as goal

-- the words so far are declarations
abbrev pub invariant-words : goal.invariant-words
invariant-words l = (s : Schema) × DenotesWith l.autos (take l.word l.words) s
