use Rattle.command_line.specs.DeclaredSchema.{nothing_declared}
use Rattle.command_line.proofs.DeclaredLemmas.{words_one}
use Rattle.command_line.proofs.declaration_laws.words_denote_one_schema.Goals as goal

pub returns : goal.returns
returns c autos words a b h k = words_one autos words nothing_declared a b h k
