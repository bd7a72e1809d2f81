use Rattle.command_line.proofs.DeclaredLemmas.{fault_denotes_nothing}
use Rattle.command_line.proofs.declaration_laws.faulty_words_denote_nothing.Goals as goal

pub returns : goal.returns
returns c autos = fault_denotes_nothing autos
