use Rattle.value_text.proofs.Whole.{one_text}
use Rattle.command_line.specs.DeclarationTexts.{bytes_of, IsDeclaration}
use Rattle.command_line.specs.DeclarationReading.{declaration_at}
use Rattle.command_line.proofs.WordReading.{declaration_lawful, declaration_complete}
use Rattle.command_line.proofs.declaration_laws.bytes_are_one_declaration.Goals as goal

pub returns : goal.returns
returns c autos = one_text (declaration_at autos) bytes_of (IsDeclaration autos) (declaration_lawful autos) (declaration_complete autos)
