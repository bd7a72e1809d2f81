use Rattle.value_text.proofs.Whole.{whole_ends}
use Rattle.command_line.specs.DeclarationReading.{declaration_at}
use Rattle.command_line.proofs.declaration.all_of.Goals as goal

pub returns : goal.returns
returns c = (c.in_ok-declaration.ensures.0, whole_ends (declaration_at c.args.autos) c.args.text.now c.in_ok-declaration.ensures.0 c.in_ok-declaration.rest.now c.in_ok-declaration.ensures.1 c.in_ok-end.ensures, c.in_ok-declaration.ensures.2)
