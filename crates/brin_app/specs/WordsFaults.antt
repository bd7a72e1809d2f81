-- why words ask for nothing, from why they are no command or no declarations
use Rattle.command_line.specs.declared.command.CommandFault.{CommandFault}
use Rattle.command_line.specs.declared.command.CommandFault.TheVariants as commands
use Rattle.command_line.specs.declared.declarations.DeclFault.{DeclFault}
use Rattle.command_line.specs.declared.declarations.DeclFault.TheVariants as declarations
use Rattle.brin_app.specs.declared.top.WordsFault.{WordsFault}
use Rattle.brin_app.specs.declared.top.WordsFault.TheVariants.{Usage, Memory}

abbrev pub of_command : CommandFault → WordsFault
of_command commands.Usage = Usage
of_command commands.Memory = Memory

abbrev pub of_declarations : DeclFault → WordsFault
of_declarations (declarations.Form word at) = Usage
of_declarations declarations.Memory = Memory
