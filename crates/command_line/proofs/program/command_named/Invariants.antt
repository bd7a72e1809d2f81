use Rattle.std.proofs.Common.{◌≡◌, map, take, false}
use Rattle.clap.specs.Words.{app_of}
use Rattle.clap.specs.declared.builder.command.Command.TheViews.{out-Command as fields_of}
use Rattle.command_line.specs.ClapCommands.{leaf_app, raw_option}
use Rattle.command_line.proofs.program.command_named.Given as goal

abbrev pub invariant-options : goal.invariant-options
invariant-options l = record {
  app : app_of l.command ≡ leaf_app l.name (map raw_option (map (λ o. o.now) (take l.option-index l.options)));
  local : (fields_of l.command).has_globals ≡ false;
}
