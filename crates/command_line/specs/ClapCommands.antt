-- the commands as clap is given them, and what it finds of them
use Rattle.std.specs.Prelude.{◌≡◌, true, false, List, [], ◌∷◌, ◌++◌, codes, map, find, bytes_eq, Option, Some, None, option_map, option_and_then, if◌then◌else◌}
use Rattle.clap.specs.Walk.{Rule, Row}
use Rattle.clap.specs.Simple.{App, Shape, new_rule, new_shape}
use Rattle.clap.specs.declared.builder.action.ArgAction.TheVariants.{Set, Append}
use Rattle.command_line.specs.declared.command.Command.{Command}
use Rattle.command_line.specs.CommandWords.{Text, WordsSaid, CommandForm, commands}
use Rattle.command_line.specs.ReadingOrder.{form_named, nothing_read}
use Rattle.command_line.specs.ClapReading.{clap_read, has_no_single_hyphen, numbers_given}
use Rattle.command_line.specs.ClapRules.{declared_id, leaf, RowsShow}

-- a command's word, and the names of its options
abbrev pub Sub : Type 0
Sub = Text × List Text

-- those of this program
abbrev pub program_subs : List Sub
program_subs = map (λ (form : CommandForm). (form.word, form.options)) commands

-- the command with that word
abbrev pub entry : Text → List Sub → Option Sub
entry word subs = find (λ s. bytes_eq s.0 word) subs

-- the command that the words name, with what they say
abbrev pub command_said : List Sub → List Text → Option (Text × WordsSaid)
command_said subs [] = None
command_said subs (word ∷ words) =
    option_and_then (λ s. option_map (λ said. (s.0, said)) (clap_read s.1 nothing_read words)) (entry word subs)

-- ---- what clap is given

-- an option
abbrev pub raw_option : Text → Rule
raw_option name = record (new_rule name) { long = Some name; action = Some Set }

-- the declared words
abbrev pub raw_declared : Rule
raw_declared = record (new_rule declared_id) { action = Some Append }

-- the options and the declared words
abbrev pub raw_rules : List Text → List Rule
raw_rules names = map raw_option names ++ raw_declared ∷ []

-- a command
abbrev pub raw_leaf : Sub → Shape
raw_leaf s = record (new_shape s.0) { rules = raw_rules s.1 }

-- the program: no help, no version, and one command is wanted
abbrev pub top : Text → Shape
top name = record (new_shape name) {
  is_leaf = false;
  no_binary_name = true;
  disable_help_flag = true;
  disable_help_subcommand = true;
  disable_version_flag = true;
  subcommand_required = true;
}

-- the program with its commands
abbrev pub raw_app : Text → List Sub → App
raw_app name subs = record { top = top name; subs = map raw_leaf subs }

-- the program before it has any
abbrev pub no_commands : App
no_commands = record { top = record (top (codes "brin")) { is_leaf = true }; subs = [] }

-- a command with the rules so far
abbrev pub leaf_app : Text → List Rule → App
leaf_app name rules = record { top = record (new_shape name) { rules = rules }; subs = [] }

-- ---- what clap makes of it

-- a command, built
abbrev pub leaf_of : Sub → Shape
leaf_of s = leaf s.0 s.1

-- the program, built
abbrev pub built_app : Text → List Sub → App
built_app name subs = record { top = record (top name) { is_built = true }; subs = map leaf_of subs }

-- the command that was entered shows what was said
abbrev pub Enters : Option (Text × List Row) → Text × WordsSaid → Type 0
Enters entered said = (rows : List Row) × (entered ≡ Some (said.0, rows)) × RowsShow rows said.1

-- ---- what is judged of it

-- what the command is, where its options' values are numbers
abbrev pub meaning_checked : CommandForm → WordsSaid → Option Command
meaning_checked form said = if numbers_given form.options said.values then form.meaning said else None

-- what the command of that word is
abbrev pub judged : Text → WordsSaid → Option Command
judged name said = option_and_then (λ form. meaning_checked form said) (form_named name)

-- the command that the words are, by clap's reading
abbrev pub command_matched : List Text → Option Command
command_matched words =
    if has_no_single_hyphen words then option_and_then (λ p. judged p.0 p.1) (command_said program_subs words) else None
