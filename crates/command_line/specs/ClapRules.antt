-- what clap makes of a command with options of these names and declared words, and the rows that it finds
use Rattle.std.specs.Prelude.{◌≡◌, true, false, List, [], ◌∷◌, Option, Some, None, option_map, bytes_eq, codes, MatchOption}
use Rattle.clap.specs.Walk.{Rule, Row, all_of}
use Rattle.clap.specs.Simple.{Shape, new_rule, new_shape}
use Rattle.clap.specs.Kinds.{Kinds}
use Rattle.clap.specs.declared.builder.action.ArgAction.TheVariants.{Set, Append}
use Rattle.clap.specs.declared.builder.value_parser.ValueParser.TheVariants as parsers
use Rattle.command_line.specs.CommandWords.{Text, WordsSaid, value_of}

-- the id of the declared words
abbrev pub declared_id : Text
declared_id = codes "DECL"

-- `--name value`, at most once
abbrev pub option_rule : Text → Rule
option_rule name = record (new_rule name) {
  long = Some name;
  action = Some Set;
  range = Some (record { start_inclusive = 1; end_inclusive = 1 });
  parser = Some parsers.String;
}

-- the words that are no options
abbrev pub declared_rule : Rule
declared_rule = record (new_rule declared_id) {
  index = Some 1;
  action = Some Append;
  range = Some (record { start_inclusive = 1; end_inclusive = 1 });
  parser = Some parsers.String;
}

-- the options, and behind them the declared words
abbrev pub rules : List Text → List Rule
rules [] = declared_rule ∷ []
rules (name ∷ names) = option_rule name ∷ rules names

-- a command as it is built below a top with no binary name, no help and no version
abbrev pub leaf : Text → List Text → Shape
leaf name names = record (new_shape name) {
  rules = rules names;
  no_binary_name = true;
  disable_help_flag = true;
  disable_help_subcommand = true;
  disable_version_flag = true;
  is_built = true;
}

-- no row is a row of no words
abbrev pub shown : List Text → Option (List Text)
shown [] = None
shown (word ∷ words) = Some (word ∷ words)

-- the rows hold what was said
pub record RowsShow (rows : List Row) (said : WordsSaid) : Type 0 where
  pub value : (id : Text) → bytes_eq declared_id id ≡ false → all_of id rows ≡ option_map (λ v. v ∷ []) (value_of id said.values)
  pub declared : all_of declared_id rows ≡ shown said.declared

-- the parse fails exactly where the words aren't read, and else its rows hold what they say
abbrev pub Agrees : Kinds → List Row → Option WordsSaid → Type 0
Agrees fault rows said = MatchOption said (fault ≡ [] → ⊥) (λ s. (fault ≡ []) × RowsShow rows s)
