-- what the words of a command mean
use Rattle.std.specs.Prelude.{◌≡◌, ◌↔◌, ◌⊎◌, ℕ, ◌≤◌, Bool, true, false, Option, Some, None, option_map, List, [], ◌∷◌, ◌++◌, codes, bytes_eq, not}
use Rattle.std.specs.List.{All, Contains, flat_map, list_all}
use Rattle.std.specs.Str.{is_utf8}
use Rattle.block_model.specs.declared.schema.Sizes.{Sizes}
use Rattle.command_line.specs.declared.command.Command.{Command}
use Rattle.command_line.specs.declared.command.Command.TheVariants.{Init, Run, RunStored, Threads, ThreadsStored, Demo}
use Rattle.command_line.specs.CommandWords.{Text, begins_with_hyphen, is_number, number_of, Item, AreItems, option_of, declared_of, spelling, CommandForm, commands, IsCommand}

-- no words are two commands
abbrev pub WordsAreOneCommand : Type 0
WordsAreOneCommand = (words : List Text) (first second : Command) → IsCommand words first → IsCommand words second → first ≡ second

-- items with the same options, in whatever order and spelling, and with the same declared words in order, are the same command
abbrev pub OrderSaysNothing : Type 0
OrderSaysNothing = (form : CommandForm) → Contains commands form → (items others : List Item) (last : Option (List Text)) (command : Command)
    → AreItems form.options items → AreItems form.options others
    → ((option : Text × Text) → Contains (flat_map option_of items) option ↔ Contains (flat_map option_of others) option)
    → flat_map declared_of items ≡ flat_map declared_of others
    → IsCommand (form.word ∷ spelling items last) command → IsCommand (form.word ∷ spelling others last) command

-- an option with its value, in one word or in two
abbrev pub option_words : Bool → Text → Text → List Text
option_words true name value = (codes "--" ++ name ++ codes "=" ++ value) ∷ []
option_words false name value = (codes "--" ++ name) ∷ value ∷ []

-- none of the words is `--`
abbrev pub has_no_end : List Text → Bool
has_no_end words = list_all (λ w. not (bytes_eq w (codes "--"))) words

-- an option that stands twice in front of `--` is refused, whatever is said of it and around it
abbrev pub OptionStandsOnce : Text → Text → Type 0
OptionStandsOnce word name = (a b : Bool) (v w : Text) (before between after : List Text) → has_no_end before ≡ true → has_no_end between ≡ true
    → (command : Command) → ¬ (IsCommand (word ∷ before ++ option_words a name v ++ between ++ option_words b name w ++ after) command)

-- each option of each command
abbrev pub OptionsStandOnce : Type 0
OptionsStandOnce = (form : CommandForm) → Contains commands form → All (OptionStandsOnce form.word) form.options

-- an option that stands in front of `--` has digits, and gives the command their number
abbrev pub OptionHasItsNumber : Text → Text → (Command → Option ℕ) → Type 0
OptionHasItsNumber word name number = (a : Bool) (digits : Text) (before after : List Text) (command : Command) → has_no_end before ≡ true
    → IsCommand (word ∷ before ++ option_words a name digits ++ after) command
    → (is_number digits ≡ true) × (number command ≡ Some (number_of digits))

-- the sizes of the store that a command makes
abbrev pub sizes_in : Command → Option Sizes
sizes_in (Init sizes declared) = Some sizes
sizes_in (Run sizes declared) = Some sizes
sizes_in (Threads sizes declared) = Some sizes
sizes_in command = None

-- a demo's numbers
abbrev pub seed_in : Command → Option ℕ
seed_in (Demo seed rows) = Some seed
seed_in command = None

abbrev pub rows_in : Command → Option ℕ
rows_in (Demo seed rows) = Some rows
rows_in command = None

-- an option of a size gives the store its size; so there is a store that is made
abbrev pub SizeHasItsNumber : Text → Text × (Sizes → ℕ) → Type 0
SizeHasItsNumber word option = OptionHasItsNumber word option.0 (λ command. option_map option.1 (sizes_in command))

-- the options, each with the size that it gives
abbrev pub sizes_by_option : List (Text × (Sizes → ℕ))
sizes_by_option =
    (codes "heap-blocks", λ s. s.heap_blocks)
    ∷ (codes "index-blocks", λ s. s.index_blocks)
    ∷ (codes "status-blocks", λ s. s.status_blocks)
    ∷ (codes "log-pages", λ s. s.log_pages)
    ∷ (codes "frames", λ s. s.frames)
    ∷ []

-- each option of each command
pub record OptionsHaveTheirNumbers : Type 0 where
  pub init : All (SizeHasItsNumber (codes "init")) sizes_by_option
  pub run : All (SizeHasItsNumber (codes "run")) sizes_by_option
  pub threads : All (SizeHasItsNumber (codes "threads")) sizes_by_option
  pub seed : OptionHasItsNumber (codes "demo") (codes "seed") seed_in
  pub rows : OptionHasItsNumber (codes "demo") (codes "rows") rows_in

-- a further word without a hyphen is declared last, and changes nothing else
abbrev pub IsDeclaredLast : (Sizes → List Text → Command) → Type 0
IsDeclaredLast made = (words : List Text) (word : Text) (sizes : Sizes) (declared : List Text)
    → IsCommand words (made sizes declared) → is_utf8 word ≡ true → begins_with_hyphen word ≡ false
    → IsCommand (words ++ word ∷ []) (made sizes (declared ++ word ∷ []))

-- of each command that makes a store
abbrev pub FurtherWordIsDeclaredLast : Type 0
FurtherWordIsDeclaredLast = IsDeclaredLast Init × IsDeclaredLast Run × IsDeclaredLast Threads

-- without options the sizes are the defaults
abbrev pub HasDefaults : Text → (Sizes → List Text → Command) → Type 0
HasDefaults command made = (word : Text) → is_utf8 word ≡ true → begins_with_hyphen word ≡ false
    → IsCommand (command ∷ word ∷ []) (made (record { heap_blocks = 4096; index_blocks = 1024; status_blocks = 4; log_pages = 128; frames = 256 }) (word ∷ []))

-- of each command that makes a store
abbrev pub SizesHaveDefaults : Type 0
SizesHaveDefaults = HasDefaults (codes "init") Init × HasDefaults (codes "run") Run × HasDefaults (codes "threads") Threads

-- a command over the store that stands there is its word alone, or with `--` behind it: without declared words it has no options
abbrev pub IsBareWord : Text → Command → Type 0
IsBareWord word stored = (words : List Text) → IsCommand words stored ↔ ((words ≡ word ∷ []) ⊎ (words ≡ word ∷ codes "--" ∷ []))

-- `run` over the store that stands there
abbrev pub StoredRunIsBare : Type 0
StoredRunIsBare = IsBareWord (codes "run") RunStored

-- `threads` over the store that stands there
abbrev pub StoredThreadsAreBare : Type 0
StoredThreadsAreBare = IsBareWord (codes "threads") ThreadsStored

-- a seed goes to 1000000, and rows from 1 to 200000
abbrev pub AreDemoNumbers : ℕ → ℕ → Type 0
AreDemoNumbers seed rows = (seed ≤ 1000000) × (1 ≤ rows) × (rows ≤ 200000)

-- each demo is within these limits, and within them its two options are a demo
pub record DemosHaveLimits : Type 0 where
  pub within : (words : List Text) (seed rows : ℕ) → IsCommand words (Demo seed rows) → AreDemoNumbers seed rows
  pub taken : (a b : Bool) (seed rows : Text) → is_number seed ≡ true → is_number rows ≡ true → AreDemoNumbers (number_of seed) (number_of rows)
      → IsCommand (codes "demo" ∷ option_words a (codes "seed") seed ++ option_words b (codes "rows") rows) (Demo (number_of seed) (number_of rows))
