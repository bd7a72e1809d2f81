-- What the words of a command line ask for: a command's word, and behind it options with their numbers and declared words, in
-- whatever order.
use Rattle.std.specs.Prelude.{◌≡◌, ◌≢◌, ℕ, ◌+◌, ◌-◌, ◌*◌, ◌^◌, ◌==◌, ◌&&◌, nat_le, min, Bool, true, false, if◌then◌else◌, List, [], ◌∷◌, ◌++◌, codes, find, bytes_eq, Option, Some, None, is_some, unwrap_or, option_map, option_and_then}
use Rattle.std.specs.List.{list_all, list_any, flat_map, All, AllPairs, Contains}
use Rattle.std.specs.Str.{is_utf8}
use Rattle.block_model.specs.Names.{is_digit}
use Rattle.block_model.specs.declared.schema.Sizes.{Sizes}
use Rattle.command_line.specs.declared.command.Command.{Command}
use Rattle.command_line.specs.declared.defaults.TheConstants.{HEAP_BLOCKS, INDEX_BLOCKS, STATUS_BLOCKS, LOG_PAGES, FRAMES}
use Rattle.command_line.specs.declared.limits.TheConstants.{MAX_SEED, MIN_ROWS, MAX_ROWS}
use Rattle.command_line.specs.declared.command.Command.TheVariants.{Init, Run, RunStored, Threads, ThreadsStored, Demo}

-- ---- one word

-- the bytes of a word
abbrev pub Text : Type 0
Text = List ℕ

-- the first byte is a hyphen
abbrev pub begins_with_hyphen : Text → Bool
begins_with_hyphen [] = false
begins_with_hyphen (c ∷ cs) = c == 45

-- one or more decimal digits
abbrev pub is_number : Text → Bool
is_number [] = false
is_number (c ∷ cs) = list_all is_digit (c ∷ cs)

-- the number of the digits behind n's
abbrev pub digits_from : ℕ → Text → ℕ
digits_from n [] = n
digits_from n (c ∷ cs) = digits_from (10 * n + (c - 48)) cs

-- the number of the digits, however many they are; from 4294967295 on, which is past every limit, all count as one
abbrev pub number_of : Text → ℕ
number_of digits = min (digits_from 0 digits) (2 ^ 32 - 1)

-- ---- the words behind a command

-- an option with its number, in one word or in two, or a declared word
pub data Item : Type 0 where
  InOneWord : Text → Text → Item
  InTwoWords : Text → Text → Item
  Declared : Text → Item

-- its words: `--name=number`, or `--name` and the number, or the declared word
abbrev pub words_of : Item → List Text
words_of (InOneWord name number) = (codes "--" ++ name ++ codes "=" ++ number) ∷ []
words_of (InTwoWords name number) = (codes "--" ++ name) ∷ number ∷ []
words_of (Declared word) = word ∷ []

-- the option has one of the names, in full, and its number is digits; a declared word doesn't begin with a hyphen
abbrev pub IsItem : List Text → Item → Type 0
IsItem names (InOneWord name number) = Contains names name × (is_number number ≡ true)
IsItem names (InTwoWords name number) = Contains names name × (is_number number ≡ true)
IsItem names (Declared word) = begins_with_hyphen word ≡ false

-- the option that it is, with its number
abbrev pub option_of : Item → List (Text × Text)
option_of (InOneWord name number) = (name, number) ∷ []
option_of (InTwoWords name number) = (name, number) ∷ []
option_of (Declared word) = []

-- the word that it declares
abbrev pub declared_of : Item → List Text
declared_of (Declared word) = word ∷ []
declared_of item = []

-- items of which no option stands twice
pub record AreItems (names : List Text) (items : List Item) : Type 0 where
  pub each : All (IsItem names) items
  pub once : AllPairs (λ a b. a.0 ≢ b.0) (flat_map option_of items)

-- behind `--`, where it stands, every word is declared, whatever it begins with
abbrev pub end_words : Option (List Text) → List Text
end_words None = []
end_words (Some words) = codes "--" ∷ words

-- the words of items, and of what stands behind `--`
abbrev pub spelling : List Item → Option (List Text) → List Text
spelling items last = flat_map words_of items ++ end_words last

-- what they say: the options with their numbers, and the declared words
pub record WordsSaid : Type 0 where
  pub values : List (Text × Text)
  pub declared : List Text

-- both in their order
abbrev pub said_by : List Item → Option (List Text) → WordsSaid
said_by items last = record { values = flat_map option_of items; declared = flat_map declared_of items ++ unwrap_or last [] }

-- the words are spelt by items, with options of these names, that say this
pub record AreSpelt (names words : List Text) (said : WordsSaid) : Type 0 where
  pub items : List Item
  pub last : Option (List Text)
  pub are_items : AreItems names items
  pub spelt : words ≡ spelling items last
  pub say : said ≡ said_by items last

-- ---- what was given

-- the options of a store's sizes
abbrev pub size_options : List Text
size_options = codes "heap-blocks" ∷ codes "index-blocks" ∷ codes "status-blocks" ∷ codes "log-pages" ∷ codes "frames" ∷ []

-- the options of a demo
abbrev pub demo_options : List Text
demo_options = codes "seed" ∷ codes "rows" ∷ []

-- the digits that were given for the option
abbrev pub value_of : Text → List (Text × Text) → Option Text
value_of name values = option_map (λ p. p.1) (find (λ p. bytes_eq p.0 name) values)

-- the number that was given for the option
abbrev pub number_given : Text → WordsSaid → Option ℕ
number_given name said = option_map number_of (value_of name said.values)

-- one of these options was given
abbrev pub is_any_given : List Text → WordsSaid → Bool
is_any_given names said = list_any (λ name. is_some (value_of name said.values)) names

-- the number that was given for the option, or its default
abbrev pub size_of : Text → ℕ → WordsSaid → ℕ
size_of name default said = unwrap_or (number_given name said) default

-- all five, with their defaults
abbrev pub sizes_of : WordsSaid → Sizes
sizes_of said = record {
  heap_blocks = size_of (codes "heap-blocks") HEAP_BLOCKS said;
  index_blocks = size_of (codes "index-blocks") INDEX_BLOCKS said;
  status_blocks = size_of (codes "status-blocks") STATUS_BLOCKS said;
  log_pages = size_of (codes "log-pages") LOG_PAGES said;
  frames = size_of (codes "frames") FRAMES said;
}

-- ---- the commands

-- `init` wants a declared word
abbrev pub init_with : Sizes → List Text → Option Command
init_with sizes [] = None
init_with sizes (word ∷ words) = Some (Init sizes (word ∷ words))

-- `init` with what its words have said
abbrev pub init_of : WordsSaid → Option Command
init_of said = init_with (sizes_of said) said.declared

-- a command over the store that stands there takes no option
abbrev pub stored_with : Command → Bool → Option Command
stored_with stored is_given = if is_given then None else Some stored

-- a command that makes a store of the declared words, where it has any, and else is over the store that stands there
abbrev pub made_or_stored : (Sizes → List Text → Command) → Command → Bool → Sizes → List Text → Option Command
made_or_stored made stored is_given sizes [] = stored_with stored is_given
made_or_stored made stored is_given sizes (word ∷ words) = Some (made sizes (word ∷ words))

-- `run` with what its words have said
abbrev pub run_of : WordsSaid → Option Command
run_of said = made_or_stored Run RunStored (is_any_given size_options said) (sizes_of said) said.declared

-- `threads` with what its words have said
abbrev pub threads_of : WordsSaid → Option Command
threads_of said = made_or_stored Threads ThreadsStored (is_any_given size_options said) (sizes_of said) said.declared

-- a demo's numbers are within their limits
abbrev pub is_demo : ℕ → ℕ → Bool
is_demo seed rows = nat_le seed MAX_SEED && (nat_le MIN_ROWS rows && nat_le rows MAX_ROWS)

-- a demo declares nothing
abbrev pub demo_with : ℕ → ℕ → List Text → Option Command
demo_with seed rows [] = if is_demo seed rows then Some (Demo seed rows) else None
demo_with seed rows (word ∷ words) = None

-- `demo` with what its words have said: it wants both of its numbers
abbrev pub demo_of : WordsSaid → Option Command
demo_of said = option_and_then (λ seed. option_and_then (λ rows. demo_with seed rows said.declared) (number_given (codes "rows") said)) (number_given (codes "seed") said)

-- a command: its word, the names of its options, and what it is by what its words say
pub record CommandForm : Type 0 where
  pub word : Text
  pub options : List Text
  pub meaning : WordsSaid → Option Command

-- `init [options] DECL...`
abbrev pub init_form : CommandForm
init_form = record { word = codes "init"; options = size_options; meaning = init_of }

-- `run [options] [DECL...]`
abbrev pub run_form : CommandForm
run_form = record { word = codes "run"; options = size_options; meaning = run_of }

-- `threads [options] [DECL...]`
abbrev pub threads_form : CommandForm
threads_form = record { word = codes "threads"; options = size_options; meaning = threads_of }

-- `demo --seed N --rows M`
abbrev pub demo_form : CommandForm
demo_form = record { word = codes "demo"; options = demo_options; meaning = demo_of }

-- the commands that there are
abbrev pub commands : List CommandForm
commands = init_form ∷ run_form ∷ threads_form ∷ demo_form ∷ []

-- The words are a command: its word, in full, and behind it words that say so. Each is UTF-8.
pub record IsCommand (words : List Text) (command : Command) : Type 0 where
  pub form : CommandForm
  pub known : Contains commands form
  pub behind : List Text
  pub whole : words ≡ form.word ∷ behind
  pub texts : list_all is_utf8 words ≡ true
  pub said : WordsSaid
  pub spelt : AreSpelt form.options behind said
  pub meaning : form.meaning said ≡ Some command

-- the words are this command, and no other
pub record IsOnlyCommand (words : List Text) (command : Command) : Type 0 where
  pub is : IsCommand words command
  pub alone : (other : Command) → IsCommand words other → other ≡ command
