-- How the words behind a command are read, one after the other. It is used in this crate alone, and proved to read exactly the
-- words of CommandWords, with what they say.
use Rattle.std.specs.Prelude.{◌==◌, Bool, true, false, List, [], ◌∷◌, ◌++◌, codes, find, bytes_eq, Option, Some, None, is_some, option_and_then, if◌then◌else◌}
use Rattle.std.specs.List.{list_any, list_all, before_first, after_first}
use Rattle.std.specs.Str.{is_utf8}
use Rattle.command_line.specs.declared.command.Command.{Command}
use Rattle.command_line.specs.CommandWords.{Text, WordsSaid, begins_with_hyphen, is_number, value_of, CommandForm, commands}

-- ---- one word

-- what stands behind a hyphen
abbrev pub behind_hyphen : Text → Option Text
behind_hyphen [] = None
behind_hyphen (c ∷ cs) = if c == 45 then Some cs else None

-- the name before the first `=`, and the value behind it, where there is one
abbrev pub name_and_value : Text → Option (Text × Option Text)
name_and_value [] = None
name_and_value (c ∷ cs) = Some (
  before_first (λ b. b == 61) (c ∷ cs),
  if list_any (λ b. b == 61) (c ∷ cs) then Some (after_first (λ b. b == 61) (c ∷ cs)) else None,
)

-- `--name` or `--name=value`
abbrev pub option_in : Text → Option (Text × Option Text)
option_in word = option_and_then name_and_value (option_and_then behind_hyphen (behind_hyphen word))

-- ---- the words behind a command

-- how far they are read: an option may wait for its value, and `--` may have ended the options
pub record WordsReading : Type 0 where
  pub said : WordsSaid
  pub waits : Option Text
  pub ended : Bool

-- before the first of them
abbrev pub nothing_read : WordsReading
nothing_read = record { said = record { values = []; declared = [] }; waits = None; ended = false }

-- a value for an option that has none yet
abbrev pub give : Text → Text → WordsReading → Option WordsReading
give name value r = if is_some (value_of name r.said.values) then None else Some (record {
  said = record { values = r.said.values ++ (name, value) ∷ []; declared = r.said.declared };
  waits = None;
  ended = r.ended;
})

-- a declared word more
abbrev pub declare : Text → WordsReading → Option WordsReading
declare word r = Some (record {
  said = record { values = r.said.values; declared = r.said.declared ++ word ∷ [] };
  waits = None;
  ended = r.ended;
})

-- an option's value is a number
abbrev pub give_number : Text → Text → WordsReading → Option WordsReading
give_number name value r = if is_number value then give name value r else None

-- `--name` waits for the next word, and `--name=value` has its value
abbrev pub take_option : Text → Option Text → WordsReading → Option WordsReading
take_option name None r = Some (record r { waits = Some name })
take_option name (Some value) r = give_number name value r

-- an option has one of the names, in full; any other word that begins with a hyphen is refused, and what is left is declared
abbrev pub take_named : List Text → Option (Text × Option Text) → Text → WordsReading → Option WordsReading
take_named names (Some p) word r = if list_any (λ n. bytes_eq n p.0) names then take_option p.0 p.1 r else None
take_named names None word r = if begins_with_hyphen word then None else declare word r

-- `--` ends the options, and is no word of its own
abbrev pub take_free : List Text → Text → WordsReading → Option WordsReading
take_free names word r = if bytes_eq word (codes "--") then Some (record r { ended = true }) else take_named names (option_in word) word r

-- one word more: the value of the option that waits for one; else, behind `--`, a declared word, whatever it begins with
abbrev pub take_word : List Text → Option Text → Text → WordsReading → Option WordsReading
take_word names (Some name) word r = give_number name word r
take_word names None word r = if r.ended then declare word r else take_free names word r

-- what the words say, with options of those names; nothing, where a word is refused or an option waits at the end
unfoldable pub read_words : List Text → WordsReading → List Text → Option WordsSaid
read_words names r [] = if is_some r.waits then None else Some r.said
read_words names r (word ∷ words) = option_and_then (λ q. read_words names q words) (take_word names r.waits word r)

-- ---- the command

-- the command with that word, in full
abbrev pub form_named : Text → Option CommandForm
form_named word = find (λ form. bytes_eq form.word word) commands

-- the command that texts are, where they are one
abbrev pub command_in : List Text → Option Command
command_in [] = None
command_in (word ∷ words) =
    option_and_then (λ form. option_and_then form.meaning (read_words form.options nothing_read words)) (form_named word)

-- the command that words are, where they are one; a word that isn't UTF-8 is in none
abbrev pub command_of : List Text → Option Command
command_of words = if list_all is_utf8 words then command_in words else None
