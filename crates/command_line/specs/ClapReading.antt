-- how clap reads the words behind a command: which word belongs to which option, with no look at what a value is. It is used
-- in this crate alone, and proved to give the same commands as CommandWords, with the tests that stand below
use Rattle.std.specs.Prelude.{ℕ, ◌==◌, ◌&&◌, ◌||◌, Bool, true, false, not, List, [], ◌∷◌, Option, Some, None, is_some, codes, bytes_eq, if◌then◌else◌, option_and_then}
use Rattle.std.specs.List.{list_any, list_all}
use Rattle.command_line.specs.CommandWords.{Text, WordsSaid, value_of, is_number, number_of, begins_with_hyphen}
use Rattle.command_line.specs.ReadingOrder.{WordsReading, give, declare, option_in}

-- one hyphen, and no second
abbrev pub has_single_hyphen : Text → Bool
has_single_hyphen [] = false
has_single_hyphen (c ∷ cs) = c == 45 && not (begins_with_hyphen cs)

-- the word that ends the options
abbrev pub is_end : Text → Bool
is_end word = bytes_eq word (codes "--")

-- an option's value, whatever it is
abbrev pub clap_option : Text → Option Text → WordsReading → Option WordsReading
clap_option name None r = Some (record r { waits = Some name })
clap_option name (Some value) r = give name value r

-- an option has one of the names; any other word is declared
abbrev pub clap_named : List Text → Option (Text × Option Text) → Text → WordsReading → Option WordsReading
clap_named names (Some p) word r = if list_any (λ n. bytes_eq n p.0) names then clap_option p.0 p.1 r else None
clap_named names None word r = declare word r

-- a word in front of `--`
abbrev pub clap_free : List Text → Text → WordsReading → Option WordsReading
clap_free names word r = if is_end word then Some (record r { ended = true }) else clap_named names (option_in word) word r

-- `--` and options are no values
abbrev pub clap_next : List Text → Option Text → Text → WordsReading → Option WordsReading
clap_next names (Some name) word r =
    if is_end word then None else (if is_some (option_in word) then None else give name word r)
clap_next names None word r = if r.ended then declare word r else clap_free names word r

-- one word more
abbrev pub clap_word : List Text → WordsReading → Text → Option WordsReading
clap_word names r word = clap_next names r.waits word r

-- what the words say
unfoldable pub clap_read : List Text → WordsReading → List Text → Option WordsSaid
clap_read names r [] = if is_some r.waits then None else Some r.said
clap_read names r (word ∷ words) = option_and_then (λ q. clap_read names q words) (clap_word names r word)

-- ---- what is judged before

-- no word in front of `--` has one hyphen and no second

abbrev pub has_no_single_hyphen : List Text → Bool
has_no_single_hyphen [] = true
has_no_single_hyphen (word ∷ words) = is_end word || (not (has_single_hyphen word) && has_no_single_hyphen words)

-- ---- what is judged behind

-- the value is a number, where there is one
abbrev pub is_number_if_given : Option Text → Bool
is_number_if_given None = true
is_number_if_given (Some text) = is_number text

-- each option's value is a number
abbrev pub numbers_given : List Text → List (Text × Text) → Bool
numbers_given names values = list_all (λ n. is_number_if_given (value_of n values)) names

-- the number of an option or its default; nothing, where its value is no number
abbrev pub size_given : ℕ → Option Text → Option ℕ
size_given default None = Some default
size_given default (Some text) = if is_number text then Some (number_of text) else None

-- the number of an option; nothing, where it isn't given or its value is no number
abbrev pub number_read : Option Text → Option ℕ
number_read None = None
number_read (Some text) = if is_number text then Some (number_of text) else None
