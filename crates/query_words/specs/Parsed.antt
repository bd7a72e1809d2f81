-- what the words of a line say, where they are of the language
use Rattle.std.specs.Prelude.{◌≡◌, List, [], ◌∷◌, ◌++◌, codes, Option, None, Some, if◌then◌else◌}
use Rattle.std.specs.Option.{option_map, option_and_then}
use Rattle.std.specs.Str.{bytes_eq}
use Rattle.query_words.specs.Words.{PlacedWord, texts_of}
use Rattle.query_words.specs.Verbs.{verb_of}
use Rattle.query_words.specs.declared.verb.Verb.{Verb}
use Rattle.query_words.specs.declared.verb.Verb.TheVariants as verbs
use Rattle.query_words.specs.Grammar.{SaidCond, Compared, Null, NotNull, SaidStatement, Begin, Commit, Rollback, Insert, Select, Delete, Explain, Summarize, Desummarize, Vacuum, Work, SaidOrder, Whole, Start, Step, Finish, SaidLine, Nothing, Say, is_comment, words_of_cond, cond_texts}

-- four words are a condition with the word in front of it, unless they go on with `is not`
abbrev pub cond_of_four : PlacedWord → PlacedWord → PlacedWord → Option (SaidCond PlacedWord)
cond_of_four column op value =
    if bytes_eq op.text (codes "is") then (if bytes_eq value.text (codes "not") then None else Some (Null column))
    else Some (Compared column op value)

-- the condition whose words these are with the word in front of it, where they are all there
abbrev pub cond_of_words : List PlacedWord → Option (SaidCond PlacedWord)
cond_of_words (joint ∷ column ∷ op ∷ value ∷ []) = cond_of_four column op value
cond_of_words (joint ∷ column ∷ is ∷ not ∷ null ∷ []) = Some (NotNull column)
cond_of_words words = None

-- a condition that is whole is followed by the next one
abbrev pub conds_behind : Option (SaidCond PlacedWord) → List (SaidCond PlacedWord) → List (SaidCond PlacedWord) → List (SaidCond PlacedWord)
conds_behind None going_on next = going_on
conds_behind (Some cond) going_on next = cond ∷ next

-- the conditions of the words of the condition so far and of the words behind them
abbrev pub conds_from : List PlacedWord → List PlacedWord → List (SaidCond PlacedWord)
conds_from so_far [] = []
conds_from so_far (word ∷ words) =
    conds_behind (cond_of_words (so_far ++ word ∷ [])) (conds_from (so_far ++ word ∷ []) words) (conds_from [] words)

-- the words begin with those of the condition, and go on with the others; so they are read, behind whatever word
pub record BeginsWith (words : List PlacedWord) (cond : SaidCond PlacedWord) (behind : List PlacedWord) : Type 0 where
  pub texts : texts_of words ≡ words_of_cond (cond_texts cond) ++ texts_of behind
  pub parsed : (joint : PlacedWord) → conds_from [] (joint ∷ words) ≡ cond ∷ conds_from [] behind

-- a table and conditions
abbrev pub query_of_words : (PlacedWord → List (SaidCond PlacedWord) → SaidStatement PlacedWord) → List PlacedWord → Option (SaidStatement PlacedWord)
query_of_words statement [] = None
query_of_words statement (table ∷ words) = Some (statement table (conds_from [] words))

-- a table and values
abbrev pub insert_of_words : List PlacedWord → Option (SaidStatement PlacedWord)
insert_of_words [] = None
insert_of_words (table ∷ values) = Some (Insert table values)

-- an index, and perhaps a block
abbrev pub summarize_of_words : List PlacedWord → Option (SaidStatement PlacedWord)
summarize_of_words [] = None
summarize_of_words (index ∷ []) = Some (Summarize index None)
summarize_of_words (index ∷ block ∷ words) = Some (Summarize index (Some block))

-- an index and a block
abbrev pub desummarize_of_words : List PlacedWord → Option (SaidStatement PlacedWord)
desummarize_of_words (index ∷ block ∷ words) = Some (Desummarize index block)
desummarize_of_words words = None

-- a table alone
abbrev pub vacuum_of_words : List PlacedWord → Option (SaidStatement PlacedWord)
vacuum_of_words [] = None
vacuum_of_words (table ∷ words) = Some (Vacuum table)

-- by the verb; `start`, `step` and `finish` are no statements
abbrev pub statement_behind : Verb → List PlacedWord → Option (SaidStatement PlacedWord)
statement_behind verbs.Begin words = Some Begin
statement_behind verbs.Commit words = Some Commit
statement_behind verbs.Rollback words = Some Rollback
statement_behind verbs.Insert words = insert_of_words words
statement_behind verbs.Select words = query_of_words Select words
statement_behind verbs.Delete words = query_of_words Delete words
statement_behind verbs.Explain words = query_of_words Explain words
statement_behind verbs.Summarize words = summarize_of_words words
statement_behind verbs.Desummarize words = desummarize_of_words words
statement_behind verbs.Vacuum words = vacuum_of_words words
statement_behind verbs.Work words = Some Work
statement_behind verb words = None

abbrev pub statement_of_words : List Verb → List PlacedWord → Option (SaidStatement PlacedWord)
statement_of_words language [] = None
statement_of_words language (verb ∷ words) = option_and_then (λ v. statement_behind v words) (verb_of language verb.text)

-- by the verb again: a statement as a whole, but for `start`, `step` and `finish`
abbrev pub order_behind : List Verb → Verb → List PlacedWord → Option (SaidOrder PlacedWord)
order_behind language verbs.Start words = option_map Start (statement_of_words language words)
order_behind language verbs.Step words = Some Step
order_behind language verbs.Finish words = Some Finish
order_behind language verb words = option_map Whole (statement_behind verb words)

abbrev pub order_of_words : List Verb → List PlacedWord → Option (SaidOrder PlacedWord)
order_of_words language [] = None
order_of_words language (verb ∷ words) = option_and_then (λ v. order_behind language v words) (verb_of language verb.text)

-- the line, with its words for what isn't looked up yet
abbrev pub said_of : List Verb → List PlacedWord → Option (SaidLine PlacedWord)
said_of language [] = Some (Nothing [])
said_of language (word ∷ words) =
    if is_comment word.text then Some (Nothing (word ∷ words)) else option_map (λ o. Say word o) (order_of_words language words)
