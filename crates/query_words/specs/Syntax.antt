-- how far the words of a line go on as one of a language
use Rattle.std.specs.Prelude.{◌≡◌, ℕ, zero, suc, ◌-◌, nat_lt, Bool, true, false, ◌&&◌, List, [], ◌∷◌, codes, Option, None, Some, if◌then◌else◌}
use Rattle.std.specs.Option.{is_some, option_map, option_and_then}
use Rattle.std.specs.Str.{bytes_eq}
use Rattle.block_model.specs.Names.{is_name}
use Rattle.block_model.specs.declared.limits.TheConstants.{MAX_CONDITIONS}
use Rattle.query_words.specs.Words.{PlacedWord}
use Rattle.query_words.specs.Operators.{op_of}
use Rattle.query_words.specs.ValueWords.{is_value_word}
use Rattle.query_words.specs.Blocks.{is_block}
use Rattle.query_words.specs.Verbs.{verb_of}
use Rattle.query_words.specs.declared.verb.Verb.{Verb}
use Rattle.query_words.specs.declared.verb.Verb.TheVariants as verbs
use Rattle.query_words.specs.Grammar.{is_comment}
use Rattle.query_words.specs.declared.syntax.Expected.{Expected}
use Rattle.query_words.specs.declared.syntax.Expected.TheVariants as expected

-- what the words go on with, where the test holds
abbrev pub where_so : Bool → Expected → Option Expected
where_so test next = if test then Some next else None

abbrev pub after_verb : Verb → Expected
after_verb verbs.Begin = expected.End
after_verb verbs.Commit = expected.End
after_verb verbs.Rollback = expected.End
after_verb verbs.Insert = expected.InsertTable
after_verb verbs.Select = expected.QueryTable
after_verb verbs.Delete = expected.QueryTable
after_verb verbs.Explain = expected.QueryTable
after_verb verbs.Summarize = expected.SummarizedIndex
after_verb verbs.Desummarize = expected.DesummarizedIndex
after_verb verbs.Vacuum = expected.VacuumedTable
after_verb verbs.Work = expected.End
after_verb verbs.Start = expected.Statement
after_verb verbs.Step = expected.End
after_verb verbs.Finish = expected.End

-- behind the verb of a statement; the other verbs have none
abbrev pub after_started : Verb → Option Expected
after_started verbs.Start = None
after_started verbs.Step = None
after_started verbs.Finish = None
after_started verb = Some (after_verb verb)

-- behind a column: `is`, or an operator
abbrev pub after_column : ℕ → List ℕ → Option Expected
after_column left word =
    if bytes_eq word (codes "is") then Some (expected.Null left) else where_so (is_some (op_of word)) (expected.Value left)

-- behind `is`: `not`, or `null`
abbrev pub after_is : ℕ → List ℕ → Option Expected
after_is left word =
    if bytes_eq word (codes "not") then Some (expected.NotNull left) else where_so (bytes_eq word (codes "null")) (expected.And left)

-- what may stand behind a word, where the word may stand; a number says how many conditions may follow
abbrev pub after_word : List Verb → Expected → List ℕ → Option Expected
after_word language expected.Session word = where_so (is_name word) expected.Verb
after_word language expected.Verb word = option_map after_verb (verb_of language word)
after_word language expected.Statement word = option_and_then after_started (verb_of language word)
after_word language expected.End word = None
after_word language expected.InsertTable word = where_so (is_name word) expected.Values
after_word language expected.Values word = where_so (is_value_word word) expected.Values
after_word language expected.QueryTable word = where_so (is_name word) expected.Where
after_word language expected.Where word = where_so (bytes_eq word (codes "where")) (expected.Column (MAX_CONDITIONS - 1))
after_word language (expected.And left) word = where_so (nat_lt 0 left && bytes_eq word (codes "and")) (expected.Column (left - 1))
after_word language (expected.Column left) word = where_so (is_name word) (expected.Operator left)
after_word language (expected.Operator left) word = after_column left word
after_word language (expected.Value left) word = where_so (is_value_word word) (expected.And left)
after_word language (expected.Null left) word = after_is left word
after_word language (expected.NotNull left) word = where_so (bytes_eq word (codes "null")) (expected.And left)
after_word language expected.SummarizedIndex word = where_so (is_name word) expected.MayHaveBlock
after_word language expected.MayHaveBlock word = where_so (is_block word) expected.End
after_word language expected.DesummarizedIndex word = where_so (is_name word) expected.Block
after_word language expected.Block word = where_so (is_block word) expected.End
after_word language expected.VacuumedTable word = where_so (is_name word) expected.End

-- whether the line may end there
abbrev pub may_end : Expected → Bool
may_end expected.End = true
may_end expected.Values = true
may_end expected.Where = true
may_end expected.MayHaveBlock = true
may_end (expected.And left) = true
may_end other = false

-- behind a word that may stand there the rest is looked at; else the word is where the line stops
abbrev pub stop_behind : Option Expected → ℕ → (Expected → Option ℕ) → Option ℕ
stop_behind None at rest = Some at
stop_behind (Some next) at rest = rest next

-- the place of the first word at which words stop being those of a line of the language, or the line's length where a word is
-- missing
abbrev pub stop_from : List Verb → ℕ → Expected → List PlacedWord → Option ℕ
stop_from language length next [] = if may_end next then None else Some length
stop_from language length next (word ∷ words) =
    stop_behind (after_word language next word.text) word.at (λ behind. stop_from language length behind words)

-- the same where no verb follows, in any language
abbrev pub stop_after : ℕ → Expected → List PlacedWord → Option ℕ
stop_after length next words = stop_from [] length next words

-- what may stand behind so many conditions
abbrev pub behind_conds : ℕ → Expected
behind_conds zero = expected.Where
behind_conds (suc n) = expected.And (MAX_CONDITIONS - suc n)

-- no condition stands first in the words
abbrev pub BeginsNoCond : List PlacedWord → Type 0
BeginsNoCond words = (length left : ℕ) → stop_after length (expected.Column left) words ≡ None → ⊥

-- the same for a whole line; one without words stops nowhere, and neither does a comment
abbrev pub stop_of : List Verb → ℕ → List PlacedWord → Option ℕ
stop_of language length [] = None
stop_of language length (word ∷ words) =
    if is_comment word.text then None else stop_from language length expected.Session (word ∷ words)
