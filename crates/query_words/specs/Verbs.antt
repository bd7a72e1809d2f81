-- the verbs of lines
use Rattle.std.specs.Prelude.{ℕ, Bool, false, ◌||◌, List, [], ◌∷◌, codes, Option}
use Rattle.std.specs.Str.{bytes_eq}
use Rattle.store_layout.specs.declared.statement.Statement.{Statement}
use Rattle.store_layout.specs.declared.statement.Statement.TheVariants as statements
use Rattle.query_words.specs.declared.verb.Verb.{Verb}
use Rattle.query_words.specs.declared.verb.Verb.TheVariants as verbs
use Rattle.query_words.specs.Written.{first_written}

-- how it is written
abbrev pub verb_text : Verb → List ℕ
verb_text verbs.Begin = codes "begin"
verb_text verbs.Commit = codes "commit"
verb_text verbs.Rollback = codes "rollback"
verb_text verbs.Insert = codes "insert"
verb_text verbs.Select = codes "select"
verb_text verbs.Delete = codes "delete"
verb_text verbs.Explain = codes "explain"
verb_text verbs.Summarize = codes "summarize"
verb_text verbs.Desummarize = codes "desummarize"
verb_text verbs.Vacuum = codes "vacuum"
verb_text verbs.Work = codes "work"
verb_text verbs.Start = codes "start"
verb_text verbs.Step = codes "step"
verb_text verbs.Finish = codes "finish"

-- all of them
abbrev pub every_verb : List Verb
every_verb =
    verbs.Begin ∷ verbs.Commit ∷ verbs.Rollback ∷ verbs.Insert ∷ verbs.Select ∷ verbs.Delete ∷ verbs.Explain ∷ verbs.Summarize
    ∷ verbs.Desummarize ∷ verbs.Vacuum ∷ verbs.Work ∷ verbs.Start ∷ verbs.Step ∷ verbs.Finish ∷ []

-- the verbs that the engine answers: all
abbrev pub answered : List Verb
answered = every_verb

-- the verb is one of the language's
abbrev pub has_verb : List Verb → Verb → Bool
has_verb [] verb = false
has_verb (one ∷ rest) verb = bytes_eq (verb_text verb) (verb_text one) || has_verb rest verb

-- the verb of the language that the word is
abbrev pub verb_of : List Verb → List ℕ → Option Verb
verb_of language word = first_written verb_text language word

-- the verb of a statement
abbrev pub statement_verb : Statement → Verb
statement_verb statements.Begin = verbs.Begin
statement_verb statements.Commit = verbs.Commit
statement_verb statements.Rollback = verbs.Rollback
statement_verb (statements.Insert table values) = verbs.Insert
statement_verb (statements.Select query) = verbs.Select
statement_verb (statements.Delete query) = verbs.Delete
statement_verb (statements.Explain query) = verbs.Explain
statement_verb (statements.Summarize index block) = verbs.Summarize
statement_verb (statements.Desummarize index block) = verbs.Desummarize
statement_verb (statements.Vacuum table) = verbs.Vacuum
statement_verb statements.Work = verbs.Work
