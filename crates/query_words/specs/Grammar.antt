-- the grammar of lines: which words are which line, before any name is looked up; a language is the verbs that it has
use Rattle.std.specs.Prelude.{◌≡◌, ℕ, ◌≤◌, true, ◌==◌, Bool, false, List, [], ◌∷◌, ◌++◌, length, map, codes, Option, None, Some, Ok, IfSome}
use Rattle.std.specs.Option.{option_map}
use Rattle.std.specs.List.{flat_map}
use Rattle.block_model.specs.Names.{is_name}
use Rattle.block_model.specs.declared.limits.TheConstants.{MAX_CONDITIONS}
use Rattle.block_model.specs.declared.value.Kind.{Kind}
use Rattle.block_model.specs.declared.value.Value.{Value}
use Rattle.block_model.specs.declared.value.Op.{Op}
use Rattle.value_text.specs.ValueTexts.{Denotes}
use Rattle.query_words.specs.declared.verb.Verb.{Verb}
use Rattle.query_words.specs.declared.verb.Verb.TheVariants as verbs
use Rattle.query_words.specs.Words.{PlacedWord}
use Rattle.query_words.specs.Operators.{op_of}
use Rattle.query_words.specs.Blocks.{IsBlockWord}
use Rattle.query_words.specs.Verbs.{verb_text, has_verb}

-- a condition: its column, operator and value, or a column that is null, or isn't
pub data SaidCond (W : Type 0) : Type 0 where
  Compared : W → W → W → SaidCond W
  Null : W → SaidCond W
  NotNull : W → SaidCond W

-- a statement: its verb, with the words for a table and its values or conditions, or for an index and a block
pub data SaidStatement (W : Type 0) : Type 0 where
  Begin : SaidStatement W
  Commit : SaidStatement W
  Rollback : SaidStatement W
  Insert : W → List W → SaidStatement W
  Select : W → List (SaidCond W) → SaidStatement W
  Delete : W → List (SaidCond W) → SaidStatement W
  Explain : W → List (SaidCond W) → SaidStatement W
  Summarize : W → Option W → SaidStatement W
  Desummarize : W → W → SaidStatement W
  Vacuum : W → SaidStatement W
  Work : SaidStatement W

-- a statement as a whole, one that is started, a step, or all steps that are left
pub data SaidOrder (W : Type 0) : Type 0 where
  Whole : SaidStatement W → SaidOrder W
  Start : SaidStatement W → SaidOrder W
  Step : SaidOrder W
  Finish : SaidOrder W

-- a line: one that says nothing, whatever its words, or a session's name and its order
pub data SaidLine (W : Type 0) : Type 0 where
  Nothing : List W → SaidLine W
  Say : W → SaidOrder W → SaidLine W

-- COLUMN OP value, COLUMN is null, or COLUMN is not null
abbrev pub words_of_cond : SaidCond (List ℕ) → List (List ℕ)
words_of_cond (Compared column op value) = column ∷ op ∷ value ∷ []
words_of_cond (Null column) = column ∷ codes "is" ∷ codes "null" ∷ []
words_of_cond (NotNull column) = column ∷ codes "is" ∷ codes "not" ∷ codes "null" ∷ []

-- further conditions, each behind `and`
abbrev pub words_of_more : List (SaidCond (List ℕ)) → List (List ℕ)
words_of_more conds = flat_map (λ cond. codes "and" ∷ words_of_cond cond) conds

-- nothing, or `where` and the conditions
abbrev pub words_of_conds : List (SaidCond (List ℕ)) → List (List ℕ)
words_of_conds [] = []
words_of_conds (cond ∷ conds) = codes "where" ∷ words_of_cond cond ++ words_of_more conds

-- nothing, or a block
abbrev pub words_of_block : Option (List ℕ) → List (List ℕ)
words_of_block None = []
words_of_block (Some block) = block ∷ []

-- the verb of a statement
abbrev pub verb_said : {W : Type 0} → SaidStatement W → Verb
verb_said Begin = verbs.Begin
verb_said Commit = verbs.Commit
verb_said Rollback = verbs.Rollback
verb_said (Insert table values) = verbs.Insert
verb_said (Select table conds) = verbs.Select
verb_said (Delete table conds) = verbs.Delete
verb_said (Explain table conds) = verbs.Explain
verb_said (Summarize index block) = verbs.Summarize
verb_said (Desummarize index block) = verbs.Desummarize
verb_said (Vacuum table) = verbs.Vacuum
verb_said Work = verbs.Work

-- what stands behind the verb
abbrev pub words_behind : SaidStatement (List ℕ) → List (List ℕ)
words_behind Begin = []
words_behind Commit = []
words_behind Rollback = []
words_behind (Insert table values) = table ∷ values
words_behind (Select table conds) = table ∷ words_of_conds conds
words_behind (Delete table conds) = table ∷ words_of_conds conds
words_behind (Explain table conds) = table ∷ words_of_conds conds
words_behind (Summarize index block) = index ∷ words_of_block block
words_behind (Desummarize index block) = index ∷ block ∷ []
words_behind (Vacuum table) = table ∷ []
words_behind Work = []

-- the verb, and what stands behind it
abbrev pub words_of_statement : SaidStatement (List ℕ) → List (List ℕ)
words_of_statement statement = verb_text (verb_said statement) ∷ words_behind statement

-- a statement, perhaps behind `start`, or `step`, or `finish`
abbrev pub words_of_order : SaidOrder (List ℕ) → List (List ℕ)
words_of_order (Whole statement) = words_of_statement statement
words_of_order (Start statement) = verb_text verbs.Start ∷ words_of_statement statement
words_of_order Step = verb_text verbs.Step ∷ []
words_of_order Finish = verb_text verbs.Finish ∷ []

-- the session's name and its order
abbrev pub words_of_said : SaidLine (List ℕ) → List (List ℕ)
words_of_said (Nothing words) = words
words_of_said (Say session order) = session ∷ words_of_order order

-- the word begins with `#`
abbrev pub is_comment : List ℕ → Bool
is_comment [] = false
is_comment (c ∷ cs) = c == 35

-- a name of a session, a table, an index or a column
abbrev pub IsNameWord : List ℕ → Type 0
IsNameWord word = is_name word ≡ true

-- an operator of some kind
abbrev pub IsOperatorWord : List ℕ → Type 0
IsOperatorWord word = (op : Op) × (op_of word ≡ Some op)

-- a text of some kind whose value is representable; `null` is one
abbrev pub IsValueWord : List ℕ → Type 0
IsValueWord word = (kind : Kind) × ((value : Value) × Denotes kind word (Ok value))

abbrev pub IsSaidCond : SaidCond (List ℕ) → Type 0
IsSaidCond (Compared column op value) = IsNameWord column × IsOperatorWord op × IsValueWord value
IsSaidCond (Null column) = IsNameWord column
IsSaidCond (NotNull column) = IsNameWord column

abbrev pub AreSaidConds : List (SaidCond (List ℕ)) → Type 0
AreSaidConds [] = Unit {0}
AreSaidConds (cond ∷ conds) = IsSaidCond cond × AreSaidConds conds

abbrev pub AreValueWords : List (List ℕ) → Type 0
AreValueWords [] = Unit {0}
AreValueWords (word ∷ words) = IsValueWord word × AreValueWords words

-- a table and its conditions
abbrev pub IsSaidQuery : List ℕ → List (SaidCond (List ℕ)) → Type 0
IsSaidQuery table conds = IsNameWord table × AreSaidConds conds × (length conds ≤ MAX_CONDITIONS)

-- the words behind the verb are such as it takes
abbrev pub HasSaidParts : SaidStatement (List ℕ) → Type 0
HasSaidParts Begin = Unit {0}
HasSaidParts Commit = Unit {0}
HasSaidParts Rollback = Unit {0}
HasSaidParts (Insert table values) = IsNameWord table × AreValueWords values
HasSaidParts (Select table conds) = IsSaidQuery table conds
HasSaidParts (Delete table conds) = IsSaidQuery table conds
HasSaidParts (Explain table conds) = IsSaidQuery table conds
HasSaidParts (Summarize index block) = IsNameWord index × IfSome block IsBlockWord
HasSaidParts (Desummarize index block) = IsNameWord index × IsBlockWord block
HasSaidParts (Vacuum table) = IsNameWord table
HasSaidParts Work = Unit {0}

-- a statement whose verb is one of the language's
abbrev pub IsSaidStatement : List Verb → SaidStatement (List ℕ) → Type 0
IsSaidStatement language statement = (has_verb language (verb_said statement) ≡ true) × HasSaidParts statement

abbrev pub IsSaidOrder : List Verb → SaidOrder (List ℕ) → Type 0
IsSaidOrder language (Whole statement) = IsSaidStatement language statement
IsSaidOrder language (Start statement) = (has_verb language verbs.Start ≡ true) × IsSaidStatement language statement
IsSaidOrder language Step = has_verb language verbs.Step ≡ true
IsSaidOrder language Finish = has_verb language verbs.Finish ≡ true

-- no word, or a comment
abbrev pub IsSilent : List (List ℕ) → Type 0
IsSilent [] = Unit {0}
IsSilent (word ∷ words) = is_comment word ≡ true

-- it is a line of the language
abbrev pub IsSaid : List Verb → SaidLine (List ℕ) → Type 0
IsSaid language (Nothing words) = IsSilent words
IsSaid language (Say session order) = IsNameWord session × IsSaidOrder language order

-- the same without the words' places
abbrev pub cond_texts : SaidCond PlacedWord → SaidCond (List ℕ)
cond_texts (Compared column op value) = Compared column.text op.text value.text
cond_texts (Null column) = Null column.text
cond_texts (NotNull column) = NotNull column.text

abbrev pub statement_texts : SaidStatement PlacedWord → SaidStatement (List ℕ)
statement_texts Begin = Begin
statement_texts Commit = Commit
statement_texts Rollback = Rollback
statement_texts (Insert table values) = Insert table.text (map (λ v. v.text) values)
statement_texts (Select table conds) = Select table.text (map cond_texts conds)
statement_texts (Delete table conds) = Delete table.text (map cond_texts conds)
statement_texts (Explain table conds) = Explain table.text (map cond_texts conds)
statement_texts (Summarize index block) = Summarize index.text (option_map (λ b. b.text) block)
statement_texts (Desummarize index block) = Desummarize index.text block.text
statement_texts (Vacuum table) = Vacuum table.text
statement_texts Work = Work

abbrev pub order_texts : SaidOrder PlacedWord → SaidOrder (List ℕ)
order_texts (Whole statement) = Whole (statement_texts statement)
order_texts (Start statement) = Start (statement_texts statement)
order_texts Step = Step
order_texts Finish = Finish

abbrev pub said_texts : SaidLine PlacedWord → SaidLine (List ℕ)
said_texts (Nothing words) = Nothing (map (λ w. w.text) words)
said_texts (Say session order) = Say session.text (order_texts order)
