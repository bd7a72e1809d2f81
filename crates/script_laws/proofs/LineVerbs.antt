-- A line that is read has its order's verb as its second word.
use Rattle.std.proofs.Common.{◌≡◌, ◌⊎◌, inl, inr, ℕ, ◌≤◌, Bool, true, false, List, [], ◌∷◌, length, slice_get, None, Some, Ok, refl, sym, ap, ◌∙◌, subst}
use Rattle.std.specs.Prelude.{Result, codes, nat_lt}
use Rattle.std.specs.Str.{bytes_eq}
use Rattle.std.proofs.lemmas.Bool.{false≢true}
use Rattle.std.proofs.lemmas.Option.{same_Some}
use Rattle.block_model.specs.declared.schema.Schema.{Schema}
use Rattle.query_words.specs.declared.line.Line.{Line}
use Rattle.query_words.specs.declared.line.Line.TheVariants as lines
use Rattle.query_words.specs.declared.line.LineFault.{LineFault}
use Rattle.query_words.specs.declared.line.Order.{Order}
use Rattle.query_words.specs.declared.line.Order.TheVariants as orders
use Rattle.query_words.specs.declared.line_length.TheConstants.{MAX_LINE}
use Rattle.query_words.specs.declared.verb.Verb.{Verb}
use Rattle.query_words.specs.declared.verb.Verb.TheVariants as verbs
use Rattle.query_words.specs.Grammar.{Begin, Commit, Delete, Desummarize, Explain, Finish, Insert, Nothing, Rollback, SaidLine, SaidOrder, SaidStatement, Say, Select, Start, Step, Summarize, Vacuum, Whole, Work, order_texts, said_texts, statement_texts}
use Rattle.query_words.specs.Grammar.{verb_said, words_of_order, words_of_said}
use Rattle.query_words.specs.Lines.{line_in, line_judged, line_of, line_said, line_within}
use Rattle.query_words.specs.Parsed.{said_of}
use Rattle.query_words.specs.Statements.{order_said, statement_said}
use Rattle.query_words.specs.Syntax.{stop_of}
use Rattle.query_words.specs.Verbs.{answered, statement_verb, verb_text}
use Rattle.query_words.specs.Words.{PlacedWord, texts_of, words_of}
use Rattle.query_words.proofs.FitLemmas.{KnowsValues, came, statement_fits}
use Rattle.query_words.proofs.LineLawLemmas.{unstopped}
use Rattle.store_layout.specs.declared.statement.Statement.{Statement}
use Rattle.store_layout.specs.declared.statement.Statement.TheVariants as statements
use Rattle.script_laws.specs.LineVerbs.{HasNoDelete, LinesAreReadByVerbs, WordsBoundRequests, order_verb, word_at}
use Rattle.script_laws.specs.RequestBounds.{IsNoDelete, most_of_line}
use Rattle.script_laws.proofs.Fits.{judged}
use Rattle.script_laws.proofs.PaidLines.{no_delete_read}

verb_texts : (said : SaidStatement PlacedWord) → verb_said (statement_texts said) ≡ verb_said said
verb_texts Begin = refl
verb_texts Commit = refl
verb_texts Rollback = refl
verb_texts (Insert table values) = refl
verb_texts (Select table conds) = refl
verb_texts (Delete table conds) = refl
verb_texts (Explain table conds) = refl
verb_texts (Summarize index block) = refl
verb_texts (Desummarize index block) = refl
verb_texts (Vacuum table) = refl
verb_texts Work = refl

-- a statement that is started has its verb there
abbrev IsStartedBy : List (List ℕ) → ℕ → Order → Type 0
IsStartedBy words at (orders.Start statement) = slice_get words at ≡ Some (verb_text (statement_verb statement))
IsStartedBy words at order = Unit {0}

-- words of an order, behind the session's name
record HasVerbs (words : List (List ℕ)) (order : Order) : Type 0 where
  verb : slice_get words 0 ≡ Some (verb_text (order_verb order))
  started : IsStartedBy words 1 order

-- words of a line
record AreOf (words : List (List ℕ)) (order : Order) : Type 0 where
  verb : slice_get words 1 ≡ Some (verb_text (order_verb order))
  started : IsStartedBy words 2 order

behind_name : (name : List ℕ) (words : List (List ℕ)) (order : Order) → HasVerbs words order → AreOf (name ∷ words) order
behind_name name words (orders.Whole statement) has = record { verb = has.verb; started = tt }
behind_name name words (orders.Start statement) has = record { verb = has.verb; started = has.started }
behind_name name words orders.Step has = record { verb = has.verb; started = tt }
behind_name name words orders.Finish has = record { verb = has.verb; started = tt }

module _ (knows : KnowsValues) (schema : Schema) (len : ℕ) where
  statement_word : (said : SaidStatement PlacedWord) (statement : Statement) → statement_said schema len said ≡ Ok statement
      → Some (verb_text (verb_said (statement_texts said))) ≡ Some (verb_text (statement_verb statement))
  statement_word said statement is = ap (λ (v : Verb). Some (verb_text v)) (verb_texts said ∙ sym (statement_fits knows schema len said statement is).verb)

  order_words : (said : SaidOrder PlacedWord) (order : Order) → order_said schema len said ≡ Ok order → HasVerbs (words_of_order (order_texts said)) order
  order_words (Whole said) order is =
      let made = came (statement_said schema len said) (λ s. Ok (orders.Whole s)) order is in
      let same : orders.Whole made.from ≡ order = let e = made.then in cc in
      subst (HasVerbs (words_of_order (order_texts (Whole said)))) same (record { verb = statement_word said made.from made.first; started = tt })
  order_words (Start said) order is =
      let made = came (statement_said schema len said) (λ s. Ok (orders.Start s)) order is in
      let same : orders.Start made.from ≡ order = let e = made.then in cc in
      subst (HasVerbs (words_of_order (order_texts (Start said)))) same (record { verb = refl; started = statement_word said made.from made.first })
  order_words Step order is = subst (HasVerbs (verb_text verbs.Step ∷ [])) (let same : orders.Step ≡ order = cc in same) (record { verb = refl; started = tt })
  order_words Finish order is = subst (HasVerbs (verb_text verbs.Finish ∷ [])) (let same : orders.Finish ≡ order = cc in same) (record { verb = refl; started = tt })

  same_order : (name other : List ℕ) (order made : Order) → ◌≡◌ {A = Result Line LineFault} (Ok (lines.Say name made)) (Ok (lines.Say other order)) → made ≡ order
  same_order name other order made same = cc

  said_words : (said : SaidLine PlacedWord) (name : List ℕ) (order : Order) → line_said schema len said ≡ Ok (lines.Say name order) → AreOf (words_of_said (said_texts said)) order
  said_words (Nothing words) name order is = absurd (cc)
  said_words (Say session said) name order is =
      let made = came (order_said schema len said) (λ o. Ok (lines.Say session.text o)) (lines.Say name order) is in
      let same : made.from ≡ order = same_order session.text name order made.from made.then in
      behind_name session.text (words_of_order (order_texts said)) order (subst (HasVerbs (words_of_order (order_texts said))) same (order_words said made.from made.first))

  judged_words : (words : List PlacedWord) (name : List ℕ) (order : Order)
      → (stop_of answered len words ≡ None) × (line_judged schema len None (said_of answered words) ≡ Ok (lines.Say name order)) → AreOf (texts_of words) order
  judged_words words name order is =
      let whole = unstopped answered knows.denoted len words is.0 in
      subst (λ (texts : List (List ℕ)). AreOf texts order) (sym whole.texts) (said_words whole.said name order (sym (ap (line_judged schema len None) whole.parsed) ∙ is.1))

read_words : KnowsValues → (schema : Schema) (line name : List ℕ) (order : Order) → line_of schema line ≡ Ok (lines.Say name order) → AreOf (texts_of (words_of line)) order
unfolding line_in
read_words knows schema line name order is = by (nat_lt MAX_LINE (length line)) is
  where
    by : (b : Bool) → line_within b answered schema line ≡ Ok (lines.Say name order) → AreOf (texts_of (words_of line)) order
    by true e = absurd (cc)
    by false e =
        judged_words knows schema (length line) (words_of line) name order
        (judged schema (length line) (stop_of answered (length line) (words_of line)) (said_of answered (words_of line)) (lines.Say name order) e)

pub read_by_verbs : KnowsValues → LinesAreReadByVerbs
read_by_verbs knows = record {
  verb = λ schema line name order is. (read_words knows schema line name order is).verb;
  started = λ schema line name statement is. (read_words knows schema line name (orders.Start statement) is).started;
}

-- ---- which requests they make

-- words that differ as bytes
words_apart : (a b : List ℕ) → bytes_eq a b ≡ false → bytes_eq b b ≡ true → Some a ≡ Some b → ⊥
words_apart a b differ same is = false≢true (sym differ ∙ ap (λ (w : List ℕ). bytes_eq w b) (same_Some a b is) ∙ same)

-- a statement's verb isn't step, nor finish
no_statement : (statement : Statement) (word : List ℕ) → (word ≡ codes "step") ⊎ (word ≡ codes "finish") → Some (verb_text (statement_verb statement)) ≡ Some word → ⊥
no_statement statement word (inl step) is = words_apart _ (codes "step") (apart statement) refl (is ∙ ap Some step)
  where
    apart : (s : Statement) → bytes_eq (verb_text (statement_verb s)) (codes "step") ≡ false
    apart statements.Begin = refl
    apart statements.Commit = refl
    apart statements.Rollback = refl
    apart (statements.Insert table values) = refl
    apart (statements.Select query) = refl
    apart (statements.Delete query) = refl
    apart (statements.Explain query) = refl
    apart (statements.Summarize index block) = refl
    apart (statements.Desummarize index block) = refl
    apart (statements.Vacuum table) = refl
    apart statements.Work = refl
no_statement statement word (inr finish) is = words_apart _ (codes "finish") (apart statement) refl (is ∙ ap Some finish)
  where
    apart : (s : Statement) → bytes_eq (verb_text (statement_verb s)) (codes "finish") ≡ false
    apart statements.Begin = refl
    apart statements.Commit = refl
    apart statements.Rollback = refl
    apart (statements.Insert table values) = refl
    apart (statements.Select query) = refl
    apart (statements.Delete query) = refl
    apart (statements.Explain query) = refl
    apart (statements.Summarize index block) = refl
    apart (statements.Desummarize index block) = refl
    apart (statements.Vacuum table) = refl
    apart statements.Work = refl

no_start : (word : List ℕ) → (word ≡ codes "step") ⊎ (word ≡ codes "finish") → Some (codes "start") ≡ Some word → ⊥
no_start word (inl step) is = words_apart (codes "start") (codes "step") refl refl (is ∙ ap Some step)
no_start word (inr finish) is = words_apart (codes "start") (codes "finish") refl refl (is ∙ ap Some finish)

-- such a word's line takes no statement
none_of_order : (rows : ℕ) (order : Order) (word : List ℕ) → (word ≡ codes "step") ⊎ (word ≡ codes "finish") → Some (verb_text (order_verb order)) ≡ Some word
    → most_of_line rows (Ok (lines.Say [] order)) ≡ 0
none_of_order rows (orders.Whole statement) word which is = absurd (no_statement statement word which is)
none_of_order rows (orders.Start statement) word which is = absurd (no_start word which is)
none_of_order rows orders.Step word which is = refl
none_of_order rows orders.Finish word which is = refl

module _ (knows : KnowsValues) (schema : Schema) where
  no_delete_by_words : (line : List ℕ) → HasNoDelete line → IsNoDelete schema line
  no_delete_by_words line none name (orders.Whole (statements.Delete q)) is deletes = none.second (read_words knows schema line name _ is).verb
  no_delete_by_words line none name (orders.Start (statements.Delete q)) is deletes = none.third (read_words knows schema line name _ is).started
  no_delete_by_words line none name order is deletes = deletes

  none_by_word : (rows : ℕ) (line word : List ℕ) → (word ≡ codes "step") ⊎ (word ≡ codes "finish") → word_at line 1 ≡ Some word → most_of_line rows (line_of schema line) ≡ 0
  none_by_word rows line word which is = by (line_of schema line) refl
    where
      by : (read : Result Line LineFault) → line_of schema line ≡ read → most_of_line rows read ≡ 0
      by (Ok (lines.Say name order)) said = none_of_order rows order word which (sym (read_words knows schema line name order said).verb ∙ is)
      by read said = refl

  words_bound : (rows : ℕ) (line : List ℕ) → HasNoDelete line → most_of_line rows (line_of schema line) ≤ 2
  words_bound rows line none = no_delete_read rows (line_of schema line) (no_delete_by_words line none)

pub words_bound_requests : KnowsValues → WordsBoundRequests
words_bound_requests knows = record {
  no_delete = no_delete_by_words knows;
  few = λ schema rows line none. words_bound knows schema rows line none;
  step = λ schema rows line is. none_by_word knows schema rows line (codes "step") (inl refl) is;
  finish = λ schema rows line is. none_by_word knows schema rows line (codes "finish") (inr refl) is;
}
