-- plain lines and the lines of the engine's language, by their words
use Rattle.std.proofs.Common.{◌≡◌, ℕ, ◌≤◌, nat_lt, Bool, true, false, cond, List, [], ◌∷◌, ◌++◌, length, codes, Option, None, Some, Result, Ok, Err, ◌⊎◌, inl, inr, refl, sym, ap, ◌∙◌, subst, arith}
use Rattle.std.specs.List.{list_all}
use Rattle.std.specs.Option.{is_some, option_map, option_and_then}
use Rattle.std.specs.Str.{bytes_eq}
use Rattle.std.proofs.lemmas.Bool.{false≢true, and_parts, le-ltb, ltb-false, ltb-true}
use Rattle.block_model.specs.Names.{is_name}
use Rattle.block_model.specs.declared.schema.Schema.{Schema}
use Rattle.store_layout.specs.declared.statement.Statement.{Statement}
use Rattle.query_words.specs.declared.verb.Verb.{Verb}
use Rattle.query_words.specs.declared.verb.Verb.TheVariants as verbs
use Rattle.query_words.specs.declared.line.Line.{Line}
use Rattle.query_words.specs.declared.line.Line.TheVariants as lines
use Rattle.query_words.specs.declared.line.LineFault.{LineFault}
use Rattle.query_words.specs.declared.line.LineFault.TheVariants as faults
use Rattle.query_words.specs.declared.line.Order.TheVariants as orders
use Rattle.query_words.specs.declared.line_length.TheConstants.{MAX_LINE}
use Rattle.query_words.specs.declared.syntax.Expected.TheVariants as expected
use Rattle.query_words.specs.Grammar.{SaidStatement, SaidOrder, Whole, Start, Step, Finish, SaidLine, Nothing, Say, is_comment}
use Rattle.query_words.specs.Lines.{line_in, line_judged, line_of, line_of_words, line_within}
use Rattle.query_words.specs.Parsed.{order_behind, order_of_words, said_of, statement_behind, statement_of_words}
use Rattle.query_words.specs.Statements.{◌>>=◌, made_of, statement_said}
use Rattle.query_words.specs.Syntax.{after_verb, stop_behind, stop_from, stop_of, where_so}
use Rattle.query_words.specs.Verbs.{answered, verb_of, verb_text}
use Rattle.query_words.specs.Words.{PlacedWord, words_of}
use Rattle.query_words.specs.Written.{first_written}
use Rattle.query_words.proofs.Accepting.{same_text}
use Rattle.query_words.proofs.LineLawLemmas.{name_says}
use Rattle.plain_script.specs.PlainLines.{plain_line_of, plain_of, plain_verbs}
use Rattle.plain_script.specs.PlainLineLaws.{BeginsWithStep, is_step_word, line_of_plain}
use Rattle.plain_script.specs.declared.plain_line.PlainLine.{PlainLine}
use Rattle.plain_script.specs.declared.plain_line.PlainLine.TheVariants as plain
use Rattle.plain_script.proofs.BehindVerbs.{PastVerb, same_behind}

-- ---- the verbs of both languages

-- the three that plain lines lack
abbrev step_verbs : List Verb
step_verbs = verbs.Start ∷ verbs.Step ∷ verbs.Finish ∷ []

abbrev is_plain : Verb → Bool
is_plain verbs.Start = false
is_plain verbs.Step = false
is_plain verbs.Finish = false
is_plain verb = true

-- a verb of the first verbs is one of all
written_first : (xs ys : List Verb) (word : List ℕ) (v : Verb) → first_written verb_text xs word ≡ Some v → first_written verb_text (xs ++ ys) word ≡ Some v
written_first [] ys word v e = absurd (cc)
written_first (x ∷ xs) ys word v e = at (bytes_eq word (verb_text x)) e (written_first xs ys word v)
  where
    at : (b : Bool) → cond b (Some x) (first_written verb_text xs word) ≡ Some v → (first_written verb_text xs word ≡ Some v → first_written verb_text (xs ++ ys) word ≡ Some v)
        → cond b (Some x) (first_written verb_text (xs ++ ys) word) ≡ Some v
    at true e next = e
    at false e next = next e

-- one that is none of them is one of the others
written_behind : (xs ys : List Verb) (word : List ℕ) → first_written verb_text xs word ≡ None → first_written verb_text (xs ++ ys) word ≡ first_written verb_text ys word
written_behind [] ys word e = refl
written_behind (x ∷ xs) ys word e = at (bytes_eq word (verb_text x)) e (written_behind xs ys word)
  where
    at : (b : Bool) → cond b (Some x) (first_written verb_text xs word) ≡ None → (first_written verb_text xs word ≡ None → first_written verb_text (xs ++ ys) word ≡ first_written verb_text ys word)
        → cond b (Some x) (first_written verb_text (xs ++ ys) word) ≡ first_written verb_text ys word
    at true e next = absurd (cc)
    at false e next = next e

plain_found : (xs : List Verb) (word : List ℕ) (v : Verb) → list_all is_plain xs ≡ true → first_written verb_text xs word ≡ Some v → is_plain v ≡ true
plain_found [] word v all e = absurd (cc)
plain_found (x ∷ xs) word v all e = at (bytes_eq word (verb_text x)) e (plain_found xs word v (and_parts (is_plain x) (list_all is_plain xs) all).1)
  where
    at : (b : Bool) → cond b (Some x) (first_written verb_text xs word) ≡ Some v → (first_written verb_text xs word ≡ Some v → is_plain v ≡ true) → is_plain v ≡ true
    at true e next = let same : x ≡ v = cc in ap is_plain (sym same) ∙ (and_parts (is_plain x) (list_all is_plain xs) all).0
    at false e next = next e

plain_verb : (word : List ℕ) (v : Verb) → verb_of plain_verbs word ≡ Some v → is_plain v ≡ true
plain_verb word v e = plain_found plain_verbs word v refl e

-- a step word is one of three words
step_words : (word : List ℕ) → is_step_word word ≡ true → (word ≡ codes "start") ⊎ ((word ≡ codes "step") ⊎ (word ≡ codes "finish"))
step_words word h = first (bytes_eq word (codes "start")) refl h
  where
    third : (b : Bool) → bytes_eq word (codes "finish") ≡ b → is_some (cond b (Some verbs.Finish) None) ≡ true → (word ≡ codes "start") ⊎ ((word ≡ codes "step") ⊎ (word ≡ codes "finish"))
    third true e h = inr (inr (same_text word (codes "finish") e))
    third false e h = absurd (false≢true h)

    second : (b : Bool) → bytes_eq word (codes "step") ≡ b → is_some (cond b (Some verbs.Step) (first_written verb_text (verbs.Finish ∷ []) word)) ≡ true
        → (word ≡ codes "start") ⊎ ((word ≡ codes "step") ⊎ (word ≡ codes "finish"))
    second true e h = inr (inl (same_text word (codes "step") e))
    second false e h = third (bytes_eq word (codes "finish")) refl h

    first : (b : Bool) → bytes_eq word (codes "start") ≡ b → is_some (cond b (Some verbs.Start) (first_written verb_text (verbs.Step ∷ verbs.Finish ∷ []) word)) ≡ true
        → (word ≡ codes "start") ⊎ ((word ≡ codes "step") ⊎ (word ≡ codes "finish"))
    first true e h = inl (same_text word (codes "start") e)
    first false e h = second (bytes_eq word (codes "step")) refl h

-- and no verb of plain lines
no_plain_verb : (word : List ℕ) → is_step_word word ≡ true → verb_of plain_verbs word ≡ None
no_plain_verb word h = at (step_words word h)
  where
    at : (word ≡ codes "start") ⊎ ((word ≡ codes "step") ⊎ (word ≡ codes "finish")) → verb_of plain_verbs word ≡ None
    at (inl e) = ap (verb_of plain_verbs) e
    at (inr (inl e)) = ap (verb_of plain_verbs) e
    at (inr (inr e)) = ap (verb_of plain_verbs) e

none_of : {A : Type 0} (o : Option A) → is_some o ≡ false → o ≡ None
none_of None h = refl
none_of (Some x) h = absurd (cc)

-- any other word is the same verb in both
same_verb : (word : List ℕ) → is_step_word word ≡ false → verb_of plain_verbs word ≡ verb_of answered word
same_verb word h = at (verb_of plain_verbs word) refl
  where
    at : (o : Option Verb) → verb_of plain_verbs word ≡ o → verb_of plain_verbs word ≡ verb_of answered word
    at None e = e ∙ sym (written_behind plain_verbs step_verbs word e ∙ none_of (verb_of step_verbs word) h)
    at (Some v) e = e ∙ sym (written_first plain_verbs step_verbs word v e)

-- ---- the words behind a plain verb

past_verb : (v : Verb) → is_plain v ≡ true → PastVerb (after_verb v)
past_verb verbs.Begin h = tt
past_verb verbs.Commit h = tt
past_verb verbs.Rollback h = tt
past_verb verbs.Insert h = tt
past_verb verbs.Select h = tt
past_verb verbs.Delete h = tt
past_verb verbs.Explain h = tt
past_verb verbs.Summarize h = tt
past_verb verbs.Desummarize h = tt
past_verb verbs.Vacuum h = tt
past_verb verbs.Work h = tt
past_verb verbs.Start h = absurd (false≢true h)
past_verb verbs.Step h = absurd (false≢true h)
past_verb verbs.Finish h = absurd (false≢true h)

-- they are a whole statement, in any language
whole_behind : (language : List Verb) (v : Verb) (words : List PlacedWord) → is_plain v ≡ true → order_behind language v words ≡ option_map Whole (statement_behind v words)
whole_behind language verbs.Begin words h = refl
whole_behind language verbs.Commit words h = refl
whole_behind language verbs.Rollback words h = refl
whole_behind language verbs.Insert words h = refl
whole_behind language verbs.Select words h = refl
whole_behind language verbs.Delete words h = refl
whole_behind language verbs.Explain words h = refl
whole_behind language verbs.Summarize words h = refl
whole_behind language verbs.Desummarize words h = refl
whole_behind language verbs.Vacuum words h = refl
whole_behind language verbs.Work words h = refl
whole_behind language verbs.Start words h = absurd (false≢true h)
whole_behind language verbs.Step words h = absurd (false≢true h)
whole_behind language verbs.Finish words h = absurd (false≢true h)

-- ---- the words of a line, by what is known of them

-- behind a session's name, by the verb
abbrev judged_by : List Verb → Schema → ℕ → PlacedWord → PlacedWord → List PlacedWord → Option Verb → Result Line LineFault
judged_by language schema len session verb rest o =
    line_judged schema len (stop_behind (option_map after_verb o) verb.at (λ behind. stop_from language len behind rest))
    (option_map (λ p. Say session p) (option_and_then (λ v. order_behind language v rest) o))

-- by whether the first word is a name
abbrev judged_named : List Verb → Schema → ℕ → PlacedWord → List PlacedWord → Bool → Result Line LineFault
judged_named language schema len session words b =
    line_judged schema len (stop_behind (where_so b expected.Verb) session.at (λ behind. stop_from language len behind words)) (option_map (λ p. Say session p) (order_of_words language words))

-- by whether it is a comment
abbrev judged_words : List Verb → Schema → ℕ → PlacedWord → List PlacedWord → Bool → Result Line LineFault
judged_words language schema len word words b =
    line_judged schema len (cond b None (stop_from language len expected.Session (word ∷ words)))
    (cond b (Some (Nothing (word ∷ words))) (option_map (λ p. Say word p) (order_of_words language words)))

same_judged : (schema : Schema) (len : ℕ) (session verb : PlacedWord) (rest : List PlacedWord) (o : Option Verb) → ((v : Verb) → o ≡ Some v → is_plain v ≡ true)
    → judged_by plain_verbs schema len session verb rest o ≡ judged_by answered schema len session verb rest o
same_judged schema len session verb rest None h = refl
same_judged schema len session verb rest (Some v) h =
    let p : is_plain v ≡ true = h v refl in
    let stop : stop_from plain_verbs len (after_verb v) rest ≡ stop_from answered len (after_verb v) rest = same_behind plain_verbs answered len (after_verb v) rest (past_verb v p) in
    let order : order_behind plain_verbs v rest ≡ order_behind answered v rest = whole_behind plain_verbs v rest p ∙ sym (whole_behind answered v rest p) in
    (λ i. line_judged schema len (stop i) (option_map (λ p. Say session p) (order i)))

-- the words are a name and one of the three
abbrev HaveNoStep : List PlacedWord → Type 0
HaveNoStep words = (session verb : PlacedWord) (rest : List PlacedWord) → words ≡ session ∷ verb ∷ rest → is_name session.text ≡ true → is_step_word verb.text ≡ true → ⊥

same_by_step : (schema : Schema) (len : ℕ) (session verb : PlacedWord) (rest : List PlacedWord) (b : Bool) → is_step_word verb.text ≡ b → (is_step_word verb.text ≡ true → ⊥)
    → judged_by plain_verbs schema len session verb rest (verb_of plain_verbs verb.text) ≡ judged_by answered schema len session verb rest (verb_of answered verb.text)
same_by_step schema len session verb rest true e without = absurd (without e)
same_by_step schema len session verb rest false e without =
    same_judged schema len session verb rest (verb_of plain_verbs verb.text) (plain_verb verb.text) ∙ ap (judged_by answered schema len session verb rest) (same_verb verb.text e)

same_named : (schema : Schema) (len : ℕ) (session : PlacedWord) (words : List PlacedWord) (b : Bool) → is_name session.text ≡ b → HaveNoStep (session ∷ words)
    → judged_named plain_verbs schema len session words b ≡ judged_named answered schema len session words b
same_named schema len session words false e without = refl
same_named schema len session [] true e without = refl
same_named schema len session (verb ∷ rest) true e without = same_by_step schema len session verb rest (is_step_word verb.text) refl (without session verb rest refl e)

same_loud : (schema : Schema) (len : ℕ) (word : PlacedWord) (words : List PlacedWord) (b : Bool) → HaveNoStep (word ∷ words)
    → judged_words plain_verbs schema len word words b ≡ judged_words answered schema len word words b
same_loud schema len word words true without = refl
same_loud schema len word words false without = same_named schema len word words (is_name word.text) refl without

same_words : (schema : Schema) (len : ℕ) (words : List PlacedWord) → HaveNoStep words → line_of_words plain_verbs schema len words ≡ line_of_words answered schema len words
same_words schema len [] without = refl
same_words schema len (word ∷ words) without = same_loud schema len word words (is_comment word.text) without

same_within : (schema : Schema) (line : List ℕ) (b : Bool) → nat_lt MAX_LINE (length line) ≡ b → ((session verb : PlacedWord) → BeginsWithStep line session verb → ⊥)
    → line_within b plain_verbs schema line ≡ line_within b answered schema line
same_within schema line true e without = refl
same_within schema line false e without =
    same_words schema (length line) (words_of line)
    (λ session verb rest is name steps. without session verb (record { short = ltb-false MAX_LINE (length line) e; rest = rest; words = is; named = name; steps = steps }))

-- a line with none of the three is the same in both languages
same_lines : (schema : Schema) (line : List ℕ) → ((session verb : PlacedWord) → BeginsWithStep line session verb → ⊥) → line_in plain_verbs schema line ≡ line_of schema line
unfolding line_in
same_lines schema line without = same_within schema line (nat_lt MAX_LINE (length line)) refl without

-- a line with one of them is judged by its verb
judged_by_step : (language : List Verb) (schema : Schema) (line : List ℕ) (session verb : PlacedWord) (s : BeginsWithStep line session verb)
    → line_in language schema line ≡ judged_by language schema (length line) session verb s.rest (verb_of language verb.text)
unfolding line_in
judged_by_step language schema line session verb s =
    ap (λ b. line_within b language schema line) (le-ltb MAX_LINE (length line) s.short)
    ∙ ap (λ (words : List PlacedWord). line_of_words language schema (length line) words) s.words
    ∙ ap (judged_words language schema (length line) session (verb ∷ s.rest)) (name_says session.text s.named)
    ∙ ap (judged_named language schema (length line) session (verb ∷ s.rest)) s.named

-- in the language of plain lines it stops at that word
pub steps_are_no_words : (schema : Schema) (line : List ℕ) (session verb : PlacedWord) → BeginsWithStep line session verb → plain_line_of schema line ≡ Err (faults.Syntax verb.at)
steps_are_no_words schema line session verb s =
    ap (λ (r : Result Line LineFault). made_of plain_of r)
    (judged_by_step plain_verbs schema line session verb s ∙ ap (judged_by plain_verbs schema (length line) session verb s.rest) (no_plain_verb verb.text s.steps))

-- ---- plain lines are whole statements

abbrev IsWholeSaid : Option (SaidLine PlacedWord) → Type 0
IsWholeSaid None = Unit {0}
IsWholeSaid (Some (Nothing words)) = Unit {0}
IsWholeSaid (Some (Say word (Whole statement))) = Unit {0}
IsWholeSaid (Some (Say word order)) = ⊥

abbrev IsWholeRead : Result Line LineFault → Type 0
IsWholeRead (Err fault) = Unit {0}
IsWholeRead (Ok lines.Nothing) = Unit {0}
IsWholeRead (Ok (lines.Say session (orders.Whole statement))) = Unit {0}
IsWholeRead (Ok (lines.Say session order)) = ⊥

whole_if : (word : PlacedWord) (o : Option (SaidStatement PlacedWord)) → IsWholeSaid (option_map (λ p. Say word p) (option_map Whole o))
whole_if word None = tt
whole_if word (Some statement) = tt

whole_by_verb : (word : PlacedWord) (rest : List PlacedWord) (o : Option Verb) → ((v : Verb) → o ≡ Some v → is_plain v ≡ true)
    → IsWholeSaid (option_map (λ p. Say word p) (option_and_then (λ v. order_behind plain_verbs v rest) o))
whole_by_verb word rest None h = tt
whole_by_verb word rest (Some v) h =
    subst (λ (p : Option (SaidOrder PlacedWord)). IsWholeSaid (option_map (λ q. Say word q) p)) (sym (whole_behind plain_verbs v rest (h v refl))) (whole_if word (statement_behind v rest))

whole_order : (word : PlacedWord) (words : List PlacedWord) → IsWholeSaid (option_map (λ p. Say word p) (order_of_words plain_verbs words))
whole_order word [] = tt
whole_order word (verb ∷ rest) = whole_by_verb word rest (verb_of plain_verbs verb.text) (plain_verb verb.text)

whole_loud : (word : PlacedWord) (words : List PlacedWord) (b : Bool) → IsWholeSaid (cond b (Some (Nothing (word ∷ words))) (option_map (λ p. Say word p) (order_of_words plain_verbs words)))
whole_loud word words true = tt
whole_loud word words false = whole_order word words

whole_said : (words : List PlacedWord) → IsWholeSaid (said_of plain_verbs words)
whole_said [] = tt
whole_said (word ∷ words) = whole_loud word words (is_comment word.text)

whole_read : (word : PlacedWord) (r : Result Statement LineFault) → IsWholeRead ((r >>= λ s. Ok (orders.Whole s)) >>= λ o. Ok (lines.Say word.text o))
whole_read word (Ok statement) = tt
whole_read word (Err fault) = tt

whole_judged : (schema : Schema) (len : ℕ) (stop : Option ℕ) (said : Option (SaidLine PlacedWord)) → IsWholeSaid said → IsWholeRead (line_judged schema len stop said)
whole_judged schema len (Some at) said h = tt
whole_judged schema len None None h = tt
whole_judged schema len None (Some (Nothing words)) h = tt
whole_judged schema len None (Some (Say word (Whole statement))) h = whole_read word (statement_said schema len statement)
whole_judged schema len None (Some (Say word (Start statement))) h = absurd h
whole_judged schema len None (Some (Say word Step)) h = absurd h
whole_judged schema len None (Some (Say word Finish)) h = absurd h

whole_within : (schema : Schema) (line : List ℕ) (b : Bool) → IsWholeRead (line_within b plain_verbs schema line)
whole_within schema line true = tt
whole_within schema line false = whole_judged schema (length line) (stop_of plain_verbs (length line) (words_of line)) (said_of plain_verbs (words_of line)) (whole_said (words_of line))

whole_in : (schema : Schema) (line : List ℕ) → IsWholeRead (line_in plain_verbs schema line)
unfolding line_in
whole_in schema line = whole_within schema line (nat_lt MAX_LINE (length line))

back : (r : Result Line LineFault) → IsWholeRead r → made_of line_of_plain (made_of plain_of r) ≡ r
back (Err fault) h = refl
back (Ok lines.Nothing) h = refl
back (Ok (lines.Say session (orders.Whole statement))) h = refl
back (Ok (lines.Say session (orders.Start statement))) h = absurd h
back (Ok (lines.Say session orders.Step)) h = absurd h
back (Ok (lines.Say session orders.Finish)) h = absurd h

pub all_orders_are_whole : (schema : Schema) (line : List ℕ) → made_of line_of_plain (plain_line_of schema line) ≡ line_in plain_verbs schema line
all_orders_are_whole schema line = back (line_in plain_verbs schema line) (whole_in schema line)

pub others_are_the_same : (schema : Schema) (line : List ℕ) → ((session verb : PlacedWord) → BeginsWithStep line session verb → ⊥)
    → made_of line_of_plain (plain_line_of schema line) ≡ line_of schema line
others_are_the_same schema line without = all_orders_are_whole schema line ∙ same_lines schema line without

-- ---- whole statements are plain lines

abbrev IsStepSaid : Option (SaidLine PlacedWord) → Type 0
IsStepSaid None = Unit {0}
IsStepSaid (Some (Nothing words)) = ⊥
IsStepSaid (Some (Say word (Whole statement))) = ⊥
IsStepSaid (Some (Say word order)) = Unit {0}

abbrev IsStepRead : Result Line LineFault → Type 0
IsStepRead (Err fault) = Unit {0}
IsStepRead (Ok lines.Nothing) = ⊥
IsStepRead (Ok (lines.Say session (orders.Whole statement))) = ⊥
IsStepRead (Ok (lines.Say session order)) = Unit {0}

step_read : (word : PlacedWord) (r : Result Statement LineFault) → IsStepRead ((r >>= λ s. Ok (orders.Start s)) >>= λ o. Ok (lines.Say word.text o))
step_read word (Ok statement) = tt
step_read word (Err fault) = tt

step_judged : (schema : Schema) (len : ℕ) (stop : Option ℕ) (said : Option (SaidLine PlacedWord)) → IsStepSaid said → IsStepRead (line_judged schema len stop said)
step_judged schema len (Some at) said h = tt
step_judged schema len None None h = tt
step_judged schema len None (Some (Nothing words)) h = absurd h
step_judged schema len None (Some (Say word (Whole statement))) h = absurd h
step_judged schema len None (Some (Say word (Start statement))) h = step_read word (statement_said schema len statement)
step_judged schema len None (Some (Say word Step)) h = tt
step_judged schema len None (Some (Say word Finish)) h = tt

started_if : (word : PlacedWord) (o : Option (SaidStatement PlacedWord)) → IsStepSaid (option_map (λ p. Say word p) (option_map Start o))
started_if word None = tt
started_if word (Some statement) = tt

step_by_word : (schema : Schema) (len : ℕ) (session verb : PlacedWord) (rest : List PlacedWord) → (verb.text ≡ codes "start") ⊎ ((verb.text ≡ codes "step") ⊎ (verb.text ≡ codes "finish"))
    → IsStepRead (judged_by answered schema len session verb rest (verb_of answered verb.text))
step_by_word schema len session verb rest (inl e) =
    subst (λ (o : Option Verb). IsStepRead (judged_by answered schema len session verb rest o)) (sym (ap (verb_of answered) e))
    (step_judged schema len (stop_from answered len expected.Statement rest) (option_map (λ p. Say session p) (option_map Start (statement_of_words answered rest)))
    (started_if session (statement_of_words answered rest)))
step_by_word schema len session verb rest (inr (inl e)) =
    subst (λ (o : Option Verb). IsStepRead (judged_by answered schema len session verb rest o)) (sym (ap (verb_of answered) e))
    (step_judged schema len (stop_from answered len expected.End rest) (Some (Say session Step)) tt)
step_by_word schema len session verb rest (inr (inr e)) =
    subst (λ (o : Option Verb). IsStepRead (judged_by answered schema len session verb rest o)) (sym (ap (verb_of answered) e))
    (step_judged schema len (stop_from answered len expected.End rest) (Some (Say session Finish)) tt)

no_step_is_plain : (said : PlainLine) → IsStepRead (Ok (line_of_plain said)) → ⊥
no_step_is_plain plain.Nothing h = h
no_step_is_plain (plain.Say session statement) h = h

-- a line either begins with one of the three, or not
abbrev Decided : List ℕ → Type 0
Decided line = ((session : PlacedWord) × ((verb : PlacedWord) × BeginsWithStep line session verb)) ⊎ ((session verb : PlacedWord) → BeginsWithStep line session verb → ⊥)

decided_verb : (line : List ℕ) (session verb : PlacedWord) (rest : List PlacedWord) → words_of line ≡ session ∷ verb ∷ rest → length line ≤ MAX_LINE → is_name session.text ≡ true
    → (b : Bool) → is_step_word verb.text ≡ b → Decided line
decided_verb line session verb rest words short name true steps = inl (session, (verb, record { short = short; rest = rest; words = words; named = name; steps = steps }))
decided_verb line session verb rest words short name false steps =
    inr
    (λ one other s.
    let e : session ∷ verb ∷ rest ≡ one ∷ other ∷ s.rest = sym words ∙ s.words in
    let same : verb ≡ other = cc in
    false≢true (sym steps ∙ ap (λ (w : PlacedWord). is_step_word w.text) same ∙ s.steps))

decided_name : (line : List ℕ) (session verb : PlacedWord) (rest : List PlacedWord) → words_of line ≡ session ∷ verb ∷ rest → length line ≤ MAX_LINE
    → (b : Bool) → is_name session.text ≡ b → Decided line
decided_name line session verb rest words short true name = decided_verb line session verb rest words short name (is_step_word verb.text) refl
decided_name line session verb rest words short false name =
    inr
    (λ one other s.
    let e : session ∷ verb ∷ rest ≡ one ∷ other ∷ s.rest = sym words ∙ s.words in
    let same : session ≡ one = cc in
    false≢true (sym name ∙ ap (λ (w : PlacedWord). is_name w.text) same ∙ s.named))

decided_words : (line : List ℕ) (words : List PlacedWord) → words_of line ≡ words → length line ≤ MAX_LINE → Decided line
decided_words line [] words short = inr (λ one other s. let e : [] ≡ one ∷ other ∷ s.rest = sym words ∙ s.words in cc)
decided_words line (word ∷ []) words short = inr (λ one other s. let e : word ∷ [] ≡ one ∷ other ∷ s.rest = sym words ∙ s.words in cc)
decided_words line (session ∷ verb ∷ rest) words short = decided_name line session verb rest words short (is_name session.text) refl

decided : (line : List ℕ) (b : Bool) → nat_lt MAX_LINE (length line) ≡ b → Decided line
decided line true e = inr (λ one other s. absurd (omega (arith, ltb-true MAX_LINE (length line) e, s.short)))
decided line false e = decided_words line (words_of line) refl (ltb-false MAX_LINE (length line) e)

-- what is made of a plain line leads back to it
there_and_back : (r : Result PlainLine LineFault) → made_of plain_of (made_of line_of_plain r) ≡ r
there_and_back (Err fault) = refl
there_and_back (Ok plain.Nothing) = refl
there_and_back (Ok (plain.Say session statement)) = refl

pub plain_lines_are_lines : (schema : Schema) (line : List ℕ) (said : PlainLine) → line_of schema line ≡ Ok (line_of_plain said) → plain_line_of schema line ≡ Ok said
plain_lines_are_lines schema line said e = at (decided line (nat_lt MAX_LINE (length line)) refl)
  where
    at : Decided line → plain_line_of schema line ≡ Ok said
    at (inl (session, (verb, s))) =
        absurd
        (no_step_is_plain said
        (subst IsStepRead (sym (judged_by_step answered schema line session verb s) ∙ e) (step_by_word schema (length line) session verb s.rest (step_words verb.text s.steps))))
    at (inr without) =
        sym (there_and_back (plain_line_of schema line)) ∙ ap (λ (r : Result Line LineFault). made_of plain_of r) (others_are_the_same schema line without ∙ e) ∙ there_and_back (Ok said)
