-- Lines against the grammar: what is read, what says nothing, and where the others stop.
use Rattle.std.proofs.Common.{◌≡◌, ℕ, ◌+◌, ◌<◌, ◌≤◌, nat_le, Bool, true, false, ◌&&◌, ◌==◌, List, [], ◌∷◌, ◌++◌, length, take, map, Option, None, Some, Result, Ok, Err, refl, sym, ap, ◌∙◌, subst, cond, add-one}
use Rattle.std.specs.Option.{option_map}
use Rattle.std.specs.List.{list_all, slice_get}
use Rattle.std.proofs.lemmas.Bool.{le-ltb, false≢true, and_parts}
use Rattle.std.proofs.lemmas.Bool.Decides.{eqb_tells}
use Rattle.std.proofs.Common.{inl, inr}
use Rattle.block_model.specs.Names.{is_name, is_lower, is_more}
use Rattle.block_model.specs.declared.schema.Schema.{Schema}
use Rattle.value_text.specs.ValueOf.{ValueOfIsDenoted}
use Rattle.query_words.specs.declared.verb.Verb.{Verb}
use Rattle.query_words.specs.Words.{PlacedWord, placed, words_of, texts_of, place_or}
use Rattle.query_words.specs.declared.line_length.TheConstants.{MAX_LINE}
use Rattle.query_words.specs.declared.syntax.Expected.TheVariants as expected
use Rattle.query_words.specs.declared.line.Line.{Line}
use Rattle.query_words.specs.declared.line.LineFault.{LineFault}
use Rattle.query_words.specs.declared.line.LineFault.TheVariants as faults
use Rattle.query_words.specs.Grammar.{SaidOrder, SaidLine, Nothing, Say, words_of_order, words_of_said, is_comment, IsSilent, IsSaid, order_texts, said_texts}
use Rattle.query_words.specs.Syntax.{stop_from, stop_of}
use Rattle.query_words.specs.Parsed.{order_of_words, said_of}
use Rattle.query_words.specs.Lines.{line_said, line_judged, line_of_words, line_within, line_in}
use Rattle.query_words.specs.LineLaws.{Spells, BeginsLine, LineStopsAt, HasStatements, GrammarIsRead, ReadIsGrammar, FaultIsStop}
use Rattle.query_words.proofs.Accepting.{accepts, passed, stops_nowhere, accepted_stops_nowhere}
use Rattle.query_words.proofs.Soundness.{IsOrder, sound}
use Rattle.query_words.proofs.Completeness.{line_accepted}
use Rattle.query_words.proofs.Parsing.{begins, order_read}
use Rattle.query_words.proofs.Stopping.{Stops, stops_at}
use Rattle.query_words.proofs.ReadLemmas.{IsResolved, line_resolved}

-- a line within the limit is what its words say
pub within_limit : (language : List Verb) → (schema : Schema) (line : List ℕ) → length line ≤ MAX_LINE → line_in language schema line ≡ line_of_words language schema (length line) (words_of line)
unfolding line_in
within_limit language schema line h = ap (λ b. line_within b language schema line) (le-ltb MAX_LINE (length line) h)

hash_is_no_letter : (c : ℕ) → is_lower c ≡ true → (c == 35) ≡ false
hash_is_no_letter c h = elim (eqb_tells c 35) as (λ _. (c == 35) ≡ false) [ inl here ↦ (let e : is_lower 35 ≡ true = sym (ap is_lower here.1) ∙ h in cc) | inr there ↦ there.0 ]

-- a name is no comment
pub name_says : (name : List ℕ) → is_name name ≡ true → is_comment name ≡ false
name_says [] h = cc
name_says (c ∷ cs) h =
    hash_is_no_letter c (and_parts (is_lower c) (nat_le (length cs) 15) (and_parts (is_lower c && nat_le (length cs) 15) (list_all is_more cs) h).0).0

-- words that stop nowhere, and what they say
pub record IsUnstopped (language : List Verb) (words : List PlacedWord) : Type 0 where
  pub said : SaidLine PlacedWord
  pub parsed : said_of language words ≡ Some said
  pub is_said : IsSaid language (said_texts said)
  pub texts : texts_of words ≡ words_of_said (said_texts said)

silent_words : (language : List Verb) → (word : PlacedWord) (words : List PlacedWord) → is_comment word.text ≡ true → IsUnstopped language (word ∷ words)
silent_words language word words h = record {
  said = Nothing (word ∷ words);
  parsed = ap (λ b. cond b (Some (Nothing (word ∷ words))) (option_map (λ o. Say word o) (order_of_words language words))) h;
  is_said = h;
  texts = refl;
}

saying_words : (language : List Verb) → (word : PlacedWord) (words : List PlacedWord) → is_comment word.text ≡ false → is_name word.text ≡ true → IsOrder language words → IsUnstopped language (word ∷ words)
saying_words language word words h named s = record {
  said = Say word s.order;
  parsed = ap (λ b. cond b (Some (Nothing (word ∷ words))) (option_map (λ o. Say word o) (order_of_words language words))) h ∙ ap (λ o. option_map (λ r. Say word r) o) s.parsed;
  is_said = (named, s.is_said);
  texts = ap (λ (ts : List (List ℕ)). word.text ∷ ts) s.texts;
}

by_comment : (language : List Verb) → ValueOfIsDenoted → (len : ℕ) (word : PlacedWord) (words : List PlacedWord) (b : Bool) → is_comment word.text ≡ b
    → cond b None (stop_from language len expected.Session (word ∷ words)) ≡ None → IsUnstopped language (word ∷ words)
by_comment language law len word words true e h = silent_words language word words e
by_comment language law len word words false e h =
    let a : accepts language expected.Session (texts_of (word ∷ words)) ≡ true = stops_nowhere language len expected.Session (word ∷ words) h in
    let p = passed (is_name word.text) expected.Verb (λ next. accepts language next (texts_of words)) a in
    saying_words language word words e p.0 (sound language law expected.Verb words p.1)

pub unstopped : (language : List Verb) → ValueOfIsDenoted → (len : ℕ) (words : List PlacedWord) → stop_of language len words ≡ None → IsUnstopped language words
unstopped language law len [] h = record { said = Nothing []; parsed = refl; is_said = tt; texts = refl }
unstopped language law len (word ∷ words) h = by_comment language law len word words (is_comment word.text) refl h

-- what is said of words that a line of the grammar has
record IsOfGrammar (language : List Verb) (schema : Schema) (len : ℕ) (words : List PlacedWord) (said : SaidLine (List ℕ)) : Type 0 where
  placed_said : SaidLine PlacedWord
  parsed : said_of language words ≡ Some placed_said
  said_is : said_texts placed_said ≡ said
  read : line_of_words language schema len words ≡ line_said schema len placed_said

silent_read : (language : List Verb) → (schema : Schema) (len : ℕ) (words : List PlacedWord) (texts : List (List ℕ)) → IsSilent texts → texts_of words ≡ texts → IsOfGrammar language schema len words (Nothing texts)
silent_read language schema len [] texts is e = record { placed_said = Nothing []; parsed = refl; said_is = ap (λ (ts : List (List ℕ)). Nothing ts) e; read = refl }
silent_read language schema len (word ∷ words) texts is e =
    let comment : is_comment word.text ≡ true = subst IsSilent (sym e) is in
    let parsed : said_of language (word ∷ words) ≡ Some (Nothing (word ∷ words)) = ap (λ b. cond b (Some (Nothing (word ∷ words))) (option_map (λ o. Say word o) (order_of_words language words))) comment in
    record {
      placed_said = Nothing (word ∷ words);
      parsed = parsed;
      said_is = ap (λ (ts : List (List ℕ)). Nothing ts) e;
      read = ap (λ b. line_judged schema len (cond b None (stop_from language len expected.Session (word ∷ words))) (said_of language (word ∷ words))) comment
          ∙ ap (line_judged schema len None) parsed;
    }

said_read : (language : List Verb) → ValueOfIsDenoted → (schema : Schema) (len : ℕ) (words : List PlacedWord) (session : List ℕ) (said : SaidOrder (List ℕ)) → IsSaid language (Say session said)
    → texts_of words ≡ session ∷ words_of_order said → IsOfGrammar language schema len words (Say session said)
said_read language law schema len words session said is e =
    let b = begins words session (words_of_order said) e in
    let r = order_read language said b.behind is.1 b.rest_is in
    let whole : List PlacedWord = b.first ∷ b.behind in
    let texts : texts_of whole ≡ session ∷ words_of_order said = ap texts_of (sym b.is) ∙ e in
    let loud : is_comment b.first.text ≡ false = ap is_comment b.text_is ∙ name_says session is.0 in
    let accepted : accepts language expected.Session (texts_of whole) ≡ true = ap (accepts language expected.Session) texts ∙ line_accepted language law session said is.0 is.1 in
    let parsed : said_of language whole ≡ Some (Say b.first r.order) =
    ap (λ c. cond c (Some (Nothing whole)) (option_map (λ o. Say b.first o) (order_of_words language b.behind))) loud ∙ ap (λ o. option_map (λ x. Say b.first x) o) r.parsed in
    let going_on : stop_of language len whole ≡ None =
    ap (λ c. cond c None (stop_from language len expected.Session whole)) loud ∙ accepted_stops_nowhere language len expected.Session whole accepted in
    record {
      placed_said = Say b.first r.order;
      parsed = ap (said_of language) b.is ∙ parsed;
      said_is = ap (λ (t : List ℕ). Say t (order_texts r.order)) b.text_is ∙ ap (λ (s : SaidOrder (List ℕ)). Say session s) r.said_is;
      read = ap (line_of_words language schema len) b.is ∙ ap (λ o. line_judged schema len o (said_of language whole)) going_on ∙ ap (line_judged schema len None) parsed;
    }

of_grammar : (language : List Verb) → ValueOfIsDenoted → (schema : Schema) (len : ℕ) (words : List PlacedWord) (said : SaidLine (List ℕ)) → IsSaid language said → texts_of words ≡ words_of_said said → IsOfGrammar language schema len words said
of_grammar language law schema len words (Nothing texts) is e = silent_read language schema len words texts is e
of_grammar language law schema len words (Say session said) is e = said_read language law schema len words session said is e

pub grammar_read : ValueOfIsDenoted → GrammarIsRead
grammar_read law language schema line said short spells =
    let g = of_grammar language law schema (length line) (words_of line) said spells.0 spells.1 in
    (g.placed_said, g.parsed, g.said_is, within_limit language schema line short ∙ g.read)

read_cases : (language : List Verb) → ValueOfIsDenoted → (schema : Schema) (line : List ℕ) (read : Line) (o : Option ℕ) → stop_of language (length line) (words_of line) ≡ o
    → line_judged schema (length line) o (said_of language (words_of line)) ≡ Ok read → (said : SaidLine (List ℕ)) × Spells language line said
read_cases language law schema line read (Some at) stop h = cc
read_cases language law schema line read None stop h =
    let u = unstopped language law (length line) (words_of line) stop in (said_texts u.said, (u.is_said, u.texts))

limit_cases : (language : List Verb) → ValueOfIsDenoted → (schema : Schema) (line : List ℕ) (read : Line) (b : Bool) → line_within b language schema line ≡ Ok read → (said : SaidLine (List ℕ)) × Spells language line said
limit_cases language law schema line read true h = cc
limit_cases language law schema line read false h = read_cases language law schema line read (stop_of language (length line) (words_of line)) refl h

pub read_grammar : ValueOfIsDenoted → ReadIsGrammar
unfolding line_in
read_grammar law language schema line read h = limit_cases language law schema line read _ h

-- words at no place
nowhere : List (List ℕ) → List PlacedWord
nowhere texts = map (λ t. placed t 0) texts

texts_of_nowhere : (texts : List (List ℕ)) → texts_of (nowhere texts) ≡ texts
unfolding nowhere
texts_of_nowhere [] = refl
texts_of_nowhere (t ∷ ts) = ap (λ (l : List (List ℕ)). t ∷ l) (texts_of_nowhere ts)

-- what is accepted is a line
accepted_line : (language : List Verb) → ValueOfIsDenoted → (texts : List (List ℕ)) → accepts language expected.Session texts ≡ true → (said : SaidLine (List ℕ)) × IsSaid language said × (words_of_said said ≡ texts)
accepted_line language law [] h = cc
accepted_line language law (t ∷ ts) h =
    let p = passed (is_name t) expected.Verb (λ next. accepts language next ts) h in
    let s : IsOrder language (nowhere ts) = sound language law expected.Verb (nowhere ts) (ap (accepts language expected.Verb) (texts_of_nowhere ts) ∙ p.1) in
    (Say t (order_texts s.order), (p.0, s.is_said), ap (λ (l : List (List ℕ)). t ∷ l) (sym s.texts ∙ texts_of_nowhere ts))

begins_line : (language : List Verb) → ValueOfIsDenoted → (front ending : List (List ℕ)) → accepts language expected.Session (front ++ ending) ≡ true → BeginsLine language front
begins_line language law front ending h = let l = accepted_line language law (front ++ ending) h in (l.0, (ending, l.1, l.2))

no_comment : (b : Bool) → b ≡ true → b ≡ false → ⊥
no_comment b h k = false≢true (sym k ∙ h)

-- a line whose first word is no comment says something
line_is_accepted : (language : List Verb) → ValueOfIsDenoted → (text : List ℕ) (texts : List (List ℕ)) (said : SaidLine (List ℕ)) → is_comment text ≡ false → IsSaid language said → words_of_said said ≡ text ∷ texts
    → accepts language expected.Session (text ∷ texts) ≡ true
line_is_accepted language law text texts (Nothing words) loud is e =
    let comment : is_comment text ≡ true = subst IsSilent e is in absurd (no_comment (is_comment text) comment loud)
line_is_accepted language law text texts (Say session said) loud is e = sym (ap (accepts language expected.Session) e) ∙ line_accepted language law session said is.0 is.1

stops_record : (language : List Verb) → ValueOfIsDenoted → HasStatements language → (line : List ℕ) (at : ℕ) (word : PlacedWord) (words : List PlacedWord) → words_of line ≡ word ∷ words → is_comment word.text ≡ false
    → Stops language (length line) expected.Session (word ∷ words) at → LineStopsAt language line at
stops_record language law has line at word words is loud s =
    let n : ℕ = s.number in
    let texts : List (List ℕ) = texts_of words in
    let front : take (n + 1) (word.text ∷ texts) ≡ word.text ∷ take n texts = ap (λ (k : ℕ). take k (word.text ∷ texts)) (add-one n) in
    record {
      refused = λ said spells. s.refused (line_is_accepted language law word.text texts said loud spells.0 (sym spells.1 ∙ ap texts_of is));
      number = n;
      place = s.place ∙ ap (λ (ws : List PlacedWord). place_or (length line) (slice_get ws n)) (sym is);
      within = subst (λ (ws : List PlacedWord). n ≤ length ws) (sym is) s.within;
      goes_on = subst (λ (ws : List PlacedWord). BeginsLine language (take n (texts_of ws))) (sym is) (begins_line language law (take n (word.text ∷ texts)) s.ending s.goes_on);
      stops = subst (λ (ws : List PlacedWord). n < length ws → BeginsLine language (take (n + 1) (texts_of ws)) → ⊥) (sym is) (λ low b.
          s.stops low b.1.0 (ap (λ (l : List (List ℕ)). accepts language expected.Session (l ++ b.1.0)) front
          ∙ line_is_accepted language law word.text (take n texts ++ b.1.0) b.0 loud b.1.1 (b.1.2 ∙ ap (λ (l : List (List ℕ)). l ++ b.1.0) front)));
    }

stop_cases : (language : List Verb) → ValueOfIsDenoted → HasStatements language → (line : List ℕ) (at : ℕ) (word : PlacedWord) (words : List PlacedWord) (b : Bool) → words_of line ≡ word ∷ words → is_comment word.text ≡ b
    → cond b None (stop_from language (length line) expected.Session (word ∷ words)) ≡ Some at → LineStopsAt language line at
stop_cases language law has line at word words true is comment h = cc
stop_cases language law has line at word words false is loud h =
    stops_record language law has line at word words is loud (stops_at language law has (length line) expected.Session (word ∷ words) at h)

stop_words : (language : List Verb) → ValueOfIsDenoted → HasStatements language → (line : List ℕ) (at : ℕ) (words : List PlacedWord) → words_of line ≡ words → stop_of language (length line) words ≡ Some at → LineStopsAt language line at
stop_words language law has line at [] is h = cc
stop_words language law has line at (word ∷ words) is h = stop_cases language law has line at word words (is_comment word.text) is refl h

no_fault : (schema : Schema) (len at : ℕ) (said : SaidLine PlacedWord) → line_said schema len said ≡ Err (faults.Syntax at) → ⊥
no_fault schema len at said h = subst (λ (r : Result Line LineFault). IsResolved r) h (line_resolved schema len said)

fault_cases : (language : List Verb) → ValueOfIsDenoted → HasStatements language → (schema : Schema) (line : List ℕ) (at : ℕ) (o : Option ℕ) → stop_of language (length line) (words_of line) ≡ o
    → line_judged schema (length line) o (said_of language (words_of line)) ≡ Err (faults.Syntax at) → LineStopsAt language line at
fault_cases language law has schema line at (Some place) stop h =
    let same : place ≡ at = cc in stop_words language law has line at (words_of line) refl (stop ∙ ap Some same)
fault_cases language law has schema line at None stop h =
    let u = unstopped language law (length line) (words_of line) stop in
    absurd (no_fault schema (length line) at u.said (sym (ap (line_judged schema (length line) None) u.parsed) ∙ h))

pub fault_stop : ValueOfIsDenoted → FaultIsStop
fault_stop law language schema line at has short h =
    fault_cases language law has schema line at (stop_of language (length line) (words_of line)) refl (sym (within_limit language schema line short) ∙ h)
