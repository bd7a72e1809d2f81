-- Words of the grammar are read as what they say.
use Rattle.std.proofs.Common.{◌≡◌, ℕ, Bool, true, false, List, [], ◌∷◌, ◌++◌, map, codes, Option, None, Some, refl, ap, ◌∙◌, cond}
use Rattle.std.specs.Option.{option_map, option_and_then}
use Rattle.std.specs.Str.{bytes_eq}
use Rattle.query_words.specs.declared.verb.Verb.{Verb}
use Rattle.query_words.specs.declared.verb.Verb.TheVariants as verbs
use Rattle.query_words.specs.Words.{PlacedWord, texts_of}
use Rattle.query_words.specs.Verbs.{verb_text, has_verb, verb_of}
use Rattle.query_words.specs.Grammar.{SaidCond, Compared, Null, NotNull, SaidStatement, Begin, Commit, Rollback, Insert, Select, Delete, Explain, Summarize, Desummarize, Vacuum, Work, SaidOrder, Whole, Start, Step, Finish, verb_said, words_behind, words_of_cond, words_of_more, words_of_conds, words_of_statement, words_of_order}
use Rattle.query_words.specs.Grammar.{IsSaidCond, AreSaidConds, HasSaidParts, IsSaidOrder, cond_texts, statement_texts, order_texts}
use Rattle.query_words.specs.Parsed.{conds_behind, conds_from, statement_behind, statement_of_words, order_behind, order_of_words}
use Rattle.query_words.proofs.Completeness.{is_other, verb_back}

-- the first word and those behind it
pub record Begins (words : List PlacedWord) (text : List ℕ) (rest : List (List ℕ)) : Type 0 where
  pub first : PlacedWord
  pub behind : List PlacedWord
  pub is : words ≡ first ∷ behind
  pub text_is : first.text ≡ text
  pub rest_is : texts_of behind ≡ rest

pub begins : (words : List PlacedWord) (text : List ℕ) (rest : List (List ℕ)) → texts_of words ≡ text ∷ rest → Begins words text rest
begins [] text rest e = cc
begins (word ∷ words) text rest e =
    let t : word.text ≡ text = cc in let r : texts_of words ≡ rest = cc in record { first = word; behind = words; is = refl; text_is = t; rest_is = r }

-- the condition behind the word in front of it, and what is read of the words behind it
record IsRead (joint : PlacedWord) (words : List PlacedWord) (said : SaidCond (List ℕ)) (rest : List (List ℕ)) : Type 0 where
  first : SaidCond PlacedWord
  behind : List PlacedWord
  parsed : conds_from (joint ∷ []) words ≡ first ∷ conds_from [] behind
  said_is : cond_texts first ≡ said
  rest_is : texts_of behind ≡ rest

compared_parsed : (joint column op value : PlacedWord) (words : List PlacedWord) → bytes_eq op.text (codes "is") ≡ false
    → conds_from (joint ∷ []) (column ∷ op ∷ value ∷ words) ≡ Compared column op value ∷ conds_from [] words
compared_parsed joint column op value words h =
    ap (λ (b : Bool). conds_behind (cond b (cond (bytes_eq value.text (codes "not")) None (Some (Null column))) (Some (Compared column op value))) (conds_from (joint ∷ column ∷ op ∷ value ∷ []) words) (conds_from [] words)) h

null_parsed : (joint column is null : PlacedWord) (words : List PlacedWord) → is.text ≡ codes "is" → null.text ≡ codes "null"
    → conds_from (joint ∷ []) (column ∷ is ∷ null ∷ words) ≡ Null column ∷ conds_from [] words
null_parsed joint column is null words a b =
    ap (λ (t : List ℕ). conds_behind (cond (bytes_eq t (codes "is")) (cond (bytes_eq null.text (codes "not")) None (Some (Null column))) (Some (Compared column is null))) (conds_from (joint ∷ column ∷ is ∷ null ∷ []) words) (conds_from [] words)) a
    ∙ ap (λ (t : List ℕ). conds_behind (cond (bytes_eq t (codes "not")) None (Some (Null column))) (conds_from (joint ∷ column ∷ is ∷ null ∷ []) words) (conds_from [] words)) b

not_null_parsed : (joint column is not null : PlacedWord) (words : List PlacedWord) → is.text ≡ codes "is" → not.text ≡ codes "not"
    → conds_from (joint ∷ []) (column ∷ is ∷ not ∷ null ∷ words) ≡ NotNull column ∷ conds_from [] words
not_null_parsed joint column is not null words a b =
    ap (λ (t : List ℕ). conds_behind (cond (bytes_eq t (codes "is")) (cond (bytes_eq not.text (codes "not")) None (Some (Null column))) (Some (Compared column is not))) (conds_from (joint ∷ column ∷ is ∷ not ∷ []) (null ∷ words)) (conds_from [] (null ∷ words))) a
    ∙ ap (λ (t : List ℕ). conds_behind (cond (bytes_eq t (codes "not")) None (Some (Null column))) (conds_from (joint ∷ column ∷ is ∷ not ∷ []) (null ∷ words)) (conds_from [] (null ∷ words))) b

cond_read : (joint : PlacedWord) (said : SaidCond (List ℕ)) (words : List PlacedWord) (rest : List (List ℕ)) → IsSaidCond said
    → texts_of words ≡ words_of_cond said ++ rest → IsRead joint words said rest
cond_read joint (Compared column op value) words rest is e =
    let a = begins words column (op ∷ value ∷ rest) e in
    let b = begins a.behind op (value ∷ rest) a.rest_is in
    let d = begins b.behind value rest b.rest_is in
    let shape : words ≡ a.first ∷ b.first ∷ d.first ∷ d.behind = a.is ∙ ap (λ (l : List PlacedWord). a.first ∷ l) (b.is ∙ ap (λ (l : List PlacedWord). b.first ∷ l) d.is) in
    record {
      first = Compared a.first b.first d.first;
      behind = d.behind;
      parsed = ap (conds_from (joint ∷ [])) shape ∙ compared_parsed joint a.first b.first d.first d.behind (ap (λ (t : List ℕ). bytes_eq t (codes "is")) b.text_is ∙ is_other op is.1);
      said_is = ap (λ (t : List ℕ). Compared t b.first.text d.first.text) a.text_is ∙ ap (λ (t : List ℕ). Compared column t d.first.text) b.text_is ∙ ap (λ (t : List ℕ). Compared column op t) d.text_is;
      rest_is = d.rest_is;
    }
cond_read joint (Null column) words rest is e =
    let a = begins words column (codes "is" ∷ codes "null" ∷ rest) e in
    let b = begins a.behind (codes "is") (codes "null" ∷ rest) a.rest_is in
    let d = begins b.behind (codes "null") rest b.rest_is in
    let shape : words ≡ a.first ∷ b.first ∷ d.first ∷ d.behind = a.is ∙ ap (λ (l : List PlacedWord). a.first ∷ l) (b.is ∙ ap (λ (l : List PlacedWord). b.first ∷ l) d.is) in
    record {
      first = Null a.first;
      behind = d.behind;
      parsed = ap (conds_from (joint ∷ [])) shape ∙ null_parsed joint a.first b.first d.first d.behind b.text_is d.text_is;
      said_is = ap (λ (t : List ℕ). Null t) a.text_is;
      rest_is = d.rest_is;
    }
cond_read joint (NotNull column) words rest is e =
    let a = begins words column (codes "is" ∷ codes "not" ∷ codes "null" ∷ rest) e in
    let b = begins a.behind (codes "is") (codes "not" ∷ codes "null" ∷ rest) a.rest_is in
    let d = begins b.behind (codes "not") (codes "null" ∷ rest) b.rest_is in
    let f = begins d.behind (codes "null") rest d.rest_is in
    let shape : words ≡ a.first ∷ b.first ∷ d.first ∷ f.first ∷ f.behind =
    a.is ∙ ap (λ (l : List PlacedWord). a.first ∷ l) (b.is ∙ ap (λ (l : List PlacedWord). b.first ∷ l) (d.is ∙ ap (λ (l : List PlacedWord). d.first ∷ l) f.is)) in
    record {
      first = NotNull a.first;
      behind = f.behind;
      parsed = ap (conds_from (joint ∷ [])) shape ∙ not_null_parsed joint a.first b.first d.first f.first f.behind b.text_is d.text_is;
      said_is = ap (λ (t : List ℕ). NotNull t) a.text_is;
      rest_is = f.rest_is;
    }

two_parts : {A : Type 0} (a b : A) (xs ys : List A) → a ≡ b → xs ≡ ys → a ∷ xs ≡ b ∷ ys
two_parts a b xs ys e f = cc

more_read : (conds : List (SaidCond (List ℕ))) (words : List PlacedWord) → AreSaidConds conds → texts_of words ≡ words_of_more conds
    → map cond_texts (conds_from [] words) ≡ conds
more_read [] [] are e = refl
more_read [] (word ∷ words) are e = cc
more_read (said ∷ conds) words are e =
    let a = begins words (codes "and") (words_of_cond said ++ words_of_more conds) e in
    let r = cond_read a.first said a.behind (words_of_more conds) are.0 a.rest_is in
    ap (λ (l : List PlacedWord). map cond_texts (conds_from [] l)) a.is
    ∙ ap (λ (cs : List (SaidCond PlacedWord)). map cond_texts cs) r.parsed
    ∙ two_parts (cond_texts r.first) said (map cond_texts (conds_from [] r.behind)) conds r.said_is (more_read conds r.behind are.1 r.rest_is)

conds_read : (conds : List (SaidCond (List ℕ))) (words : List PlacedWord) → AreSaidConds conds → texts_of words ≡ words_of_conds conds
    → map cond_texts (conds_from [] words) ≡ conds
conds_read [] [] are e = refl
conds_read [] (word ∷ words) are e = cc
conds_read (said ∷ conds) words are e =
    let a = begins words (codes "where") (words_of_cond said ++ words_of_more conds) e in
    let r = cond_read a.first said a.behind (words_of_more conds) are.0 a.rest_is in
    ap (λ (l : List PlacedWord). map cond_texts (conds_from [] l)) a.is
    ∙ ap (λ (cs : List (SaidCond PlacedWord)). map cond_texts cs) r.parsed
    ∙ two_parts (cond_texts r.first) said (map cond_texts (conds_from [] r.behind)) conds r.said_is (more_read conds r.behind are.1 r.rest_is)

-- what stands behind a verb, with the words for what isn't looked up
record BehindRead (said : SaidStatement (List ℕ)) (words : List PlacedWord) : Type 0 where
  statement : SaidStatement PlacedWord
  parsed : statement_behind (verb_said said) words ≡ Some statement
  said_is : statement_texts statement ≡ said

-- the order that words are read as
pub record OrderRead (language : List Verb) (words : List PlacedWord) (said : SaidOrder (List ℕ)) : Type 0 where
  pub order : SaidOrder PlacedWord
  pub parsed : order_of_words language words ≡ Some order
  pub said_is : order_texts order ≡ said

no_words : (words : List PlacedWord) → texts_of words ≡ [] → words ≡ []
no_words [] e = refl
no_words (word ∷ words) e = cc

behind_read : (said : SaidStatement (List ℕ)) (words : List PlacedWord) → HasSaidParts said → texts_of words ≡ words_behind said → BehindRead said words
behind_read Begin words is e = record { statement = Begin; parsed = refl; said_is = refl }
behind_read Commit words is e = record { statement = Commit; parsed = refl; said_is = refl }
behind_read Rollback words is e = record { statement = Rollback; parsed = refl; said_is = refl }
behind_read Work words is e = record { statement = Work; parsed = refl; said_is = refl }
behind_read (Insert table values) words is e =
    let t = begins words table values e in record {
      statement = Insert t.first t.behind;
      parsed = ap (statement_behind verbs.Insert) t.is;
      said_is = ap (λ (n : List ℕ). Insert n (texts_of t.behind)) t.text_is ∙ ap (λ (vs : List (List ℕ)). Insert table vs) t.rest_is;
    }
behind_read (Select table conds) words is e =
    let t = begins words table (words_of_conds conds) e in record {
      statement = Select t.first (conds_from [] t.behind);
      parsed = ap (statement_behind verbs.Select) t.is;
      said_is = ap (λ (n : List ℕ). Select n (map cond_texts (conds_from [] t.behind))) t.text_is
          ∙ ap (λ (cs : List (SaidCond (List ℕ))). Select table cs) (conds_read conds t.behind is.1 t.rest_is);
    }
behind_read (Delete table conds) words is e =
    let t = begins words table (words_of_conds conds) e in record {
      statement = Delete t.first (conds_from [] t.behind);
      parsed = ap (statement_behind verbs.Delete) t.is;
      said_is = ap (λ (n : List ℕ). Delete n (map cond_texts (conds_from [] t.behind))) t.text_is
          ∙ ap (λ (cs : List (SaidCond (List ℕ))). Delete table cs) (conds_read conds t.behind is.1 t.rest_is);
    }
behind_read (Explain table conds) words is e =
    let t = begins words table (words_of_conds conds) e in record {
      statement = Explain t.first (conds_from [] t.behind);
      parsed = ap (statement_behind verbs.Explain) t.is;
      said_is = ap (λ (n : List ℕ). Explain n (map cond_texts (conds_from [] t.behind))) t.text_is
          ∙ ap (λ (cs : List (SaidCond (List ℕ))). Explain table cs) (conds_read conds t.behind is.1 t.rest_is);
    }
behind_read (Summarize index None) words is e =
    let t = begins words index [] e in
    let none : t.behind ≡ [] = no_words t.behind t.rest_is in record {
      statement = Summarize t.first None;
      parsed = ap (statement_behind verbs.Summarize) (t.is ∙ ap (λ (ws : List PlacedWord). t.first ∷ ws) none);
      said_is = ap (λ (n : List ℕ). Summarize n None) t.text_is;
    }
behind_read (Summarize index (Some block)) words is e =
    let t = begins words index (block ∷ []) e in
    let b = begins t.behind block [] t.rest_is in record {
      statement = Summarize t.first (Some b.first);
      parsed = ap (statement_behind verbs.Summarize) (t.is ∙ ap (λ (ws : List PlacedWord). t.first ∷ ws) b.is);
      said_is = ap (λ (n : List ℕ). Summarize n (Some b.first.text)) t.text_is ∙ ap (λ (n : List ℕ). Summarize index (Some n)) b.text_is;
    }
behind_read (Desummarize index block) words is e =
    let t = begins words index (block ∷ []) e in
    let b = begins t.behind block [] t.rest_is in record {
      statement = Desummarize t.first b.first;
      parsed = ap (statement_behind verbs.Desummarize) (t.is ∙ ap (λ (ws : List PlacedWord). t.first ∷ ws) b.is);
      said_is = ap (λ (n : List ℕ). Desummarize n b.first.text) t.text_is ∙ ap (λ (n : List ℕ). Desummarize index n) b.text_is;
    }
behind_read (Vacuum table) words is e =
    let t = begins words table [] e in record {
      statement = Vacuum t.first;
      parsed = ap (statement_behind verbs.Vacuum) t.is;
      said_is = ap (λ (n : List ℕ). Vacuum n) t.text_is;
    }

-- a statement's verb leads to the statement as a whole
whole_behind : (language : List Verb) (said : SaidStatement (List ℕ)) (words : List PlacedWord)
    → order_behind language (verb_said said) words ≡ option_map Whole (statement_behind (verb_said said) words)
whole_behind language Begin words = refl
whole_behind language Commit words = refl
whole_behind language Rollback words = refl
whole_behind language (Insert table values) words = refl
whole_behind language (Select table conds) words = refl
whole_behind language (Delete table conds) words = refl
whole_behind language (Explain table conds) words = refl
whole_behind language (Summarize index block) words = refl
whole_behind language (Desummarize index block) words = refl
whole_behind language (Vacuum table) words = refl
whole_behind language Work words = refl

-- the first word is the verb
verb_first : (language : List Verb) (words behind : List PlacedWord) (first : PlacedWord) (v : Verb) → words ≡ first ∷ behind → first.text ≡ verb_text v → has_verb language v ≡ true
    → order_of_words language words ≡ order_behind language v behind
verb_first language words behind first v is text has =
    ap (order_of_words language) is ∙ ap (λ (o : Option Verb). option_and_then (λ u. order_behind language u behind) o) (ap (verb_of language) text ∙ verb_back language v has)

pub order_read : (language : List Verb) (said : SaidOrder (List ℕ)) (words : List PlacedWord) → IsSaidOrder language said → texts_of words ≡ words_of_order said → OrderRead language words said
order_read language (Whole said) words is e =
    let b = begins words (verb_text (verb_said said)) (words_behind said) e in
    let r = behind_read said b.behind is.1 b.rest_is in record {
      order = Whole r.statement;
      parsed = verb_first language words b.behind b.first (verb_said said) b.is b.text_is is.0 ∙ whole_behind language said b.behind
          ∙ ap (λ (o : Option (SaidStatement PlacedWord)). option_map Whole o) r.parsed;
      said_is = ap Whole r.said_is;
    }
order_read language (Start said) words is e =
    let b = begins words (verb_text verbs.Start) (words_of_statement said) e in
    let d = begins b.behind (verb_text (verb_said said)) (words_behind said) b.rest_is in
    let r = behind_read said d.behind is.1.1 d.rest_is in
    let inner : statement_of_words language b.behind ≡ Some r.statement =
    ap (statement_of_words language) d.is
    ∙ ap (λ (o : Option Verb). option_and_then (λ u. statement_behind u d.behind) o) (ap (verb_of language) d.text_is ∙ verb_back language (verb_said said) is.1.0)
    ∙ r.parsed in
    record {
      order = Start r.statement;
      parsed = verb_first language words b.behind b.first verbs.Start b.is b.text_is is.0 ∙ ap (λ (o : Option (SaidStatement PlacedWord)). option_map Start o) inner;
      said_is = ap Start r.said_is;
    }
order_read language Step words is e =
    let b = begins words (verb_text verbs.Step) [] e in
    record { order = Step; parsed = verb_first language words b.behind b.first verbs.Step b.is b.text_is is; said_is = refl }
order_read language Finish words is e =
    let b = begins words (verb_text verbs.Finish) [] e in
    record { order = Finish; parsed = verb_first language words b.behind b.first verbs.Finish b.is b.text_is is; said_is = refl }
