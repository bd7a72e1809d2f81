-- Words that are accepted are of the grammar, and what is read of them says so.
use Rattle.std.proofs.Common.{◌≡◌, ℕ, ◌-◌, ◌≤◌, nat_lt, Bool, true, false, ◌&&◌, ◌||◌, List, [], ◌∷◌, ◌++◌, ◌^◌, length, map, codes, Option, None, Some, IfSome, refl, sym, ap, ◌∙◌, subst, cond, arith}
use Rattle.std.proofs.lemmas.List.{length-map}
use Rattle.std.proofs.lemmas.Option.{same_Some, none-some}
use Rattle.std.specs.Option.{is_some, option_map, option_and_then}
use Rattle.std.specs.List.{list_all}
use Rattle.std.specs.Str.{bytes_eq}
use Rattle.std.proofs.lemmas.Bool.{ltb-true, and_parts, or_left, or_right}
use Rattle.block_model.specs.Names.{is_name, is_digit}
use Rattle.block_model.specs.declared.value.Kind.{Kind}
use Rattle.block_model.specs.declared.value.Kind.TheVariants as kinds
use Rattle.block_model.specs.declared.value.Value.{Value}
use Rattle.block_model.specs.declared.value.Op.{Op}
use Rattle.value_text.specs.ValueOf.{value_of, ValueOfIsDenoted}
use Rattle.query_words.specs.declared.verb.Verb.{Verb}
use Rattle.query_words.specs.declared.verb.Verb.TheVariants as verbs
use Rattle.query_words.specs.Words.{PlacedWord, texts_of}
use Rattle.query_words.specs.Operators.{op_of}
use Rattle.query_words.specs.ValueWords.{is_value_word}
use Rattle.query_words.specs.Verbs.{verb_text, has_verb, verb_of}
use Rattle.query_words.specs.Blocks.{IsBlockWord, is_block}
use Rattle.query_words.specs.Written.{first_written}
use Rattle.query_words.specs.declared.syntax.Expected.{Expected}
use Rattle.query_words.specs.declared.syntax.Expected.TheVariants as expected
use Rattle.value_text.specs.Digits.{digits_from}
use Rattle.query_words.specs.Grammar.{SaidCond, Compared, Null, NotNull, SaidStatement, Begin, Commit, Rollback, Insert, Select, Delete, Explain, Summarize, Desummarize, Vacuum, Work, SaidOrder, Whole, Start, Step, Finish, verb_said, words_behind, words_of_cond, words_of_more, words_of_conds, words_of_statement, words_of_order}
use Rattle.block_model.specs.declared.limits.TheConstants.{MAX_CONDITIONS}
use Rattle.query_words.specs.Grammar.{IsNameWord, IsOperatorWord, IsValueWord, AreValueWords, IsSaidCond, AreSaidConds, IsSaidQuery, HasSaidParts, IsSaidStatement, IsSaidOrder, cond_texts, statement_texts, order_texts}
use Rattle.query_words.specs.Syntax.{where_so, after_verb, after_started}
use Rattle.query_words.specs.Parsed.{conds_behind, conds_from, statement_behind, statement_of_words, order_behind, order_of_words}
use Rattle.query_words.proofs.Accepting.{accepts_behind, accepts, passed, same_text, text_same}

-- a condition that has begun with the words so far, of which `front` is its part, and further ones behind it
pub record IsCondBehind (so_far : List PlacedWord) (front : List (List ℕ)) (left : ℕ) (words : List PlacedWord) : Type 0 where
  pub first : SaidCond PlacedWord
  pub more : List (SaidCond PlacedWord)
  pub parsed : conds_from so_far words ≡ first ∷ more
  pub is_cond : IsSaidCond (cond_texts first)
  pub are_conds : AreSaidConds (map cond_texts more)
  pub few : length more ≤ left
  pub texts : front ++ texts_of words ≡ words_of_cond (cond_texts first) ++ words_of_more (map cond_texts more)

-- further conditions
pub record AreMore (left : ℕ) (words : List PlacedWord) : Type 0 where
  pub are_conds : AreSaidConds (map cond_texts (conds_from [] words))
  pub few : length (conds_from [] words) ≤ left
  pub texts : texts_of words ≡ words_of_more (map cond_texts (conds_from [] words))

-- all conditions of a query
pub record AreConds (words : List PlacedWord) : Type 0 where
  pub are_conds : AreSaidConds (map cond_texts (conds_from [] words))
  pub few : length (conds_from [] words) ≤ MAX_CONDITIONS
  pub texts : texts_of words ≡ words_of_conds (map cond_texts (conds_from [] words))

pub record IsQueryBehind (words : List PlacedWord) : Type 0 where
  pub table : PlacedWord
  pub behind : List PlacedWord
  pub is : words ≡ table ∷ behind
  pub named : IsNameWord table.text
  pub conds : AreConds behind

pub record IsInsertBehind (words : List PlacedWord) : Type 0 where
  pub table : PlacedWord
  pub row : List PlacedWord
  pub is : words ≡ table ∷ row
  pub named : IsNameWord table.text
  pub are_values : AreValueWords (texts_of row)

abbrev blocks_in : Option PlacedWord → List PlacedWord
blocks_in None = []
blocks_in (Some block) = block ∷ []

-- the words behind the verb of a statement
pub record IsBehind (v : Verb) (words : List PlacedWord) : Type 0 where
  pub statement : SaidStatement PlacedWord
  pub parsed : statement_behind v words ≡ Some statement
  pub verb : verb_said (statement_texts statement) ≡ v
  pub parts : HasSaidParts (statement_texts statement)
  pub texts : texts_of words ≡ words_behind (statement_texts statement)

pub record IsStatement (language : List Verb) (words : List PlacedWord) : Type 0 where
  pub statement : SaidStatement PlacedWord
  pub parsed : statement_of_words language words ≡ Some statement
  pub is_said : IsSaidStatement language (statement_texts statement)
  pub texts : texts_of words ≡ words_of_statement (statement_texts statement)

pub record IsOrder (language : List Verb) (words : List PlacedWord) : Type 0 where
  pub order : SaidOrder PlacedWord
  pub parsed : order_of_words language words ≡ Some order
  pub is_said : IsSaidOrder language (order_texts order)
  pub texts : texts_of words ≡ words_of_order (order_texts order)

-- nothing, or a block alone
pub record IsBlockBehind (words : List PlacedWord) : Type 0 where
  pub block : Option PlacedWord
  pub is : words ≡ blocks_in block
  pub is_block : IfSome (option_map (λ (b : PlacedWord). b.text) block) IsBlockWord

-- a block alone
pub record IsOneBlock (words : List PlacedWord) : Type 0 where
  pub block : PlacedWord
  pub is : words ≡ block ∷ []
  pub is_block : IsBlockWord block.text

-- what words are that are accepted there
abbrev pub Tail : (language : List Verb) → Expected → List PlacedWord → Type 0
Tail language expected.Session words = Unit {0}
Tail language expected.Verb words = IsOrder language words
Tail language expected.Statement words = IsStatement language words
Tail language expected.End words = words ≡ []
Tail language expected.InsertTable words = IsInsertBehind words
Tail language expected.Values words = AreValueWords (texts_of words)
Tail language expected.QueryTable words = IsQueryBehind words
Tail language expected.Where words = AreConds words
Tail language (expected.And left) words = AreMore left words
Tail language (expected.Column left) words = (joint : PlacedWord) → IsCondBehind (joint ∷ []) [] left words
Tail language (expected.Operator left) words =
    (joint column : PlacedWord) → IsNameWord column.text → IsCondBehind (joint ∷ column ∷ []) (column.text ∷ []) left words
Tail language (expected.Value left) words =
    (joint column op : PlacedWord) → IsNameWord column.text → IsOperatorWord op.text → bytes_eq op.text (codes "is") ≡ false
    → IsCondBehind (joint ∷ column ∷ op ∷ []) (column.text ∷ op.text ∷ []) left words
Tail language (expected.Null left) words =
    (joint column is : PlacedWord) → IsNameWord column.text → bytes_eq is.text (codes "is") ≡ true
    → IsCondBehind (joint ∷ column ∷ is ∷ []) (column.text ∷ is.text ∷ []) left words
Tail language (expected.NotNull left) words =
    (joint column is not : PlacedWord) → IsNameWord column.text → bytes_eq is.text (codes "is") ≡ true → bytes_eq not.text (codes "not") ≡ true
    → IsCondBehind (joint ∷ column ∷ is ∷ not ∷ []) (column.text ∷ is.text ∷ not.text ∷ []) left words
Tail language expected.SummarizedIndex words = IsBehind verbs.Summarize words
Tail language expected.MayHaveBlock words = IsBlockBehind words
Tail language expected.DesummarizedIndex words = IsBehind verbs.Desummarize words
Tail language expected.Block words = IsOneBlock words
Tail language expected.VacuumedTable words = IsBehind verbs.Vacuum words

-- a value of some kind is denoted
some_value : (o : Option Value) → is_some o ≡ true → (value : Value) × (o ≡ Some value)
some_value None h = cc
some_value (Some value) h = (value, refl)

of_kind : ValueOfIsDenoted → (kind : Kind) (word : List ℕ) → is_some (value_of kind word) ≡ true → IsValueWord word
of_kind law kind word h = let s = some_value (value_of kind word) h in (kind, (s.0, (law kind word s.0).0 s.1))

one_of_three : (a b c : Bool) {P : Type 0} → (a ≡ true → P) → (b ≡ true → P) → (c ≡ true → P) → (a || b || c) ≡ true → P
one_of_three true b c x y z h = x refl
one_of_three false true c x y z h = y refl
one_of_three false false c x y z h = z h

pub value_word : ValueOfIsDenoted → (word : List ℕ) → is_value_word word ≡ true → IsValueWord word
value_word law word h =
    one_of_three (is_some (value_of kinds.Int word)) (is_some (value_of kinds.Span word)) (is_some (value_of kinds.Net word))
    (of_kind law kinds.Int word) (of_kind law kinds.Span word) (of_kind law kinds.Net word) h

operator_word : (word : List ℕ) (o : Option Op) → op_of word ≡ o → is_some o ≡ true → IsOperatorWord word
operator_word word None e h = cc
operator_word word (Some op) e h = (op, e)

-- a word is the text of what it is
written_step : {A : Type 0} (text : A → List ℕ) (b : Bool) (word : List ℕ) (v w : A) (next : Option A) → bytes_eq word (text v) ≡ b
    → (next ≡ Some w → word ≡ text w) → cond b (Some v) next ≡ Some w → word ≡ text w
written_step text true word v w next e ih h = let same : v ≡ w = same_Some v w h in same_text word (text v) e ∙ ap text same
written_step text false word v w next e ih h = ih h

written_text : {A : Type 0} (text : A → List ℕ) (all : List A) (word : List ℕ) (v : A) → first_written text all word ≡ Some v → word ≡ text v
written_text text [] word v h = absurd (none-some v h)
written_text text (u ∷ us) word v h =
    written_step text (bytes_eq word (text u)) word u v (first_written text us word) refl (written_text text us word v) h

-- a verb is found by its text, and is one of the language
pub record IsVerb (language : List Verb) (word : List ℕ) (v : Verb) : Type 0 where
  pub text : word ≡ verb_text v
  pub has : has_verb language v ≡ true

verb_step : (b : Bool) (word : List ℕ) (one v : Verb) (rest : List Verb) (later : Option Verb) → bytes_eq word (verb_text one) ≡ b → (later ≡ Some v → IsVerb rest word v)
    → cond b (Some one) later ≡ Some v → IsVerb (one ∷ rest) word v
verb_step true word one v rest later e ih h =
    let same : one ≡ v = same_Some one v h in
    let text : word ≡ verb_text v = same_text word (verb_text one) e ∙ ap verb_text same in
    record {
      text = text;
      has = or_left (bytes_eq (verb_text v) (verb_text one)) (has_verb rest v) (text_same (verb_text v) (verb_text one) (ap verb_text (sym same)));
    }
verb_step false word one v rest later e ih h =
    let found = ih h in record { text = found.text; has = or_right (bytes_eq (verb_text v) (verb_text one)) (has_verb rest v) found.has }

pub verb_found : (language : List Verb) (word : List ℕ) (v : Verb) → verb_of language word ≡ Some v → IsVerb language word v
verb_found [] word v h = absurd (none-some v h)
verb_found (one ∷ rest) word v h =
    verb_step (bytes_eq word (verb_text one)) word one v rest (verb_of rest word) refl (verb_found rest word v) h

abbrev Goes : (language : List Verb) → List PlacedWord → Type 0
Goes language words = (next : Expected) → accepts language next (texts_of words) ≡ true → Tail language next words

few_texts : (conds : List (SaidCond PlacedWord)) → length conds ≤ MAX_CONDITIONS → length (map cond_texts conds) ≤ MAX_CONDITIONS
few_texts conds h = omega (arith, length-map conds cond_texts)

-- a statement whose verb stands alone
alone : (words : List PlacedWord) (said : SaidStatement PlacedWord) → words ≡ [] → statement_behind (verb_said (statement_texts said)) words ≡ Some said
    → HasSaidParts (statement_texts said) → words_behind (statement_texts said) ≡ [] → IsBehind (verb_said (statement_texts said)) words
alone words said none parsed parts texts = record { statement = said; parsed = parsed; verb = refl; parts = parts; texts = ap texts_of none ∙ sym texts }

query : (words : List PlacedWord) (v : Verb) (make : PlacedWord → List (SaidCond PlacedWord) → SaidStatement PlacedWord) → (q : IsQueryBehind words)
    → statement_behind v (q.table ∷ q.behind) ≡ Some (make q.table (conds_from [] q.behind)) → verb_said (statement_texts (make q.table (conds_from [] q.behind))) ≡ v
    → (IsSaidQuery q.table.text (map cond_texts (conds_from [] q.behind)) → HasSaidParts (statement_texts (make q.table (conds_from [] q.behind))))
    → q.table.text ∷ words_of_conds (map cond_texts (conds_from [] q.behind)) ≡ words_behind (statement_texts (make q.table (conds_from [] q.behind)))
    → IsBehind v words
query words v make q parsed verb parts texts = record {
  statement = make q.table (conds_from [] q.behind);
  parsed = ap (statement_behind v) q.is ∙ parsed;
  verb = verb;
  parts = parts (q.named, q.conds.are_conds, few_texts (conds_from [] q.behind) q.conds.few);
  texts = ap texts_of q.is ∙ ap (λ (ts : List (List ℕ)). q.table.text ∷ ts) q.conds.texts ∙ texts;
}

-- what stands behind each verb
abbrev pub OrderTail : List Verb → Verb → List PlacedWord → Type 0
OrderTail language verbs.Start words = IsStatement language words
OrderTail language verbs.Step words = words ≡ []
OrderTail language verbs.Finish words = words ≡ []
OrderTail language v words = IsBehind v words

behind_goes : (language : List Verb) (words : List PlacedWord) (v : Verb) → Goes language words → accepts language (after_verb v) (texts_of words) ≡ true → OrderTail language v words
behind_goes language words verbs.Begin ih h = alone words Begin (ih expected.End h) refl tt refl
behind_goes language words verbs.Commit ih h = alone words Commit (ih expected.End h) refl tt refl
behind_goes language words verbs.Rollback ih h = alone words Rollback (ih expected.End h) refl tt refl
behind_goes language words verbs.Work ih h = alone words Work (ih expected.End h) refl tt refl
behind_goes language words verbs.Insert ih h =
    let i : IsInsertBehind words = ih expected.InsertTable h in record {
      statement = Insert i.table i.row;
      parsed = ap (statement_behind verbs.Insert) i.is;
      verb = refl;
      parts = (i.named, i.are_values);
      texts = ap texts_of i.is;
    }
behind_goes language words verbs.Select ih h = let q : IsQueryBehind words = ih expected.QueryTable h in query words verbs.Select Select q refl refl (λ p. p) refl
behind_goes language words verbs.Delete ih h = let q : IsQueryBehind words = ih expected.QueryTable h in query words verbs.Delete Delete q refl refl (λ p. p) refl
behind_goes language words verbs.Explain ih h = let q : IsQueryBehind words = ih expected.QueryTable h in query words verbs.Explain Explain q refl refl (λ p. p) refl
behind_goes language words verbs.Summarize ih h = ih expected.SummarizedIndex h
behind_goes language words verbs.Desummarize ih h = ih expected.DesummarizedIndex h
behind_goes language words verbs.Vacuum ih h = ih expected.VacuumedTable h
behind_goes language words verbs.Start ih h = ih expected.Statement h
behind_goes language words verbs.Step ih h = ih expected.End h
behind_goes language words verbs.Finish ih h = ih expected.End h

abbrev parsed_behind : Option Verb → List PlacedWord → Option (SaidStatement PlacedWord)
parsed_behind o words = option_and_then (λ v. statement_behind v words) o

abbrev order_parsed : List Verb → Option Verb → List PlacedWord → Option (SaidOrder PlacedWord)
order_parsed language o words = option_and_then (λ v. order_behind language v words) o

-- a verb and what stands behind it
made_statement : (language : List Verb) (verb : PlacedWord) (words : List PlacedWord) (v : Verb) → verb_of language verb.text ≡ Some v → IsBehind v words → IsStatement language (verb ∷ words)
made_statement language verb words v is b =
    let found = verb_found language verb.text v is in record {
      statement = b.statement;
      parsed = ap (λ (o : Option Verb). parsed_behind o words) is ∙ b.parsed;
      is_said = (ap (has_verb language) b.verb ∙ found.has, b.parts);
      texts = ap (λ (t : List ℕ). t ∷ texts_of words) (found.text ∙ ap verb_text (sym b.verb))
          ∙ ap (λ (ts : List (List ℕ)). verb_text (verb_said (statement_texts b.statement)) ∷ ts) b.texts;
    }

made_whole : (language : List Verb) (verb : PlacedWord) (words : List PlacedWord) (v : Verb) → verb_of language verb.text ≡ Some v
    → order_behind language v words ≡ option_map Whole (statement_behind v words) → IsBehind v words → IsOrder language (verb ∷ words)
made_whole language verb words v is whole b =
    let found = verb_found language verb.text v is in record {
      order = Whole b.statement;
      parsed = ap (λ (o : Option Verb). order_parsed language o words) is ∙ whole ∙ ap (λ (o : Option (SaidStatement PlacedWord)). option_map Whole o) b.parsed;
      is_said = (ap (has_verb language) b.verb ∙ found.has, b.parts);
      texts = ap (λ (t : List ℕ). t ∷ texts_of words) (found.text ∙ ap verb_text (sym b.verb))
          ∙ ap (λ (ts : List (List ℕ)). verb_text (verb_said (statement_texts b.statement)) ∷ ts) b.texts;
    }

started_goes : (language : List Verb) (verb : PlacedWord) (words : List PlacedWord) (o : Option Verb) → Goes language words → verb_of language verb.text ≡ o
    → accepts_behind (option_and_then after_started o) (λ next. accepts language next (texts_of words)) ≡ true → IsStatement language (verb ∷ words)
started_goes language verb words None ih is h = cc
started_goes language verb words (Some verbs.Begin) ih is h = made_statement language verb words verbs.Begin is (behind_goes language words verbs.Begin ih h)
started_goes language verb words (Some verbs.Commit) ih is h = made_statement language verb words verbs.Commit is (behind_goes language words verbs.Commit ih h)
started_goes language verb words (Some verbs.Rollback) ih is h = made_statement language verb words verbs.Rollback is (behind_goes language words verbs.Rollback ih h)
started_goes language verb words (Some verbs.Insert) ih is h = made_statement language verb words verbs.Insert is (behind_goes language words verbs.Insert ih h)
started_goes language verb words (Some verbs.Select) ih is h = made_statement language verb words verbs.Select is (behind_goes language words verbs.Select ih h)
started_goes language verb words (Some verbs.Delete) ih is h = made_statement language verb words verbs.Delete is (behind_goes language words verbs.Delete ih h)
started_goes language verb words (Some verbs.Explain) ih is h = made_statement language verb words verbs.Explain is (behind_goes language words verbs.Explain ih h)
started_goes language verb words (Some verbs.Summarize) ih is h = made_statement language verb words verbs.Summarize is (behind_goes language words verbs.Summarize ih h)
started_goes language verb words (Some verbs.Desummarize) ih is h = made_statement language verb words verbs.Desummarize is (behind_goes language words verbs.Desummarize ih h)
started_goes language verb words (Some verbs.Vacuum) ih is h = made_statement language verb words verbs.Vacuum is (behind_goes language words verbs.Vacuum ih h)
started_goes language verb words (Some verbs.Work) ih is h = made_statement language verb words verbs.Work is (behind_goes language words verbs.Work ih h)
started_goes language verb words (Some verbs.Start) ih is h = cc
started_goes language verb words (Some verbs.Step) ih is h = cc
started_goes language verb words (Some verbs.Finish) ih is h = cc

-- `step` and `finish` stand alone
stepping : (language : List Verb) (verb : PlacedWord) (words : List PlacedWord) (v : Verb) (order : SaidOrder PlacedWord) → verb_of language verb.text ≡ Some v → words ≡ []
    → order_behind language v words ≡ Some order → (has_verb language v ≡ true → IsSaidOrder language (order_texts order)) → words_of_order (order_texts order) ≡ verb_text v ∷ []
    → IsOrder language (verb ∷ words)
stepping language verb words v order is none parsed said texts =
    let found = verb_found language verb.text v is in record {
      order = order;
      parsed = ap (λ (o : Option Verb). order_parsed language o words) is ∙ parsed;
      is_said = said found.has;
      texts = ap (λ (t : List ℕ). t ∷ texts_of words) found.text ∙ ap (λ (ws : List PlacedWord). verb_text v ∷ texts_of ws) none ∙ sym texts;
    }

order_goes : (language : List Verb) (verb : PlacedWord) (words : List PlacedWord) (o : Option Verb) → Goes language words → verb_of language verb.text ≡ o
    → accepts_behind (option_map after_verb o) (λ next. accepts language next (texts_of words)) ≡ true → IsOrder language (verb ∷ words)
order_goes language verb words None ih is h = cc
order_goes language verb words (Some verbs.Begin) ih is h = made_whole language verb words verbs.Begin is refl (behind_goes language words verbs.Begin ih h)
order_goes language verb words (Some verbs.Commit) ih is h = made_whole language verb words verbs.Commit is refl (behind_goes language words verbs.Commit ih h)
order_goes language verb words (Some verbs.Rollback) ih is h = made_whole language verb words verbs.Rollback is refl (behind_goes language words verbs.Rollback ih h)
order_goes language verb words (Some verbs.Insert) ih is h = made_whole language verb words verbs.Insert is refl (behind_goes language words verbs.Insert ih h)
order_goes language verb words (Some verbs.Select) ih is h = made_whole language verb words verbs.Select is refl (behind_goes language words verbs.Select ih h)
order_goes language verb words (Some verbs.Delete) ih is h = made_whole language verb words verbs.Delete is refl (behind_goes language words verbs.Delete ih h)
order_goes language verb words (Some verbs.Explain) ih is h = made_whole language verb words verbs.Explain is refl (behind_goes language words verbs.Explain ih h)
order_goes language verb words (Some verbs.Summarize) ih is h = made_whole language verb words verbs.Summarize is refl (behind_goes language words verbs.Summarize ih h)
order_goes language verb words (Some verbs.Desummarize) ih is h = made_whole language verb words verbs.Desummarize is refl (behind_goes language words verbs.Desummarize ih h)
order_goes language verb words (Some verbs.Vacuum) ih is h = made_whole language verb words verbs.Vacuum is refl (behind_goes language words verbs.Vacuum ih h)
order_goes language verb words (Some verbs.Work) ih is h = made_whole language verb words verbs.Work is refl (behind_goes language words verbs.Work ih h)
order_goes language verb words (Some verbs.Start) ih is h =
    let s : IsStatement language words = behind_goes language words verbs.Start ih h in
    let found = verb_found language verb.text verbs.Start is in record {
      order = Start s.statement;
      parsed = ap (λ (o : Option Verb). order_parsed language o words) is ∙ ap (λ (o : Option (SaidStatement PlacedWord)). option_map Start o) s.parsed;
      is_said = (found.has, s.is_said);
      texts = ap (λ (t : List ℕ). t ∷ texts_of words) found.text ∙ ap (λ (ts : List (List ℕ)). verb_text verbs.Start ∷ ts) s.texts;
    }
order_goes language verb words (Some verbs.Step) ih is h = stepping language verb words verbs.Step Step is (ih expected.End h) refl (λ has. has) refl
order_goes language verb words (Some verbs.Finish) ih is h = stepping language verb words verbs.Finish Finish is (ih expected.End h) refl (λ has. has) refl

-- the number of a block
block_word : (word : List ℕ) → is_block word ≡ true → IsBlockWord word
block_word word h =
    let outer = and_parts (nat_lt 0 (length word) && list_all is_digit word) (nat_lt (digits_from 0 word) (2 ^ 32)) h in
    let inner = and_parts (nat_lt 0 (length word)) (list_all is_digit word) outer.0 in
    (record { some = ltb-true 0 (length word) inner.0; digits = inner.1 }, ltb-true (digits_from 0 word) (2 ^ 32) outer.1)

-- an index and perhaps a block
summarized : (index : PlacedWord) (words : List PlacedWord) (block : Option PlacedWord) → IsNameWord index.text → words ≡ blocks_in block
    → IfSome (option_map (λ (b : PlacedWord). b.text) block) IsBlockWord → IsBehind verbs.Summarize (index ∷ words)
summarized index words None named is is_block = record {
  statement = Summarize index None;
  parsed = ap (λ (ws : List PlacedWord). statement_behind verbs.Summarize (index ∷ ws)) is;
  verb = refl;
  parts = (named, tt);
  texts = ap (λ (ws : List PlacedWord). index.text ∷ texts_of ws) is;
}
summarized index words (Some block) named is is_block = record {
  statement = Summarize index (Some block);
  parsed = ap (λ (ws : List PlacedWord). statement_behind verbs.Summarize (index ∷ ws)) is;
  verb = refl;
  parts = (named, is_block);
  texts = ap (λ (ws : List PlacedWord). index.text ∷ texts_of ws) is;
}

desummarized : (index : PlacedWord) (words : List PlacedWord) → IsNameWord index.text → IsOneBlock words → IsBehind verbs.Desummarize (index ∷ words)
desummarized index words named b = record {
  statement = Desummarize index b.block;
  parsed = ap (λ (ws : List PlacedWord). statement_behind verbs.Desummarize (index ∷ ws)) b.is;
  verb = refl;
  parts = (named, b.is_block);
  texts = ap (λ (ws : List PlacedWord). index.text ∷ texts_of ws) b.is;
}

vacuumed : (table : PlacedWord) (words : List PlacedWord) → IsNameWord table.text → words ≡ [] → IsBehind verbs.Vacuum (table ∷ words)
vacuumed table words named none = record {
  statement = Vacuum table;
  parsed = refl;
  verb = refl;
  parts = named;
  texts = ap (λ (ws : List PlacedWord). table.text ∷ texts_of ws) none;
}

-- the conditions of a query, by the first one
first_cond : (joint : PlacedWord) (words : List PlacedWord) → bytes_eq joint.text (codes "where") ≡ true → IsCondBehind (joint ∷ []) [] 15 words → AreConds (joint ∷ words)
first_cond joint words h r = record {
  are_conds = subst (λ (cs : List (SaidCond PlacedWord)). AreSaidConds (map cond_texts cs)) (sym r.parsed) (r.is_cond, r.are_conds);
  few = subst (λ (cs : List (SaidCond PlacedWord)). length cs ≤ MAX_CONDITIONS) (sym r.parsed) (let k : length r.more ≤ 15 = r.few in omega arith);
  texts = ap (λ (t : List ℕ). t ∷ texts_of words) (same_text joint.text (codes "where") h)
      ∙ ap (λ (ts : List (List ℕ)). codes "where" ∷ ts) r.texts
      ∙ ap (λ (cs : List (SaidCond PlacedWord)). words_of_conds (map cond_texts cs)) (sym r.parsed);
}

more_conds : (left : ℕ) (joint : PlacedWord) (words : List PlacedWord) → nat_lt 0 left ≡ true → bytes_eq joint.text (codes "and") ≡ true
    → IsCondBehind (joint ∷ []) [] (left - 1) words → AreMore left (joint ∷ words)
more_conds left joint words some h r = record {
  are_conds = subst (λ (cs : List (SaidCond PlacedWord)). AreSaidConds (map cond_texts cs)) (sym r.parsed) (r.is_cond, r.are_conds);
  few = subst (λ (cs : List (SaidCond PlacedWord)). length cs ≤ left) (sym r.parsed) (let k : length r.more ≤ left - 1 = r.few in omega (arith, ltb-true 0 left some));
  texts = ap (λ (t : List ℕ). t ∷ texts_of words) (same_text joint.text (codes "and") h)
      ∙ ap (λ (ts : List (List ℕ)). codes "and" ∷ ts) r.texts
      ∙ ap (λ (cs : List (SaidCond PlacedWord)). words_of_more (map cond_texts cs)) (sym r.parsed);
}

-- a comparison is whole with its value
compared_goes : (language : List Verb) → (law : ValueOfIsDenoted) (left : ℕ) (word : PlacedWord) (words : List PlacedWord) → is_value_word word.text ≡ true → AreMore left words → Tail language (expected.Value left) (word ∷ words)
compared_goes language law left word words h m joint column op named is_op other = record {
  first = Compared column op word;
  more = conds_from [] words;
  parsed = ap (λ (b : Bool). conds_behind (cond b (cond (bytes_eq word.text (codes "not")) None (Some (Null column))) (Some (Compared column op word))) (conds_from (joint ∷ column ∷ op ∷ word ∷ []) words) (conds_from [] words)) other;
  is_cond = (named, is_op, value_word law word.text h);
  are_conds = m.are_conds;
  few = m.few;
  texts = ap (λ (ts : List (List ℕ)). column.text ∷ op.text ∷ word.text ∷ ts) m.texts;
}

-- a column that is null is whole with `null`
null_goes : (language : List Verb) → (left : ℕ) (word : PlacedWord) (words : List PlacedWord) → bytes_eq word.text (codes "not") ≡ false → bytes_eq word.text (codes "null") ≡ true
    → AreMore left words → Tail language (expected.Null left) (word ∷ words)
null_goes language left word words other h m joint column is named is_is = record {
  first = Null column;
  more = conds_from [] words;
  parsed = ap (λ (b : Bool). conds_behind (cond b (cond (bytes_eq word.text (codes "not")) None (Some (Null column))) (Some (Compared column is word))) (conds_from (joint ∷ column ∷ is ∷ word ∷ []) words) (conds_from [] words)) is_is
      ∙ ap (λ (b : Bool). conds_behind (cond b None (Some (Null column))) (conds_from (joint ∷ column ∷ is ∷ word ∷ []) words) (conds_from [] words)) other;
  is_cond = named;
  are_conds = m.are_conds;
  few = m.few;
  texts = ap (λ (t : List ℕ). column.text ∷ t ∷ word.text ∷ texts_of words) (same_text is.text (codes "is") is_is)
      ∙ ap (λ (t : List ℕ). column.text ∷ codes "is" ∷ t ∷ texts_of words) (same_text word.text (codes "null") h)
      ∙ ap (λ (ts : List (List ℕ)). column.text ∷ codes "is" ∷ codes "null" ∷ ts) m.texts;
}

-- one that isn't goes language on behind `not`
not_goes : (language : List Verb) → (left : ℕ) (word : PlacedWord) (words : List PlacedWord) → bytes_eq word.text (codes "not") ≡ true
    → Tail language (expected.NotNull left) words → Tail language (expected.Null left) (word ∷ words)
not_goes language left word words h r joint column is named is_is =
    let b = r joint column is word named is_is h in record {
      first = b.first;
      more = b.more;
      parsed = ap (λ (b : Bool). conds_behind (cond b (cond (bytes_eq word.text (codes "not")) None (Some (Null column))) (Some (Compared column is word))) (conds_from (joint ∷ column ∷ is ∷ word ∷ []) words) (conds_from [] words)) is_is
          ∙ ap (λ (b : Bool). conds_behind (cond b None (Some (Null column))) (conds_from (joint ∷ column ∷ is ∷ word ∷ []) words) (conds_from [] words)) h
          ∙ b.parsed;
      is_cond = b.is_cond;
      are_conds = b.are_conds;
      few = b.few;
      texts = b.texts;
    }

-- and is whole with `null`
not_null_goes : (language : List Verb) → (left : ℕ) (word : PlacedWord) (words : List PlacedWord) → bytes_eq word.text (codes "null") ≡ true
    → AreMore left words → Tail language (expected.NotNull left) (word ∷ words)
not_null_goes language left word words h m joint column is not named is_is is_not = record {
  first = NotNull column;
  more = conds_from [] words;
  parsed = refl;
  is_cond = named;
  are_conds = m.are_conds;
  few = m.few;
  texts = ap (λ (t : List ℕ). column.text ∷ t ∷ not.text ∷ word.text ∷ texts_of words) (same_text is.text (codes "is") is_is)
      ∙ ap (λ (t : List ℕ). column.text ∷ codes "is" ∷ t ∷ word.text ∷ texts_of words) (same_text not.text (codes "not") is_not)
      ∙ ap (λ (t : List ℕ). column.text ∷ codes "is" ∷ codes "not" ∷ t ∷ texts_of words) (same_text word.text (codes "null") h)
      ∙ ap (λ (ts : List (List ℕ)). column.text ∷ codes "is" ∷ codes "not" ∷ codes "null" ∷ ts) m.texts;
}

-- behind `is`
is_goes : (language : List Verb) → (left : ℕ) (word : PlacedWord) (words : List PlacedWord) (b : Bool) → bytes_eq word.text (codes "not") ≡ b → Goes language words
    → accepts_behind (cond b (Some (expected.NotNull left)) (where_so (bytes_eq word.text (codes "null")) (expected.And left))) (λ next. accepts language next (texts_of words)) ≡ true
    → Tail language (expected.Null left) (word ∷ words)
is_goes language left word words true e ih h = not_goes language left word words e (ih (expected.NotNull left) h)
is_goes language left word words false e ih h =
    let p = passed (bytes_eq word.text (codes "null")) (expected.And left) (λ next. accepts language next (texts_of words)) h in
    null_goes language left word words e p.0 (ih (expected.And left) p.1)

-- behind a column
column_goes : (language : List Verb) → (left : ℕ) (word : PlacedWord) (words : List PlacedWord) (b : Bool) → bytes_eq word.text (codes "is") ≡ b → Goes language words
    → accepts_behind (cond b (Some (expected.Null left)) (where_so (is_some (op_of word.text)) (expected.Value left))) (λ next. accepts language next (texts_of words)) ≡ true
    → Tail language (expected.Operator left) (word ∷ words)
column_goes language left word words true e ih h joint column named =
    let tail : Tail language (expected.Null left) words = ih (expected.Null left) h in
    let r = tail joint column word named e in
    record { first = r.first; more = r.more; parsed = r.parsed; is_cond = r.is_cond; are_conds = r.are_conds; few = r.few; texts = r.texts }
column_goes language left word words false e ih h joint column named =
    let p = passed (is_some (op_of word.text)) (expected.Value left) (λ next. accepts language next (texts_of words)) h in
    let tail : Tail language (expected.Value left) words = ih (expected.Value left) p.1 in
    let r = tail joint column word named (operator_word word.text (op_of word.text) refl p.0) e in
    record { first = r.first; more = r.more; parsed = r.parsed; is_cond = r.is_cond; are_conds = r.are_conds; few = r.few; texts = r.texts }

-- what one word goes language on with
goes : (language : List Verb) → ValueOfIsDenoted → (next : Expected) (word : PlacedWord) (words : List PlacedWord) → Goes language words → accepts language next (texts_of (word ∷ words)) ≡ true → Tail language next (word ∷ words)
goes language law expected.Session word words ih h = tt
goes language law expected.Verb word words ih h = order_goes language word words (verb_of language word.text) ih refl h
goes language law expected.Statement word words ih h = started_goes language word words (verb_of language word.text) ih refl h
goes language law expected.End word words ih h = cc
goes language law expected.InsertTable word words ih h =
    let p = passed (is_name word.text) expected.Values (λ next. accepts language next (texts_of words)) h in
    record { table = word; row = words; is = refl; named = p.0; are_values = ih expected.Values p.1 }
goes language law expected.Values word words ih h =
    let p = passed (is_value_word word.text) expected.Values (λ next. accepts language next (texts_of words)) h in
    (value_word law word.text p.0, ih expected.Values p.1)
goes language law expected.QueryTable word words ih h =
    let p = passed (is_name word.text) expected.Where (λ next. accepts language next (texts_of words)) h in
    record { table = word; behind = words; is = refl; named = p.0; conds = ih expected.Where p.1 }
goes language law expected.Where word words ih h =
    let p = passed (bytes_eq word.text (codes "where")) (expected.Column 15) (λ next. accepts language next (texts_of words)) h in
    let tail : Tail language (expected.Column 15) words = ih (expected.Column 15) p.1 in
    first_cond word words p.0 (tail word)
goes language law (expected.And left) word words ih h =
    let p = passed (nat_lt 0 left && bytes_eq word.text (codes "and")) (expected.Column (left - 1)) (λ next. accepts language next (texts_of words)) h in
    let b = and_parts (nat_lt 0 left) (bytes_eq word.text (codes "and")) p.0 in
    let tail : Tail language (expected.Column (left - 1)) words = ih (expected.Column (left - 1)) p.1 in
    more_conds left word words b.0 b.1 (tail word)
goes language law (expected.Column left) word words ih h =
    let p = passed (is_name word.text) (expected.Operator left) (λ next. accepts language next (texts_of words)) h in
    let tail : Tail language (expected.Operator left) words = ih (expected.Operator left) p.1 in
    λ joint. let r = tail joint word p.0 in
    record { first = r.first; more = r.more; parsed = r.parsed; is_cond = r.is_cond; are_conds = r.are_conds; few = r.few; texts = r.texts }
goes language law (expected.Operator left) word words ih h = column_goes language left word words (bytes_eq word.text (codes "is")) refl ih h
goes language law (expected.Value left) word words ih h =
    let p = passed (is_value_word word.text) (expected.And left) (λ next. accepts language next (texts_of words)) h in
    compared_goes language law left word words p.0 (ih (expected.And left) p.1)
goes language law (expected.Null left) word words ih h = is_goes language left word words (bytes_eq word.text (codes "not")) refl ih h
goes language law (expected.NotNull left) word words ih h =
    let p = passed (bytes_eq word.text (codes "null")) (expected.And left) (λ next. accepts language next (texts_of words)) h in
    not_null_goes language left word words p.0 (ih (expected.And left) p.1)
goes language law expected.SummarizedIndex word words ih h =
    let p = passed (is_name word.text) expected.MayHaveBlock (λ next. accepts language next (texts_of words)) h in
    let b : IsBlockBehind words = ih expected.MayHaveBlock p.1 in
    summarized word words b.block p.0 b.is b.is_block
goes language law expected.MayHaveBlock word words ih h =
    let p = passed (is_block word.text) expected.End (λ next. accepts language next (texts_of words)) h in
    record { block = Some word; is = ap (λ (ws : List PlacedWord). word ∷ ws) (ih expected.End p.1); is_block = block_word word.text p.0 }
goes language law expected.DesummarizedIndex word words ih h =
    let p = passed (is_name word.text) expected.Block (λ next. accepts language next (texts_of words)) h in
    desummarized word words p.0 (ih expected.Block p.1)
goes language law expected.Block word words ih h =
    let p = passed (is_block word.text) expected.End (λ next. accepts language next (texts_of words)) h in
    record { block = word; is = ap (λ (ws : List PlacedWord). word ∷ ws) (ih expected.End p.1); is_block = block_word word.text p.0 }
goes language law expected.VacuumedTable word words ih h =
    let p = passed (is_name word.text) expected.End (λ next. accepts language next (texts_of words)) h in
    vacuumed word words p.0 (ih expected.End p.1)

ends : (language : List Verb) → (next : Expected) → accepts language next [] ≡ true → Tail language next []
ends language expected.Session h = tt
ends language expected.Verb h = cc
ends language expected.Statement h = cc
ends language expected.End h = refl
ends language expected.InsertTable h = cc
ends language expected.Values h = tt
ends language expected.QueryTable h = cc
ends language expected.Where h = record { are_conds = tt; few = omega arith; texts = refl }
ends language (expected.And left) h = record { are_conds = tt; few = omega arith; texts = refl }
ends language (expected.Column left) h = cc
ends language (expected.Operator left) h = cc
ends language (expected.Value left) h = cc
ends language (expected.Null left) h = cc
ends language (expected.NotNull left) h = cc
ends language expected.SummarizedIndex h = cc
ends language expected.MayHaveBlock h = record { block = None; is = refl; is_block = tt }
ends language expected.DesummarizedIndex h = cc
ends language expected.Block h = cc
ends language expected.VacuumedTable h = cc

-- words that are accepted are of the grammar
pub sound : (language : List Verb) → ValueOfIsDenoted → (next : Expected) (words : List PlacedWord) → accepts language next (texts_of words) ≡ true → Tail language next words
sound language law next [] h = ends language next h
sound language law next (word ∷ words) h = goes language law next word words (λ behind e. sound language law behind words e) h
