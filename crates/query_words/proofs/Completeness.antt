-- Words of the grammar are accepted.
use Rattle.std.proofs.Common.{◌≡◌, ℕ, ◌-◌, ◌≤◌, nat_lt, Bool, true, false, ◌&&◌, ◌||◌, List, [], ◌∷◌, ◌++◌, ◌^◌, length, codes, Option, None, Some, IfSome, refl, sym, ap, ◌∙◌, cond, arith}
use Rattle.std.specs.Option.{is_some, option_map, option_and_then}
use Rattle.std.specs.List.{list_all}
use Rattle.std.specs.Str.{bytes_eq}
use Rattle.std.proofs.lemmas.Bool.{lt-ltb, or_left, or_right}
use Rattle.std.proofs.lemmas.Option.{same_Some}
use Rattle.block_model.specs.Names.{is_name, is_digit}
use Rattle.value_text.specs.Digits.{digits_from}
use Rattle.block_model.specs.declared.value.Kind.TheVariants as kinds
use Rattle.block_model.specs.declared.value.Op.{Op}
use Rattle.value_text.specs.ValueOf.{value_of, ValueOfIsDenoted}
use Rattle.query_words.specs.declared.verb.Verb.{Verb}
use Rattle.query_words.specs.declared.verb.Verb.TheVariants as verbs
use Rattle.query_words.specs.Written.{first_written}
use Rattle.query_words.specs.Verbs.{verb_text, every_verb, has_verb, verb_of}
use Rattle.query_words.specs.Blocks.{IsBlockWord, is_block}
use Rattle.query_words.specs.Operators.{op_of}
use Rattle.query_words.specs.ValueWords.{is_value_word}
use Rattle.query_words.specs.declared.syntax.Expected.{Expected}
use Rattle.query_words.specs.declared.syntax.Expected.TheVariants as expected
use Rattle.query_words.specs.Grammar.{SaidCond, Compared, Null, NotNull, SaidStatement, Begin, Commit, Rollback, Insert, Select, Delete, Explain, Summarize, Desummarize, Vacuum, Work, SaidOrder, Whole, Start, Step, Finish, verb_said, words_behind, words_of_block, words_of_cond, words_of_more, words_of_conds, words_of_statement, words_of_order}
use Rattle.block_model.specs.declared.limits.TheConstants.{MAX_CONDITIONS}
use Rattle.query_words.specs.Grammar.{IsOperatorWord, IsValueWord, AreValueWords, IsSaidCond, AreSaidConds, IsSaidQuery, HasSaidParts, IsSaidStatement, IsSaidOrder}
use Rattle.query_words.specs.Syntax.{where_so, after_verb, after_started}
use Rattle.query_words.proofs.Accepting.{accepts_behind, accepts, passes, same_text}

pub is_value : ValueOfIsDenoted → (word : List ℕ) → IsValueWord word → is_value_word word ≡ true
is_value law word (kinds.Int, (v, d)) =
    let e : is_some (value_of kinds.Int word) ≡ true = ap is_some ((law kinds.Int word v).1 d) in
    or_left (is_some (value_of kinds.Int word) || is_some (value_of kinds.Span word)) (is_some (value_of kinds.Net word)) (or_left (is_some (value_of kinds.Int word)) (is_some (value_of kinds.Span word)) e)
is_value law word (kinds.Span, (v, d)) =
    let e : is_some (value_of kinds.Span word) ≡ true = ap is_some ((law kinds.Span word v).1 d) in
    or_left (is_some (value_of kinds.Int word) || is_some (value_of kinds.Span word)) (is_some (value_of kinds.Net word)) (or_right (is_some (value_of kinds.Int word)) (is_some (value_of kinds.Span word)) e)
is_value law word (kinds.Net, (v, d)) =
    or_right (is_some (value_of kinds.Int word) || is_some (value_of kinds.Span word)) (is_some (value_of kinds.Net word)) (ap is_some ((law kinds.Net word v).1 d))

is_cases : (b : Bool) (op : List ℕ) (o : Op) → bytes_eq op (codes "is") ≡ b → op_of op ≡ Some o → bytes_eq op (codes "is") ≡ false
is_cases true op o e h = let k : None ≡ Some o = sym (ap op_of (same_text op (codes "is") e)) ∙ h in cc
is_cases false op o e h = e

-- `is` is no operator of one word
pub is_other : (op : List ℕ) → IsOperatorWord op → bytes_eq op (codes "is") ≡ false
is_other op (o, h) = is_cases (bytes_eq op (codes "is")) op o refl h

-- a condition goes on with the next
pub cond_accepts : (language : List Verb) → ValueOfIsDenoted → (left : ℕ) (said : SaidCond (List ℕ)) (rest : List (List ℕ)) → IsSaidCond said
    → accepts language (expected.Column left) (words_of_cond said ++ rest) ≡ accepts language (expected.And left) rest
cond_accepts language law left (Compared column op value) rest is =
    passes (is_name column) (expected.Operator left) (λ next. accepts language next (op ∷ value ∷ rest)) is.0
    ∙ ap (λ (b : Bool). accepts_behind (cond b (Some (expected.Null left)) (where_so (is_some (op_of op)) (expected.Value left))) (λ next. accepts language next (value ∷ rest))) (is_other op is.1)
    ∙ passes (is_some (op_of op)) (expected.Value left) (λ next. accepts language next (value ∷ rest)) (ap is_some is.1.1)
    ∙ passes (is_value_word value) (expected.And left) (λ next. accepts language next rest) (is_value law value is.2)
cond_accepts language law left (Null column) rest is = passes (is_name column) (expected.Operator left) (λ next. accepts language next (codes "is" ∷ codes "null" ∷ rest)) is
cond_accepts language law left (NotNull column) rest is =
    passes (is_name column) (expected.Operator left) (λ next. accepts language next (codes "is" ∷ codes "not" ∷ codes "null" ∷ rest)) is

more_accepted : (language : List Verb) → ValueOfIsDenoted → (left : ℕ) (conds : List (SaidCond (List ℕ))) → AreSaidConds conds → length conds ≤ left
    → accepts language (expected.And left) (words_of_more conds) ≡ true
more_accepted language law left [] are few = refl
more_accepted language law left (said ∷ conds) are few =
    let room : nat_lt 0 left ≡ true = lt-ltb 0 left (omega arith) in
    passes (nat_lt 0 left && true) (expected.Column (left - 1)) (λ next. accepts language next (words_of_cond said ++ words_of_more conds)) (ap (λ b. b && true) room)
    ∙ cond_accepts language law (left - 1) said (words_of_more conds) are.0
    ∙ more_accepted language law (left - 1) conds are.1 (omega arith)

conds_accepted : (language : List Verb) → ValueOfIsDenoted → (conds : List (SaidCond (List ℕ))) → AreSaidConds conds → length conds ≤ MAX_CONDITIONS
    → accepts language expected.Where (words_of_conds conds) ≡ true
conds_accepted language law [] are few = refl
conds_accepted language law (said ∷ conds) are few =
    cond_accepts language law 15 said (words_of_more conds) are.0 ∙ more_accepted language law 15 conds are.1 (omega arith)

values_accepted : (language : List Verb) → ValueOfIsDenoted → (words : List (List ℕ)) → AreValueWords words → accepts language expected.Values words ≡ true
values_accepted language law [] are = refl
values_accepted language law (word ∷ words) are =
    passes (is_value_word word) expected.Values (λ next. accepts language next words) (is_value law word are.0) ∙ values_accepted language law words are.1

query_accepted : (language : List Verb) → ValueOfIsDenoted → (table : List ℕ) (conds : List (SaidCond (List ℕ))) → IsSaidQuery table conds
    → accepts language expected.QueryTable (table ∷ words_of_conds conds) ≡ true
query_accepted language law table conds is =
    passes (is_name table) expected.Where (λ next. accepts language next (words_of_conds conds)) is.0 ∙ conds_accepted language law conds is.1 is.2

-- a block is one
pub is_block_word : (word : List ℕ) → IsBlockWord word → is_block word ≡ true
is_block_word word is =
    ap (λ b. b && list_all is_digit word && nat_lt (digits_from 0 word) (2 ^ 32)) (lt-ltb 0 (length word) is.0.some)
    ∙ ap (λ b. b && nat_lt (digits_from 0 word) (2 ^ 32)) is.0.digits
    ∙ lt-ltb (digits_from 0 word) (2 ^ 32) is.1

block_accepted : (language : List Verb) (block : Option (List ℕ)) → IfSome block IsBlockWord → accepts language expected.MayHaveBlock (words_of_block block) ≡ true
block_accepted language None is = refl
block_accepted language (Some block) is = passes (is_block block) expected.End (λ next. accepts language next []) (is_block_word block is)

-- what stands behind a verb is accepted
pub behind_accepted : (language : List Verb) → ValueOfIsDenoted → (said : SaidStatement (List ℕ)) → HasSaidParts said → accepts language (after_verb (verb_said said)) (words_behind said) ≡ true
behind_accepted language law Begin is = refl
behind_accepted language law Commit is = refl
behind_accepted language law Rollback is = refl
behind_accepted language law (Insert table values) is =
    passes (is_name table) expected.Values (λ next. accepts language next values) is.0 ∙ values_accepted language law values is.1
behind_accepted language law (Select table conds) is = query_accepted language law table conds is
behind_accepted language law (Delete table conds) is = query_accepted language law table conds is
behind_accepted language law (Explain table conds) is = query_accepted language law table conds is
behind_accepted language law (Summarize index block) is =
    passes (is_name index) expected.MayHaveBlock (λ next. accepts language next (words_of_block block)) is.0 ∙ block_accepted language block is.1
behind_accepted language law (Desummarize index block) is =
    passes (is_name index) expected.Block (λ next. accepts language next (block ∷ [])) is.0
    ∙ passes (is_block block) expected.End (λ next. accepts language next []) (is_block_word block is.1)
behind_accepted language law (Vacuum table) is = passes (is_name table) expected.End (λ next. accepts language next []) is
behind_accepted language law Work is = refl

-- every verb has a text of its own
own_text : (v : Verb) → first_written verb_text every_verb (verb_text v) ≡ Some v
own_text verbs.Begin = refl
own_text verbs.Commit = refl
own_text verbs.Rollback = refl
own_text verbs.Insert = refl
own_text verbs.Select = refl
own_text verbs.Delete = refl
own_text verbs.Explain = refl
own_text verbs.Summarize = refl
own_text verbs.Desummarize = refl
own_text verbs.Vacuum = refl
own_text verbs.Work = refl
own_text verbs.Start = refl
own_text verbs.Step = refl
own_text verbs.Finish = refl

same_verb : (v w : Verb) → verb_text v ≡ verb_text w → v ≡ w
same_verb v w e = same_Some v w (sym (own_text v) ∙ ap (first_written verb_text every_verb) e ∙ own_text w)

-- a verb of the language is found by its text
has_step : (b : Bool) (one v : Verb) (rest : List Verb) → bytes_eq (verb_text v) (verb_text one) ≡ b → (has_verb rest v ≡ true → verb_of rest (verb_text v) ≡ Some v)
    → (b || has_verb rest v) ≡ true → cond b (Some one) (verb_of rest (verb_text v)) ≡ Some v
has_step true one v rest e ih h = ap Some (sym (same_verb v one (same_text (verb_text v) (verb_text one) e)))
has_step false one v rest e ih h = ih h

pub verb_back : (language : List Verb) (v : Verb) → has_verb language v ≡ true → verb_of language (verb_text v) ≡ Some v
verb_back [] v h = cc
verb_back (one ∷ rest) v h = has_step (bytes_eq (verb_text v) (verb_text one)) one v rest refl (verb_back rest v) h

is_started : (said : SaidStatement (List ℕ)) → after_started (verb_said said) ≡ Some (after_verb (verb_said said))
is_started Begin = refl
is_started Commit = refl
is_started Rollback = refl
is_started (Insert table values) = refl
is_started (Select table conds) = refl
is_started (Delete table conds) = refl
is_started (Explain table conds) = refl
is_started (Summarize index block) = refl
is_started (Desummarize index block) = refl
is_started (Vacuum table) = refl
is_started Work = refl

-- words of a statement are accepted
pub statement_accepted : (language : List Verb) → ValueOfIsDenoted → (said : SaidStatement (List ℕ)) → IsSaidStatement language said
    → accepts language expected.Statement (words_of_statement said) ≡ true
statement_accepted language law said is =
    ap (λ (o : Option Verb). accepts_behind (option_and_then after_started o) (λ next. accepts language next (words_behind said))) (verb_back language (verb_said said) is.0)
    ∙ ap (λ (o : Option Expected). accepts_behind o (λ next. accepts language next (words_behind said))) (is_started said)
    ∙ behind_accepted language law said is.1

-- a verb goes on with what stands behind it
verb_accepted : (language : List Verb) (v : Verb) (words : List (List ℕ)) → has_verb language v ≡ true → accepts language (after_verb v) words ≡ true
    → accepts language expected.Verb (verb_text v ∷ words) ≡ true
verb_accepted language v words has h =
    ap (λ (o : Option Verb). accepts_behind (option_map after_verb o) (λ next. accepts language next words)) (verb_back language v has) ∙ h

pub order_accepted : (language : List Verb) → ValueOfIsDenoted → (said : SaidOrder (List ℕ)) → IsSaidOrder language said → accepts language expected.Verb (words_of_order said) ≡ true
order_accepted language law (Whole said) is = verb_accepted language (verb_said said) (words_behind said) is.0 (behind_accepted language law said is.1)
order_accepted language law (Start said) is = verb_accepted language verbs.Start (words_of_statement said) is.0 (statement_accepted language law said is.1)
order_accepted language law Step is = verb_accepted language verbs.Step [] is refl
order_accepted language law Finish is = verb_accepted language verbs.Finish [] is refl

-- a name goes on with an order
pub line_accepted : (language : List Verb) → ValueOfIsDenoted → (session : List ℕ) (said : SaidOrder (List ℕ)) → is_name session ≡ true → IsSaidOrder language said
    → accepts language expected.Session (session ∷ words_of_order said) ≡ true
line_accepted language law session said named is =
    passes (is_name session) expected.Verb (λ next. accepts language next (words_of_order said)) named ∙ order_accepted language law said is
