-- Behind the verb of a plain line the words are looked at alike in every language.
use Rattle.std.proofs.Common.{◌≡◌, ℕ, ◌-◌, Bool, true, false, ◌&&◌, nat_lt, cond, List, [], ◌∷◌, codes, Option, None, Some, IfSome, refl, ap, ◌∙◌, sym}
use Rattle.std.specs.Option.{is_some}
use Rattle.std.specs.Str.{bytes_eq}
use Rattle.block_model.specs.Names.{is_name}
use Rattle.query_words.specs.declared.verb.Verb.{Verb}
use Rattle.query_words.specs.Blocks.{is_block}
use Rattle.query_words.specs.Operators.{op_of}
use Rattle.query_words.specs.Syntax.{where_so, after_word, stop_behind, stop_from}
use Rattle.query_words.specs.ValueWords.{is_value_word}
use Rattle.query_words.specs.Words.{PlacedWord}
use Rattle.query_words.specs.declared.syntax.Expected.{Expected}
use Rattle.query_words.specs.declared.syntax.Expected.TheVariants as expected

-- no verb may stand there
abbrev pub PastVerb : Expected → Type 0
PastVerb expected.Session = ⊥
PastVerb expected.Verb = ⊥
PastVerb expected.Statement = ⊥
PastVerb next = Unit {0}

past_where : (b : Bool) (next : Expected) → PastVerb next → IfSome (where_so b next) PastVerb
past_where true next h = h
past_where false next h = tt

past_either : (b : Bool) (next : Expected) (other : Option Expected) → PastVerb next → IfSome other PastVerb → IfSome (cond b (Some next) other) PastVerb
past_either true next other h k = h
past_either false next other h k = k

-- neither may one behind the next word, in any language
goes_past : (language : List Verb) (next : Expected) (word : List ℕ) → PastVerb next → (after_word language next word ≡ after_word [] next word) × IfSome (after_word [] next word) PastVerb
goes_past language expected.Session word h = absurd h
goes_past language expected.Verb word h = absurd h
goes_past language expected.Statement word h = absurd h
goes_past language expected.End word h = (refl, tt)
goes_past language expected.InsertTable word h = (refl, past_where (is_name word) expected.Values tt)
goes_past language expected.Values word h = (refl, past_where (is_value_word word) expected.Values tt)
goes_past language expected.QueryTable word h = (refl, past_where (is_name word) expected.Where tt)
goes_past language expected.Where word h = (refl, past_where (bytes_eq word (codes "where")) (expected.Column 15) tt)
goes_past language (expected.And left) word h = (refl, past_where (nat_lt 0 left && bytes_eq word (codes "and")) (expected.Column (left - 1)) tt)
goes_past language (expected.Column left) word h = (refl, past_where (is_name word) (expected.Operator left) tt)
goes_past language (expected.Operator left) word h = (
  refl,
  past_either (bytes_eq word (codes "is")) (expected.Null left) (where_so (is_some (op_of word)) (expected.Value left)) tt (past_where (is_some (op_of word)) (expected.Value left) tt),
)
goes_past language (expected.Value left) word h = (refl, past_where (is_value_word word) (expected.And left) tt)
goes_past language (expected.Null left) word h = (
  refl,
  past_either (bytes_eq word (codes "not")) (expected.NotNull left) (where_so (bytes_eq word (codes "null")) (expected.And left)) tt (past_where (bytes_eq word (codes "null")) (expected.And left) tt),
)
goes_past language (expected.NotNull left) word h = (refl, past_where (bytes_eq word (codes "null")) (expected.And left) tt)
goes_past language expected.SummarizedIndex word h = (refl, past_where (is_name word) expected.MayHaveBlock tt)
goes_past language expected.MayHaveBlock word h = (refl, past_where (is_block word) expected.End tt)
goes_past language expected.DesummarizedIndex word h = (refl, past_where (is_name word) expected.Block tt)
goes_past language expected.Block word h = (refl, past_where (is_block word) expected.End tt)
goes_past language expected.VacuumedTable word h = (refl, past_where (is_name word) expected.End tt)

same_by : (o : Option Expected) (at : ℕ) (a b : Expected → Option ℕ) → IfSome o PastVerb → ((next : Expected) → PastVerb next → a next ≡ b next) → stop_behind o at a ≡ stop_behind o at b
same_by None at a b past same = refl
same_by (Some next) at a b past same = same next past

of_no_language : (language : List Verb) (len : ℕ) (next : Expected) (words : List PlacedWord) → PastVerb next → stop_from language len next words ≡ stop_from [] len next words
of_no_language language len next [] h = refl
of_no_language language len next (word ∷ words) h =
    let g = goes_past language next word.text h in
    ap (λ (o : Option Expected). stop_behind o word.at (λ behind. stop_from language len behind words)) g.0
    ∙ same_by (after_word [] next word.text) word.at (λ behind. stop_from language len behind words) (λ behind. stop_from [] len behind words) g.1
    (λ behind past. of_no_language language len behind words past)

-- so the words stop at the same place
pub same_behind : (one other : List Verb) (len : ℕ) (next : Expected) (words : List PlacedWord) → PastVerb next → stop_from one len next words ≡ stop_from other len next words
same_behind one other len next words h = of_no_language one len next words h ∙ sym (of_no_language other len next words h)
