-- What one look at words finds.
use Rattle.std.proofs.Common.{◌≡◌, ℕ, zero, suc, ◌+◌, ◌-◌, ◌<◌, ◌≤◌, nat_lt, Bool, true, false, ◌||◌, ◌&&◌, cond, List, [], ◌∷◌, ◌++◌, length, codes, Option, None, Some, IfSome, Result, Ok, Err, refl, sym, ap, ◌∙◌, subst, arith, add-one, length-append}
use Rattle.std.specs.Option.{is_some, option_map, option_and_then}
use Rattle.std.specs.Str.{bytes_eq}
use Rattle.std.proofs.lemmas.Bool.{false≢true, or_left, or_right}
use Rattle.block_model.specs.Names.{is_name}
use Rattle.block_model.specs.declared.value.Kind.{Kind}
use Rattle.block_model.specs.declared.value.Kind.TheVariants as kinds
use Rattle.block_model.specs.declared.value.Value.{Value}
use Rattle.block_model.specs.declared.row.Cond.{Cond}
use Rattle.block_model.specs.declared.schema.Schema.{Schema}
use Rattle.block_model.specs.declared.schema.Column.{Column}
use Rattle.block_model.specs.declared.limits.TheConstants.{MAX_CONDITIONS}
use Rattle.value_text.specs.ValueOf.{value_of, ValueOfIsDenoted}
use Rattle.store_layout.specs.declared.statement.Statement.{Statement}
use Rattle.store_layout.specs.declared.statement.Statement.TheVariants as statements
use Rattle.query_words.specs.declared.verb.Verb.{Verb}
use Rattle.query_words.specs.declared.verb.Verb.TheVariants as verbs
use Rattle.query_words.specs.Words.{PlacedWord, texts_of}
use Rattle.query_words.specs.ValueWords.{is_value_word}
use Rattle.query_words.specs.Operators.{op_of}
use Rattle.query_words.specs.Blocks.{is_block, block_of}
use Rattle.query_words.specs.Verbs.{verb_of}
use Rattle.query_words.specs.declared.line.Line.{Line}
use Rattle.query_words.specs.declared.line.Line.TheVariants as lines
use Rattle.query_words.specs.declared.line.Order.{Order}
use Rattle.query_words.specs.declared.line.Order.TheVariants as orders
use Rattle.query_words.specs.declared.line.LineFault.{LineFault}
use Rattle.query_words.specs.declared.line.LineFault.TheVariants as faults
use Rattle.query_words.specs.declared.syntax.Expected.{Expected}
use Rattle.query_words.specs.declared.syntax.Expected.TheVariants as expected
use Rattle.query_words.specs.Grammar.{SaidCond, SaidStatement, SaidOrder, Whole, Start, Nothing, Say, IsSaidCond, cond_texts, is_comment}
use Rattle.query_words.specs.Syntax.{where_so, after_verb, after_started, after_word, stop_behind, stop_from, stop_of, stop_after, behind_conds, BeginsNoCond}
use Rattle.query_words.specs.Parsed.{conds_from, insert_of_words, summarize_of_words, desummarize_of_words, statement_behind, statement_of_words, order_behind, order_of_words, said_of, BeginsWith}
use Rattle.query_words.specs.Statements.{◌>>=◌, made_of, table_said, value_said, cond_said, conds_said, values_said, insert_said, index_said, statement_judged, order_judged}
use Rattle.query_words.specs.Lines.{ReadsAs, ReadsOnce, line_judged}
use Rattle.query_words.proofs.Accepting.{accepts_behind, accepts, stops_nowhere, accepted_stops_nowhere}
use Rattle.query_words.proofs.Completeness.{cond_accepts}
use Rattle.query_words.proofs.FitLemmas.{came, found_there}
use Rattle.query_words.proofs.ReadLemmas.{IsResolved, insert_resolved}

accepted_there : (len count : ℕ) (words rest behind : List PlacedWord) (word : PlacedWord) → accepts [] expected.Where (texts_of words) ≡ accepts [] (behind_conds count) (texts_of rest)
    → rest ≡ word ∷ behind → stop_after len expected.Where words ≡ None → accepts_behind (after_word [] (behind_conds count) word.text) (λ next. accepts [] next (texts_of behind)) ≡ true
accepted_there len count words rest behind word same is stop =
    ap (λ (ws : List PlacedWord). accepts [] (behind_conds count) (texts_of ws)) (sym is) ∙ sym same ∙ stops_nowhere [] len expected.Where words stop

-- a word that announces no condition
pub no_joint : (len count : ℕ) (words rest : List PlacedWord) (word : PlacedWord) (behind : List PlacedWord) (announced : Bool)
    → accepts [] expected.Where (texts_of words) ≡ accepts [] (behind_conds count) (texts_of rest) → rest ≡ word ∷ behind
    → after_word [] (behind_conds count) word.text ≡ where_so announced (expected.Column (15 - count)) → announced ≡ false → stop_after len expected.Where words ≡ None → ⊥
no_joint len count words rest word behind announced same is after low stop =
    let there = accepted_there len count words rest behind word same is stop in
    let refused : accepts_behind (after_word [] (behind_conds count) word.text) (λ next. accepts [] next (texts_of behind)) ≡ false =
    ap (λ (o : Option Expected). accepts_behind o (λ next. accepts [] next (texts_of behind))) (after ∙ ap (λ (b : Bool). where_so b (expected.Column (15 - count))) low) in
    false≢true (sym refused ∙ there)

-- words behind it that begin no condition
pub no_cond : (len count : ℕ) (words rest : List PlacedWord) (word : PlacedWord) (behind : List PlacedWord) (announced : Bool)
    → accepts [] expected.Where (texts_of words) ≡ accepts [] (behind_conds count) (texts_of rest) → rest ≡ word ∷ behind
    → after_word [] (behind_conds count) word.text ≡ where_so announced (expected.Column (15 - count)) → announced ≡ true → BeginsNoCond behind
    → stop_after len expected.Where words ≡ None → ⊥
no_cond len count words rest word behind announced same is after so none stop =
    let there = accepted_there len count words rest behind word same is stop in
    let on : accepts [] (expected.Column (15 - count)) (texts_of behind) ≡ true =
    sym (ap (λ (o : Option Expected). accepts_behind o (λ next. accepts [] next (texts_of behind))) (after ∙ ap (λ (b : Bool). where_so b (expected.Column (15 - count))) so)) ∙ there in
    none len (15 - count) (accepted_stops_nowhere [] len (expected.Column (15 - count)) behind on)

behind_more : (count : ℕ) → behind_conds (count + 1) ≡ expected.And (15 - count)
behind_more count = ap behind_conds (add-one count) ∙ ap (λ (n : ℕ). expected.And n) (let k : 16 - suc count ≡ 15 - count = omega arith in k)

-- what the loop over conditions keeps
abbrev pub Kept : List Column → ℕ → List PlacedWord → List PlacedWord → List Cond → Bool → Type 0
Kept columns count words rest conds has_memory =
    (done : List Cond)
    × (conds_said columns done (conds_from [] rest) ≡ conds_said columns [] (conds_from [] words))
    × (has_memory ≡ true → conds ≡ done)
    × (length conds ≤ length done)
    × (length done ≡ count)
    × (count ≤ 16)
    × (accepts [] expected.Where (texts_of words) ≡ accepts [] (behind_conds count) (texts_of rest))

pub conds_kept : ValueOfIsDenoted → (columns : List Column) (count : ℕ) (words rest : List PlacedWord) (word : PlacedWord) (behind : List PlacedWord)
    (said : SaidCond PlacedWord) (behind' : List PlacedWord) (c : Cond) (conds conds' : List Cond) (has_memory has_memory' announced : Bool)
    → Kept columns count words rest conds has_memory → rest ≡ word ∷ behind → after_word [] (behind_conds count) word.text ≡ where_so announced (expected.Column (15 - count)) → announced ≡ true
    → (announced ≡ true → count < MAX_CONDITIONS) → BeginsWith behind said behind' → cond_said columns said ≡ Ok c → IsSaidCond (cond_texts said)
    → (has_memory' ≡ true → (conds' ≡ conds ++ c ∷ []) × (has_memory ≡ true)) → length conds' ≤ length conds + 1
    → Kept columns (count + 1) words behind' conds' has_memory'
conds_kept law columns count words rest word behind said behind' c conds conds' has_memory has_memory' announced kept is after so room begins made is_said keeps few =
    let done : List Cond = kept.0 in
    let more : List Cond = done ++ c ∷ [] in
    let size : length more ≡ length done + 1 = length-append done (c ∷ []) in
    let shorter : length conds ≤ length done = kept.3 in
    let counted : length done ≡ count = kept.4 in
    let low : count < 16 = room so in
    let first : conds_said columns done (conds_from [] rest) ≡ conds_said columns more (conds_from [] behind') =
    ap (λ (ws : List PlacedWord). conds_said columns done (conds_from [] ws)) is ∙ ap (conds_said columns done) (begins.parsed word)
    ∙ ap (λ (r : Result Cond LineFault). r >>= λ x. conds_said columns (done ++ x ∷ []) (conds_from [] behind')) made in
    let on : accepts [] (behind_conds count) (texts_of rest) ≡ accepts [] (expected.Column (15 - count)) (texts_of behind) =
    ap (λ (ws : List PlacedWord). accepts [] (behind_conds count) (texts_of ws)) is
    ∙ ap (λ (o : Option Expected). accepts_behind o (λ next. accepts [] next (texts_of behind))) (after ∙ ap (λ (b : Bool). where_so b (expected.Column (15 - count))) so) in
    let through : accepts [] (expected.Column (15 - count)) (texts_of behind) ≡ accepts [] (expected.And (15 - count)) (texts_of behind') =
    ap (accepts [] (expected.Column (15 - count))) begins.texts ∙ cond_accepts [] law (15 - count) (cond_texts said) (texts_of behind') is_said in (
      more,
      sym first ∙ kept.1,
      (λ h. let k = keeps h in k.0 ∙ ap (λ (l : List Cond). l ++ c ∷ []) (kept.2 k.1)),
      omega (arith, few, shorter, size),
      size ∙ ap (λ (n : ℕ). n + 1) counted,
      omega (arith, low),
      kept.6 ∙ on ∙ through ∙ ap (λ (e : Expected). accepts [] e (texts_of behind')) (sym (behind_more count)),
    )

ends_there : (count : ℕ) → accepts [] (behind_conds count) [] ≡ true
ends_there zero = refl
ends_there (suc n) = refl

-- no word is left behind the conditions
pub conds_end : (len : ℕ) (columns : List Column) (count : ℕ) (words rest : List PlacedWord) (conds : List Cond) (has_memory : Bool) → Kept columns count words rest conds has_memory → rest ≡ []
    → has_memory ≡ true → (stop_after len expected.Where words ≡ None) × (conds_said columns [] (conds_from [] words) ≡ Ok conds)
conds_end len columns count words rest conds has_memory kept is so = (
  accepted_stops_nowhere [] len expected.Where words (kept.6 ∙ ap (λ (ws : List PlacedWord). accepts [] (behind_conds count) (texts_of ws)) is ∙ ends_there count),
  sym kept.1 ∙ ap (λ (ws : List PlacedWord). conds_said columns kept.0 (conds_from [] ws)) is ∙ ap (λ (l : List Cond). Ok l) (sym (kept.2 so)),
)

-- a fault that isn't of syntax and no want of memory is what is said
pub resolved_reads : {T : Type 0} (fault : LineFault) (said : Result T LineFault) → IsResolved said → said ≡ Err fault → ReadsAs {T = T} (Err fault) said
resolved_reads (faults.Syntax at) said h e = e
resolved_reads (faults.NoTable at) said h e = e
resolved_reads (faults.NoIndex at) said h e = e
resolved_reads (faults.NoColumn at) said h e = e
resolved_reads (faults.Kind at) said h e = e
resolved_reads {T} faults.Memory said h e = absurd (subst (λ (r : Result T LineFault). IsResolved r) e h)

-- a value of a kind is one of some kind
value_stands : (kind : Kind) (word : List ℕ) (value : Value) → value_of kind word ≡ Some value → is_value_word word ≡ true
value_stands kinds.Int word value e =
    or_left (is_some (value_of kinds.Int word) || is_some (value_of kinds.Span word)) (is_some (value_of kinds.Net word))
    (or_left (is_some (value_of kinds.Int word)) (is_some (value_of kinds.Span word)) (ap is_some e))
value_stands kinds.Span word value e =
    or_left (is_some (value_of kinds.Int word) || is_some (value_of kinds.Span word)) (is_some (value_of kinds.Net word))
    (or_right (is_some (value_of kinds.Int word)) (is_some (value_of kinds.Span word)) (ap is_some e))
value_stands kinds.Net word value e =
    or_right (is_some (value_of kinds.Int word) || is_some (value_of kinds.Span word)) (is_some (value_of kinds.Net word)) (ap is_some e)

goes_on : (len : ℕ) (b : Bool) (next : Expected) (at : ℕ) (rest : List PlacedWord) → b ≡ true → stop_after len next rest ≡ None
    → stop_behind (where_so b next) at (λ behind. stop_after len behind rest) ≡ None
goes_on len true next at rest so h = h
goes_on len false next at rest so h = cc

-- a value for each column stops nowhere
pub values_stop : (len : ℕ) (done : List Value) (columns : List Column) (words : List PlacedWord) (all : List Value) → values_said len done columns words ≡ Ok all
    → stop_after len expected.Values words ≡ None
values_stop len done [] [] all h = refl
values_stop len done [] (word ∷ words) all h = cc
values_stop len done (column ∷ columns) [] all h = cc
values_stop len done (column ∷ columns) (word ∷ words) all h =
    let a = came (value_said column.kind word) (λ v. values_said len (done ++ v ∷ []) columns words) all h in
    goes_on len (is_value_word word.text) expected.Values word.at words
    (value_stands column.kind word.text a.from (found_there (faults.Kind word.at) (value_of column.kind word.text) a.from a.first))
    (values_stop len (done ++ a.from ∷ []) columns words all a.then)

pub insert_err : (schema : Schema) (len : ℕ) (words rest : List PlacedWord) (word : PlacedWord) (n : ℕ) (columns : List Column) (fault : LineFault) → words ≡ word ∷ rest
    → table_said schema word ≡ Ok (n, columns) → values_said len [] columns rest ≡ Err fault → ReadsAs {T = Statement} (Err fault) (statement_judged schema len (insert_of_words words))
insert_err schema len words rest word n columns fault is table values =
    let e : insert_said schema len word rest ≡ Err fault =
    ap (λ (r : Result (ℕ × List Column) LineFault). r >>= λ t. values_said len [] t.1 rest >>= λ vs. Ok (statements.Insert t.0 vs)) table
    ∙ ap (λ (r : Result (List Value) LineFault). r >>= λ vs. Ok (statements.Insert n vs)) values in
    subst (λ (ws : List PlacedWord). ReadsAs {T = Statement} (Err fault) (statement_judged schema len (insert_of_words ws))) (sym is)
    (resolved_reads fault (insert_said schema len word rest) (insert_resolved schema len word rest) e)

pub insert_ok : (schema : Schema) (len : ℕ) (words rest : List PlacedWord) (word : PlacedWord) (n : ℕ) (columns : List Column) (row : List Value) → words ≡ word ∷ rest
    → table_said schema word ≡ Ok (n, columns) → is_name word.text ≡ true → values_said len [] columns rest ≡ Ok row
    → (stop_after len expected.InsertTable words ≡ None) × (statement_judged schema len (insert_of_words words) ≡ Ok (statements.Insert n row))
insert_ok schema len words rest word n columns row is table named values = (
  ap (stop_after len expected.InsertTable) is ∙ goes_on len (is_name word.text) expected.Values word.at rest named (values_stop len [] columns rest row values),
  ap (λ (ws : List PlacedWord). statement_judged schema len (insert_of_words ws)) is
      ∙ ap (λ (r : Result (ℕ × List Column) LineFault). r >>= λ t. values_said len [] t.1 rest >>= λ vs. Ok (statements.Insert t.0 vs)) table
      ∙ ap (λ (r : Result (List Value) LineFault). r >>= λ vs. Ok (statements.Insert n vs)) values,
)

-- an index and a block
pub desummarize_ok : (schema : Schema) (len : ℕ) (words rest rest' : List PlacedWord) (word block : PlacedWord) (i n : ℕ) → words ≡ word ∷ rest → rest ≡ block ∷ rest'
    → index_said schema word ≡ Ok i → is_name word.text ≡ true → ReadsOnce {T = ℕ} (Ok n) (stop_after len expected.Block (block ∷ rest')) (Ok (block_of block.text))
    → (stop_after len expected.DesummarizedIndex words ≡ None) × (statement_judged schema len (desummarize_of_words words) ≡ Ok (statements.Desummarize i n))
desummarize_ok schema len words rest rest' word block i n is more index named p =
    let shape : words ≡ word ∷ block ∷ rest' = is ∙ ap (λ (ws : List PlacedWord). word ∷ ws) more in
    let number : block_of block.text ≡ n = let e = p.1 in cc in (
      ap (stop_after len expected.DesummarizedIndex) shape ∙ goes_on len (is_name word.text) expected.Block word.at (block ∷ rest') named p.0,
      ap (λ (ws : List PlacedWord). statement_judged schema len (desummarize_of_words ws)) shape
          ∙ ap (λ (r : Result ℕ LineFault). r >>= λ x. Ok (statements.Desummarize x (block_of block.text))) index ∙ ap (λ (m : ℕ). Ok (statements.Desummarize i m)) number,
    )

-- an index and perhaps a block
pub summarize_ok : (schema : Schema) (len : ℕ) (words rest rest' : List PlacedWord) (word block : PlacedWord) (i n : ℕ) → words ≡ word ∷ rest → rest ≡ block ∷ rest'
    → index_said schema word ≡ Ok i → is_name word.text ≡ true → ReadsOnce {T = ℕ} (Ok n) (stop_after len expected.Block (block ∷ rest')) (Ok (block_of block.text))
    → (stop_after len expected.SummarizedIndex words ≡ None) × (statement_judged schema len (summarize_of_words words) ≡ Ok (statements.Summarize i (Some n)))
summarize_ok schema len words rest rest' word block i n is more index named p =
    let shape : words ≡ word ∷ block ∷ rest' = is ∙ ap (λ (ws : List PlacedWord). word ∷ ws) more in
    let number : block_of block.text ≡ n = let e = p.1 in cc in (
      ap (stop_after len expected.SummarizedIndex) shape ∙ goes_on len (is_name word.text) expected.MayHaveBlock word.at (block ∷ rest') named p.0,
      ap (λ (ws : List PlacedWord). statement_judged schema len (summarize_of_words ws)) shape
          ∙ ap (λ (r : Result ℕ LineFault). r >>= λ x. Ok (statements.Summarize x (Some (block_of block.text)))) index ∙ ap (λ (m : ℕ). Ok (statements.Summarize i (Some m))) number,
    )

-- behind a verb no verb follows, and the language says nothing
abbrev PastVerb : Expected → Type 0
PastVerb expected.Session = ⊥
PastVerb expected.Verb = ⊥
PastVerb expected.Statement = ⊥
PastVerb next = Unit {0}

past_where : (b : Bool) (next : Expected) → PastVerb next → IfSome (where_so b next) PastVerb
past_where true next h = h
past_where false next h = tt

past_either : (b : Bool) (next : Expected) (other : Option Expected) → PastVerb next → IfSome other PastVerb → IfSome (cond b (Some next) other) PastVerb
past_either true next other h k = h
past_either false next other h k = k

record GoesPast (language : List Verb) (next : Expected) (word : List ℕ) : Type 0 where
  same : after_word language next word ≡ after_word [] next word
  past : IfSome (after_word [] next word) PastVerb

goes_past : (language : List Verb) (next : Expected) (word : List ℕ) → PastVerb next → GoesPast language next word
goes_past language expected.Session word h = absurd h
goes_past language expected.Verb word h = absurd h
goes_past language expected.Statement word h = absurd h
goes_past language expected.End word h = record { same = refl; past = tt }
goes_past language expected.InsertTable word h = record { same = refl; past = past_where (is_name word) expected.Values tt }
goes_past language expected.Values word h = record { same = refl; past = past_where (is_value_word word) expected.Values tt }
goes_past language expected.QueryTable word h = record { same = refl; past = past_where (is_name word) expected.Where tt }
goes_past language expected.Where word h = record { same = refl; past = past_where (bytes_eq word (codes "where")) (expected.Column 15) tt }
goes_past language (expected.And left) word h = record { same = refl; past = past_where (nat_lt 0 left && bytes_eq word (codes "and")) (expected.Column (left - 1)) tt }
goes_past language (expected.Column left) word h = record { same = refl; past = past_where (is_name word) (expected.Operator left) tt }
goes_past language (expected.Operator left) word h = record {
  same = refl;
  past = past_either (bytes_eq word (codes "is")) (expected.Null left) (where_so (is_some (op_of word)) (expected.Value left)) tt (past_where (is_some (op_of word)) (expected.Value left) tt);
}
goes_past language (expected.Value left) word h = record { same = refl; past = past_where (is_value_word word) (expected.And left) tt }
goes_past language (expected.Null left) word h = record {
  same = refl;
  past = past_either (bytes_eq word (codes "not")) (expected.NotNull left) (where_so (bytes_eq word (codes "null")) (expected.And left)) tt (past_where (bytes_eq word (codes "null")) (expected.And left) tt);
}
goes_past language (expected.NotNull left) word h = record { same = refl; past = past_where (bytes_eq word (codes "null")) (expected.And left) tt }
goes_past language expected.SummarizedIndex word h = record { same = refl; past = past_where (is_name word) expected.MayHaveBlock tt }
goes_past language expected.MayHaveBlock word h = record { same = refl; past = past_where (is_block word) expected.End tt }
goes_past language expected.DesummarizedIndex word h = record { same = refl; past = past_where (is_name word) expected.Block tt }
goes_past language expected.Block word h = record { same = refl; past = past_where (is_block word) expected.End tt }
goes_past language expected.VacuumedTable word h = record { same = refl; past = past_where (is_name word) expected.End tt }

same_by : (o : Option Expected) (at : ℕ) (a b : Expected → Option ℕ) → IfSome o PastVerb → ((next : Expected) → PastVerb next → a next ≡ b next) → stop_behind o at a ≡ stop_behind o at b
same_by None at a b past same = refl
same_by (Some next) at a b past same = same next past

same_behind : (language : List Verb) (len : ℕ) (next : Expected) (words : List PlacedWord) → PastVerb next → stop_from language len next words ≡ stop_after len next words
same_behind language len next [] h = refl
same_behind language len next (word ∷ words) h =
    let g = goes_past language next word.text h in
    ap (λ (o : Option Expected). stop_behind o word.at (λ behind. stop_from language len behind words)) g.same
    ∙ same_by (after_word [] next word.text) word.at (λ behind. stop_from language len behind words) (λ behind. stop_after len behind words) g.past
    (λ behind past. same_behind language len behind words past)

after_past : (v : Verb) → (v ≡ verbs.Start → ⊥) → PastVerb (after_verb v)
after_past verbs.Begin not = tt
after_past verbs.Commit not = tt
after_past verbs.Rollback not = tt
after_past verbs.Insert not = tt
after_past verbs.Select not = tt
after_past verbs.Delete not = tt
after_past verbs.Explain not = tt
after_past verbs.Summarize not = tt
after_past verbs.Desummarize not = tt
after_past verbs.Vacuum not = tt
after_past verbs.Work not = tt
after_past verbs.Step not = tt
after_past verbs.Finish not = tt
after_past verbs.Start not = absurd (not refl)

once_same : {T : Type 0} (r : Result T LineFault) (stop stop' : Option ℕ) (said said' : Result T LineFault) → stop' ≡ stop → said' ≡ said → ReadsOnce r stop said → ReadsOnce r stop' said'
once_same (Ok x) stop stop' said said' a b h = (a ∙ h.0, b ∙ h.1)
once_same {T} (Err fault) stop stop' said said' a b h = λ none. subst (λ (s : Result T LineFault). ReadsAs {T = T} (Err fault) s) (sym b) (h (sym a ∙ none))

reads_through : {A B : Type 0} (fault : LineFault) (said : Result A LineFault) (make : A → B) → ReadsAs {T = A} (Err fault) said → ReadsAs {T = B} (Err fault) (said >>= λ x. Ok (make x))
reads_through (faults.Syntax at) said make h = ap (λ r. r >>= λ x. Ok (make x)) h
reads_through (faults.NoTable at) said make h = ap (λ r. r >>= λ x. Ok (make x)) h
reads_through (faults.NoIndex at) said make h = ap (λ r. r >>= λ x. Ok (make x)) h
reads_through (faults.NoColumn at) said make h = ap (λ r. r >>= λ x. Ok (make x)) h
reads_through (faults.Kind at) said make h = ap (λ r. r >>= λ x. Ok (make x)) h
reads_through faults.Memory (Ok x) make h = refl
reads_through faults.Memory (Err fault) make h = cc

-- what is made of what was read
pub once_through_ok : {A B : Type 0} (x : A) (stop : Option ℕ) (said : Result A LineFault) (make : A → B) → ReadsOnce {T = A} (Ok x) stop said
    → ReadsOnce {T = B} (Ok (make x)) stop (said >>= λ y. Ok (make y))
once_through_ok x stop said make h = (h.0, ap (λ r. r >>= λ y. Ok (make y)) h.1)

pub once_through_err : {A B : Type 0} (fault : LineFault) (stop : Option ℕ) (said : Result A LineFault) (make : A → B) → ReadsOnce {T = A} (Err fault) stop said
    → ReadsOnce {T = B} (Err fault) stop (said >>= λ y. Ok (make y))
once_through_err fault stop said make h = λ none. reads_through fault said make (h none)

-- the verb of an order, and of a statement behind `start`
verb_stop : (language : List Verb) (len : ℕ) (words rest : List PlacedWord) (word : PlacedWord) (v : Verb) → words ≡ word ∷ rest → verb_of language word.text ≡ Some v
    → stop_from language len expected.Verb words ≡ stop_from language len (after_verb v) rest
verb_stop language len words rest word v is verb =
    ap (stop_from language len expected.Verb) is ∙ ap (λ (o : Option Verb). stop_behind (option_map after_verb o) word.at (λ behind. stop_from language len behind rest)) verb

verb_order : (language : List Verb) (schema : Schema) (len : ℕ) (words rest : List PlacedWord) (word : PlacedWord) (v : Verb) → words ≡ word ∷ rest → verb_of language word.text ≡ Some v
    → order_judged schema len (order_of_words language words) ≡ order_judged schema len (order_behind language v rest)
verb_order language schema len words rest word v is verb =
    ap (λ (ws : List PlacedWord). order_judged schema len (order_of_words language ws)) is
    ∙ ap (λ (o : Option Verb). order_judged schema len (option_and_then (λ u. order_behind language u rest) o)) verb

judged_whole : (schema : Schema) (len : ℕ) (o : Option (SaidStatement PlacedWord))
    → order_judged schema len (option_map Whole o) ≡ (statement_judged schema len o >>= λ s. Ok (orders.Whole s))
judged_whole schema len None = refl
judged_whole schema len (Some said) = refl

judged_start : (schema : Schema) (len : ℕ) (o : Option (SaidStatement PlacedWord))
    → order_judged schema len (option_map Start o) ≡ (statement_judged schema len o >>= λ s. Ok (orders.Start s))
judged_start schema len None = refl
judged_start schema len (Some said) = refl

whole_order : (language : List Verb) (v : Verb) (rest : List PlacedWord) → (v ≡ verbs.Start → ⊥) → (v ≡ verbs.Step → ⊥) → (v ≡ verbs.Finish → ⊥)
    → order_behind language v rest ≡ option_map Whole (statement_behind v rest)
whole_order language verbs.Begin rest a b d = refl
whole_order language verbs.Commit rest a b d = refl
whole_order language verbs.Rollback rest a b d = refl
whole_order language verbs.Insert rest a b d = refl
whole_order language verbs.Select rest a b d = refl
whole_order language verbs.Delete rest a b d = refl
whole_order language verbs.Explain rest a b d = refl
whole_order language verbs.Summarize rest a b d = refl
whole_order language verbs.Desummarize rest a b d = refl
whole_order language verbs.Vacuum rest a b d = refl
whole_order language verbs.Work rest a b d = refl
whole_order language verbs.Start rest a b d = absurd (a refl)
whole_order language verbs.Step rest a b d = absurd (b refl)
whole_order language verbs.Finish rest a b d = absurd (d refl)

-- the verb, and what the words behind it are
pub verb_once : {T : Type 0} (language : List Verb) (schema : Schema) (len : ℕ) (words rest : List PlacedWord) (word : PlacedWord) (v : Verb) (make : Order → T) (r : Result T LineFault)
    → words ≡ word ∷ rest → verb_of language word.text ≡ Some v
    → ReadsOnce r (stop_from language len (after_verb v) rest) (made_of make (order_judged schema len (order_behind language v rest)))
    → ReadsOnce r (stop_from language len expected.Verb words) (made_of make (order_judged schema len (order_of_words language words)))
verb_once language schema len words rest word v make r is verb h =
    once_same r (stop_from language len (after_verb v) rest) (stop_from language len expected.Verb words) (made_of make (order_judged schema len (order_behind language v rest)))
    (made_of make (order_judged schema len (order_of_words language words))) (verb_stop language len words rest word v is verb)
    (ap (λ (o : Result Order LineFault). made_of make o) (verb_order language schema len words rest word v is verb)) h

made_twice : {A B C : Type 0} (f : B → C) (g : A → B) (said : Result A LineFault) → made_of f (made_of g said) ≡ made_of (λ a. f (g a)) said
made_twice f g (Ok x) = refl
made_twice f g (Err fault) = refl

-- an insert as a whole, for what is made of its order
pub insert_once : {T : Type 0} (language : List Verb) (schema : Schema) (len : ℕ) (rest : List PlacedWord) (make : Order → T) (r : Result T LineFault)
    → ReadsOnce r (stop_after len expected.InsertTable rest) (made_of (λ s. make (orders.Whole s)) (statement_judged schema len (insert_of_words rest)))
    → ReadsOnce r (stop_from language len expected.InsertTable rest) (made_of make (order_judged schema len (order_behind language verbs.Insert rest)))
insert_once language schema len rest make r h =
    once_same r (stop_after len expected.InsertTable rest) (stop_from language len expected.InsertTable rest) (made_of (λ s. make (orders.Whole s)) (statement_judged schema len (insert_of_words rest)))
    (made_of make (order_judged schema len (order_behind language verbs.Insert rest))) (same_behind language len expected.InsertTable rest tt)
    (ap (λ (o : Result Order LineFault). made_of make o) (judged_whole schema len (insert_of_words rest)) ∙ made_twice make (λ s. orders.Whole s) (statement_judged schema len (insert_of_words rest))) h

-- what the words behind a verb are found to be
abbrev pub FindsBehind : List Verb → Schema → ℕ → List PlacedWord → Result Order LineFault → Verb → Type 0
FindsBehind language schema len rest r v = ReadsOnce r (stop_from language len (after_verb v) rest) (order_judged schema len (order_behind language v rest))

-- a statement as a whole
pub whole_once : (language : List Verb) (schema : Schema) (len : ℕ) (rest : List PlacedWord) (v : Verb) (r : Result Order LineFault)
    → (v ≡ verbs.Start → ⊥) → (v ≡ verbs.Step → ⊥) → (v ≡ verbs.Finish → ⊥)
    → ReadsOnce r (stop_after len (after_verb v) rest) (statement_judged schema len (statement_behind v rest) >>= λ s. Ok (orders.Whole s)) → FindsBehind language schema len rest r v
whole_once language schema len rest v r a b d h =
    once_same r (stop_after len (after_verb v) rest) (stop_from language len (after_verb v) rest) (statement_judged schema len (statement_behind v rest) >>= λ s. Ok (orders.Whole s))
    (order_judged schema len (order_behind language v rest)) (same_behind language len (after_verb v) rest (after_past v a))
    (ap (order_judged schema len) (whole_order language v rest a b d) ∙ judged_whole schema len (statement_behind v rest)) h

-- a statement that is started
pub start_once : (language : List Verb) (schema : Schema) (len : ℕ) (rest : List PlacedWord) (v : Verb) (r : Result Order LineFault) → v ≡ verbs.Start
    → ReadsOnce r (stop_from language len expected.Statement rest) (statement_judged schema len (statement_of_words language rest) >>= λ s. Ok (orders.Start s)) → FindsBehind language schema len rest r v
start_once language schema len rest v r is h =
    subst (FindsBehind language schema len rest r) (sym is)
    (once_same r (stop_from language len expected.Statement rest) (stop_from language len expected.Statement rest) (statement_judged schema len (statement_of_words language rest) >>= λ s. Ok (orders.Start s))
    (order_judged schema len (order_behind language verbs.Start rest)) refl (judged_start schema len (statement_of_words language rest)) h)

-- a step, or all that are left
pub step_once : (language : List Verb) (schema : Schema) (len : ℕ) (rest : List PlacedWord) (v : Verb) (r : Result Order LineFault) → v ≡ verbs.Step
    → ReadsOnce r (stop_after len expected.End rest) (Ok orders.Step) → FindsBehind language schema len rest r v
step_once language schema len rest v r is h =
    subst (FindsBehind language schema len rest r) (sym is)
    (once_same r (stop_after len expected.End rest) (stop_from language len expected.End rest) (Ok orders.Step) (Ok orders.Step) (same_behind language len expected.End rest tt) refl h)

pub finish_once : (language : List Verb) (schema : Schema) (len : ℕ) (rest : List PlacedWord) (v : Verb) (r : Result Order LineFault) → v ≡ verbs.Finish
    → ReadsOnce r (stop_after len expected.End rest) (Ok orders.Finish) → FindsBehind language schema len rest r v
finish_once language schema len rest v r is h =
    subst (FindsBehind language schema len rest r) (sym is)
    (once_same r (stop_after len expected.End rest) (stop_from language len expected.End rest) (Ok orders.Finish) (Ok orders.Finish) (same_behind language len expected.End rest tt) refl h)

statement_stop : (language : List Verb) (len : ℕ) (words rest : List PlacedWord) (word : PlacedWord) (v : Verb) → words ≡ word ∷ rest → verb_of language word.text ≡ Some v
    → stop_from language len expected.Statement words ≡ stop_behind (after_started v) word.at (λ behind. stop_from language len behind rest)
statement_stop language len words rest word v is verb =
    ap (stop_from language len expected.Statement) is ∙ ap (λ (o : Option Verb). stop_behind (option_and_then after_started o) word.at (λ behind. stop_from language len behind rest)) verb

statement_words : (language : List Verb) (schema : Schema) (len : ℕ) (words rest : List PlacedWord) (word : PlacedWord) (v : Verb) → words ≡ word ∷ rest → verb_of language word.text ≡ Some v
    → statement_judged schema len (statement_of_words language words) ≡ statement_judged schema len (statement_behind v rest)
statement_words language schema len words rest word v is verb =
    ap (λ (ws : List PlacedWord). statement_judged schema len (statement_of_words language ws)) is
    ∙ ap (λ (o : Option Verb). statement_judged schema len (option_and_then (λ u. statement_behind u rest) o)) verb

-- a verb behind `start` that is no statement's
no_statement : (r : Result Statement LineFault) (at len : ℕ) (stop said' : Option ℕ) (said : Result Statement LineFault) → stop ≡ Some at → ReadsOnce r said' (Err (faults.Syntax len)) → ReadsOnce r stop said
no_statement (Ok s) at len stop said' said e h = let k = h.1 in cc
no_statement (Err fault) at len stop said' said e h = λ none. let k : Some at ≡ None = sym e ∙ none in cc

-- a verb behind `start` that is
some_statement : (language : List Verb) (schema : Schema) (len : ℕ) (words rest : List PlacedWord) (word : PlacedWord) (v : Verb) (r : Result Statement LineFault) → words ≡ word ∷ rest
    → verb_of language word.text ≡ Some v → after_started v ≡ Some (after_verb v) → (v ≡ verbs.Start → ⊥)
    → ReadsOnce r (stop_after len (after_verb v) rest) (statement_judged schema len (statement_behind v rest))
    → ReadsOnce r (stop_from language len expected.Statement words) (statement_judged schema len (statement_of_words language words))
some_statement language schema len words rest word v r is verb starts a h =
    once_same r (stop_after len (after_verb v) rest) (stop_from language len expected.Statement words) (statement_judged schema len (statement_behind v rest))
    (statement_judged schema len (statement_of_words language words))
    (statement_stop language len words rest word v is verb ∙ ap (λ (o : Option Expected). stop_behind o word.at (λ behind. stop_from language len behind rest)) starts
    ∙ same_behind language len (after_verb v) rest (after_past v a))
    (statement_words language schema len words rest word v is verb) h

pub started_once : (language : List Verb) (schema : Schema) (len : ℕ) (words rest : List PlacedWord) (word : PlacedWord) (v : Verb) (r : Result Statement LineFault) → words ≡ word ∷ rest
    → verb_of language word.text ≡ Some v → ReadsOnce r (stop_after len (after_verb v) rest) (statement_judged schema len (statement_behind v rest))
    → ReadsOnce r (stop_from language len expected.Statement words) (statement_judged schema len (statement_of_words language words))
started_once language schema len words rest word verbs.Begin r is verb h = some_statement language schema len words rest word verbs.Begin r is verb refl (λ e. cc) h
started_once language schema len words rest word verbs.Commit r is verb h = some_statement language schema len words rest word verbs.Commit r is verb refl (λ e. cc) h
started_once language schema len words rest word verbs.Rollback r is verb h = some_statement language schema len words rest word verbs.Rollback r is verb refl (λ e. cc) h
started_once language schema len words rest word verbs.Insert r is verb h = some_statement language schema len words rest word verbs.Insert r is verb refl (λ e. cc) h
started_once language schema len words rest word verbs.Select r is verb h = some_statement language schema len words rest word verbs.Select r is verb refl (λ e. cc) h
started_once language schema len words rest word verbs.Delete r is verb h = some_statement language schema len words rest word verbs.Delete r is verb refl (λ e. cc) h
started_once language schema len words rest word verbs.Explain r is verb h = some_statement language schema len words rest word verbs.Explain r is verb refl (λ e. cc) h
started_once language schema len words rest word verbs.Summarize r is verb h = some_statement language schema len words rest word verbs.Summarize r is verb refl (λ e. cc) h
started_once language schema len words rest word verbs.Desummarize r is verb h = some_statement language schema len words rest word verbs.Desummarize r is verb refl (λ e. cc) h
started_once language schema len words rest word verbs.Vacuum r is verb h = some_statement language schema len words rest word verbs.Vacuum r is verb refl (λ e. cc) h
started_once language schema len words rest word verbs.Work r is verb h = some_statement language schema len words rest word verbs.Work r is verb refl (λ e. cc) h
started_once language schema len words rest word verbs.Start r is verb h =
    no_statement r word.at len (stop_from language len expected.Statement words) (stop_after len expected.Statement rest) (statement_judged schema len (statement_of_words language words))
    (statement_stop language len words rest word verbs.Start is verb) h
started_once language schema len words rest word verbs.Step r is verb h =
    no_statement r word.at len (stop_from language len expected.Statement words) (stop_after len expected.End rest) (statement_judged schema len (statement_of_words language words))
    (statement_stop language len words rest word verbs.Step is verb) h
started_once language schema len words rest word verbs.Finish r is verb h =
    no_statement r word.at len (stop_from language len expected.Statement words) (stop_after len expected.End rest) (statement_judged schema len (statement_of_words language words))
    (statement_stop language len words rest word verbs.Finish is verb) h

-- a name in front of an order
say_stop : (language : List Verb) (len : ℕ) (words behind : List PlacedWord) (word : PlacedWord) → words ≡ word ∷ behind → is_comment word.text ≡ false → is_name word.text ≡ true
    → stop_of language len words ≡ stop_from language len expected.Verb behind
say_stop language len words behind word is loud named =
    ap (stop_of language len) is
    ∙ ap (λ (b : Bool). cond b None (stop_behind (where_so (is_name word.text) expected.Verb) word.at (λ next. stop_from language len next behind))) loud
    ∙ ap (λ (b : Bool). stop_behind (where_so b expected.Verb) word.at (λ next. stop_from language len next behind)) named

say_order : (schema : Schema) (len : ℕ) (word : PlacedWord) (o : Option (SaidOrder PlacedWord))
    → line_judged schema len None (option_map (λ x. Say word x) o) ≡ (order_judged schema len o >>= λ x. Ok (lines.Say word.text x))
say_order schema len word None = refl
say_order schema len word (Some order) = refl

say_said : (language : List Verb) (schema : Schema) (len : ℕ) (words behind : List PlacedWord) (word : PlacedWord) → words ≡ word ∷ behind → is_comment word.text ≡ false
    → line_judged schema len None (said_of language words) ≡ (order_judged schema len (order_of_words language behind) >>= λ x. Ok (lines.Say word.text x))
say_said language schema len words behind word is loud =
    ap (λ (ws : List PlacedWord). line_judged schema len None (said_of language ws)) is
    ∙ ap (λ (b : Bool). line_judged schema len None (cond b (Some (Nothing (word ∷ behind))) (option_map (λ x. Say word x) (order_of_words language behind)))) loud
    ∙ say_order schema len word (order_of_words language behind)

pub say_once : (language : List Verb) (schema : Schema) (len : ℕ) (words behind : List PlacedWord) (word : PlacedWord) (r : Result Line LineFault) → words ≡ word ∷ behind
    → is_comment word.text ≡ false → is_name word.text ≡ true
    → ReadsOnce r (stop_from language len expected.Verb behind) (order_judged schema len (order_of_words language behind) >>= λ x. Ok (lines.Say word.text x))
    → ReadsOnce r (stop_of language len words) (line_judged schema len None (said_of language words))
say_once language schema len words behind word r is loud named h =
    once_same r (stop_from language len expected.Verb behind) (stop_of language len words) (order_judged schema len (order_of_words language behind) >>= λ x. Ok (lines.Say word.text x))
    (line_judged schema len None (said_of language words)) (say_stop language len words behind word is loud named) (say_said language schema len words behind word is loud) h
