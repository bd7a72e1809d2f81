-- A line that is said fits the schema.
use Rattle.std.proofs.Common.{◌≡◌, ℕ, suc, ◌+◌, Bool, true, false, ◌&&◌, List, [], ◌∷◌, ◌++◌, Option, None, Some, Result, Ok, Err, refl, sym, ap, ◌∙◌, subst, cond, arith, append-nil, append_assoc}
use Rattle.std.specs.Option.{option_map, option_and_then}
use Rattle.std.specs.List.{slice_get, AllByRecursion}
use Rattle.std.specs.Str.{bytes_eq}
use Rattle.std.proofs.lemmas.List.Elements.{All-from_recursion}
use Rattle.block_model.specs.declared.value.Kind.{Kind}
use Rattle.block_model.specs.declared.value.Value.{Value}
use Rattle.block_model.specs.declared.value.Value.TheVariants as values
use Rattle.block_model.specs.declared.value.Op.{Op}
use Rattle.block_model.specs.declared.value.Op.TheVariants as ops
use Rattle.block_model.specs.declared.row.Cond.{Cond}
use Rattle.block_model.specs.declared.row.Query.{Query}
use Rattle.block_model.specs.declared.schema.Schema.{Schema}
use Rattle.block_model.specs.declared.schema.Table.{Table}
use Rattle.block_model.specs.declared.schema.Column.{Column}
use Rattle.block_model.specs.declared.schema.Index.{Index}
use Rattle.block_model.specs.ValuesOfKind.{IsValueOf}
use Rattle.value_text.specs.Laws.{DenotedIsOfKind}
use Rattle.value_text.specs.ValueOf.{value_of, ValueOfIsDenoted}
use Rattle.store_layout.specs.declared.statement.Statement.{Statement}
use Rattle.store_layout.specs.declared.statement.Statement.TheVariants as statements
use Rattle.query_words.specs.declared.verb.Verb.{Verb}
use Rattle.query_words.specs.declared.verb.Verb.TheVariants as verbs
use Rattle.query_words.specs.Words.{PlacedWord}
use Rattle.query_words.specs.Operators.{op_text, comparisons, op_of}
use Rattle.query_words.specs.Written.{first_written}
use Rattle.query_words.specs.Blocks.{block_of}
use Rattle.query_words.specs.Verbs.{has_verb, statement_verb}
use Rattle.query_words.specs.declared.line.Line.{Line}
use Rattle.query_words.specs.declared.line.Line.TheVariants as lines
use Rattle.query_words.specs.declared.line.Order.{Order}
use Rattle.query_words.specs.declared.line.Order.TheVariants as orders
use Rattle.query_words.specs.declared.line.LineFault.{LineFault}
use Rattle.query_words.specs.declared.line.LineFault.TheVariants as faults
use Rattle.store_layout.specs.OperatorKinds.{takes_operator}
use Rattle.query_words.specs.Grammar.{SaidCond, Compared, Null, NotNull, SaidStatement, Begin, Commit, Rollback, Insert, Select, Delete, Explain, Summarize, Desummarize, Vacuum, Work, SaidOrder, Whole, Start, Step, Finish, SaidLine, Nothing, Say, verb_said, IsSaidOrder, IsSaid, statement_texts, order_texts, said_texts}
use Rattle.query_words.specs.Syntax.{stop_of}
use Rattle.query_words.specs.Parsed.{said_of}
use Rattle.query_words.specs.Statements.{◌>>=◌, or_fault, table_from, table_said, column_from, column_said, op_in, op_said, value_said, cond_on, test_said, cond_said, conds_said, values_said, query_said, insert_said, index_from, index_said, vacuum_said, statement_said, order_said}
use Rattle.query_words.specs.Lines.{line_said, line_judged}
use Rattle.store_layout.specs.StatementFits.{HasKeyFor, IsCondFor, AreValuesFor, IsIndexOf, IsQueryFor, IsInsertFor, IsTableOf, IsStatementFor}
use Rattle.query_words.specs.LineFits.{IsOrderFor, IsLineFor, is_order_in, is_line_in}
use Rattle.query_words.proofs.LineLawLemmas.{unstopped}

-- the value of a kind is one of it
pub record KnowsValues : Type 0 where
  pub denoted : ValueOfIsDenoted
  pub of_kind : DenotedIsOfKind

pub value_fits : KnowsValues → (kind : Kind) (word : List ℕ) (value : Value) → value_of kind word ≡ Some value → IsValueOf kind value
value_fits knows kind word value h = knows.of_kind kind word value ((knows.denoted kind word value).0 h)

-- what was handed on, where the end is Ok
pub record Came {A B : Type 0} (said : Result A LineFault) (next : A → Result B LineFault) (end : B) : Type 0 where
  pub from : A
  pub first : said ≡ Ok from
  pub then : next from ≡ Ok end

pub came : {A B : Type 0} (said : Result A LineFault) (next : A → Result B LineFault) (end : B) → (said >>= next) ≡ Ok end → Came said next end
came (Ok x) next end h = record { from = x; first = refl; then = h }
came (Err fault) next end h = cc

pub found_there : {A : Type 0} (fault : LineFault) (o : Option A) (x : A) → or_fault fault o ≡ Ok x → o ≡ Some x
found_there fault None x h = cc
found_there fault (Some y) x h = cc

-- the table of a name, by its number
pub record TableFound (tables : List Table) (n : ℕ) (p : ℕ × List Column) : Type 0 where
  pub number : ℕ
  pub of : Table
  pub table : slice_get tables number ≡ Some of
  pub counted : p.0 ≡ n + number
  pub columns : of.columns ≡ p.1

table_step : (b : Bool) (n : ℕ) (table : Table) (tables : List Table) (later : Option (ℕ × List Column)) (p : ℕ × List Column) → (later ≡ Some p → TableFound tables (n + 1) p)
    → cond b (Some (n, table.columns)) later ≡ Some p → TableFound (table ∷ tables) n p
table_step true n table tables later p ih h =
    let e : (n, table.columns) ≡ p = cc in
    record { number = 0; of = table; table = refl; counted = sym (ap (λ (q : ℕ × List Column). q.0) e) ∙ (let k : n ≡ n + 0 = omega arith in k); columns = ap (λ (q : ℕ × List Column). q.1) e }
table_step false n table tables later p ih h =
    let r = ih h in
    record { number = suc r.number; of = r.of; table = r.table; counted = r.counted ∙ (let k : n + 1 + r.number ≡ n + suc r.number = omega arith in k); columns = r.columns }

pub table_found : (n : ℕ) (tables : List Table) (name : List ℕ) (p : ℕ × List Column) → table_from n tables name ≡ Some p → TableFound tables n p
table_found n [] name p h = cc
table_found n (table ∷ tables) name p h = table_step (bytes_eq table.name name) n table tables (table_from (n + 1) tables name) p (table_found (n + 1) tables name p) h

-- the column of a name, by its number
pub record ColumnFound (columns : List Column) (n : ℕ) (p : ℕ × Kind) : Type 0 where
  pub number : ℕ
  pub of : Column
  pub column : slice_get columns number ≡ Some of
  pub counted : p.0 ≡ n + number
  pub kind : of.kind ≡ p.1

column_step : (b : Bool) (n : ℕ) (column : Column) (columns : List Column) (later : Option (ℕ × Kind)) (p : ℕ × Kind) → (later ≡ Some p → ColumnFound columns (n + 1) p)
    → cond b (Some (n, column.kind)) later ≡ Some p → ColumnFound (column ∷ columns) n p
column_step true n column columns later p ih h =
    let e : (n, column.kind) ≡ p = cc in
    record { number = 0; of = column; column = refl; counted = sym (ap (λ (q : ℕ × Kind). q.0) e) ∙ (let k : n ≡ n + 0 = omega arith in k); kind = ap (λ (q : ℕ × Kind). q.1) e }
column_step false n column columns later p ih h =
    let r = ih h in
    record { number = suc r.number; of = r.of; column = r.column; counted = r.counted ∙ (let k : n + 1 + r.number ≡ n + suc r.number = omega arith in k); kind = r.kind }

pub column_found : (n : ℕ) (columns : List Column) (name : List ℕ) (p : ℕ × Kind) → column_from n columns name ≡ Some p → ColumnFound columns n p
column_found n [] name p h = cc
column_found n (column ∷ columns) name p h = column_step (bytes_eq column.name name) n column columns (column_from (n + 1) columns name) p (column_found (n + 1) columns name p) h

-- an operator of one word has a key of any value
abbrev TakesKey : Op → Type 0
TakesKey op = (key : Value) → HasKeyFor op key

among_step : (b : Bool) (first op : Op) (later : Option Op) → TakesKey first → (later ≡ Some op → TakesKey op) → cond b (Some first) later ≡ Some op → TakesKey op
among_step true first op later h ih e = let same : first ≡ op = cc in subst TakesKey same h
among_step false first op later h ih e = ih e

among_key : (among : List Op) (word : List ℕ) (op : Op) → AllByRecursion TakesKey among → first_written op_text among word ≡ Some op → TakesKey op
among_key [] word op all h = cc
among_key (first ∷ rest) word op all h = among_step (bytes_eq word (op_text first)) first op (first_written op_text rest word) all.0 (among_key rest word op all.1) h

comparison_key : (word : List ℕ) (op : Op) → op_of word ≡ Some op → TakesKey op
comparison_key word op h =
    let k : (key : Value) → Unit {0} = λ key. tt in
    among_key comparisons word op (k, (k, (k, (k, (k, (k, (k, (k, (k, (k, (k, (k, (k, (k, (k, tt))))))))))))))) h

-- an operator of a kind
record OpFound (kind : Kind) (word : List ℕ) (op : Op) : Type 0 where
  is : op_of word ≡ Some op
  taken : takes_operator kind op ≡ true

op_step : (kind : Kind) (word : List ℕ) (o op : Op) (b : Bool) → op_of word ≡ Some o → takes_operator kind o ≡ b → cond b (Some o) None ≡ Some op → OpFound kind word op
op_step kind word o op true is taken h =
    let same : o ≡ op = cc in record { is = is ∙ ap Some same; taken = ap (takes_operator kind) (sym same) ∙ taken }
op_step kind word o op false is taken h = cc

op_cases : (kind : Kind) (word : List ℕ) (o : Option Op) (op : Op) → op_of word ≡ o → option_and_then (λ x. cond (takes_operator kind x) (Some x) None) o ≡ Some op → OpFound kind word op
op_cases kind word None op is h = cc
op_cases kind word (Some o) op is h = op_step kind word o op (takes_operator kind o) is refl h

op_found : (kind : Kind) (word : List ℕ) (op : Op) → op_in kind word ≡ Some op → OpFound kind word op
op_found kind word op h = op_cases kind word (op_of word) op refl h

cond_made : (columns : List Column) (c : ℕ × Kind) (op : Op) (key : Value) → ColumnFound columns 0 c → takes_operator c.1 op ≡ true → IsValueOf c.1 key → HasKeyFor op key
    → IsCondFor columns (cond_on c.0 op key)
cond_made columns c op key found taken value no_key =
    let there : found.number ≡ c.0 = (let k : found.number ≡ 0 + found.number = omega arith in k) ∙ sym found.counted in
    record {
      on = found.of;
      column = ap (slice_get columns) (sym there) ∙ found.column;
      op = ap (λ (k : Kind). takes_operator k op) found.kind ∙ taken;
      key = subst (λ (k : Kind). IsValueOf k key) (sym found.kind) value;
      no_key = no_key;
    }

test_fits : (columns : List Column) (column : PlacedWord) (op : Op) (c : Cond) → ((kind : Kind) → takes_operator kind op ≡ true) → HasKeyFor op values.Null
    → test_said columns column op ≡ Ok c → IsCondFor columns c
test_fits columns column op c taken no_key h =
    let a = came (column_said columns column) (λ x. Ok (cond_on x.0 op values.Null)) c h in
    let found = column_found 0 columns column.text a.from (found_there (faults.NoColumn column.at) (column_from 0 columns column.text) a.from a.first) in
    let same : cond_on a.from.0 op values.Null ≡ c = let e = a.then in cc in
    subst (IsCondFor columns) same (cond_made columns a.from op values.Null found (taken a.from.1) tt no_key)

cond_fits : KnowsValues → (columns : List Column) (said : SaidCond PlacedWord) (c : Cond) → cond_said columns said ≡ Ok c → IsCondFor columns c
cond_fits knows columns (Compared column op value) c h =
    let a = came (column_said columns column) (λ x. op_said x.1 op >>= λ o. value_said x.1 value >>= λ v. Ok (cond_on x.0 o v)) c h in
    let found = column_found 0 columns column.text a.from (found_there (faults.NoColumn column.at) (column_from 0 columns column.text) a.from a.first) in
    let b = came (op_said a.from.1 op) (λ o. value_said a.from.1 value >>= λ v. Ok (cond_on a.from.0 o v)) c a.then in
    let o = op_found a.from.1 op.text b.from (found_there (faults.Kind op.at) (op_in a.from.1 op.text) b.from b.first) in
    let d = came (value_said a.from.1 value) (λ v. Ok (cond_on a.from.0 b.from v)) c b.then in
    let v : IsValueOf a.from.1 d.from = value_fits knows a.from.1 value.text d.from (found_there (faults.Kind value.at) (value_of a.from.1 value.text) d.from d.first) in
    let same : cond_on a.from.0 b.from d.from ≡ c = let e = d.then in cc in
    subst (IsCondFor columns) same (cond_made columns a.from b.from d.from found o.taken v (comparison_key op.text b.from o.is d.from))
cond_fits knows columns (Null column) c h = test_fits columns column ops.IsNull c (λ kind. refl) refl h
cond_fits knows columns (NotNull column) c h = test_fits columns column ops.NotNull c (λ kind. refl) refl h

-- the conditions behind those that are done
record CondsMade (columns : List Column) (done all : List Cond) : Type 0 where
  more : List Cond
  are : all ≡ done ++ more
  fit : AllByRecursion (IsCondFor columns) more

conds_made : KnowsValues → (columns : List Column) (done : List Cond) (said : List (SaidCond PlacedWord)) (all : List Cond) → conds_said columns done said ≡ Ok all → CondsMade columns done all
conds_made knows columns done [] all h = let e : done ≡ all = cc in record { more = []; are = sym e ∙ sym (append-nil done); fit = tt }
conds_made knows columns done (said ∷ rest) all h =
    let a = came (cond_said columns said) (λ c. conds_said columns (done ++ c ∷ []) rest) all h in
    let r = conds_made knows columns (done ++ a.from ∷ []) rest all a.then in
    record { more = a.from ∷ r.more; are = r.are ∙ append_assoc done (a.from ∷ []) r.more; fit = (cond_fits knows columns said a.from a.first, r.fit) }

record ValuesMade (columns : List Column) (done all : List Value) : Type 0 where
  more : List Value
  are : all ≡ done ++ more
  fit : AreValuesFor columns more

values_made : KnowsValues → (len : ℕ) (done : List Value) (columns : List Column) (words : List PlacedWord) (all : List Value) → values_said len done columns words ≡ Ok all → ValuesMade columns done all
values_made knows len done [] [] all h = let e : done ≡ all = cc in record { more = []; are = sym e ∙ sym (append-nil done); fit = tt }
values_made knows len done [] (word ∷ words) all h = cc
values_made knows len done (column ∷ columns) [] all h = cc
values_made knows len done (column ∷ columns) (word ∷ words) all h =
    let a = came (value_said column.kind word) (λ v. values_said len (done ++ v ∷ []) columns words) all h in
    let r = values_made knows len (done ++ a.from ∷ []) columns words all a.then in
    record {
      more = a.from ∷ r.more;
      are = r.are ∙ append_assoc done (a.from ∷ []) r.more;
      fit = (value_fits knows column.kind word.text a.from (found_there (faults.Kind word.at) (value_of column.kind word.text) a.from a.first), r.fit);
    }

at_zero : (a b : ℕ) → a ≡ 0 + b → b ≡ a
at_zero a b e = omega arith

query_fits : KnowsValues → (schema : Schema) (table : PlacedWord) (conds : List (SaidCond PlacedWord)) (q : Query) → query_said schema table conds ≡ Ok q → IsQueryFor schema q
query_fits knows schema table conds q h =
    let a = came (table_said schema table) (λ t. conds_said t.1 [] conds >>= λ cs. Ok (record { table = t.0; conds = cs })) q h in
    let found = table_found 0 schema.tables table.text a.from (found_there (faults.NoTable table.at) (table_from 0 schema.tables table.text) a.from a.first) in
    let b = came (conds_said a.from.1 [] conds) (λ cs. Ok (record { table = a.from.0; conds = cs })) q a.then in
    let m = conds_made knows a.from.1 [] conds b.from b.first in
    let all : AllByRecursion (IsCondFor found.of.columns) b.from =
    subst (λ (columns : List Column). AllByRecursion (IsCondFor columns) b.from) (sym found.columns) (subst (AllByRecursion (IsCondFor a.from.1)) (sym m.are) m.fit) in
    let made : Query = record { table = a.from.0; conds = b.from } in
    let same : made ≡ q = let e = b.then in cc in
    let fits : IsQueryFor schema made = record {
      of = found.of;
      table = ap (slice_get schema.tables) (sym (at_zero a.from.0 found.number found.counted)) ∙ found.table;
      conds = All-from_recursion (IsCondFor found.of.columns) b.from all;
    } in
    subst (IsQueryFor schema) same fits

insert_fits : KnowsValues → (schema : Schema) (len : ℕ) (table : PlacedWord) (words : List PlacedWord) (s : Statement) → insert_said schema len table words ≡ Ok s → IsStatementFor schema s
insert_fits knows schema len table words s h =
    let a = came (table_said schema table) (λ t. values_said len [] t.1 words >>= λ vs. Ok (statements.Insert t.0 vs)) s h in
    let found = table_found 0 schema.tables table.text a.from (found_there (faults.NoTable table.at) (table_from 0 schema.tables table.text) a.from a.first) in
    let b = came (values_said len [] a.from.1 words) (λ vs. Ok (statements.Insert a.from.0 vs)) s a.then in
    let m = values_made knows len [] a.from.1 words b.from b.first in
    let same : statements.Insert a.from.0 b.from ≡ s = let e = b.then in cc in
    let fits : IsInsertFor schema a.from.0 b.from = record {
      into = found.of;
      table = ap (slice_get schema.tables) (sym (at_zero a.from.0 found.number found.counted)) ∙ found.table;
      values = subst (λ (columns : List Column). AreValuesFor columns b.from) (sym found.columns) (subst (AreValuesFor a.from.1) (sym m.are) m.fit);
    } in
    subst (IsStatementFor schema) same fits

select_fits : KnowsValues → (schema : Schema) (table : PlacedWord) (conds : List (SaidCond PlacedWord)) (make : Query → Statement) (s : Statement)
    → ((q : Query) → IsQueryFor schema q → IsStatementFor schema (make q)) → (query_said schema table conds >>= λ q. Ok (make q)) ≡ Ok s → IsStatementFor schema s
select_fits knows schema table conds make s fits h =
    let a = came (query_said schema table conds) (λ q. Ok (make q)) s h in
    let same : make a.from ≡ s = let e = a.then in cc in
    subst (IsStatementFor schema) same (fits a.from (query_fits knows schema table conds a.from a.first))

-- the index of a name, by its number
record IndexFound (indexes : List Index) (n i : ℕ) : Type 0 where
  number : ℕ
  of : Index
  index : slice_get indexes number ≡ Some of
  counted : i ≡ n + number

index_step : (b : Bool) (n : ℕ) (index : Index) (indexes : List Index) (later : Option ℕ) (i : ℕ) → (later ≡ Some i → IndexFound indexes (n + 1) i)
    → cond b (Some n) later ≡ Some i → IndexFound (index ∷ indexes) n i
index_step true n index indexes later i ih h =
    let e : n ≡ i = cc in record { number = 0; of = index; index = refl; counted = sym e ∙ (let k : n ≡ n + 0 = omega arith in k) }
index_step false n index indexes later i ih h =
    let r = ih h in record { number = suc r.number; of = r.of; index = r.index; counted = r.counted ∙ (let k : n + 1 + r.number ≡ n + suc r.number = omega arith in k) }

index_found : (n : ℕ) (indexes : List Index) (name : List ℕ) (i : ℕ) → index_from n indexes name ≡ Some i → IndexFound indexes n i
index_found n [] name i h = cc
index_found n (index ∷ indexes) name i h = index_step (bytes_eq index.name name) n index indexes (index_from (n + 1) indexes name) i (index_found (n + 1) indexes name i) h

index_fits : (schema : Schema) (word : PlacedWord) (make : ℕ → Statement) (s : Statement) → ((i : ℕ) → IsIndexOf schema i → IsStatementFor schema (make i))
    → (index_said schema word >>= λ i. Ok (make i)) ≡ Ok s → IsStatementFor schema s
index_fits schema word make s fits h =
    let a = came (index_said schema word) (λ i. Ok (make i)) s h in
    let found = index_found 0 schema.indexes word.text a.from (found_there (faults.NoIndex word.at) (index_from 0 schema.indexes word.text) a.from a.first) in
    let same : make a.from ≡ s = let e = a.then in cc in
    subst (IsStatementFor schema) same (fits a.from (found.of, ap (slice_get schema.indexes) (sym (at_zero a.from found.number found.counted)) ∙ found.index))

vacuum_fits : (schema : Schema) (word : PlacedWord) (s : Statement) → vacuum_said schema word ≡ Ok s → IsStatementFor schema s
vacuum_fits schema word s h =
    let a = came (table_said schema word) (λ t. Ok (statements.Vacuum t.0)) s h in
    let found = table_found 0 schema.tables word.text a.from (found_there (faults.NoTable word.at) (table_from 0 schema.tables word.text) a.from a.first) in
    let same : statements.Vacuum a.from.0 ≡ s = let e = a.then in cc in
    let fits : IsTableOf schema a.from.0 = (found.of, ap (slice_get schema.tables) (sym (at_zero a.from.0 found.number found.counted)) ∙ found.table) in
    subst (IsStatementFor schema) same fits

-- a statement that is said fits, and has the verb that was said
pub record SaidFits (schema : Schema) (said : SaidStatement PlacedWord) (s : Statement) : Type 0 where
  pub fits : IsStatementFor schema s
  pub verb : statement_verb s ≡ verb_said said

bare_fits : (schema : Schema) (said : SaidStatement PlacedWord) (made s : Statement) → IsStatementFor schema made → statement_verb made ≡ verb_said said → made ≡ s → SaidFits schema said s
bare_fits schema said made s fits verb same = record { fits = subst (IsStatementFor schema) same fits; verb = ap statement_verb (sym same) ∙ verb }

-- its verb, whatever it was made of
made_verb : {A : Type 0} (said : Result A LineFault) (make : A → Statement) (v : Verb) (s : Statement) → ((x : A) → statement_verb (make x) ≡ v) → (said >>= λ x. Ok (make x)) ≡ Ok s
    → statement_verb s ≡ v
made_verb said make v s verb h =
    let a = came said (λ x. Ok (make x)) s h in
    let same : make a.from ≡ s = let e = a.then in cc in
    ap statement_verb (sym same) ∙ verb a.from

insert_verb : (schema : Schema) (len : ℕ) (table : PlacedWord) (words : List PlacedWord) (s : Statement) → insert_said schema len table words ≡ Ok s → statement_verb s ≡ verbs.Insert
insert_verb schema len table words s h =
    let a = came (table_said schema table) (λ t. values_said len [] t.1 words >>= λ vs. Ok (statements.Insert t.0 vs)) s h in
    made_verb (values_said len [] a.from.1 words) (λ vs. statements.Insert a.from.0 vs) verbs.Insert s (λ vs. refl) a.then

pub statement_fits : KnowsValues → (schema : Schema) (len : ℕ) (said : SaidStatement PlacedWord) (s : Statement) → statement_said schema len said ≡ Ok s → SaidFits schema said s
statement_fits knows schema len Begin s h = bare_fits schema Begin statements.Begin s tt refl (let e : statements.Begin ≡ s = cc in e)
statement_fits knows schema len Commit s h = bare_fits schema Commit statements.Commit s tt refl (let e : statements.Commit ≡ s = cc in e)
statement_fits knows schema len Rollback s h = bare_fits schema Rollback statements.Rollback s tt refl (let e : statements.Rollback ≡ s = cc in e)
statement_fits knows schema len Work s h = bare_fits schema Work statements.Work s tt refl (let e : statements.Work ≡ s = cc in e)
statement_fits knows schema len (Insert table words) s h =
    record { fits = insert_fits knows schema len table words s h; verb = insert_verb schema len table words s h }
statement_fits knows schema len (Select table conds) s h = record {
  fits = select_fits knows schema table conds (λ q. statements.Select q) s (λ q f. f) h;
  verb = made_verb (query_said schema table conds) (λ q. statements.Select q) verbs.Select s (λ q. refl) h;
}
statement_fits knows schema len (Delete table conds) s h = record {
  fits = select_fits knows schema table conds (λ q. statements.Delete q) s (λ q f. f) h;
  verb = made_verb (query_said schema table conds) (λ q. statements.Delete q) verbs.Delete s (λ q. refl) h;
}
statement_fits knows schema len (Explain table conds) s h = record {
  fits = select_fits knows schema table conds (λ q. statements.Explain q) s (λ q f. f) h;
  verb = made_verb (query_said schema table conds) (λ q. statements.Explain q) verbs.Explain s (λ q. refl) h;
}
statement_fits knows schema len (Summarize index block) s h =
    let make : ℕ → Statement = λ i. statements.Summarize i (option_map (λ b. block_of b.text) block) in record {
      fits = index_fits schema index make s (λ i f. f) h;
      verb = made_verb (index_said schema index) make verbs.Summarize s (λ i. refl) h;
    }
statement_fits knows schema len (Desummarize index block) s h =
    let make : ℕ → Statement = λ i. statements.Desummarize i (block_of block.text) in record {
      fits = index_fits schema index make s (λ i f. f) h;
      verb = made_verb (index_said schema index) make verbs.Desummarize s (λ i. refl) h;
    }
statement_fits knows schema len (Vacuum table) s h = record {
  fits = vacuum_fits schema table s h;
  verb = made_verb (table_said schema table) (λ t. statements.Vacuum t.0) verbs.Vacuum s (λ t. refl) h;
}

-- a line that is read fits the schema, and its verbs are the language's
pub record LineFitsBoth (language : List Verb) (schema : Schema) (line : Line) : Type 0 where
  pub fits : IsLineFor schema line
  pub spoken : is_line_in language line ≡ true

both : (a b : Bool) → a ≡ true → b ≡ true → (a && b) ≡ true
both true true h k = refl
both true false h k = k
both false b h k = h

verb_texts : (said : SaidStatement PlacedWord) → verb_said (statement_texts said) ≡ verb_said said
verb_texts Begin = refl
verb_texts Commit = refl
verb_texts Rollback = refl
verb_texts (Insert table values) = refl
verb_texts (Select table conds) = refl
verb_texts (Delete table conds) = refl
verb_texts (Explain table conds) = refl
verb_texts (Summarize index block) = refl
verb_texts (Desummarize index block) = refl
verb_texts (Vacuum table) = refl
verb_texts Work = refl

has_same : (language : List Verb) (schema : Schema) (said : SaidStatement PlacedWord) (s : Statement) → SaidFits schema said s → has_verb language (verb_said (statement_texts said)) ≡ true
    → has_verb language (statement_verb s) ≡ true
has_same language schema said s f has = ap (has_verb language) (f.verb ∙ sym (verb_texts said)) ∙ has

-- the order of a line
record OrderFits (language : List Verb) (schema : Schema) (order : Order) : Type 0 where
  fits : IsOrderFor schema order
  spoken : is_order_in language order ≡ true

order_same : (language : List Verb) (schema : Schema) (made order : Order) → made ≡ order → OrderFits language schema made → OrderFits language schema order
order_same language schema made order same f = subst (OrderFits language schema) same f

order_fits : (language : List Verb) → KnowsValues → (schema : Schema) (len : ℕ) (said : SaidOrder PlacedWord) (order : Order) → IsSaidOrder language (order_texts said) → order_said schema len said ≡ Ok order
    → OrderFits language schema order
order_fits language knows schema len (Whole said) order is h =
    let a = came (statement_said schema len said) (λ s. Ok (orders.Whole s)) order h in
    let same : orders.Whole a.from ≡ order = let e = a.then in cc in
    let f = statement_fits knows schema len said a.from a.first in
    order_same language schema (orders.Whole a.from) order same (record { fits = f.fits; spoken = has_same language schema said a.from f is.0 })
order_fits language knows schema len (Start said) order is h =
    let a = came (statement_said schema len said) (λ s. Ok (orders.Start s)) order h in
    let same : orders.Start a.from ≡ order = let e = a.then in cc in
    let f = statement_fits knows schema len said a.from a.first in
    order_same language schema (orders.Start a.from) order same
    (record { fits = f.fits; spoken = both (has_verb language verbs.Start) (has_verb language (statement_verb a.from)) is.0 (has_same language schema said a.from f is.1.0) })
order_fits language knows schema len Step order is h =
    order_same language schema orders.Step order (let e : orders.Step ≡ order = cc in e) (record { fits = tt; spoken = is })
order_fits language knows schema len Finish order is h =
    order_same language schema orders.Finish order (let e : orders.Finish ≡ order = cc in e) (record { fits = tt; spoken = is })

line_fits : (language : List Verb) → KnowsValues → (schema : Schema) (len : ℕ) (said : SaidLine PlacedWord) (line : Line) → IsSaid language (said_texts said) → line_said schema len said ≡ Ok line
    → LineFitsBoth language schema line
line_fits language knows schema len (Nothing words) line is h =
    let same : lines.Nothing ≡ line = cc in
    let made : LineFitsBoth language schema lines.Nothing = record { fits = tt; spoken = refl } in
    subst (LineFitsBoth language schema) same made
line_fits language knows schema len (Say session said) line is h =
    let a = came (order_said schema len said) (λ o. Ok (lines.Say session.text o)) line h in
    let same : lines.Say session.text a.from ≡ line = let e = a.then in cc in
    let f = order_fits language knows schema len said a.from is.1 a.first in
    let made : LineFitsBoth language schema (lines.Say session.text a.from) = record { fits = f.fits; spoken = f.spoken } in
    subst (LineFitsBoth language schema) same made

-- words that stop nowhere and are read as a line
pub words_fit : (language : List Verb) → KnowsValues → (schema : Schema) (len : ℕ) (words : List PlacedWord) (read : Line)
    → (stop_of language len words ≡ None) × (line_judged schema len None (said_of language words) ≡ Ok read) → LineFitsBoth language schema read
words_fit language knows schema len words read h =
    let u = unstopped language knows.denoted len words h.0 in
    line_fits language knows schema len u.said read u.is_said (sym (ap (line_judged schema len None) u.parsed) ∙ h.1)
