-- What words say of declared tables is told without a fault of syntax, and never for want of memory.
use Rattle.std.proofs.Common.{ℕ, ◌++◌, List, [], ◌∷◌, Option, None, Some, Result, Ok, Err}
use Rattle.std.specs.Option.{option_map}
use Rattle.block_model.specs.declared.value.Value.{Value}
use Rattle.block_model.specs.declared.value.Value.TheVariants as values
use Rattle.block_model.specs.declared.value.Op.{Op}
use Rattle.block_model.specs.declared.value.Op.TheVariants as ops
use Rattle.block_model.specs.declared.row.Cond.{Cond}
use Rattle.block_model.specs.declared.schema.Schema.{Schema}
use Rattle.block_model.specs.declared.schema.Column.{Column}
use Rattle.value_text.specs.ValueOf.{value_of}
use Rattle.store_layout.specs.declared.statement.Statement.{Statement}
use Rattle.store_layout.specs.declared.statement.Statement.TheVariants as statements
use Rattle.query_words.specs.Words.{PlacedWord}
use Rattle.query_words.specs.Blocks.{block_of}
use Rattle.query_words.specs.declared.line.Line.TheVariants as lines
use Rattle.query_words.specs.declared.line.Order.TheVariants as orders
use Rattle.query_words.specs.declared.line.LineFault.{LineFault}
use Rattle.query_words.specs.declared.line.LineFault.TheVariants as faults
use Rattle.query_words.specs.Grammar.{SaidCond, Compared, Null, NotNull, SaidStatement, Begin, Commit, Rollback, Insert, Select, Delete, Explain, Summarize, Desummarize, Vacuum, Work, SaidOrder, Whole, Start, Step, Finish, SaidLine, Nothing, Say}
use Rattle.query_words.specs.Lines.{line_said}
use Rattle.query_words.specs.Statements.{◌>>=◌, or_fault, table_from, table_said, column_from, column_said, op_in, op_said, value_said, cond_on, test_said, cond_said, conds_said, values_said, query_said, insert_said, index_from, index_said, statement_said, order_said}

-- the fault is one of names and values
abbrev pub IsResolved : {T : Type 0} → Result T LineFault → Type 0
IsResolved (Ok x) = Unit {0}
IsResolved (Err (faults.Syntax at)) = ⊥
IsResolved (Err faults.Memory) = ⊥
IsResolved (Err fault) = Unit {0}

then_resolved : {A B : Type 0} (said : Result A LineFault) (next : A → Result B LineFault) → IsResolved said → ((x : A) → IsResolved (next x)) → IsResolved (said >>= next)
then_resolved (Ok x) next h more = more x
then_resolved (Err (faults.Syntax at)) next h more = h
then_resolved (Err (faults.NoTable at)) next h more = tt
then_resolved (Err (faults.NoIndex at)) next h more = tt
then_resolved (Err (faults.NoColumn at)) next h more = tt
then_resolved (Err (faults.Kind at)) next h more = tt
then_resolved (Err faults.Memory) next h more = h

no_table : {A : Type 0} (at : ℕ) (o : Option A) → IsResolved (or_fault (faults.NoTable at) o)
no_table at None = tt
no_table at (Some x) = tt

no_column : {A : Type 0} (at : ℕ) (o : Option A) → IsResolved (or_fault (faults.NoColumn at) o)
no_column at None = tt
no_column at (Some x) = tt

wrong_kind : {A : Type 0} (at : ℕ) (o : Option A) → IsResolved (or_fault (faults.Kind at) o)
wrong_kind at None = tt
wrong_kind at (Some x) = tt

values_resolved : (len : ℕ) (done : List Value) (columns : List Column) (words : List PlacedWord) → IsResolved (values_said len done columns words)
values_resolved len done [] [] = tt
values_resolved len done [] (word ∷ words) = tt
values_resolved len done (column ∷ columns) [] = tt
values_resolved len done (column ∷ columns) (word ∷ words) =
    then_resolved (value_said column.kind word) (λ v. values_said len (done ++ v ∷ []) columns words) (wrong_kind word.at (value_of column.kind word.text))
    (λ v. values_resolved len (done ++ v ∷ []) columns words)

test_resolved : (columns : List Column) (column : PlacedWord) (op : Op) → IsResolved (test_said columns column op)
test_resolved columns column op =
    then_resolved (column_said columns column) (λ c. Ok (cond_on c.0 op values.Null)) (no_column column.at (column_from 0 columns column.text)) (λ c. tt)

cond_resolved : (columns : List Column) (cond : SaidCond PlacedWord) → IsResolved (cond_said columns cond)
cond_resolved columns (Compared column op value) =
    then_resolved (column_said columns column) (λ c. op_said c.1 op >>= λ o. value_said c.1 value >>= λ v. Ok (cond_on c.0 o v)) (no_column column.at (column_from 0 columns column.text)) (λ c.
    then_resolved (op_said c.1 op) (λ o. value_said c.1 value >>= λ v. Ok (cond_on c.0 o v)) (wrong_kind op.at (op_in c.1 op.text)) (λ o.
    then_resolved (value_said c.1 value) (λ v. Ok (cond_on c.0 o v)) (wrong_kind value.at (value_of c.1 value.text)) (λ v. tt)))
cond_resolved columns (Null column) = test_resolved columns column ops.IsNull
cond_resolved columns (NotNull column) = test_resolved columns column ops.NotNull

conds_resolved : (columns : List Column) (done : List Cond) (conds : List (SaidCond PlacedWord)) → IsResolved (conds_said columns done conds)
conds_resolved columns done [] = tt
conds_resolved columns done (cond ∷ conds) =
    then_resolved (cond_said columns cond) (λ c. conds_said columns (done ++ c ∷ []) conds) (cond_resolved columns cond) (λ c. conds_resolved columns (done ++ c ∷ []) conds)

pub query_resolved : (schema : Schema) (table : PlacedWord) (conds : List (SaidCond PlacedWord)) → IsResolved (query_said schema table conds)
query_resolved schema table conds =
    then_resolved (table_said schema table) (λ t. conds_said t.1 [] conds >>= λ cs. Ok (record { table = t.0; conds = cs })) (no_table table.at (table_from 0 schema.tables table.text)) (λ t.
    then_resolved (conds_said t.1 [] conds) (λ cs. Ok (record { table = t.0; conds = cs })) (conds_resolved t.1 [] conds) (λ cs. tt))

pub insert_resolved : (schema : Schema) (len : ℕ) (table : PlacedWord) (words : List PlacedWord) → IsResolved (insert_said schema len table words)
insert_resolved schema len table words =
    then_resolved (table_said schema table) (λ t. values_said len [] t.1 words >>= λ vs. Ok (statements.Insert t.0 vs)) (no_table table.at (table_from 0 schema.tables table.text)) (λ t.
    then_resolved (values_said len [] t.1 words) (λ vs. Ok (statements.Insert t.0 vs)) (values_resolved len [] t.1 words) (λ vs. tt))

no_index : {A : Type 0} (at : ℕ) (o : Option A) → IsResolved (or_fault (faults.NoIndex at) o)
no_index at None = tt
no_index at (Some x) = tt

index_resolved : (schema : Schema) (index : PlacedWord) (next : ℕ → Result Statement LineFault) → ((i : ℕ) → IsResolved (next i)) → IsResolved (index_said schema index >>= next)
index_resolved schema index next more = then_resolved (index_said schema index) next (no_index index.at (index_from 0 schema.indexes index.text)) more

statement_resolved : (schema : Schema) (len : ℕ) (said : SaidStatement PlacedWord) → IsResolved (statement_said schema len said)
statement_resolved schema len Begin = tt
statement_resolved schema len Commit = tt
statement_resolved schema len Rollback = tt
statement_resolved schema len (Insert table words) = insert_resolved schema len table words
statement_resolved schema len (Select table conds) = then_resolved (query_said schema table conds) (λ q. Ok (statements.Select q)) (query_resolved schema table conds) (λ q. tt)
statement_resolved schema len (Delete table conds) = then_resolved (query_said schema table conds) (λ q. Ok (statements.Delete q)) (query_resolved schema table conds) (λ q. tt)
statement_resolved schema len (Summarize index block) = index_resolved schema index (λ i. Ok (statements.Summarize i (option_map (λ b. block_of b.text) block))) (λ i. tt)
statement_resolved schema len (Desummarize index block) = index_resolved schema index (λ i. Ok (statements.Desummarize i (block_of block.text))) (λ i. tt)
statement_resolved schema len (Vacuum table) = then_resolved (table_said schema table) (λ t. Ok (statements.Vacuum t.0)) (no_table table.at (table_from 0 schema.tables table.text)) (λ t. tt)
statement_resolved schema len Work = tt
statement_resolved schema len (Explain table conds) = then_resolved (query_said schema table conds) (λ q. Ok (statements.Explain q)) (query_resolved schema table conds) (λ q. tt)

order_resolved : (schema : Schema) (len : ℕ) (said : SaidOrder PlacedWord) → IsResolved (order_said schema len said)
order_resolved schema len (Whole said) = then_resolved (statement_said schema len said) (λ s. Ok (orders.Whole s)) (statement_resolved schema len said) (λ s. tt)
order_resolved schema len (Start said) = then_resolved (statement_said schema len said) (λ s. Ok (orders.Start s)) (statement_resolved schema len said) (λ s. tt)
order_resolved schema len Step = tt
order_resolved schema len Finish = tt

-- no line that is said has a fault of syntax
pub line_resolved : (schema : Schema) (len : ℕ) (said : SaidLine PlacedWord) → IsResolved (line_said schema len said)
line_resolved schema len (Nothing words) = tt
line_resolved schema len (Say session said) =
    then_resolved (order_said schema len said) (λ o. Ok (lines.Say session.text o)) (order_resolved schema len said) (λ o. tt)
