-- what a statement means where tables are declared: names become numbers, and words become values
use Rattle.std.specs.Prelude.{ℕ, ◌+◌, List, [], ◌∷◌, ◌++◌, Option, None, Some, Result, Ok, Err, if◌then◌else◌}
use Rattle.std.specs.Option.{option_map, option_and_then}
use Rattle.std.specs.Str.{bytes_eq}
use Rattle.block_model.specs.declared.value.Kind.{Kind}
use Rattle.block_model.specs.declared.value.Value.{Value}
use Rattle.block_model.specs.declared.value.Value.TheVariants as values
use Rattle.block_model.specs.declared.value.Op.{Op}
use Rattle.block_model.specs.declared.value.Op.TheVariants as ops
use Rattle.block_model.specs.declared.row.Cond.{Cond}
use Rattle.block_model.specs.declared.row.Query.{Query}
use Rattle.block_model.specs.declared.schema.Schema.{Schema}
use Rattle.block_model.specs.declared.schema.Table.{Table}
use Rattle.block_model.specs.declared.schema.Column.{Column}
use Rattle.block_model.specs.declared.schema.Index.{Index}
use Rattle.value_text.specs.ValueOf.{value_of}
use Rattle.store_layout.specs.declared.statement.Statement.{Statement}
use Rattle.store_layout.specs.declared.statement.Statement.TheVariants as statements
use Rattle.query_words.specs.Words.{PlacedWord}
use Rattle.query_words.specs.Operators.{op_of}
use Rattle.query_words.specs.Blocks.{block_of}
use Rattle.query_words.specs.declared.line.Order.{Order}
use Rattle.query_words.specs.declared.line.Order.TheVariants as orders
use Rattle.query_words.specs.declared.line.LineFault.{LineFault}
use Rattle.query_words.specs.declared.line.LineFault.TheVariants as faults
use Rattle.store_layout.specs.OperatorKinds.{takes_operator}
use Rattle.query_words.specs.Parsed.{conds_from}
use Rattle.query_words.specs.Grammar.{SaidCond, Compared, Null, NotNull, SaidStatement, Begin, Commit, Rollback, Insert, Select, Delete, Explain, Summarize, Desummarize, Vacuum, Work, SaidOrder, Whole, Start, Step, Finish}

-- what was found is handed on, and a fault ends it
infixl 10 ◌>>=◌
abbrev pub ◌>>=◌ : {A B : Type 0} → Result A LineFault → (A → Result B LineFault) → Result B LineFault
(Ok x) >>= f = f x
(Err fault) >>= f = Err fault

-- what is made of what is said
abbrev pub made_of : {A B : Type 0} → (A → B) → Result A LineFault → Result B LineFault
made_of make said = said >>= λ x. Ok (make x)

-- what is there, or the fault
abbrev pub or_fault : {A : Type 0} → LineFault → Option A → Result A LineFault
or_fault fault None = Err fault
or_fault fault (Some x) = Ok x

-- the number and the columns of the table of that name, where the first has number n
abbrev pub table_from : ℕ → List Table → List ℕ → Option (ℕ × List Column)
table_from n [] name = None
table_from n (table ∷ tables) name = if bytes_eq table.name name then Some (n, table.columns) else table_from (n + 1) tables name

-- the declared table, or 2 at its word
abbrev pub table_said : Schema → PlacedWord → Result (ℕ × List Column) LineFault
table_said schema word = or_fault (faults.NoTable word.at) (table_from 0 schema.tables word.text)

-- the number of the index of that name, where the first has number n
abbrev pub index_from : ℕ → List Index → List ℕ → Option ℕ
index_from n [] name = None
index_from n (index ∷ indexes) name = if bytes_eq index.name name then Some n else index_from (n + 1) indexes name

-- the declared index, or 9 at its word
abbrev pub index_said : Schema → PlacedWord → Result ℕ LineFault
index_said schema word = or_fault (faults.NoIndex word.at) (index_from 0 schema.indexes word.text)

-- the number and the kind of the column of that name, where the first has number n
abbrev pub column_from : ℕ → List Column → List ℕ → Option (ℕ × Kind)
column_from n [] name = None
column_from n (column ∷ columns) name = if bytes_eq column.name name then Some (n, column.kind) else column_from (n + 1) columns name

-- the declared column, or 3 at its word
abbrev pub column_said : List Column → PlacedWord → Result (ℕ × Kind) LineFault
column_said columns word = or_fault (faults.NoColumn word.at) (column_from 0 columns word.text)

-- the operator, where the kind takes it
abbrev pub op_in : Kind → List ℕ → Option Op
op_in kind word = option_and_then (λ op. if takes_operator kind op then Some op else None) (op_of word)

-- the operator of the kind, or 3 at its word
abbrev pub op_said : Kind → PlacedWord → Result Op LineFault
op_said kind word = or_fault (faults.Kind word.at) (op_in kind word.text)

-- the value of the kind, or 3 at its word
abbrev pub value_said : Kind → PlacedWord → Result Value LineFault
value_said kind word = or_fault (faults.Kind word.at) (value_of kind word.text)

-- a condition on a column, with a key
abbrev pub cond_on : ℕ → Op → Value → Cond
cond_on column op key = record { column = column; op = op; key = key }

-- whether a column is null
abbrev pub test_said : List Column → PlacedWord → Op → Result Cond LineFault
test_said columns column op = column_said columns column >>= λ c. Ok (cond_on c.0 op values.Null)

-- the column first, then the operator, then the value
abbrev pub cond_said : List Column → SaidCond PlacedWord → Result Cond LineFault
cond_said columns (Compared column op value) =
    column_said columns column >>= λ c. op_said c.1 op >>= λ o. value_said c.1 value >>= λ v. Ok (cond_on c.0 o v)
cond_said columns (Null column) = test_said columns column ops.IsNull
cond_said columns (NotNull column) = test_said columns column ops.NotNull

-- the conditions behind those that are done, in the order of the line
abbrev pub conds_said : List Column → List Cond → List (SaidCond PlacedWord) → Result (List Cond) LineFault
conds_said columns done [] = Ok done
conds_said columns done (cond ∷ conds) = cond_said columns cond >>= λ c. conds_said columns (done ++ c ∷ []) conds

-- The values behind those that are done, one for each column, in the order of the line. Too few are refused with 3 at
-- the line's length, and too many at the first word too many.
abbrev pub values_said : ℕ → List Value → List Column → List PlacedWord → Result (List Value) LineFault
values_said length done [] [] = Ok done
values_said length done [] (word ∷ words) = Err (faults.NoColumn word.at)
values_said length done (column ∷ columns) [] = Err (faults.NoColumn length)
values_said length done (column ∷ columns) (word ∷ words) =
    value_said column.kind word >>= λ v. values_said length (done ++ v ∷ []) columns words

-- the table first, then the conditions
abbrev pub query_said : Schema → PlacedWord → List (SaidCond PlacedWord) → Result Query LineFault
query_said schema table conds =
    table_said schema table >>= λ t. conds_said t.1 [] conds >>= λ cs. Ok (record { table = t.0; conds = cs })

-- a table and conditions, where no word is missing
abbrev pub query_judged : Schema → ℕ → List PlacedWord → Result Query LineFault
query_judged schema length [] = Err (faults.Syntax length)
query_judged schema length (table ∷ words) = query_said schema table (conds_from [] words)

-- the table first, then the values
abbrev pub insert_said : Schema → ℕ → PlacedWord → List PlacedWord → Result Statement LineFault
insert_said schema length table values =
    table_said schema table >>= λ t. values_said length [] t.1 values >>= λ vs. Ok (statements.Insert t.0 vs)

-- the index alone, or with a block
abbrev pub summarize_said : Schema → PlacedWord → Option PlacedWord → Result Statement LineFault
summarize_said schema index block =
    index_said schema index >>= λ i. Ok (statements.Summarize i (option_map (λ b. block_of b.text) block))

-- the index and a block
abbrev pub desummarize_said : Schema → PlacedWord → PlacedWord → Result Statement LineFault
desummarize_said schema index block = index_said schema index >>= λ i. Ok (statements.Desummarize i (block_of block.text))

-- the table
abbrev pub vacuum_said : Schema → PlacedWord → Result Statement LineFault
vacuum_said schema table = table_said schema table >>= λ t. Ok (statements.Vacuum t.0)

-- the statement, or the fault of the first word that has one, in a line of that length
abbrev pub statement_said : Schema → ℕ → SaidStatement PlacedWord → Result Statement LineFault
statement_said schema length Begin = Ok statements.Begin
statement_said schema length Commit = Ok statements.Commit
statement_said schema length Rollback = Ok statements.Rollback
statement_said schema length (Insert table values) = insert_said schema length table values
statement_said schema length (Select table conds) = query_said schema table conds >>= λ q. Ok (statements.Select q)
statement_said schema length (Delete table conds) = query_said schema table conds >>= λ q. Ok (statements.Delete q)
statement_said schema length (Explain table conds) = query_said schema table conds >>= λ q. Ok (statements.Explain q)
statement_said schema length (Summarize index block) = summarize_said schema index block
statement_said schema length (Desummarize index block) = desummarize_said schema index block
statement_said schema length (Vacuum table) = vacuum_said schema table
statement_said schema length Work = Ok statements.Work

-- the statement of words, where none is missing
abbrev pub statement_judged : Schema → ℕ → Option (SaidStatement PlacedWord) → Result Statement LineFault
statement_judged schema length None = Err (faults.Syntax length)
statement_judged schema length (Some said) = statement_said schema length said

-- the order, or the fault of its statement
abbrev pub order_said : Schema → ℕ → SaidOrder PlacedWord → Result Order LineFault
order_said schema length (Whole statement) = statement_said schema length statement >>= λ s. Ok (orders.Whole s)
order_said schema length (Start statement) = statement_said schema length statement >>= λ s. Ok (orders.Start s)
order_said schema length Step = Ok orders.Step
order_said schema length Finish = Ok orders.Finish

-- the order of words, where none is missing
abbrev pub order_judged : Schema → ℕ → Option (SaidOrder PlacedWord) → Result Order LineFault
order_judged schema length None = Err (faults.Syntax length)
order_judged schema length (Some said) = order_said schema length said
