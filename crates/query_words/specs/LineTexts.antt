-- how a line is printed
use Rattle.std.specs.Prelude.{ℕ, List, [], ◌∷◌, ◌++◌, map, codes, decimal, slice_get, unwrap_or}
use Rattle.std.specs.Option.{option_map}
use Rattle.std.specs.List.{flat_map}
use Rattle.block_model.specs.declared.value.Value.{Value}
use Rattle.block_model.specs.declared.value.Op.{Op}
use Rattle.block_model.specs.declared.value.Op.TheVariants as ops
use Rattle.block_model.specs.declared.row.Cond.{Cond}
use Rattle.block_model.specs.declared.row.Query.{Query}
use Rattle.block_model.specs.declared.schema.Schema.{Schema}
use Rattle.block_model.specs.declared.schema.Table.{Table}
use Rattle.block_model.specs.declared.schema.Column.{Column}
use Rattle.block_model.specs.declared.schema.Index.{Index}
use Rattle.value_text.specs.CanonicalTexts.{canonical_text}
use Rattle.store_layout.specs.declared.statement.Statement.{Statement}
use Rattle.store_layout.specs.declared.statement.Statement.TheVariants as statements
use Rattle.query_words.specs.Operators.{op_text}
use Rattle.query_words.specs.declared.line.Line.{Line}
use Rattle.query_words.specs.declared.line.Line.TheVariants as lines
use Rattle.query_words.specs.declared.line.Order.{Order}
use Rattle.query_words.specs.declared.line.Order.TheVariants as orders
use Rattle.query_words.specs.Grammar.{SaidCond, Compared, Null, NotNull, SaidStatement, Begin, Commit, Rollback, Insert, Select, Delete, Explain, Summarize, Desummarize, Vacuum, Work, SaidOrder, Whole, Start, Step, Finish, SaidLine, Nothing, Say, words_of_said}

-- the name of the table of that number
abbrev pub table_name : Schema → ℕ → List ℕ
table_name schema n = unwrap_or (option_map (λ (t : Table). t.name) (slice_get schema.tables n)) []

-- the name of the index of that number
abbrev pub index_name : Schema → ℕ → List ℕ
index_name schema n = unwrap_or (option_map (λ (i : Index). i.name) (slice_get schema.indexes n)) []

-- the columns of the table of that number
abbrev pub columns_at : Schema → ℕ → List Column
columns_at schema n = unwrap_or (option_map (λ (t : Table). t.columns) (slice_get schema.tables n)) []

-- the name of the column of that number
abbrev pub column_name : List Column → ℕ → List ℕ
column_name columns n = unwrap_or (option_map (λ (c : Column). c.name) (slice_get columns n)) []

-- a comparison with its key, or whether the value is null
abbrev pub test_of : List ℕ → Op → Value → SaidCond (List ℕ)
test_of column ops.IsNull key = Null column
test_of column ops.NotNull key = NotNull column
test_of column op key = Compared column (op_text op) (canonical_text key)

abbrev pub cond_of : List Column → Cond → SaidCond (List ℕ)
cond_of columns cond = test_of (column_name columns cond.column) cond.op cond.key

abbrev pub conds_of : Schema → Query → List (SaidCond (List ℕ))
conds_of schema query = map (cond_of (columns_at schema query.table)) query.conds

-- a statement in words
abbrev pub statement_of : Schema → Statement → SaidStatement (List ℕ)
statement_of schema statements.Begin = Begin
statement_of schema statements.Commit = Commit
statement_of schema statements.Rollback = Rollback
statement_of schema (statements.Insert table values) = Insert (table_name schema table) (map canonical_text values)
statement_of schema (statements.Select query) = Select (table_name schema query.table) (conds_of schema query)
statement_of schema (statements.Delete query) = Delete (table_name schema query.table) (conds_of schema query)
statement_of schema (statements.Explain query) = Explain (table_name schema query.table) (conds_of schema query)
statement_of schema (statements.Summarize index block) = Summarize (index_name schema index) (option_map decimal block)
statement_of schema (statements.Desummarize index block) = Desummarize (index_name schema index) (decimal block)
statement_of schema (statements.Vacuum table) = Vacuum (table_name schema table)
statement_of schema statements.Work = Work

-- an order in words
abbrev pub order_of : Schema → Order → SaidOrder (List ℕ)
order_of schema (orders.Whole statement) = Whole (statement_of schema statement)
order_of schema (orders.Start statement) = Start (statement_of schema statement)
order_of schema orders.Step = Step
order_of schema orders.Finish = Finish

-- a line in words, of the one grammar
abbrev pub said_of_line : Schema → Line → SaidLine (List ℕ)
said_of_line schema lines.Nothing = Nothing []
said_of_line schema (lines.Say session order) = Say session (order_of schema order)

-- words, each behind a space
abbrev pub spaced : List (List ℕ) → List ℕ
spaced words = flat_map (λ word. codes " " ++ word) words

-- words with single spaces between them
abbrev pub joined : List (List ℕ) → List ℕ
joined [] = []
joined (word ∷ words) = word ++ spaced words

-- the text of a line, without a line feed
abbrev pub line_text : Schema → Line → List ℕ
line_text schema line = joined (words_of_said (said_of_line schema line))
