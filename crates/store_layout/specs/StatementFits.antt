-- the statements that fit a schema: their numbers are declared, and their values and operators are of their columns' kinds
use Rattle.std.specs.Prelude.{◌≡◌, ℕ, true, List, [], ◌∷◌, All, slice_get, Some}
use Rattle.block_model.specs.declared.value.Value.{Value}
use Rattle.block_model.specs.declared.value.Value.TheVariants as values
use Rattle.block_model.specs.declared.value.Op.{Op}
use Rattle.block_model.specs.declared.value.Op.TheVariants as ops
use Rattle.block_model.specs.declared.row.Cond.{Cond}
use Rattle.block_model.specs.declared.row.Query.{Query}
use Rattle.block_model.specs.declared.schema.Schema.{Schema}
use Rattle.block_model.specs.declared.schema.Table.{Table}
use Rattle.block_model.specs.declared.schema.Column.{Column}
use Rattle.block_model.specs.declared.schema.Index.{Index}
use Rattle.block_model.specs.ValuesOfKind.{IsValueOf}
use Rattle.store_layout.specs.declared.statement.Statement.{Statement}
use Rattle.store_layout.specs.declared.statement.Statement.TheVariants as statements
use Rattle.store_layout.specs.OperatorKinds.{takes_operator}

-- `is null` and `is not null` have no key
abbrev pub HasKeyFor : Op → Value → Type 0
HasKeyFor ops.IsNull key = key ≡ values.Null
HasKeyFor ops.NotNull key = key ≡ values.Null
HasKeyFor op key = Unit {0}

-- a condition on one of the columns, with an operator and a key of its kind
pub record IsCondFor (columns : List Column) (cond : Cond) : Type 0 where
  pub on : Column
  pub column : slice_get columns cond.column ≡ Some on
  pub op : takes_operator on.kind cond.op ≡ true
  pub key : IsValueOf on.kind cond.key
  pub no_key : HasKeyFor cond.op cond.key

-- one value of each column's kind
abbrev pub AreValuesFor : List Column → List Value → Type 0
AreValuesFor [] [] = Unit {0}
AreValuesFor (column ∷ columns) (value ∷ values) = IsValueOf column.kind value × AreValuesFor columns values
AreValuesFor columns values = ⊥

-- a query of a declared table, with conditions on its columns
pub record IsQueryFor (schema : Schema) (query : Query) : Type 0 where
  pub of : Table
  pub table : slice_get schema.tables query.table ≡ Some of
  pub conds : All (IsCondFor of.columns) query.conds

-- values for a declared table
pub record IsInsertFor (schema : Schema) (number : ℕ) (row : List Value) : Type 0 where
  pub into : Table
  pub table : slice_get schema.tables number ≡ Some into
  pub values : AreValuesFor into.columns row

-- an index of that number is declared
abbrev pub IsIndexOf : Schema → ℕ → Type 0
IsIndexOf schema n = (index : Index) × (slice_get schema.indexes n ≡ Some index)

-- a table of that number is declared
abbrev pub IsTableOf : Schema → ℕ → Type 0
IsTableOf schema n = (table : Table) × (slice_get schema.tables n ≡ Some table)

-- a statement that fits
abbrev pub IsStatementFor : Schema → Statement → Type 0
IsStatementFor schema statements.Begin = Unit {0}
IsStatementFor schema statements.Commit = Unit {0}
IsStatementFor schema statements.Rollback = Unit {0}
IsStatementFor schema (statements.Insert table values) = IsInsertFor schema table values
IsStatementFor schema (statements.Select query) = IsQueryFor schema query
IsStatementFor schema (statements.Delete query) = IsQueryFor schema query
IsStatementFor schema (statements.Explain query) = IsQueryFor schema query
IsStatementFor schema (statements.Summarize index block) = IsIndexOf schema index
IsStatementFor schema (statements.Desummarize index block) = IsIndexOf schema index
IsStatementFor schema (statements.Vacuum table) = IsTableOf schema table
IsStatementFor schema statements.Work = Unit {0}
