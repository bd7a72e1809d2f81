-- which conditions a tuple keeps: whether its range may hold a row that matches them
use Rattle.std.specs.Prelude.{ℕ, Bool, not, ◌&&◌, ◌||◌, ◌==◌, List}
use Rattle.std.specs.List.{list_all, filter}
use Rattle.block_model.specs.declared.value.Op.{Op}
use Rattle.block_model.specs.declared.value.Op.TheVariants.{IsNull, NotNull}
use Rattle.block_model.specs.declared.row.Cond.{Cond}
use Rattle.opclass_api.specs.Conditions.{compares}
use Rattle.opclass_any.specs.AnyClass.{consistent}
use Rattle.range_tuple.specs.NullStates.{has_nulls, has_values}
use Rattle.range_tuple.specs.Tuples.{IndexedColumn, Tuple}
use Rattle.range_tuple.specs.declared.state.NullState.{NullState}

-- the conditions on a column that are neither `is null` nor `is not null`
abbrev pub comparisons : ℕ → List Cond → List Cond
comparisons place conds = filter (λ cond. (cond.column == place) && compares cond.op) conds

-- `is null` needs nulls, `is not null` values, and any other condition that values may meet all such conditions
abbrev pub allows_op : NullState → Bool → Op → Bool
allows_op state may_meet IsNull = has_nulls state
allows_op state may_meet NotNull = has_values state
allows_op state may_meet op = may_meet

-- conditions on another column say nothing
abbrev pub allows_cond : IndexedColumn → Bool → Cond → Bool
allows_cond column may_meet cond = not (cond.column == column.place) || allows_op column.state may_meet cond.op

-- there are values, and they may meet all conditions on the column that compare
abbrev pub may_meet : List Cond → IndexedColumn → Bool
may_meet conds column = has_values column.state && consistent column.class column.summary (comparisons column.place conds)

-- the column allows each condition on it
abbrev pub column_allows : List Cond → IndexedColumn → Bool
column_allows conds column = list_all (allows_cond column (may_meet conds column)) conds

-- a placeholder keeps; an empty final tuple doesn't, whatever the conditions; else each column must allow them
abbrev pub keeps : Tuple → List Cond → Bool
keeps t conds = t.placeholder || (not t.empty && list_all (column_allows conds) t.columns)
