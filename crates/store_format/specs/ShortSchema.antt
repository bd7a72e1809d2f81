-- schemas whose counts fit a byte
use Rattle.std.specs.Prelude.{◌≤◌, length}
use Rattle.block_model.specs.declared.limits.TheConstants.{MAX_COLUMNS}
use Rattle.block_model.specs.declared.schema.Table.{Table}
use Rattle.block_model.specs.declared.schema.Index.{Index}
use Rattle.block_model.specs.declared.schema.Schema.{Schema}
use Rattle.std.specs.List.{AllByRecursion}

-- it has at most eight columns
abbrev pub IsShortTable : Table → Type 0
IsShortTable table = length table.columns ≤ MAX_COLUMNS

-- it is on at most eight columns
abbrev pub IsShortIndex : Index → Type 0
IsShortIndex index = length index.parts ≤ MAX_COLUMNS

-- at most eight tables and eight indexes of at most eight columns each
pub record IsShort (schema : Schema) : Type 0 where
  pub few_tables : length schema.tables ≤ 8
  pub few_indexes : length schema.indexes ≤ 8
  pub tables : AllByRecursion IsShortTable schema.tables
  pub indexes : AllByRecursion IsShortIndex schema.indexes
