-- schemas with few tables of few columns, and few indexes
use Rattle.std.specs.Prelude.{◌≤◌, length, All}
use Rattle.block_model.specs.declared.schema.Schema.{Schema}
use Rattle.block_model.specs.declared.schema.Table.{Table}
use Rattle.block_model.specs.declared.limits.TheConstants.{MAX_COLUMNS}

abbrev pub HasFewColumns : Table → Type 0
HasFewColumns table = length table.columns ≤ MAX_COLUMNS

pub record IsSmallSchema (schema : Schema) : Type 0 where
  pub tables : length schema.tables ≤ 8
  pub columns : All HasFewColumns schema.tables
  pub indexes : length schema.indexes ≤ 8
