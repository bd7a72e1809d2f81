-- the indexes whose tuples a scan can read
use Rattle.std.specs.Prelude.{◌≡◌, ◌<◌, ◌≤◌, true, All, length}
use Rattle.std.specs.List.{list_all}
use Rattle.block_model.specs.declared.limits.TheConstants.{MAX_TUPLE}
use Rattle.block_model.specs.declared.schema.Index.{Index}
use Rattle.block_model.specs.declared.schema.Schema.{Schema}
use Rattle.block_model.specs.IndexedColumns.{columns_of}
use Rattle.block_model.specs.ClassLimits.{class_is_lawful}
use Rattle.block_model.specs.TupleSize.{tuple_size}

-- an index on some columns, each by a class that takes its kind, whose greatest tuple fits a page and whose ranges have a block
pub record IsReadable (schema : Schema) (index : Index) : Type 0 where
  pub some_columns : 0 < length index.parts
  pub classes : list_all (class_is_lawful (columns_of schema index)) index.parts ≡ true
  pub size : tuple_size (columns_of schema index) index.parts ≤ MAX_TUPLE
  pub some_pages : 1 ≤ index.pages_per_range

-- all of them, and there are at most eight
pub record AreReadable (schema : Schema) : Type 0 where
  pub few : length schema.indexes ≤ 8
  pub indexes : All (IsReadable schema) schema.indexes
