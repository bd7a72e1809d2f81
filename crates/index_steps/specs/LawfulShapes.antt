-- the indexes whose tuples fit a page
use Rattle.std.specs.Prelude.{◌≡◌, ◌<◌, ◌≤◌, nat_lt, true, length}
use Rattle.std.specs.List.{list_all}
use Rattle.block_model.specs.declared.limits.TheConstants.{MAX_TUPLE}
use Rattle.block_model.specs.ClassLimits.{class_is_lawful}
use Rattle.block_model.specs.TupleSize.{tuple_size}
use Rattle.index_steps.specs.IndexTuples.{IndexShape}

-- an index on some columns of its table, each by a class that takes its kind, whose greatest tuple fits a page
pub record IsLawfulShape (shape : IndexShape) : Type 0 where
  pub some : 0 < length shape.parts
  pub within : list_all (λ part. nat_lt part.column (length shape.columns)) shape.parts ≡ true
  pub classes : list_all (class_is_lawful shape.columns) shape.parts ≡ true
  pub size : tuple_size shape.columns shape.parts ≤ MAX_TUPLE
