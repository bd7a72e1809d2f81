-- the control page of a store
use Rattle.std.specs.Prelude.{◌≡◌, ℕ, true, List, ◌∷◌, ◌++◌, codes, slice_index}
use Rattle.std.specs.Int.{bytes_high_first}
use Rattle.std.specs.List.{AllByRecursion}
use Rattle.block_model.specs.declared.limits.TheConstants.{PAGE_SIZE}
use Rattle.block_model.specs.declared.schema.Column.{Column}
use Rattle.block_model.specs.declared.schema.Table.{Table}
use Rattle.block_model.specs.declared.schema.Index.{Index}
use Rattle.block_model.specs.declared.schema.Schema.{Schema}
use Rattle.block_model.specs.Names.{is_name}
use Rattle.block_model.specs.Padded.{padded}
use Rattle.store_layout.specs.declared.layout.TheConstants.{FORMAT}
use Rattle.store_layout.specs.DiskLayout.{DiskLayout}
use Rattle.store_layout.specs.FirstBrokenRule.{KeepsLimits}
use Rattle.store_format.specs.ControlBytes.{sizes_bytes, schema_bytes}

-- the gate, the area byte, `BRINSTOR`, and two bytes of format
abbrev pub head_bytes : ℕ → ℕ → List ℕ
head_bytes gate area = gate ∷ area ∷ (codes "BRINSTOR" ++ bytes_high_first 2 FORMAT)

-- all that is written in front of the zeros
unfoldable pub written_bytes : DiskLayout → ℕ → ℕ → List ℕ
written_bytes layout gate area = head_bytes gate area ++ (sizes_bytes layout.sizes ++ schema_bytes layout.schema)

-- the control page of a layout, with that gate and that area byte
unfoldable pub control_bytes : DiskLayout → ℕ → ℕ → List ℕ
control_bytes layout gate area = padded PAGE_SIZE 0 (written_bytes layout gate area)

-- names are a lower-case letter and up to 15 further letters, digits or '_'
abbrev pub ColumnIsNamed : Column → Type 0
ColumnIsNamed column = is_name column.name ≡ true

abbrev pub TableIsNamed : Table → Type 0
TableIsNamed table = (is_name table.name ≡ true) × AllByRecursion ColumnIsNamed table.columns

abbrev pub IndexIsNamed : Index → Type 0
IndexIsNamed index = is_name index.name ≡ true

-- each name of a schema is one
abbrev pub HasNames : Schema → Type 0
HasNames schema = AllByRecursion TableIsNamed schema.tables × AllByRecursion IndexIsNamed schema.indexes

-- the page is the control page of a store with this layout: its gate is open, and its area byte is any
pub record HasControl (layout : DiskLayout) (page : List ℕ) : Type 0 where
  pub names : HasNames layout.schema
  pub limits : KeepsLimits layout.schema layout.sizes
  pub bytes : page ≡ control_bytes layout 1 (slice_index page 1)
