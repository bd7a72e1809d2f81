-- Where a script stands at its first line, in a store that is new or was opened: the tables are the layout's, and nobody has anything in hand.
use Rattle.std.specs.Prelude.{◌≡◌, ℕ, ◌<◌, [], length, slice_get, None, Some}
use Rattle.block_model.specs.declared.schema.Table.{Table}
use Rattle.block_model.specs.DatabaseState.{DatabaseState, initial_state}
use Rattle.store_layout.specs.DiskLayout.{DiskLayout}
use Rattle.coverage.specs.Accounts.{no_account}
use Rattle.coverage.specs.Table as tables
use Rattle.coverage.specs.Table.{TableState}
use Rattle.coverage.specs.TableCovered.{IsNewTable, IsTableAtRest, IsTableCovered}
use Rattle.index_steps.specs.IndexTuples.{contents_of, index_at, shape_of}
use Rattle.index_steps.specs.ShownTable.{indexes_of}
use Rattle.script_semantics.specs.Place.{Place}

-- an index of a table is as the one of that number is declared
pub record IsDeclared (layout : DiskLayout) (number : ℕ) (index : tables.Index) : Type 0 where
  pub contents : index.contents ≡ contents_of (shape_of layout number)
  pub pages_per_range : index.pages_per_range ≡ (index_at layout number).pages_per_range
  pub autosummarize : index.autosummarize ≡ (index_at layout number).auto
  pub limit : index.pages.limit ≡ layout.sizes.index_blocks

-- the table of that number has its declaration's indexes, in their order, and sizes
pub record IsLaidOut (layout : DiskLayout) (table : ℕ) (w : TableState) : Type 0 where
  pub indexes : w.indexes ≡ length (indexes_of layout table)
  pub index : (at number : ℕ) → slice_get (indexes_of layout table) at ≡ Some number → IsDeclared layout number (w.index at)
  pub slots : (declared : Table) → slice_get layout.schema.tables table ≡ Some declared → w.rows_per_page ≡ declared.rows_per_page
  pub limit : w.heap_limit ≡ layout.sizes.heap_blocks

pub record IsStart (layout : DiskLayout) (p : Place) : Type 0 where
  pub layout_is : p.layout ≡ layout
  pub opening : p.opening ≡ initial_state
  pub names : p.names ≡ []
  pub journal : p.journal ≡ []
  pub queue : p.queue ≡ []
  pub hands : (n : ℕ) → p.hands n ≡ None
  pub accounts : (n : ℕ) → p.accounts n ≡ no_account
  pub laid_out : (table : ℕ) → table < length layout.schema.tables → IsLaidOut layout table (p.tables table)
  pub new : (table : ℕ) → table < length layout.schema.tables → IsNewTable (p.tables table)
  pub empty : (table : ℕ) → table < length layout.schema.tables → (p.tables table).blocks ≡ 0

-- a store that was opened shows this database; each table is as a run may have left it, with nobody at work in it
pub record IsOpening (layout : DiskLayout) (opening : DatabaseState) (p : Place) : Type 0 where
  pub layout_is : p.layout ≡ layout
  pub opening_is : p.opening ≡ opening
  pub names : p.names ≡ []
  pub journal : p.journal ≡ []
  pub queue : p.queue ≡ []
  pub hands : (n : ℕ) → p.hands n ≡ None
  pub accounts : (n : ℕ) → p.accounts n ≡ no_account
  pub laid_out : (table : ℕ) → table < length layout.schema.tables → IsLaidOut layout table (p.tables table)
  pub rest : (table : ℕ) → table < length layout.schema.tables → IsTableAtRest (p.tables table)
  pub covered : (table : ℕ) → table < length layout.schema.tables → IsTableCovered (p.tables table)
