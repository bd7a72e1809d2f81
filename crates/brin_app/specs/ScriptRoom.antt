-- When a script fits the journal, so that the run of it is complete.
use Rattle.std.specs.Prelude.{ℕ, List, length, Some}
use Rattle.block_model.specs.TableState.{TableState, rows_in}
use Rattle.page_map.specs.PageMap.{PageMap}
use Rattle.script_laws.specs.RequestBounds.{HasRoom}
use Rattle.script_run.specs.Script.{script_lines}
use Rattle.script_semantics.specs.Starts.{IsStart}
use Rattle.store_layout.specs.DiskLayout.{DiskLayout}
use Rattle.brin_app.specs.ScriptOutput.{StartsOver}
use Rattle.brin_app.specs.StatusCauses.{FitsJournal}

-- Where its lines have room: over a new store, which has no row, and over one that stands there, by the rows of its table.
pub record ScriptsFitJournal : Type 0 where
  pub new : (layout : DiskLayout) (script : List ℕ) → HasRoom layout.schema 0 (script_lines script) → FitsJournal (IsStart layout) layout (Some script)
  pub stored : (layout : DiskLayout) (pages : PageMap) (next : ℕ) (table : TableState) (script : List ℕ) → HasRoom layout.schema (length (rows_in table)) (script_lines script)
      → FitsJournal (StartsOver layout pages next table) layout (Some script)
