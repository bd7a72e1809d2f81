-- a commit changes the transaction's own rows and those that it marked, and nothing else
use Rattle.std.specs.Prelude.{◌≡◌, false, ◌&&◌, Option, None, if◌then◌else◌}
use Rattle.std.specs.FinMap as map
use Rattle.std.specs.FinSet as set
use Rattle.block_model.specs.declared.row.RowId.{RowId}
use Rattle.block_model.specs.declared.row.Row.{Row}
use Rattle.block_model.specs.declared.request.Entry.{Entry}
use Rattle.block_model.specs.TableState.{TableState}
use Rattle.block_model.specs.DatabaseState.{DatabaseState, OpenTransaction}
use Rattle.block_model.specs.RequestEffect.{after_request, is_own}
use Rattle.model_laws.specs.Commits.{Commits, EndsAlone}

-- what stands at an id after a commit: the transaction's own row, nothing where it marked another's, else what stood there
abbrev pub row_after : TableState → OpenTransaction → RowId → Option Row
row_after table x id =
    if is_own x id && map.contains_key x.view id then map.get x.view id
    else if set.contains x.marks id then None
    else map.get table id

-- each id has its row by that, and but for the end of the transaction nothing else is changed
pub record ChangesOwn (s after : DatabaseState) (e : Entry) (x : OpenTransaction) : Type 0 where
  pub rows : (id : RowId) → map.get after.table id ≡ row_after s.table x id
  pub ends : EndsAlone s after e.session

-- wherever a transaction that hasn't failed commits
abbrev pub CommitChangesOwn : Type 0
CommitChangesOwn = (s : DatabaseState) (e : Entry) (x : OpenTransaction) → Commits s e x → x.failed ≡ false → ChangesOwn s (after_request s e) e x
