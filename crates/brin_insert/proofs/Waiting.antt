-- an insert that waits in an index, or lacks a page there, in its table
use Rattle.std.proofs.Common.{◌≡◌, ℕ, ◌/◌, ◌<◌, List, length, Option, Some, refl, sym, subst}
use Rattle.std.specs.Prelude.{slice_get}
use Rattle.std.proofs.lemmas.Option.{slice_get_within}
use Rattle.block_model.specs.declared.row.Row.{Row}
use Rattle.store_layout.specs.DiskLayout.{DiskLayout}
use Rattle.page_map.specs.PageMap.{PageMap}
use Rattle.page_locks.specs.LockHolders.{LockState}
use Rattle.coverage.specs.Statements.{Copied}
use Rattle.coverage.specs.Verdicts.{Full, SwapVerdict, Waits}
use Rattle.coverage.specs.Machines.{Unseen, table_state}
use Rattle.coverage.specs.Refusals.{InsertFull}
use Rattle.coverage.specs.Table.{Inserts, TableState, index_view_at}
use Rattle.coverage.specs.TableCovered.{IsTableKept}
use Rattle.coverage.specs.TableSteps.{IndexFull, InsertWaits}
use Rattle.range_tuple.specs.TupleBytes.{tuple_bytes}
use Rattle.range_tuple.specs.Tuples.{Tuple}
use Rattle.index_steps.specs.IndexTuples.{index_at, seen, shape_of}
use Rattle.brin_insert.specs.declared.stage.Stage.{Stage}
use Rattle.brin_insert.specs.declared.stage.Stage.TheVariants as stages
use Rattle.brin_insert.specs.InsertAnswers.{InsertWaitsFor, IsInsertFull}
use Rattle.brin_insert.specs.InsertSteps.{IsWaiting, StepWaits, insert_at, on_index}
use Rattle.index_steps.specs.ShownTable.{indexes_of, shown_table}
use Rattle.brin_insert.specs.StepAnswers.{IsFullFor, StepFull}
use Rattle.index_steps.proofs.TableIndexes.{ranged, shows_here}
use Rattle.brin_insert.proofs.Tables.{InsertKnows}

module _ (layout : DiskLayout) (pages : PageMap) (locks : LockState) (table rows_per_page blocks at n s b k : ℕ) (row : ℕ → ℕ → Option Row) (r : Row) (copied : List ℕ) (t : Tuple) (there : slice_get (indexes_of layout table) at ≡ Some n) where
  abbrev state : Unseen → TableState
  state u = table_state (shown_table layout pages locks table rows_per_page blocks row) u

  abbrev range : ℕ
  range = b / (index_at layout n).pages_per_range

  below : at < length (indexes_of layout table)
  below = slice_get_within (indexes_of layout table) at n there

  -- it waits in the index that the table shows
  waiting : InsertKnows → (page : ℕ) (stage : Stage) → StepWaits (shape_of layout n) s range r (insert_at layout pages locks n stage copied t) page
      → (u : Unseen) → u.task s ≡ Inserts b k r at (on_index (shape_of layout n) stage copied (tuple_bytes t)) → IsTableKept (state u)
      → IsWaiting (index_view_at at (state u)) s range (on_index (shape_of layout n) stage copied (tuple_bytes t)) page
  waiting knows page stage waits u task kept =
      waits b k (index_view_at at (state u)) (ranged layout pages locks table rows_per_page blocks row at n there u b) (shows_here layout pages locks table rows_per_page blocks row at n there u)
      (knows s b k r at (state u) (on_index (shape_of layout n) stage copied (tuple_bytes t)) kept below task).0

  pub waits_in_table : InsertKnows → (page : ℕ) (stage : Stage) → StepWaits (shape_of layout n) s range r (insert_at layout pages locks n stage copied t) page
      → InsertWaitsFor s (shown_table layout pages locks table rows_per_page blocks row) (Inserts b k r at (on_index (shape_of layout n) stage copied (tuple_bytes t))) at page
  waits_in_table knows page stages.Map waits u task kept = absurd (waiting knows page stages.Map waits u task kept)
  waits_in_table knows page (stages.Copy x) waits u task kept = absurd (waiting knows page (stages.Copy x) waits u task kept)
  waits_in_table knows page (stages.Swap x) waits u task kept = (
    InsertWaits page b k r at x (seen (shape_of layout n) copied) (seen (shape_of layout n) (tuple_bytes t))
        (subst (λ (m : ℕ). SwapVerdict (index_view_at at (state u)) s m x (seen (shape_of layout n) copied) (seen (shape_of layout n) (tuple_bytes t)) (Waits page)) (sym (ranged layout pages locks table rows_per_page blocks row at n there u b))
        (waiting knows page (stages.Swap x) waits u task kept)),
    refl,
  )
  waits_in_table knows page (stages.Set x y) waits u task kept = absurd (waiting knows page (stages.Set x y) waits u task kept)
  waits_in_table knows page (stages.Drop x) waits u task kept = absurd (waiting knows page (stages.Drop x) waits u task kept)
  waits_in_table knows page stages.Complete waits u task kept = absurd (waiting knows page stages.Complete waits u task kept)

  -- no page is left for it in the index that the table shows
  lacking : (number : ℕ) (stage : Stage) → StepFull (shape_of layout n) s range (insert_at layout pages locks n stage copied t) number
      → (u : Unseen) → IsFullFor (index_view_at at (state u)) s range (on_index (shape_of layout n) stage copied (tuple_bytes t)) number
  lacking number stage full u = full (index_view_at at (state u)) (shows_here layout pages locks table rows_per_page blocks row at n there u)

  pub full_in_table : (number : ℕ) (stage : Stage) → StepFull (shape_of layout n) s range (insert_at layout pages locks n stage copied t) number
      → IsInsertFull s at (shown_table layout pages locks table rows_per_page blocks row) (Inserts b k r at (on_index (shape_of layout n) stage copied (tuple_bytes t))) number
  full_in_table number stages.Map full u task kept = absurd (lacking number stages.Map full u)
  full_in_table number (stages.Copy x) full u task kept = absurd (lacking number (stages.Copy x) full u)
  full_in_table number (stages.Swap x) full u task kept =
      InsertFull b k r (Inserts b k r at (Copied x (seen (shape_of layout n) copied) (seen (shape_of layout n) (tuple_bytes t)))) at number
      (IndexFull number at x (seen (shape_of layout n) copied) (seen (shape_of layout n) (tuple_bytes t))
      (subst (λ (m : ℕ). SwapVerdict (index_view_at at (state u)) s m x (seen (shape_of layout n) copied) (seen (shape_of layout n) (tuple_bytes t)) (Full number)) (sym (ranged layout pages locks table rows_per_page blocks row at n there u b))
      (lacking number (stages.Swap x) full u)))
      refl
  full_in_table number (stages.Set x y) full u task kept = absurd (lacking number (stages.Set x y) full u)
  full_in_table number (stages.Drop x) full u task kept = absurd (lacking number (stages.Drop x) full u)
  full_in_table number stages.Complete full u task kept = absurd (lacking number stages.Complete full u)
