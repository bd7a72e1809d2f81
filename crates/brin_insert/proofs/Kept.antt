-- what a kept table says of the index in which an insert is at work
use Rattle.std.proofs.Common.{◌≡◌, ℕ, zero, suc, ◌/◌, List, length, Option, Some, refl, sym, ap, subst, ◌∙◌}
use Rattle.std.specs.Prelude.{slice_get}
use Rattle.std.proofs.lemmas.Option.{slice_get_within}
use Rattle.block_model.specs.declared.place.Spot.{Spot}
use Rattle.block_model.specs.declared.row.Row.{Row}
use Rattle.store_layout.specs.DiskLayout.{DiskLayout}
use Rattle.page_map.specs.PageMap.{PageMap}
use Rattle.page_locks.specs.LockHolders.{LockState}
use Rattle.heap_rows.specs.Heaps.{slots_a_page}
use Rattle.coverage.specs.IndexView.{IndexTuple, IndexView, IsTupleOf, range_of_block}
use Rattle.coverage.specs.IsCovered.{IndexState, IsIndexKept, StatementHolds, index_view}
use Rattle.coverage.specs.IsSound.{IsSound}
use Rattle.coverage.specs.Statements.{OnIndex, Moving, Inserting, Statement}
use Rattle.coverage.specs.Machines.{table_state}
use Rattle.coverage.specs.Table.{Task, Inserts, TableState, index_state, inserting_of, on_index_by, seen_by}
use Rattle.index_contents.specs.IndexContents.{IndexContents, contents}
use Rattle.index_steps.specs.IndexTuples.{IndexShape, index_at, shape_of}
use Rattle.index_steps.specs.MoveEnds.{IsMoving}
use Rattle.index_steps.specs.Readings.{IsMisnamed, IsMisread}
use Rattle.index_steps.specs.ShownIndex.{Shows, lock_in}
use Rattle.brin_insert.specs.declared.stage.Stage.{Stage}
use Rattle.brin_insert.specs.declared.stage.Stage.TheVariants as stages
use Rattle.brin_insert.specs.InsertSteps.{on_index}
use Rattle.index_steps.specs.ShownRows.{ShowsKept, rows_in, shown_by}
use Rattle.index_steps.specs.ShownTable.{indexes_of}
use Rattle.brin_insert.specs.StepAnswers.{DamageAt}
use Rattle.index_steps.proofs.TableIndexes.{ranged, shows_here}

-- an insert that is at an index is at work there
on_here : (i : ℕ) (on : OnIndex) → on_index_by i i on ≡ Some on
on_here zero on = refl
on_here (suc i) on = on_here i on

-- what the laws of one index say
abbrev pub KnowsMove : Type 0
KnowsMove = (shape : IndexShape) (c : IndexContents) (lock : ℕ → Option ℕ) (w : IndexState) (s b k : ℕ) (r : Row) (x y : Spot) (old new : IndexTuple) → Shows shape c lock (index_view w) → IsIndexKept w
    → w.statement s ≡ Inserting b k r (Moving x y old new) → IsMoving shape c (range_of_block (index_view w) b) x y

abbrev pub NotMisnamed : Type 0
NotMisnamed = (shape : IndexShape) (c : IndexContents) (lock : ℕ → Option ℕ) (w : IndexView) (range : ℕ) → Shows shape c lock w → IsSound w → IsMisnamed c range → ⊥

abbrev pub NotMisread : Type 0
NotMisread = (shape : IndexShape) (c : IndexContents) (lock : ℕ → Option ℕ) (w : IndexView) (range : ℕ) (x : Spot) → Shows shape c lock w
    → ((t : IndexTuple) → w.tuple x ≡ Some t → t.range ≡ range → IsTupleOf w t) → IsMisread shape c range x → ⊥

abbrev pub ReadsTuples : Type 0
ReadsTuples = (w : IndexState) (s range : ℕ) (x : Spot) (t : IndexTuple) → IsIndexKept w → StatementHolds (index_view w) (w.statement s) range x
    → w.tuple x ≡ Some t → t.range ≡ range → IsTupleOf (index_view w) t

module _ (layout : DiskLayout) (pages : PageMap) (locks : LockState) (s table at n b k : ℕ) (r : Row) (on : OnIndex) (there : slice_get (indexes_of layout table) at ≡ Some n)
    (shows : ShowsKept layout pages locks s table (Inserts b k r at on)) where
  abbrev state : TableState
  state = table_state (shown_by layout pages locks table shows.blocks) shows.unseen

  abbrev w : IndexState
  w = index_state at state

  index_kept : IsIndexKept w
  index_kept = shows.kept.indexes at (slice_get_within (indexes_of layout table) at n there)

  is_inserting : w.statement s ≡ Inserting b k r on
  is_inserting = ap (λ (t : Task). seen_by at t) shows.at ∙ ap (λ (o : Option OnIndex). inserting_of b k r o) (on_here at on)

  shown : Shows (shape_of layout n) (contents layout pages n) (lock_in layout locks n) (index_view w)
  shown = shows_here layout pages locks table (slots_a_page layout table) (length shows.blocks) (rows_in table shows.blocks) at n there shows.unseen

  in_range : range_of_block (index_view w) b ≡ b / (index_at layout n).pages_per_range
  in_range = ranged layout pages locks table (slots_a_page layout table) (length shows.blocks) (rows_in table shows.blocks) at n there shows.unseen b

  not_misnamed : NotMisnamed → IsMisnamed (contents layout pages n) (b / (index_at layout n).pages_per_range) → ⊥
  not_misnamed named misnamed = named (shape_of layout n) (contents layout pages n) (lock_in layout locks n) (index_view w) (b / (index_at layout n).pages_per_range) shown index_kept.sound misnamed

  not_misread : NotMisread → ReadsTuples → (x : Spot) → StatementHolds (index_view w) (Inserting b k r on) (b / (index_at layout n).pages_per_range) x
      → IsMisread (shape_of layout n) (contents layout pages n) (b / (index_at layout n).pages_per_range) x → ⊥
  not_misread read tuples x holds misread = read (shape_of layout n) (contents layout pages n) (lock_in layout locks n) (index_view w) (b / (index_at layout n).pages_per_range) x shown
      (λ t is same. tuples w s (b / (index_at layout n).pages_per_range) x t index_kept
      (subst (λ (statement : Statement). StatementHolds (index_view w) statement (b / (index_at layout n).pages_per_range) x) (sym is_inserting) holds) is same) misread

  -- a move stands as it has to
  pub moves_there : KnowsMove → (x y : Spot) (old new : IndexTuple) → on ≡ Moving x y old new → IsMoving (shape_of layout n) (contents layout pages n) (b / (index_at layout n).pages_per_range) x y
  moves_there knows x y old new is = subst (λ (m : ℕ). IsMoving (shape_of layout n) (contents layout pages n) m x y) in_range
      (knows (shape_of layout n) (contents layout pages n) (lock_in layout locks n) w s b k r x y old new shown index_kept (is_inserting ∙ ap (λ (h : OnIndex). Inserting b k r h) is))

-- nothing is damaged that a step reads
module _ (named : NotMisnamed) (read : NotMisread) (tuples : ReadsTuples) (layout : DiskLayout) (pages : PageMap) (locks : LockState) (s table at n b k : ℕ) (r : Row) (copied widened : List ℕ) (there : slice_get (indexes_of layout table) at ≡ Some n) where
  pub undamaged : (stage : Stage) → ShowsKept layout pages locks s table (Inserts b k r at (on_index (shape_of layout n) stage copied widened))
      → DamageAt (shape_of layout n) (contents layout pages n) (b / (index_at layout n).pages_per_range) stage → ⊥
  undamaged stages.Map shows damage = not_misnamed layout pages locks s table at n b k r (on_index (shape_of layout n) stages.Map copied widened) there shows named damage
  undamaged (stages.Copy x) shows damage =
      let on = on_index (shape_of layout n) (stages.Copy x) copied widened in
      not_misread layout pages locks s table at n b k r on there shows read tuples x (in_range layout pages locks s table at n b k r on there shows, refl) damage
  undamaged (stages.Swap x) shows damage = damage
  undamaged (stages.Set x y) shows damage = damage
  undamaged (stages.Drop x) shows damage = damage
  undamaged stages.Complete shows damage = damage
