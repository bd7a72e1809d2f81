-- what a scan has of a table that is kept
use Rattle.std.proofs.Common.{◌≡◌, ℕ, ◌<◌, List, Option, None, Some, length, subst, sym}
use Rattle.std.proofs.lemmas.Option.{slice_get_within}
use Rattle.block_model.specs.declared.place.Spot.{Spot}
use Rattle.store_layout.specs.DiskLayout.{DiskLayout}
use Rattle.page_layout.specs.PageContents.{Slot}
use Rattle.page_map.specs.PageMap.{PageMap}
use Rattle.page_locks.specs.LockHolders.{LockState}
use Rattle.coverage.specs.IndexView.{IndexTuple, IndexView, IsTupleOf}
use Rattle.coverage.specs.IsCovered.{IndexState, IsIndexKept, StatementHolds, index_view}
use Rattle.coverage.specs.IsSound.{IsSound}
use Rattle.coverage.specs.Machines.{Unseen, table_state}
use Rattle.coverage.specs.Table.{Task, TableState, index_state, seen_by}
use Rattle.coverage.specs.TableCovered.{IsTableKept}
use Rattle.coverage.proofs.Views.{pick_same}
use Rattle.index_contents.specs.IndexContents.{IndexContents, contents}
use Rattle.index_steps.specs.IndexTuples.{IndexShape, shape_of}
use Rattle.index_steps.specs.Readings.{IsMisnamed, IsMisread}
use Rattle.index_steps.specs.ShownIndex.{Shows, lock_in}
use Rattle.index_steps.specs.ShownRows.{shown_by}
use Rattle.index_steps.specs.ShownTable.{indexes_of}
use Rattle.bitmap_scan.specs.ScanAnswers.{IsDamagedAt}
use Rattle.bitmap_scan.specs.ScanHands.{IsAtStage, ScanHand, ScannedIndex, scanned_at, scanned_indexes}
use Rattle.bitmap_scan.specs.TableScans.{Beside, task_of}
use Rattle.bitmap_scan.specs.declared.stage.Stage.{Stage}
use Rattle.bitmap_scan.specs.declared.stage.Stage.TheVariants as stages
use Rattle.bitmap_scan.proofs.InTable.{shows_here}
use Rattle.bitmap_scan.proofs.Numbers.{IsThere, is_there}

-- what the laws of one index say
abbrev pub NotMisnamed : Type 0
NotMisnamed = (shape : IndexShape) (c : IndexContents) (lock : ℕ → Option ℕ) (w : IndexView) (range : ℕ) → Shows shape c lock w → IsSound w → IsMisnamed c range → ⊥

abbrev pub NotMisread : Type 0
NotMisread = (shape : IndexShape) (c : IndexContents) (lock : ℕ → Option ℕ) (w : IndexView) (range : ℕ) (x : Spot) → Shows shape c lock w
    → ((t : IndexTuple) → w.tuple x ≡ Some t → t.range ≡ range → IsTupleOf w t) → IsMisread shape c range x → ⊥

abbrev pub ReadsTuples : Type 0
ReadsTuples = (w : IndexState) (s range : ℕ) (x : Spot) (t : IndexTuple) → IsIndexKept w → StatementHolds (index_view w) (w.statement s) range x
    → w.tuple x ≡ Some t → t.range ≡ range → IsTupleOf (index_view w) t

module _ (layout : DiskLayout) (pages : PageMap) (locks : LockState) (blocks : List (List Slot)) (hand : ScanHand) (beside : Beside) (u : Unseen)
    (is : hand.indexes ≡ scanned_indexes layout hand.query.table) (kept : IsTableKept (table_state (shown_by layout pages locks hand.query.table blocks) u)) where
  abbrev w : TableState
  w = table_state (shown_by layout pages locks hand.query.table blocks) u

  -- at an index of the table
  module _ (at : ℕ) (below : at < length hand.indexes) where
    there : IsThere layout hand.query.table hand.indexes at
    there = is_there layout hand.query.table hand.indexes at is below

    index_kept : IsIndexKept (index_state at w)
    index_kept = kept.indexes at (slice_get_within (indexes_of layout hand.query.table) at there.n there.there)

    shows : Shows (shape_of layout there.n) (contents layout pages there.n) (lock_in layout locks there.n) (index_view (index_state at w))
    shows = shows_here layout pages locks hand.query.table blocks u at there.n there.there

    named_well : NotMisnamed → (range : ℕ) → IsMisnamed (contents layout pages (scanned_at hand.indexes at).number) range → ⊥
    named_well named range damage = named (shape_of layout there.n) (contents layout pages there.n) (lock_in layout locks there.n) (index_view (index_state at w)) range shows index_kept.sound
        (subst (λ (i : ScannedIndex). IsMisnamed (contents layout pages i.number) range) there.scanned damage)

    read_well : NotMisread → ReadsTuples → (s range : ℕ) (x : Spot) → StatementHolds (index_view (index_state at w)) (seen_by at (u.task s)) range x
        → IsMisread (shape_of layout (scanned_at hand.indexes at).number) (contents layout pages (scanned_at hand.indexes at).number) range x → ⊥
    read_well read tuples s range x holds damage = read (shape_of layout there.n) (contents layout pages there.n) (lock_in layout locks there.n) (index_view (index_state at w)) range x shows
        (λ t stands same. tuples (index_state at w) s range x t index_kept holds stands same)
        (subst (λ (i : ScannedIndex). IsMisread (shape_of layout i.number) (contents layout pages i.number) range x) there.scanned damage)

  module _ (named : NotMisnamed) (read : NotMisread) (tuples : ReadsTuples) (s : ℕ) where
    at_stage : (stage : Stage) → IsAtStage hand.indexes hand.extent stage → u.task s ≡ task_of layout stage (record hand { stage = stage }) beside → IsDamagedAt layout pages hand.indexes stage → ⊥
    at_stage stages.Extent inside task damage = damage
    at_stage (stages.Map at range) inside task damage = named_well at inside.0 named range damage
    at_stage (stages.Tuple at range x) inside task damage =
        let holds : StatementHolds (index_view (index_state at w)) (seen_by at (u.task s)) range x =
        subst (λ (t : Task). StatementHolds (index_view (index_state at w)) (seen_by at t) range x) (sym task) (pick_same at (Some (range, x)) None) in
        read_well at inside.0 read tuples s range x holds damage
    at_stage stages.Judged inside task damage = damage

    -- a scan finds no damage
    pub undamaged : IsAtStage hand.indexes hand.extent hand.stage → u.task s ≡ task_of layout hand.stage hand beside → IsDamagedAt layout pages hand.indexes hand.stage → ⊥
    undamaged inside task damage = at_stage hand.stage inside task damage
