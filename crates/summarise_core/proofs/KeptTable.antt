-- what a summarise has of a table that is kept
use Rattle.std.proofs.Common.{◌≡◌, ℕ, List, Option, Some, ap, ◌∙◌}
use Rattle.std.specs.Prelude.{slice_get}
use Rattle.std.proofs.lemmas.Option.{slice_get_within}
use Rattle.store_layout.specs.DiskLayout.{DiskLayout}
use Rattle.page_layout.specs.PageContents.{Slot}
use Rattle.page_locks.specs.LockHolders.{LockState}
use Rattle.page_map.specs.PageMap.{PageMap}
use Rattle.index_contents.specs.PageOrder.{IsIndexInOrder}
use Rattle.coverage.specs.IsCovered.{IndexState, IsIndexKept, index_view}
use Rattle.coverage.specs.Statements.{Holding, Maintaining, Phase}
use Rattle.coverage.specs.Machines.{Unseen, table_state}
use Rattle.coverage.specs.Table.{Task, TableState, index_state, seen_by}
use Rattle.coverage.specs.TableCovered.{IsTableKept}
use Rattle.index_contents.specs.IndexContents.{IndexContents, contents, index_page}
use Rattle.index_steps.specs.IndexTuples.{IndexShape, shape_of}
use Rattle.index_steps.specs.ShownIndex.{Shows, lock_in}
use Rattle.index_steps.specs.ShownRows.{shown_by}
use Rattle.index_steps.specs.ShownTable.{indexes_of}
use Rattle.summarise_core.specs.declared.course.Standing.TheVariants as standings
use Rattle.summarise_core.specs.declared.range_stage.Stage.TheVariants as stages
use Rattle.summarise_core.specs.StepCauses.{DamageAt, IsReady}
use Rattle.summarise_core.specs.SummariseHands.{SummariseHand, table_of}
use Rattle.summarise_core.specs.SummariseSteps.{phase_of}
use Rattle.summarise_core.specs.Summarises.{DamageIn, ReadyAt, SummariseState}
use Rattle.summarise_core.specs.SummariseTable.{task_at, task_of}
use Rattle.summarise_core.proofs.Settling.{pick_same}
use Rattle.summarise_core.proofs.Shown.{shows_here}

-- what the laws of one index say
abbrev pub TakesReady : Type 0
TakesReady = (shape : IndexShape) (c : IndexContents) (lock : ℕ → Option ℕ) (w : IndexState) (s range : ℕ) (hand : SummariseHand) → Shows shape c lock (index_view w) → IsIndexKept w
    → w.statement s ≡ Maintaining range (phase_of shape hand) → IsReady shape c range hand.growth.stage hand.stage

abbrev pub TakesSound : Type 0
TakesSound = (layout : DiskLayout) (pages : PageMap) (index : ℕ) (lock : ℕ → Option ℕ) (w : IndexState) (s range : ℕ) (hand : SummariseHand) → (hand.stage ≡ stages.Place → IsIndexInOrder layout.sizes.index_blocks (index_page layout pages index)) → Shows (shape_of layout index) (contents layout pages index) lock (index_view w) → IsIndexKept w
    → w.statement s ≡ Maintaining range (phase_of (shape_of layout index) hand) → DamageAt layout pages index range hand hand.stage → ⊥

module _ (layout : DiskLayout) (pages : PageMap) (locks : LockState) (blocks : List (List Slot)) (s at : ℕ) (a : SummariseState) (u : Unseen) (there : slice_get (indexes_of layout (table_of layout a.index)) at ≡ Some a.index)
    (task : u.task s ≡ task_of layout at a) (kept : IsTableKept (table_state (shown_by layout pages locks (table_of layout a.index) blocks) u)) where
  abbrev w : TableState
  w = table_state (shown_by layout pages locks (table_of layout a.index) blocks) u

  abbrev phase : Phase
  phase = phase_of (shape_of layout a.index) a.hand

  index_kept : IsIndexKept (index_state at w)
  index_kept = kept.indexes at (slice_get_within (indexes_of layout (table_of layout a.index)) at a.index there)

  shows : Shows (shape_of layout a.index) (contents layout pages a.index) (lock_in layout locks a.index) (index_view (index_state at w))
  shows = shows_here layout pages locks blocks a.index at there u

  statement_is : a.standing ≡ standings.AtRange → seen_by at (u.task s) ≡ Maintaining a.range phase
  statement_is is =
      ap (λ (t : Task). seen_by at t) (task ∙ ap (task_at layout at a) is) ∙ pick_same at (Maintaining a.range phase) Holding

  pub ready_there : TakesReady → ReadyAt layout pages a
  ready_there takes is = takes (shape_of layout a.index) (contents layout pages a.index) (lock_in layout locks a.index) (index_state at w) s a.range a.hand shows index_kept (statement_is is)

  pub sound_there : TakesSound → (a.hand.stage ≡ stages.Place → IsIndexInOrder layout.sizes.index_blocks (index_page layout pages a.index)) → DamageIn layout pages a → ⊥
  sound_there takes order damage = takes layout pages a.index (lock_in layout locks a.index) (index_state at w) s a.range a.hand order shows index_kept (statement_is damage.0) damage.1
