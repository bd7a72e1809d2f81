-- what a desummarise has of a table that is kept
use Rattle.std.proofs.Common.{◌≡◌, ℕ, List, Option, Some}
use Rattle.std.specs.Prelude.{slice_get}
use Rattle.std.proofs.lemmas.Option.{slice_get_within}
use Rattle.store_layout.specs.DiskLayout.{DiskLayout}
use Rattle.page_layout.specs.PageContents.{Slot}
use Rattle.page_locks.specs.LockHolders.{LockState}
use Rattle.page_map.specs.PageMap.{PageMap}
use Rattle.coverage.specs.IndexView.{IndexView}
use Rattle.coverage.specs.IsCovered.{IsIndexKept}
use Rattle.coverage.specs.IsSound.{IsSound}
use Rattle.coverage.specs.Machines.{Unseen, table_state}
use Rattle.coverage.specs.Table.{TableState, index_state, index_view_at}
use Rattle.coverage.specs.TableCovered.{IsTableKept}
use Rattle.index_contents.specs.IndexContents.{IndexContents, contents}
use Rattle.index_steps.specs.IndexTuples.{IndexShape, shape_of}
use Rattle.index_steps.specs.Readings.{IsMisnamed}
use Rattle.index_steps.specs.ShownIndex.{Shows, lock_in}
use Rattle.index_steps.specs.ShownRows.{shown_by}
use Rattle.index_steps.specs.ShownTable.{indexes_of}
use Rattle.summarise_core.specs.declared.desummarise_stage.Stage.{Stage}
use Rattle.summarise_core.specs.declared.desummarise_stage.Stage.TheVariants as stages
use Rattle.summarise_core.specs.Desummarises.{DamageAt, DamageIn, DesummariseState, range_of, table_of}
use Rattle.summarise_core.proofs.DesummariseShown.{shows_here}

-- what the law of one index says
abbrev pub IsNamedWell : Type 0
IsNamedWell = (shape : IndexShape) (c : IndexContents) (lock : ℕ → Option ℕ) (w : IndexView) (range : ℕ) → Shows shape c lock w → IsSound w → IsMisnamed c range → ⊥

no_damage : (layout : DiskLayout) (pages : PageMap) (index range : ℕ) (stage : Stage) → (IsMisnamed (contents layout pages index) range → ⊥) → DamageAt layout pages index range stage → ⊥
no_damage layout pages index range stages.Right none damage = damage
no_damage layout pages index range stages.Map none damage = none damage
no_damage layout pages index range (stages.Clear x) none damage = damage
no_damage layout pages index range (stages.Drop x) none damage = damage
no_damage layout pages index range stages.Lacked none damage = damage
no_damage layout pages index range stages.Cleared none damage = damage

module _ (named : IsNamedWell) (layout : DiskLayout) (pages : PageMap) (locks : LockState) (blocks : List (List Slot)) (at : ℕ) (a : DesummariseState) (u : Unseen) (there : slice_get (indexes_of layout (table_of layout a.index)) at ≡ Some a.index)
    (kept : IsTableKept (table_state (shown_by layout pages locks (table_of layout a.index) blocks) u)) where
  abbrev w : TableState
  w = table_state (shown_by layout pages locks (table_of layout a.index) blocks) u

  index_kept : IsIndexKept (index_state at w)
  index_kept = kept.indexes at (slice_get_within (indexes_of layout (table_of layout a.index)) at a.index there)

  shows : Shows (shape_of layout a.index) (contents layout pages a.index) (lock_in layout locks a.index) (index_view_at at w)
  shows = shows_here layout pages locks blocks a.index at there u

  pub sound_there : DamageIn layout pages a → ⊥
  sound_there damage = no_damage layout pages a.index (range_of layout a) a.stage
      (λ misnamed. named (shape_of layout a.index) (contents layout pages a.index) (lock_in layout locks a.index) (index_view_at at w) (range_of layout a) shows index_kept.sound misnamed) damage
