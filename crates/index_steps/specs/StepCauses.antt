-- what a step of a growth needs, and what is damaged where it finds damage
use Rattle.std.specs.Prelude.{ℕ}
use Rattle.store_layout.specs.DiskLayout.{DiskLayout}
use Rattle.page_map.specs.PageMap.{PageMap}
use Rattle.coverage.specs.IndexView.{next_map_page}
use Rattle.index_contents.specs.IndexContents.{IndexContents, contents}
use Rattle.index_steps.specs.IndexTuples.{IndexShape}
use Rattle.index_steps.specs.MoveEnds.{IsMoving}
use Rattle.index_steps.specs.declared.next.PageState.TheVariants as states
use Rattle.index_steps.specs.NextPages.{IsNextDamaged, StandsNext}
use Rattle.index_steps.specs.declared.growth_stage.Stage.{Stage}
use Rattle.index_steps.specs.declared.growth_stage.Stage.TheVariants as stages

-- the pages show an index that is where the growth left it: in a move the map still names the old tuple
abbrev pub IsReady : IndexShape → IndexContents → Stage → Type 0
IsReady shape c (stages.Set range from to) = IsMoving shape c range from to
IsReady shape c stage = Unit {0}

-- an empty page of the map stands behind those that are counted
abbrev pub HasLeftOver : DiskLayout → PageMap → (index : ℕ) → Type 0
HasLeftOver layout pages index = StandsNext layout pages index (next_map_page (contents layout pages index).pages) states.LeftOver

-- what is damaged where a step at this stage finds damage: the page behind the map, or the metapage
abbrev pub DamageAt : DiskLayout → PageMap → (index : ℕ) → Stage → Type 0
DamageAt layout pages index stages.Judge = IsNextDamaged layout pages index
DamageAt layout pages index stages.Count = HasLeftOver layout pages index → ⊥
DamageAt layout pages index stage = ⊥
