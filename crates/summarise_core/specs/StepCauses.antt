-- what a step of a summarise at a range needs, and when each error comes
use Rattle.std.specs.Prelude.{◌≡◌, ◌⊎◌, ℕ, ◌≤◌, None}
use Rattle.store_layout.specs.DiskLayout.{DiskLayout, IsPlace}
use Rattle.page_map.specs.declared.faults.MachineFault.{MachineFault}
use Rattle.page_map.specs.declared.faults.MachineFault.TheVariants as faults
use Rattle.page_map.specs.Outcome.{NamesPage}
use Rattle.page_map.specs.PageMap.{PageMap}
use Rattle.heap_rows.specs.Heaps.{relation_of}
use Rattle.index_contents.specs.IndexContents.{IndexContents, contents}
use Rattle.index_steps.specs.IndexTuples.{IndexShape, shape_of}
use Rattle.index_steps.specs.MoveEnds.{IsMoving}
use Rattle.index_steps.specs.PlaceAnswers.{IsPlacing}
use Rattle.index_steps.specs.Readings.{IsMisnamed, IsMisread}
use Rattle.index_steps.specs.SwapAnswers.{FaultNamesPageOf}
use Rattle.index_steps.specs.declared.growth_stage.Stage.{Stage as GrowthStage}
use Rattle.index_steps.specs.GrowthSteps.{IsNeeded}
use Rattle.index_steps.specs.StepCauses.{DamageAt as DamageToGrow, IsReady as IsReadyToGrow}
use Rattle.summarise_core.specs.declared.range_stage.Stage.{Stage}
use Rattle.summarise_core.specs.declared.range_stage.Stage.TheVariants as stages
use Rattle.summarise_core.specs.SummariseHands.{SummariseHand, table_of}

-- The pages show an index that is where the summarise left it: the map still names what it named, and has a page for the entry of a
-- placeholder that is put.
abbrev pub IsReady : IndexShape → IndexContents → (range : ℕ) → GrowthStage → Stage → Type 0
IsReady shape c range at stages.Place = IsReadyToGrow shape c at
IsReady shape c range at (stages.Name x) = IsPlacing shape c range x
IsReady shape c range at (stages.Set x y) = IsMoving shape c range x y
IsReady shape c range at stage = Unit {0}

-- what is damaged where a step at this stage finds damage: the range's entry; the tuple to be copied; where the map grows, what the growth
-- finds; or, once all blocks are passed, the placeholder is gone
abbrev pub DamageAt : DiskLayout → PageMap → (index range : ℕ) → SummariseHand → Stage → Type 0
DamageAt layout pages index range hand stages.Map = IsMisnamed (contents layout pages index) range
DamageAt layout pages index range hand (stages.Tuple x) = IsMisread (shape_of layout index) (contents layout pages index) range x
DamageAt layout pages index range hand stages.Place = IsNeeded (contents layout pages index).pages range hand.growth.stage × DamageToGrow layout pages index hand.growth.stage
DamageAt layout pages index range hand stages.Pass = (hand.extent ≤ hand.next) × (IsMisnamed (contents layout pages index) range ⊎ ((contents layout pages index).entry range ≡ None))
DamageAt layout pages index range hand (stages.Copy x) = IsMisread (shape_of layout index) (contents layout pages index) range x
DamageAt layout pages index range hand stage = ⊥

-- damage is told by the byte at which a page begins that the heap of the index's table may have
abbrev pub FaultNamesHeapPage : DiskLayout → (index : ℕ) → MachineFault → Type 0
FaultNamesHeapPage layout index (faults.Store error) =
    (block : ℕ) × IsPlace layout (record { relation = relation_of (table_of layout index); block = block }) × NamesPage layout (record { relation = relation_of (table_of layout index); block = block }) error
FaultNamesHeapPage layout index fault = Unit {0}

-- damage is told by the byte at which a page of the index begins; in the pass, which reads rows too, also by that of a page of the heap
abbrev pub NamesPageAt : DiskLayout → (index : ℕ) → Stage → MachineFault → Type 0
NamesPageAt layout index stages.Pass fault = FaultNamesPageOf layout index fault ⊎ FaultNamesHeapPage layout index fault
NamesPageAt layout index stage fault = FaultNamesPageOf layout index fault
