-- what a summarise has in hand of a range
use Rattle.std.specs.Prelude.{◌≡◌, ℕ, ◌≤◌, List}
use Rattle.store_layout.specs.DiskLayout.{DiskLayout}
use Rattle.heap_rows.specs.Heaps.{slots_a_page}
use Rattle.range_tuple.specs.Tuples.{Tuple, parts_of}
use Rattle.index_steps.specs.IndexTuples.{classes_of, index_at, shape_of}
use Rattle.index_steps.specs.declared.growth_stage.Stage.{Stage as GrowthStage}
use Rattle.index_steps.specs.declared.growth_stage.Stage.TheVariants as growth
use Rattle.index_steps.specs.GrowthHands.{GrowthHand}
use Rattle.summarise_core.specs.declared.range_stage.Stage.{Stage}
use Rattle.summarise_core.specs.declared.range_stage.Stage.TheVariants as stages

-- The stage that it is at; the extent that it read, and the next block to be passed; what the rows of the passed blocks made, and the
-- final tuple, where it has them; the bytes of the tuple that it copied; how many rows of a block it has room for; and the growth of the
-- index's map.
pub record SummariseHand : Type 0 where
  pub stage : Stage
  pub extent : ℕ
  pub next : ℕ
  pub running : Tuple
  pub united : Tuple
  pub copied : List ℕ
  pub room : ℕ
  pub growth : GrowthHand

-- the table of the index of that number
abbrev pub table_of : DiskLayout → ℕ → ℕ
table_of layout index = (index_at layout index).table

-- it was made for the index of that number
pub record IsHandOf (layout : DiskLayout) (index : ℕ) (hand : SummariseHand) : Type 0 where
  pub running : parts_of hand.running.columns ≡ classes_of (shape_of layout index)
  pub united : parts_of hand.united.columns ≡ classes_of (shape_of layout index)
  pub room : slots_a_page layout (table_of layout index) ≤ hand.room
  pub extent : hand.extent ≤ layout.sizes.heap_blocks
  pub growth : hand.growth.index ≡ index

-- a growth of the map is under way only where a placeholder is to be put
abbrev pub GrowsToPlace : GrowthStage → Stage → Type 0
GrowsToPlace at stages.Place = Unit {0}
GrowsToPlace at stage = at ≡ growth.Judge

-- it, before its first step at a range, with no growth under way
abbrev pub begun : SummariseHand → SummariseHand
begun hand = record hand { stage = stages.Map; growth = record hand.growth { stage = growth.Judge } }
