-- The locks of a summarise at a range: a placeholder that is put takes two, of its page and the map's; a move takes three, of the old tuple's
-- page, the new one's and the map's. It has them up to the end of the put and of the move. Where a placeholder is to be put the map may have
-- to grow first, which takes up to three.
use Rattle.std.specs.Prelude.{ℕ}
use Rattle.index_steps.specs.declared.growth_stage.Stage.{Stage as GrowthStage}
use Rattle.index_steps.specs.declared.growth_stage.Stage.TheVariants as growth
use Rattle.index_steps.specs.StageLocks.{held_at as held_to_grow, taken_at as taken_to_grow}
use Rattle.summarise_core.specs.declared.range_stage.Stage.{Stage}
use Rattle.summarise_core.specs.declared.range_stage.Stage.TheVariants as stages

-- at most so many does a step at this stage take, with the growth at that one
abbrev pub taken_at : GrowthStage → Stage → ℕ
taken_at at stages.Place = taken_to_grow at
taken_at at (stages.Swap x) = 3
taken_at at stage = 0

-- at most so many are the summarise's own before it
abbrev pub held_at : GrowthStage → Stage → ℕ
held_at at stages.Place = held_to_grow at
held_at at (stages.Name x) = 2
held_at at (stages.Set x y) = 3
held_at at (stages.Drop x) = 3
held_at at stage = 0

-- the last step of a move of the growth's
abbrev pub EndsMove : GrowthStage → Type 0
EndsMove (growth.Drop range from) = Unit {0}
EndsMove at = ⊥

-- the step at this stage gives all locks
abbrev pub GivesAt : GrowthStage → Stage → Type 0
GivesAt at stages.Place = EndsMove at
GivesAt at (stages.Name x) = Unit {0}
GivesAt at (stages.Drop x) = Unit {0}
GivesAt at stage = ⊥
