-- the locks of an insert in an index: a move takes three, of the old tuple's page, the new one's and the map's, and has them up to its end
use Rattle.std.specs.Prelude.{ℕ}
use Rattle.brin_insert.specs.declared.stage.Stage.{Stage}
use Rattle.brin_insert.specs.declared.stage.Stage.TheVariants as stages

-- at most so many does a step at this stage take
abbrev pub taken_at : Stage → ℕ
taken_at (stages.Swap x) = 3
taken_at stage = 0

-- at most so many are the insert's own before it
abbrev pub held_at : Stage → ℕ
held_at (stages.Set x y) = 3
held_at (stages.Drop x) = 3
held_at stage = 0
