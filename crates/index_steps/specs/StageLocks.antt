-- The locks of a growth: a page that is started or turned for the map takes two, its own and that of the metapage, up to its count; a move
-- takes three, of the old tuple's page, the new one's and the map's, up to the end of the move.
use Rattle.std.specs.Prelude.{ℕ}
use Rattle.page_locks.specs.declared.did.Did.{Did}
use Rattle.page_locks.specs.declared.did.Did.TheVariants as did
use Rattle.index_steps.specs.declared.growth_stage.Stage.{Stage}
use Rattle.index_steps.specs.declared.growth_stage.Stage.TheVariants as stages

-- at most so many does a step at this stage take
abbrev pub taken_at : Stage → ℕ
taken_at stages.Judge = 3
taken_at stage = 0

-- at most so many are the growth's own before it
abbrev pub held_at : Stage → ℕ
held_at stages.Judge = 0
held_at stages.Count = 2
held_at (stages.Set range from to) = 3
held_at (stages.Drop range from) = 3

-- the step gives all locks: the one that counts the page, and the last one of a move
abbrev pub Gives : Stage → Did → Type 0
Gives (stages.Drop range from) done = Unit {0}
Gives stage (did.Finished point) = Unit {0}
Gives stage done = ⊥
