-- what a growth of the map has in hand
use Rattle.std.specs.Prelude.{◌≡◌, ℕ, List}
use Rattle.index_steps.specs.declared.growth_stage.Stage.{Stage}
use Rattle.index_steps.specs.declared.growth_stage.Stage.TheVariants as stages

-- the number of its index, the stage that it is at, and the bytes of the tuple that it moves
pub record GrowthHand : Type 0 where
  pub index : ℕ
  pub stage : Stage
  pub moved : List ℕ

-- it has in hand what it had, but that it may have read a tuple in order to move it
abbrev pub RestsAt : Stage → (old new : GrowthHand) → Type 0
RestsAt stages.Judge old new = new ≡ record old { moved = new.moved }
RestsAt stage old new = new ≡ old
