-- how many locks a step of an insert takes, and how many are the insert's own between its steps
use Rattle.std.specs.Prelude.{ℕ, Option, None, Some}
use Rattle.block_model.specs.declared.place.Spot.{Spot}
use Rattle.brin_insert.specs.declared.insert.Insert.{Insert}
use Rattle.brin_insert.specs.declared.stage.Stage.{Stage}
use Rattle.brin_insert.specs.InsertHands.{InsertHand}
use Rattle.brin_insert.specs.Inserts.{work_of}
use Rattle.brin_insert.specs.StageLocks.{held_at, taken_at}

abbrev pub stage_at : Option Spot → Option InsertHand → Option Stage
stage_at None work = None
stage_at (Some x) None = None
stage_at (Some x) (Some hand) = Some hand.stage

-- the stage of its next step in an index; none before its row is put, and once it is complete
abbrev pub stage_of : Insert → Option Stage
stage_of insert = stage_at insert.place (work_of insert)

-- at most so many does its next step take
abbrev pub taken_by : Option Stage → ℕ
taken_by None = 0
taken_by (Some stage) = taken_at stage

-- at most so many are its own
abbrev pub held_by : Option Stage → ℕ
held_by None = 0
held_by (Some stage) = held_at stage
