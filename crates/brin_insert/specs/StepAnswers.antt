-- what a step of an insert in an index finds damaged or full, and the stage after it
use Rattle.std.specs.Prelude.{◌≡◌, ℕ}
use Rattle.page_locks.specs.declared.did.Did.{Did}
use Rattle.page_locks.specs.declared.did.Did.TheVariants as did
use Rattle.coverage.specs.IndexView.{IndexView}
use Rattle.coverage.specs.Statements.{OnIndex, Copied}
use Rattle.coverage.specs.Verdicts.{Full, SwapVerdict}
use Rattle.index_contents.specs.IndexContents.{IndexContents}
use Rattle.index_steps.specs.IndexTuples.{IndexShape}
use Rattle.index_steps.specs.Readings.{IsMisnamed, IsMisread}
use Rattle.index_steps.specs.ShownIndex.{Shows}
use Rattle.brin_insert.specs.declared.stage.Stage.{Stage}
use Rattle.brin_insert.specs.declared.stage.Stage.TheVariants as stages
use Rattle.brin_insert.specs.InsertSteps.{InsertAt, IsAtWork, on_index}

-- what is damaged where a step at this stage finds damage: the range's entry, or the tuple to be copied
abbrev pub DamageAt : IndexShape → IndexContents → (range : ℕ) → Stage → Type 0
DamageAt shape c range stages.Map = IsMisnamed c range
DamageAt shape c range (stages.Copy x) = IsMisread shape c range x
DamageAt shape c range stage = ⊥

-- no page is left for the tuple with the row
abbrev pub IsFullFor : IndexView → (s range : ℕ) → OnIndex → (number : ℕ) → Type 0
IsFullFor w s range (Copied x old new) number = SwapVerdict w s range x old new (Full number)
IsFullFor w s range on number = ⊥

abbrev pub StepFull : IndexShape → (s range : ℕ) → InsertAt → (number : ℕ) → Type 0
StepFull shape s range old number = (w : IndexView) → Shows shape old.pages old.lock w → IsFullFor w s range (on_index shape old.stage old.copied old.widened) number

-- the stage after a step: the index is complete after the last one, and else has a step left; no step waits for a summarise lock
abbrev pub StandsAfter : Did → Stage → Type 0
StandsAfter (did.Moved point) stage = IsAtWork stage
StandsAfter (did.Finished point) stage = stage ≡ stages.Complete
StandsAfter (did.Blocked held) stage = IsAtWork stage
StandsAfter (did.NoRight by) stage = ⊥
