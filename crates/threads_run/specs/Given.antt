-- What the caller of a threaded run knows where its name is honest, and which bytes the run takes.
use Rattle.std.specs.Prelude.{◌≡◌, ℕ, ◌+◌, ◌≤◌, List, length, Option, Err}
use Rattle.std.specs.Io.KnownBytes.{Consumes, IsAtEnd}
use Rattle.block_model.specs.DatabaseState.{DatabaseState}
use Rattle.disk_trait.specs.Told.{Told}
use Rattle.model_laws.specs.NoRowRemovedTwice as openings
use Rattle.page_map.specs.Keeps.{Tells}
use Rattle.store_layout.specs.DiskLayout.{DiskLayout}
use Rattle.script_semantics.specs.Place.{Place}
use Rattle.script_run.specs.declared.engine.AnswerFault.TheVariants as unanswered
use Rattle.script_run.specs.declared.fault.RunFault.TheVariants as faults
use Rattle.script_run.specs.Runs.{RunEnd}
use Rattle.session_parts.specs.ShowsPlace.{ShowsPlace}
use Rattle.session_parts.specs.StoreStates.{StoreState}
use Rattle.session_core.specs.StopRule.{AllHaveTable}
use Rattle.session_stepper.specs.Beginning.{Begins}

-- The store was opened on a disk that tells its contents: its layout is this one, it shows a place at which a script begins with that database, of which no transaction
-- is under way, and each image has the table.
pub record IsOpenedFor {D : Type 0} (told : D → Told) (opening : DatabaseState) (layout : DiskLayout) (s : StoreState D) : Type 0 where
  pub tells : Tells told s.pages
  pub opens : openings.IsOpening opening
  pub layout_is : s.pages.layout ≡ layout
  pub place : Place
  pub begins : Begins layout opening place
  pub shown : ShowsPlace s place
  pub all : AllHaveTable told s.pages place

-- How many of these bytes a run takes that ends so: no more than the limit, and all that the source has where workers were begun; one more than the limit exactly where
-- the end says so.
abbrev pub IsTakenSo : ℕ → List ℕ → Option (List ℕ) → RunEnd → Type 0
IsTakenSo limit bytes left (Err faults.Read) = length bytes ≤ limit
IsTakenSo limit bytes left (Err faults.Spent) = length bytes ≡ limit + 1
IsTakenSo limit bytes left (Err (faults.Unanswered unanswered.Memory)) = length bytes ≤ limit
IsTakenSo limit bytes left end = (length bytes ≤ limit) × IsAtEnd left

abbrev pub TakesBytes : ℕ → RunEnd → (left left' : Option (List ℕ)) → Type 0
TakesBytes limit end left left' = (bytes : List ℕ) × Consumes left left' bytes × IsTakenSo limit bytes left' end
