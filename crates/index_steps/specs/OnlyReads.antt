-- a step of a statement that changes no page
use Rattle.std.specs.Prelude.{◌≡◌, IfOk, IfErr, Result}
use Rattle.disk_trait.specs.Told.{Told}
use Rattle.page_map.specs.declared.faults.MachineFault.{MachineFault}
use Rattle.page_map.specs.Keeps.{Keeps}
use Rattle.page_map.specs.PageMap.{View}
use Rattle.page_locks.specs.declared.did.Did.{Did}
use Rattle.heap_rows.specs.Survives.{Survives}
use Rattle.index_steps.specs.StepAnswers.{IsOfStore, NeverBlocked}
use Rattle.index_steps.specs.SwapAnswers.{MachineOutcome}

-- it waits for no lock, is refused by the page store alone, and tells damage so, for that cause
pub record OnlyReads {D Stage : Type 0} (told : D → Told) (Names : MachineFault → Type 0) (Cause : Type 0) (old new : View D) (result : Result (Stage × Did) MachineFault) : Type 0 where
  pub kept : Keeps told old new
  pub survives : Survives told (λ passed. passed ≡ old.pages) old new
  pub never_blocked : IfOk result (λ o. NeverBlocked o.1)
  pub of_store : IfErr result IsOfStore
  pub names : IfErr result Names
  pub outcome : MachineOutcome told Cause old new result
