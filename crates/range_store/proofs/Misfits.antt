-- A replace that is refused for what stands on the page.
use Rattle.std.specs.Prelude.{ℕ, ◌<◌, Ok, Err}
use Rattle.std.proofs.Common.{arith}
use Rattle.block_model.specs.declared.place.Place.{Place}
use Rattle.store_layout.specs.DiskLayout.{DiskLayout}
use Rattle.disk_trait.specs.Told.{Told}
use Rattle.page_map.specs.Keeps.{Untold}
use Rattle.page_map.specs.Outcome.{Outcome}
use Rattle.page_map.specs.PageMap.{View}
use Rattle.range_store.specs.declared.faults.SwapFault.{SwapFault}
use Rattle.range_store.specs.declared.faults.SwapFault.TheVariants as faults
use Rattle.range_store.specs.Tuples.{FaultNamesPlace, IsMisfit, StandsWithin, SwapOutcome}

-- it names no page
pub misfit_names_none : (layout : DiskLayout) (place : Place) (fault : SwapFault) → IsMisfit fault → FaultNamesPlace layout place fault
misfit_names_none layout place (faults.Changed found at) misfit = tt
misfit_names_none layout place (faults.Full need most_free) misfit = tt
misfit_names_none layout place (faults.Store error) misfit = absurd misfit

-- and is told where the page was read
pub misfit_told : {D : Type 0} (T S : Type 0) (told : D → Told) (old new : View D) (value : S) (fault : SwapFault) → IsMisfit fault → Outcome {T = S} told (Untold told old) old new (Ok value) → SwapOutcome {T = T} told old new (Err fault)
misfit_told T S told old new value (faults.Changed found at) misfit outcome = outcome
misfit_told T S told old new value (faults.Full need most_free) misfit outcome = outcome
misfit_told T S told old new value (faults.Store error) misfit outcome = absurd misfit

-- what is told where the page was looked at is told of a page that the index may have
pub stands_within : (limit block : ℕ) (fault : SwapFault) → block < limit → StandsWithin limit block fault
stands_within limit block (faults.Changed found at) within = tt
stands_within limit block (faults.Full need most_free) within = within
stands_within limit block (faults.Store error) within = λ past. absurd (omega (arith, within, past))
