-- calls one after the other
use Rattle.std.proofs.Common.{◌≡◌, ◌∙◌, sym, arith}
use Rattle.std.specs.Prelude.{Some, None, Result, Ok, Err}
use Rattle.block_model.specs.Causes.{rose_earlier}
use Rattle.disk_trait.specs.Told.{Told}
use Rattle.page_map.specs.declared.faults.StoreError.{StoreError}
use Rattle.page_map.specs.declared.faults.StoreError.TheVariants as errors
use Rattle.page_map.specs.Keeps.{Untold}
use Rattle.page_map.specs.Outcome.{Outcome}
use Rattle.page_map.specs.PageMap.{View}
use Rattle.buffer_pool.specs.PoolState.{PoolState}
use Rattle.page_store.specs.Contents.{HoldsAlike}
use Rattle.page_store.specs.KeptPages.{LeftStore}

-- the second one's answer is that of both
pub outcome_then : {D T : Type 0} (told : D → Told) (old mid new : View D) (result : Result T StoreError) → old.failed ≡ None → mid.failed ≡ None → LeftStore told old mid → Outcome told (Untold told mid) mid new result → Outcome told (Untold told old) old new result
outcome_then told old mid new (Ok value) none mid_none first outcome = (none, outcome.1, omega (arith, first.faults, outcome.2))
outcome_then told old mid new (Err errors.Disk) none mid_none first outcome = (none, rose_earlier (told old.disk).faults (told mid.disk).faults (told new.disk).faults first.faults outcome.1, outcome.2)
outcome_then told old mid new (Err (errors.Reopen faults)) none mid_none first outcome = absurd (let clash : None ≡ Some faults = sym mid_none ∙ outcome.0 in cc)
outcome_then told old mid new (Err (errors.Damaged at)) none mid_none first outcome = (none, outcome.1, omega (arith, first.faults, outcome.2), λ tells. outcome.3 (first.tells ∙ tells))

pub alike_on : (old mid new : PoolState) → HoldsAlike old mid → HoldsAlike mid new → HoldsAlike old new
alike_on old mid new first second number = second number ∙ first number
