-- the locks of a step, and what it rests on where it is blocked
use Rattle.std.proofs.Common.{◌≡◌, ℕ, ◌+◌, ◌≤◌, sym, subst, arith}
use Rattle.page_locks.specs.declared.did.Did.{Did}
use Rattle.page_locks.specs.declared.did.Did.TheVariants as did
use Rattle.page_locks.specs.LockCounts.{locks_of}
use Rattle.page_locks.specs.LockHolders.{LockState}
use Rattle.store_layout.specs.DiskLayout.{DiskLayout}
use Rattle.page_map.specs.declared.faults.StoreError.{StoreError}
use Rattle.page_map.specs.declared.faults.StoreError.TheVariants as errors
use Rattle.page_map.specs.Outcome.{IsReopen}
use Rattle.index_steps.specs.Readings.{NamesPageOf}
use Rattle.index_steps.specs.StepAnswers.{NeverBlocked}
use Rattle.index_steps.specs.SwapAnswers.{TakesAtMost}
use Rattle.index_steps.specs.declared.growth_stage.Stage.{Stage as GrowthStage}
use Rattle.index_steps.specs.declared.growth_stage.Stage.TheVariants as growth
use Rattle.summarise_core.specs.declared.range_stage.Stage.{Stage}
use Rattle.summarise_core.specs.declared.range_stage.Stage.TheVariants as stages
use Rattle.summarise_core.specs.SummariseHands.{GrowsToPlace, SummariseHand}
use Rattle.summarise_core.specs.SummariseSteps.{RestsBlocked}

-- so many locks more than none
pub few_more : (n held some : ℕ) (old new : LockState) (s : ℕ) → TakesAtMost n old new s → locks_of old s ≤ held → held + n ≤ some → locks_of new s ≤ some
few_more n held some old new s takes few fits = omega (arith, takes.adds.own, few, fits)

-- locks that stay are as few
pub as_few : (held some : ℕ) (old new : LockState) (s : ℕ) → new ≡ old → locks_of old s ≤ held → held ≤ some → locks_of new s ≤ some
as_few held some old new s same few fits = subst (λ (locks : LockState). locks_of locks s ≤ some) (sym same) (omega (arith, few, fits))

-- where all are given none is left
pub none_left : (some : ℕ) (new : LockState) (s : ℕ) → locks_of new s ≡ 0 → locks_of new s ≤ some
none_left some new s none = omega (arith, none)

-- what isn't blocked rests on nothing
pub never_rests : (old new : SummariseHand) (done : Did) → NeverBlocked done → RestsBlocked old new done
never_rests old new (did.Moved point) never = tt
never_rests old new (did.Finished point) never = tt
never_rests old new (did.Blocked held) never = absurd never
never_rests old new (did.NoRight by) never = tt

-- a store that is to be opened again has no damage
pub reopen_names : (layout : DiskLayout) (index : ℕ) (error : StoreError) → IsReopen error → NamesPageOf layout index error
reopen_names layout index errors.Disk never = absurd never
reopen_names layout index (errors.Reopen faults) is = tt
reopen_names layout index (errors.Damaged at) never = absurd never

-- where no growth is under way, it is at rest everywhere
pub grows_nowhere : (at : GrowthStage) (stage : Stage) → at ≡ growth.Judge → GrowsToPlace at stage
grows_nowhere at stages.Map rests = rests
grows_nowhere at (stages.Tuple x) rests = rests
grows_nowhere at stages.Place rests = tt
grows_nowhere at (stages.Name x) rests = rests
grows_nowhere at stages.Extent rests = rests
grows_nowhere at stages.Pass rests = rests
grows_nowhere at (stages.Copy x) rests = rests
grows_nowhere at (stages.Swap x) rests = rests
grows_nowhere at (stages.Set x y) rests = rests
grows_nowhere at (stages.Drop x) rests = rests
grows_nowhere at stages.Had rests = rests
grows_nowhere at stages.Made rests = rests

-- so many locks are at most more
pub few_taken : (n some : ℕ) (old new : LockState) (s : ℕ) → n ≤ some → TakesAtMost n old new s → TakesAtMost some old new s
few_taken n some old new s fits takes = record {
  limit = takes.limit;
  adds = record { own = omega (arith, takes.adds.own, fits); others = takes.adds.others; all = omega (arith, takes.adds.all, fits) };
}
