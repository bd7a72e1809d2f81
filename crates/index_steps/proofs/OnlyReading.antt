-- what is so of a step that only reads
use Rattle.std.proofs.Common.{ℕ, Option, refl, ap}
use Rattle.store_layout.specs.DiskLayout.{DiskLayout}
use Rattle.disk_trait.specs.Told.{Told}
use Rattle.page_map.specs.declared.faults.MachineFault.{MachineFault}
use Rattle.page_map.specs.declared.faults.MachineFault.TheVariants as faults
use Rattle.page_map.specs.Keeps.{Keeps, Tells}
use Rattle.page_map.specs.PageMap.{PageMap, View}
use Rattle.page_locks.specs.declared.did.Did.{Did}
use Rattle.page_locks.specs.declared.did.Did.TheVariants as did
use Rattle.page_locks.specs.LockHolders.{LockState}
use Rattle.block_model.specs.declared.place.Spot.{Spot}
use Rattle.coverage.specs.IndexView.{Building, IndexView}
use Rattle.coverage.specs.Knowing.{LocksNone}
use Rattle.coverage.specs.Steps.{ReadsIndex}
use Rattle.index_contents.specs.IndexContents.{contents}
use Rattle.index_steps.specs.IndexTuples.{shape_of}
use Rattle.index_steps.specs.ShownIndex.{Shows}
use Rattle.index_steps.specs.StepAnswers.{BlockedWell, IsOfStore, NeverBlocked}
use Rattle.index_steps.specs.SwapAnswers.{SaysFullIn, StaysWhereFull, view_after}
use Rattle.index_steps.proofs.Views.{reads_index}

pub never_waits : {D : Type 0} (told : D → Told) (index s : ℕ) (old new : View D) (before locked : LockState) (done : Did) → NeverBlocked done → BlockedWell told index s old new before locked done
never_waits told index s old new before locked (did.Moved point) never = tt
never_waits told index s old new before locked (did.Finished point) never = tt
never_waits told index s old new before locked (did.Blocked held) never = absurd never
never_waits told index s old new before locked (did.NoRight by) never = tt

-- what the page store refuses is no full index, and changes no lock
pub of_store : (layout : DiskLayout) (index : ℕ) (P : ℕ → Type 0) (fault : MachineFault) → IsOfStore fault → SaysFullIn layout index P fault
of_store layout index P (faults.Full relation number) never = absurd never
of_store layout index P (faults.Store error) is = tt
of_store layout index P faults.Memory never = absurd never

pub none_full : (before after : LockState) (fault : MachineFault) → IsOfStore fault → StaysWhereFull before after fault
none_full before after (faults.Full relation number) never = absurd never
none_full before after (faults.Store error) is = tt
none_full before after faults.Memory never = absurd never

-- the actor, which locks no page of the index, has read it where no page changed
pub still_read : {D : Type 0} (told : D → Told) (old new : View D) → Keeps told old new → Tells told old → (index s : ℕ) (lock : ℕ → Option ℕ) (w : IndexView) → Shows (shape_of old.layout index) (contents old.layout old.pages index) lock w → LocksNone w.lock s
    → (building : ℕ → Option Building) (loose : ℕ → Option Spot) → ReadsIndex s w (view_after (shape_of old.layout index) (contents old.layout new.pages index) lock w building loose)
still_read told old new kept tells index s lock w shows none =
    reads_index (shape_of old.layout index) (contents old.layout old.pages index) (contents old.layout new.pages index) lock lock w s shows (ap (λ (pages : PageMap). contents old.layout pages index) (kept.pages tells)) refl none
