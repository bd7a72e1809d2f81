-- a refusal behind reads that were done
use Rattle.std.proofs.Common.{◌≡◌, ◌<◌, ℕ, length, inl, inr, sym, subst, ◌∙◌, arith}
use Rattle.std.specs.Prelude.{None, Some, Err}
use Rattle.block_model.specs.Causes.{rose_earlier}
use Rattle.disk_trait.specs.Told.{Told}
use Rattle.page_map.specs.declared.faults.MachineFault.{MachineFault}
use Rattle.page_map.specs.declared.faults.MachineFault.TheVariants as faults
use Rattle.page_map.specs.declared.faults.StoreError.{StoreError}
use Rattle.page_map.specs.declared.faults.StoreError.TheVariants as errors
use Rattle.page_map.specs.Keeps.{Leaves, Untold}
use Rattle.page_map.specs.Outcome.{NamesPage, Refused}
use Rattle.page_map.specs.PageMap.{View}
use Rattle.store_layout.specs.DiskLayout.{DiskLayout}
use Rattle.heap_rows.specs.Heaps.{relation_of}
use Rattle.tx_table.specs.LeavesRest.{NamesStatuses}
use Rattle.index_steps.specs.DamagedPages.{table_place}
use Rattle.bitmap_scan.specs.Finds.{FaultNamesRead, FaultNamesStatuses, FindOutcome}

refused_behind : {D : Type 0} (told : D → Told) (first mid new : View D) (error : StoreError) → Leaves told first mid → first.failed ≡ None → mid.failed ≡ None → Refused told (Untold told mid) mid new error → Refused told (Untold told first) first new error
refused_behind told first mid new errors.Disk leaves none ready refused = (none, rose_earlier (told first.disk).faults (told mid.disk).faults (told new.disk).faults leaves.faults refused.1, refused.2)
refused_behind told first mid new (errors.Reopen faults) leaves none ready refused = absurd (let both : None ≡ Some faults = sym ready ∙ refused.0 in cc)
refused_behind told first mid new (errors.Damaged at) leaves none ready refused = (none, refused.1, omega (arith, leaves.faults, refused.2), λ tells. refused.3 (leaves.tells ∙ tells))

pub find_behind : {D : Type 0} (T : Type 0) (told : D → Told) (first mid new : View D) (b : ℕ) (fault : MachineFault) → Leaves told first mid → first.failed ≡ None → mid.failed ≡ None
    → FindOutcome {T = T} told (Untold told mid) mid new (Some b) (Err fault) → FindOutcome {T = T} told (Untold told first) first new (Some b) (Err fault)
find_behind T told first mid new b faults.Memory leaves none ready outcome = (none, outcome.1)
find_behind T told first mid new b (faults.Full relation number) leaves none ready outcome = absurd outcome
find_behind T told first mid new b (faults.Store error) leaves none ready outcome = refused_behind told first mid new error leaves none ready outcome

-- damage is told by the page of the block, which the table may have
pub names_block : (layout : DiskLayout) (table block : ℕ) (error : StoreError) → table < length layout.schema.tables → block < layout.sizes.heap_blocks → NamesPage layout (record { relation = relation_of table; block = block }) error
    → FaultNamesRead layout table block (faults.Store error)
names_block layout table block error there below names = inl (table_place layout table block there below, names)

-- damage of a page of statuses is damage that a read of a block finds
pub names_behind : (old mid : DiskLayout) (table block : ℕ) (fault : MachineFault) → mid ≡ old → FaultNamesStatuses mid fault → FaultNamesRead old table block fault
names_behind old mid table block faults.Memory is names = tt
names_behind old mid table block (faults.Full relation number) is names = tt
names_behind old mid table block (faults.Store error) is names = inr (subst (λ (l : DiskLayout). NamesStatuses l error) is names)
