-- what came of a step of a maintenance machine, for the statement that makes it
use Rattle.std.specs.Prelude.{◌≡◌, ◌≢◌, ℕ, ◌<◌, List, length, None, Some, Result, Ok, Err, slice_get, slice_set}
use Rattle.block_model.specs.declared.reply.Refusal.TheVariants as refusals
use Rattle.block_model.specs.declared.reply.Reply.TheVariants as replies
use Rattle.block_model.specs.declared.reply.What.TheVariants as whats
use Rattle.store_layout.specs.DiskLayout.{DiskLayout}
use Rattle.page_map.specs.declared.faults.MachineFault.{MachineFault}
use Rattle.page_map.specs.declared.faults.MachineFault.TheVariants as faults
use Rattle.page_locks.specs.declared.did.Did.{Did}
use Rattle.page_locks.specs.declared.did.Did.TheVariants as did
use Rattle.page_locks.specs.LockChanges.{GivesAll}
use Rattle.page_locks.specs.LockCounts.{locks_of}
use Rattle.page_locks.specs.LockHolders.{LockState, holder}
use Rattle.page_locks.specs.RightHolders.{right_of}
use Rattle.index_contents.specs.IndexContents.{relation_of}
use Rattle.index_steps.specs.ShownTable.{indexes_of}
use Rattle.script_semantics.specs.Names.{index_name, table_name}
use Rattle.session_parts.specs.declared.faults.StoreFault.{StoreFault}
use Rattle.session_parts.specs.declared.faults.Step.TheVariants as steps
use Rattle.session_parts.specs.declared.parts.Parts.{Parts}
use Rattle.session_parts.specs.StoreFaults.{fault_of}
use Rattle.session_maintenance.specs.declared.settle.Came.{Came}
use Rattle.session_maintenance.specs.declared.settle.Came.TheVariants as cames

-- it is a relation of an index
abbrev pub IsIndexRelation : DiskLayout → (relation : ℕ) → Type 0
IsIndexRelation layout relation = (index : ℕ) × (index < length layout.schema.indexes) × (relation ≡ relation_of layout index)

-- one that waits does so for a page of an index
abbrev pub HoldsAPage : DiskLayout → Did → Type 0
HoldsAPage layout (did.Blocked held) = IsIndexRelation layout held.page.relation
HoldsAPage layout answer = Unit {0}

-- one that is refused, and not by its pages, is so by a full index
abbrev pub IsOfAnIndex : DiskLayout → MachineFault → Type 0
IsOfAnIndex layout (faults.Full relation number) = IsIndexRelation layout relation
IsOfAnIndex layout (faults.Store error) = Unit {0}
IsOfAnIndex layout faults.Memory = ⊥

-- the session gives its page locks
pub record GivesPageLocks (old new : LockState) (n : ℕ) : Type 0 where
  pub all : GivesAll (holder old) (holder new) n
  pub none : locks_of new n ≡ 0
  pub limit : new.limit ≡ old.limit
  pub counts : (m : ℕ) → m ≢ n → locks_of new m ≡ locks_of old m

-- so the result says of the index that has the relation, at whatever place a table has it
abbrev pub NamesIndex : DiskLayout → (relation : ℕ) → (List ℕ → Type 0) → Type 0
NamesIndex layout relation P = (index table at : ℕ) → relation ≡ relation_of layout index → slice_get (indexes_of layout table) at ≡ Some index → P (index_name layout table at)

-- the index of the relation is full: the session gives its page locks, and the table's summarise lock, which it holds
pub record IsRefusedFull {D : Type 0} (old new : Parts D) (n table relation number : ℕ) (result : Result Came StoreFault) : Type 0 where
  pub locks : GivesPageLocks old.locks new.locks n
  pub given : right_of old.rights table ≡ Some n → new.rights ≡ slice_set old.rights table None
  pub kept : right_of old.rights table ≢ Some n → new.rights ≡ old.rights
  pub rest : new ≡ record old { locks = new.locks; rights = new.rights }
  pub reply : NamesIndex old.pages.layout relation (λ name. result ≡ Ok (cames.Goes (steps.Done (replies.Refused (refusals.Full name number)))))

-- what a statement whose machine's step is made tells, or one that waits
abbrev pub IsTold : DiskLayout → (table : ℕ) → Did → Came → Type 0
IsTold layout table (did.Moved point) came = came ≡ cames.Goes (steps.Moved point)
IsTold layout table (did.Finished point) came = came ≡ cames.Ends point
IsTold layout table (did.Blocked held) came = NamesIndex layout held.page.relation (λ name. came ≡ cames.Goes (steps.Blocked (whats.Page name held.page.block) held.by))
IsTold layout table (did.NoRight by) came = came ≡ cames.Goes (steps.Blocked (whats.Work (table_name layout table)) by)

-- What the statement tells, and what of the parts it gives.
abbrev pub IsSettled : {D : Type 0} → (old new : Parts D) → (n table : ℕ) → Result Did MachineFault → Result Came StoreFault → Type 0
IsSettled old new n table (Ok answer) result = (came : Came) × (result ≡ Ok came) × IsTold old.pages.layout table answer came × (new ≡ old)
IsSettled old new n table (Err (faults.Full relation number)) result = IsRefusedFull old new n table relation number result
IsSettled old new n table (Err (faults.Store error)) result = (result ≡ Err (fault_of error)) × GivesPageLocks old.locks new.locks n × (new ≡ record old { locks = new.locks })
IsSettled old new n table (Err faults.Memory) result = ⊥
