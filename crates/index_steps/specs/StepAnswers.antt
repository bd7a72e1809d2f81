-- what a step of a statement in an index leaves where it is blocked
use Rattle.std.specs.Prelude.{◌≡◌, ℕ}
use Rattle.disk_trait.specs.Told.{Told}
use Rattle.page_map.specs.declared.faults.MachineFault.{MachineFault}
use Rattle.page_map.specs.declared.faults.MachineFault.TheVariants as faults
use Rattle.page_map.specs.Keeps.{Keeps}
use Rattle.page_map.specs.PageMap.{View}
use Rattle.page_locks.specs.declared.did.Did.{Did}
use Rattle.page_locks.specs.declared.did.Did.TheVariants as did
use Rattle.page_locks.specs.LockHolders.{LockState}
use Rattle.index_steps.specs.SwapAnswers.{NamesHeld}

-- where a step is blocked nothing changes, and another actor holds the lock of a page of the index
abbrev pub BlockedWell : {D : Type 0} → (D → Told) → (index actor : ℕ) → View D → View D → LockState → LockState → Did → Type 0
BlockedWell told index actor old new before after (did.Blocked held) = NamesHeld old.layout before index actor held × (after ≡ before) × Keeps told old new
BlockedWell told index actor old new before after did = Unit {0}

-- a step that changes no page which another may lock
abbrev pub NeverBlocked : Did → Type 0
NeverBlocked (did.Blocked held) = ⊥
NeverBlocked did = Unit {0}

-- a step that puts no tuple and takes no memory is refused by the page store alone
abbrev pub IsOfStore : MachineFault → Type 0
IsOfStore (faults.Store error) = Unit {0}
IsOfStore fault = ⊥
