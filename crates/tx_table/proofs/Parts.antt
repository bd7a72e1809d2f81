-- What the images at the moments of several calls open to.
use Rattle.std.proofs.Common.{◌≡◌, ◌⊎◌, ⊎_elim, ℕ, List, take, refl, sym, ◌∙◌, subst}
use Rattle.disk_trait.specs.Told.{Told}
use Rattle.page_map.specs.Keeps.{Keeps, Tells}
use Rattle.page_map.specs.PageMap.{PageMap, View}
use Rattle.page_map.specs.declared.faults.StoreError.{StoreError}
use Rattle.page_map.specs.declared.faults.StoreError.TheVariants as errors
use Rattle.page_store.specs.Made.{IsOfDisk}
use Rattle.page_store.specs.Survives.{Survives, survives_then, survives_weaker}
use Rattle.snapshot_core.specs.declared.statuses.Status.{Status}
use Rattle.store_layout.specs.DiskLayout.{DiskLayout}
use Rattle.tx_table.specs.Durable.{HasPart, IsBefore}
use Rattle.tx_table.specs.LeavesRest.{LeavesRest, NamesStatuses}
use Rattle.tx_table.proofs.Stores.{all_some}
use Rattle.tx_table.specs.Statuses.{HasStatuses, OfStatuses, with_all}

-- where nothing was passed, less may be told
pub passed_none : {D : Type 0} (told : D → Told) (Passed : PageMap → Type 0) (old new : View D) → Survives told (λ pages. ⊥) old new → Survives told Passed old new
passed_none told Passed old new survives = survives_weaker told (λ pages. ⊥) old new survives Passed (λ tells pages none. absurd none)

-- a call that changes no page, and then a call
pub before_then : {D : Type 0} (told : D → Told) (old mid new : View D) → Keeps told old mid → Survives told (IsBefore old) old mid → Survives told (IsBefore mid) mid new → Survives told (IsBefore old) old new
before_then told old mid new kept first second =
    survives_weaker told (λ pages. IsBefore old pages ⊎ IsBefore mid pages) old new
    (survives_then told (IsBefore old) (IsBefore mid) old mid new kept.leaves.layout first second) (IsBefore old) (λ tells pages.
    ⊎_elim (λ (was : pages ≡ old.pages). was) (λ (was : pages ≡ mid.pages). was ∙ kept.pages tells))

-- none of the list has the status yet
pub part_none : (layout : DiskLayout) (old : PageMap) (list : List ℕ) (status : Status) → HasPart layout old list status old
part_none layout old list status = record { statuses = λ statuses has. (0, has); others = λ place apart. refl; started = λ block was. was }

-- a call that passes pages with a part of the list, and then a call that changes them
pub part_then : {D : Type 0} (told : D → Told) (old mid new : View D) (list : List ℕ) (status : Status) → mid.layout ≡ old.layout → (Tells told old → HasPart old.layout old.pages list status mid.pages)
    → Survives told (HasPart old.layout old.pages list status) old mid → Survives told (IsBefore mid) mid new → Survives told (HasPart old.layout old.pages list status) old new
part_then told old mid new list status layout part first second =
    survives_weaker told (λ pages. HasPart old.layout old.pages list status pages ⊎ IsBefore mid pages) old new
    (survives_then told (HasPart old.layout old.pages list status) (IsBefore mid) old mid new layout first second) (HasPart old.layout old.pages list status) (λ tells pages.
    ⊎_elim (λ (has : HasPart old.layout old.pages list status pages). has) (λ (was : pages ≡ mid.pages). subst (HasPart old.layout old.pages list status) (sym was) (part tells)))

-- a first part of the list has the status in these pages
pub part_made : {D : Type 0} (told : D → Told) (old mid : View D) (list : List ℕ) (n : ℕ) (status : Status) → LeavesRest told old mid → OfStatuses told old (λ statuses. HasStatuses old.layout mid.pages (with_all statuses (take n list) status))
    → Tells told old → HasPart old.layout old.pages list status mid.pages
part_made told old mid list n status rest made tells = record { statuses = λ statuses has. (n, made tells statuses has); others = λ place apart. rest.pages tells place apart; started = λ block was. rest.started tells block was }

-- all of the list has it
pub part_all : {D : Type 0} (told : D → Told) (old mid : View D) (list : List ℕ) (status : Status) → LeavesRest told old mid → OfStatuses told old (λ statuses. HasStatuses old.layout mid.pages (with_all statuses list status)) → Tells told old
    → HasPart old.layout old.pages list status mid.pages
part_all told old mid list status rest made tells = record { statuses = all_some told old mid list status made tells; others = λ place apart. rest.pages tells place apart; started = λ block was. rest.started tells block was }

-- a disk fault names no page
pub unnamed : (layout : DiskLayout) (error : StoreError) → IsOfDisk error → NamesStatuses layout error
unnamed layout errors.Disk of_disk = tt
unnamed layout (errors.Reopen faults) of_disk = tt
unnamed layout (errors.Damaged at) of_disk = absurd of_disk
