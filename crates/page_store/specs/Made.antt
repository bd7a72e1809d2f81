-- what a change makes of a page that is held
use Rattle.std.specs.Prelude.{◌≡◌, ◌≢◌, ℕ, List, [], ◌∷◌, Some}
use Rattle.block_model.specs.declared.place.Place.{Place}
use Rattle.store_layout.specs.DiskLayout.{DiskLayout, page_offset}
use Rattle.page_layout.specs.declared.page.Form.{Form}
use Rattle.wal_record.specs.Changes.{LoggedChange}
use Rattle.recovery.specs.Redo.{Fits, Redone}
use Rattle.page_layout.specs.PageContents.{IsPageOf}
use Rattle.buffer_pool.specs.PoolState.{PoolState}
use Rattle.page_map.specs.declared.faults.StoreError.{StoreError}
use Rattle.page_map.specs.declared.faults.StoreError.TheVariants as errors
use Rattle.recovery.specs.ShownPages.{content_at}

-- the page of that number is what the change makes of it, and the others are held as they were
pub record MakesPage (form : Form) (number : ℕ) (change : LoggedChange) (old new : PoolState) : Type 0 where
  pub before : List ℕ
  pub after : List ℕ
  pub was : content_at old number ≡ Some before
  pub is : content_at new number ≡ Some after
  pub redone : Redone form before (change ∷ []) after
  pub passes : IsPageOf form after
  pub others : (other : ℕ) → other ≢ number → content_at new other ≡ content_at old other

-- the page of that number, which is held, doesn't take the change
abbrev pub Misfits : Form → ℕ → LoggedChange → PoolState → Type 0
Misfits form number change pool = (page : List ℕ) → content_at pool number ≡ Some page → Fits form page change → ⊥

-- a fault of the disk, now or before
abbrev pub IsOfDisk : StoreError → Type 0
IsOfDisk (errors.Damaged at) = ⊥
IsOfDisk error = Unit {0}

-- damage of the page at the place
abbrev pub IsDamaged : DiskLayout → Place → StoreError → Type 0
IsDamaged layout place (errors.Damaged at) = at ≡ page_offset layout place
IsDamaged layout place error = ⊥
