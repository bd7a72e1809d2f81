-- all bytes of a new store but its gate
use Rattle.std.specs.Prelude.{◌≡◌, ◌⊎◌, ℕ, ◌-◌, List, drop, slice_index}
use Rattle.block_model.specs.declared.limits.TheConstants.{PAGE_SIZE}
use Rattle.block_model.specs.declared.place.Place.{Place}
use Rattle.store_layout.specs.DiskLayout.{DiskLayout, IsPlace, area_offset}
use Rattle.byte_fields.specs.Fields.{field_at}
use Rattle.store_format.specs.declared.page.TheConstants.{OPEN}
use Rattle.store_format.specs.ControlPage.{control_bytes}
use Rattle.store_format.specs.FreshStore.{HasFreshPage}

-- the control page, behind its gate
abbrev pub HasRest : DiskLayout → List ℕ → Type 0
HasRest layout disk = field_at disk 1 (PAGE_SIZE - 1) ≡ drop 1 (control_bytes layout OPEN 0)

-- neither area of the log has a frame
pub record HasNoFrames (layout : DiskLayout) (disk : List ℕ) : Type 0 where
  pub first_area : slice_index disk (area_offset layout 0) ≡ 0
  pub other_area : slice_index disk (area_offset layout 1) ≡ 0

-- every page is a new store's
abbrev pub HasFreshPages : DiskLayout → List ℕ → Type 0
HasFreshPages layout disk = (place : Place) → IsPlace layout place → HasFreshPage layout disk place

-- these pages become a new store's, and each one that was so stays so
abbrev pub Freshens : DiskLayout → (Place → Type 0) → List ℕ → List ℕ → Type 0
Freshens layout These old new = (place : Place) → IsPlace layout place → These place ⊎ HasFreshPage layout old place → HasFreshPage layout new place

-- all that makes a new store but the gate
pub record IsBlank (layout : DiskLayout) (disk : List ℕ) : Type 0 where
  pub rest : HasRest layout disk
  pub areas : HasNoFrames layout disk
  pub pages : HasFreshPages layout disk
