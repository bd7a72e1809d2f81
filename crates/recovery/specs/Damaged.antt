-- a disk on which a frame or a page isn't of its form
use Rattle.std.specs.Prelude.{◌≡◌, ◌⊎◌, ℕ, List, slice_index}
use Rattle.block_model.specs.declared.place.Place.{Place}
use Rattle.store_layout.specs.DiskLayout.{DiskLayout, IsPlace, area_size, page_offset}
use Rattle.log_area.specs.Frames.{LogFrame, HoldsFrames}
use Rattle.log_area.specs.Log.{area_start, chosen_area}
use Rattle.log_area.specs.Started.{IsDamagedAt}
use Rattle.wal_record.specs.Changes.{LoggedChange}
use Rattle.page_map.specs.Forms.{IsPageIn}
use Rattle.page_map.specs.PageMap.{IsWhole, PageMap, page_at}
use Rattle.recovery.specs.LoggedChanges.{AreLogged}
use Rattle.recovery.specs.Damage.{HasFrameAmiss}
use Rattle.recovery.specs.Redoing.{MakePages}
use Rattle.recovery.specs.Orders.{StandsInOrder}

-- an opened frame of the chosen area isn't of its form, and its gate is this byte
pub record HasFrameDamaged (layout : DiskLayout) (image : List ℕ) (at : ℕ) : Type 0 where
  pub frames : List LogFrame
  pub holds : HoldsFrames (chosen_area (area_size layout) image) frames
  pub amiss : HasFrameAmiss layout image (area_start (area_size layout) (slice_index image 1)) frames at

-- the pages of an image are those after the changes of the opened frames of its chosen area
pub record HasPages (layout : DiskLayout) (image : List ℕ) (pages : PageMap) : Type 0 where
  pub frames : List LogFrame
  pub changes : List LoggedChange
  pub holds : HoldsFrames (chosen_area (area_size layout) image) frames
  pub logged : AreLogged frames changes
  pub made : MakePages layout image changes (page_at pages)
  pub whole : IsWhole layout pages

-- the one of these pages that begins at this byte isn't of its form, or breaks the order
pub record HasPageDamaged (layout : DiskLayout) (image : List ℕ) (at : ℕ) : Type 0 where
  pub pages : PageMap
  pub has : HasPages layout image pages
  pub place : Place
  pub is : IsPlace layout place
  pub begins : at ≡ page_offset layout place
  pub breaks : (IsPageIn layout place.relation (page_at pages place) → ⊥) ⊎ (StandsInOrder layout pages place → ⊥)

-- a frame passes its area, or isn't of its form, or a page isn't, or stands out of order
abbrev pub IsDamaged : DiskLayout → List ℕ → ℕ → Type 0
IsDamaged layout image at = IsDamagedAt (area_size layout) image at ⊎ (HasFrameDamaged layout image at ⊎ HasPageDamaged layout image at)
