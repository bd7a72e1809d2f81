-- what the images at the moments of a call open to, by the images that were there when it began
use Rattle.std.specs.Prelude.{◌≡◌, ◌⊎◌, ℕ, List, take}
use Rattle.block_model.specs.declared.limits.TheConstants.{PAGE_SIZE}
use Rattle.store_layout.specs.DiskLayout.{DiskLayout, first_offset}
use Rattle.store_format.specs.ControlPage.{HasControl}
use Rattle.disk_trait.specs.Told.{Told}
use Rattle.log_area.specs.Log.{ComesBy}
use Rattle.page_map.specs.PageMap.{PageMap}
use Rattle.recovery.specs.Opens.{OpensAs}

-- one image is that of a store; the other has its control page and its log, and opens to what it opens to
pub record OpensLike (before image : List ℕ) : Type 0 where
  pub layout : DiskLayout
  pub control : HasControl layout (take PAGE_SIZE before)
  pub front : take (first_offset layout) image ≡ take (first_offset layout) before
  pub opens : (any : DiskLayout) (pages : PageMap) → OpensAs any before pages → OpensAs any image pages

-- the image was there before, or opens like one that was
abbrev pub OpensAsBefore : Told → List ℕ → Type 0
OpensAsBefore old image = ComesBy (λ before after. (after ≡ before) ⊎ OpensLike before after) old image

-- it is an image of a store with this layout, and opens to these pages or to what the one that was there before did
abbrev pub OpensToOr : DiskLayout → PageMap → List ℕ → List ℕ → Type 0
OpensToOr layout pages before image =
    OpensAs layout image pages ⊎ ((others : PageMap) → OpensAs layout before others → OpensAs layout image others)

-- the image comes from one that was there before, and opens to these pages or to what that one did
abbrev pub Reaches : DiskLayout → Told → PageMap → List ℕ → Type 0
Reaches layout old pages image = ComesBy (OpensToOr layout pages) old image

-- the same, where a call may leave any of several maps
abbrev pub ReachesAny : DiskLayout → Told → (PageMap → Type 0) → List ℕ → Type 0
ReachesAny layout old Leaves image =
    ComesBy (λ before after. ((pages : PageMap) × Leaves pages × OpensAs layout after pages) ⊎ ((others : PageMap) → OpensAs layout before others → OpensAs layout after others)) old image

-- the image is that of a store with this layout, and opens to pages that have P
abbrev pub OpensWith : DiskLayout → (PageMap → Type 0) → List ℕ → Type 0
OpensWith layout P image = (pages : PageMap) × OpensAs layout image pages × P pages
