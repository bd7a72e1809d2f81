-- the size of a store's disk
use Rattle.std.proofs.Common.{◌≡◌, ℕ, zero, suc, ◌+◌, ◌*◌, ◌/◌, ◌%◌, ◌^◌, ◌≤◌, ◌<◌, List, length, take, ◌∙◌, ap, arith, get_or-take}
use Rattle.std.specs.Prelude.{slice_index}
use Rattle.block_model.specs.declared.limits.TheConstants.{PAGE_SIZE}
use Rattle.store_layout.specs.DiskLayout.{DiskLayout, area_offset, area_size, disk_size}
use Rattle.log_area.specs.Log.{area_start}

a_page : (a b c d e : ℕ) → PAGE_SIZE ≤ PAGE_SIZE * (1 + a + b + c + d)
a_page a b c d e = omega arith

-- a disk has its control page
pub some_disk : (layout : DiskLayout) → PAGE_SIZE ≤ disk_size layout
unfolding disk_size
some_disk layout = a_page (2 * layout.sizes.log_pages) layout.sizes.status_blocks (length layout.schema.tables * layout.sizes.heap_blocks) (length layout.schema.indexes * layout.sizes.index_blocks) 0

whole : (n : ℕ) → PAGE_SIZE * ((PAGE_SIZE * n) / PAGE_SIZE) ≡ PAGE_SIZE * n
whole n = omega arith

-- and whole pages
pub whole_disk : (layout : DiskLayout) → PAGE_SIZE * (disk_size layout / PAGE_SIZE) ≡ disk_size layout
unfolding disk_size
whole_disk layout = whole (1 + 2 * layout.sizes.log_pages + layout.sizes.status_blocks + length layout.schema.tables * layout.sizes.heap_blocks + length layout.schema.indexes * layout.sizes.index_blocks)

-- the area that the control page chooses
pub area_is : (layout : DiskLayout) (found area : ℕ) (contents page : List ℕ) → found ≡ area_offset layout area → area ≡ slice_index page 1 % 2 → page ≡ take PAGE_SIZE contents → found ≡ area_start (area_size layout) (slice_index contents 1)
unfolding area_start
area_is layout found area contents page at chosen front =
    at
    ∙ ap (λ (a : ℕ). PAGE_SIZE + area_size layout * a) (chosen ∙ ap (λ (b : ℕ). b % 2) (ap (λ (p : List ℕ). slice_index p 1) front ∙ get_or-take PAGE_SIZE contents 1 0 (omega arith)))

pub area_low : (pages area found : ℕ) → pages ≤ 4096 → area < 2 → found ≡ PAGE_SIZE + PAGE_SIZE * pages * area → found ≤ 2 ^ 26
area_low pages zero found few small is = omega (arith, few, is)
area_low pages (suc zero) found few small is = omega (arith, few, is)
area_low pages (suc (suc n)) found few small is = absurd (omega (arith, small))
