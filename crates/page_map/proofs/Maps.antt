-- Maps with all pages of a layout.
use Rattle.std.proofs.Common.{◌≡◌, ℕ, ◌<◌, List, [], length, get_or, sym, ap, ◌∙◌, arith}
use Rattle.std.proofs.lemmas.List.{ext_get_or, get_or-map, length-map}
use Rattle.block_model.specs.declared.place.Place.{Place}
use Rattle.page_redo.specs.DiskLayout.{DiskLayout, IsPlace, relation_blocks}
use Rattle.page_map.specs.PageMap.{IsWhole, PageMap, block_limit, page_at, unstarted_page}

-- as many relations as the layout has
pub relations_in : (layout : DiskLayout) (pages : PageMap) → IsWhole layout pages → length pages ≡ length (relation_blocks layout)
relations_in layout pages whole = sym (length-map pages (length {A = List ℕ})) ∙ ap (length {A = ℕ}) whole

-- and of each as many pages as it may have
pub blocks_in : (layout : DiskLayout) (pages : PageMap) (n : ℕ) → IsWhole layout pages → n < length pages → length (get_or pages n []) ≡ block_limit layout n
blocks_in layout pages n whole below = sym (get_or-map (length {A = List ℕ}) pages n [] 0 below) ∙ ap (λ (l : List ℕ). get_or l n 0) whole

pub same_maps : (layout : DiskLayout) (a b : PageMap) → IsWhole layout a → IsWhole layout b → ((place : Place) → IsPlace layout place → page_at a place ≡ page_at b place) → a ≡ b
same_maps layout a b whole other agree =
    let long = relations_in layout a whole in
    let also = relations_in layout b other in
    ext_get_or [] a b (long ∙ sym also) (λ n below.
    let first = blocks_in layout a n whole below in
    let second = blocks_in layout b n other (omega arith) in
    ext_get_or unstarted_page (get_or a n []) (get_or b n []) (first ∙ sym second) (λ k low.
    agree (record { relation = n; block = k }) (record { relation = omega (arith, below, long); block = omega (arith, low, first) })))
