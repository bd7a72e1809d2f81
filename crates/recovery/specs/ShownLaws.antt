-- laws of the pages of a store of which some are held in memory
use Rattle.std.proofs.Common.{◌≡◌, ◌≢◌, ◌⊎◌, inl, inr, ⊎_elim, ℕ, zero, suc, ◌+◌, ◌*◌, ◌<◌, List, [], ◌∷◌, length, map, get_or, sum, take, refl, sym, ap, ◌∙◌, arith}
use Rattle.std.proofs.lemmas.Bool.{cases_eq}
use Rattle.std.proofs.lemmas.List.FromFn.{get_or-map-range_with_len, length-map-range_with_len}
use Rattle.block_model.specs.declared.place.Place.{Place}
use Rattle.block_model.specs.declared.limits.TheConstants.{PAGE_SIZE}
use Rattle.store_layout.specs.DiskLayout.{DiskLayout, IsPlace, page_offset, relation_blocks}
use Rattle.store_layout.specs.PagesFillDisk.{AreApart, PagesFillDisk}
use Rattle.buffer_pool.specs.PoolState.{PoolState}
use Rattle.page_map.specs.PageMap.{IsWhole, page_at, unstarted_page}
use Rattle.page_map.proofs.Maps.{same_maps}
use Rattle.recovery.specs.PageNumbers.{page_number}
use Rattle.recovery.specs.ShownPages.{pages_from, shown_page, shown_pages}

-- a page begins at the multiple of its number
pub offset_of : (layout : DiskLayout) (place : Place) → page_offset layout place ≡ PAGE_SIZE * page_number layout place
unfolding page_offset page_number
offset_of layout place = let blocks : ℕ = sum (take place.relation (relation_blocks layout)) in omega arith

pub same_place : (p q : Place) → (p ≡ q) ⊎ (p ≢ q)
same_place p q = elim (cases_eq p.relation q.relation) [
  | inl r ↦ elim (cases_eq p.block q.block) [
    | inl b ↦ inl (λ i. record { relation = r i; block = b i })
    | inr other ↦ inr (λ e. other (ap (λ (x : Place). x.block) e))
  ]
  | inr other ↦ inr (λ e. other (ap (λ (x : Place). x.relation) e))
]

-- two places have two numbers
pub one_number : (layout : DiskLayout) → PagesFillDisk layout → (p q : Place) → IsPlace layout p → IsPlace layout q → page_number layout p ≡ page_number layout q → p ≡ q
one_number layout fill p q isp isq same = ⊎_elim (λ (e : p ≡ q). e) (λ (other : p ≢ q). absurd (apart (fill.disjoint p q isp isq other))) (same_place p q)
  where
    begins : page_offset layout p ≡ page_offset layout q
    begins = offset_of layout p ∙ ap (λ (n : ℕ). PAGE_SIZE * n) same ∙ sym (offset_of layout q)

    apart : AreApart layout p q → ⊥
    apart (inl low) = omega (arith, low, begins)
    apart (inr high) = omega (arith, high, begins)

-- the page of each block of each relation
from_at : (page : Place → List ℕ) (first : ℕ) (limits : List ℕ) (relation block : ℕ) (d : List ℕ) → relation < length limits → block < get_or limits relation 0
    → get_or (get_or (pages_from page first limits) relation []) block d ≡ page (record { relation = first + relation; block = block })
from_at page first [] relation block d there low = absurd (omega (arith, there))
from_at page first (limit ∷ limits) zero block d there low =
    get_or-map-range_with_len (λ (b : ℕ). page (record { relation = first; block = b })) 0 limit block block d low (omega arith)
    ∙ ap (λ (r : ℕ). page (record { relation = r; block = block })) (let e : first ≡ first + zero = omega arith in e)
from_at page first (limit ∷ limits) (suc relation) block d there low =
    from_at page (suc first) limits relation block d (omega (arith, there)) low
    ∙ ap (λ (r : ℕ). page (record { relation = r; block = block })) (let e : suc first + relation ≡ first + suc relation = omega arith in e)

whole_from : (page : Place → List ℕ) (first : ℕ) (limits : List ℕ) → map length (pages_from page first limits) ≡ limits
whole_from page first [] = refl
whole_from page first (limit ∷ limits) =
    λ i. length-map-range_with_len (λ (b : ℕ). page (record { relation = first; block = b })) 0 limit i ∷ whole_from page (suc first) limits i

-- the page at a place
pub shown_at : (layout : DiskLayout) (pool : PoolState) (contents : List ℕ) (place : Place) → IsPlace layout place → page_at (shown_pages layout pool contents) place ≡ shown_page layout pool contents place
unfolding shown_pages
shown_at layout pool contents place is =
    from_at (shown_page layout pool contents) 0 (relation_blocks layout) place.relation place.block unstarted_page is.relation is.block
    ∙ ap (λ (r : ℕ). shown_page layout pool contents (record { relation = r; block = place.block })) (let e : 0 + place.relation ≡ place.relation = omega arith in e)

-- there is one for each
pub shown_whole : (layout : DiskLayout) (pool : PoolState) (contents : List ℕ) → IsWhole layout (shown_pages layout pool contents)
unfolding shown_pages
shown_whole layout pool contents = whole_from (shown_page layout pool contents) 0 (relation_blocks layout)

-- what is shown is one map where it is the same at each place
pub same_shown : (layout : DiskLayout) (pool other : PoolState) (contents after : List ℕ) → ((place : Place) → IsPlace layout place → shown_page layout pool contents place ≡ shown_page layout other after place)
    → shown_pages layout pool contents ≡ shown_pages layout other after
same_shown layout pool other contents after same =
    same_maps layout (shown_pages layout pool contents) (shown_pages layout other after) (shown_whole layout pool contents) (shown_whole layout other after)
    (λ place is. shown_at layout pool contents place is ∙ same place is ∙ sym (shown_at layout other after place is))
