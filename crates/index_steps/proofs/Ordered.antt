-- the order of an index's pages, where its map grows
use Rattle.std.proofs.Common.{◌≡◌, ◌≢◌, ◌⊎◌, inl, inr, ℕ, zero, suc, ◌+◌, ◌<◌, ◌≤◌, List, refl, sym, ap, subst, ◌∙◌, arith}
use Rattle.std.specs.Prelude.{◌==◌, if◌then◌else◌}
use Rattle.std.proofs.lemmas.Bool.{cases_eq}
use Rattle.store_layout.specs.DiskLayout.{DiskLayout}
use Rattle.page_map.specs.PageMap.{PageMap}
use Rattle.index_contents.specs.PageOrder.{IsIndexInOrder, IsOfTuples, empty_page, kind_of, map_pages}
use Rattle.index_layout.specs.declared.format.TheConstants.{META}
use Rattle.index_layout.specs.IndexReading.{map_pages_of, number_at}
use Rattle.coverage.specs.IndexView.{Mapping, next_map_page}
use Rattle.index_contents.specs.IndexContents.{contents, index_page}
use Rattle.index_contents.specs.Kinds.{is_map_page}
use Rattle.index_contents.specs.PageLaws.{StayBeside}
use Rattle.index_contents.specs.Reading.{map_byte}
use Rattle.index_steps.specs.NextPages.{IsEmptyMap, IsNextDamaged, IsStray, StandsNext}
use Rattle.index_steps.specs.declared.next.PageState.TheVariants as states
use Rattle.index_steps.proofs.EmptyMaps.{HasOneMap, map_is_empty, no_entries}

-- a page that may stand behind the map
abbrev pub MayBeNext : List ℕ → Type 0
MayBeNext page = IsOfTuples page ⊎ (page ≡ empty_page 4)

-- the two ways to read how many pages the metapage counts
pub count_read : (page : List ℕ) → kind_of page ≡ 3 → map_pages_of page ≡ map_pages page
unfolding map_pages_of
count_read page is = ap (λ (k : ℕ). if k == META then number_at page 32 4 else 0) is

-- one page behind the map is another, which may stand there and is started
module _ (limit : ℕ) (f g : ℕ → List ℕ) (n : ℕ) (order : IsIndexInOrder limit f) (counted : n ≡ map_pages (f 0)) (stay : StayBeside (n + 1) f g) (now : kind_of (g (n + 1)) ≢ 0) (may : MayBeNext (g (n + 1))) where
  same_meta : g 0 ≡ f 0
  same_meta = stay 0 (λ at. absurd (omega (arith, at)))

  counts : map_pages (g 0) ≡ n
  counts = ap map_pages same_meta ∙ sym counted

  below_map : (before : ℕ) → before < n + 1 → kind_of (f before) ≢ 0
  below_map zero below none = let e : 3 ≡ 0 = sym order.metapage ∙ none in absurd (omega (arith, e))
  below_map (suc before) below none = let e : 4 ≡ 0 = sym (order.maps (suc before) (omega arith) (omega (arith, below, counted))) ∙ none in absurd (omega (arith, e))

  was_started : (before block : ℕ) → before < block → block < limit → kind_of (g block) ≢ 0 → before ≢ n + 1 → kind_of (f before) ≢ 0
  was_started before block lower below started apart = elim (cases_eq block (n + 1)) [
    | inl at ↦ below_map before (omega (arith, at, lower))
    | inr other ↦ order.first before block lower below (λ none. started (ap kind_of (stay block other) ∙ none))
  ]

  pub turned_in_order : IsIndexInOrder limit g
  turned_in_order = record {
    first = λ before block lower below started. elim (cases_eq before (n + 1)) [
      | inl at ↦ λ none. now (ap (λ (b : ℕ). kind_of (g b)) (sym at) ∙ none)
      | inr apart ↦ λ none. was_started before block lower below started apart (sym (ap kind_of (stay before apart)) ∙ none)
    ];
    metapage = ap kind_of same_meta ∙ order.metapage;
    some_map = subst (λ (p : List ℕ). 1 ≤ map_pages p) (sym same_meta) order.some_map;
    few_maps = subst (λ (p : List ℕ). map_pages p < limit) (sym same_meta) order.few_maps;
    maps = λ block low within. ap kind_of (stay block (λ at. absurd (omega (arith, at, within, counts)))) ∙ order.maps block low (omega (arith, within, counts, counted));
    next = λ below. subst (λ (m : ℕ). MayBeNext (g (m + 1))) (sym counts) may;
    others = λ block past below. subst IsOfTuples (sym (stay block (λ at. absurd (omega (arith, at, past, counts))))) (order.others block (omega (arith, past, counts, counted)) below);
  }

-- the metapage counts the page of the map behind it
module _ (limit : ℕ) (f g : ℕ → List ℕ) (n : ℕ) (order : IsIndexInOrder limit f) (counted : n ≡ map_pages (f 0)) (below : n + 1 < limit) (map : kind_of (f (n + 1)) ≡ 4) (stay : StayBeside 0 f g) (now : kind_of (g 0) ≡ 3) (counts : map_pages (g 0) ≡ n + 1) where
  behind : (block : ℕ) → 0 < block → g block ≡ f block
  behind block some = stay block (λ at. absurd (omega (arith, at, some)))

  page_of_map : (block : ℕ) → 1 ≤ block → block ≤ n + 1 → kind_of (f block) ≡ 4
  page_of_map block low within = elim (cases_eq block (n + 1)) [
    | inl at ↦ ap (λ (b : ℕ). kind_of (f b)) at ∙ map
    | inr apart ↦ order.maps block low (omega (arith, within, apart, counted))
  ]

  first_started : (before block : ℕ) → before < block → block < limit → kind_of (g block) ≢ 0 → kind_of (g before) ≢ 0
  first_started zero block lower under started none = let e : 3 ≡ 0 = sym now ∙ none in absurd (omega (arith, e))
  first_started (suc before) block lower under started none =
      order.first (suc before) block lower under (λ gone. started (ap kind_of (behind block (omega (arith, lower))) ∙ gone)) (sym (ap kind_of (behind (suc before) (omega arith))) ∙ none)

  tuples_behind : (block : ℕ) → n + 1 < block → block < limit → IsOfTuples (g block)
  tuples_behind block past under = subst IsOfTuples (sym (behind block (omega (arith, past)))) (order.others block (omega (arith, past, counted)) under)

  pub counted_in_order : IsIndexInOrder limit g
  counted_in_order = record {
    first = first_started;
    metapage = now;
    some_map = omega (arith, counts);
    few_maps = omega (arith, counts, below);
    maps = λ block low within. ap kind_of (behind block (omega (arith, low))) ∙ page_of_map block low (omega (arith, within, counts));
    next = λ under. inl (tuples_behind (map_pages (g 0) + 1) (omega (arith, counts)) under);
    others = λ block past under. tuples_behind block (omega (arith, past, counts)) under;
  }

-- a page of tuples is none of the map
no_map_of_tuples : (page : List ℕ) (kind : ℕ) → kind_of page ≡ kind → 3 ≤ kind → kind ≤ 4 → IsOfTuples page → ⊥
no_map_of_tuples page kind is low high (inl five) = omega (arith, sym is ∙ five, high)
no_map_of_tuples page kind is low high (inr (inl six)) = omega (arith, sym is ∙ six, high)
no_map_of_tuples page kind is low high (inr (inr none)) = omega (arith, sym is ∙ none, low)

not_stray : HasOneMap → (page : List ℕ) → MayBeNext page → IsStray page → ⊥
not_stray one page (inl tuples) (inl meta) = no_map_of_tuples page 3 meta (omega arith) (omega arith) tuples
not_stray one page (inl tuples) (inr (map, entry)) = no_map_of_tuples page 4 map (omega arith) (omega arith) tuples
not_stray one page (inr empty) (inl meta) = let e : 4 ≡ 3 = sym (ap kind_of empty) ∙ meta in omega (arith, e)
not_stray one page (inr empty) (inr (map, entry)) = no_entries one page (map_is_empty page empty) entry

-- an index in order counts pages of the map, and no stray page stands behind them
pub not_damaged : HasOneMap → (layout : DiskLayout) (pages : PageMap) (index : ℕ) → IsIndexInOrder layout.sizes.index_blocks (index_page layout pages index) → IsNextDamaged layout pages index → ⊥
unfolding contents
not_damaged one layout pages index order (inl none) =
    let read = count_read (index_page layout pages index 0) order.metapage in
    omega (arith, none, read, order.some_map)
not_damaged one layout pages index order (inr (below, stray)) =
    let f : ℕ → List ℕ = index_page layout pages index in
    let read = count_read (f 0) order.metapage in
    let may : MayBeNext (f (map_pages_of (f 0) + 1)) = subst (λ (m : ℕ). MayBeNext (f (m + 1))) (sym read) (order.next (omega (arith, below, read))) in
    not_stray one (f (map_pages_of (f 0) + 1)) may stray

left_over_there : (page : List ℕ) → MayBeNext page → kind_of page ≡ 4 → IsEmptyMap page
left_over_there page (inl tuples) map = absurd (no_map_of_tuples page 4 map (omega arith) (omega arith) tuples)
left_over_there page (inr empty) map = map_is_empty page empty

-- a page of the map behind those that are counted has no entries
pub left_over : (layout : DiskLayout) (pages : PageMap) (index : ℕ) → IsIndexInOrder layout.sizes.index_blocks (index_page layout pages index) → next_map_page (contents layout pages index).pages < layout.sizes.index_blocks
    → (contents layout pages index).pages.kind (next_map_page (contents layout pages index).pages) ≡ Mapping → StandsNext layout pages index (next_map_page (contents layout pages index).pages) states.LeftOver
unfolding contents
left_over layout pages index order below kind =
    let f : ℕ → List ℕ = index_page layout pages index in
    let n : ℕ = map_pages_of (f 0) in
    let read = count_read (f 0) order.metapage in
    let may : MayBeNext (f (n + 1)) = subst (λ (m : ℕ). MayBeNext (f (m + 1))) (sym read) (order.next (omega (arith, below, read))) in
    let map : kind_of (f (n + 1)) ≡ 4 = is_map_page (n + 1) (kind_of (f (n + 1))) kind ∙ map_byte n in
    record { counted = omega (arith, read, order.some_map); next = refl; below = below; is = left_over_there (f (n + 1)) may map }
