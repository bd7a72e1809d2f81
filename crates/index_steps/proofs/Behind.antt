-- what is read of the block behind the map
use Rattle.std.proofs.Common.{◌≡◌, ◌≢◌, inl, inr, ⊎_elim, ℕ, ◌<◌, ◌≤◌, List, refl, sym, ap, subst, ◌∙◌, arith}
use Rattle.std.specs.Prelude.{slice_index, replicate, Bool, Option, None, Some, if◌then◌else◌}
use Rattle.std.proofs.lemmas.Bool.{cases_lt, eq-eqb, ne_eqb}
use Rattle.std.proofs.lemmas.List.{get_or-replicate}
use Rattle.std.proofs.lemmas.Option.{none-some}
use Rattle.store_layout.specs.DiskLayout.{DiskLayout, page_offset}
use Rattle.page_map.specs.PageMap.{PageMap, block_at}
use Rattle.page_layout.specs.IndexLaws.{meta_front, regular_front}
use Rattle.index_layout.specs.declared.format.TheConstants.{UNSTARTED, META, MAP, REGULAR, EVACUATED, MAP_ENTRIES}
use Rattle.index_layout.specs.IndexPages.{IsIndexPage, Map, Meta, Regular, Unstarted}
use Rattle.index_layout.specs.IndexReading.{map_pages_of}
use Rattle.coverage.specs.IndexView.{Pages, next_map_page}
use Rattle.index_contents.specs.IndexContents.{contents, index_page, relation_of, tuple_on}
use Rattle.index_contents.specs.MapLaws.{is_of_map}
use Rattle.index_steps.specs.FirstTuples.{IsFirst, IsFirstOn}
use Rattle.index_steps.specs.NextPages.{IsNextDamaged, IsOfState, IsStray, StandsNext, damaged_block, place_in}
use Rattle.index_steps.specs.declared.next.PageState.{PageState}
use Rattle.index_steps.specs.declared.next.PageState.TheVariants as states
use Rattle.index_steps.specs.declared.tuples.FirstTuple.{FirstTuple}
use Rattle.index_steps.proofs.EmptyMaps.{HasOneMap, no_entries}

-- how many pages are counted
pub counted_there : (layout : DiskLayout) (pages : PageMap) (index relation counted : ℕ) → relation ≡ relation_of layout index → counted ≡ map_pages_of (block_at pages relation 0) → counted ≡ (contents layout pages index).pages.map_pages
unfolding contents
counted_there layout pages index relation counted at is = is ∙ ap (λ (r : ℕ). map_pages_of (block_at pages r 0)) at

-- the damaged block
pub damaged_meta : (pages : Pages) → pages.map_pages ≡ 0 → damaged_block pages ≡ 0
damaged_meta pages none = ap (λ (b : Bool). if b then 0 else next_map_page pages) (eq-eqb pages.map_pages 0 none)

pub damaged_next : (pages : Pages) → pages.map_pages ≢ 0 → damaged_block pages ≡ next_map_page pages
damaged_next pages some = ap (λ (b : Bool). if b then 0 else next_map_page pages) (ne_eqb pages.map_pages 0 some)

-- where a page begins
pub begins : (l layout : DiskLayout) (index relation block damaged at : ℕ) → l ≡ layout → relation ≡ relation_of layout index → damaged ≡ block → at ≡ page_offset l (record { relation = relation; block = block }) → at ≡ page_offset layout (place_in layout index damaged)
begins l layout index relation block damaged at same is here found =
    found ∙ ap (λ (a : DiskLayout). page_offset a (record { relation = relation; block = block })) same
    ∙ ap (λ (r : ℕ). page_offset layout (record { relation = r; block = block })) is ∙ ap (λ (b : ℕ). page_offset layout (place_in layout index b)) (sym here)

-- no page of a state is stray
pub not_stray : HasOneMap → (page : List ℕ) (state : PageState) → IsOfState page state → IsStray page → ⊥
not_stray one page states.Unstarted is (inl meta) = let e : 0 ≡ 3 = sym is ∙ meta in omega (arith, e)
not_stray one page states.Unstarted is (inr (map, entry)) = let e : 0 ≡ 4 = sym is ∙ map in omega (arith, e)
not_stray one page states.LeftOver is (inl meta) = let e : 4 ≡ 3 = sym (is_of_map (replicate MAP_ENTRIES None) page is) ∙ meta in omega (arith, e)
not_stray one page states.LeftOver is (inr (map, entry)) = no_entries one page is entry
not_stray one page states.Regular is (inl meta) = let e : 5 ≡ 3 = sym is ∙ meta in omega (arith, e)
not_stray one page states.Regular is (inr (map, entry)) = let e : 5 ≡ 4 = sym is ∙ map in omega (arith, e)
not_stray one page states.Emptying is (inl meta) = let e : 6 ≡ 3 = sym is ∙ meta in omega (arith, e)
not_stray one page states.Emptying is (inr (map, entry)) = let e : 6 ≡ 4 = sym is ∙ map in omega (arith, e)

module _ (layout : DiskLayout) (pages : PageMap) (index : ℕ) (some : 0 < (contents layout pages index).pages.map_pages) where
  -- past the limit nothing is damaged
  pub none_past : layout.sizes.index_blocks ≤ next_map_page (contents layout pages index).pages → IsNextDamaged layout pages index → ⊥
  none_past past (inl none) = omega (arith, some, none)
  none_past past (inr (below, stray)) = omega (arith, past, below)

  module _ (relation block : ℕ) (at : relation ≡ relation_of layout index) (next : block ≡ next_map_page (contents layout pages index).pages) where
    same_page : block_at pages relation block ≡ index_page layout pages index (next_map_page (contents layout pages index).pages)
    same_page = ap (λ (r : ℕ). block_at pages r block) at ∙ ap (index_page layout pages index) next

    pub stands_next : (state : PageState) → block < layout.sizes.index_blocks → IsOfState (block_at pages relation block) state → StandsNext layout pages index block state
    stands_next state below is = record { counted = some; next = next; below = below; is = subst (λ (r : ℕ). IsOfState (block_at pages r block) state) at is }

    pub none_damaged : HasOneMap → (state : PageState) → IsOfState (block_at pages relation block) state → IsNextDamaged layout pages index → ⊥
    none_damaged one state is (inl none) = omega (arith, some, none)
    none_damaged one state is (inr (below, stray)) = not_stray one (index_page layout pages index (next_map_page (contents layout pages index).pages)) state (subst (λ (p : List ℕ). IsOfState p state) same_page is) stray

    pub damaged_there : block < layout.sizes.index_blocks → IsStray (block_at pages relation block) → IsNextDamaged layout pages index
    damaged_there below stray = inr (subst (λ (b : ℕ). b < layout.sizes.index_blocks) next below, subst IsStray same_page stray)

-- a page of an index of no other kind is a metapage
pub meta_left : (page : List ℕ) → IsIndexPage page → slice_index page 0 ≢ UNSTARTED → slice_index page 0 ≢ REGULAR → slice_index page 0 ≢ EVACUATED → slice_index page 0 ≢ MAP → slice_index page 0 ≡ META
meta_left page (Unstarted zeros) a b c d = absurd (a (ap (λ (p : List ℕ). slice_index p 0) zeros ∙ zero_kind))
  where
    zero_kind : slice_index (replicate 8192 0) 0 ≡ UNSTARTED
    zero_kind = get_or-replicate {A = ℕ} 8192 0 0 0 (omega arith)
meta_left page (Meta number is) a b c d = meta_front number page is
meta_left page (Map entries is) a b c d = absurd (d (is_of_map entries page is))
meta_left page (Regular kind slots is) a b c d = ⊎_elim
    (λ (five : kind ≡ REGULAR). absurd (b (regular_front kind slots page is ∙ five)))
    (λ (six : kind ≡ EVACUATED). absurd (c (regular_front kind slots page is ∙ six)))
    is.has.of

-- the first tuple of a block, by its page
pub first_there : (layout : DiskLayout) (pages : PageMap) (index relation block : ℕ) (page bytes : List ℕ) (first : Option FirstTuple) → relation ≡ relation_of layout index → page ≡ block_at pages relation block → IsFirstOn page bytes first
    → IsFirst (contents layout pages index) block bytes first
unfolding contents
first_there layout pages index relation block page bytes None at is none =
    λ x here. ap (λ (b : ℕ). tuple_on (index_page layout pages index b) x.slot) here ∙ ap (λ (p : List ℕ). tuple_on p x.slot) (sym (is ∙ ap (λ (r : ℕ). block_at pages r block) at)) ∙ none x.slot
first_there layout pages index relation block page bytes (Some first) at is (stands, lower, of) =
    let same : page ≡ index_page layout pages index block = is ∙ ap (λ (r : ℕ). block_at pages r block) at in (
      record {
        on = refl;
        stands = ap (λ (p : List ℕ). tuple_on p first.slot) (sym same) ∙ stands;
        first = λ y u here there. elim (cases_lt y.slot first.slot) [
          | inl below ↦ absurd (none-some u (sym (ap (λ (b : ℕ). tuple_on (index_page layout pages index b) y.slot) here ∙ ap (λ (p : List ℕ). tuple_on p y.slot) (sym same) ∙ lower y.slot below) ∙ there))
          | inr above ↦ above
        ];
      },
      of,
    )

-- a page of a state isn't damaged
pub state_not_damaged : HasOneMap → (layout : DiskLayout) (pages : PageMap) (index block : ℕ) (state : PageState) → StandsNext layout pages index block state → IsNextDamaged layout pages index → ⊥
state_not_damaged one layout pages index block state stands = none_damaged layout pages index stands.counted (relation_of layout index) block refl stands.next one state stands.is
