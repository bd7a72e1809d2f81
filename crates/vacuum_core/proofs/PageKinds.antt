-- which pages have tuples
use Rattle.std.proofs.Common.{◌≡◌, ◌≢◌, inl, inr, ℕ, ◌+◌, ◌≤◌, ◌<◌, ◌==◌, Bool, true, false, List, [], ◌∷◌, drop, refl, sym, ap, subst, ◌∙◌, arith}
use Rattle.std.specs.Prelude.{Option, None, Some, slice_index}
use Rattle.std.proofs.lemmas.Bool.{cases_eq, eq-eqb, ne_eqb}
use Rattle.index_layout.specs.declared.format.TheConstants.{REGULAR, UNSTARTED}
use Rattle.coverage.specs.IndexView.{Emptying, Mapping, PageKind, Pages, Regular, Unstarted}
use Rattle.coverage.specs.PageOrder.{IsForTuples}
use Rattle.store_layout.specs.DiskLayout.{DiskLayout}
use Rattle.page_map.specs.PageMap.{PageMap, block_at, page_at}
use Rattle.index_contents.specs.IndexContents.{contents, kind_at, map_kind, relation_of}
use Rattle.vacuum_core.specs.declared.next_page.PageKind.{PageKind as Found}
use Rattle.index_contents.specs.Kinds.{kind_by}
use Rattle.vacuum_core.specs.NextPages.{InALaterOne, InThisIndex, IsKindOf, IsNextIn, IsNextOf, NoIndexLeft}

by_tests : (block kind : ℕ) (a b c : Bool) → (kind == REGULAR) ≡ a → (kind == UNSTARTED) ≡ b → (kind == map_kind block) ≡ c → kind_at block kind ≡ kind_by a b c
by_tests block kind a b c regular unstarted map =
    ap (λ (x : Bool). kind_by x (kind == UNSTARTED) (kind == map_kind block)) regular ∙ ap (λ (y : Bool). kind_by a y (kind == map_kind block)) unstarted ∙ ap (λ (z : Bool). kind_by a b z) map

pub is_map_kind : (block kind : ℕ) → kind ≢ REGULAR → kind ≢ UNSTARTED → kind ≡ map_kind block → kind_at block kind ≡ Mapping
is_map_kind block kind regular unstarted is =
    by_tests block kind false false true (ne_eqb kind REGULAR regular) (ne_eqb kind UNSTARTED unstarted) (eq-eqb kind (map_kind block) is)

pub is_other_kind : (block kind : ℕ) → kind ≢ REGULAR → kind ≢ UNSTARTED → kind ≢ map_kind block → kind_at block kind ≡ Emptying
is_other_kind block kind regular unstarted map =
    by_tests block kind false false false (ne_eqb kind REGULAR regular) (ne_eqb kind UNSTARTED unstarted) (ne_eqb kind (map_kind block) map)

abbrev Takes : PageKind → Type 0
Takes Regular = Unit {0}
Takes Emptying = Unit {0}
Takes kind = ⊥

takes : (pages : Pages) (p : ℕ) → IsForTuples pages p → Takes (pages.kind p)
takes pages p is = elim is [
  | inl regular ↦ subst Takes (sym regular) tt
  | inr emptying ↦ subst Takes (sym emptying) tt
]

pub map_has_none : (pages : Pages) (p : ℕ) → pages.kind p ≡ Mapping → IsForTuples pages p → ⊥
map_has_none pages p is has = subst Takes is (takes pages p has)

pub unstarted_has_none : (pages : Pages) (p : ℕ) → pages.kind p ≡ Unstarted → IsForTuples pages p → ⊥
unstarted_has_none pages p is has = subst Takes is (takes pages p has)

-- of the pages up to this one none has tuples
pub one_more : (pages : Pages) (from block : ℕ) → pages.kind block ≡ Mapping → ((p : ℕ) → from ≤ p → p < block → IsForTuples pages p → ⊥) → (p : ℕ) → from ≤ p → p < block + 1 → IsForTuples pages p → ⊥
one_more pages from block is none p low below has = elim (cases_eq p block) [
  | inl same ↦ map_has_none pages p (ap pages.kind same ∙ is) has
  | inr other ↦ none p low (omega (arith, below, other)) has
]

-- the kind of a page of an index
pub kind_found : (layout : DiskLayout) (pages : PageMap) (index relation block : ℕ) (page : List ℕ) (kind : Found) → relation ≡ relation_of layout index → page ≡ page_at pages (record { relation = relation; block = block })
    → IsKindOf (kind_at block (slice_index page 0)) kind → IsKindOf ((contents layout pages index).pages.kind block) kind
unfolding contents
kind_found layout pages index relation block page kind at is found =
    subst (λ (r : ℕ). IsKindOf (kind_at block (slice_index (block_at pages r block) 0)) kind) at (subst (λ (p : List ℕ). IsKindOf (kind_at block (slice_index p 0)) kind) is found)

pub limit_is : (layout : DiskLayout) (pages : PageMap) (index : ℕ) → (contents layout pages index).pages.limit ≡ layout.sizes.index_blocks
unfolding contents
limit_is layout pages index = refl

-- the next page in the index at a place of a list, or behind it
pub next_here : (layout : DiskLayout) (pages : PageMap) (indexes : List ℕ) (place start block index : ℕ) → drop place indexes ≡ index ∷ drop (place + 1) indexes → IsNextOf (contents layout pages index).pages start (Some block)
    → IsNextIn layout pages (drop place indexes) place start (Some (place, block))
next_here layout pages indexes place start block index is first =
    subst (λ (l : List ℕ). IsNextIn layout pages l place start (Some (place, block))) (sym is) (InThisIndex index place start block (drop (place + 1) indexes) first)

pub next_behind : (layout : DiskLayout) (pages : PageMap) (indexes : List ℕ) (place start index : ℕ) (next : Option (ℕ × ℕ)) → drop place indexes ≡ index ∷ drop (place + 1) indexes → IsNextOf (contents layout pages index).pages start None
    → IsNextIn layout pages (drop (place + 1) indexes) (place + 1) 0 next → IsNextIn layout pages (drop place indexes) place start next
next_behind layout pages indexes place start index next is none later =
    subst (λ (l : List ℕ). IsNextIn layout pages l place start next) (sym is) (InALaterOne index place start (drop (place + 1) indexes) next none later)

pub next_none : (layout : DiskLayout) (pages : PageMap) (indexes : List ℕ) (place start : ℕ) → drop place indexes ≡ [] → IsNextIn layout pages (drop place indexes) place start None
next_none layout pages indexes place start none = subst (λ (l : List ℕ). IsNextIn layout pages l place start None) (sym none) (NoIndexLeft place start)
