-- which page with tuples comes next
use Rattle.std.specs.Prelude.{◌≡◌, ◌⊎◌, ℕ, ◌+◌, ◌<◌, ◌≤◌, List, [], ◌∷◌, Option, None, Some}
use Rattle.store_layout.specs.DiskLayout.{DiskLayout}
use Rattle.page_map.specs.PageMap.{PageMap}
use Rattle.page_map.specs.declared.faults.StoreError.{StoreError}
use Rattle.coverage.specs.IndexView.{Emptying, Mapping, PageKind as Kind, Pages, Regular, Unstarted}
use Rattle.coverage.specs.PageOrder.{IsForTuples}
use Rattle.coverage.specs.TableSteps.{IsFrom}
use Rattle.index_contents.specs.IndexContents.{contents}
use Rattle.index_steps.specs.Readings.{NamesPageOf}
use Rattle.vacuum_core.specs.declared.next_page.PageKind.{PageKind}
use Rattle.vacuum_core.specs.declared.next_page.PageKind.TheVariants as kinds

-- the lowest page with tuples from this one on
pub record IsFirstFrom (pages : Pages) (from page : ℕ) : Type 0 where
  pub behind : from ≤ page
  pub is : IsForTuples pages page
  pub first : (p : ℕ) → from ≤ p → p < page → IsForTuples pages p → ⊥

-- from this one on no page has tuples up to one that isn't started, or up to the last one
pub record HasNoneFrom (pages : Pages) (from : ℕ) : Type 0 where
  pub end : ℕ
  pub none : (p : ℕ) → from ≤ p → p < end → IsForTuples pages p → ⊥
  pub ends : (pages.kind end ≡ Unstarted) ⊎ (pages.limit ≤ end)

-- the next page with tuples, or none, of one index
abbrev pub IsNextOf : Pages → (from : ℕ) → Option ℕ → Type 0
IsNextOf pages from (Some page) = IsFirstFrom pages from page
IsNextOf pages from None = HasNoneFrom pages from

-- Of these indexes, from this page of the first one on, whose place is that: the place of the next one with such a page, and the page.
pub data IsNextIn (layout : DiskLayout) (stored : PageMap) : List ℕ → (at from : ℕ) → Option (ℕ × ℕ) → Type 0 where
  NoIndexLeft : (at from : ℕ) → IsNextIn layout stored [] at from None
  InThisIndex : (index at from page : ℕ) (indexes : List ℕ) → IsFirstFrom (contents layout stored index).pages from page → IsNextIn layout stored (index ∷ indexes) at from (Some (at, page))
  InALaterOne : (index at from : ℕ) (indexes : List ℕ) (next : Option (ℕ × ℕ)) → HasNoneFrom (contents layout stored index).pages from → IsNextIn layout stored indexes (at + 1) 0 next
      → IsNextIn layout stored (index ∷ indexes) at from next

-- the page is one that an index among so many may have, from that place on; in the one at that place it is not before that block
abbrev pub IsWithin : DiskLayout → (count at from : ℕ) → ℕ × ℕ → Type 0
IsWithin layout count at from (m, page) = (m < count) × (page < layout.sizes.index_blocks) × IsFrom at from m page

-- the kind of a page by what it was found to be
abbrev pub IsKindOf : Kind → PageKind → Type 0
IsKindOf kind kinds.Unstarted = kind ≡ Unstarted
IsKindOf kind kinds.Map = kind ≡ Mapping
IsKindOf kind kinds.Tuples = (kind ≡ Regular) ⊎ (kind ≡ Emptying)

-- damage is told by the byte at which a page of some index begins
abbrev pub NamesPageOfSome : DiskLayout → StoreError → Type 0
NamesPageOfSome layout error = (index : ℕ) × NamesPageOf layout index error
