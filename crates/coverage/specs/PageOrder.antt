-- The order in which an index's pages stand, and what each running statement knows of pages and locks between its steps.
use Rattle.std.specs.Prelude.{◌≡◌, ◌≢◌, ◌⊎◌, ℕ, ◌*◌, ◌≤◌, ◌<◌, Option, Some, [], ◌∷◌}
use Rattle.block_model.specs.declared.place.Spot.{Spot}
use Rattle.coverage.specs.IndexView.{IndexTuple, Progress, ExtentUnread, Passing, Unstarted, Mapping, Regular, Emptying, Pages, IndexView}
use Rattle.coverage.specs.IndexView.{map_page_of, next_map_page, IsPastMap, range_of_block, NamesPlaceholder}
use Rattle.coverage.specs.Statements.{OnIndex, Empty, Held, Copied, Moving, Dropping, Phase, NotBuilding, Vacant, Growing, Evacuating, Placing, IsAt, Statement}
use Rattle.coverage.specs.Statements.{Idle, Inserting, Maintaining, Holding, Scanning}
use Rattle.coverage.specs.Knowing.{LocksThese}

-- a page with tuples, whether it is being emptied or not
abbrev pub IsForTuples : Pages → ℕ → Type 0
IsForTuples pages p = (pages.kind p ≡ Regular) ⊎ (pages.kind p ≡ Emptying)

-- Block 0 and the counted map pages come first; of the others the next one alone may be a map page, left over from a growth.
pub record AreOrdered (w : IndexView) : Type 0 where
  pub counted : 0 < w.pages.map_pages
  pub map : (p : ℕ) → p ≤ w.pages.map_pages → w.pages.kind p ≡ Mapping
  pub left_over : (p : ℕ) → w.pages.kind p ≡ Mapping → p ≤ next_map_page w.pages
  -- the started pages are the first ones, below the limit
  pub started : (p q : ℕ) → p < q → w.pages.kind p ≡ Unstarted → w.pages.kind q ≡ Unstarted
  pub below : (p : ℕ) → w.pages.kind p ≢ Unstarted → p < w.pages.limit
  -- tuples stand on pages for tuples, and entries on counted pages
  pub tuples : (x : Spot) (t : IndexTuple) → w.tuple x ≡ Some t → IsForTuples w.pages x.block
  pub entries : (range : ℕ) (x : Spot) → w.entry range ≡ Some x → map_page_of range ≤ w.pages.map_pages

-- a new index has block 0 and one map page
pub record AreNewPages (pages : Pages) : Type 0 where
  pub one : pages.map_pages ≡ 1
  pub map : (p : ℕ) → p < 2 → pages.kind p ≡ Mapping
  pub rest : (p : ℕ) → 2 ≤ p → pages.kind p ≡ Unstarted
  pub below : 1 < pages.limit

-- a tuple of the range at this place is a placeholder exactly where the one that the map names is
abbrev pub HasNamedSort : IndexView → ℕ → Spot → Type 0
HasNamedSort w range x = (t : IndexTuple) → w.tuple x ≡ Some t → t.range ≡ range
    → (y : Spot) × (u : IndexTuple) × (w.entry range ≡ Some y) × (w.tuple y ≡ Some u) × (u.placeholder ≡ t.placeholder)

-- A move locks the pages of both tuples and the map's page, a clear those of its tuple and of the map, and no others; what else a
-- statement has on an index is under no lock.
abbrev pub LocksOnIndex : (ℕ → Option ℕ) → ℕ → ℕ → OnIndex → Type 0
LocksOnIndex lock s range Empty = Unit
LocksOnIndex lock s range (Held x) = Unit
LocksOnIndex lock s range (Copied x old new) = Unit
LocksOnIndex lock s range (Moving x y old new) = LocksThese lock s (x.block ∷ y.block ∷ map_page_of range ∷ [])
LocksOnIndex lock s range (Dropping x) = (p : ℕ) × LocksThese lock s (x.block ∷ p ∷ map_page_of range ∷ [])

-- what the holder of the summarise lock knows of the tuple at the place that it read
abbrev pub KnowsSort : IndexView → ℕ → OnIndex → Type 0
KnowsSort w range Empty = Unit
KnowsSort w range (Held x) = HasNamedSort w range x
KnowsSort w range (Copied x old new) = Unit
KnowsSort w range (Moving x y old new) = Unit
KnowsSort w range (Dropping x) = Unit

-- the extent lies in the table, and the blocks that are passed lie below the extent
abbrev pub IsPassWithin : IndexView → ℕ → Progress → Type 0
IsPassWithin w range ExtentUnread = Unit
IsPassWithin w range (Passing extent next result) = (extent ≤ w.blocks) × ((next ≤ extent) ⊎ (next ≡ range * w.pages_per_range))

-- a tuple of another range is moved from its put to its drop
abbrev pub IsMove : OnIndex → Type 0
IsMove (Moving x y old new) = Unit
IsMove (Dropping x) = Unit
IsMove on_index = ⊥

-- the placeholder is read again where all blocks are passed, and the session no longer builds once the map names the final tuple
abbrev pub IsTurnToUnite : Progress → OnIndex → Type 0
IsTurnToUnite p Empty = Unit
IsTurnToUnite ExtentUnread on_index = ⊥
IsTurnToUnite (Passing extent next result) (Dropping x) = ⊥
IsTurnToUnite (Passing extent next result) on_index = extent ≤ next

-- What a maintenance statement knows: the page that the map grew by is started and locked with block 0; the entry of a placeholder
-- that is put has its map page; the range that is built has a placeholder.
abbrev pub KnowsPagesOfPhase : IndexView → ℕ → ℕ → Phase → Type 0
KnowsPagesOfPhase w s range (NotBuilding on_index) = LocksOnIndex w.lock s range on_index × KnowsSort w range on_index
KnowsPagesOfPhase w s range Vacant = Unit
KnowsPagesOfPhase w s range Growing = (w.pages.kind (next_map_page w.pages) ≡ Mapping) × LocksThese w.lock s (next_map_page w.pages ∷ 0 ∷ [])
KnowsPagesOfPhase w s range (Evacuating m on_index) = LocksOnIndex w.lock s m on_index × IsMove on_index
KnowsPagesOfPhase w s range (Placing x) = (IsPastMap w.pages range → ⊥) × LocksThese w.lock s (x.block ∷ map_page_of range ∷ [])
KnowsPagesOfPhase w s range (IsAt p on_index) = LocksOnIndex w.lock s range on_index × NamesPlaceholder w range × IsPassWithin w range p
    × IsTurnToUnite p on_index

abbrev pub KnowsPages : IndexView → ℕ → Statement → Type 0
KnowsPages w s Idle = Unit
KnowsPages w s (Inserting b k r on_index) = LocksOnIndex w.lock s (range_of_block w b) on_index
KnowsPages w s (Maintaining range phase) = KnowsPagesOfPhase w s range phase
KnowsPages w s Holding = Unit
KnowsPages w s (Scanning scan) = Unit
