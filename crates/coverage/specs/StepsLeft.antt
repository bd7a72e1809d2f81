-- How many steps a statement takes at most from where it is, while no other session steps.
use Rattle.std.specs.Prelude.{◌≡◌, ◌≢◌, ◌⊎◌, ℕ, zero, suc, ◌+◌, ◌-◌, ◌*◌, ◌/◌, ◌≤◌, Bool, true, false, Option, None, Some, List, [], ◌∷◌, length}
use Rattle.block_model.specs.declared.row.RowId.{RowId}
use Rattle.block_model.specs.declared.place.Spot.{Spot}
use Rattle.coverage.specs.IndexView.{Passing}
use Rattle.coverage.specs.Statements.{Empty, Held, Phase, NotBuilding, IsAt}
use Rattle.coverage.specs.RowOrder.{AreInOrder}
use Rattle.coverage.specs.Table.{Job, EachRange, OneRange, WholeRanges, TableScan, Task, Prunes, Sweeps, TableState}
use Rattle.coverage.specs.TableCovered.{AreToMark}

-- the sum over the numbers below this one
abbrev pub sum_below : ℕ → (ℕ → ℕ) → ℕ
sum_below zero f = 0
sum_below (suc n) f = sum_below n f + f n

-- so many ranges of an index begin below an extent
abbrev pub ranges_below : TableState → (extent at : ℕ) → ℕ
ranges_below w extent at = (extent + (w.index at).pages_per_range - 1) / (w.index at).pages_per_range

-- so many ranges of an index end below an extent, or at it
abbrev pub whole_ranges : TableState → (extent at : ℕ) → ℕ
whole_ranges w extent at = extent / (w.index at).pages_per_range

-- the ranges that a scan has still to judge, of all indexes
abbrev pub unjudged_ranges : TableState → TableScan → ℕ
unjudged_ranges w scan = sum_below w.indexes (ranges_below w scan.extent) - (sum_below scan.at (ranges_below w scan.extent) + scan.range)

-- no tuple of the range may stand any more at a place that is held
abbrev pub held_steps : Option Spot → ℕ
held_steps None = 0
held_steps (Some x) = 1

-- an explain reads no block
abbrev pub unread_blocks : (explains : Bool) → (extent read : ℕ) → ℕ
unread_blocks true extent read = 0
unread_blocks false extent read = extent - read

-- two for each range, one for each block
abbrev pub scan_steps : TableState → TableScan → ℕ
scan_steps w scan = held_steps scan.held + 2 * unjudged_ranges w scan + unread_blocks scan.explains scan.extent scan.read

-- A delete has no more rows to mark than so many: each list of rows that match and that its session sees is as short. Any other scan has none.
abbrev pub HasAtMostToMark : TableState → TableScan → (rows : ℕ) → Type 0
HasAtMostToMark w scan rows = scan.explains ≡ false → scan.deletes ≡ true → (ids : List RowId) → AreInOrder ids → AreToMark w scan ids → length ids ≤ rows

-- a desummarise reads the map, clears the entry and drops the tuple; or it reads the map once more before that
abbrev pub desummarise_steps : Phase → ℕ
desummarise_steps (NotBuilding Empty) = 3
desummarise_steps (NotBuilding (Held x)) = 4
desummarise_steps phase = 1

-- a vacuum that prunes or sweeps, and isn't before its first index yet
abbrev pub IsCleaning : Task → Type 0
IsCleaning (Prunes extent next) = Unit
IsCleaning (Sweeps at page) = Unit
IsCleaning task = ⊥

-- how many pages an index may have
abbrev pub page_limit : TableState → (at : ℕ) → ℕ
page_limit w at = (w.index at).pages.limit

-- one for each block of the heap, and one for each page that each index may have
abbrev pub cleaning_steps : TableState → Task → ℕ
cleaning_steps w (Prunes extent next) = (extent - next) + sum_below w.indexes (page_limit w)
cleaning_steps w (Sweeps at page) = (sum_below w.indexes (page_limit w) - sum_below (suc at) (page_limit w)) + (page_limit w at - page)
cleaning_steps w task = 0

abbrev pub IsIn : {A : Type 0} → List A → A → Type 0
IsIn [] x = ⊥
IsIn (y ∷ more) x = (x ≡ y) ⊎ IsIn more x

abbrev pub AreApart : {A : Type 0} → List A → Type 0
AreApart [] = Unit
AreApart (x ∷ more) = (IsIn more x → ⊥) × AreApart more

-- no more than so many places are so: each list of such places, apart from each other, is as short
abbrev pub AreAtMost : (Spot → Type 0) → (count : ℕ) → Type 0
AreAtMost Is count = (xs : List Spot) → AreApart xs → ((x : Spot) → IsIn xs x → Is x) → length xs ≤ count

-- no more than so many tuples stand in an index
abbrev pub HasAtMostTuples : TableState → (at tuples : ℕ) → Type 0
HasAtMostTuples w at tuples = AreAtMost (λ x. (w.index at).tuple x ≢ None) tuples

-- a summarise, of the table or of one range, also where work took it from the queue
abbrev pub IsSummarise : Job → Type 0
IsSummarise (EachRange extent) = Unit
IsSummarise (OneRange extent only) = Unit
IsSummarise job = ⊥

-- the ranges that it goes over behind this one
abbrev pub later_ranges : TableState → Job → (at range : ℕ) → ℕ
later_ranges w (EachRange extent) at range = ranges_below w extent at - suc range
later_ranges w (WholeRanges extent) at range = whole_ranges w extent at - suc range
later_ranges w job at range = 0

-- what it takes at most for its range, but for growth of the map: one for each block, and ten
abbrev pub range_steps : (per : ℕ) → Phase → ℕ
range_steps per (IsAt (Passing extent next result) on_index) = (extent - next) + 6
range_steps per phase = per + 10

-- The same for each range behind it, and for each page by which the map may grow three steps a tuple, of those that there are and of one for
-- each range, and three more.
abbrev pub summarise_steps : TableState → Job → (at range : ℕ) → Phase → (tuples : ℕ) → ℕ
summarise_steps w job at range phase tuples = range_steps (w.index at).pages_per_range phase
    + ((w.index at).pages.limit - (w.index at).pages.map_pages) * (3 * (tuples + suc (later_ranges w job at range)) + 3)
    + later_ranges w job at range * ((w.index at).pages_per_range + 9)

-- What a vacuum takes at most in an index that it comes to: one step to begin; for each whole range one for each block and nine; and for the
-- growth of the map what a summarise takes for it.
abbrev pub index_steps : TableState → (tuples : ℕ → ℕ) → (at : ℕ) → ℕ
index_steps w tuples at = 1 + whole_ranges w w.blocks at * ((w.index at).pages_per_range + 9)
    + ((w.index at).pages.limit - (w.index at).pages.map_pages) * (3 * (tuples at + whole_ranges w w.blocks at) + 3)

-- the same for each index from this one on
abbrev pub vacuum_steps : TableState → (at : ℕ) → (tuples : ℕ → ℕ) → ℕ
vacuum_steps w at tuples = sum_below w.indexes (index_steps w tuples) - sum_below at (index_steps w tuples)
