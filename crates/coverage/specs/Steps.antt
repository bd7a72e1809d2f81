-- The steps of the statements, each by what it does to the index and to its own state, and where it comes.
use Rattle.std.specs.Prelude.{◌≡◌, ◌≢◌, ◌⊎◌, ℕ, ◌+◌, ◌*◌, ◌≤◌, ◌<◌, min, Bool, true, false, IsTrue, Option, None, Some, List, [], ◌∷◌, length}
use Rattle.block_model.specs.declared.row.Row.{Row}
use Rattle.block_model.specs.declared.place.Spot.{Spot}
use Rattle.coverage.specs.IndexView.{IndexTuple, Progress, ExtentUnread, Passing, PageKind, Unstarted, Mapping, Regular, Emptying, Pages, IndexView, placeholder_length}
use Rattle.coverage.specs.IndexView.{range_of_block, map_page_of, next_map_page, IsPastMap, IsRangeOf}
use Rattle.coverage.specs.Changes.{ChangesAt, BecomesAt, SameHeap, SameMap, SameTuples, SameUnnamed, TouchesNothing, TouchesRows, TouchesEntries, TouchesTuples}
use Rattle.coverage.specs.Changes.{TouchesUnnamed, TouchesSummariseLock, Frame, RowComes, RowsGo, IsFree, IsUntouched}
use Rattle.coverage.specs.Verdicts.{IsLocked, IsLowestNumber, IsPageUnstarted, Differs, Fits, Puts, PutVerdict, SwapVerdict, ClearVerdict}
use Rattle.coverage.specs.Waiting.{Grows, IsNextTuple, IsPhaseFull, IsInsertEnded}
use Rattle.coverage.specs.Statements.{OnIndex, Empty, Held, Copied, Moving, Dropping, Phase, NotBuilding, Vacant, Growing, Evacuating, Placing, IsAt, Scan}
use Rattle.coverage.specs.Statements.{Statement, Idle, Inserting, Maintaining, Holding, Scanning, rows_added, HasNoMoreRows}
use Rattle.coverage.specs.Knowing.{LocksNone, LocksThese, Spares}
use Rattle.coverage.specs.IsCovered.{IndexState, index_view, IsAtRest}

-- rows, entries, tuples and pages stay as they are, and the session locks no page
pub record ReadsIndex (s : ℕ) (w v : IndexView) : Type 0 where
  pub frame : Frame s TouchesNothing w v
  pub pages : v.pages ≡ w.pages
  pub none : LocksNone v.lock s

-- one page is of this kind afterwards; the kinds of the others stay
pub record TurnsPage (old new : Pages) (page : ℕ) (kind : PageKind) : Type 0 where
  pub now : new.kind page ≡ kind
  pub kinds : (p : ℕ) → (p ≡ page) ⊎ (new.kind p ≡ old.kind p)
  pub map_pages : new.map_pages ≡ old.map_pages
  pub limit : new.limit ≡ old.limit

-- a tuple is put at a free place of a page that no other locks
pub record PutsTuple (s : ℕ) (w v : IndexView) (y : Spot) (t : IndexTuple) : Type 0 where
  pub tuple : ChangesAt w.tuple v.tuple y None (Some t)
  pub free : IsFree w.lock s y.block
  pub page : TurnsPage w.pages v.pages y.block Regular
  pub frame : Frame s TouchesTuples w v

-- the copied tuple still stands there, on a page that no other locks, and the new one takes its place
pub record ReplacesTuple (s : ℕ) (w v : IndexView) (x : Spot) (old new : IndexTuple) : Type 0 where
  pub tuple : ChangesAt w.tuple v.tuple x (Some old) (Some new)
  pub free : IsFree w.lock s x.block
  pub page : TurnsPage w.pages v.pages x.block Regular
  pub frame : Frame s TouchesTuples w v
  pub none : LocksNone v.lock s

-- the range's entry becomes this place
pub record SetsEntry (s : ℕ) (w v : IndexView) (range : ℕ) (x : Spot) : Type 0 where
  pub entry : BecomesAt w.entry v.entry range (Some x)
  pub pages : v.pages ≡ w.pages
  pub frame : Frame s TouchesEntries w v

pub record SameLocks (old new : ℕ → Option ℕ) : Type 0 where
  pub lock : (p : ℕ) → new p ≡ old p

-- the entry goes where it still names the place, on a page that no other locks
pub record ClearsEntry (s : ℕ) (w v : IndexView) (range : ℕ) (x : Spot) : Type 0 where
  pub entry : ChangesAt w.entry v.entry range (Some x) None
  pub free : IsFree w.lock s x.block
  pub pages : v.pages ≡ w.pages
  pub frame : Frame s TouchesEntries w v

-- the tuple at the place goes, and the session gives its locks
pub record DropsTuple (s : ℕ) (w v : IndexView) (x : Spot) : Type 0 where
  pub tuple : BecomesAt w.tuple v.tuple x None
  pub page : TurnsPage w.pages v.pages x.block (w.pages.kind x.block)
  pub frame : Frame s TouchesTuples w v
  pub none : LocksNone v.lock s

-- a tuple stands there that the map doesn't name for its range
abbrev pub IsUnnamed : IndexView → Spot → Type 0
IsUnnamed w x = (t : IndexTuple) × (w.tuple x ≡ Some t) × (w.entry t.range ≢ Some x)

abbrev pub IsVacated : IndexView → Spot → Type 0
IsVacated v x = (v.tuple x ≡ None) × (v.unnamed x ≡ false)

-- tuples of a page that no other locks are judged and dropped at once
pub record SweepsTuples (s : ℕ) (w v : IndexView) (p : ℕ) (Sweeping : Spot → Type 0) : Type 0 where
  pub free : IsFree w.lock s p
  pub gone : (x : Spot) → Sweeping x → IsVacated v x
  pub places : (x : Spot) → IsUntouched w v x ⊎ ((x.block ≡ p) × Sweeping x)
  pub page : TurnsPage w.pages v.pages p (w.pages.kind p)
  pub frame : Frame s TouchesUnnamed w v
  pub none : LocksNone v.lock s

-- no tuple of the range stands there
abbrev pub IsGone : IndexView → ℕ → Spot → Type 0
IsGone w range x = (t : IndexTuple) → w.tuple x ≡ Some t → t.range ≢ range

abbrev pub Stands : IndexView → ℕ → Spot → IndexTuple → Type 0
Stands w range x t = (w.tuple x ≡ Some t) × (t.range ≡ range)

-- One step towards a new tuple in the old one's place: the map names a place; no tuple of the range is there, and the map is
-- read again; so it is where the copied tuple doesn't stand there any more; a move puts the new one.
pub data OnIndexStep (s range : ℕ) (w v : IndexView) : OnIndex → OnIndex → Type 0 where
  Maps : (x : Spot) → w.entry range ≡ Some x → ReadsIndex s w v → OnIndexStep s range w v Empty (Held x)
  Gone : (x : Spot) → IsGone w range x → ReadsIndex s w v → OnIndexStep s range w v (Held x) Empty
  Again : (x : Spot) (old new : IndexTuple) → SwapVerdict w s range x old new Differs → ReadsIndex s w v
      → OnIndexStep s range w v (Copied x old new) Empty
  MovePut : (x y : Spot) (old new : IndexTuple) → SwapVerdict w s range x old new (Puts y) → PutsTuple s w v y new
      → LocksThese v.lock s (x.block ∷ y.block ∷ map_page_of range ∷ []) → OnIndexStep s range w v (Copied x old new) (Moving x y old new)

-- One step of an insert in this index, with what it is at afterwards; where it is idle, the index is complete.
pub data InsertStep (s b k : ℕ) (r : Row) (w v : IndexView) : OnIndex → Statement → Type 0 where
  InsertOnIndex : (old new : OnIndex) → OnIndexStep s (range_of_block w b) w v old new → InsertStep s b k r w v old (Inserting b k r new)
  InsertNoEntry : w.entry (range_of_block w b) ≡ None → ReadsIndex s w v → InsertStep s b k r w v Empty Idle
  -- the tuple is copied, and with the row it changes, or another session locks its page
  InsertCopies : (x : Spot) (old new : IndexTuple) → Stands w (range_of_block w b) x old → new ≡ w.contents.added r old
      → (new ≢ old) ⊎ IsLocked w.lock s x.block
      → ReadsIndex s w v
      → InsertStep s b k r w v (Held x) (Inserting b k r (Copied x old new))
  -- the row changes nothing in it, and no other session locks its page
  InsertUnchanged : (x : Spot) (t : IndexTuple) → Stands w (range_of_block w b) x t → t ≡ w.contents.added r t → IsFree w.lock s x.block → ReadsIndex s w v
      → InsertStep s b k r w v (Held x) Idle
  InsertSwap : (x : Spot) (old new : IndexTuple) → SwapVerdict w s (range_of_block w b) x old new Fits → ReplacesTuple s w v x old new
      → InsertStep s b k r w v (Copied x old new) Idle
  InsertSet : (x y : Spot) (old new : IndexTuple) → SetsEntry s w v (range_of_block w b) y → SameLocks w.lock v.lock
      → InsertStep s b k r w v (Moving x y old new) (Inserting b k r (Dropping x))
  InsertDrop : (x : Spot) → DropsTuple s w v x → InsertStep s b k r w v (Dropping x) Idle

-- A page of the map's growth becomes of another kind, and the session locks these pages.
pub record TurnsKind (s : ℕ) (w v : IndexView) (kind : PageKind) (these : List ℕ) : Type 0 where
  pub frame : Frame s TouchesNothing w v
  pub page : TurnsPage w.pages v.pages (next_map_page w.pages) kind
  pub locks : LocksThese v.lock s these

-- the page is counted as one of the map
pub record CountsPage (s : ℕ) (w v : IndexView) : Type 0 where
  pub frame : Frame s TouchesNothing w v
  pub pages : v.pages ≡ record w.pages { map_pages = next_map_page w.pages }
  pub none : LocksNone v.lock s

-- One step of the map's growth, onto the page after its last one.
pub data GrowthStep (s range : ℕ) (w v : IndexView) : Phase → Phase → Type 0 where
  Grow : Grows w.pages range Unstarted → IsFree w.lock s (next_map_page w.pages) → IsFree w.lock s 0 → TurnsKind s w v Mapping (next_map_page w.pages ∷ 0 ∷ [])
      → GrowthStep s range w v Vacant Growing
  -- a page left over from a growth that was cut off
  CountLeftOver : Grows w.pages range Mapping → IsFree w.lock s 0 → CountsPage s w v → GrowthStep s range w v Vacant Vacant
  Count : CountsPage s w v → GrowthStep s range w v Growing Vacant
  -- a page with tuples is flagged; each of them that is named moves unchanged, the others are dropped; then it is turned
  Flag : Grows w.pages range Regular → IsFree w.lock s (next_map_page w.pages) → TurnsKind s w v Emptying [] → GrowthStep s range w v Vacant Vacant
  EvacuatePut : (x y : Spot) (t : IndexTuple) → Grows w.pages range Emptying → IsNextTuple w.tuple (next_map_page w.pages) x t → w.entry t.range ≡ Some x
      → IsFree w.lock s x.block
      → PutVerdict w s t.range (length t.bytes) (Puts y) → PutsTuple s w v y t → LocksThese v.lock s (x.block ∷ y.block ∷ map_page_of t.range ∷ [])
      → GrowthStep s range w v Vacant (Evacuating t.range (Moving x y t t))
  EvacuateSet : (m : ℕ) (x y : Spot) (t u : IndexTuple) → SetsEntry s w v m y → SameLocks w.lock v.lock
      → GrowthStep s range w v (Evacuating m (Moving x y t u)) (Evacuating m (Dropping x))
  EvacuateDrop : (m : ℕ) (x : Spot) → DropsTuple s w v x → GrowthStep s range w v (Evacuating m (Dropping x)) Vacant
  EvacuateSweep : (x : Spot) (t : IndexTuple) → Grows w.pages range Emptying → IsNextTuple w.tuple (next_map_page w.pages) x t → IsUnnamed w x
      → SweepsTuples s w v (next_map_page w.pages) (λ y. y ≡ x) → GrowthStep s range w v Vacant Vacant
  Turn : Grows w.pages range Emptying → ((x : Spot) (t : IndexTuple) → IsNextTuple w.tuple (next_map_page w.pages) x t → ⊥)
      → IsFree w.lock s (next_map_page w.pages) → IsFree w.lock s 0
      → TurnsKind s w v Mapping (next_map_page w.pages ∷ 0 ∷ []) → GrowthStep s range w v Vacant Growing

-- One step of a summariser on its range, with what it is at afterwards; where it only holds the lock, the range is done.
pub data SummariseStep (s range : ℕ) (w v : IndexView) : Phase → Statement → Type 0 where
  LookMap : (x : Spot) → w.entry range ≡ Some x → ReadsIndex s w v
      → SummariseStep s range w v (NotBuilding Empty) (Maintaining range (NotBuilding (Held x)))
  LookGone : (x : Spot) → IsGone w range x → ReadsIndex s w v → SummariseStep s range w v (NotBuilding (Held x)) (Maintaining range (NotBuilding Empty))
  IsFinal : (x : Spot) (t : IndexTuple) → Stands w range x t → t.placeholder ≡ false → ReadsIndex s w v
      → SummariseStep s range w v (NotBuilding (Held x)) Holding
  Found : (x : Spot) (t : IndexTuple) → Stands w range x t → t.placeholder ≡ true → ReadsIndex s w v
      → SummariseStep s range w v (NotBuilding (Held x)) (Maintaining range (IsAt ExtentUnread Empty))
  ReadNoEntry : w.entry range ≡ None → IsRangeOf w range → ReadsIndex s w v → SummariseStep s range w v (NotBuilding Empty) (Maintaining range Vacant)
  GrowMap : (old new : Phase) → GrowthStep s range w v old new → SummariseStep s range w v old (Maintaining range new)
  -- where the map is long enough a placeholder is put, and named
  Put : (x : Spot) (t : IndexTuple) → t ≡ w.contents.empty range → (IsPastMap w.pages range → ⊥)
      → PutVerdict w s range (placeholder_length w range) (Puts x)
      → PutsTuple s w v x t → LocksThese v.lock s (x.block ∷ map_page_of range ∷ []) → SummariseStep s range w v Vacant (Maintaining range (Placing x))
  Set : (x : Spot) → SetsEntry s w v range x → LocksNone v.lock s → SummariseStep s range w v (Placing x) (Maintaining range (IsAt ExtentUnread Empty))
  Extent : (extent : ℕ) (result : IndexTuple) → result ≡ w.contents.empty range → extent ≡ min w.blocks ((range + 1) * w.pages_per_range) → ReadsIndex s w v
      → SummariseStep s range w v (IsAt ExtentUnread Empty) (Maintaining range (IsAt (Passing extent (range * w.pages_per_range) result) Empty))
  -- all rows in use of the next block are added to the result, in order of slot
  Pass : (extent next slots : ℕ) (result wider : IndexTuple) → next < extent → HasNoMoreRows (w.row next) slots
      → wider ≡ rows_added w.contents (w.row next) slots result
      → ReadsIndex s w v
      → SummariseStep s range w v (IsAt (Passing extent next result) Empty) (Maintaining range (IsAt (Passing extent (next + 1) wider) Empty))
  -- all blocks are passed: the placeholder is read, united with the result, and gives way to the final tuple
  Unite : (extent next : ℕ) (result : IndexTuple) (old new : OnIndex) → extent ≤ next → OnIndexStep s range w v old new
      → SummariseStep s range w v (IsAt (Passing extent next result) old) (Maintaining range (IsAt (Passing extent next result) new))
  UniteCopies : (extent next : ℕ) (result : IndexTuple) (x : Spot) (old new : IndexTuple) → extent ≤ next → Stands w range x old → new ≡ w.contents.united old result
      → ReadsIndex s w v
      → SummariseStep s range w v (IsAt (Passing extent next result) (Held x)) (Maintaining range (IsAt (Passing extent next result) (Copied x old new)))
  SwapFinal : (p : Progress) (x : Spot) (old new : IndexTuple) → SwapVerdict w s range x old new Fits → ReplacesTuple s w v x old new
      → SummariseStep s range w v (IsAt p (Copied x old new)) Holding
  SetFinal : (p : Progress) (x y : Spot) (old new : IndexTuple) → SetsEntry s w v range y → SameLocks w.lock v.lock
      → SummariseStep s range w v (IsAt p (Moving x y old new)) (Maintaining range (NotBuilding (Dropping x)))
  DropOld : (x : Spot) → DropsTuple s w v x → SummariseStep s range w v (NotBuilding (Dropping x)) Holding

-- One step of a desummarise on its range.
pub data DesummariseStep (s range : ℕ) (w v : IndexView) : Phase → Statement → Type 0 where
  ClearMap : (x : Spot) → w.entry range ≡ Some x → ReadsIndex s w v
      → DesummariseStep s range w v (NotBuilding Empty) (Maintaining range (NotBuilding (Held x)))
  ClearNone : w.entry range ≡ None → ReadsIndex s w v → DesummariseStep s range w v (NotBuilding Empty) Holding
  Clear : (x : Spot) → ClearVerdict w s range x Fits → ClearsEntry s w v range x → LocksThese v.lock s (x.block ∷ map_page_of range ∷ [])
      → DesummariseStep s range w v (NotBuilding (Held x)) (Maintaining range (NotBuilding (Dropping x)))
  -- where the map doesn't name the held place any more, it is read again
  ClearAgain : (x : Spot) → ClearVerdict w s range x Differs → ReadsIndex s w v
      → DesummariseStep s range w v (NotBuilding (Held x)) (Maintaining range (NotBuilding Empty))
  DropCleared : (x : Spot) → DropsTuple s w v x → DesummariseStep s range w v (NotBuilding (Dropping x)) Holding

pub data MaintainStep (s range : ℕ) (w v : IndexView) (old : Phase) (new : Statement) : Type 0 where
  Summarises : SummariseStep s range w v old new → MaintainStep s range w v old new
  Desummarises : DesummariseStep s range w v old new → MaintainStep s range w v old new

-- a tuple that doesn't keep the query is final and includes no row that matches
pub record Excludes (t : IndexTuple) (matches : Row → Bool) : Type 0 where
  pub final : t.placeholder ≡ false
  pub none : (r : Row) → IsTrue (t.includes r) → IsTrue (matches r) → ⊥

-- the tuple at the place that a scan holds for this range excludes the matches
abbrev pub IsRangeExcluded : IndexState → Scan → ℕ → Type 0
IsRangeExcluded w scan range =
    (x : Spot) × (t : IndexTuple) × (scan.held ≡ Some (range, x)) × (w.tuple x ≡ Some t) × (t.range ≡ range) × Excludes t scan.matches

-- One step of a scan.
pub data ScanStep (w : IndexView) (old : Scan) : Scan → Type 0 where
  ScanMap : (range : ℕ) (x : Spot) → old.held ≡ None → w.entry range ≡ Some x → ScanStep w old (record old { held = Some (range, x) })
  -- a range without an entry keeps its blocks
  ScanNoEntry : (range : ℕ) → old.held ≡ None → w.entry range ≡ None → ScanStep w old old
  ScanGone : (range : ℕ) (x : Spot) → old.held ≡ Some (range, x) → IsGone w range x → ScanStep w old (record old { held = None })
  ScanKeeps : (range : ℕ) (x : Spot) (t : IndexTuple) → old.held ≡ Some (range, x) → Stands w range x t → IsTrue (old.keeps t)
      → ScanStep w old (record old { held = None })
  -- the range's blocks are no candidates where its tuple doesn't keep the query
  ScanDrops : (range : ℕ) (x : Spot) (t : IndexTuple) (candidate : ℕ → Bool) → old.held ≡ Some (range, x) → Stands w range x t → old.keeps t ≡ false
      → Excludes t old.matches
      → ((b : ℕ) → ((range_of_block w b ≡ range) × (candidate b ≡ false)) ⊎ ((range_of_block w b ≢ range) × (candidate b ≡ old.candidate b)))
      → ScanStep w old (record old { held = None; candidate = candidate })
  -- another index of the table excludes every match in these blocks
  ScanElsewhere : (candidate : ℕ → Bool)
      → ((b k : ℕ) (r : Row) → w.row b k ≡ Some r → IsTrue (old.sees b k) → IsTrue (old.matches r) → IsTrue (old.candidate b) → IsTrue (candidate b))
      → ScanStep w old (record old { candidate = candidate })
  -- the next candidate block is read, and exactly its visible matches are found
  ScanPage : (next : ℕ) (found : ℕ → ℕ → Bool) → IsTrue (old.candidate next) → old.read ≤ next
      → ((b : ℕ) → IsTrue (old.candidate b) → old.read ≤ b → next ≤ b)
      → ((b k : ℕ) → IsTrue (old.found b k) → IsTrue (found b k))
      → ((k : ℕ) (r : Row) → w.row next k ≡ Some r → IsTrue (old.sees next k) → IsTrue (old.matches r) → IsTrue (found next k))
      → ((b k : ℕ) → IsTrue (found b k) → IsTrue (old.found b k) ⊎
      ((b ≡ next) × ((r : Row) × (w.row b k ≡ Some r) × IsTrue (old.sees b k) × IsTrue (old.matches r))))
      → ScanStep w old (record old { read = next + 1; found = found })

-- the session's statement turns from one into the other
pub record Turned (s : ℕ) (w v : IndexState) (old new : Statement) : Type 0 where
  pub was : w.statement s ≡ old
  pub now : v.statement s ≡ new
  pub others : (n : ℕ) → (n ≡ s) ⊎ (v.statement n ≡ w.statement n)

pub record SameCounts (w v : IndexState) : Type 0 where
  pub counts : (t : ℕ) → v.counts t ≡ w.counts t

-- a row is put, no index page changes, and the session locks none
pub record RowPut (s : ℕ) (w v : IndexView) (b k : ℕ) (r : Row) : Type 0 where
  pub row : RowComes w v b k r
  pub pages : v.pages ≡ w.pages
  pub frame : Frame s TouchesRows w v
  pub none : LocksNone v.lock s

-- rows at these places are dropped, no index page changes, and the session locks none
pub record RowsDropped (s : ℕ) (dropped : ℕ → ℕ → Bool) (w v : IndexView) : Type 0 where
  pub rows : RowsGo dropped w v
  pub pages : v.pages ≡ w.pages
  pub frame : Frame s TouchesRows w v
  pub none : LocksNone v.lock s

-- the summarise lock passes from one to the other, and no page changes
pub record SummariseLockPasses (s : ℕ) (w v : IndexView) (old new : Option ℕ) : Type 0 where
  pub was : w.summarise_lock ≡ old
  pub now : v.summarise_lock ≡ new
  pub pages : v.pages ≡ w.pages
  pub frame : Frame s TouchesSummariseLock w v
  pub none : LocksNone v.lock s

-- what a new scan sees counts, and its insert is done; each match's block is a candidate
abbrev pub ScanBegins : IndexState → Scan → Type 0
ScanBegins w scan = (scan.held ≡ None) × ((b k : ℕ) → IsTrue (scan.sees b k)
    → (r : Row) × (w.row b k ≡ Some r) × IsTrue (w.counts r.id.t) × ((n : ℕ) (on_index : OnIndex) → w.statement n ≢ Inserting b k r on_index)
    × (IsTrue (scan.matches r) → IsTrue (scan.candidate b) × (scan.read ≤ b)))

-- nothing of this index changes
pub record Rests (w v : IndexState) : Type 0 where
  pub contents : v.contents ≡ w.contents
  pub heap : SameHeap (index_view w) (index_view v)
  pub map : SameMap (index_view w) (index_view v)
  pub tuples : SameTuples (index_view w) (index_view v)
  pub unnamed_tuples : SameUnnamed (index_view w) (index_view v)
  pub pages : v.pages ≡ w.pages
  pub lock : (p : ℕ) → v.lock p ≡ w.lock p
  pub summarise_lock : v.summarise_lock ≡ w.summarise_lock
  pub statement : (n : ℕ) → v.statement n ≡ w.statement n
  pub counts : SameCounts w v

-- One step of session s.
pub data Step (s : ℕ) (w v : IndexState) : Type 0 where
  -- an insert puts its row, and has the index before it
  PutRow : (b k : ℕ) (r : Row) → Turned s w v Idle (Inserting b k r Empty) → RowPut s (index_view w) (index_view v) b k r → SameCounts w v → Step s w v
  Insert : (b k : ℕ) (r : Row) (on_index : OnIndex) (new : Statement) → Turned s w v (Inserting b k r on_index) new
      → InsertStep s b k r (index_view w) (index_view v) on_index new → SameCounts w v → Step s w v
  -- an insert is refused, since no page is left, and its transaction has failed
  Refused : (b k : ℕ) (r : Row) (on_index : OnIndex) → IsInsertEnded (index_view w) s b on_index → Turned s w v (Inserting b k r on_index) Idle
      → ReadsIndex s (index_view w) (index_view v)
      → v.counts r.id.t ≡ false → ((t : ℕ) → IsTrue (v.counts t) → IsTrue (w.counts t)) → Step s w v
  TakeSummariseLock : Turned s w v Idle Holding → SummariseLockPasses s (index_view w) (index_view v) None (Some s) → SameCounts w v → Step s w v
  BeginRange : (range : ℕ) → Turned s w v Holding (Maintaining range (NotBuilding Empty)) → ReadsIndex s (index_view w) (index_view v) → SameCounts w v
      → Step s w v
  Maintain : (range : ℕ) (old : Phase) (new : Statement) → Turned s w v (Maintaining range old) new
      → MaintainStep s range (index_view w) (index_view v) old new → SameCounts w v → Step s w v
  -- vacuum drops rows that no other statement sees or has put
  Prune : (dropped : ℕ → ℕ → Bool) → ((n : ℕ) → n ≢ s → Spares dropped (w.statement n))
      → Turned s w v Holding Holding → RowsDropped s dropped (index_view w) (index_view v) → SameCounts w v → Step s w v
  -- vacuum drops the tuples of a page that the map doesn't name
  Sweep : (page : ℕ) → Turned s w v Holding Holding → SweepsTuples s (index_view w) (index_view v) page (λ x. (x.block ≡ page) × IsUnnamed (index_view w) x)
      → SameCounts w v → Step s w v
  -- the reply
  GiveSummariseLock : Turned s w v Holding Idle → SummariseLockPasses s (index_view w) (index_view v) (Some s) None → SameCounts w v → Step s w v
  -- a refusal, since no page is left: what was being built stays a placeholder
  Abandon : (range number : ℕ) (phase : Phase) → IsPhaseFull (index_view w) s range phase number → Turned s w v (Maintaining range phase) Idle
      → SummariseLockPasses s (index_view w) (index_view v) (Some s) None → SameCounts w v → Step s w v
  BeginScan : (scan : Scan) → ScanBegins w scan → Turned s w v Idle (Scanning scan) → ReadsIndex s (index_view w) (index_view v) → SameCounts w v → Step s w v
  Scans : (old new : Scan) → Turned s w v (Scanning old) (Scanning new) → ScanStep (index_view w) old new → ReadsIndex s (index_view w) (index_view v)
      → SameCounts w v → Step s w v
  EndScan : (scan : Scan) → Turned s w v (Scanning scan) Idle → ReadsIndex s (index_view w) (index_view v) → SameCounts w v → Step s w v
  -- a step in another index of the table, or of a statement that touches no index
  Elsewhere : Rests w v → Step s w v
  -- a transaction begins, commits or ends: rows come to count only where there are none
  Counts : (counts : ℕ → Bool) → ((t : ℕ) → IsTrue (counts t) → IsTrue (w.counts t) ⊎ ((b k : ℕ) (r : Row) → w.row b k ≡ Some r → r.id.t ≢ t))
      → v ≡ record w { counts = counts } → Step s w v

-- these sessions step, one after the other
pub data Run : List ℕ → IndexState → IndexState → Type 0 where
  Done : (w : IndexState) → Run [] w w
  Next : (s : ℕ) (rest : List ℕ) (w u v : IndexState) → Step s w u → Run rest u v → Run (s ∷ rest) w v

-- the next page of the index that isn't started is started, for tuples
pub record StartsPage (old new : Pages) : Type 0 where
  pub page : ℕ
  pub next : IsLowestNumber (IsPageUnstarted old) page
  pub below : page < old.limit
  pub turns : TurnsPage old new page Regular

-- After a stop nobody is at work. The pages are the same; but heap blocks, or an index page, may be started and hold nothing yet,
-- and tuples that the map doesn't name may be gone. Each tuple that was loose is one that the map doesn't name; and rows whose
-- insert was running don't count.
pub record Stops (w v : IndexState) : Type 0 where
  pub rest : IsAtRest v
  pub contents : v.contents ≡ w.contents
  pub pages_per_range : v.pages_per_range ≡ w.pages_per_range
  pub blocks : w.blocks ≤ v.blocks
  pub row : (b k : ℕ) → v.row b k ≡ w.row b k
  pub map : SameMap (index_view w) (index_view v)
  pub tuples : (x : Spot) → (v.tuple x ≡ w.tuple x) ⊎ ((v.tuple x ≡ None) × ((range : ℕ) → w.entry range ≢ Some x))
  pub pages : (v.pages ≡ w.pages) ⊎ StartsPage w.pages v.pages
  pub unnamed : (x : Spot) (t : IndexTuple) → v.tuple x ≡ Some t → (v.entry t.range ≡ Some x) ⊎ IsTrue (v.unnamed x)
  pub counts : (t : ℕ) → IsTrue (v.counts t) → IsTrue (w.counts t)
  pub running : (s b k : ℕ) (r : Row) (on_index : OnIndex) → w.statement s ≡ Inserting b k r on_index → v.counts r.id.t ≡ false
