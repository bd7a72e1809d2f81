-- What each running statement knows of the index between its steps.
use Rattle.std.specs.Prelude.{◌≡◌, ◌≢◌, ◌⊎◌, ℕ, ◌≤◌, Bool, true, IsTrue, Option, None, Some, List, [], ◌∷◌}
use Rattle.block_model.specs.declared.row.Row.{Row}
use Rattle.block_model.specs.declared.place.Spot.{Spot}
use Rattle.coverage.specs.IndexView.{IndexTuple, IsFormed, Progress, ExtentUnread, Passing, IndexView, range_of_block, IsRangeOf}
use Rattle.coverage.specs.IsSettled.{IsAccounted, TupleShows}
use Rattle.coverage.specs.GoesOn.{IsHeld}
use Rattle.coverage.specs.Statements.{OnIndex, Empty, Held, Copied, Moving, Dropping, Phase, NotBuilding, Vacant, Growing, Evacuating, Placing, IsAt, Scan}
use Rattle.coverage.specs.Statements.{Statement, Idle, Inserting, Maintaining, Holding, Scanning, IsAdded, IsUnited}

-- the session locks no page: so it is between steps, but in a put, a move or a clear
abbrev pub LocksNone : (ℕ → Option ℕ) → ℕ → Type 0
LocksNone lock s = (p : ℕ) → lock p ≢ Some s

abbrev pub IsOneOf : List ℕ → ℕ → Type 0
IsOneOf [] p = ⊥
IsOneOf (q ∷ more) p = (p ≡ q) ⊎ IsOneOf more p

-- the session locks these pages and no other
pub record LocksThese (lock : ℕ → Option ℕ) (s : ℕ) (these : List ℕ) : Type 0 where
  pub locked : (p : ℕ) → IsOneOf these p → lock p ≡ Some s
  pub only : (p : ℕ) → lock p ≡ Some s → IsOneOf these p

-- a session without a running statement holds no page lock and no summarise lock
abbrev pub HoldsNothing : IndexView → ℕ → Type 0
HoldsNothing w s = LocksNone w.lock s × (w.summarise_lock ≢ Some s)

-- how the new tuple comes from the old one is the statement's own matter
abbrev pub KnowsOnIndex : IndexView → ℕ → ℕ → (IndexTuple → IndexTuple → Type 0) → OnIndex → Type 0
KnowsOnIndex w s range Makes Empty = LocksNone w.lock s
KnowsOnIndex w s range Makes (Held x) = LocksNone w.lock s × IsHeld w range x
KnowsOnIndex w s range Makes (Copied x old new) = LocksNone w.lock s × IsHeld w range x × (old.range ≡ range) × Makes old new × IsFormed w.contents new
KnowsOnIndex w s range Makes (Moving x y old new) = (w.lock x.block ≡ Some s) × (w.lock y.block ≡ Some s)
    × (w.entry range ≡ Some x) × (w.tuple x ≡ Some old) × (w.tuple y ≡ Some new) × (old.range ≡ range) × Makes old new × (x ≢ y)
KnowsOnIndex w s range Makes (Dropping x) = (w.lock x.block ≡ Some s) × ((m : ℕ) → w.entry m ≢ Some x) × ((t : IndexTuple) × (w.tuple x ≡ Some t))

-- once the map names the new tuple, the row of an insert is settled
abbrev pub SettledBy : IndexView → ℕ → Row → OnIndex → Type 0
SettledBy w b r Empty = Unit
SettledBy w b r (Held x) = Unit
SettledBy w b r (Copied x old new) = Unit
SettledBy w b r (Moving x y old new) = Unit
SettledBy w b r (Dropping x) = IsAccounted w b r

-- a final tuple is made from the result of all blocks
abbrev pub MakesUnited : Progress → IndexTuple → IndexTuple → Type 0
MakesUnited ExtentUnread old new = ⊥
MakesUnited (Passing extent next result) old new = (extent ≤ next) × IsUnited result old new

-- nothing is made where nothing is being built
abbrev pub MakesNone : IndexTuple → IndexTuple → Type 0
MakesNone old new = ⊥

abbrev pub MakesSame : IndexTuple → IndexTuple → Type 0
MakesSame old new = new ≡ old

-- the result so far is a tuple of the index
abbrev pub IsResultFormed : IndexView → Progress → Type 0
IsResultFormed w ExtentUnread = Unit
IsResultFormed w (Passing extent next result) = IsFormed w.contents result

-- a placeholder of the range stands there, and the session locks its page
abbrev pub HasPlaced : IndexView → ℕ → ℕ → Spot → Type 0
HasPlaced w s range x = (w.lock x.block ≡ Some s) × ((t : IndexTuple) × (w.tuple x ≡ Some t) × (t.range ≡ range) × (t.placeholder ≡ true))

abbrev pub KnowsPhase : IndexView → ℕ → ℕ → Phase → Type 0
KnowsPhase w s range (NotBuilding on_index) = KnowsOnIndex w s range MakesNone on_index
KnowsPhase w s range Vacant = LocksNone w.lock s × (w.entry range ≡ None) × IsRangeOf w range
KnowsPhase w s range Growing = (w.entry range ≡ None) × IsRangeOf w range
KnowsPhase w s range (Evacuating m on_index) = (w.entry range ≡ None) × KnowsOnIndex w s m MakesSame on_index × IsRangeOf w range
KnowsPhase w s range (Placing x) = (w.entry range ≡ None) × HasPlaced w s range x × IsRangeOf w range
KnowsPhase w s range (IsAt p on_index) = KnowsOnIndex w s range (MakesUnited p) on_index × IsRangeOf w range × IsResultFormed w p

-- What a scan knows of a row that its session sees: a final tuple at the place that it holds for the row's range includes
-- it; and where the row matches, it is found, or its block is a candidate and not read yet.
pub record KnowsRow (w : IndexView) (scan : Scan) (b k : ℕ) (r : Row) : Type 0 where
  pub there : w.row b k ≡ Some r
  pub settled : IsAccounted w b r
  pub shown : (x : Spot) → scan.held ≡ Some (range_of_block w b, x) → TupleShows w x b r
  pub kept : IsTrue (scan.matches r) → IsTrue (scan.found b k) ⊎ (IsTrue (scan.candidate b) × (scan.read ≤ b))

abbrev pub Knows : IndexView → ℕ → Statement → Type 0
Knows w s Idle = HoldsNothing w s
Knows w s (Inserting b k r on_index) =
    (w.row b k ≡ Some r) × (w.summarise_lock ≢ Some s) × KnowsOnIndex w s (range_of_block w b) (IsAdded r) on_index × SettledBy w b r on_index
Knows w s (Maintaining range phase) = (w.summarise_lock ≡ Some s) × KnowsPhase w s range phase
Knows w s Holding = (w.summarise_lock ≡ Some s) × LocksNone w.lock s
Knows w s (Scanning scan) = HoldsNothing w s × ((range : ℕ) (x : Spot) → scan.held ≡ Some (range, x) → IsHeld w range x)
    × ((b k : ℕ) → IsTrue (scan.sees b k) → (r : Row) × KnowsRow w scan b k r)

-- the places of dropped rows are none that the statement sees, or has put
abbrev pub Spares : (ℕ → ℕ → Bool) → Statement → Type 0
Spares dropped Idle = Unit
Spares dropped (Inserting b k r on_index) = IsTrue (dropped b k) → ⊥
Spares dropped (Maintaining range phase) = Unit
Spares dropped Holding = Unit
Spares dropped (Scanning scan) = (b k : ℕ) → IsTrue (scan.sees b k) → IsTrue (dropped b k) → ⊥
