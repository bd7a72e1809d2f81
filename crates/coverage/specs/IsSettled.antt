-- When no scan can miss a row for what the index says of its range (the access method's README, on placeholders).
use Rattle.std.specs.Prelude.{◌≡◌, ◌⊎◌, ℕ, ◌≤◌, ◌<◌, true, false, IsTrue, None, Some}
use Rattle.block_model.specs.declared.row.Row.{Row}
use Rattle.block_model.specs.declared.place.Spot.{Spot}
use Rattle.coverage.specs.IndexView.{IndexTuple, Progress, ExtentUnread, Passing, IndexView, range_of_block, IsBuilding, NamesTuple}

-- the extent isn't read yet, or the block lies below it and isn't passed yet
abbrev pub IsAhead : Progress → ℕ → Type 0
IsAhead ExtentUnread b = Unit
IsAhead (Passing extent next result) b = (next ≤ b) × (b < extent)

-- the result of the pass includes the row
abbrev pub IsInResult : Progress → Row → Type 0
IsInResult ExtentUnread r = ⊥
IsInResult (Passing extent next result) r = IsTrue (result.includes r)

-- A row of block b is settled in one of six cases.
pub data IsSettled (w : IndexView) (b : ℕ) (r : Row) : Type 0 where
  -- the map has no entry for the row's range
  NoEntry : w.entry (range_of_block w b) ≡ None → IsSettled w b r
  -- it names a final tuple that includes the row
  FinalIncludes : (t : IndexTuple) → NamesTuple w (range_of_block w b) t → t.placeholder ≡ false → IsTrue (t.includes r) → IsSettled w b r
  -- it names a placeholder that includes the row
  PlaceholderIncludes : (t : IndexTuple) → NamesTuple w (range_of_block w b) t → t.placeholder ≡ true → IsTrue (t.includes r) → IsSettled w b r
  -- it names a placeholder, and nobody is building the range
  NobodyBuilding : (t : IndexTuple) → NamesTuple w (range_of_block w b) t → t.placeholder ≡ true
      → ((s : ℕ) (p : Progress) → IsBuilding w s (range_of_block w b) p → ⊥) → IsSettled w b r
  -- it names a placeholder, and the result of whoever is building the range includes the row
  ResultIncludes : (t : IndexTuple) → NamesTuple w (range_of_block w b) t → t.placeholder ≡ true
      → (s : ℕ) (p : Progress) → IsBuilding w s (range_of_block w b) p → IsInResult p r → IsSettled w b r
  -- it names a placeholder, and whoever is building the range has still to pass the row's block
  AheadOfPass : (t : IndexTuple) → NamesTuple w (range_of_block w b) t → t.placeholder ≡ true
      → (s : ℕ) (p : Progress) → IsBuilding w s (range_of_block w b) p → IsAhead p b → IsSettled w b r

-- the row is in the result, or the pass will still come by it
abbrev pub IsAwaited : Progress → ℕ → Row → Type 0
IsAwaited ExtentUnread b r = Unit
IsAwaited (Passing extent next result) b r = IsTrue (result.includes r) ⊎ ((next ≤ b) × (b < extent))

-- whoever is building the row's range awaits it
abbrev pub AllAwait : IndexView → ℕ → Row → Type 0
AllAwait w b r = (s : ℕ) (p : Progress) → IsBuilding w s (range_of_block w b) p → IsAwaited p b r

-- the six cases in one: the tuple that the map names includes the row, or is a placeholder whose builder awaits it
abbrev pub IsAccounted : IndexView → ℕ → Row → Type 0
IsAccounted w b r =
    (x : Spot) (t : IndexTuple) → w.entry (range_of_block w b) ≡ Some x → w.tuple x ≡ Some t
    → IsTrue (t.includes r) ⊎ ((t.placeholder ≡ true) × AllAwait w b r)

-- a final tuple of the row's range at this place includes the row
abbrev pub TupleShows : IndexView → Spot → ℕ → Row → Type 0
TupleShows w x b r = (t : IndexTuple) → w.tuple x ≡ Some t → t.range ≡ range_of_block w b → t.placeholder ≡ false → IsTrue (t.includes r)
