-- What a statement finds.
use Rattle.std.specs.Prelude.{◌≡◌, ℕ, ◌+◌, ◌≤◌, ◌<◌, IsTrue, false, length, None, Some}
use Rattle.block_model.specs.DatabaseState.{OpenTransaction}
use Rattle.block_model.specs.declared.place.Spot.{Spot}
use Rattle.block_model.specs.declared.row.Row.{Row}
use Rattle.coverage.specs.Counts.{IsCountOf}
use Rattle.coverage.specs.IndexView.{IndexTuple, map_page_of}
use Rattle.coverage.specs.Rooms.{bytes_of, page_room}
use Rattle.coverage.specs.Statements.{AreLawful}
use Rattle.coverage.specs.Verdicts.{IsTargetPlace}
use Rattle.script_semantics.specs.Beginnings.{IsIn}
use Rattle.script_semantics.specs.DeadRows.{IsDead}
use Rattle.script_semantics.specs.Place.{Place, database_at}
use Rattle.store_layout.specs.declared.limits.TheConstants.{MAX_ENTRIES}
use Rattle.store_layout.specs.declared.statement.Statement.{Statement}
use Rattle.std.specs.FinMap as map_of
use Rattle.coverage.specs.Table.{Resting, TableState}
use Rattle.coverage.specs.TableCovered.{IsNewTable}
use Rattle.coverage.specs.TableSteps.{IsFirstPlace, first_block, range_in}

-- the session has nothing in hand and is at nothing in the table, and nobody has its summarise lock or locks a page of this index
pub record IsCalm (p : Place) (n table at : ℕ) : Type 0 where
  pub idle : p.hands n ≡ None
  pub fits : length p.journal ≤ MAX_ENTRIES
  pub below : at < (p.tables table).indexes
  pub rests : (p.tables table).task n ≡ Resting
  pub free : (p.tables table).summarise_lock ≡ None
  pub unlocked : (page : ℕ) → ((p.tables table).index at).lock page ≡ None

-- The range has a block of the table and no tuple; there is an entry of the map, and a place for its placeholder, on a page with room for the
-- longest tuple.
pub record LacksTuple (w : TableState) (at range : ℕ) : Type 0 where
  pub begins : first_block w at range < w.blocks
  pub few : range < (w.index at).contents.ranges
  pub none : (w.index at).entry range ≡ None
  pub mapped : map_page_of range ≤ (w.index at).pages.map_pages
  pub place : Spot
  pub target : IsTargetPlace (w.index at).pages (w.index at).tuple (length ((w.index at).contents.empty range).bytes) place
  pub roomy : (w.index at).contents.greatest ≤ page_room (bytes_of (w.index at).tuple) place.block
  pub lawful : AreLawful (w.index at).contents
  pub slots : (b k : ℕ) → w.rows_per_page ≤ k → w.row b k ≡ None

-- the map names a final tuple of the range
pub record HasTuple (w : TableState) (at range : ℕ) : Type 0 where
  pub begins : first_block w at range < w.blocks
  pub place : Spot
  pub named : (w.index at).entry range ≡ Some place
  pub tuple : IndexTuple
  pub stands : (w.index at).tuple place ≡ Some tuple
  pub of : tuple.range ≡ range
  pub final : tuple.placeholder ≡ false

-- the session has nothing in hand, its transaction is under way and sound, and the journal has room for a request
pub record IsUnderWay (p : Place) (n table : ℕ) (x : OpenTransaction) : Type 0 where
  pub idle : p.hands n ≡ None
  pub transaction : map_of.get (database_at p).sessions n ≡ Some x
  pub sound : x.failed ≡ false
  pub room : length p.journal < MAX_ENTRIES
  pub rests : (p.tables table).task n ≡ Resting

-- a new table with one index, of which a page for tuples may be started
pub record IsNewWithIndex (w : TableState) : Type 0 where
  pub new : IsNewTable w
  pub only : w.indexes ≡ 1
  pub blocks : w.blocks ≡ 0
  pub room : 0 < w.heap_limit
  pub slots : 0 < w.rows_per_page
  pub pages : 2 < (w.index 0).pages.limit
  pub ranges : 0 < (w.index 0).contents.ranges

-- The table's only index asks for summaries. The next row comes to the first place of one of its ranges, behind this one; and neither of the two
-- has an entry.
pub record AsksFirst (w : TableState) (block before : ℕ) : Type 0 where
  pub only : w.indexes ≡ 1
  pub asks : IsTrue (w.index 0).autosummarize
  pub place : IsFirstPlace w block 0
  pub begins : first_block w 0 (range_in w 0 block) ≡ block
  pub behind : range_in w 0 block ≡ before + 1
  pub empty : (w.index 0).entry (range_in w 0 block) ≡ None
  pub asked : (w.index 0).entry before ≡ None
  pub unlocked : (page : ℕ) → (w.index 0).lock page ≡ None

-- a row that no transaction can see any more stands there
abbrev pub IsDeadAt : Place → TableState → (block slot : ℕ) → Type 0
IsDeadAt p w block slot = (r : Row) × (w.row block slot ≡ Some r) × IsDead p r.id

-- a table of one block and one index, at which nobody is at work, with so many such rows
pub record HasDeadRows (p : Place) (table rows : ℕ) : Type 0 where
  pub one_index : (p.tables table).indexes ≡ 1
  pub one_block : (p.tables table).blocks ≡ 1
  pub alone : (m : ℕ) → (p.tables table).task m ≡ Resting
  pub dead : IsCountOf (IsDeadAt p (p.tables table) 0) rows

-- the statement makes its steps in this table alone
abbrev pub IsOnlyIn : Place → ℕ → Statement → ℕ → Type 0
IsOnlyIn p n statement table = (i : ℕ) → IsIn p n statement i → i ≡ table
