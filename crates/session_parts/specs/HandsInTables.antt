-- what a statement in hand is at in a table
use Rattle.std.specs.Prelude.{◌≡◌, ◌≢◌, ℕ, Bool, true, false, IsTrue, List, All, Option, None, Some}
use Rattle.block_model.specs.declared.place.Spot.{Spot}
use Rattle.block_model.specs.declared.row.Row.{Row}
use Rattle.store_layout.specs.DiskLayout.{DiskLayout}
use Rattle.page_layout.specs.PageContents.{Slot}
use Rattle.page_layout.specs.RowBytes.{StoredRow}
use Rattle.heap_rows.specs.RowPlaces.{slot_at}
use Rattle.snapshot_core.specs.declared.statuses.Status.{Status}
use Rattle.snapshot_core.specs.declared.sessions.Open.{Open}
use Rattle.tx_table.specs.TxState.{TxState}
use Rattle.coverage.specs.Table.{Task, Resting, Marks, TableScan}
use Rattle.script_semantics.specs.IndexTuples.{index_at}
use Rattle.script_semantics.specs.ShownRows.{row_in}
use Rattle.summarise_core.specs.Desummarises.{DesummariseState}
use Rattle.summarise_core.specs.DesummariseTable as desummarises
use Rattle.brin_insert.specs.Inserts as inserts
use Rattle.bitmap_scan.specs.declared.stage.Stage.TheVariants as stages
use Rattle.bitmap_scan.specs.Explains.{explaining}
use Rattle.bitmap_scan.specs.Finds.{FindHand, Sight, scanning, sees_stored, stands_by}
use Rattle.bitmap_scan.specs.LastStatuses.{Remembers}
use Rattle.bitmap_scan.specs.ScanHands.{ScanHand}
use Rattle.bitmap_scan.specs.TableScans as scans
use Rattle.summarise_core.specs.Summarises.{SummariseState}
use Rattle.summarise_core.specs.SummariseTable as summarises
use Rattle.vacuum_core.specs.TableSteps as vacuums
use Rattle.script_semantics.specs.Beginnings.{StandsAt}
use Rattle.session_parts.specs.SeenBefore.{SawRows}
use Rattle.session_parts.specs.declared.hand.Completing.{Completing}
use Rattle.session_parts.specs.declared.hand.Hand.{Hand}
use Rattle.session_parts.specs.declared.hand.Hand.TheVariants as hands
use Rattle.session_parts.specs.declared.hand.Hit.{Hit}
use Rattle.session_parts.specs.declared.hand.Marking.{Marking}
use Rattle.session_parts.specs.Hands.{hits_left, ids_of, summary_now}

-- how an open transaction sees rows, with these statuses on the pages
abbrev pub sight_of : TxState → List Status → Open → Sight
sight_of tx stored o = record { snapshot = o.snapshot; own = o.t; status = stands_by tx.first stored }

-- A scan in its table, which has begun: its session sees what its transaction sees in each slot now; what it found stands there, and its session sees it; and what it remembers of
-- transactions stands.
pub record IsScanAt (layout : DiskLayout) (blocks : List (List Slot)) (sight : Sight) (deletes : Bool) (hand : FindHand) (task : Task) : Type 0 where
  pub begun : hand.judging.stage ≢ stages.Extent
  pub sees : ℕ → ℕ → Bool
  pub judged : ℕ → ℕ → Option Bool
  pub task_is : task ≡ scans.task_of layout hand.judging.stage hand.judging (scanning sees judged deletes hand)
  pub now : (b k : ℕ) (row : StoredRow) → slot_at blocks (record { block = b; slot = k }) ≡ Some row → sees b k ≡ sees_stored sight row
  pub stand : All (λ (f : Row × Spot). row_in hand.judging.query.table (slot_at blocks f.1) ≡ Some f.0) hand.found
  pub remembers : Remembers sight hand.last

-- of a session's open transaction
abbrev pub IsScanBy : DiskLayout → List (List Slot) → TxState → List Status → Option Open → Bool → FindHand → Task → Type 0
IsScanBy layout blocks tx stored None deletes hand task = ⊥
IsScanBy layout blocks tx stored (Some o) deletes hand task = IsScanAt layout blocks (sight_of tx stored o) deletes hand task

-- A delete that marks: each row that is left stands where it was found, and is one that its scan saw; in each place that its scan saw a row stands,
-- and its session's transaction saw that before its own deletes.
pub record IsMarkingAt (first : ℕ) (stored : List Status) (o : Open) (blocks : List (List Slot)) (marking : Marking) (task : Task) : Type 0 where
  pub scan : TableScan
  pub task_is : task ≡ Marks scan (ids_of (hits_left marking))
  pub stand : All (λ (h : Hit). (row : StoredRow) × (slot_at blocks h.spot ≡ Some row) × (row.id ≡ h.id) × IsTrue (scan.sees h.spot.block h.spot.slot)) (hits_left marking)
  pub standing : (x : Spot) → IsTrue (scan.sees x.block x.slot) → slot_at blocks x ≢ None
  pub saw : SawRows first stored o scan.sees blocks

-- of a session's open transaction
abbrev pub IsMarkingBy : TxState → List Status → Option Open → List (List Slot) → Marking → Task → Type 0
IsMarkingBy tx stored None blocks marking task = ⊥
IsMarkingBy tx stored (Some o) blocks marking task = IsMarkingAt tx.first stored o blocks marking task

-- an explain, whatever it made of the ranges so far
abbrev pub IsExplainAt : DiskLayout → ScanHand → Task → Type 0
IsExplainAt layout hand task = (judged : ℕ → ℕ → Option Bool) × (task ≡ scans.task_of layout hand.stage hand (explaining judged))

-- a summarise, at its index's place among the table's
abbrev pub IsSummariseAt : DiskLayout → SummariseState → Task → Type 0
IsSummariseAt layout a task = (at : ℕ) × StandsAt layout a.index at × (task ≡ summarises.task_of layout at a)

-- and a desummarise, at its index's
abbrev pub IsDesummariseAt : DiskLayout → DesummariseState → Task → Type 0
IsDesummariseAt layout a task = (at : ℕ) × StandsAt layout a.index at × (task ≡ desummarises.task_of layout at a)

-- a vacuum at the summary that it makes now, or next
abbrev pub IsCompletingAt : DiskLayout → Completing → Task → Type 0
IsCompletingAt layout c task = (a : SummariseState) × (summary_now c ≡ Some a) × (task ≡ summarises.task_of layout c.next a)

-- in its own table a statement is at this, and in each other one at nothing
abbrev pub InItsTable : (own table : ℕ) → (Here : Type 0) → Task → Type 0
InItsTable own table Here task = (own ≡ table → Here) × (own ≢ table → task ≡ Resting)

-- what a session's statement is at in the table, whose heap has these blocks; one that has made no step is at nothing,
-- but an explain, a summarise, a desummarise and a vacuum are in theirs from the start
abbrev pub IsTaskOf : DiskLayout → (table : ℕ) → List (List Slot) → TxState → List Status → Option Open → Option Hand → Task → Type 0
IsTaskOf layout table blocks tx stored transaction (Some (hands.Inserts insert)) task = InItsTable insert.row.table table (task ≡ inserts.task_of layout insert) task
IsTaskOf layout table blocks tx stored transaction (Some (hands.Selects scan)) task =
    InItsTable scan.judging.query.table table (IsScanBy layout blocks tx stored transaction false scan task) task
IsTaskOf layout table blocks tx stored transaction (Some (hands.Deletes scan)) task =
    InItsTable scan.judging.query.table table (IsScanBy layout blocks tx stored transaction true scan task) task
IsTaskOf layout table blocks tx stored transaction (Some (hands.Marks marking)) task =
    InItsTable marking.query.table table (IsMarkingBy tx stored transaction blocks marking task) task
IsTaskOf layout table blocks tx stored transaction (Some (hands.Explains explain)) task = InItsTable explain.judging.query.table table (IsExplainAt layout explain.judging task) task
IsTaskOf layout table blocks tx stored transaction (Some (hands.Summarises a)) task = InItsTable (index_at layout a.index).table table (IsSummariseAt layout a task) task
IsTaskOf layout table blocks tx stored transaction (Some (hands.Desummarises a)) task = InItsTable (index_at layout a.index).table table (IsDesummariseAt layout a task) task
IsTaskOf layout table blocks tx stored transaction (Some (hands.Cleans c)) task = InItsTable c.vacuum.table table (task ≡ vacuums.task_of c.vacuum) task
IsTaskOf layout table blocks tx stored transaction (Some (hands.Completes c)) task = InItsTable c.table table (IsCompletingAt layout c task) task
IsTaskOf layout table blocks tx stored transaction (Some (hands.Works r)) task = InItsTable (index_at layout r.summarise.index).table table (IsSummariseAt layout r.summarise task) task
IsTaskOf layout table blocks tx stored transaction hand task = task ≡ Resting

-- the table in which the statement makes its steps, if there is one; one that has made no step is in none,
-- but an explain, a summarise, a desummarise and a vacuum are in theirs from the start
abbrev pub table_in : DiskLayout → Option Hand → Option ℕ
table_in layout (Some (hands.Inserts insert)) = Some insert.row.table
table_in layout (Some (hands.Selects scan)) = Some scan.judging.query.table
table_in layout (Some (hands.Deletes scan)) = Some scan.judging.query.table
table_in layout (Some (hands.Marks marking)) = Some marking.query.table
table_in layout (Some (hands.Explains explain)) = Some explain.judging.query.table
table_in layout (Some (hands.Summarises a)) = Some (index_at layout a.index).table
table_in layout (Some (hands.Desummarises a)) = Some (index_at layout a.index).table
table_in layout (Some (hands.Cleans c)) = Some c.vacuum.table
table_in layout (Some (hands.Completes c)) = Some c.table
table_in layout (Some (hands.Works r)) = Some (index_at layout r.summarise.index).table
table_in layout hand = None
