-- what a statement in hand needs of its store on any disk
use Rattle.std.specs.Prelude.{◌≡◌, ◌≢◌, ℕ, ◌*◌, ◌/◌, ◌≤◌, ◌<◌, false, All, List, [], length, map, slice_get, Option, None, Some, IsSome, vec_capacity}
use Rattle.disk_trait.specs.Told.{Told}
use Rattle.store_layout.specs.DiskLayout.{DiskLayout}
use Rattle.block_model.specs.declared.row.Query.{Query}
use Rattle.store_layout.specs.declared.limits.TheConstants.{MAX_ENTRIES, MAX_SESSIONS}
use Rattle.page_layout.specs.RowBytes.{HaveKinds}
use Rattle.page_locks.specs.LockCounts.{locks_of}
use Rattle.page_locks.specs.RightHolders.{right_of}
use Rattle.heap_rows.specs.Heaps.{kinds_at}
use Rattle.snapshot_core.specs.declared.sessions.Open.{Open}
use Rattle.snapshot_core.specs.StoredVersions.{transaction_of}
use Rattle.tx_table.specs.TxState.{IsOver}
use Rattle.summarise_core.specs.declared.desummarise_stage.Stage.{Stage as DesummariseStage}
use Rattle.summarise_core.specs.declared.desummarise_stage.Stage.TheVariants as desummarise_stages
use Rattle.summarise_core.specs.Desummarises.{IsDesummariseOf, IsLeft, held_at}
use Rattle.brin_insert.specs.Inserts.{HasStepLeft, IsInsertFor}
use Rattle.brin_insert.specs.InsertLocks as inserts
use Rattle.bitmap_scan.specs.Finds.{IsFindOf, IsScanning}
use Rattle.bitmap_scan.specs.ScanHands.{IsJudging, IsScanOf}
use Rattle.bitmap_scan.specs.declared.stage.Stage.TheVariants as scan_stages
use Rattle.summarise_core.specs.Summarises as summarises
use Rattle.summarise_core.specs.Summarises.{IsSummariseOf, SummariseState, in_range_of}
use Rattle.summarise_core.specs.declared.course.Standing.{Standing}
use Rattle.summarise_core.specs.declared.course.Standing.TheVariants as standings
use Rattle.summarise_core.specs.declared.wish.Wish.TheVariants as wishes
use Rattle.vacuum_core.specs.declared.standing.Standing.{Standing as CleaningStanding}
use Rattle.vacuum_core.specs.declared.standing.Standing.TheVariants as cleaning_standings
use Rattle.vacuum_core.specs.Vacuums.{IsVacuumOf}
use Rattle.script_semantics.specs.IndexTuples.{index_at}
use Rattle.script_semantics.specs.ShownTable.{indexes_of}
use Rattle.session_parts.specs.declared.hand.Cleaning.{Cleaning}
use Rattle.session_parts.specs.declared.hand.Completing.{Completing}
use Rattle.session_parts.specs.declared.hand.Hand.{Hand}
use Rattle.session_parts.specs.declared.hand.Hand.TheVariants as hands
use Rattle.session_parts.specs.declared.hand.Hit.{Hit}
use Rattle.session_parts.specs.declared.hand.Marking.{Marking}
use Rattle.session_parts.specs.declared.hand.Requested.{Requested}
use Rattle.session_parts.specs.Hands.{summary_now}
use Rattle.session_parts.specs.declared.limits.TheConstants.{MAX_LOCKS}
use Rattle.session_parts.specs.Shares.{share_of}
use Rattle.session_parts.specs.StoreStates.{StoreState, hand_at}

-- the session has a transaction that hasn't failed
abbrev pub IsUnderWay : Option Open → Type 0
IsUnderWay None = ⊥
IsUnderWay (Some o) = o.failed ≡ false

-- a row of the insert is one of its session's transaction
abbrev pub IsOwnRow : Option Open → (t : ℕ) → Type 0
IsOwnRow None t = ⊥
IsOwnRow (Some o) t = t ≡ o.t

-- a delete's marks: each row that it found lies on a block that its table may have, one is left, and the copy for the journal is one of its query
pub record IsMarkingFor (layout : DiskLayout) (marking : Marking) : Type 0 where
  pub look : (copy : Query) → marking.look ≡ Some copy → copy ≡ marking.query
  pub table : marking.query.table < length layout.schema.tables
  pub within : All (λ (h : Hit). h.spot.block < layout.sizes.heap_blocks) marking.hits.items
  pub left : marking.next < length marking.hits.items

-- the summaries of a table's indexes, in their order, over their complete ranges
pub record AreSummariesOf (layout : DiskLayout) (table : ℕ) (summaries : List SummariseState) : Type 0 where
  pub indexes : map (λ (a : SummariseState). a.index) summaries ≡ indexes_of layout table
  pub of : All (λ (a : SummariseState). IsSummariseOf layout a × (a.wish ≡ wishes.Complete)) summaries

-- a vacuum that cleans: a step of that is left, and no summary has begun
pub record IsCleaningFor (layout : DiskLayout) (c : Cleaning) : Type 0 where
  pub vacuum : IsVacuumOf layout c.vacuum
  pub left : c.vacuum.standing ≢ cleaning_standings.Done
  pub summaries : AreSummariesOf layout c.vacuum.table c.summaries.items
  pub new : All (λ (a : SummariseState). a.standing ≡ standings.Begins) c.summaries.items

-- a vacuum that has cleaned: a step of the summary that it makes is left, and those behind it haven't begun
pub record IsCompletingFor (layout : DiskLayout) (c : Completing) : Type 0 where
  pub table : c.table < length layout.schema.tables
  pub summaries : AreSummariesOf layout c.table c.summaries.items
  pub now : SummariseState
  pub is : summary_now c ≡ Some now
  pub left : now.standing ≢ standings.Done
  pub new : (at : ℕ) (a : SummariseState) → c.next < at → slice_get c.summaries.items at ≡ Some a → a.standing ≡ standings.Begins
  pub few : c.ranges ≤ 131072 * c.next

-- work at the range of its request, whose first block is the one that is asked for
pub record IsRequestedFor (layout : DiskLayout) (r : Requested) : Type 0 where
  pub of : IsSummariseOf layout r.summarise
  pub at : r.summarise.standing ≡ standings.AtRange
  pub block : ℕ
  pub wish : r.summarise.wish ≡ wishes.Block block
  pub range : block / in_range_of layout r.summarise.index ≡ r.range

-- what a statement in hand is fit for: its step is left, its table is one of the layout, and its session's transaction is as it needs it
abbrev pub IsHandFor : DiskLayout → Option Open → Hand → Type 0
IsHandFor layout own (hands.Begins numbers) = (own ≡ None) × (numbers.items ≡ []) × (MAX_SESSIONS ≤ vec_capacity numbers)
IsHandFor layout own hands.Commits = IsSome own
IsHandFor layout own hands.RollsBack = IsSome own
IsHandFor layout own (hands.Puts table values) = IsUnderWay own × (table < length layout.schema.tables) × HaveKinds (kinds_at layout table) values
IsHandFor layout own (hands.Inserts insert) = IsUnderWay own × IsInsertFor layout insert × HasStepLeft insert × IsSome insert.place × IsOwnRow own insert.row.id.t
IsHandFor layout own (hands.Selecting query) = IsUnderWay own × (query.table < length layout.schema.tables)
IsHandFor layout own (hands.Selects scan) = IsUnderWay own × IsFindOf layout scan × IsScanning scan.judging.stage scan.next × (scan.judging.stage ≢ scan_stages.Extent)
IsHandFor layout own (hands.Deleting query) = IsUnderWay own × (query.table < length layout.schema.tables)
IsHandFor layout own (hands.Deletes scan) = IsUnderWay own × IsFindOf layout scan × IsScanning scan.judging.stage scan.next × (scan.judging.stage ≢ scan_stages.Extent)
IsHandFor layout own (hands.Marks marking) = IsUnderWay own × IsMarkingFor layout marking
IsHandFor layout own (hands.Explains explain) = IsScanOf layout explain.judging × IsJudging explain.judging.stage
IsHandFor layout own (hands.Summarises a) = IsSummariseOf layout a × (a.standing ≢ standings.Done) × (a.wish ≢ wishes.Complete)
IsHandFor layout own (hands.Desummarises a) = IsDesummariseOf layout a × IsLeft a.stage
IsHandFor layout own (hands.Cleans c) = IsCleaningFor layout c
IsHandFor layout own (hands.Completes c) = IsCompletingFor layout c
IsHandFor layout own hands.Working = Unit {0}
IsHandFor layout own (hands.Works r) = IsRequestedFor layout r

abbrev pub FitsHand : DiskLayout → Option Open → Option Hand → Type 0
FitsHand layout own None = Unit {0}
FitsHand layout own (Some hand) = IsHandFor layout own hand

abbrev pub held_in_summary : Option SummariseState → ℕ
held_in_summary None = 0
held_in_summary (Some a) = summarises.held_by a

-- how many page locks are a statement's own between its steps
abbrev pub locks_held : Option Hand → ℕ
locks_held (Some (hands.Inserts insert)) = inserts.held_by (inserts.stage_of insert)
locks_held (Some (hands.Summarises a)) = summarises.held_by a
locks_held (Some (hands.Desummarises a)) = held_at a.stage
locks_held (Some (hands.Completes c)) = held_in_summary (summary_now c)
locks_held (Some (hands.Works r)) = summarises.held_by r.summarise
locks_held hand = 0

-- the table whose summarise lock is a statement's own between its steps: that of a summarise at its ranges, of a desummarise at its range, and of a vacuum
-- behind its first step
abbrev pub right_at : (table : ℕ) → Standing → Option ℕ
right_at table standings.AtRange = Some table
right_at table standing = None

abbrev pub right_in : (table : ℕ) → DesummariseStage → Option ℕ
right_in table desummarise_stages.Map = Some table
right_in table (desummarise_stages.Clear x) = Some table
right_in table (desummarise_stages.Drop x) = Some table
right_in table stage = None

abbrev pub right_cleaning : (table : ℕ) → CleaningStanding → Option ℕ
right_cleaning table cleaning_standings.Begins = None
right_cleaning table standing = Some table

abbrev pub right_held : DiskLayout → Option Hand → Option ℕ
right_held layout (Some (hands.Summarises a)) = right_at (index_at layout a.index).table a.standing
right_held layout (Some (hands.Desummarises a)) = right_in (index_at layout a.index).table a.stage
right_held layout (Some (hands.Cleans c)) = right_cleaning c.vacuum.table c.vacuum.standing
right_held layout (Some (hands.Completes c)) = Some c.table
right_held layout (Some (hands.Works r)) = right_at (index_at layout r.summarise.index).table r.summarise.standing
right_held layout hand = None

-- What holds of a session on any disk: its transactions are those of the pages; what it has in hand is fit for its next step; it holds no more page locks than
-- that, and no other summarise lock; and the journal has what it is promised, and no more entries than it may have.
pub record FitsStore {D : Type 0} (told : D → Told) (s : StoreState D) (n : ℕ) : Type 0 where
  pub session : n < MAX_SESSIONS
  pub over : IsOver told s.transactions.tx s.pages
  pub hand : FitsHand s.pages.layout (transaction_of s.transactions.opens n) (hand_at s n)
  pub limit : s.locks.limit ≡ MAX_LOCKS
  pub own : locks_of s.locks n ≤ locks_held (hand_at s n)
  pub held : (table : ℕ) → right_of s.rights table ≡ Some n → right_held s.pages.layout (hand_at s n) ≡ Some table
  pub rights : length s.rights ≡ length s.pages.layout.schema.tables
  pub entries : length s.journal.entries ≤ MAX_ENTRIES
  pub share : share_of (hand_at s n) (transaction_of s.transactions.opens n) ≤ s.journal.promised
