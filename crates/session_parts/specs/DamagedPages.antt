-- where damage is told
use Rattle.std.specs.Prelude.{◌≡◌, List, Option, None, Some}
use Rattle.std.proofs.Common.{ℕ, ◌<◌, inl, inr, length, refl, arith}
use Rattle.block_model.specs.declared.place.Place.{Place}
use Rattle.store_layout.specs.DiskLayout.{DiskLayout, IsPlace, page_offset}
use Rattle.store_layout.specs.RelationCounts.{blocks_of_statuses, blocks_of_table, count_relations}
use Rattle.page_map.specs.declared.faults.MachineFault.TheVariants as faults
use Rattle.page_map.specs.declared.faults.StoreError.{StoreError}
use Rattle.page_map.specs.declared.faults.StoreError.TheVariants as errors
use Rattle.page_map.specs.Outcome.{IsReopen, NamesPage}
use Rattle.heap_rows.specs.Heaps.{relation_of}
use Rattle.tx_table.specs.LeavesRest.{NamesStatuses}
use Rattle.index_contents.specs.IndexContents.{relation_of as index_relation}
use Rattle.script_semantics.specs.SwapAnswers.{FaultNamesPageOf}
use Rattle.brin_insert.specs.InsertAnswers.{FaultNamesRelation}
use Rattle.bitmap_scan.specs.declared.stage.Stage.{Stage as ScanStage}
use Rattle.bitmap_scan.specs.declared.stage.Stage.TheVariants as scan_stages
use Rattle.bitmap_scan.specs.Finds.{FaultNamesNext, FaultNamesRead, FindHand}
use Rattle.bitmap_scan.specs.ScanAnswers.{NamesPageAt as NamesJudged}
use Rattle.bitmap_scan.specs.ScanHands.{ScannedIndex, scanned_at}
use Rattle.summarise_core.specs.declared.range_stage.Stage.{Stage as SummariseStage}
use Rattle.summarise_core.specs.declared.range_stage.Stage.TheVariants as summarise_stages
use Rattle.summarise_core.specs.StepCauses.{FaultNamesHeapPage, NamesPageAt as NamesSummarised}
use Rattle.summarise_core.specs.SummariseHands.{table_of}
use Rattle.vacuum_core.specs.Vacuums.{FaultNamesPage}

-- a byte of the disk at which a page of the layout begins
abbrev pub IsPageStart : DiskLayout → ℕ → Type 0
IsPageStart layout at = (place : Place) × IsPlace layout place × (at ≡ page_offset layout place)

-- damage is told by the byte at which a page of the layout begins
abbrev pub NamesAPage : DiskLayout → StoreError → Type 0
NamesAPage layout (errors.Damaged at) = IsPageStart layout at
NamesAPage layout error = Unit {0}

-- a disk fault of an earlier call names no page
pub reopen_names : (layout : DiskLayout) (error : StoreError) → IsReopen error → NamesAPage layout error
reopen_names layout errors.Disk never = tt
reopen_names layout (errors.Reopen faults) is = tt
reopen_names layout (errors.Damaged at) never = absurd never

-- a page of the statuses
pub statuses_names : (layout : DiskLayout) (error : StoreError) → NamesStatuses layout error → NamesAPage layout error
statuses_names layout errors.Disk names = tt
statuses_names layout (errors.Reopen faults) names = tt
statuses_names layout (errors.Damaged at) names =
    (record { relation = 0; block = names.0 }, record { relation = omega (arith, count_relations layout); block = (let low = names.1 in omega (arith, low, blocks_of_statuses layout 0 refl)) }, names.2)

-- a page of a table
pub heap_names : (layout : DiskLayout) (table block : ℕ) (error : StoreError) → table < length layout.schema.tables → block < layout.sizes.heap_blocks → NamesPage layout (record { relation = relation_of table; block = block }) error → NamesAPage layout error
heap_names layout table block errors.Disk there below names = tt
heap_names layout table block (errors.Reopen faults) there below names = tt
heap_names layout table block (errors.Damaged at) there below names = (
  record { relation = relation_of table; block = block },
  record { relation = omega (arith, count_relations layout, there); block = omega (arith, below, blocks_of_table layout (relation_of table) (omega arith) (omega (arith, there))) },
  names,
)

-- a page that a relation may have, where an insert is refused
pub relation_names : (layout : DiskLayout) (relation : ℕ) (error : StoreError) → FaultNamesRelation layout relation (faults.Store error) → NamesAPage layout error
relation_names layout relation errors.Disk names = tt
relation_names layout relation (errors.Reopen count) names = tt
relation_names layout relation (errors.Damaged at) names = (record { relation = relation; block = names.0 }, names.1, names.2)

-- a page of an index
pub index_names : (layout : DiskLayout) (index : ℕ) (error : StoreError) → FaultNamesPageOf layout index (faults.Store error) → NamesAPage layout error
index_names layout index errors.Disk names = tt
index_names layout index (errors.Reopen count) names = tt
index_names layout index (errors.Damaged at) names = (record { relation = index_relation layout index; block = names.0 }, names.1, names.2)

-- where a scan judges ranges
pub judged_names : (layout : DiskLayout) (indexes : List ScannedIndex) (stage : ScanStage) (error : StoreError) → NamesJudged layout indexes stage (faults.Store error) → NamesAPage layout error
judged_names layout indexes stage errors.Disk names = tt
judged_names layout indexes stage (errors.Reopen count) names = tt
judged_names layout indexes scan_stages.Extent (errors.Damaged at) names = absurd names
judged_names layout indexes (scan_stages.Map i range) (errors.Damaged at) names = index_names layout (scanned_at indexes i).number (errors.Damaged at) names
judged_names layout indexes (scan_stages.Tuple i range spot) (errors.Damaged at) names = index_names layout (scanned_at indexes i).number (errors.Damaged at) names
judged_names layout indexes scan_stages.Judged (errors.Damaged at) names = absurd names

-- where it reads a block
read_names : (layout : DiskLayout) (table block : ℕ) (error : StoreError) → FaultNamesRead layout table block (faults.Store error) → NamesAPage layout error
read_names layout table block errors.Disk names = tt
read_names layout table block (errors.Reopen count) names = tt
read_names layout table block (errors.Damaged at) names = elim names [
  | inl page ↦ (record { relation = relation_of table; block = block }, page.0, page.1)
  | inr statuses ↦ statuses_names layout (errors.Damaged at) statuses
]

pub next_names : (layout : DiskLayout) (hand : FindHand) (next : Option ℕ) (error : StoreError) → FaultNamesNext layout hand next (faults.Store error) → NamesAPage layout error
next_names layout hand None error names = judged_names layout hand.judging.indexes hand.judging.stage error names
next_names layout hand (Some b) error names = read_names layout hand.judging.query.table b error names

-- where a summarise is refused
pub summary_names : (layout : DiskLayout) (index : ℕ) (stage : SummariseStage) (error : StoreError) → NamesSummarised layout index stage (faults.Store error) → NamesAPage layout error
summary_names layout index summarise_stages.Map error names = index_names layout index error names
summary_names layout index (summarise_stages.Tuple x) error names = index_names layout index error names
summary_names layout index summarise_stages.Place error names = index_names layout index error names
summary_names layout index (summarise_stages.Name x) error names = index_names layout index error names
summary_names layout index summarise_stages.Extent error names = index_names layout index error names
summary_names layout index (summarise_stages.Copy x) error names = index_names layout index error names
summary_names layout index (summarise_stages.Swap x) error names = index_names layout index error names
summary_names layout index (summarise_stages.Set x y) error names = index_names layout index error names
summary_names layout index (summarise_stages.Drop x) error names = index_names layout index error names
summary_names layout index summarise_stages.Had error names = index_names layout index error names
summary_names layout index summarise_stages.Made error names = index_names layout index error names
summary_names layout index summarise_stages.Pass error names = elim names [
  | inl of ↦ index_names layout index error of
  | inr heap ↦ heap_page error heap
]
  where
    heap_page : (error : StoreError) → FaultNamesHeapPage layout index (faults.Store error) → NamesAPage layout error
    heap_page errors.Disk heap = tt
    heap_page (errors.Reopen count) heap = tt
    heap_page (errors.Damaged at) heap = (record { relation = relation_of (table_of layout index); block = heap.0 }, heap.1, heap.2)

-- where a vacuum is
pub vacuum_names : (layout : DiskLayout) (table : ℕ) (error : StoreError) → FaultNamesPage layout table (faults.Store error) → NamesAPage layout error
vacuum_names layout table errors.Disk names = tt
vacuum_names layout table (errors.Reopen count) names = tt
vacuum_names layout table (errors.Damaged at) names = (names.0, names.1, names.2)
