-- what a step leaves, and when each error comes, by what its call says
use Rattle.std.proofs.Common.{◌≡◌, ◌<◌, ℕ, ◌/◌, false, length, List, Option, Some, sym, ap, subst, ◌∙◌}
use Rattle.std.specs.Prelude.{Err}
use Rattle.block_model.specs.declared.place.Spot.{Spot}
use Rattle.store_layout.specs.DiskLayout.{DiskLayout}
use Rattle.disk_trait.specs.Told.{Told}
use Rattle.page_layout.specs.PageContents.{Slot}
use Rattle.page_map.specs.declared.faults.MachineFault.{MachineFault}
use Rattle.page_map.specs.declared.faults.MachineFault.TheVariants as faults
use Rattle.page_map.specs.declared.faults.StoreError.{StoreError}
use Rattle.page_map.specs.declared.faults.StoreError.TheVariants as errors
use Rattle.page_map.specs.Keeps.{Tells}
use Rattle.page_map.specs.Outcome.{Refused}
use Rattle.page_map.specs.PageMap.{View}
use Rattle.page_locks.specs.declared.did.Did.{Did}
use Rattle.page_locks.specs.LockHolders.{LockState}
use Rattle.heap_rows.specs.HeapBlocks.{OfBlocks}
use Rattle.heap_rows.specs.Heaps.{relation_of as heap_of}
use Rattle.heap_rows.specs.PutAnswers.{NamesTable}
use Rattle.coverage.specs.Table.{Inserts, Task}
use Rattle.range_tuple.specs.TupleBytes.{tuple_bytes}
use Rattle.index_contents.specs.IndexContents.{relation_of}
use Rattle.index_contents.specs.IndexChanges.{LeavesOthers}
use Rattle.index_steps.specs.DamagedPages.{table_place}
use Rattle.index_steps.specs.IndexTuples.{index_at, shape_of}
use Rattle.index_steps.specs.Readings.{NamesPageOf}
use Rattle.index_steps.specs.SwapAnswers.{FaultNamesPageOf, MachineOutcome, SaysFullIn}
use Rattle.brin_insert.specs.declared.insert.Insert.{Insert}
use Rattle.brin_insert.specs.InsertAnswers.{FaultNamesRelation, IsInsertFull, LeavesOtherRelations, SaysInsertFull, relation_at, relation_in}
use Rattle.brin_insert.specs.InsertHands.{InsertHand}
use Rattle.brin_insert.specs.InsertSteps.{insert_at, on_index}
use Rattle.brin_insert.specs.Inserts.{IsInsertFor, task_of, work_of}
use Rattle.index_steps.specs.ShownRows.{shown_by}
use Rattle.brin_insert.specs.StepAnswers.{StepFull}
use Rattle.brin_insert.proofs.Tasks.{task_is}

-- the relation of its next step, by where it stands
pub index_next : (layout : DiskLayout) (insert : Insert) (x : Spot) (hand : InsertHand) → insert.place ≡ Some x → work_of insert ≡ Some hand → relation_at layout insert ≡ relation_of layout hand.index
index_next layout insert x hand placed got =
    ap (λ (o : Option Spot). relation_in layout insert.row.table o (work_of insert)) placed ∙ ap (λ (o : Option InsertHand). relation_in layout insert.row.table (Some x) o) got

-- at an index
module _ {D : Type 0} (told : D → Told) (store : View D) (locks : LockState) (s range : ℕ) (insert : Insert) (x : Spot) (hand : InsertHand) (made : IsInsertFor store.layout insert) (placed : insert.place ≡ Some x) (got : work_of insert ≡ Some hand) where
  pub index_names : (fault : MachineFault) → FaultNamesPageOf store.layout hand.index fault → FaultNamesRelation store.layout (relation_at store.layout insert) fault
  index_names fault names = subst (λ (relation : ℕ). FaultNamesRelation store.layout relation fault) (sym (index_next store.layout insert x hand placed got)) (named fault names)
    where
      named : (fault : MachineFault) → FaultNamesPageOf store.layout hand.index fault → FaultNamesRelation store.layout (relation_of store.layout hand.index) fault
      named (faults.Full relation number) names = tt
      named (faults.Store errors.Disk) names = tt
      named (faults.Store (errors.Reopen count)) names = tt
      named (faults.Store (errors.Damaged at)) names = names
      named faults.Memory names = tt

  -- what the law of an insert that lacks a page says
  abbrev FullInTable : Type 0
  FullInTable = (blocks : List (List Slot)) (number : ℕ) → StepFull (shape_of store.layout hand.index) s (x.block / (index_at store.layout hand.index).pages_per_range) (insert_at store.layout store.pages locks hand.index hand.stage insert.copied hand.widened) number
      → IsInsertFull s insert.at (shown_by store.layout store.pages locks insert.row.table blocks)
      (Inserts x.block x.slot insert.row insert.at (on_index (shape_of store.layout hand.index) hand.stage insert.copied (tuple_bytes hand.widened))) number

  pub index_full : insert.asking ≡ false → FullInTable → (fault : MachineFault) → range ≡ x.block / (index_at store.layout hand.index).pages_per_range
      → SaysFullIn store.layout hand.index (λ number. Tells told store → StepFull (shape_of store.layout hand.index) s range (insert_at store.layout store.pages locks hand.index hand.stage insert.copied hand.widened) number) fault
      → SaysInsertFull (relation_at store.layout insert) (λ number. OfBlocks told store insert.row.table (λ blocks. IsInsertFull s insert.at (shown_by store.layout store.pages locks insert.row.table blocks) (task_of store.layout insert) number)) fault
  index_full silent lacks (faults.Full relation number) ranged says = (
    says.0 ∙ sym (index_next store.layout insert x hand placed got),
    λ tells blocks has.
        subst (λ (t : Task). IsInsertFull s insert.at (shown_by store.layout store.pages locks insert.row.table blocks) t number) (sym (task_is store.layout insert x hand placed got silent))
        (lacks blocks number (subst (λ (m : ℕ). StepFull (shape_of store.layout hand.index) s m (insert_at store.layout store.pages locks hand.index hand.stage insert.copied hand.widened) number) ranged (says.1 tells))),
  )
  index_full silent lacks (faults.Store error) ranged says = tt
  index_full silent lacks faults.Memory ranged says = tt

  pub index_others : (new : View D) → LeavesOthers told hand.index store new → LeavesOtherRelations told (relation_at store.layout insert) store new
  index_others new others = subst (λ (relation : ℕ). LeavesOtherRelations told relation store new) (sym (index_next store.layout insert x hand placed got)) (record { leaves = others.leaves; pages = others.pages })

-- where it puts the row, damage is told by a page of the heap
pub heap_names : (layout : DiskLayout) (table relation : ℕ) (fault : MachineFault) → table < length layout.schema.tables → relation ≡ heap_of table → NamesTable layout table fault → FaultNamesRelation layout relation fault
heap_names layout table relation fault there is names = subst (λ (r : ℕ). FaultNamesRelation layout r fault) (sym is) (named fault names)
  where
    named : (fault : MachineFault) → NamesTable layout table fault → FaultNamesRelation layout (heap_of table) fault
    named (faults.Full other number) names = tt
    named (faults.Store errors.Disk) names = tt
    named (faults.Store (errors.Reopen count)) names = tt
    named (faults.Store (errors.Damaged at)) names = (names.0, table_place layout table names.0 there names.1, names.2)
    named faults.Memory names = tt

-- where it asks, damage is told by a page of the map
pub map_names : (layout : DiskLayout) (relation index other : ℕ) (error : StoreError) → relation ≡ relation_of layout index → other ≡ index → NamesPageOf layout other error → FaultNamesRelation layout relation (faults.Store error)
map_names layout relation index other error same is names =
    subst (λ (r : ℕ). FaultNamesRelation layout r (faults.Store error)) (ap (relation_of layout) is ∙ sym same) (named error names)
  where
    named : (error : StoreError) → NamesPageOf layout other error → FaultNamesRelation layout (relation_of layout other) (faults.Store error)
    named errors.Disk names = tt
    named (errors.Reopen count) names = tt
    named (errors.Damaged at) names = names
