-- who has put a row in a table
use Rattle.std.proofs.Common.{◌≡◌, inl, inr, ℕ, zero, suc, ◌<◌, Bool, true, false, List, length, Option, None, Some, refl, subst, ◌⊎◌, sym, ap}
use Rattle.std.proofs.lemmas.Bool.{cases_eq}
use Rattle.block_model.specs.declared.place.Spot.{Spot}
use Rattle.block_model.specs.declared.row.Row.{Row}
use Rattle.store_layout.specs.DiskLayout.{DiskLayout}
use Rattle.page_layout.specs.PageContents.{Slot}
use Rattle.snapshot_core.specs.declared.statuses.Status.{Status}
use Rattle.snapshot_core.specs.declared.sessions.Open.{Open}
use Rattle.tx_table.specs.TxState.{TxState}
use Rattle.coverage.specs.Knowing.{Knows}
use Rattle.coverage.specs.Statements.{OnIndex, Empty, Statement}
use Rattle.coverage.specs.Table.{Inserts, TableState, Task, index_view_at, inserting_of, on_index_by, seen_by, Asks}
use Rattle.coverage.specs.TableCovered.{IsInTable, IsTableKept}
use Rattle.coverage.specs.TableSteps.{HasPut}
use Rattle.index_steps.specs.IndexTuples.{index_at, shape_of}
use Rattle.range_tuple.specs.TupleBytes.{tuple_bytes}
use Rattle.session_parts.specs.Insert.{Insert}
use Rattle.session_parts.specs.InsertHands.{InsertHand}
use Rattle.session_parts.specs.InsertSteps.{on_index}
use Rattle.session_parts.specs.Inserts as inserts
use Rattle.bitmap_scan.specs.declared.stage.Stage.{Stage}
use Rattle.bitmap_scan.specs.declared.stage.Stage.TheVariants as stages
use Rattle.bitmap_scan.specs.Finds.{FindHand}
use Rattle.bitmap_scan.specs.ScanHands.{ScanHand}
use Rattle.bitmap_scan.specs.TableScans as scans
use Rattle.bitmap_scan.specs.TableScans.{Beside}
use Rattle.summarise_core.specs.declared.desummarise_stage.Stage.{Stage as DesummariseStage}
use Rattle.summarise_core.specs.declared.desummarise_stage.Stage.TheVariants as desummarise_stages
use Rattle.summarise_core.specs.Desummarises.{range_of}
use Rattle.summarise_core.specs.DesummariseTable as desummarises
use Rattle.summarise_core.specs.declared.course.Standing.{Standing}
use Rattle.summarise_core.specs.declared.course.Standing.TheVariants as standings
use Rattle.summarise_core.specs.declared.wish.Wish.{Wish}
use Rattle.summarise_core.specs.declared.wish.Wish.TheVariants as wishes
use Rattle.summarise_core.specs.Summarises.{SummariseState}
use Rattle.summarise_core.specs.SummariseTable as summarises
use Rattle.session_parts.specs.Standing.{Standing as VacuumStanding}
use Rattle.session_parts.specs.Standing.TheVariants as vacuum_standings
use Rattle.session_parts.specs.TableSteps as vacuums
use Rattle.session_parts.specs.Vacuums.{VacuumState}
use Rattle.session_parts.specs.declared.hand.Hand.{Hand}
use Rattle.session_parts.specs.declared.hand.Hand.TheVariants as hands
use Rattle.session_parts.specs.declared.hand.Marking.{Marking}
use Rattle.session_parts.specs.HandsInTables.{InItsTable, IsCompletingAt, IsExplainAt, IsMarkingBy, IsScanBy, IsSummariseAt, IsTaskOf, IsDesummariseAt}

-- an insert of that row at that place, at an index or before it asks for a summary there
abbrev pub IsInsertingAt : (b k : ℕ) → Row → (at : ℕ) → Task → Type 0
IsInsertingAt b k r at task = ((on : OnIndex) × (task ≡ Inserts b k r at on)) ⊎ (task ≡ Asks b k r at)

-- the row of this place is that of the insert in hand
pub record IsPutBy (hand : Option Hand) (b k : ℕ) (task : Task) : Type 0 where
  pub insert : Insert
  pub hand_is : hand ≡ Some (hands.Inserts insert)
  pub at : ℕ
  pub is : IsInsertingAt b k insert.row at task

module _ (b k : ℕ) where
  -- an insert at this, with that row
  abbrev IsInsertOf : Row → Task → Type 0
  IsInsertOf r task = (at : ℕ) × IsInsertingAt b k r at task

  put_in : (layout : DiskLayout) (x : Spot) (r : Row) (at : ℕ) (copied : List ℕ) (work : Option InsertHand) (asking : Bool) → HasPut b k (inserts.task_in layout x r at copied work asking)
      → IsInsertOf r (inserts.task_in layout x r at copied work asking)
  put_in layout x r at copied None asking has = absurd has
  put_in layout x r at copied (Some hand) true has = (at, inr (λ i. Asks (has.0 i) (has.1 i) r at))
  put_in layout x r at copied (Some hand) false has =
      let on = on_index (shape_of layout hand.index) hand.stage copied (tuple_bytes hand.widened) in
      (at, inl (on, λ i. Inserts (has.0 i) (has.1 i) r at on))

  put_at : (layout : DiskLayout) (insert : Insert) (place : Option Spot) → HasPut b k (inserts.task_at layout insert place) → IsInsertOf insert.row (inserts.task_at layout insert place)
  put_at layout insert None has = absurd has
  put_at layout insert (Some x) has = put_in layout x insert.row insert.at insert.copied (inserts.work_of insert) insert.asking has

  scan_puts_none : (layout : DiskLayout) (stage : Stage) (hand : ScanHand) (beside : Beside) → HasPut b k (scans.task_of layout stage hand beside) → ⊥
  scan_puts_none layout stages.Extent hand beside has = has
  scan_puts_none layout stage hand beside has = has

  first_puts_none : (wish : Wish) (at : ℕ) → HasPut b k (summarises.before_first wish at) → ⊥
  first_puts_none wishes.New at has = has
  first_puts_none wish at has = has

  next_puts_none : (at left : ℕ) → HasPut b k (summarises.next_index at left) → ⊥
  next_puts_none at zero has = has
  next_puts_none at (suc left) has = has

  last_puts_none : (wish : Wish) (at left : ℕ) → HasPut b k (summarises.behind_last wish at left) → ⊥
  last_puts_none wishes.Complete at left has = next_puts_none at left has
  last_puts_none wish at left has = has

  summarise_puts_none : (layout : DiskLayout) (at : ℕ) (a : SummariseState) (standing : Standing) → HasPut b k (summarises.task_at layout at a standing) → ⊥
  summarise_puts_none layout at a standings.Begins has = first_puts_none a.wish at has
  summarise_puts_none layout at a standings.AtRange has = has
  summarise_puts_none layout at a standings.Done has = last_puts_none a.wish at (summarises.indexes_left layout a.index at) has

  desummarise_puts_none : (at range : ℕ) (stage : DesummariseStage) → HasPut b k (desummarises.task_at at range stage) → ⊥
  desummarise_puts_none at range desummarise_stages.Right has = has
  desummarise_puts_none at range stage has = has

  cleaned_puts_none : (indexes : ℕ) → HasPut b k (vacuums.task_done indexes) → ⊥
  cleaned_puts_none zero has = has
  cleaned_puts_none (suc more) has = has

  vacuum_puts_none : (a : VacuumState) (standing : VacuumStanding) → HasPut b k (vacuums.task_at a standing) → ⊥
  vacuum_puts_none a vacuum_standings.Begins has = has
  vacuum_puts_none a (vacuum_standings.Prunes block) has = has
  vacuum_puts_none a (vacuum_standings.Sweeps at page) has = has
  vacuum_puts_none a vacuum_standings.Done has = cleaned_puts_none (length a.indexes) has

  module _ (layout : DiskLayout) (table : ℕ) (blocks : List (List Slot)) (tx : TxState) (stored : List Status) (transaction : Option Open) (task : Task) where
    scan_by_none : (by : Option Open) (deletes : Bool) (scan : FindHand) → IsScanBy layout blocks tx stored by deletes scan task → HasPut b k task → ⊥
    scan_by_none None deletes scan at has = at
    scan_by_none (Some o) deletes scan at has = scan_puts_none layout scan.judging.stage scan.judging _ (subst (HasPut b k) at.task_is has)

    -- a statement that puts none in its table puts none in any
    in_none : (own : ℕ) (Here : Type 0) → (Here → HasPut b k task → ⊥) → InItsTable own table Here task → HasPut b k task → ⊥
    in_none own Here none at has = elim (cases_eq own table) [
      | inl is ↦ none (at.0 is) has
      | inr away ↦ subst (HasPut b k) (at.1 away) has
    ]

    put_insert : (insert : Insert) → InItsTable insert.row.table table (task ≡ inserts.task_of layout insert) task → HasPut b k task → IsPutBy (Some (hands.Inserts insert)) b k task
    put_insert insert at has = elim (cases_eq insert.row.table table) [
      | inl is ↦
          let put = put_at layout insert insert.place (subst (HasPut b k) (at.0 is) has) in
          record { insert = insert; hand_is = refl; at = put.0; is = subst (IsInsertingAt b k insert.row put.0) (sym (at.0 is)) put.1 }
      | inr away ↦ absurd (subst (HasPut b k) (at.1 away) has)
    ]

    marks_by_none : (transaction : Option Open) (marking : Marking) → IsMarkingBy tx stored transaction blocks marking task → HasPut b k task → ⊥
    marks_by_none None marking at has = at
    marks_by_none (Some o) marking at has = subst (HasPut b k) at.task_is has

    pub put_by : (hand : Option Hand) → IsTaskOf layout table blocks tx stored transaction hand task → HasPut b k task → IsPutBy hand b k task
    put_by None at has = absurd (subst (HasPut b k) at has)
    put_by (Some (hands.Inserts insert)) at has = put_insert insert at has
    put_by (Some (hands.Selects scan)) at has = absurd (in_none scan.judging.query.table (IsScanBy layout blocks tx stored transaction false scan task) (scan_by_none transaction false scan) at has)
    put_by (Some (hands.Deletes scan)) at has = absurd (in_none scan.judging.query.table (IsScanBy layout blocks tx stored transaction true scan task) (scan_by_none transaction true scan) at has)
    put_by (Some (hands.Marks marking)) at has =
        absurd (in_none marking.query.table (IsMarkingBy tx stored transaction blocks marking task) (marks_by_none transaction marking) at has)
    put_by (Some (hands.Explains explain)) at has =
        absurd (in_none explain.judging.query.table (IsExplainAt layout explain.judging task)
        (λ (there : IsExplainAt layout explain.judging task) put. scan_puts_none layout explain.judging.stage explain.judging _ (subst (HasPut b k) there.1 put)) at has)
    put_by (Some (hands.Summarises a)) at has =
        absurd (in_none (index_at layout a.index).table (IsSummariseAt layout a task)
        (λ (there : IsSummariseAt layout a task) put. summarise_puts_none layout there.0 a a.standing (subst (HasPut b k) there.2 put)) at has)
    put_by (Some (hands.Desummarises a)) at has =
        absurd (in_none (index_at layout a.index).table (IsDesummariseAt layout a task)
        (λ (there : IsDesummariseAt layout a task) put. desummarise_puts_none there.0 (range_of layout a) a.stage (subst (HasPut b k) there.2 put)) at has)
    put_by (Some (hands.Cleans c)) at has =
        absurd (in_none c.vacuum.table (task ≡ vacuums.task_of c.vacuum) (λ there put. vacuum_puts_none c.vacuum c.vacuum.standing (subst (HasPut b k) there put)) at has)
    put_by (Some (hands.Completes c)) at has =
        absurd (in_none c.table (IsCompletingAt layout c task)
        (λ (there : IsCompletingAt layout c task) put. summarise_puts_none layout c.next there.0 there.0.standing (subst (HasPut b k) there.2 put)) at has)
    put_by (Some (hands.Works requested)) at has =
        absurd (in_none (index_at layout requested.summarise.index).table (IsSummariseAt layout requested.summarise task)
        (λ (there : IsSummariseAt layout requested.summarise task) put. summarise_puts_none layout there.0 requested.summarise requested.summarise.standing (subst (HasPut b k) there.2 put)) at has)
    put_by (Some hand) at has = absurd (subst (HasPut b k) at has)

-- ---- in a table that is kept it stands there

on_index_here : (at : ℕ) (on : OnIndex) → on_index_by at at on ≡ Some on
on_index_here zero on = refl
on_index_here (suc at) on = on_index_here at on

-- an index that sees the row's insert
seen_stands : (w : TableState) (m b k at : ℕ) (r : Row) (on : OnIndex) → IsTableKept w → at < w.indexes → seen_by at (w.task m) ≡ inserting_of b k r (on_index_by at at on) → w.row b k ≡ Some r
seen_stands w m b k at r on kept below seen =
    let knows : Knows (index_view_at at w) m (inserting_of b k r (on_index_by at at on)) = subst (λ (q : Statement). Knows (index_view_at at w) m q) seen ((kept.indexes at below).knows m) in
    (subst (λ (o : Option OnIndex). Knows (index_view_at at w) m (inserting_of b k r o)) (on_index_here at on) knows).0

pub put_stands : (w : TableState) (m b k at : ℕ) (r : Row) → IsTableKept w → IsInsertingAt b k r at (w.task m) → w.row b k ≡ Some r
put_stands w m b k at r kept inserting = elim inserting [
  | inl at_index ↦ seen_stands w m b k at r at_index.0 kept (subst (IsInTable w) at_index.1 (kept.inside m)) (ap (seen_by at) at_index.1)
  | inr asks ↦ seen_stands w m b k at r Empty kept (subst (IsInTable w) asks (kept.inside m)) (ap (seen_by at) asks)
]
