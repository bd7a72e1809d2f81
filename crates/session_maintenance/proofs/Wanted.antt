-- whose statement wants the row of a place: it has put it, or it sees it
use Rattle.std.proofs.Common.{◌≡◌, ◌⊎◌, inl, inr, ℕ, zero, suc, ◌<◌, Bool, true, false, List, length, Option, None, Some, refl, sym, ap, subst, ◌∙◌}
use Rattle.std.specs.Prelude.{IsTrue}
use Rattle.std.proofs.lemmas.Bool.{cases_eq, false≢true}
use Rattle.block_model.specs.declared.place.Spot.{Spot}
use Rattle.block_model.specs.declared.row.Row.{Row}
use Rattle.block_model.specs.declared.row.RowId.{RowId}
use Rattle.store_layout.specs.DiskLayout.{DiskLayout}
use Rattle.page_layout.specs.PageContents.{Slot}
use Rattle.page_layout.specs.RowBytes.{StoredRow}
use Rattle.heap_rows.specs.RowPlaces.{slot_at}
use Rattle.snapshot_core.specs.declared.statuses.Status.{Status}
use Rattle.snapshot_core.specs.declared.sessions.Open.{Open}
use Rattle.tx_table.specs.TxState.{TxState}
use Rattle.transactions.specs.GivenStatuses.{given_status}
use Rattle.range_tuple.specs.TupleBytes.{tuple_bytes}
use Rattle.coverage.specs.Knowing.{Knows}
use Rattle.coverage.specs.Statements.{Empty, OnIndex, Statement}
use Rattle.coverage.specs.Table.{Asks, Inserts, Marks, Resting, TableScan, TableState, Task, index_view_at, inserting_of, on_index_by, seen_by}
use Rattle.coverage.specs.TableCovered.{IsInTable, IsTableKept}
use Rattle.coverage.specs.TableSteps.{HasPut, SeesPlace}
use Rattle.index_steps.specs.IndexTuples.{index_at, shape_of}
use Rattle.brin_insert.specs.declared.insert.Insert.{Insert}
use Rattle.brin_insert.specs.InsertHands.{InsertHand}
use Rattle.brin_insert.specs.InsertSteps.{on_index}
use Rattle.brin_insert.specs.Inserts as inserts
use Rattle.bitmap_scan.specs.declared.stage.Stage.{Stage}
use Rattle.bitmap_scan.specs.declared.stage.Stage.TheVariants as stages
use Rattle.bitmap_scan.specs.Explains.{explaining}
use Rattle.bitmap_scan.specs.Finds.{FindHand, scanning, sees_stored}
use Rattle.bitmap_scan.specs.ScanHands.{ScanHand}
use Rattle.bitmap_scan.specs.TableScans as scans
use Rattle.bitmap_scan.specs.TableScans.{Beside}
use Rattle.summarise_core.specs.declared.desummarise_stage.Stage.{Stage as DesummariseStage}
use Rattle.summarise_core.specs.declared.desummarise_stage.Stage.TheVariants as desummarise_stages
use Rattle.summarise_core.specs.Desummarises.{DesummariseState, range_of}
use Rattle.summarise_core.specs.DesummariseTable as desummarises
use Rattle.summarise_core.specs.declared.course.Standing.{Standing}
use Rattle.summarise_core.specs.declared.course.Standing.TheVariants as standings
use Rattle.summarise_core.specs.declared.wish.Wish.{Wish}
use Rattle.summarise_core.specs.declared.wish.Wish.TheVariants as wishes
use Rattle.summarise_core.specs.Summarises.{SummariseState}
use Rattle.summarise_core.specs.SummariseTable as summarises
use Rattle.vacuum_core.specs.declared.standing.Standing.{Standing as VacuumStanding}
use Rattle.vacuum_core.specs.declared.standing.Standing.TheVariants as vacuum_standings
use Rattle.vacuum_core.specs.TableSteps as vacuums
use Rattle.vacuum_core.specs.Vacuums.{VacuumState}
use Rattle.session_parts.specs.SeenBefore.{WasSeenBy}
use Rattle.session_parts.specs.declared.hand.Completing.{Completing}
use Rattle.session_parts.specs.declared.hand.Hand.{Hand}
use Rattle.session_parts.specs.declared.hand.Hand.TheVariants as hands
use Rattle.session_parts.specs.declared.hand.Marking.{Marking}
use Rattle.session_parts.specs.Hands.{hits_left, ids_of}
use Rattle.session_parts.specs.HandsInTables.{InItsTable, IsCompletingAt, IsDesummariseAt, IsExplainAt, IsMarkingBy, IsScanBy, IsSummariseAt, IsTaskOf, sight_of}

-- an insert of that row at that place, at an index or before it asks for a summary there
abbrev pub IsInsertingAt : (b k : ℕ) → Row → (at : ℕ) → Task → Type 0
IsInsertingAt b k r at task = ((on : OnIndex) × (task ≡ Inserts b k r at on)) ⊎ (task ≡ Asks b k r at)

-- the row of this place is that of the insert in hand
pub record IsPutBy (hand : Option Hand) (b k : ℕ) (task : Task) : Type 0 where
  pub insert : Insert
  pub hand_is : hand ≡ Some (hands.Inserts insert)
  pub at : ℕ
  pub is : IsInsertingAt b k insert.row at task

-- the session's transaction sees it
pub record IsSeenBy (blocks : List (List Slot)) (tx : TxState) (stored : List Status) (transaction : Option Open) (b k : ℕ) : Type 0 where
  pub own : Open
  pub is : transaction ≡ Some own
  pub seen : (row : StoredRow) → slot_at blocks (record { block = b; slot = k }) ≡ Some row → IsTrue (sees_stored (sight_of tx stored own) row)

-- a delete that marks saw it, and so did its session's transaction before its own deletes
pub record IsSeenInMarks (blocks : List (List Slot)) (tx : TxState) (stored : List Status) (transaction : Option Open) (b k : ℕ) (task : Task) : Type 0 where
  pub scan : TableScan
  pub ids : List RowId
  pub is : task ≡ Marks scan ids
  pub sees : IsTrue (scan.sees b k)
  pub own : Open
  pub own_is : transaction ≡ Some own
  pub saw : (row : StoredRow) → slot_at blocks (record { block = b; slot = k }) ≡ Some row → WasSeenBy (given_status tx.first stored) own row

nothing : ⊥ ⊎ ⊥ → ⊥
nothing wants = elim wants [ inl none ↦ none | inr none ↦ none ]

module _ (b k : ℕ) where
  abbrev Wants : Task → Type 0
  Wants task = HasPut b k task ⊎ SeesPlace b k task

  -- an insert at this, with that row
  abbrev IsInsertOf : Row → Task → Type 0
  IsInsertOf r task = (at : ℕ) × IsInsertingAt b k r at task

  put_in : (layout : DiskLayout) (x : Spot) (r : Row) (at : ℕ) (copied : List ℕ) (work : Option InsertHand) (asking : Bool) → HasPut b k (inserts.task_in layout x r at copied work asking)
      → IsInsertOf r (inserts.task_in layout x r at copied work asking)
  put_in layout x r at copied None asking has = absurd has
  put_in layout x r at copied (Some hand) true has = (at, inr (λ i. Asks (has.0 i) (has.1 i) r at))
  put_in layout x r at copied (Some hand) false has =
      let on = on_index (shape_of layout hand.index) hand.stage copied (tuple_bytes hand.widened) in
      (at, inl (on, λ i. Inserts (has.0 i) (has.1 i) r at on))

  put_at : (layout : DiskLayout) (insert : Insert) (place : Option Spot) → HasPut b k (inserts.task_at layout insert place) → IsInsertOf insert.row (inserts.task_at layout insert place)
  put_at layout insert None has = absurd has
  put_at layout insert (Some x) has = put_in layout x insert.row insert.at insert.copied (inserts.work_of insert) insert.asking has

  insert_sees_in : (layout : DiskLayout) (x : Spot) (r : Row) (at : ℕ) (copied : List ℕ) (work : Option InsertHand) (asking : Bool) → SeesPlace b k (inserts.task_in layout x r at copied work asking) → ⊥
  insert_sees_in layout x r at copied None asking sees = sees
  insert_sees_in layout x r at copied (Some hand) true sees = sees
  insert_sees_in layout x r at copied (Some hand) false sees = sees

  insert_sees_none : (layout : DiskLayout) (insert : Insert) (place : Option Spot) → SeesPlace b k (inserts.task_at layout insert place) → ⊥
  insert_sees_none layout insert None sees = sees
  insert_sees_none layout insert (Some x) sees = insert_sees_in layout x insert.row insert.at insert.copied (inserts.work_of insert) insert.asking sees

  scan_puts_none : (layout : DiskLayout) (stage : Stage) (hand : ScanHand) (beside : Beside) → HasPut b k (scans.task_of layout stage hand beside) → ⊥
  scan_puts_none layout stages.Extent hand beside has = has
  scan_puts_none layout (stages.Map at range) hand beside has = has
  scan_puts_none layout (stages.Tuple at range spot) hand beside has = has
  scan_puts_none layout stages.Judged hand beside has = has

  -- what a scan wants its session sees
  scan_sees : (layout : DiskLayout) (stage : Stage) (hand : ScanHand) (beside : Beside) → SeesPlace b k (scans.task_of layout stage hand beside) → IsTrue (beside.sees b k)
  scan_sees layout stages.Extent hand beside sees = absurd sees
  scan_sees layout (stages.Map at range) hand beside sees = sees
  scan_sees layout (stages.Tuple at range spot) hand beside sees = sees
  scan_sees layout stages.Judged hand beside sees = sees

  first_wants_none : (wish : Wish) (at : ℕ) → Wants (summarises.before_first wish at) → ⊥
  first_wants_none wishes.New at wants = nothing wants
  first_wants_none (wishes.Block block) at wants = nothing wants
  first_wants_none wishes.Complete at wants = nothing wants

  next_wants_none : (at left : ℕ) → Wants (summarises.next_index at left) → ⊥
  next_wants_none at zero wants = nothing wants
  next_wants_none at (suc left) wants = nothing wants

  last_wants_none : (wish : Wish) (at left : ℕ) → Wants (summarises.behind_last wish at left) → ⊥
  last_wants_none wishes.New at left wants = nothing wants
  last_wants_none (wishes.Block block) at left wants = nothing wants
  last_wants_none wishes.Complete at left wants = next_wants_none at left wants

  summarise_wants_none : (layout : DiskLayout) (at : ℕ) (a : SummariseState) (standing : Standing) → Wants (summarises.task_at layout at a standing) → ⊥
  summarise_wants_none layout at a standings.Begins wants = first_wants_none a.wish at wants
  summarise_wants_none layout at a standings.AtRange wants = nothing wants
  summarise_wants_none layout at a standings.Done wants = last_wants_none a.wish at (summarises.indexes_left layout a.index at) wants

  desummarise_wants_none : (at range : ℕ) (stage : DesummariseStage) → Wants (desummarises.task_at at range stage) → ⊥
  desummarise_wants_none at range desummarise_stages.Right wants = nothing wants
  desummarise_wants_none at range desummarise_stages.Map wants = nothing wants
  desummarise_wants_none at range (desummarise_stages.Clear x) wants = nothing wants
  desummarise_wants_none at range (desummarise_stages.Drop x) wants = nothing wants
  desummarise_wants_none at range desummarise_stages.Lacked wants = nothing wants
  desummarise_wants_none at range desummarise_stages.Cleared wants = nothing wants

  cleaned_wants_none : (indexes : ℕ) → Wants (vacuums.task_done indexes) → ⊥
  cleaned_wants_none zero wants = nothing wants
  cleaned_wants_none (suc more) wants = nothing wants

  vacuum_wants_none : (a : VacuumState) (standing : VacuumStanding) → Wants (vacuums.task_at a standing) → ⊥
  vacuum_wants_none a vacuum_standings.Begins wants = nothing wants
  vacuum_wants_none a (vacuum_standings.Prunes block) wants = nothing wants
  vacuum_wants_none a (vacuum_standings.Sweeps at page) wants = nothing wants
  vacuum_wants_none a vacuum_standings.Done wants = cleaned_wants_none (length a.indexes) wants

  module _ (layout : DiskLayout) (table : ℕ) (blocks : List (List Slot)) (tx : TxState) (stored : List Status) (task : Task) where
    -- what is told of a place that the statement in hand wants
    abbrev pub TellsWho : Option Open → Option Hand → Type 0
    TellsWho transaction hand = (HasPut b k task → IsPutBy hand b k task) × (SeesPlace b k task → IsSeenBy blocks tx stored transaction b k ⊎ IsSeenInMarks blocks tx stored transaction b k task)

    wants_none : {transaction : Option Open} {hand : Option Hand} → (Wants task → ⊥) → TellsWho transaction hand
    wants_none none = (λ has. absurd (none (inl has)), λ sees. absurd (none (inr sees)))

    at_rest : {transaction : Option Open} {hand : Option Hand} → task ≡ Resting → TellsWho transaction hand
    at_rest at = wants_none (λ wants. nothing (subst Wants at wants))

    -- a statement wants none but in its own table
    in_own : {transaction : Option Open} {hand : Option Hand} (own : ℕ) (Here : Type 0) → (Here → TellsWho transaction hand) → InItsTable own table Here task → TellsWho transaction hand
    in_own own Here here at = elim (cases_eq own table) [ inl is ↦ here (at.0 is) | inr away ↦ at_rest (at.1 away) ]

    by_insert : {transaction : Option Open} (insert : Insert) → task ≡ inserts.task_of layout insert → TellsWho transaction (Some (hands.Inserts insert))
    by_insert insert is = (
      λ has.
          let put = put_at layout insert insert.place (subst (HasPut b k) is has) in
          record { insert = insert; hand_is = refl; at = put.0; is = subst (IsInsertingAt b k insert.row put.0) (sym is) put.1 },
      λ sees. absurd (insert_sees_none layout insert insert.place (subst (SeesPlace b k) is sees)),
    )

    by_scan : {hand : Option Hand} (transaction : Option Open) (deletes : Bool) (scan : FindHand) → IsScanBy layout blocks tx stored transaction deletes scan task → TellsWho transaction hand
    by_scan None deletes scan at = absurd at
    by_scan (Some o) deletes scan at = (
      λ has. absurd (scan_puts_none layout scan.judging.stage scan.judging (scanning at.sees at.judged deletes scan) (subst (HasPut b k) at.task_is has)),
      λ sees.
          let so = scan_sees layout scan.judging.stage scan.judging (scanning at.sees at.judged deletes scan) (subst (SeesPlace b k) at.task_is sees) in
          inl (record { own = o; is = refl; seen = λ row there. sym (at.now b k row there) ∙ so }),
    )

    by_marks : {hand : Option Hand} (transaction : Option Open) (marking : Marking) → IsMarkingBy tx stored transaction blocks marking task → TellsWho transaction hand
    by_marks None marking at = absurd at
    by_marks (Some o) marking at = (
      λ has. absurd (subst (HasPut b k) at.task_is has),
      λ sees.
          let so = subst (SeesPlace b k) at.task_is sees in
          inr (record {
            scan = at.scan;
            ids = ids_of (hits_left marking);
            is = at.task_is;
            sees = so;
            own = o;
            own_is = refl;
            saw = λ row there. at.saw (record { block = b; slot = k }) row there so;
          }),
    )

    by_explain : {transaction : Option Open} {hand : Option Hand} (scan : ScanHand) → IsExplainAt layout scan task → TellsWho transaction hand
    by_explain scan at = (
      λ has. absurd (scan_puts_none layout scan.stage scan (explaining at.0) (subst (HasPut b k) at.1 has)),
      λ sees. absurd (false≢true (scan_sees layout scan.stage scan (explaining at.0) (subst (SeesPlace b k) at.1 sees))),
    )

    by_summarise : {transaction : Option Open} {hand : Option Hand} (a : SummariseState) → IsSummariseAt layout a task → TellsWho transaction hand
    by_summarise a at = wants_none (λ wants. summarise_wants_none layout at.0 a a.standing (subst Wants at.2 wants))

    by_desummarise : {transaction : Option Open} {hand : Option Hand} (a : DesummariseState) → IsDesummariseAt layout a task → TellsWho transaction hand
    by_desummarise a at = wants_none (λ wants. desummarise_wants_none at.0 (range_of layout a) a.stage (subst Wants at.2 wants))

    by_vacuum : {transaction : Option Open} {hand : Option Hand} (a : VacuumState) → task ≡ vacuums.task_of a → TellsWho transaction hand
    by_vacuum a at = wants_none (λ wants. vacuum_wants_none a a.standing (subst Wants at wants))

    by_completing : {transaction : Option Open} {hand : Option Hand} (c : Completing) → IsCompletingAt layout c task → TellsWho transaction hand
    by_completing c at = wants_none (λ wants. summarise_wants_none layout c.next at.0 at.0.standing (subst Wants at.2 wants))

    pub tells_who : (transaction : Option Open) (hand : Option Hand) → IsTaskOf layout table blocks tx stored transaction hand task → TellsWho transaction hand
    tells_who transaction None at = at_rest at
    tells_who transaction (Some (hands.Begins numbers)) at = at_rest at
    tells_who transaction (Some hands.Commits) at = at_rest at
    tells_who transaction (Some hands.RollsBack) at = at_rest at
    tells_who transaction (Some (hands.Puts number values)) at = at_rest at
    tells_who transaction (Some (hands.Inserts insert)) at = in_own insert.row.table (task ≡ inserts.task_of layout insert) (by_insert insert) at
    tells_who transaction (Some (hands.Selecting query)) at = at_rest at
    tells_who transaction (Some (hands.Selects scan)) at = in_own scan.judging.query.table (IsScanBy layout blocks tx stored transaction false scan task) (by_scan transaction false scan) at
    tells_who transaction (Some (hands.Deleting query)) at = at_rest at
    tells_who transaction (Some (hands.Deletes scan)) at = in_own scan.judging.query.table (IsScanBy layout blocks tx stored transaction true scan task) (by_scan transaction true scan) at
    tells_who transaction (Some (hands.Marks marking)) at =
        in_own marking.query.table (IsMarkingBy tx stored transaction blocks marking task) (by_marks transaction marking) at
    tells_who transaction (Some (hands.Explains explain)) at = in_own explain.judging.query.table (IsExplainAt layout explain.judging task) (by_explain explain.judging) at
    tells_who transaction (Some (hands.Summarises a)) at = in_own (index_at layout a.index).table (IsSummariseAt layout a task) (by_summarise a) at
    tells_who transaction (Some (hands.Desummarises a)) at = in_own (index_at layout a.index).table (IsDesummariseAt layout a task) (by_desummarise a) at
    tells_who transaction (Some (hands.Cleans c)) at = in_own c.vacuum.table (task ≡ vacuums.task_of c.vacuum) (by_vacuum c.vacuum) at
    tells_who transaction (Some (hands.Completes c)) at = in_own c.table (IsCompletingAt layout c task) (by_completing c) at
    tells_who transaction (Some hands.Working) at = at_rest at
    tells_who transaction (Some (hands.Works requested)) at =
        in_own (index_at layout requested.summarise.index).table (IsSummariseAt layout requested.summarise task) (by_summarise requested.summarise) at

-- ---- in a table that is kept it stands there

on_index_here : (at : ℕ) (on : OnIndex) → on_index_by at at on ≡ Some on
on_index_here zero on = refl
on_index_here (suc at) on = on_index_here at on

-- an index that sees the row's insert
seen_stands : (w : TableState) (m b k at : ℕ) (r : Row) (on : OnIndex) → IsTableKept w → at < w.indexes → seen_by at (w.task m) ≡ inserting_of b k r (on_index_by at at on) → w.row b k ≡ Some r
seen_stands w m b k at r on kept below seen =
    let knows : Knows (index_view_at at w) m (inserting_of b k r (on_index_by at at on)) = subst (λ (q : Statement). Knows (index_view_at at w) m q) seen ((kept.indexes at below).knows m) in
    (subst (λ (o : Option OnIndex). Knows (index_view_at at w) m (inserting_of b k r o)) (on_index_here at on) knows).0

pub put_stands : (w : TableState) (m b k at : ℕ) (r : Row) → IsTableKept w → IsInsertingAt b k r at (w.task m) → w.row b k ≡ Some r
put_stands w m b k at r kept inserting = elim inserting [
  | inl at_index ↦ seen_stands w m b k at r at_index.0 kept (subst (IsInTable w) at_index.1 (kept.inside m)) (ap (seen_by at) at_index.1)
  | inr asks ↦ seen_stands w m b k at r Empty kept (subst (IsInTable w) asks (kept.inside m)) (ap (seen_by at) asks)
]
