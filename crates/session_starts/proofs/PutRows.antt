-- Whose row a statement has put in a table.
use Rattle.std.proofs.Common.{◌≡◌, inl, inr, ℕ, zero, suc, Bool, true, false, List, length, Option, None, Some, refl, sym, ap, ◌∙◌}
use Rattle.std.proofs.lemmas.Bool.{cases_eq}
use Rattle.std.proofs.lemmas.Option.{none-some, same_Some}
use Rattle.block_model.specs.declared.place.Spot.{Spot}
use Rattle.block_model.specs.declared.row.Row.{Row}
use Rattle.store_layout.specs.DiskLayout.{DiskLayout}
use Rattle.page_layout.specs.PageContents.{Slot}
use Rattle.snapshot_core.specs.declared.statuses.Status.{Status}
use Rattle.snapshot_core.specs.declared.sessions.Open.{Open}
use Rattle.tx_table.specs.TxState.{TxState}
use Rattle.coverage.specs.Statements.{Empty, Holding, Inserting, Maintaining, OnIndex, Statement}
use Rattle.coverage.specs.Table.{Asks, Considers, Inserts, Maintains, Marks, Prunes, Reaches, Restarts, Resting, Scans, Sweeps, SweepsFrom, Task, inserting_of, on_index_by, pick, seen_by}
use Rattle.index_steps.specs.IndexTuples.{index_at}
use Rattle.summarise_core.specs.declared.desummarise_stage.Stage.{Stage as DesummariseStage}
use Rattle.summarise_core.specs.declared.desummarise_stage.Stage.TheVariants as desummarise_stages
use Rattle.summarise_core.specs.Desummarises.{range_of}
use Rattle.summarise_core.specs.DesummariseTable as desummarises
use Rattle.session_parts.specs.Insert.{Insert}
use Rattle.session_parts.specs.InsertHands.{InsertHand}
use Rattle.session_parts.specs.Inserts as inserts
use Rattle.session_parts.specs.Stage.{Stage}
use Rattle.session_parts.specs.Stage.TheVariants as stages
use Rattle.session_parts.specs.Finds.{FindHand}
use Rattle.session_parts.specs.ScanHands.{ScanHand}
use Rattle.session_parts.specs.TableScans as scans
use Rattle.session_parts.specs.TableScans.{Beside}
use Rattle.summarise_core.specs.declared.course.Standing.{Standing}
use Rattle.summarise_core.specs.declared.course.Standing.TheVariants as standings
use Rattle.summarise_core.specs.declared.wish.Wish.{Wish}
use Rattle.summarise_core.specs.declared.wish.Wish.TheVariants as wishes
use Rattle.summarise_core.specs.Summarises.{SummariseState}
use Rattle.summarise_core.specs.SummariseTable as summarises
use Rattle.session_parts.specs.Standing.{Standing as VacuumStanding}
use Rattle.session_parts.specs.Standing.TheVariants as vacuum_standings
use Rattle.session_parts.specs.TableSteps as vacuums
use Rattle.session_parts.specs.Vacuums.{VacuumState}
use Rattle.session_parts.specs.declared.hand.Hand.{Hand}
use Rattle.session_parts.specs.declared.hand.Hand.TheVariants as hands
use Rattle.session_parts.specs.declared.hand.Marking.{Marking}
use Rattle.session_parts.specs.HandsInTables.{InItsTable, IsCompletingAt, IsDesummariseAt, IsExplainAt, IsMarkingBy, IsScanBy, IsSummariseAt, IsTaskOf}

-- the row that an insert at this task has put
abbrev pub row_put : Task → Option Row
row_put (Reaches b k r at) = Some r
row_put (Asks b k r at) = Some r
row_put (Inserts b k r at on_index) = Some r
row_put task = None

-- ---- as an index sees it

abbrev row_of : Statement → Option Row
row_of (Inserting b k r on_index) = Some r
row_of statement = None

row_inserting : (b k : ℕ) (r q : Row) (o : Option OnIndex) → row_of (inserting_of b k r o) ≡ Some q → Some r ≡ Some q
row_inserting b k r q None is = absurd (none-some q is)
row_inserting b k r q (Some on_index) is = is

none_of_two : (n m : ℕ) (a b : Statement) → row_of a ≡ None → row_of b ≡ None → row_of (pick n m a b) ≡ None
none_of_two zero zero a b first second = first
none_of_two zero (suc m) a b first second = second
none_of_two (suc n) zero a b first second = second
none_of_two (suc n) (suc m) a b first second = none_of_two n m a b first second

row_seen : (i : ℕ) (task : Task) (q : Row) → row_of (seen_by i task) ≡ Some q → row_put task ≡ Some q
row_seen i Resting q is = absurd (none-some q is)
row_seen i (Reaches b k r at) q is = row_inserting b k r q (on_index_by i at Empty) is
row_seen i (Asks b k r at) q is = row_inserting b k r q (on_index_by i at Empty) is
row_seen i (Inserts b k r at on_index) q is = row_inserting b k r q (on_index_by i at on_index) is
row_seen i (Considers job at range) q is = absurd (none-some q is)
row_seen i (Maintains job at range phase) q is = absurd (none-some q (sym (none_of_two i at (Maintaining range phase) Holding refl refl) ∙ is))
row_seen i (Prunes extent next) q is = absurd (none-some q is)
row_seen i (SweepsFrom at from) q is = absurd (none-some q is)
row_seen i (Sweeps at page) q is = absurd (none-some q is)
row_seen i (Restarts at) q is = absurd (none-some q is)
row_seen i (Scans scan) q is = absurd (none-some q is)
row_seen i (Marks scan ids) q is = absurd (none-some q is)

-- an index sees an insert of a row that is put
pub row_inserted : (i b k : ℕ) (r : Row) (on_index : OnIndex) (task : Task) → seen_by i task ≡ Inserting b k r on_index → row_put task ≡ Some r
row_inserted i b k r on_index task is = row_seen i task r (ap row_of is)

-- ---- by the statement in hand

-- the row of an insert in hand
pub record IsRowInHand (hand : Option Hand) (r : Row) : Type 0 where
  pub insert : Insert
  pub is : hand ≡ Some (hands.Inserts insert)
  pub row : r ≡ insert.row

scan_puts_none : (layout : DiskLayout) (stage : Stage) (hand : ScanHand) (beside : Beside) → row_put (scans.task_of layout stage hand beside) ≡ None
scan_puts_none layout stages.Extent hand beside = refl
scan_puts_none layout (stages.Map at range) hand beside = refl
scan_puts_none layout (stages.Tuple at range spot) hand beside = refl
scan_puts_none layout stages.Judged hand beside = refl

first_puts_none : (wish : Wish) (at : ℕ) → row_put (summarises.before_first wish at) ≡ None
first_puts_none wishes.New at = refl
first_puts_none (wishes.Block block) at = refl
first_puts_none wishes.Complete at = refl

next_puts_none : (at left : ℕ) → row_put (summarises.next_index at left) ≡ None
next_puts_none at zero = refl
next_puts_none at (suc left) = refl

last_puts_none : (wish : Wish) (at left : ℕ) → row_put (summarises.behind_last wish at left) ≡ None
last_puts_none wishes.New at left = refl
last_puts_none (wishes.Block block) at left = refl
last_puts_none wishes.Complete at left = next_puts_none at left

summarise_puts_none : (layout : DiskLayout) (at : ℕ) (a : SummariseState) (standing : Standing) → row_put (summarises.task_at layout at a standing) ≡ None
summarise_puts_none layout at a standings.Begins = first_puts_none a.wish at
summarise_puts_none layout at a standings.AtRange = refl
summarise_puts_none layout at a standings.Done = last_puts_none a.wish at (summarises.indexes_left layout a.index at)

desummarise_puts_none : (at range : ℕ) (stage : DesummariseStage) → row_put (desummarises.task_at at range stage) ≡ None
desummarise_puts_none at range desummarise_stages.Right = refl
desummarise_puts_none at range desummarise_stages.Map = refl
desummarise_puts_none at range (desummarise_stages.Clear x) = refl
desummarise_puts_none at range (desummarise_stages.Drop x) = refl
desummarise_puts_none at range desummarise_stages.Lacked = refl
desummarise_puts_none at range desummarise_stages.Cleared = refl

cleaned_puts_none : (indexes : ℕ) → row_put (vacuums.task_done indexes) ≡ None
cleaned_puts_none zero = refl
cleaned_puts_none (suc more) = refl

vacuum_puts_none : (a : VacuumState) (standing : VacuumStanding) → row_put (vacuums.task_at a standing) ≡ None
vacuum_puts_none a vacuum_standings.Begins = refl
vacuum_puts_none a (vacuum_standings.Prunes block) = refl
vacuum_puts_none a (vacuum_standings.Sweeps at page) = refl
vacuum_puts_none a vacuum_standings.Done = cleaned_puts_none (length a.indexes)

row_in_task : (layout : DiskLayout) (x : Spot) (r q : Row) (at : ℕ) (copied : List ℕ) (work : Option InsertHand) (asking : Bool) → row_put (inserts.task_in layout x r at copied work asking) ≡ Some q → q ≡ r
row_in_task layout x r q at copied None asking is = absurd (none-some q is)
row_in_task layout x r q at copied (Some hand) true is = sym (same_Some r q is)
row_in_task layout x r q at copied (Some hand) false is = sym (same_Some r q is)

insert_puts : (layout : DiskLayout) (insert : Insert) (place : Option Spot) (q : Row) → row_put (inserts.task_at layout insert place) ≡ Some q → q ≡ insert.row
insert_puts layout insert None q is = absurd (none-some q is)
insert_puts layout insert (Some x) q is = row_in_task layout x insert.row q insert.at insert.copied (inserts.work_of insert) insert.asking is

module _ (layout : DiskLayout) (table : ℕ) (blocks : List (List Slot)) (tx : TxState) (stored : List Status) (task : Task) where
  -- a statement that puts none in its table puts none in any
  none_in : (own : ℕ) (Here : Type 0) → (Here → row_put task ≡ None) → InItsTable own table Here task → row_put task ≡ None
  none_in own Here none at = elim (cases_eq own table) [
    | inl is ↦ none (at.0 is)
    | inr away ↦ ap row_put (at.1 away)
  ]

  none_by_scan : (by : Option Open) (deletes : Bool) (scan : FindHand) → IsScanBy layout blocks tx stored by deletes scan task → row_put task ≡ None
  none_by_scan None deletes scan at = absurd at
  none_by_scan (Some o) deletes scan at = ap row_put at.task_is ∙ scan_puts_none layout scan.judging.stage scan.judging _

  none_by_marks : (by : Option Open) (marking : Marking) → IsMarkingBy tx stored by blocks marking task → row_put task ≡ None
  none_by_marks None marking at = absurd at
  none_by_marks (Some o) marking at = ap row_put at.task_is

  none_by_summarise : (a : SummariseState) → IsSummariseAt layout a task → row_put task ≡ None
  none_by_summarise a at = ap row_put at.2 ∙ summarise_puts_none layout at.0 a a.standing

  module _ (transaction : Option Open) (q : Row) (put : row_put task ≡ Some q) where
    none_put : (hand : Option Hand) → row_put task ≡ None → IsRowInHand hand q
    none_put hand none = absurd (none-some q (sym none ∙ put))

    by_insert : (insert : Insert) → InItsTable insert.row.table table (task ≡ inserts.task_of layout insert) task → IsRowInHand (Some (hands.Inserts insert)) q
    by_insert insert at = elim (cases_eq insert.row.table table) [
      | inl is ↦ record { insert = insert; is = refl; row = insert_puts layout insert insert.place q (sym (ap row_put (at.0 is)) ∙ put) }
      | inr away ↦ none_put (Some (hands.Inserts insert)) (ap row_put (at.1 away))
    ]

    -- a row is put by an insert in hand alone, and it is its row
    pub row_in_hand : (hand : Option Hand) → IsTaskOf layout table blocks tx stored transaction hand task → IsRowInHand hand q
    row_in_hand None at = none_put None (ap row_put at)
    row_in_hand (Some (hands.Begins numbers)) at = none_put (Some (hands.Begins numbers)) (ap row_put at)
    row_in_hand (Some hands.Commits) at = none_put (Some hands.Commits) (ap row_put at)
    row_in_hand (Some hands.RollsBack) at = none_put (Some hands.RollsBack) (ap row_put at)
    row_in_hand (Some (hands.Puts number values)) at = none_put (Some (hands.Puts number values)) (ap row_put at)
    row_in_hand (Some (hands.Inserts insert)) at = by_insert insert at
    row_in_hand (Some (hands.Selecting query)) at = none_put (Some (hands.Selecting query)) (ap row_put at)
    row_in_hand (Some (hands.Selects scan)) at =
        none_put (Some (hands.Selects scan)) (none_in scan.judging.query.table (IsScanBy layout blocks tx stored transaction false scan task) (none_by_scan transaction false scan) at)
    row_in_hand (Some (hands.Deleting query)) at = none_put (Some (hands.Deleting query)) (ap row_put at)
    row_in_hand (Some (hands.Deletes scan)) at =
        none_put (Some (hands.Deletes scan)) (none_in scan.judging.query.table (IsScanBy layout blocks tx stored transaction true scan task) (none_by_scan transaction true scan) at)
    row_in_hand (Some (hands.Marks marking)) at =
        none_put (Some (hands.Marks marking)) (none_in marking.query.table (IsMarkingBy tx stored transaction blocks marking task) (none_by_marks transaction marking) at)
    row_in_hand (Some (hands.Explains explain)) at =
        none_put (Some (hands.Explains explain)) (none_in explain.judging.query.table (IsExplainAt layout explain.judging task)
        (λ (there : IsExplainAt layout explain.judging task). ap row_put there.1 ∙ scan_puts_none layout explain.judging.stage explain.judging _) at)
    row_in_hand (Some (hands.Summarises a)) at =
        none_put (Some (hands.Summarises a)) (none_in (index_at layout a.index).table (IsSummariseAt layout a task) (none_by_summarise a) at)
    row_in_hand (Some (hands.Desummarises a)) at =
        none_put (Some (hands.Desummarises a)) (none_in (index_at layout a.index).table (IsDesummariseAt layout a task)
        (λ (there : IsDesummariseAt layout a task). ap row_put there.2 ∙ desummarise_puts_none there.0 (range_of layout a) a.stage) at)
    row_in_hand (Some (hands.Cleans c)) at =
        none_put (Some (hands.Cleans c)) (none_in c.vacuum.table (task ≡ vacuums.task_of c.vacuum) (λ there. ap row_put there ∙ vacuum_puts_none c.vacuum c.vacuum.standing) at)
    row_in_hand (Some (hands.Completes c)) at =
        none_put (Some (hands.Completes c)) (none_in c.table (IsCompletingAt layout c task)
        (λ (there : IsCompletingAt layout c task). ap row_put there.2 ∙ summarise_puts_none layout c.next there.0 there.0.standing) at)
    row_in_hand (Some hands.Working) at = none_put (Some hands.Working) (ap row_put at)
    row_in_hand (Some (hands.Works r)) at =
        none_put (Some (hands.Works r)) (none_in (index_at layout r.summarise.index).table (IsSummariseAt layout r.summarise task) (none_by_summarise r.summarise) at)
