-- Where a table's statement comes by its step, and whole runs of them.
use Rattle.std.proofs.Common.{◌≡◌, ◌≢◌, ◌⊎◌, inl, inr, ⊎_elim, ℕ, ◌<◌, true, false, ◌∷◌, sym, ◌∙◌, ap, subst, suc, arith}
use Rattle.std.specs.Prelude.{refl}
use Rattle.std.proofs.lemmas.Bool.{cases_eq}
use Rattle.coverage.specs.IndexView.{IndexView}
use Rattle.coverage.specs.Changes.{SameHeap}
use Rattle.coverage.specs.Statements.{Empty, Phase, NotBuilding, Statement, Idle, Inserting, Maintaining, Holding, Scanning}
use Rattle.coverage.specs.IsCovered.{IsIndexKept}
use Rattle.coverage.specs.Steps.{BeginRange, EndScan, Counts}
use Rattle.coverage.specs.Table.{Job, WholeRanges, Desummarising, TableScan, Task, Resting, Asks, Inserts, Considers, Maintains, SweepsFrom, Restarts, Scans}
use Rattle.coverage.specs.Table.{Marks, TableState, pick, inserting_of, scan_at, seen_by, index_state, index_view_at}
use Rattle.coverage.specs.TableSteps.{TaskTurns, OnlyTurns, JobStep, Fails, Does, PutsRow, RefusesRow, AsksSummary, InsertGoes, InsertCompletes, RefusesInsert}
use Rattle.coverage.specs.TableSteps.{TakesLock, MaintainGoes, MaintainCompletes, RefusesMaintain, RefusesVacuum, PrunesBlock, SweepsPage, RestartsIndex}
use Rattle.coverage.specs.TableSteps.{BeginsScan, Judges, ReadsBlock, RefusesScan, MarksRow, Conflicts, Blocked, Transacts, Onward, Inserted, ToRange, NoPage}
use Rattle.coverage.specs.TableSteps.{Pruned, JudgesNext, Scanned, ToMarks, Settles, GoesOn, GivesLock, TableStep}
use Rattle.coverage.specs.TableCovered.{AreIndexesKept}
use Rattle.coverage.proofs.Runs.{step_kept, insert_keeps, summarise_keeps, desummarise_keeps}
use Rattle.coverage.proofs.Views.{pick_same, pick_other, held_none, on_index_below, turned_at, reads_at}
use Rattle.coverage.proofs.TableRuns.{vacuuming_holds, maintained_holds, known, steps, only_rests, puts_row, insert_goes, insert_completes, refuses_insert}
use Rattle.coverage.proofs.TableRuns.{fails_unseen, takes_lock, maintains, refuses_maintain, gives_lock, prunes, sweeps_page, begins_scan, ends_scan, judges}
use Rattle.coverage.proofs.TableRuns.{reads_block}

pub job_lock_kept : (job : Job) (s range : ℕ) (w v : IndexView) (old : Phase) (new : Statement) → JobStep job s range w v old new
    → v.summarise_lock ≡ w.summarise_lock
job_lock_kept (Desummarising only) s range w v old new step = (desummarise_keeps s range w v old new step).1
job_lock_kept _ s range w v old new step = (summarise_keeps s range w v old new step).1

pub job_heap_kept : (job : Job) (s range : ℕ) (w v : IndexView) (old : Phase) (new : Statement) → JobStep job s range w v old new → SameHeap w v
job_heap_kept (Desummarising only) s range w v old new step = (desummarise_keeps s range w v old new step).0
job_heap_kept _ s range w v old new step = (summarise_keeps s range w v old new step).0

module _ (s : ℕ) (w v : TableState) (kept : AreIndexesKept w) (i : ℕ) (below : i < w.indexes) where
  -- want of memory ends a scan, and then its transaction fails
  scan_fails : (scan : TableScan) (t : ℕ) → TaskTurns s w v (Scans scan) Resting → Fails w v t → IsIndexKept (index_state i v)
  scan_fails scan t turns fails =
      let still : TableState = record v { counts = w.counts } in
      let turned : TaskTurns s w still (Scans scan) Resting = record { was = turns.was; now = turns.now; others = turns.others } in
      let only : OnlyTurns w still = record {
        rows = record {
          layout = record { indexes = fails.layout.indexes; rows_per_page = fails.layout.rows_per_page; heap_limit = fails.layout.heap_limit };
          blocks = fails.blocks;
          row = fails.row;
          counts = λ n. refl;
        };
        indexes = record { index = fails.indexes.index };
        summarise_lock = fails.summarise_lock;
      } in
      step_kept s (index_state i still) (index_state i v) (ends_scan s w still kept i below scan turned only)
      (Counts v.counts (λ n counted. inl (fails.fewer n counted)) refl)

  pub does_kept : Does s w v → IsIndexKept (index_state i v)
  does_kept (PutsRow b k r place turns takes) = puts_row s w v kept i below b k r place turns takes
  does_kept (RefusesRow t refused turns fails) = fails_unseen s w v kept i below Resting t turns fails refl
  does_kept (AsksSummary b k r at turns only) = only_rests s w v kept i below (Asks b k r at) (Inserts b k r at Empty) turns only refl
  does_kept (InsertGoes b k r at old new turns stepped step) =
      insert_goes s w v kept i below b k r at old new turns stepped step
      (insert_keeps s b k r (index_view_at at w) (index_view_at at v) old (Inserting b k r new) step).1
  does_kept (InsertCompletes b k r at old turns stepped step) =
      insert_completes s w v kept i below b k r at old turns stepped step (insert_keeps s b k r (index_view_at at w) (index_view_at at v) old Idle step).1
  does_kept (RefusesInsert b k r old refused turns fails) = refuses_insert s w v kept i below b k r old refused turns fails
  does_kept (TakesLock first begins turns free held rows indexes) = takes_lock s w v kept i below first begins turns free held rows indexes
  does_kept (MaintainGoes job at range old new turns stepped step) =
      maintains s w v kept i below job at range old (Maintains job at range new) (Maintaining range new) turns stepped step
      (pick_same at (Maintaining range new) Holding)
      (λ j apart.
      pick_other j at (Maintaining range new) Holding apart) (job_lock_kept job s range (index_view_at at w) (index_view_at at v) old
      (Maintaining range new) step)
  does_kept (MaintainCompletes job at range old turns stepped step) =
      maintains s w v kept i below job at range old (Considers job at (suc range)) Holding turns stepped step refl (λ j apart. refl)
      (job_lock_kept job s range (index_view_at at w) (index_view_at at v) old Holding step)
  does_kept (RefusesMaintain job at range _ (NoPage number phase full) turns stepped passes) =
      refuses_maintain s w v kept i below job at range number phase full turns stepped passes
  does_kept (RefusesVacuum old vacuuming turns given rows indexes) =
      gives_lock s w v kept i below old (vacuuming_holds i old vacuuming) turns given rows indexes
  does_kept (PrunesBlock extent next dropped inside spared turns drops) = prunes s w v kept i below extent next dropped spared turns drops
  does_kept (SweepsPage at page turns stepped sweeps) = sweeps_page s w v kept i below at page turns stepped sweeps
  does_kept (RestartsIndex at turns only) = only_rests s w v kept i below (Restarts at) (Considers (WholeRanges w.blocks) at 0) turns only refl
  does_kept (BeginsScan scan begins turns only) = begins_scan s w v kept i below scan begins turns only
  does_kept (Judges old new inside low step turns only) = judges s w v kept i below old new inside step turns only
  does_kept (ReadsBlock scan next found reads turns only) = reads_block s w v kept i below scan next found reads turns only
  does_kept (RefusesScan scan t turns how) = ⊎_elim
      (λ (fails : (scan.explains ≡ false) × Fails w v t). scan_fails scan t turns fails.1)
      (λ (only : (scan.explains ≡ true) × OnlyTurns w v). ends_scan s w v kept i below scan turns only.1)
      how
  does_kept (MarksRow scan id rest turns only) = only_rests s w v kept i below (Marks scan (id ∷ rest)) (Marks scan rest) turns only refl
  does_kept (Conflicts scan id rest t turns fails) = fails_unseen s w v kept i below (Marks scan (id ∷ rest)) t turns fails refl
  does_kept (Blocked task blocked turns only) = only_rests s w v kept i below task task turns only refl
  does_kept (Transacts counts resting few same) = steps s w v kept i below (Counts counts few (ap (index_state i) same))

-- the table keeps its indexes
pub does_layout : (s : ℕ) (w v : TableState) → Does s w v → v.indexes ≡ w.indexes
does_layout s w v does = grind arith

-- What an index sees of going on: nothing, or that a range of it begins, or that a scan ends.
abbrev SeesOnward : ℕ → Task → Task → Type 0
SeesOnward i old new = (seen_by i new ≡ seen_by i old)
    ⊎ ((range : ℕ) × (seen_by i old ≡ Holding) × (seen_by i new ≡ Maintaining range (NotBuilding Empty)))
    ⊎ ((scan : TableScan) × (seen_by i old ≡ Scanning (scan_at i scan)) × (seen_by i new ≡ Idle))

module _ (i : ℕ) (w : TableState) (below : i < w.indexes) where
  onward_view : (old new : Task) → Onward w old new → SeesOnward i old new
  onward_view _ _ (Inserted b k r at all) = inl (sym (ap (inserting_of b k r) (on_index_below i at Empty (subst (λ n. i < n) (sym all) below))))
  onward_view _ _ (ToRange job at range has) = ⊎_elim
      (λ (is : i ≡ at).
      inr (inl (
        range,
        refl,
        subst (λ m. pick m at (Maintaining range (NotBuilding Empty)) Holding ≡ Maintaining range (NotBuilding Empty)) (sym is)
            (pick_same at (Maintaining range (NotBuilding Empty)) Holding),
      )))
      (λ (apart : i ≢ at). inl (pick_other i at (Maintaining range (NotBuilding Empty)) Holding apart))
      (cases_eq i at)
  onward_view _ _ (Pruned extent next new all more) = onward_view (SweepsFrom 0 0) new more
  onward_view _ _ (JudgesNext scan new inside all empty more) = moved (onward_view (Scans (record scan { at = suc scan.at; range = 0 })) new more)
    where
      view : seen_by i (Scans (record scan { at = suc scan.at; range = 0 })) ≡ seen_by i (Scans scan)
      view =
          ap (λ h. Scanning (record (scan_at i scan) { held = h }))
          (held_none i (suc scan.at) 0 scan.held empty ∙ sym (held_none i scan.at scan.range scan.held empty))

      moved : SeesOnward i (Scans (record scan { at = suc scan.at; range = 0 })) new → SeesOnward i (Scans scan) new
      moved sees = ⊎_elim
          (λ (same : seen_by i new ≡ seen_by i (Scans (record scan { at = suc scan.at; range = 0 }))). inl (same ∙ view))
          (λ (other :
          ((range : ℕ) × (seen_by i (Scans (record scan { at = suc scan.at; range = 0 })) ≡ Holding) × (seen_by i new ≡ Maintaining range (NotBuilding Empty)))
          ⊎ ((q : TableScan) × (seen_by i (Scans (record scan { at = suc scan.at; range = 0 })) ≡ Scanning (scan_at i q)) × (seen_by i new ≡ Idle))). ⊎_elim
          (λ (begins : (range : ℕ) × (seen_by i (Scans (record scan { at = suc scan.at; range = 0 })) ≡ Holding) ×
          (seen_by i new ≡ Maintaining range (NotBuilding Empty))).
          inr (inl (begins.0, sym view ∙ begins.1, begins.2)))
          (λ (ends : (q : TableScan) × (seen_by i (Scans (record scan { at = suc scan.at; range = 0 })) ≡ Scanning (scan_at i q)) × (seen_by i new ≡ Idle)).
          inr (inr (ends.0, sym view ∙ ends.1, ends.2)))
          other)
          sees
  onward_view _ _ (Scanned scan read nothing) = inr (inr (scan, refl, refl))
  onward_view _ _ (ToMarks scan id rest read reads deletes lists) = inr (inr (scan, refl, refl))
  onward_view _ _ _ = inl refl

module _ (s : ℕ) (w v : TableState) (kept : AreIndexesKept w) (i : ℕ) (below : i < w.indexes) where
  goes_on : (old new : Task) → Onward w old new → TaskTurns s w v old new → OnlyTurns w v → IsIndexKept (index_state i v)
  goes_on old new onward turns only = ⊎_elim
      (λ (same : seen_by i new ≡ seen_by i old). only_rests s w v kept i below old new turns only same)
      (λ (other : ((range : ℕ) × (seen_by i old ≡ Holding) × (seen_by i new ≡ Maintaining range (NotBuilding Empty)))
      ⊎ ((scan : TableScan) × (seen_by i old ≡ Scanning (scan_at i scan)) × (seen_by i new ≡ Idle))). ⊎_elim
      (λ (begins : (range : ℕ) × (seen_by i old ≡ Holding) × (seen_by i new ≡ Maintaining range (NotBuilding Empty))).
      steps s w v kept i below (BeginRange begins.0 (turned_at i s w v old new turns Holding (Maintaining begins.0 (NotBuilding Empty)) begins.1 begins.2)
      (reads_at i s w v old new turns only.rows (only.indexes.index i) only.summarise_lock (known s w v kept i below old Holding turns.was begins.1).1)
      (record { counts = only.rows.counts })))
      (λ (ends : (scan : TableScan) × (seen_by i old ≡ Scanning (scan_at i scan)) × (seen_by i new ≡ Idle)).
      steps s w v kept i below (EndScan (scan_at i ends.0) (turned_at i s w v old new turns (Scanning (scan_at i ends.0)) Idle ends.1 ends.2)
      (reads_at i s w v old new turns only.rows (only.indexes.index i) only.summarise_lock
      (known s w v kept i below old (Scanning (scan_at i ends.0)) turns.was ends.1).0.0) (record { counts = only.rows.counts })))
      other)
      (onward_view i w below old new onward)

  settles_kept : Settles s w v → IsIndexKept (index_state i v)
  settles_kept (GoesOn old new onward turns only) = goes_on old new onward turns only
  settles_kept (GivesLock old done turns given rows indexes) = gives_lock s w v kept i below old (maintained_holds i w old done) turns given rows indexes

pub settles_layout : (s : ℕ) (w v : TableState) → Settles s w v → v.indexes ≡ w.indexes
settles_layout s w v (GoesOn old new onward turns only) = only.rows.layout.indexes
settles_layout s w v (GivesLock old done turns given rows indexes) = rows.layout.indexes

-- within a step
pub between_kept : (s : ℕ) (w v : TableState) → AreIndexesKept w → Does s w v → AreIndexesKept v
between_kept s w v kept does j inside = does_kept s w v kept j (subst (λ n. j < n) (does_layout s w v does) inside) does

pub indexes_kept : (s : ℕ) (w v : TableState) → AreIndexesKept w → TableStep s w v → AreIndexesKept v
indexes_kept s w v kept step i below =
    settles_kept s step.between v (between_kept s w step.between kept step.does) i (subst (λ n. i < n) (settles_layout s step.between v step.settles) below) step.settles
