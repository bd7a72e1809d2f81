-- the rows that a scan's session sees stay where they stand
use Rattle.std.proofs.Common.{◌≡◌, ◌≢◌, ⊎_elim, ℕ, Bool, List, None, Some, true, false, refl, sym, ◌∙◌, ap, subst}
use Rattle.std.specs.Prelude.{IsTrue}
use Rattle.std.proofs.lemmas.Bool.{cases_eq}
use Rattle.std.proofs.lemmas.Option.{none-some, same_Some}
use Rattle.block_model.specs.declared.row.Row.{Row}
use Rattle.coverage.specs.Table.{Resting, Scans, TableScan, TableState, Task, index_view_at}
use Rattle.coverage.specs.TableSteps.{Does, Fails, JudgeStep, OnlyTurns, SeesPlace, Settles, TableDone, TableNext, TableRun, TableStep}
use Rattle.coverage.specs.TableSteps.{JudgeDrops, JudgeGone, JudgeKeeps, JudgeMap, JudgeNoEntry}
use Rattle.coverage.specs.TableSteps.{AsksSummary, BeginsScan, Blocked, Conflicts, InsertCompletes, InsertGoes, Judges, MaintainCompletes, MaintainGoes, MarksRow, PrunesBlock, PutsRow}
use Rattle.coverage.specs.TableSteps.{ReadsBlock, RefusesInsert, RefusesMaintain, RefusesRow, RefusesScan, RefusesVacuum, RestartsIndex, SweepsPage, TakesLock, Transacts}
use Rattle.coverage.specs.TableSteps.{GivesLock, GoesOn}
use Rattle.coverage.specs.TableCovered.{IsTableKept}
use Rattle.coverage.proofs.Leaves.{does_leaves, settles_leaves}
use Rattle.coverage.proofs.ScanComes.{onward_scan}
use Rattle.coverage.proofs.TableSeen.{table_step_kept}
use Rattle.coverage.proofs.Views.{begins_no_scan, scan_of}
use Rattle.bitmap_scan.specs.SeenRows.{ScansOn}

-- A session that scans, or marks what it found, changes no row by its own steps.
module _ (s : ℕ) (w v : TableState) (b k : ℕ) (sees : SeesPlace b k (w.task s)) where
  own_row : Does s w v → v.row b k ≡ w.row b k
  own_row (PutsRow c j r place turns takes) = absurd (subst (SeesPlace b k) turns.was sees)
  own_row (RefusesRow t refused turns fails) = fails.row b k
  own_row (AsksSummary c j r at turns only) = only.rows.row b k
  own_row (InsertGoes c j r at old new turns stepped step) = stepped.rows.row b k
  own_row (InsertCompletes c j r at old turns stepped step) = stepped.rows.row b k
  own_row (RefusesInsert c j r old refused turns fails) = fails.row b k
  own_row (TakesLock first begins turns free held rows indexes) = rows.row b k
  own_row (MaintainGoes job at range old new turns stepped step) = stepped.rows.row b k
  own_row (MaintainCompletes job at range old turns stepped step) = stepped.rows.row b k
  own_row (RefusesMaintain job at range phase refused turns stepped passes) = stepped.rows.row b k
  own_row (RefusesVacuum old vacuuming turns given rows indexes) = rows.row b k
  own_row (PrunesBlock extent next dropped inside spared turns drops) = absurd (subst (SeesPlace b k) turns.was sees)
  own_row (SweepsPage at page turns stepped sweeps) = stepped.rows.row b k
  own_row (RestartsIndex at turns only) = only.rows.row b k
  own_row (BeginsScan q begins turns only) = only.rows.row b k
  own_row (Judges old new inside low step turns only) = only.rows.row b k
  own_row (ReadsBlock q next found reads turns only) = only.rows.row b k
  own_row (RefusesScan q t turns how) =
      ⊎_elim (λ (fails : (q.explains ≡ false) × Fails w v t). fails.1.row b k) (λ (only : (q.explains ≡ true) × OnlyTurns w v). only.1.rows.row b k) how
  own_row (MarksRow q id rest turns only) = only.rows.row b k
  own_row (Conflicts q id rest t turns fails) = fails.row b k
  own_row (Blocked t blocked turns only) = only.rows.row b k
  own_row (Transacts counts resting few same) = ap (λ (u : TableState). u.row b k) same

settled_row : (n : ℕ) (w v : TableState) → Settles n w v → (b k : ℕ) → v.row b k ≡ w.row b k
settled_row n w v (GoesOn old new onward turns only) = only.rows.row
settled_row n w v (GivesLock old done turns given rows indexes) = rows.row

-- whatever any session does, a row stays that one sees which scans or marks
module _ (s n b k : ℕ) (r : Row) (w : TableState) (there : w.row b k ≡ Some r) (sees : SeesPlace b k (w.task s)) where
  does_stand : (v : TableState) → Does n w v → v.row b k ≡ Some r
  does_stand v does = ⊎_elim
      (λ (own : s ≡ n). own_row n w v b k (subst (λ (m : ℕ). SeesPlace b k (w.task m)) own sees) does ∙ there)
      (λ (other : s ≢ n). (does_leaves n w v does).rows s b k r other there sees)
      (cases_eq s n)

  pub step_stands : (v : TableState) → TableStep n w v → v.row b k ≡ Some r
  step_stands v step = settled_row n step.between v step.settles b k ∙ does_stand step.between step.does

-- so does each row that a scan sees
module _ (s : ℕ) (w : TableState) (scan : TableScan) (kept : IsTableKept w) (task : w.task s ≡ Scans scan) (b k : ℕ) (sees : IsTrue (scan.sees b k)) where
  there : (r : Row) × (w.row b k ≡ Some r)
  there = let found = kept.scans s scan task b k sees in (found.0, found.1)

  seen : SeesPlace b k (w.task s)
  seen = subst (SeesPlace b k) (sym task) sees

  pub does_stay : (n : ℕ) (v : TableState) → Does n w v → v.row b k ≡ w.row b k
  does_stay n v does = does_stand s n b k there.0 w there.1 seen v does ∙ sym there.1

  pub step_stays : (n : ℕ) (v : TableState) → TableStep n w v → v.row b k ≡ w.row b k
  step_stays n v step = step_stands s n b k there.0 w there.1 seen v step ∙ sym there.1

-- a judgement leaves what the session sees
judged_sees : (w : TableState) (old new : TableScan) → JudgeStep (index_view_at old.at w) old new → new.sees ≡ old.sees
judged_sees w old _ (JudgeMap x empty named) = refl
judged_sees w old _ (JudgeNoEntry empty none) = refl
judged_sees w old _ (JudgeGone x held gone) = refl
judged_sees w old _ (JudgeKeeps x t held stands keeps) = refl
judged_sees w old _ (JudgeDrops x t candidate held stands drops excludes others) = refl

-- so does every step of the scan's own
module _ (s : ℕ) (w v : TableState) (scan : TableScan) (task : w.task s ≡ Scans scan) (after : TableScan) (now : v.task s ≡ Scans after) where
  was_scan : (old : TableScan) → w.task s ≡ Scans old → old.sees ≡ scan.sees
  was_scan old is = ap (λ (q : TableScan). q.sees) (same_Some old scan (ap scan_of (sym is ∙ task)))

  is_scan : (new : TableScan) → v.task s ≡ Scans new → after.sees ≡ new.sees
  is_scan new is = ap (λ (q : TableScan). q.sees) (same_Some after new (ap scan_of (sym now ∙ is)))

  ended : (t : Task) → scan_of t ≡ None → v.task s ≡ t → after.sees ≡ scan.sees
  ended t none is = absurd (none-some after (sym none ∙ ap scan_of (sym is ∙ now)))

  own_sees : Does s w v → after.sees ≡ scan.sees
  own_sees (PutsRow b k r place turns takes) = ended _ refl turns.now
  own_sees (RefusesRow t refused turns fails) = ended _ refl turns.now
  own_sees (AsksSummary b k r at turns only) = ended _ refl turns.now
  own_sees (InsertGoes b k r at old new turns stepped step) = ended _ refl turns.now
  own_sees (InsertCompletes b k r at old turns stepped step) = ended _ refl turns.now
  own_sees (RefusesInsert b k r old refused turns fails) = ended _ refl turns.now
  own_sees (TakesLock first begins turns free held rows indexes) = ended first (begins_no_scan w first begins) turns.now
  own_sees (MaintainGoes job at range old new turns stepped step) = ended _ refl turns.now
  own_sees (MaintainCompletes job at range old turns stepped step) = ended _ refl turns.now
  own_sees (RefusesMaintain job at range phase refused turns stepped passes) = ended _ refl turns.now
  own_sees (RefusesVacuum old vacuuming turns given rows indexes) = ended _ refl turns.now
  own_sees (PrunesBlock extent next dropped inside spared turns drops) = ended _ refl turns.now
  own_sees (SweepsPage at page turns stepped sweeps) = ended _ refl turns.now
  own_sees (RestartsIndex at turns only) = ended _ refl turns.now
  own_sees (BeginsScan q begins turns only) = absurd (none-some scan (ap scan_of (sym turns.was ∙ task)))
  own_sees (Judges old new inside low step turns only) = is_scan new turns.now ∙ judged_sees w old new step ∙ was_scan old turns.was
  own_sees (ReadsBlock q next found reads turns only) = is_scan _ turns.now ∙ was_scan q turns.was
  own_sees (RefusesScan q t turns how) = ended _ refl turns.now
  own_sees (MarksRow q id rest turns only) = ended _ refl turns.now
  own_sees (Conflicts q id rest t turns fails) = ended _ refl turns.now
  own_sees (Blocked t blocked turns only) = was_scan after (turns.was ∙ sym turns.now ∙ now)
  own_sees (Transacts counts resting few same) = ended Resting refl (ap (λ (u : TableState). u.task s) same ∙ resting)

-- as long as the scan goes on, its session sees the same rows
module _ (s : ℕ) (w v : TableState) (scan after : TableScan) (task : w.task s ≡ Scans scan) (now : v.task s ≡ Scans after) where
  same_task : v.task s ≡ w.task s → after.sees ≡ scan.sees
  same_task same = ap (λ (q : TableScan). q.sees) (same_Some after scan (ap scan_of (sym now ∙ same ∙ task)))

  others_sees : (n : ℕ) → s ≢ n → TableStep n w v → after.sees ≡ scan.sees
  others_sees n other step = ⊎_elim
      (λ (same : s ≡ n). absurd (other same))
      (λ (settled : v.task s ≡ step.between.task s). ⊎_elim
      (λ (same : s ≡ n). absurd (other same))
      (λ (done : step.between.task s ≡ w.task s). same_task (settled ∙ done))
      ((does_leaves n w step.between step.does).others s))
      ((settles_leaves n step.between v step.settles).others s)

  settled_sees : (u : TableState) → ((q : TableScan) → u.task s ≡ Scans q → q.sees ≡ scan.sees) → Settles s u v → after.sees ≡ scan.sees
  settled_sees u before (GoesOn old new onward turns only) =
      onward_scan (λ (q : TableScan). q.sees ≡ scan.sees) u (λ q inside all same. same) old new onward (λ q e. before q (turns.was ∙ e)) after (sym turns.now ∙ now)
  settled_sees u before (GivesLock old done turns given rows indexes) = absurd (none-some after (ap scan_of (sym turns.now ∙ now)))

  step_sees : (n : ℕ) → TableStep n w v → after.sees ≡ scan.sees
  step_sees n step = ⊎_elim
      (λ (own : s ≡ n).
      let mine : TableStep s w v = subst (λ (m : ℕ). TableStep m w v) (sym own) step in
      settled_sees mine.between (λ q is. own_sees s w mine.between scan task q is mine.does) mine.settles)
      (λ (other : s ≢ n). others_sees n other step)
      (cases_eq s n)

-- until its reply, whatever any sessions do
pub run_stays : (s : ℕ) (steps : List ℕ) (w v : TableState) (scan : TableScan) → IsTableKept w → w.task s ≡ Scans scan → (b k : ℕ) → IsTrue (scan.sees b k) → (run : TableRun steps w v) → ScansOn s steps w v run → v.row b k ≡ w.row b k
run_stays s _ w _ scan kept task b k sees (TableDone _) on = refl
run_stays s _ w v scan kept task b k sees (TableNext n rest _ u _ step run) (at, on) =
    run_stays s rest u v at.0 (table_step_kept n w u kept step) at.1 b k (subst (λ (f : ℕ → ℕ → Bool). IsTrue (f b k)) (sym (step_sees s w u scan at.0 task at.1 n step)) sees) run on
    ∙ step_stays s w scan kept task b k sees n u step
