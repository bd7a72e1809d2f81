-- Where the scans of a table come from, and the rows that deletes have to mark: what holds of all of them is shown case by case.
use Rattle.std.proofs.Common.{◌≡◌, ◌≢◌, ◌⊎◌, inl, inr, ⊎_elim, ℕ, ◌+◌, ◌≤◌, ◌<◌, Option, Some, None, Bool, false, List, ◌∷◌, sym, ◌∙◌, ap, subst, suc}
use Rattle.std.specs.Prelude.{refl}
use Rattle.std.proofs.lemmas.Option.{same_Some, none-some}
use Rattle.std.proofs.lemmas.Bool.{cases_eq}
use Rattle.block_model.specs.declared.row.RowId.{RowId}
use Rattle.coverage.specs.Table.{TableScan, Task, Resting, SweepsFrom, Scans, Marks, TableState, index_view_at}
use Rattle.coverage.specs.TableSteps.{OnlyTurns, SameRows, SameIndexes, first_block, JudgeStep, ReadsPage, ScanBegins, BeginsWith, Summarize, Does, PutsRow}
use Rattle.coverage.specs.TableSteps.{RefusesRow, AsksSummary, InsertGoes, InsertCompletes, RefusesInsert, TakesLock, MaintainGoes, MaintainCompletes}
use Rattle.coverage.specs.TableSteps.{RefusesMaintain, RefusesVacuum, PrunesBlock, SweepsPage, RestartsIndex, BeginsScan, Judges, ReadsBlock, RefusesScan}
use Rattle.coverage.specs.TableSteps.{MarksRow, Conflicts, Blocked, Transacts, Onward, Stays, Pruned, JudgesNext, ToMarks, IsScanRead, ListsFound, Settles}
use Rattle.coverage.specs.TableSteps.{GoesOn, GivesLock}
use Rattle.coverage.proofs.Views.{scan_of, begins_no_scan}

-- how the scan of a session that stepped came about
pub data ScanComes (s : ℕ) (w v : TableState) : TableScan → Type 0 where
  ScanBegan : (scan : TableScan) → ScanBegins w scan → OnlyTurns w v → ScanComes s w v scan
  ScanJudged : (old new : TableScan) → w.task s ≡ Scans old → old.at < w.indexes → JudgeStep (index_view_at old.at w) old new → OnlyTurns w v
      → ScanComes s w v new
  ScanRead : (scan : TableScan) (next : ℕ) (found : ℕ → ℕ → Bool) → w.task s ≡ Scans scan → ReadsPage w scan next found → OnlyTurns w v
      → ScanComes s w v (record scan { read = next + 1; found = found })
  ScanStayed : (scan : TableScan) → w.task s ≡ Scans scan → OnlyTurns w v → ScanComes s w v scan

-- what a delete has to mark
abbrev pub marks_of : Task → Option (TableScan × List RowId)
marks_of (Marks scan ids) = Some (scan, ids)
marks_of task = None

begins_no_marks : (w : TableState) (first : Task) → BeginsWith w first → marks_of first ≡ None
begins_no_marks w _ (Summarize at below) = refl
begins_no_marks w _ _ = refl

-- how the rows that a delete which stepped has still to mark came about
pub data MarksCome (s : ℕ) (w v : TableState) : TableScan → List RowId → Type 0 where
  MarkedOne : (scan : TableScan) (id : RowId) (rest : List RowId) → w.task s ≡ Marks scan (id ∷ rest) → OnlyTurns w v → MarksCome s w v scan rest
  MarksStayed : (scan : TableScan) (ids : List RowId) → w.task s ≡ Marks scan ids → OnlyTurns w v → MarksCome s w v scan ids

-- what a session's statement comes to by what its step does: to no scan and no marks, to a scan, to marks, or to what it was
data Comes (s : ℕ) (w v : TableState) : Task → Type 0 where
  ComesToNone : (new : Task) → scan_of new ≡ None → marks_of new ≡ None → Comes s w v new
  ComesToScan : (scan : TableScan) → ScanComes s w v scan → Comes s w v (Scans scan)
  ComesToMarks : (scan : TableScan) (ids : List RowId) → MarksCome s w v scan ids → Comes s w v (Marks scan ids)
  ComesToSame : (task : Task) → w.task s ≡ task → OnlyTurns w v → Comes s w v task

module _ (s : ℕ) (w v : TableState) where
  none : (new : Task) → v.task s ≡ new → scan_of new ≡ None → marks_of new ≡ None → Comes s w v (v.task s)
  none new now no_scan no_marks = subst (Comes s w v) (sym now) (ComesToNone new no_scan no_marks)

  comes : Does s w v → Comes s w v (v.task s)
  comes (PutsRow b k r place turns takes) = none _ turns.now refl refl
  comes (RefusesRow t refused turns fails) = none _ turns.now refl refl
  comes (AsksSummary b k r at turns only) = none _ turns.now refl refl
  comes (InsertGoes b k r at old new turns stepped step) = none _ turns.now refl refl
  comes (InsertCompletes b k r at old turns stepped step) = none _ turns.now refl refl
  comes (RefusesInsert b k r old refused turns fails) = none _ turns.now refl refl
  comes (TakesLock first begins turns free held rows indexes) = none first turns.now (begins_no_scan w first begins) (begins_no_marks w first begins)
  comes (MaintainGoes job at range old new turns stepped step) = none _ turns.now refl refl
  comes (MaintainCompletes job at range old turns stepped step) = none _ turns.now refl refl
  comes (RefusesMaintain job at range phase refused turns stepped passes) = none _ turns.now refl refl
  comes (RefusesVacuum old vacuuming turns given rows indexes) = none _ turns.now refl refl
  comes (PrunesBlock extent next dropped inside spared turns drops) = none _ turns.now refl refl
  comes (SweepsPage at page turns stepped sweeps) = none _ turns.now refl refl
  comes (RestartsIndex at turns only) = none _ turns.now refl refl
  comes (BeginsScan scan begins turns only) = subst (Comes s w v) (sym turns.now) (ComesToScan scan (ScanBegan scan begins only))
  comes (Judges old new inside low step turns only) = subst (Comes s w v) (sym turns.now) (ComesToScan new (ScanJudged old new turns.was inside step only))
  comes (ReadsBlock scan next found reads turns only) =
      subst (Comes s w v) (sym turns.now) (ComesToScan (record scan { read = next + 1; found = found }) (ScanRead scan next found turns.was reads only))
  comes (RefusesScan scan t turns how) = none _ turns.now refl refl
  comes (MarksRow scan id rest turns only) = subst (Comes s w v) (sym turns.now) (ComesToMarks scan rest (MarkedOne scan id rest turns.was only))
  comes (Conflicts scan id rest t turns fails) = none _ turns.now refl refl
  comes (Blocked task blocked turns only) = subst (Comes s w v) (sym turns.now) (ComesToSame task turns.was only)
  comes (Transacts counts resting few same) = none Resting (ap (λ (u : TableState). u.task s) same ∙ resting) refl refl

  to_scan : (t : Task) → Comes s w v t → (scan : TableScan) → t ≡ Scans scan → ScanComes s w v scan
  to_scan _ (ComesToNone new no_scan no_marks) scan is = absurd (none-some _ (sym no_scan ∙ ap scan_of is))
  to_scan _ (ComesToScan q how) scan is = subst (ScanComes s w v) (same_Some _ _ (ap scan_of is)) how
  to_scan _ (ComesToMarks q ids how) scan is = absurd (none-some _ (ap scan_of is))
  to_scan _ (ComesToSame task was only) scan is = ScanStayed scan (was ∙ is) only

  to_marks : (t : Task) → Comes s w v t → (scan : TableScan) (ids : List RowId) → t ≡ Marks scan ids → MarksCome s w v scan ids
  to_marks _ (ComesToNone new no_scan no_marks) scan ids is = absurd (none-some _ (sym no_marks ∙ ap marks_of is))
  to_marks _ (ComesToScan q how) scan ids is = absurd (none-some _ (ap marks_of is))
  to_marks _ (ComesToMarks q l how) scan ids is =
      subst (λ (m : TableScan × List RowId). MarksCome s w v m.0 m.1) (same_Some _ _ (ap marks_of is)) how
  to_marks _ (ComesToSame task was only) scan ids is = MarksStayed scan ids (was ∙ is) only

  pub scan_comes : Does s w v → (scan : TableScan) → v.task s ≡ Scans scan → ScanComes s w v scan
  scan_comes does scan is = to_scan (v.task s) (comes does) scan is

  pub marks_come : Does s w v → (scan : TableScan) (ids : List RowId) → v.task s ≡ Marks scan ids → MarksCome s w v scan ids
  marks_come does scan ids is = to_marks (v.task s) (comes does) scan ids is

-- a scan goes on to the next index, or as it is
module _ (P : TableScan → Type 0) (w : TableState)
    (next : (scan : TableScan) → scan.at < w.indexes → scan.extent ≤ first_block w scan.at scan.range → P scan
    → P (record scan { at = suc scan.at; range = 0 })) where
  pub onward_scan : (old new : Task) → Onward w old new → ((q : TableScan) → old ≡ Scans q → P q) → (q : TableScan) → new ≡ Scans q → P q
  onward_scan _ _ (Stays task has) before q is = before q is
  onward_scan _ _ (Pruned extent from new all more) before q is = onward_scan (SweepsFrom 0 0) new more (λ p e. absurd (none-some _ (ap scan_of e))) q is
  onward_scan _ _ (JudgesNext scan new inside all empty more) before q is =
      onward_scan (Scans (record scan { at = suc scan.at; range = 0 })) new more
      (λ p e. subst P (same_Some _ _ (ap scan_of e)) (next scan inside all (before scan refl))) q is
  onward_scan _ _ _ before q is = absurd (none-some _ (ap scan_of is))

-- what holds of all scans of a table before a step holds of all after it
abbrev pub OfScans : (TableState → TableScan → Type 0) → TableState → Type 0
OfScans P w = (n : ℕ) (scan : TableScan) → w.task n ≡ Scans scan → P w scan

module _ (P : TableState → TableScan → Type 0) (s : ℕ) (w v : TableState) (kept : OfScans P w) where
  pub scans_after : ((n : ℕ) → (n ≡ s) ⊎ (v.task n ≡ w.task n)) → ((n : ℕ) (scan : TableScan) → n ≢ s → w.task n ≡ Scans scan → P w scan → P v scan)
      → ((scan : TableScan) → v.task s ≡ Scans scan → P v scan) → OfScans P v
  scans_after others theirs own n scan is = ⊎_elim
      (λ (at : n ≡ s). own scan (ap v.task (sym at) ∙ is))
      (λ (apart : n ≢ s). elim (others n) [ inl at ↦ absurd (apart at) | inr same ↦ theirs n scan apart (sym same ∙ is) (kept n scan (sym same ∙ is)) ])
      (cases_eq n s)

  pub scans_settled : ((scan : TableScan) → SameRows w v → SameIndexes w v → P w scan → P v scan)
      → ((scan : TableScan) → scan.at < w.indexes → scan.extent ≤ first_block w scan.at scan.range → P w scan
      → P w (record scan { at = suc scan.at; range = 0 }))
      → Settles s w v → OfScans P v
  scans_settled on next settles = by settles
    where
      by : Settles s w v → OfScans P v
      by (GoesOn old new onward turns only) = scans_after turns.others (λ n scan apart was p. on scan only.rows only.indexes p)
          (λ scan is. on scan only.rows only.indexes
          (onward_scan (P w) w next old new onward (λ q e. kept s q (turns.was ∙ e)) scan (sym turns.now ∙ is)))
      by (GivesLock old done turns given rows indexes) = scans_after turns.others (λ n scan apart was p. on scan rows indexes p)
          (λ scan is. absurd (none-some _ (ap scan_of (sym turns.now ∙ is))))

-- a delete comes to its marks from a scan that is read, or is at them already
module _ (P : TableScan → Type 0) (Q : TableScan → List RowId → Type 0) (w : TableState)
    (next : (scan : TableScan) → scan.at < w.indexes → scan.extent ≤ first_block w scan.at scan.range → P scan
    → P (record scan { at = suc scan.at; range = 0 }))
    (made : (scan : TableScan) (ids : List RowId) → P scan → IsScanRead w scan → scan.explains ≡ false → ListsFound w scan ids → Q scan ids) where
  same_marks : (scan q : TableScan) (ids l : List RowId) → Marks scan ids ≡ Marks q l → Q scan ids → Q q l
  same_marks scan q ids l is here = subst (λ (m : TableScan × List RowId). Q m.0 m.1) (same_Some _ _ (ap marks_of is)) here

  pub onward_marks : (old new : Task) → Onward w old new → ((q : TableScan) → old ≡ Scans q → P q)
      → ((q : TableScan) (ids : List RowId) → old ≡ Marks q ids → Q q ids) → (q : TableScan) (ids : List RowId) → new ≡ Marks q ids → Q q ids
  onward_marks _ _ (Stays task has) before marking q ids is = marking q ids is
  onward_marks _ _ (Pruned extent from new all more) before marking q ids is =
      onward_marks (SweepsFrom 0 0) new more (λ p e. absurd (none-some _ (ap scan_of e))) (λ p l e. absurd (none-some _ (ap marks_of e))) q ids is
  onward_marks _ _ (JudgesNext scan new inside all empty more) before marking q ids is =
      onward_marks (Scans (record scan { at = suc scan.at; range = 0 })) new more
      (λ p e. subst P (same_Some _ _ (ap scan_of e)) (next scan inside all (before scan refl)))
      (λ p l e. absurd (none-some _ (ap marks_of e))) q ids is
  onward_marks _ _ (ToMarks scan id rest read reads deletes lists) before marking q ids is =
      same_marks scan q (id ∷ rest) ids is (made scan (id ∷ rest) (before scan refl) read reads lists)
  onward_marks _ _ _ before marking q ids is = absurd (none-some _ (ap marks_of is))

-- who rests has nothing to mark
pub marks_differ : (scan : TableScan) (ids : List RowId) → Resting ≡ Marks scan ids → ⊥
marks_differ scan ids is = none-some _ (ap marks_of is)
