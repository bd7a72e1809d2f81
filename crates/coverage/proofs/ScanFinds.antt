-- What scans find stands there and matches, and so does what deletes have to mark.
use Rattle.std.proofs.Common.{◌≡◌, ◌≢◌, ◌⊎◌, inr, inl, ⊎_elim, ℕ, Some, List, ◌∷◌, sym, ◌∙◌, ap, subst}
use Rattle.std.specs.Prelude.{IsTrue}
use Rattle.std.proofs.lemmas.Option.{same_Some}
use Rattle.std.proofs.lemmas.Bool.{cases_eq, false≢true}
use Rattle.block_model.specs.declared.row.Row.{Row}
use Rattle.block_model.specs.declared.row.RowId.{RowId}
use Rattle.coverage.specs.Table.{TableScan, Marks, TableState, index_view_at}
use Rattle.coverage.specs.TableSteps.{SeesPlace, JudgeStep, JudgeMap, Does, ListsFound, Settles, GoesOn, GivesLock}
use Rattle.coverage.specs.TableCovered.{FindsOnly, AreToMark}
use Rattle.coverage.proofs.Leaves.{does_leaves}
use Rattle.coverage.proofs.ScanComes.{ScanComes, ScanBegan, ScanJudged, ScanRead, ScanStayed, scan_comes, OfScans, scans_after, scans_settled, MarksCome}
use Rattle.coverage.proofs.ScanComes.{MarkedOne, MarksStayed, marks_come, onward_marks, marks_differ}

found_on : (w v : TableState) → ((b k : ℕ) → v.row b k ≡ w.row b k) → (scan : TableScan) → FindsOnly w scan → FindsOnly v scan
found_on w v rows scan finds b k has = let row = finds b k has in (row.0, rows b k ∙ row.1, row.2, row.3)

-- a judgement finds nothing
judge_finds : (w : TableState) (old new : TableScan) → JudgeStep (index_view_at old.at w) old new → FindsOnly w old → FindsOnly w new
judge_finds w old _ (JudgeMap x empty named) finds = finds
judge_finds w old _ _ finds = finds

module _ (s : ℕ) (w v : TableState) (kept : OfScans FindsOnly w) where
  own_finds : (scan : TableScan) → ScanComes s w v scan → FindsOnly v scan
  own_finds _ (ScanBegan scan begins only) = λ b k has. absurd (false≢true (sym (begins.found b k) ∙ has))
  own_finds _ (ScanJudged old new was inside step only) = found_on w v only.rows.row new (judge_finds w old new step (kept s old was))
  own_finds _ (ScanRead scan next found was reads only) = λ b k has. ⊎_elim
      (λ (before : IsTrue (scan.found b k)). found_on w v only.rows.row scan (kept s scan was) b k before)
      (λ (here : (b ≡ next) × ((r : Row) × (w.row b k ≡ Some r) × IsTrue (scan.sees b k) × IsTrue (scan.matches r))).
      (here.1.0, only.rows.row b k ∙ here.1.1, here.1.2, here.1.3))
      (reads.only b k has)
  own_finds _ (ScanStayed scan was only) = found_on w v only.rows.row scan (kept s scan was)

  pub does_finds : Does s w v → OfScans FindsOnly v
  does_finds does =
      let left = does_leaves s w v does in
      scans_after FindsOnly s w v kept left.others
      (λ n scan other was finds b k has.
      let row = finds b k has in (row.0, left.rows n b k row.0 other row.1 (subst (SeesPlace b k) (sym was) row.2), row.2, row.3))
      (λ scan is. own_finds scan (scan_comes s w v does scan is))

  pub settles_finds : Settles s w v → OfScans FindsOnly v
  settles_finds settles = scans_settled FindsOnly s w v kept (λ scan rows indexes. found_on w v rows.row scan) (λ scan inside all finds. finds) settles

-- the rows that deletes have still to mark
abbrev OfMarks : TableState → Type 0
OfMarks w = (n : ℕ) (scan : TableScan) (ids : List RowId) → w.task n ≡ Marks scan ids → AreToMark w scan ids

marks_on : (w v : TableState) → ((b k : ℕ) → v.row b k ≡ w.row b k) → (scan : TableScan) (ids : List RowId) → AreToMark w scan ids → AreToMark v scan ids
marks_on w v rows scan ids marks id among =
    let row = marks id among in (row.0, row.1, row.2, rows row.0 row.1 ∙ row.3, row.4, row.5, row.6)

listed_marks : (w : TableState) (scan : TableScan) (ids : List RowId) → FindsOnly w scan → ListsFound w scan ids → AreToMark w scan ids
listed_marks w scan ids finds lists id among =
    let one = lists.only id among in
    let row = finds one.0 one.1 one.3 in
    (one.0, one.1, row.0, row.1, ap (λ (q : Row). q.id) (same_row (sym row.1 ∙ one.4)) ∙ one.5, row.2, row.3)
  where
    same_row : {a b : Row} → Some a ≡ Some b → a ≡ b
    same_row e = same_Some _ _ e

module _ (s : ℕ) (w v : TableState) (kept : OfMarks w) where
  marks_after : ((n : ℕ) → (n ≡ s) ⊎ (v.task n ≡ w.task n))
      → ((n : ℕ) (scan : TableScan) (ids : List RowId) → n ≢ s → w.task n ≡ Marks scan ids → AreToMark w scan ids → AreToMark v scan ids)
      → ((scan : TableScan) (ids : List RowId) → v.task s ≡ Marks scan ids → AreToMark v scan ids) → OfMarks v
  marks_after others theirs own n scan ids is = ⊎_elim
      (λ (at : n ≡ s). own scan ids (ap v.task (sym at) ∙ is))
      (λ (apart : n ≢ s). elim (others n) [ inl at ↦ absurd (apart at) | inr same ↦ theirs n scan ids apart (sym same ∙ is) (kept n scan ids (sym same ∙ is)) ])
      (cases_eq n s)

  own_marks : (scan : TableScan) (ids : List RowId) → MarksCome s w v scan ids → AreToMark v scan ids
  own_marks _ _ (MarkedOne scan id rest was only) = marks_on w v only.rows.row scan rest (λ i among. kept s scan (id ∷ rest) was i (inr among))
  own_marks _ _ (MarksStayed scan ids was only) = marks_on w v only.rows.row scan ids (kept s scan ids was)

  pub does_marks : Does s w v → OfMarks v
  does_marks does =
      let left = does_leaves s w v does in
      marks_after left.others
      (λ n scan ids other was marks id among.
      let row = marks id among in
      (row.0, row.1, row.2, left.rows n row.0 row.1 row.2 other row.3 (subst (SeesPlace row.0 row.1) (sym was) row.5), row.4, row.5, row.6))
      (λ scan ids is. own_marks scan ids (marks_come s w v does scan ids is))

pub settles_marks : (s : ℕ) (w v : TableState) → OfScans FindsOnly w → OfMarks w → Settles s w v → OfMarks v
settles_marks s w v finds kept settles = by settles
  where
    by : Settles s w v → OfMarks v
    by (GoesOn old new onward turns only) = marks_after s w v kept turns.others (λ n scan ids apart was. marks_on w v only.rows.row scan ids)
        (λ scan ids is. marks_on w v only.rows.row scan ids
        (onward_marks (FindsOnly w) (AreToMark w) w (λ q inside all p. p) (λ q l p read reads lists. listed_marks w q l p lists) old new onward
        (λ q e. finds s q (turns.was ∙ e)) (λ q l e. kept s q l (turns.was ∙ e)) scan ids (sym turns.now ∙ is)))
    by (GivesLock old done turns given rows indexes) = marks_after s w v kept turns.others (λ n scan ids apart was. marks_on w v rows.row scan ids)
        (λ scan ids is. absurd (marks_differ scan ids (sym turns.now ∙ is)))
