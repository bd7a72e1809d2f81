-- The rows that scans of a table see stay within their reach, with any number of indexes; and whole runs of the table's steps.
use Rattle.std.proofs.Common.{◌≡◌, ◌≢◌, inl, inr, ⊎_elim, ℕ, ◌+◌, ◌≤◌, ◌<◌, Some, Bool, sym, ◌∙◌, ap, subst, arith}
use Rattle.std.specs.Prelude.{IsTrue, List}
use Rattle.std.proofs.lemmas.Bool.{cases_eq}
use Rattle.std.proofs.Math.Nat.{le_refl, lt_of_lt_of_le}
use Rattle.block_model.specs.declared.row.Row.{Row}
use Rattle.coverage.specs.Table.{TableScan, Scans, TableState, index_view_at}
use Rattle.coverage.specs.TableSteps.{SeesPlace, JudgeStep, JudgeDrops, ReadsPage, Does, Settles, TableStep, TableRun, TableDone, TableNext}
use Rattle.coverage.specs.TableCovered.{SeesRows, IsTableKept}
use Rattle.coverage.proofs.Leaves.{Leaves, does_leaves, settles_leaves}
use Rattle.coverage.proofs.ScanComes.{ScanComes, ScanBegan, ScanJudged, ScanRead, ScanStayed, scan_comes, OfScans, scans_after, scans_settled}
use Rattle.coverage.proofs.ScanFinds.{does_finds, settles_finds, does_marks, settles_marks}
use Rattle.coverage.proofs.InTable.{does_inside, settles_inside}
use Rattle.coverage.proofs.TableRuns.{dropped_spares}
use Rattle.coverage.proofs.TableJudged.{does_exact, settles_exact}
use Rattle.coverage.proofs.TableSettled.{between_kept, indexes_kept}
use Rattle.coverage.proofs.TableLocks.{does_lock, settles_lock}

-- what a scan sees, where rows are the same
pub rows_same : (w v : TableState) → ((b k : ℕ) → v.row b k ≡ w.row b k) → (scan : TableScan) → SeesRows w scan → SeesRows v scan
rows_same w v rows scan seen b k sees = let row = seen b k sees in (row.0, rows b k ∙ row.1, row.2)

module _ (s : ℕ) (w v : TableState) (kept : IsTableKept w) where
  -- a judgement leaves out only what doesn't match
  judged_seen : (old new : TableScan) → w.task s ≡ Scans old → old.at < w.indexes → JudgeStep (index_view_at old.at w) old new → SeesRows w new
  judged_seen old _ was inside (JudgeDrops x t candidate held stands drops excludes others) = λ b k sees.
      let row = kept.scans s old was b k sees in (
        row.0,
        row.1,
        λ matches. ⊎_elim
            (λ (found : IsTrue (old.found b k)). inl found)
            (λ (left : IsTrue (old.candidate b) × (old.read ≤ b)).
            inr (
              dropped_spares s w v kept.indexes old.at inside old x t candidate was inside held stands.0 stands.1 excludes others
                  b k row.0 row.1 sees matches left.0,
              left.1,
            ))
            (row.2 matches),
      )
  judged_seen old _ was inside _ = kept.scans s old was

  read_seen : (scan : TableScan) (next : ℕ) (found : ℕ → ℕ → Bool) → w.task s ≡ Scans scan → ReadsPage w scan next found
      → SeesRows w (record scan { read = next + 1; found = found })
  read_seen scan next found was reads b k sees =
      let row = kept.scans s scan was b k sees in (
        row.0,
        row.1,
        λ matches. ⊎_elim
            (λ (before : IsTrue (scan.found b k)). inl (reads.keeps b k before))
            (λ (left : IsTrue (scan.candidate b) × (scan.read ≤ b)). ⊎_elim
            (λ (is : next ≡ b).
            inl (subst (λ n. IsTrue (found n k)) is
            (reads.page k row.0 (ap (λ n. w.row n k) is ∙ row.1) (subst (λ n. IsTrue (scan.sees n k)) (sym is) sees) matches)))
            (λ (other : next ≢ b). inr (left.0, omega (arith, reads.first b left.0 left.1, other)))
            (cases_eq next b))
            (row.2 matches),
      )

  -- the scan of the session that steps, and those of others
  own_seen : (scan : TableScan) → ScanComes s w v scan → SeesRows v scan
  own_seen _ (ScanBegan scan begins only) = λ b k sees.
      let row = begins.sees b k sees in (
        row.0,
        only.rows.row b k ∙ row.1,
        λ matches. inr
            ((begins.candidate b).1 (kept.rows_below b k row.0 row.1), subst (λ m. m ≤ b) (sym begins.read) (omega arith)),
      )
  own_seen _ (ScanJudged old new was inside step only) = rows_same w v only.rows.row new (judged_seen old new was inside step)
  own_seen _ (ScanRead scan next found was reads only) =
      rows_same w v only.rows.row (record scan { read = next + 1; found = found }) (read_seen scan next found was reads)
  own_seen _ (ScanStayed scan was only) = rows_same w v only.rows.row scan (kept.scans s scan was)

  does_seen : Does s w v → OfScans SeesRows v
  does_seen does =
      let left = does_leaves s w v does in
      scans_after SeesRows s w v kept.scans left.others
      (λ n scan other was seen b k sees.
      let row = seen b k sees in (row.0, left.rows n b k row.0 other row.1 (subst (SeesPlace b k) (sym was) sees), row.2))
      (λ scan is. own_seen scan (scan_comes s w v does scan is))

  below_after : Leaves s w v → (b k : ℕ) (r : Row) → v.row b k ≡ Some r → b < v.blocks
  below_after leaves b k r there = elim (leaves.from b k r there) [ inl was ↦ lt_of_lt_of_le (kept.rows_below b k r was) leaves.blocks | inr inside ↦ inside ]

settles_seen : (s : ℕ) (w v : TableState) → OfScans SeesRows w → Settles s w v → OfScans SeesRows v
settles_seen s w v kept settles = scans_settled SeesRows s w v kept (λ scan rows indexes. rows_same w v rows.row scan) (λ scan inside all seen. seen) settles

-- the state between what a step does and where its statement comes
pub table_between_kept : (s : ℕ) (w v : TableState) → IsTableKept w → Does s w v → IsTableKept v
table_between_kept s w v kept does =
    let left = does_leaves s w v does in
    record {
      indexes = between_kept s w v kept.indexes does;
      summarise_lock = does_lock s w v kept.summarise_lock does;
      rows_below = below_after s w v kept left;
      scans = does_seen s w v kept does;
      exact = does_exact s w v kept.exact does;
      finds = does_finds s w v kept.finds does;
      marks = does_marks s w v kept.marks does;
      inside = does_inside s w v kept.inside does;
    }

pub table_step_kept : (s : ℕ) (w v : TableState) → IsTableKept w → TableStep s w v → IsTableKept v
table_step_kept s w v kept step =
    let u = step.between in
    let between = table_between_kept s w u kept step.does in
    let more = settles_leaves s u v step.settles in
    record {
      indexes = indexes_kept s w v kept.indexes step;
      summarise_lock = settles_lock s u v between.summarise_lock step.settles;
      rows_below = below_after s u v between more;
      scans = settles_seen s u v between.scans step.settles;
      exact = settles_exact s u v between.exact step.settles;
      finds = settles_finds s u v between.finds step.settles;
      marks = settles_marks s u v between.finds between.marks step.settles;
      inside = settles_inside s u v between.inside step.settles;
    }

pub table_run_kept : (steps : List ℕ) (w v : TableState) → IsTableKept w → TableRun steps w v → IsTableKept v
table_run_kept _ _ _ kept (TableDone w) = kept
table_run_kept _ _ _ kept (TableNext s rest w u v step more) = table_run_kept rest u v (table_step_kept s w u kept step) more

-- the table's blocks only grow
pub table_run_blocks : (steps : List ℕ) (w v : TableState) → TableRun steps w v → w.blocks ≤ v.blocks
table_run_blocks _ _ _ (TableDone w) = le_refl w.blocks
table_run_blocks _ _ _ (TableNext s rest w u v step more) =
    omega (arith, (does_leaves s w step.between step.does).blocks, (settles_leaves s step.between u step.settles).blocks, table_run_blocks rest u v more)
