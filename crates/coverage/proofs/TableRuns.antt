-- Every step of a table's statements keeps what each of its indexes rests on.
use Rattle.std.proofs.Common.{◌≡◌, ◌≢◌, ◌⊎◌, inl, inr, ⊎_elim, ℕ, ◌+◌, ◌≤◌, ◌<◌, Some, None, Bool, true, false, sym, ◌∙◌, ap, subst, arith, suc}
use Rattle.std.specs.Prelude.{refl, IsTrue, max}
use Rattle.std.proofs.lemmas.Option.{none-some}
use Rattle.std.proofs.lemmas.Bool.{cases_eq}
use Rattle.block_model.specs.declared.row.Row.{Row}
use Rattle.block_model.specs.declared.place.Spot.{Spot}
use Rattle.coverage.specs.IndexView.{IndexTuple, IndexView, range_of_block}
use Rattle.coverage.specs.Statements.{OnIndex, Empty, Held, Copied, Moving, Dropping, IsAdded, Phase, Scan, Statement, Idle, Inserting, Maintaining, Holding}
use Rattle.coverage.specs.Statements.{Scanning, loose_in}
use Rattle.coverage.specs.Knowing.{LocksNone, KnowsOnIndex, Knows}
use Rattle.coverage.specs.IsCovered.{IsIndexKept}
use Rattle.coverage.specs.Steps.{IsUnnamed, SweepsTuples, Excludes, InsertStep, MaintainStep, Summarises, Desummarises, ScanStep, ScanMap, ScanGone, ScanKeeps}
use Rattle.coverage.specs.Steps.{ScanDrops, ScanElsewhere, ScanPage, SummariseLockPasses, Step, PutRow, Insert, Refused, TakeSummariseLock, Maintain, Prune}
use Rattle.coverage.specs.Steps.{Sweep, GiveSummariseLock, Abandon, BeginScan, Scans as StepScans, EndScan, Elsewhere, Counts}
use Rattle.coverage.specs.Waiting.{IsPhaseFull, IsInsertEnded, EndsBefore, EndsFull}
use Rattle.coverage.specs.Table.{Index, Job, Desummarising, TableScan, Task, Resting, Reaches, Inserts, Maintains, Prunes, SweepsFrom, Sweeps, Restarts, Scans}
use Rattle.coverage.specs.Table.{TableState, pick, judged_with, on_index_by, inserting_of, held_at, scan_at, seen_by, index_state, index_view_at}
use Rattle.coverage.specs.TableSteps.{TaskTurns, SameRows, SameIndexes, OnlyTurns, StepsIn, IsFirstPlace, TableTakesRow, IsInsertRefused, IndexFull, BeginsWith}
use Rattle.coverage.specs.TableSteps.{Summarize, JobStep, HasPut, SeesPlace, IsVacuuming, DropsRows, ScanBegins, JudgeStep, JudgeMap, JudgeNoEntry, JudgeGone}
use Rattle.coverage.specs.TableSteps.{JudgeKeeps, JudgeDrops, ReadsPage, Fails, IsMaintained, RangesDone, NothingToSweep}
use Rattle.coverage.specs.TableCovered.{AreIndexesKept}
use Rattle.coverage.proofs.Opening.{scan_excludes}
use Rattle.coverage.proofs.Runs.{step_kept}
use Rattle.coverage.proofs.FullApart.{ended_loose}
use Rattle.coverage.proofs.Views.{pick_same, pick_other, held_none, on_index_first, on_index_here, on_index_below, on_index_other, on_index_next}
use Rattle.coverage.proofs.Views.{on_index_apart, seen_put, seen_spares, none_at, rows_frame, reads_by, turned_at, rests_at, reads_at, passes_at}

-- the step of a maintenance statement in its index
job_step : (job : Job) (s range : ℕ) (w v : IndexView) (old : Phase) (new : Statement) → JobStep job s range w v old new → MaintainStep s range w v old new
job_step (Desummarising only) s range w v old new step = Desummarises step
job_step _ s range w v old new step = Summarises step

begins_holding : (i : ℕ) (w : TableState) (first : Task) → BeginsWith w first → seen_by i first ≡ Holding
begins_holding i w _ (Summarize at below) = refl
begins_holding i w _ _ = refl

pub vacuuming_holds : (i : ℕ) (task : Task) → IsVacuuming task → seen_by i task ≡ Holding
vacuuming_holds i (Prunes extent next) is = refl
vacuuming_holds i (Sweeps at page) is = refl
vacuuming_holds i (Restarts at) is = refl
vacuuming_holds i _ is = absurd is

pub maintained_holds : (i : ℕ) (w : TableState) (task : Task) → IsMaintained w task → seen_by i task ≡ Holding
maintained_holds i w _ (RangesDone job at range done last) = refl
maintained_holds i w _ (NothingToSweep extent next all none) = refl

-- an index sees nothing of an insert that is refused, or that it ends here or before this index
refused_view : (i : ℕ) (w : TableState) (s b k : ℕ) (r : Row) (old : Task) → IsInsertRefused w s b k r old
    → (seen_by i old ≡ Idle) ⊎ ((on_index : OnIndex) × (seen_by i old ≡ Inserting b k r on_index) × IsInsertEnded (index_view_at i w) s b on_index)
refused_view i w s b k r _ (IndexFull number at x t u verdict) = ⊎_elim
    (λ (is : i ≡ at). inr (
      Copied x t u,
      ap (λ m. inserting_of b k r (on_index_by m at (Copied x t u))) is ∙ ap (inserting_of b k r) (on_index_here at (Copied x t u)),
      subst (λ m. IsInsertEnded (index_view_at m w) s b (Copied x t u)) (sym is) (EndsFull number x t u verdict),
    ))
    (λ (apart : i ≢ at). ⊎_elim
    (λ (none : on_index_by i at (Copied x t u) ≡ None). inl (ap (inserting_of b k r) none))
    (λ (some : on_index_by i at (Copied x t u) ≡ Some Empty). inr (Empty, ap (inserting_of b k r) some, EndsBefore))
    (on_index_apart i at (Copied x t u) apart))
    (cases_eq i at)

-- with nothing loose in hand a session locks no page
on_index_locks_none : (w : IndexView) (s range : ℕ) (Makes : IndexTuple → IndexTuple → Type 0) (on_index : OnIndex) → loose_in on_index ≡ None
    → KnowsOnIndex w s range Makes on_index → LocksNone w.lock s
on_index_locks_none w s range Makes Empty none known = known
on_index_locks_none w s range Makes (Held x) none known = known.0
on_index_locks_none w s range Makes (Copied x old new) none known = known.0
on_index_locks_none w s range Makes (Moving x y old new) none known = absurd (none-some _ (sym none))
on_index_locks_none w s range Makes (Dropping x) none known = absurd (none-some _ (sym none))

module _ (s : ℕ) (w v : TableState) (kept : AreIndexesKept w) (i : ℕ) (below : i < w.indexes) where
  pub known : (task : Task) (d : Statement) → w.task s ≡ task → seen_by i task ≡ d → Knows (index_view_at i w) s d
  known task d was view = subst (λ m. Knows (index_view_at i w) s m) (ap (seen_by i) was ∙ view) ((kept i below).knows s)

  pub steps : Step s (index_state i w) (index_state i v) → IsIndexKept (index_state i v)
  steps step = step_kept s (index_state i w) (index_state i v) (kept i below) step

  -- the index sees nothing of the step
  pub rests : (old new : Task) → TaskTurns s w v old new → SameRows w v → v.index i ≡ w.index i → v.summarise_lock ≡ w.summarise_lock
      → seen_by i new ≡ seen_by i old → IsIndexKept (index_state i v)
  rests old new turns rows index summarise_lock same = steps (Elsewhere (rests_at i s w v old new turns rows index summarise_lock same))

  pub only_rests : (old new : Task) → TaskTurns s w v old new → OnlyTurns w v → seen_by i new ≡ seen_by i old → IsIndexKept (index_state i v)
  only_rests old new turns only same = rests old new turns only.rows (only.indexes.index i) only.summarise_lock same

  -- an insert puts its row
  pub puts_row : (b k : ℕ) (r : Row) → IsFirstPlace w b k → TaskTurns s w v Resting (Reaches b k r 0) → TableTakesRow w v b k r → IsIndexKept (index_state i v)
  puts_row b k r place turns takes =
      let index = takes.indexes.index i in
      steps (PutRow b k r (turned_at i s w v Resting (Reaches b k r 0) turns Idle (Inserting b k r Empty) refl (ap (inserting_of b k r) (on_index_first i)))
      (record {
        row = record {
          was = place.vacant.1;
          now = takes.now;
          others = takes.others;
          pages_per_range = ap (λ (x : Index). x.pages_per_range) index;
          grown = subst (λ n. w.blocks ≤ n) (sym takes.blocks) (grown w.blocks b);
          below = subst (λ n. b < n) (sym takes.blocks) (omega arith);
        };
        frame = rows_frame i s w v index takes.summarise_lock;
        pages = ap (λ (x : Index). x.pages) index;
        none = none_at i s w v index (known Resting Idle turns.was refl).0;
      })
      (record { counts = takes.counts }))
    where
      grown : (n b : ℕ) → n ≤ max n (b + 1)
      grown n b = omega arith

  pub insert_goes : (b k : ℕ) (r : Row) (at : ℕ) (old new : OnIndex) → TaskTurns s w v (Inserts b k r at old) (Inserts b k r at new) → StepsIn at w v
      → InsertStep s b k r (index_view_at at w) (index_view_at at v) old (Inserting b k r new) → v.summarise_lock ≡ w.summarise_lock
      → IsIndexKept (index_state i v)
  insert_goes b k r at old new turns stepped step summarise_lock = ⊎_elim
      (λ (is : i ≡ at). steps (subst (λ m. Step s (index_state m w) (index_state m v)) (sym is)
      (Insert b k r old (Inserting b k r new)
      (turned_at at s w v (Inserts b k r at old) (Inserts b k r at new) turns (Inserting b k r old) (Inserting b k r new)
      (ap (inserting_of b k r) (on_index_here at old)) (ap (inserting_of b k r) (on_index_here at new)))
      step (record { counts = stepped.rows.counts }))))
      (λ (apart : i ≢ at). ⊎_elim
      (λ (is : i ≡ at). absurd (apart is))
      (λ (index : v.index i ≡ w.index i).
      rests (Inserts b k r at old) (Inserts b k r at new) turns stepped.rows index summarise_lock (ap (inserting_of b k r) (on_index_other i at old new apart)))
      (stepped.others i))
      (cases_eq i at)

  pub insert_completes : (b k : ℕ) (r : Row) (at : ℕ) (old : OnIndex) → TaskTurns s w v (Inserts b k r at old) (Reaches b k r (suc at)) → StepsIn at w v
      → InsertStep s b k r (index_view_at at w) (index_view_at at v) old Idle → v.summarise_lock ≡ w.summarise_lock → IsIndexKept (index_state i v)
  insert_completes b k r at old turns stepped step summarise_lock = ⊎_elim
      (λ (is : i ≡ at). steps (subst (λ m. Step s (index_state m w) (index_state m v)) (sym is)
      (Insert b k r old Idle
      (turned_at at s w v (Inserts b k r at old) (Reaches b k r (suc at)) turns (Inserting b k r old) Idle (ap (inserting_of b k r) (on_index_here at old))
      (ap (inserting_of b k r) (on_index_below at (suc at) Empty (omega arith))))
      step (record { counts = stepped.rows.counts }))))
      (λ (apart : i ≢ at). ⊎_elim
      (λ (is : i ≡ at). absurd (apart is))
      (λ (index : v.index i ≡ w.index i).
      rests (Inserts b k r at old) (Reaches b k r (suc at)) turns stepped.rows index summarise_lock (ap (inserting_of b k r) (on_index_next i at old apart)))
      (stepped.others i))
      (cases_eq i at)

  -- less comes to count, and the index sees nothing else
  pub counts_less : (t : ℕ) → Fails w v t → ((n : ℕ) → seen_by i (v.task n) ≡ seen_by i (w.task n)) → IsIndexKept (index_state i v)
  counts_less t fails views = steps (Counts v.counts (λ n counted. inl (fails.fewer n counted)) (λ j. record {
    contents = ap (λ (x : Index). x.contents) index j;
    pages_per_range = ap (λ (x : Index). x.pages_per_range) index j;
    blocks = fails.blocks j;
    row = λ b k. fails.row b k j;
    entry = λ m. ap (λ (x : Index). x.entry m) index j;
    tuple = λ y. ap (λ (x : Index). x.tuple y) index j;
    pages = ap (λ (x : Index). x.pages) index j;
    lock = λ p. ap (λ (x : Index). x.lock p) index j;
    summarise_lock = fails.summarise_lock j;
    unnamed = λ y. ap (λ (x : Index). x.unnamed y) index j;
    statement = λ n. views n j;
    counts = v.counts;
  }))
    where
      index : v.index i ≡ w.index i
      index = fails.indexes.index i

  pub same_views : (old new : Task) → TaskTurns s w v old new → seen_by i new ≡ seen_by i old → (n : ℕ) → seen_by i (v.task n) ≡ seen_by i (w.task n)
  same_views old new turns same n = ⊎_elim
      (λ (is : n ≡ s).
      ap (λ m. seen_by i (v.task m)) is ∙ ap (seen_by i) turns.now ∙ same ∙ sym (ap (seen_by i) turns.was) ∙ ap (λ m. seen_by i (w.task m)) (sym is))
      (λ (e : v.task n ≡ w.task n). ap (seen_by i) e)
      (turns.others n)

  pub refuses_insert : (b k : ℕ) (r : Row) (old : Task) → IsInsertRefused w s b k r old → TaskTurns s w v old Resting → Fails w v r.id.t
      → IsIndexKept (index_state i v)
  refuses_insert b k r old refused turns fails = ⊎_elim
      (λ (idle : seen_by i old ≡ Idle). counts_less r.id.t fails (same_views old Resting turns (sym idle)))
      (λ (at : (on_index : OnIndex) × (seen_by i old ≡ Inserting b k r on_index) × IsInsertEnded (index_view_at i w) s b on_index).
      let index : v.index i ≡ w.index i = fails.indexes.index i in
      let none : LocksNone (w.index i).lock s =
      on_index_locks_none (index_view_at i w) s (range_of_block (index_view_at i w) b) (IsAdded r) at.0 (ended_loose (index_view_at i w) s b at.0 at.2)
      (known old (Inserting b k r at.0) turns.was at.1).2 in
      steps (Refused b k r at.0 at.2 (turned_at i s w v old Resting turns (Inserting b k r at.0) Idle at.1 refl)
      (reads_by i s w v index (record { pages_per_range = ap (λ (x : Index). x.pages_per_range) index; blocks = fails.blocks; row = fails.row })
      fails.summarise_lock none)
      fails.failed fails.fewer))
      (refused_view i w s b k r old refused)

  -- a transaction fails by a step that the index doesn't see
  pub fails_unseen : (old : Task) (t : ℕ) → TaskTurns s w v old Resting → Fails w v t → seen_by i old ≡ Idle → IsIndexKept (index_state i v)
  fails_unseen old t turns fails idle = counts_less t fails (same_views old Resting turns (sym idle))

  pub takes_lock : (first : Task) → BeginsWith w first → TaskTurns s w v Resting first → w.summarise_lock ≡ None → v.summarise_lock ≡ Some s → SameRows w v
      → SameIndexes w v → IsIndexKept (index_state i v)
  takes_lock first begins turns free held rows indexes =
      steps (TakeSummariseLock (turned_at i s w v Resting first turns Idle Holding refl (begins_holding i w first begins))
      (passes_at i s w v Resting first turns rows (indexes.index i) None (Some s) free held (known Resting Idle turns.was refl).0)
      (record { counts = rows.counts }))

  pub maintains : (job : Job) (at range : ℕ) (old : Phase) (new : Task) (e : Statement) → TaskTurns s w v (Maintains job at range old) new → StepsIn at w v
      → JobStep job s range (index_view_at at w) (index_view_at at v) old e → seen_by at new ≡ e → ((j : ℕ) → j ≢ at → seen_by j new ≡ Holding)
      → v.summarise_lock ≡ w.summarise_lock → IsIndexKept (index_state i v)
  maintains job at range old new e turns stepped step here elsewhere summarise_lock = ⊎_elim
      (λ (is : i ≡ at). steps (subst (λ m. Step s (index_state m w) (index_state m v)) (sym is)
      (Maintain range old e
      (turned_at at s w v (Maintains job at range old) new turns (Maintaining range old) e (pick_same at (Maintaining range old) Holding) here)
      (job_step job s range (index_view_at at w) (index_view_at at v) old e step) (record { counts = stepped.rows.counts }))))
      (λ (apart : i ≢ at). ⊎_elim
      (λ (is : i ≡ at). absurd (apart is))
      (λ (index : v.index i ≡ w.index i).
      rests (Maintains job at range old) new turns stepped.rows index summarise_lock
      (elsewhere i apart ∙ sym (pick_other i at (Maintaining range old) Holding apart)))
      (stepped.others i))
      (cases_eq i at)

  pub refuses_maintain : (job : Job) (at range number : ℕ) (phase : Phase) → IsPhaseFull (index_view_at at w) s range phase number → TaskTurns s w v (Maintains job at range phase) Resting
      → StepsIn at w v
      → SummariseLockPasses s (index_view_at at w) (index_view_at at v) (Some s) None → IsIndexKept (index_state i v)
  refuses_maintain job at range number phase full turns stepped passes = ⊎_elim
      (λ (is : i ≡ at). steps (subst (λ m. Step s (index_state m w) (index_state m v)) (sym is)
      (Abandon range number phase full
      (turned_at at s w v (Maintains job at range phase) Resting turns (Maintaining range phase) Idle (pick_same at (Maintaining range phase) Holding) refl)
      passes (record { counts = stepped.rows.counts }))))
      (λ (apart : i ≢ at). ⊎_elim
      (λ (is : i ≡ at). absurd (apart is))
      (λ (index : v.index i ≡ w.index i).
      let view = pick_other i at (Maintaining range phase) Holding apart in
      steps (GiveSummariseLock (turned_at i s w v (Maintains job at range phase) Resting turns Holding Idle view refl)
      (passes_at i s w v (Maintains job at range phase) Resting turns stepped.rows index (Some s) None passes.was passes.now
      (known (Maintains job at range phase) Holding turns.was view).1)
      (record { counts = stepped.rows.counts })))
      (stepped.others i))
      (cases_eq i at)

  pub gives_lock : (old : Task) → seen_by i old ≡ Holding → TaskTurns s w v old Resting → v.summarise_lock ≡ None → SameRows w v → SameIndexes w v
      → IsIndexKept (index_state i v)
  gives_lock old holds turns given rows indexes =
      let holding = known old Holding turns.was holds in
      steps (GiveSummariseLock (turned_at i s w v old Resting turns Holding Idle holds refl)
      (passes_at i s w v old Resting turns rows (indexes.index i) (Some s) None holding.0 given holding.1) (record { counts = rows.counts }))

  pub prunes : (extent next : ℕ) (dropped : ℕ → ℕ → Bool)
      → ((n b k : ℕ) → n ≢ s → IsTrue (dropped b k) → (HasPut b k (w.task n) ⊎ SeesPlace b k (w.task n)) → ⊥)
      → TaskTurns s w v (Prunes extent next) (Prunes extent (suc next)) → DropsRows w v next dropped → IsIndexKept (index_state i v)
  prunes extent next dropped spared turns drops =
      let index : v.index i ≡ w.index i = drops.indexes.index i in
      steps (Prune dropped (λ n other. seen_spares dropped i (w.task n) (λ b k dead. spared n b k other dead))
      (turned_at i s w v (Prunes extent next) (Prunes extent (suc next)) turns Holding Holding refl refl)
      (record {
        rows = record {
          row = λ b k. ⊎_elim (λ (same : v.row b k ≡ w.row b k). inl same) (λ (dead : IsTrue (dropped b k)). inr (dead, drops.gone b k dead)) (drops.rows b k);
          pages_per_range = ap (λ (x : Index). x.pages_per_range) index;
          blocks = drops.blocks;
        };
        frame = rows_frame i s w v index drops.summarise_lock;
        pages = ap (λ (x : Index). x.pages) index;
        none = none_at i s w v index (known (Prunes extent next) Holding turns.was refl).1;
      })
      (record { counts = drops.counts }))

  pub sweeps_page : (at page : ℕ) → TaskTurns s w v (Sweeps at page) (SweepsFrom at (suc page)) → StepsIn at w v
      → SweepsTuples s (index_view_at at w) (index_view_at at v) page (λ x. (x.block ≡ page) × IsUnnamed (index_view_at at w) x) → IsIndexKept (index_state i v)
  sweeps_page at page turns stepped sweeps = ⊎_elim
      (λ (is : i ≡ at). steps (subst (λ m. Step s (index_state m w) (index_state m v)) (sym is)
      (Sweep page (turned_at at s w v (Sweeps at page) (SweepsFrom at (suc page)) turns Holding Holding refl refl) sweeps
      (record { counts = stepped.rows.counts }))))
      (λ (apart : i ≢ at). ⊎_elim
      (λ (is : i ≡ at). absurd (apart is))
      (λ (index : v.index i ≡ w.index i). rests (Sweeps at page) (SweepsFrom at (suc page)) turns stepped.rows index sweeps.frame.summarise_lock refl)
      (stepped.others i))
      (cases_eq i at)

  pub begins_scan : (scan : TableScan) → ScanBegins w scan → TaskTurns s w v Resting (Scans scan) → OnlyTurns w v → IsIndexKept (index_state i v)
  begins_scan scan begins turns only = steps (BeginScan (scan_at i scan) (
    held_none i scan.at scan.range scan.held begins.held,
    λ b k sees.
        let row = begins.sees b k sees in
        let low : b < w.blocks = (kept i below).sound.rows_below b k row.0 row.1 in (
          row.0,
          row.1,
          row.2,
          (λ n on_index is. row.3 n (seen_put i b k row.0 on_index (w.task n) is)),
          λ matches.
              ((begins.candidate b).1 low, subst (λ m. m ≤ b) (sym begins.read) (omega arith)),
        ),
  )
      (turned_at i s w v Resting (Scans scan) turns Idle (Scanning (scan_at i scan)) refl refl)
      (reads_at i s w v Resting (Scans scan) turns only.rows (only.indexes.index i) only.summarise_lock (known Resting Idle turns.was refl).0)
      (record { counts = only.rows.counts }))

  -- a scan's step that this index sees as this one
  scans : (old new : TableScan) (e : Scan) → TaskTurns s w v (Scans old) (Scans new) → OnlyTurns w v → scan_at i new ≡ e
      → ScanStep (index_view_at i w) (scan_at i old) e → IsIndexKept (index_state i v)
  scans old new e turns only view step =
      steps (StepScans (scan_at i old) e (turned_at i s w v (Scans old) (Scans new) turns (Scanning (scan_at i old)) (Scanning e) refl (ap Scanning view)) step
      (reads_at i s w v (Scans old) (Scans new) turns only.rows (only.indexes.index i) only.summarise_lock
      (known (Scans old) (Scanning (scan_at i old)) turns.was refl).0.0)
      (record { counts = only.rows.counts }))

  pub ends_scan : (scan : TableScan) → TaskTurns s w v (Scans scan) Resting → OnlyTurns w v → IsIndexKept (index_state i v)
  ends_scan scan turns only =
      steps (EndScan (scan_at i scan) (turned_at i s w v (Scans scan) Resting turns (Scanning (scan_at i scan)) Idle refl refl)
      (reads_at i s w v (Scans scan) Resting turns only.rows (only.indexes.index i) only.summarise_lock
      (known (Scans scan) (Scanning (scan_at i scan)) turns.was refl).0.0)
      (record { counts = only.rows.counts }))

  -- an index that the scan isn't at sees no held place, before and after
  scan_elsewhere : (old : TableScan) → i ≢ old.at → pick i old.at (held_at old.range old.held) None ≡ None
  scan_elsewhere old apart = pick_other i old.at (held_at old.range old.held) None apart

  -- rows of a range that the index at hand leaves out don't match
  pub dropped_spares : (old : TableScan) (x : Spot) (t : IndexTuple) (candidate : ℕ → Bool) → w.task s ≡ Scans old → old.at < w.indexes
      → old.held ≡ Some x → (w.index old.at).tuple x ≡ Some t → t.range ≡ old.range → Excludes t old.matches
      → ((b : ℕ) → ((range_of_block (index_view_at old.at w) b ≡ old.range) × (candidate b ≡ false)) ⊎
      ((range_of_block (index_view_at old.at w) b ≢ old.range) × (candidate b ≡ old.candidate b)))
      → (b k : ℕ) (r : Row) → w.row b k ≡ Some r → IsTrue (old.sees b k) → IsTrue (old.matches r) → IsTrue (old.candidate b) → IsTrue (candidate b)
  dropped_spares old x t candidate was inside held here of excludes others b k r there sees matches candidate_was = ⊎_elim
      (λ (in_range : (range_of_block (index_view_at old.at w) b ≡ old.range) × (candidate b ≡ false)).
      let held' = pick_same old.at (held_at old.range old.held) None ∙ ap (held_at old.range) held ∙ ap (λ m. Some (m, x)) (sym in_range.0) in
      absurd (scan_excludes (index_state old.at w) s b k r (scan_at old.at old) (kept old.at inside) (ap (seen_by old.at) was) sees there
      (x, t, held', here, of ∙ sym in_range.0, excludes) matches))
      (λ (outside : (range_of_block (index_view_at old.at w) b ≢ old.range) × (candidate b ≡ old.candidate b)). outside.1 ∙ candidate_was)
      (others b)

  -- the index that the scan is at sees the place that it holds
  place_here : (old : TableScan) (x : Spot) → i ≡ old.at → old.held ≡ Some x → pick i old.at (held_at old.range old.held) None ≡ Some (old.range, x)
  place_here old x is held =
      subst (λ m. pick m old.at (held_at old.range old.held) None ≡ held_at old.range old.held) (sym is)
      (pick_same old.at (held_at old.range old.held) None) ∙ ap (held_at old.range) held

  judges_here : (old new : TableScan) → i ≡ old.at → JudgeStep (index_view_at i w) old new → TaskTurns s w v (Scans old) (Scans new) → OnlyTurns w v
      → IsIndexKept (index_state i v)
  judges_here old _ is (JudgeMap x empty named) turns only =
      scans old (record old { held = Some x }) (record (scan_at i old) { held = Some (old.range, x) }) turns only
      (ap (λ h. record (scan_at i old) { held = h }) (place_here (record old { held = Some x }) x is refl))
      (ScanMap old.range x (held_none i old.at old.range old.held empty) named)
  judges_here old _ is (JudgeNoEntry empty none) turns only = only_rests (Scans old) (Scans (record old { range = suc old.range; judged = judged_with old true })) turns only
      (ap (λ h. Scanning (record (scan_at i old) { held = h }))
      (held_none i old.at (suc old.range) old.held empty ∙ sym (held_none i old.at old.range old.held empty)))
  judges_here old _ is (JudgeGone x held gone) turns only = scans old (record old { held = None }) (record (scan_at i old) { held = None }) turns only
      (ap (λ h. record (scan_at i old) { held = h }) (held_none i old.at old.range None refl))
      (ScanGone old.range x (place_here old x is held) gone)
  judges_here old _ is (JudgeKeeps x t held stands keeps) turns only =
      scans old (record old { range = suc old.range; held = None; judged = judged_with old true }) (record (scan_at i old) { held = None }) turns only
      (ap (λ h. record (scan_at i old) { held = h }) (held_none i old.at (suc old.range) None refl))
      (ScanKeeps old.range x t (place_here old x is held) stands (subst (λ m. IsTrue (old.keeps m t)) (sym is) keeps))
  judges_here old _ is (JudgeDrops x t candidate held stands keeps excludes others) turns only =
      scans old (record old { range = suc old.range; held = None; judged = judged_with old false; candidate = candidate })
      (record (scan_at i old) { held = None; candidate = candidate }) turns only
      (ap (λ h. record (scan_at i old) { held = h; candidate = candidate }) (held_none i old.at (suc old.range) None refl))
      (ScanDrops old.range x t candidate (place_here old x is held) stands (subst (λ m. old.keeps m t ≡ false) (sym is) keeps) excludes others)

  judges_elsewhere : (old new : TableScan) → i ≢ old.at → old.at < w.indexes → JudgeStep (index_view_at old.at w) old new
      → TaskTurns s w v (Scans old) (Scans new) → OnlyTurns w v → IsIndexKept (index_state i v)
  judges_elsewhere old _ apart inside (JudgeMap x empty named) turns only = only_rests (Scans old) (Scans (record old { held = Some x })) turns only
      (ap (λ h. Scanning (record (scan_at i old) { held = h })) (scan_elsewhere (record old { held = Some x }) apart ∙ sym (scan_elsewhere old apart)))
  judges_elsewhere old _ apart inside (JudgeNoEntry empty none) turns only = only_rests (Scans old) (Scans (record old { range = suc old.range; judged = judged_with old true })) turns only
      (ap (λ h. Scanning (record (scan_at i old) { held = h })) (scan_elsewhere (record old { range = suc old.range }) apart ∙ sym (scan_elsewhere old apart)))
  judges_elsewhere old _ apart inside (JudgeGone x held gone) turns only = only_rests (Scans old) (Scans (record old { held = None })) turns only
      (ap (λ h. Scanning (record (scan_at i old) { held = h })) (scan_elsewhere (record old { held = None }) apart ∙ sym (scan_elsewhere old apart)))
  judges_elsewhere old _ apart inside (JudgeKeeps x t held stands keeps) turns only =
      only_rests (Scans old) (Scans (record old { range = suc old.range; held = None; judged = judged_with old true })) turns only
      (ap (λ h. Scanning (record (scan_at i old) { held = h }))
      (scan_elsewhere (record old { range = suc old.range; held = None }) apart ∙ sym (scan_elsewhere old apart)))
  judges_elsewhere old _ apart inside (JudgeDrops x t candidate held stands keeps excludes others) turns only =
      scans old (record old { range = suc old.range; held = None; judged = judged_with old false; candidate = candidate }) (record (scan_at i old) { candidate = candidate }) turns only
      (ap (λ h. record (scan_at i old) { held = h; candidate = candidate })
      (scan_elsewhere (record old { range = suc old.range; held = None; candidate = candidate }) apart ∙ sym (scan_elsewhere old apart)))
      (ScanElsewhere candidate (dropped_spares old x t candidate turns.was inside held stands.0 stands.1 excludes others))

  pub judges : (old new : TableScan) → old.at < w.indexes → JudgeStep (index_view_at old.at w) old new → TaskTurns s w v (Scans old) (Scans new) → OnlyTurns w v
      → IsIndexKept (index_state i v)
  judges old new inside step turns only = ⊎_elim
      (λ (is : i ≡ old.at). judges_here old new is (subst (λ m. JudgeStep (index_view_at m w) old new) (sym is) step) turns only)
      (λ (apart : i ≢ old.at). judges_elsewhere old new apart inside step turns only)
      (cases_eq i old.at)

  pub reads_block : (scan : TableScan) (next : ℕ) (found : ℕ → ℕ → Bool) → ReadsPage w scan next found
      → TaskTurns s w v (Scans scan) (Scans (record scan { read = next + 1; found = found })) → OnlyTurns w v → IsIndexKept (index_state i v)
  reads_block scan next found reads turns only =
      scans scan (record scan { read = next + 1; found = found }) (record (scan_at i scan) { read = next + 1; found = found }) turns only refl
      (ScanPage next found reads.given reads.unread reads.first reads.keeps reads.page reads.only)
