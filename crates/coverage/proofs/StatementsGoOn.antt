-- A statement of a table that is before a step has that step, or waits, or lacks a page.
use Rattle.std.proofs.Common.{◌≡◌, ◌≢◌, ◌⊎◌, inl, inr, ⊎_elim, ℕ, ◌+◌, ◌*◌, ◌≤◌, ◌<◌, Option, Some, None, Bool, true, false, List, [], ◌∷◌, sym, ◌∙◌, ap, subst, arith, zero, suc}
use Rattle.std.specs.Prelude.{refl, IsTrue}
use Rattle.std.proofs.lemmas.Option.{none-some}
use Rattle.std.proofs.lemmas.Bool.{cases_eq}
use Rattle.std.proofs.Math.Nat.{le_of_lt, lt_of_lt_of_le, not-le_of_lt}
use Rattle.block_model.specs.declared.reply.Point.TheVariants as points
use Rattle.block_model.specs.declared.row.Row.{Row}
use Rattle.block_model.specs.declared.row.RowId.{RowId}
use Rattle.coverage.specs.IndexView.{IndexView}
use Rattle.coverage.specs.Statements.{OnIndex, Empty, Copied, Phase, NotBuilding, Statement}
use Rattle.coverage.specs.Steps.{SummariseStep}
use Rattle.coverage.specs.Waiting.{IsPhaseWaiting, IsPhaseFull}
use Rattle.coverage.proofs.StepsExist.{insert_has_step, desummarise_has_step}
use Rattle.coverage.proofs.SummariseExists.{summarise_has_step}
use Rattle.coverage.proofs.Numbers.{lt_or_ge}
use Rattle.coverage.specs.Table.{Job, EachRange, OneRange, WholeRanges, Desummarising, TableScan, Task, Resting, Asks, Inserts, Maintains, Prunes, Sweeps}
use Rattle.coverage.specs.Table.{Restarts, Scans, Marks, TableState, index_view_at}
use Rattle.coverage.specs.TableSteps.{first_block, HasRange, IsBlocked, InsertWaits, SummariseWaits, DesummariseWaits, SweepWaits, JudgeStep, JudgeMap}
use Rattle.coverage.specs.TableSteps.{JudgeNoEntry, IndexFull, NoPage, ListsFound, Does, AsksSummary, Judges, ReadsBlock, MarksRow, HasStep, ScanHasStep}
use Rattle.coverage.specs.TableSteps.{Onward, Stays, JudgesNext, Scanned, ToMarks, Marked}
use Rattle.coverage.specs.TablePoints.{judge_point, IsTableStuck}
use Rattle.coverage.specs.Refusals.{IsTaskFull, InsertFull, MaintainFull}
use Rattle.coverage.specs.GoingOn.{CanGoOn, IsScanHonest}
use Rattle.coverage.specs.TableCovered.{IsExtentWithin, IsPhaseOf, IsInTable, FindsOnly, IsTableKept}
use Rattle.coverage.proofs.Views.{pick_same}
use Rattle.coverage.proofs.VacuumGoesOn.{turned, turns_here, only_here, no_onward, prune_goes_on, restart_goes_on, sweep_goes_on}
use Rattle.coverage.proofs.ScanHasStep.{judge_some, read_some}
use Rattle.coverage.proofs.MachinesIn.{insert_knows, maintain_knows}
use Rattle.coverage.proofs.InTable.{judge_at}
use Rattle.coverage.proofs.FoundListed.{found_listed}
use Rattle.coverage.proofs.TableSeen.{table_between_kept}
use Rattle.coverage.proofs.InIndexStep.{insert_no_step, maintain_no_step}

-- a scan that is through with its ranges and blocks replies, or marks what it found
module _ (u : TableState) (scan : TableScan) (none : (new : Task) → Onward u (Scans scan) new → ⊥) (finds : FindsOnly u scan)
    (ids : List RowId) (lists : ListsFound u scan ids) (all : scan.at ≡ u.indexes) where
  read_all : scan.explains ≡ false → (b : ℕ) → IsTrue (scan.candidate b) → b < scan.read
  read_all reads b candidate = ⊎_elim
      (λ (less : b < scan.read). less)
      (λ (more : scan.read ≤ b). absurd (none (Scans scan) (Stays (Scans scan) (inr (reads, all, (b, candidate, more))))))
      (lt_or_ge b scan.read)

  found_none : ListsFound u scan [] → (b k : ℕ) (f : Bool) → scan.found b k ≡ f → f ≡ false
  found_none empty b k true is = let row = finds b k is in absurd (empty.all b k row.0 is row.1)
  found_none empty b k false is = refl

  marks : scan.explains ≡ false → scan.deletes ≡ true → (l : List RowId) → ListsFound u scan l → ⊥
  marks reads deletes [] empty =
      none Resting (Scanned scan (all, inr (read_all reads)) (inr (inr (λ b k. found_none empty b k (scan.found b k) refl))))
  marks reads deletes (id ∷ rest) some = none (Marks scan (id ∷ rest)) (ToMarks scan id rest (all, inr (read_all reads)) reads deletes some)

  by_deletes : scan.explains ≡ false → (f : Bool) → scan.deletes ≡ f → ⊥
  by_deletes reads true is = marks reads is ids lists
  by_deletes reads false is = none Resting (Scanned scan (all, inr (read_all reads)) (inr (inl is)))

  by_explains : (f : Bool) → scan.explains ≡ f → ⊥
  by_explains true is = none Resting (Scanned scan (all, inl is) (inl is))
  by_explains false is = by_deletes is scan.deletes refl

  pub scan_ends : ⊥
  scan_ends = by_explains scan.explains refl

-- a scan goes on to the next range, the next index, or its end
pub scan_on : (u : TableState) (n : ℕ) (scan : TableScan) → ((new : Task) → Onward u (Scans scan) new → ⊥) → FindsOnly u scan → (ids : List RowId)
    → ListsFound u scan ids → scan.at + n ≡ u.indexes → (scan.held ≡ None) ⊎ (first_block u scan.at scan.range < scan.extent) → ⊥
scan_on u zero scan none finds ids lists is held = scan_ends u scan none finds ids lists (omega arith)
scan_on u (suc n) scan none finds ids lists is held = ⊎_elim
    (λ (more : first_block u scan.at scan.range < scan.extent). none (Scans scan) (Stays (Scans scan) (inl (omega arith, more))))
    (λ (all : scan.extent ≤ first_block u scan.at scan.range). ⊎_elim
    (λ (empty : scan.held ≡ None).
    scan_on u n (record scan { at = suc scan.at; range = 0 })
    (λ new onward. none new (JudgesNext scan new (omega arith) all empty onward)) finds ids
    (record { ordered = lists.ordered; all = lists.all; only = lists.only }) (omega arith) (inl empty))
    (λ (more : first_block u scan.at scan.range < scan.extent). not-le_of_lt more all)
    held)
    (lt_or_ge (first_block u scan.at scan.range) scan.extent)

-- after a judgement a scan holds no place, or is at its range still
judged_next : (Low : ℕ → ℕ → ℕ → Type 0) (w : IndexView) (old new : TableScan) → Low old.at old.range old.extent → JudgeStep w old new
    → (new.held ≡ None) ⊎ Low new.at new.range new.extent
judged_next Low w old _ low (JudgeMap x empty named) = inr low
judged_next Low w old _ low (JudgeNoEntry empty none) = inl empty
judged_next Low w old _ low _ = inl refl

-- what is left of the indexes
left_over : (a b : ℕ) → a ≤ b → (n : ℕ) × (a + n ≡ b)
left_over zero b le = (b, omega arith)
left_over (suc a) zero le = absurd (omega arith)
left_over (suc a) (suc b) le = let more = left_over a b (omega arith) in (more.0, omega (arith, more.1))

module _ (w : TableState) (s : ℕ) (kept : IsTableKept w) (can : CanGoOn w) (honest : IsScanHonest w s) (stuck : IsTableStuck w s)
    (unblocked : IsBlocked w s (w.task s) → ⊥) (room : (at number : ℕ) → IsTaskFull w s (w.task s) at number → ⊥) where
  -- the scan after its step goes on
  scan_goes : (q : TableScan) (does : Does s w (turned w s (Scans q)))
      → ((new : Task) → Onward (turned w s (Scans q)) (Scans q) new → ⊥)
      → (q.held ≡ None) ⊎ (first_block w q.at q.range < q.extent) → q.at ≤ w.indexes → ⊥
  scan_goes q does none held le =
      let u = turned w s (Scans q) in
      let kept_u = table_between_kept s w u kept does in
      let listed = found_listed u q can.rows kept_u.rows_below in
      let left = left_over q.at w.indexes le in
      scan_on u left.0 q none (kept_u.finds s q (pick_same s (Scans q) (w.task s))) listed.0 listed.1 left.1 held

  same_le : (a b : ℕ) → a ≡ b → a ≤ b
  same_le a b is = omega arith

  judge_goes_on : (scan : TableScan) → w.task s ≡ Scans scan → scan.at < w.indexes → first_block w scan.at scan.range < scan.extent → ⊥
  judge_goes_on scan was inside low =
      let one = judge_some (index_view_at scan.at w) scan (λ x t here drops. honest scan was x t here drops) in
      judged scan was inside low one.0 one.1
    where
      judged : (scan : TableScan) → w.task s ≡ Scans scan → scan.at < w.indexes → first_block w scan.at scan.range < scan.extent → (q : TableScan)
          → JudgeStep (index_view_at scan.at w) scan q → ⊥
      judged scan was inside low q step =
          scan_goes q (Judges scan q inside low step (turns_here w s (Scans scan) (Scans q) was) (only_here w s (Scans q)))
          (no_onward w s stuck (turned w s (Scans q)) (Scans q) (pick_same s (Scans q) (w.task s))
          (Judges scan q inside low step (turns_here w s (Scans scan) (Scans q) was) (only_here w s (Scans q))) (judge_point step) refl)
          (judged_next (λ at range extent. first_block w at range < extent) (index_view_at scan.at w) scan q low step)
          (subst (λ n. n ≤ w.indexes) (sym (judge_at (index_view_at scan.at w) scan q step)) (le_of_lt inside))

  read_goes_on : (scan : TableScan) → w.task s ≡ Scans scan → scan.explains ≡ false → scan.at ≡ w.indexes → (b : ℕ) → IsTrue (scan.candidate b)
      → scan.read ≤ b → ⊥
  read_goes_on scan was reads all b candidate more =
      let one = read_some w scan reads all b candidate more in
      let q : TableScan = record scan { read = one.0 + 1; found = one.1 } in
      scan_over scan one.0 one.1 all
      (ReadsBlock scan one.0 one.1 one.2 (turns_here w s (Scans scan) (Scans q) was) (only_here w s (Scans q)))
      (no_onward w s stuck (turned w s (Scans q)) (Scans q) (pick_same s (Scans q) (w.task s))
      (ReadsBlock scan one.0 one.1 one.2 (turns_here w s (Scans scan) (Scans q) was) (only_here w s (Scans q))) points.Page refl)
    where
      scan_over : (scan : TableScan) (next : ℕ) (found : ℕ → ℕ → Bool) → scan.at ≡ w.indexes
          → Does s w (turned w s (Scans (record scan { read = next + 1; found = found })))
          → ((new : Task) → Onward (turned w s (Scans (record scan { read = next + 1; found = found }))) (Scans (record scan { read = next + 1; found = found })) new → ⊥)
          → ⊥
      scan_over scan next found all does none =
          let q = record scan { read = next + 1; found = found } in
          let u = turned w s (Scans q) in
          let kept_u = table_between_kept s w u kept does in
          let listed = found_listed u q can.rows kept_u.rows_below in
          scan_ends u q none (kept_u.finds s q (pick_same s (Scans q) (w.task s))) listed.0 listed.1 all

  scan_goes_on : (scan : TableScan) → w.task s ≡ Scans scan → ScanHasStep w scan → ⊥
  scan_goes_on scan was has = ⊎_elim
      (λ (judges : (scan.at < w.indexes) × (first_block w scan.at scan.range < scan.extent)). judge_goes_on scan was judges.0 judges.1)
      (λ (reads : (scan.explains ≡ false) × (scan.at ≡ w.indexes) × ((b : ℕ) × IsTrue (scan.candidate b) × (scan.read ≤ b))).
      read_goes_on scan was reads.0 reads.1 reads.2.0 reads.2.1 reads.2.2)
      has

  mark_onward : (scan : TableScan) (rest : List RowId)
      → ((new : Task) → Onward (turned w s (Marks scan rest)) (Marks scan rest) new → ⊥) → ⊥
  mark_onward scan [] none = none Resting (Marked scan)
  mark_onward scan (id ∷ rest) none = none (Marks scan (id ∷ rest)) (Stays (Marks scan (id ∷ rest)) tt)

  mark_goes_on : (scan : TableScan) (ids : List RowId) → w.task s ≡ Marks scan ids → HasStep w (Marks scan ids) → ⊥
  mark_goes_on scan [] was has = absurd has
  mark_goes_on scan (id ∷ rest) was has =
      mark_onward scan rest
      (no_onward w s stuck (turned w s (Marks scan rest)) (Marks scan rest) (pick_same s (Marks scan rest) (w.task s))
      (MarksRow scan id rest (turns_here w s (Marks scan (id ∷ rest)) (Marks scan rest) was) (only_here w s (Marks scan rest))) points.Mark refl)

  ask_goes_on : (b k : ℕ) (r : Row) (at : ℕ) → w.task s ≡ Asks b k r at → ⊥
  ask_goes_on b k r at was =
      let new = Inserts b k r at Empty in
      no_onward w s stuck (turned w s new) new (pick_same s new (w.task s))
      (AsksSummary b k r at (turns_here w s (Asks b k r at) new was) (only_here w s new)) points.Ask refl new (Stays new tt)

  insert_goes_on : (b k : ℕ) (r : Row) (at : ℕ) (g : OnIndex) → w.task s ≡ Inserts b k r at g → ⊥
  insert_goes_on b k r at g was =
      let below : at < w.indexes = subst (IsInTable w) was (kept.inside s) in
      insert_has_step s b k r (index_view_at at w) (can.slots at below) g (insert_knows s b k r at w g kept below was).0
      (insert_no_step w s stuck at below b k r g was)
      (λ x old new is. (
        λ number verdict. room at number (subst (λ t. IsTaskFull w s t at number) (sym (was ∙ ap (Inserts b k r at) is))
            (InsertFull b k r (Inserts b k r at (Copied x old new)) at number (IndexFull number at x old new verdict) refl)),
        λ p verdict. unblocked (subst (IsBlocked w s) (sym (was ∙ ap (Inserts b k r at) is)) (InsertWaits p b k r at x old new verdict)),
      ))

  -- the range that a summariser is at has a block of the table
  range_of : (job : Job) (at range : ℕ) → at < w.indexes → IsExtentWithin w job → HasRange w job at range → ((only : ℕ) → job ≡ Desummarising only → ⊥)
      → first_block w at range < w.blocks
  range_of (EachRange extent) at range below le has summarises = lt_of_lt_of_le has le
  range_of (OneRange extent only) at range below le has summarises =
      subst (λ m. first_block w at m < w.blocks) (sym has.0) (lt_of_lt_of_le has.1 le)
  range_of (WholeRanges extent) at range below le has summarises =
      first_below range (w.index at).pages_per_range extent w.blocks (kept.indexes at below).sound.ranged has le
    where
      further : (r p : ℕ) → 0 < p → r * p < (r + 1) * p
      further r p some = omega arith

      first_below : (r p e n : ℕ) → 0 < p → (r + 1) * p ≤ e → e ≤ n → r * p < n
      first_below r p e n some low le = omega (arith, further r p some, low, le)
  range_of (Desummarising only) at range below le has summarises = absurd (summarises only refl)

  module _ (job : Job) (at range : ℕ) (g : Phase) (was : w.task s ≡ Maintains job at range g) where
    abbrev IsMine : Type 0
    IsMine = IsInTable w (Maintains job at range g)

    mine : IsMine
    mine = subst (IsInTable w) was (kept.inside s)

    unwaiting : (p : ℕ) → IsPhaseWaiting (index_view_at at w) s range g p → ⊥
    unwaiting p waits = unblocked (subst (IsBlocked w s) (sym was) (SummariseWaits p job at range g waits))

    unfull : (number : ℕ) → IsPhaseFull (index_view_at at w) s range g number → ⊥
    unfull number full = room at number
        (subst (λ t. IsTaskFull w s t at number) (sym was) (MaintainFull job at range number g (NoPage number g full) refl))

    summarise_goes_on : ((only : ℕ) → job ≡ Desummarising only → ⊥)
        → ((e : Statement) (v : IndexView) → SummariseStep s range (index_view_at at w) v g e → ⊥) → ⊥
    summarise_goes_on summarises no_step =
        let known = maintain_knows s job at range w g kept mine.0 was in
        let low = range_of job at range mine.0 mine.1 mine.2 summarises in
        summarise_has_step s range (index_view_at at w) (can.slots at mine.0) can.rows (low, can.ranges at range mine.0 low) g known.0 known.1 no_step
        (unwaiting, unfull)

  desummarise_goes_on : (only at range : ℕ) (g : Phase) → w.task s ≡ Maintains (Desummarising only) at range g → IsPhaseOf (Desummarising only) g
      → at < w.indexes → ⊥
  desummarise_goes_on only at range (NotBuilding on_index) was of below =
      desummarise_has_step s range (index_view_at at w) on_index
      (maintain_knows s (Desummarising only) at range w (NotBuilding on_index) kept below was).0
      (maintain_no_step w s stuck at below (Desummarising only) range (NotBuilding on_index) was)
      (λ x p is verdict.
      unblocked (subst (IsBlocked w s) (sym (was ∙ ap (λ h. Maintains (Desummarising only) at range (NotBuilding h)) is))
      (DesummariseWaits p only at range x verdict)))
  desummarise_goes_on only at range _ was of below = of

  maintain_goes_on : (job : Job) (at range : ℕ) (g : Phase) → w.task s ≡ Maintains job at range g → IsInTable w (Maintains job at range g) → ⊥
  maintain_goes_on (EachRange extent) at range g was mine =
      summarise_goes_on (EachRange extent) at range g was (λ only is. cc) (maintain_no_step w s stuck at mine.0 (EachRange extent) range g was)
  maintain_goes_on (OneRange extent only) at range g was mine =
      summarise_goes_on (OneRange extent only) at range g was (λ only is. cc) (maintain_no_step w s stuck at mine.0 (OneRange extent only) range g was)
  maintain_goes_on (WholeRanges extent) at range g was mine =
      summarise_goes_on (WholeRanges extent) at range g was (λ only is. cc) (maintain_no_step w s stuck at mine.0 (WholeRanges extent) range g was)
  maintain_goes_on (Desummarising only) at range g was mine = desummarise_goes_on only at range g was mine.3 mine.0

  -- a page that no other locks is free
  sweep_on : (at page : ℕ) → w.task s ≡ Sweeps at page → at < w.indexes → ⊥
  sweep_on at page was below = by ((w.index at).lock page) refl
    where
      by : (o : Option ℕ) → (w.index at).lock page ≡ o → ⊥
      by None is = sweep_goes_on w s at page was below (λ n held. absurd (none-some _ (sym is ∙ held))) stuck
      by (Some n) is = sweep_goes_on w s at page was below (λ m held. mine m held) stuck
        where
          mine : (m : ℕ) → (w.index at).lock page ≡ Some m → m ≡ s
          mine m held = ⊎_elim
              (λ (same : m ≡ s). same)
              (λ (other : m ≢ s). absurd (unblocked (subst (IsBlocked w s) (sym was) (SweepWaits at page (m, held, other)))))
              (cases_eq m s)

  pub statement_goes_on : (w.task s ≡ Resting → ⊥) → HasStep w (w.task s) → ⊥
  statement_goes_on busy has = by (w.task s) refl has
    where
      by : (task : Task) → w.task s ≡ task → HasStep w task → ⊥
      by Resting was has = busy was
      by (Asks b k r at) was has = ask_goes_on b k r at was
      by (Inserts b k r at g) was has = insert_goes_on b k r at g was
      by (Maintains job at range g) was has = maintain_goes_on job at range g was (subst (IsInTable w) was (kept.inside s))
      by (Prunes extent next) was has = prune_goes_on w s extent next was has stuck
      by (Sweeps at page) was has = sweep_on at page was (subst (IsInTable w) was (kept.inside s))
      by (Restarts at) was has = restart_goes_on w s at was (subst (IsInTable w) was (kept.inside s)) stuck
      by (Scans scan) was has = scan_goes_on scan was has
      by (Marks scan ids) was has = mark_goes_on scan ids was has
      by _ was has = has
