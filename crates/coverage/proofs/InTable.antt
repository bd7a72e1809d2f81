-- A table's statements are at its indexes, and at ranges of their jobs.
use Rattle.std.proofs.Common.{◌≡◌, ◌⊎◌, ⊎_elim, ℕ, ◌+◌, ◌*◌, ◌≤◌, ◌<◌, sym, ap, subst, arith, suc}
use Rattle.std.proofs.Math.Nat.{le_of_lt, le_refl, le_trans}
use Rattle.coverage.specs.IndexView.{IndexView}
use Rattle.coverage.specs.Statements.{Empty, Phase, NotBuilding, Statement, Maintaining}
use Rattle.coverage.specs.Steps.{ClearMap}
use Rattle.coverage.specs.Table.{Job, EachRange, OneRange, WholeRanges, Desummarising, TableScan, Task, Resting, Reaches, Asks, Inserts, Considers, Maintains}
use Rattle.coverage.specs.Table.{Prunes, SweepsFrom, Sweeps, Restarts, Scans, TableState, index_view_at}
use Rattle.coverage.specs.TableSteps.{BeginsWith, Summarize, SummarizeOne, Work, Desummarize, Vacuum, HasRange, JobStep, JudgeStep, JudgeMap, Does, PutsRow}
use Rattle.coverage.specs.TableSteps.{RefusesRow, AsksSummary, InsertGoes, InsertCompletes, RefusesInsert, TakesLock, MaintainGoes, MaintainCompletes}
use Rattle.coverage.specs.TableSteps.{RefusesMaintain, RefusesVacuum, PrunesBlock, SweepsPage, RestartsIndex, BeginsScan, Judges, ReadsBlock, RefusesScan}
use Rattle.coverage.specs.TableSteps.{MarksRow, Conflicts, Blocked, Transacts, Onward, Stays, ToAsk, ToIndex, ToRange, NextIndex, Pruned, ToPage, Swept}
use Rattle.coverage.specs.TableSteps.{JudgesNext, Settles, GoesOn, GivesLock}
use Rattle.coverage.specs.TableCovered.{IsExtentWithin, IsPhaseOf, IsInTable}
use Rattle.coverage.proofs.Leaves.{does_leaves, settles_leaves}
use Rattle.coverage.proofs.TableSettled.{does_layout, settles_layout}
use Rattle.coverage.proofs.TableJudged.{SameRanges, indexes_ranges, does_ranges}

module _ (w v : TableState) (same : SameRanges w v) (more : w.blocks ≤ v.blocks) where
  through : (a : ℕ) → a ≤ w.blocks → a ≤ v.blocks
  through a le = le_trans le more

  below_on : (at : ℕ) → at < w.indexes → at < v.indexes
  below_on at below = subst (λ n. at < n) (sym same.0) below

  extent_on : (job : Job) → IsExtentWithin w job → IsExtentWithin v job
  extent_on (EachRange extent) le = through extent le
  extent_on (OneRange extent only) le = through extent le
  extent_on (WholeRanges extent) le = through extent le
  extent_on (Desummarising only) le = tt

  range_on : (job : Job) (at range : ℕ) → HasRange w job at range → HasRange v job at range
  range_on (EachRange extent) at range has = subst (λ n. range * n < extent) (sym (same.1 at)) has
  range_on (OneRange extent only) at range has = (has.0, subst (λ n. only * n < extent) (sym (same.1 at)) has.1)
  range_on (WholeRanges extent) at range has = subst (λ n. (range + 1) * n ≤ extent) (sym (same.1 at)) has
  range_on (Desummarising only) at range has = has

  in_table_on : (task : Task) → IsInTable w task → IsInTable v task
  in_table_on (Reaches b k r at) is = subst (λ n. at ≤ n) (sym same.0) is
  in_table_on (Asks b k r at) is = below_on at is
  in_table_on (Inserts b k r at on_index) is = below_on at is
  in_table_on (Considers job at range) is = (below_on at is.0, extent_on job is.1)
  in_table_on (Maintains job at range phase) is = (below_on at is.0, extent_on job is.1, range_on job at range is.2, is.3)
  in_table_on (Prunes extent next) is = through extent is
  in_table_on (Sweeps at page) is = below_on at is
  in_table_on (Restarts at) is = below_on at is
  in_table_on (Scans scan) is = subst (λ n. scan.at ≤ n) (sym same.0) is
  in_table_on _ is = tt

-- a judgement stays at its index
pub judge_at : (w : IndexView) (old new : TableScan) → JudgeStep w old new → new.at ≡ old.at
judge_at w old _ (JudgeMap x empty named) = λ i. old.at
judge_at w old _ _ = λ i. old.at

-- a statement of this sort stays at its phases
phase_begins : (job : Job) → IsPhaseOf job (NotBuilding Empty)
phase_begins (EachRange extent) = tt
phase_begins _ = tt

abbrev IsPhaseIn : Job → Statement → Type 0
IsPhaseIn job (Maintaining range phase) = IsPhaseOf job phase
IsPhaseIn job statement = Unit

phase_on : (job : Job) (s range : ℕ) (w v : IndexView) (old : Phase) (new : Statement) → JobStep job s range w v old new → IsPhaseIn job new
phase_on (EachRange extent) s range w v old (Maintaining m phase) step = tt
phase_on (EachRange extent) s range w v old _ step = tt
phase_on (OneRange extent only) s range w v old (Maintaining m phase) step = tt
phase_on (OneRange extent only) s range w v old _ step = tt
phase_on (WholeRanges extent) s range w v old (Maintaining m phase) step = tt
phase_on (WholeRanges extent) s range w v old _ step = tt
phase_on (Desummarising only) s range w v _ _ (ClearMap x named reads) = tt
phase_on (Desummarising only) s range w v _ _ _ = tt

begins_inside : (w : TableState) (first : Task) → BeginsWith w first → IsInTable w first
begins_inside w _ (Summarize at below) = (below, le_refl w.blocks)
begins_inside w _ (SummarizeOne at only below) = (below, le_refl w.blocks)
begins_inside w _ (Work at only below) = (below, le_refl w.blocks)
begins_inside w _ (Desummarize at only below) = (below, tt)
begins_inside w _ Vacuum = le_refl w.blocks

abbrev AllInside : TableState → Type 0
AllInside w = (s : ℕ) → IsInTable w (w.task s)

module _ (s : ℕ) (w v : TableState) (kept : AllInside w) where
  was_in : (task : Task) → w.task s ≡ task → IsInTable w task
  was_in task is = subst (IsInTable w) is (kept s)

  now_in : (task : Task) → v.task s ≡ task → IsInTable w task → IsInTable w (v.task s)
  now_in task is inside = subst (IsInTable w) (sym is) inside

  own_inside : Does s w v → IsInTable w (v.task s)
  own_inside (PutsRow b k r place turns takes) = now_in _ turns.now (omega arith)
  own_inside (RefusesRow t refused turns fails) = now_in Resting turns.now tt
  own_inside (AsksSummary b k r at turns only) = now_in _ turns.now (was_in _ turns.was)
  own_inside (InsertGoes b k r at old new turns stepped step) = now_in _ turns.now (was_in _ turns.was)
  own_inside (InsertCompletes b k r at old turns stepped step) = now_in _ turns.now (was_in _ turns.was)
  own_inside (RefusesInsert b k r old refused turns fails) = now_in Resting turns.now tt
  own_inside (TakesLock first begins turns free held rows indexes) = now_in first turns.now (begins_inside w first begins)
  own_inside (MaintainGoes job at range old new turns stepped step) =
      let is = was_in (Maintains job at range old) turns.was in
      now_in (Maintains job at range new) turns.now
      (is.0, is.1, is.2, phase_on job s range (index_view_at at w) (index_view_at at v) old (Maintaining range new) step)
  own_inside (MaintainCompletes job at range old turns stepped step) =
      let is = was_in (Maintains job at range old) turns.was in now_in (Considers job at (suc range)) turns.now (is.0, is.1)
  own_inside (RefusesMaintain job at range phase refused turns stepped passes) = now_in Resting turns.now tt
  own_inside (RefusesVacuum old vacuuming turns given rows indexes) = now_in Resting turns.now tt
  own_inside (PrunesBlock extent next dropped inside spared turns drops) = now_in _ turns.now (was_in _ turns.was)
  own_inside (SweepsPage at page turns stepped sweeps) = now_in _ turns.now tt
  own_inside (RestartsIndex at turns only) = now_in _ turns.now (was_in (Restarts at) turns.was, le_refl w.blocks)
  own_inside (BeginsScan scan begins turns only) = now_in (Scans scan) turns.now (subst (λ n. n ≤ w.indexes) (sym begins.at) (omega arith))
  own_inside (Judges old new inside low step turns only) =
      now_in (Scans new) turns.now (subst (λ n. n ≤ w.indexes) (sym (judge_at (index_view_at old.at w) old new step)) (le_of_lt inside))
  own_inside (ReadsBlock scan next found reads turns only) = now_in _ turns.now (was_in (Scans scan) turns.was)
  own_inside (RefusesScan scan t turns how) = now_in Resting turns.now tt
  own_inside (MarksRow scan id rest turns only) = now_in _ turns.now tt
  own_inside (Conflicts scan id rest t turns fails) = now_in Resting turns.now tt
  own_inside (Blocked task blocked turns only) = now_in task turns.now (was_in task turns.was)
  own_inside (Transacts counts resting few same) = subst (IsInTable w) (sym (ap (λ (u : TableState). u.task s) same)) (kept s)

  inside_after : SameRanges w v → w.blocks ≤ v.blocks → ((n : ℕ) → (n ≡ s) ⊎ (v.task n ≡ w.task n)) → IsInTable w (v.task s) → AllInside v
  inside_after same more others own n = ⊎_elim
      (λ (at : n ≡ s). subst (λ m. IsInTable v (v.task m)) (sym at) (in_table_on w v same more (v.task s) own))
      (λ (e : v.task n ≡ w.task n). subst (IsInTable v) (sym e) (in_table_on w v same more (w.task n) (kept n)))
      (others n)

  pub does_inside : Does s w v → AllInside v
  does_inside does =
      let left = does_leaves s w v does in
      inside_after (does_layout s w v does, does_ranges s w v does) left.blocks left.others (own_inside does)

  onward_inside : (old new : Task) → Onward w old new → IsInTable w old → IsInTable w new
  onward_inside _ _ (Stays task has) is = is
  onward_inside _ _ (ToAsk b k r at inside asks) is = inside
  onward_inside _ _ (ToIndex b k r at inside not) is = inside
  onward_inside _ _ (ToRange job at range has) is = (is.0, is.1, has, phase_begins job)
  onward_inside _ _ (NextIndex extent at range done inside) is = inside
  onward_inside _ _ (Pruned extent next new all more) is = onward_inside (SweepsFrom 0 0) new more tt
  onward_inside _ _ (ToPage at from m p next) is = next.has.0
  onward_inside _ _ (Swept at from none some) is = some
  onward_inside _ _ (JudgesNext scan new inside all empty more) is =
      onward_inside (Scans (record scan { at = suc scan.at; range = 0 })) new more inside
  onward_inside _ _ _ is = tt

  pub settles_inside : Settles s w v → AllInside v
  settles_inside settles = by settles
    where
      by : Settles s w v → AllInside v
      by (GoesOn old new onward turns only) =
          inside_after (settles_layout s w v settles, indexes_ranges w v only.indexes) (settles_leaves s w v settles).blocks turns.others
          (now_in new turns.now (onward_inside old new onward (was_in old turns.was)))
      by (GivesLock old done turns given rows indexes) =
          inside_after (settles_layout s w v settles, indexes_ranges w v indexes) (settles_leaves s w v settles).blocks turns.others
          (now_in Resting turns.now tt)
