-- What a step that has a point did to the statement of its session, by what the statement was at; and where the statement came by it.
use Rattle.std.proofs.Common.{◌≡◌, ◌⊎◌, inl, inr, ℕ, ◌+◌, ◌<◌, Bool, Some, List, ◌∷◌, sym, ◌∙◌, subst, suc}
use Rattle.std.proofs.lemmas.Option.{none-some}
use Rattle.block_model.specs.declared.reply.Point.{Point}
use Rattle.block_model.specs.declared.row.Row.{Row}
use Rattle.block_model.specs.declared.row.RowId.{RowId}
use Rattle.coverage.specs.Statements.{OnIndex, Empty, Phase, Idle, Inserting, Maintaining, Holding}
use Rattle.coverage.specs.Steps.{IsUnnamed, SweepsTuples, InsertStep}
use Rattle.coverage.specs.Table.{Job, WholeRanges, TableScan, Task, Resting, Reaches, Asks, Inserts, Considers, Maintains, Prunes, SweepsFrom, Sweeps, Restarts}
use Rattle.coverage.specs.Table.{Scans, Marks, TableState, index_view_at}
use Rattle.coverage.specs.TableSteps.{first_block, OnlyTurns, StepsIn, TaskTurns, DropsRows, ReadsPage, JobStep, JudgeStep, Does, PutsRow, AsksSummary}
use Rattle.coverage.specs.TableSteps.{InsertGoes, InsertCompletes, TakesLock, MaintainGoes, MaintainCompletes, PrunesBlock, SweepsPage, RestartsIndex}
use Rattle.coverage.specs.TableSteps.{BeginsScan, Judges, ReadsBlock, MarksRow, Onward, IsMaintained, Settles, GoesOn, GivesLock}
use Rattle.coverage.specs.TablePoints.{does_point}

pub data Did (s : ℕ) (w u : TableState) : Task → Task → Type 0 where
  DidBegin : (new : Task) → Did s w u Resting new
  DidAsk : (b k : ℕ) (r : Row) (at : ℕ) → Did s w u (Asks b k r at) (Inserts b k r at Empty)
  DidInsert : (b k : ℕ) (r : Row) (at : ℕ) (old new : OnIndex) → InsertStep s b k r (index_view_at at w) (index_view_at at u) old (Inserting b k r new)
      → Did s w u (Inserts b k r at old) (Inserts b k r at new)
  DidComplete : (b k : ℕ) (r : Row) (at : ℕ) (old : OnIndex) → InsertStep s b k r (index_view_at at w) (index_view_at at u) old Idle
      → Did s w u (Inserts b k r at old) (Reaches b k r (suc at))
  DidMaintain : (job : Job) (at range : ℕ) (old new : Phase) → StepsIn at w u
      → JobStep job s range (index_view_at at w) (index_view_at at u) old (Maintaining range new)
      → Did s w u (Maintains job at range old) (Maintains job at range new)
  DidRange : (job : Job) (at range : ℕ) (old : Phase) → StepsIn at w u → JobStep job s range (index_view_at at w) (index_view_at at u) old Holding
      → Did s w u (Maintains job at range old) (Considers job at (suc range))
  DidPrune : (extent next : ℕ) (dropped : ℕ → ℕ → Bool) → next < extent → DropsRows w u next dropped → Did s w u (Prunes extent next) (Prunes extent (suc next))
  DidSweep : (at page : ℕ) → StepsIn at w u
      → SweepsTuples s (index_view_at at w) (index_view_at at u) page (λ x. (x.block ≡ page) × IsUnnamed (index_view_at at w) x)
      → Did s w u (Sweeps at page) (SweepsFrom at (suc page))
  DidRestart : (at : ℕ) → OnlyTurns w u → Did s w u (Restarts at) (Considers (WholeRanges w.blocks) at 0)
  DidJudge : (old new : TableScan) → old.at < w.indexes → first_block w old.at old.range < old.extent → JudgeStep (index_view_at old.at w) old new
      → OnlyTurns w u → Did s w u (Scans old) (Scans new)
  DidRead : (scan : TableScan) (next : ℕ) (found : ℕ → ℕ → Bool) → ReadsPage w scan next found → OnlyTurns w u
      → Did s w u (Scans scan) (Scans (record scan { read = next + 1; found = found }))
  DidMark : (scan : TableScan) (id : RowId) (rest : List RowId) → OnlyTurns w u → Did s w u (Marks scan (id ∷ rest)) (Marks scan rest)

module _ (s : ℕ) (w u : TableState) (p : Point) where
  did : (old new : Task) → TaskTurns s w u old new → Did s w u old new → Did s w u (w.task s) (u.task s)
  did old new turns it = subst (λ t. Did s w u t (u.task s)) (sym turns.was) (subst (Did s w u old) (sym turns.now) it)

  pub step_did : (does : Does s w u) → does_point s w u does ≡ Some p → Did s w u (w.task s) (u.task s)
  step_did (PutsRow b k r place turns takes) is = did _ _ turns (DidBegin _)
  step_did (AsksSummary b k r at turns only) is = did _ _ turns (DidAsk b k r at)
  step_did (InsertGoes b k r at old new turns stepped step) is = did _ _ turns (DidInsert b k r at old new step)
  step_did (InsertCompletes b k r at old turns stepped step) is = did _ _ turns (DidComplete b k r at old step)
  step_did (TakesLock first begins turns free held rows indexes) is = did _ _ turns (DidBegin first)
  step_did (MaintainGoes job at range old new turns stepped step) is = did _ _ turns (DidMaintain job at range old new stepped step)
  step_did (MaintainCompletes job at range old turns stepped step) is = did _ _ turns (DidRange job at range old stepped step)
  step_did (PrunesBlock extent next dropped inside spared turns drops) is = did _ _ turns (DidPrune extent next dropped inside drops)
  step_did (SweepsPage at page turns stepped sweeps) is = did _ _ turns (DidSweep at page stepped sweeps)
  step_did (RestartsIndex at turns only) is = did _ _ turns (DidRestart at only)
  step_did (BeginsScan scan begins turns only) is = did _ _ turns (DidBegin (Scans scan))
  step_did (Judges old new inside low step turns only) is = did _ _ turns (DidJudge old new inside low step only)
  step_did (ReadsBlock scan next found reads turns only) is = did _ _ turns (DidRead scan next found reads only)
  step_did (MarksRow scan id rest turns only) is = did _ _ turns (DidMark scan id rest only)
  step_did _ is = absurd (none-some _ is)

-- from there it goes on, and nothing else changes; or it was maintenance, and is done
pub step_settles : (s : ℕ) (u v : TableState) → Settles s u v → (task : Task) → u.task s ≡ task
    → (Onward u task (v.task s) × OnlyTurns u v) ⊎ (IsMaintained u task × (v.task s ≡ Resting))
step_settles s u v (GoesOn old new onward turns only) task is =
    inl (subst (Onward u task) (sym turns.now) (subst (λ t. Onward u t new) (sym turns.was ∙ is) onward), only)
step_settles s u v (GivesLock old done turns given rows indexes) task is = inr (subst (IsMaintained u) (sym turns.was ∙ is) done, turns.now)
