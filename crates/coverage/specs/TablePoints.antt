-- The name of each step of a table's statements, as it is printed.
use Rattle.std.specs.Prelude.{◌≡◌, ℕ, Option, None, Some}
use Rattle.block_model.specs.declared.reply.Point.{Point}
use Rattle.block_model.specs.declared.reply.Point.TheVariants as points
use Rattle.coverage.specs.IndexView.{IndexView}
use Rattle.coverage.specs.Statements.{Phase, Statement, Maintaining, Holding}
use Rattle.coverage.specs.Points.{insert_point, summarise_point, desummarise_point}
use Rattle.coverage.specs.Table.{Job, EachRange, OneRange, WholeRanges, Desummarising, TableScan, Task, TableState, index_view_at}
use Rattle.coverage.specs.TableSteps.{JobStep, JudgeStep, JudgeMap, JudgeNoEntry, JudgeGone, JudgeKeeps, JudgeDrops, Does, PutsRow, AsksSummary, InsertGoes}
use Rattle.coverage.specs.TableSteps.{RefusesRow, MarksRow, Conflicts, InsertCompletes, RefusesInsert, TakesLock, MaintainGoes, MaintainCompletes, RefusesMaintain, RefusesVacuum}
use Rattle.coverage.specs.TableSteps.{PrunesBlock, SweepsPage, RestartsIndex, BeginsScan, Judges, ReadsBlock, RefusesScan, Blocked, Transacts, IsBlocked}
use Rattle.coverage.specs.TableSteps.{SummariseLockHeld, InsertWaits, SummariseWaits, DesummariseWaits, SweepWaits, TableStep}

abbrev pub job_point : (job : Job) (s range : ℕ) (w v : IndexView) (old : Phase) (new : Statement) → JobStep job s range w v old new → Point
job_point (EachRange extent) s range w v old new step = summarise_point step
job_point (OneRange extent only) s range w v old new step = summarise_point step
job_point (WholeRanges extent) s range w v old new step = summarise_point step
job_point (Desummarising only) s range w v old new step = desummarise_point step

abbrev pub judge_point : {w : IndexView} {old new : TableScan} → JudgeStep w old new → Point
judge_point (JudgeMap x empty named) = points.Map
judge_point (JudgeNoEntry empty none) = points.Map
judge_point (JudgeGone x held gone) = points.Tuple
judge_point (JudgeKeeps x t held stands keeps) = points.Tuple
judge_point (JudgeDrops x t candidate held stands drops excludes others) = points.Tuple

-- a refusal, a wait, and what a transaction alone does have none
abbrev pub does_point : (s : ℕ) (w v : TableState) → Does s w v → Option Point
does_point s w v (PutsRow b k r place turns takes) = Some points.Row
does_point s w v (RefusesRow t refused turns fails) = None
does_point s w v (AsksSummary b k r at turns only) = Some points.Ask
does_point s w v (InsertGoes b k r at old new turns stepped step) = Some (insert_point step)
does_point s w v (InsertCompletes b k r at old turns stepped step) = Some (insert_point step)
does_point s w v (RefusesInsert b k r old refused turns fails) = None
does_point s w v (TakesLock first begins turns free held rows indexes) = Some points.Right
does_point s w v (MaintainGoes job at range old new turns stepped step) =
    Some (job_point job s range (index_view_at at w) (index_view_at at v) old (Maintaining range new) step)
does_point s w v (MaintainCompletes job at range old turns stepped step) =
    Some (job_point job s range (index_view_at at w) (index_view_at at v) old Holding step)
does_point s w v (RefusesMaintain job at range phase refused turns stepped passes) = None
does_point s w v (RefusesVacuum old vacuuming turns given rows indexes) = None
does_point s w v (PrunesBlock extent next dropped inside spared turns drops) = Some points.Prune
does_point s w v (SweepsPage at page turns stepped sweeps) = Some points.Sweep
does_point s w v (RestartsIndex at turns only) = Some points.Right
does_point s w v (BeginsScan scan begins turns only) = Some points.Extent
does_point s w v (Judges old new inside low step turns only) = Some (judge_point step)
does_point s w v (ReadsBlock scan next found reads turns only) = Some points.Page
does_point s w v (RefusesScan scan t turns how) = None
does_point s w v (MarksRow scan id rest turns only) = Some points.Mark
does_point s w v (Conflicts scan id rest t turns fails) = None
does_point s w v (Blocked task blocked turns only) = None
does_point s w v (Transacts counts resting few same) = None

-- what a blocked statement waits for: the summarise lock, or the lock of a page of an index
pub data WaitedFor : Type 0 where
  SummariseLock : WaitedFor
  PageLock : (at page : ℕ) → WaitedFor

abbrev pub waits_for : (w : TableState) (s : ℕ) (task : Task) → IsBlocked w s task → WaitedFor
waits_for w s _ (SummariseLockHeld n held other) = SummariseLock
waits_for w s _ (InsertWaits q b k r at x old new verdict) = PageLock at q
waits_for w s _ (SummariseWaits q job at range phase waits) = PageLock at q
waits_for w s _ (DesummariseWaits q only at range x verdict) = PageLock at q
waits_for w s _ (SweepWaits at page locked) = PageLock at page

abbrev pub IsHeldBy : TableState → WaitedFor → ℕ → Type 0
IsHeldBy w SummariseLock n = w.summarise_lock ≡ Some n
IsHeldBy w (PageLock at page) n = (w.index at).lock page ≡ Some n

-- the session has no step that has a point: none but to wait, or to be refused
abbrev pub IsTableStuck : TableState → ℕ → Type 0
IsTableStuck w s = (v : TableState) (step : TableStep s w v) (p : Point) → does_point s w step.between step.does ≡ Some p → ⊥
