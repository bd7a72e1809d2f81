-- Of the steps that a running statement of a table could take at a moment there is one point alone.
use Rattle.std.proofs.Common.{◌≡◌, ℕ, ◌+◌, ◌<◌, Option, Some, None, Bool, List, ◌∷◌, sym, ◌∙◌, ap, subst, suc}
use Rattle.std.specs.Prelude.{refl}
use Rattle.std.proofs.lemmas.Option.{same_Some, none-some}
use Rattle.std.proofs.Math.Nat.{ne_of_lt}
use Rattle.block_model.specs.declared.reply.Point.{Point}
use Rattle.block_model.specs.declared.reply.Point.TheVariants as points
use Rattle.block_model.specs.declared.row.Row.{Row}
use Rattle.block_model.specs.declared.row.RowId.{RowId}
use Rattle.block_model.specs.declared.place.Spot.{Spot}
use Rattle.coverage.specs.IndexView.{IndexView}
use Rattle.coverage.specs.Statements.{OnIndex, Empty, Phase, Statement, Idle, Inserting, Maintaining, Holding}
use Rattle.coverage.specs.Steps.{InsertStep}
use Rattle.coverage.specs.Points.{insert_point}
use Rattle.coverage.proofs.NextSteps.{insert_one_point, summarise_one_point, desummarise_one_point}
use Rattle.coverage.proofs.OneOutcome.{insert_one_outcome, summarise_one_outcome, desummarise_one_outcome}
use Rattle.coverage.proofs.TableScans.{judge_once, reads_once}
use Rattle.coverage.specs.Table.{Job, WholeRanges, Desummarising, TableScan, Task, Resting, Reaches, Asks, Inserts, Considers, Maintains, Prunes, SweepsFrom}
use Rattle.coverage.specs.Table.{Sweeps, Restarts, Scans, Marks, TableState, index_view_at}
use Rattle.coverage.specs.TableSteps.{TaskTurns, ReadsPage, JobStep, JudgeStep, JudgeMap, JudgeNoEntry, JudgeGone, JudgeKeeps, JudgeDrops, Does, PutsRow}
use Rattle.coverage.specs.TableSteps.{RefusesRow, AsksSummary, InsertGoes, InsertCompletes, TakesLock, MaintainGoes, MaintainCompletes, PrunesBlock, SweepsPage}
use Rattle.coverage.specs.TableSteps.{RestartsIndex, BeginsScan, Judges, ReadsBlock, MarksRow}
use Rattle.coverage.specs.TablePoints.{job_point, judge_point, does_point}

-- what an insert and a maintenance statement are at after a step in an index
abbrev after_insert : (b k : ℕ) → Row → (at : ℕ) → Statement → Task
after_insert b k r at (Inserting c j q on_index) = Inserts b k r at on_index
after_insert b k r at statement = Reaches b k r (suc at)

abbrev after_maintain : Job → (at range : ℕ) → Statement → Task
after_maintain job at range (Maintaining m phase) = Maintains job at range phase
after_maintain job at range statement = Considers job at (suc range)

-- the point of a statement, by its task, and where its step takes it
data NextTask (w : TableState) (s : ℕ) : Task → Point → Task → Type 0 where
  ToAsk : (b k : ℕ) (r : Row) (at : ℕ) → NextTask w s (Asks b k r at) points.Ask (Inserts b k r at Empty)
  ToInsert : (b k : ℕ) (r : Row) (at : ℕ) (old : OnIndex) (v : IndexView) (e : Statement) (step : InsertStep s b k r (index_view_at at w) v old e)
      → NextTask w s (Inserts b k r at old) (insert_point step) (after_insert b k r at e)
  ToMaintain : (job : Job) (at range : ℕ) (old : Phase) (v : IndexView) (e : Statement) (step : JobStep job s range (index_view_at at w) v old e)
      → NextTask w s (Maintains job at range old) (job_point job s range (index_view_at at w) v old e step) (after_maintain job at range e)
  ToPrune : (extent next : ℕ) → NextTask w s (Prunes extent next) points.Prune (Prunes extent (suc next))
  ToSweep : (at page : ℕ) → NextTask w s (Sweeps at page) points.Sweep (SweepsFrom at (suc page))
  ToRestart : (at : ℕ) → NextTask w s (Restarts at) points.Right (Considers (WholeRanges w.blocks) at 0)
  ToJudge : (old new : TableScan) → old.at < w.indexes → (step : JudgeStep (index_view_at old.at w) old new)
      → NextTask w s (Scans old) (judge_point step) (Scans new)
  ToRead : (scan : TableScan) (next : ℕ) (found : ℕ → ℕ → Bool) → ReadsPage w scan next found
      → NextTask w s (Scans scan) points.Page (Scans (record scan { read = next + 1; found = found }))
  ToMark : (scan : TableScan) (id : RowId) (rest : List RowId) → NextTask w s (Marks scan (id ∷ rest)) points.Mark (Marks scan rest)

job_one_outcome : (job : Job) (s range : ℕ) (w v u : IndexView) (phase : Phase) (e f : Statement) → JobStep job s range w v phase e
    → JobStep job s range w u phase f → e ≡ f
job_one_outcome (Desummarising only) s range w v u phase e f one two = desummarise_one_outcome s range w v u phase e f one two
job_one_outcome _ s range w v u phase e f one two = summarise_one_outcome s range w v u phase e f one two

job_one_point : (job : Job) (s range : ℕ) (w v u : IndexView) (phase : Phase) (e f : Statement) (one : JobStep job s range w v phase e)
    (two : JobStep job s range w u phase f) → job_point job s range w v phase e one ≡ job_point job s range w u phase f two
job_one_point (Desummarising only) s range w v u phase e f one two = desummarise_one_point s range w v u phase e f one two
job_one_point _ s range w v u phase e f one two = summarise_one_point s range w v u phase e f one two

-- a scan reads the map where it holds no place, else the tuple there
abbrev point_of_held : Option Spot → Point
point_of_held None = points.Map
point_of_held (Some x) = points.Tuple

judge_held : (w : IndexView) (old new : TableScan) (step : JudgeStep w old new) → judge_point step ≡ point_of_held old.held
judge_held w old _ (JudgeMap x empty named) = ap point_of_held (sym empty)
judge_held w old _ (JudgeNoEntry empty none) = ap point_of_held (sym empty)
judge_held w old _ (JudgeGone x held gone) = ap point_of_held (sym held)
judge_held w old _ (JudgeKeeps x t held stands keeps) = ap point_of_held (sym held)
judge_held w old _ (JudgeDrops x t candidate held stands drops excludes others) = ap point_of_held (sym held)

-- one point, and one task afterwards
abbrev SameNext : (p q : Point) (t u : Task) → Type 0
SameNext p q t u = (p ≡ q) × (t ≡ u)

task_once : (w : TableState) (s : ℕ) (task : Task) (p q : Point) (t u : Task) → NextTask w s task p t → NextTask w s task q u → SameNext p q t u
task_once w s _ _ _ _ _ (ToAsk b k r at) (ToAsk b' k' r' at') = (refl, refl)
task_once w s _ _ _ _ _ (ToInsert b k r at old v e one) (ToInsert _ _ _ _ _ u f two) = (
  insert_one_point s b k r (index_view_at at w) v u old e f one two,
  ap (after_insert b k r at) (insert_one_outcome s b k r (index_view_at at w) v u old e f one two),
)
task_once w s _ _ _ _ _ (ToMaintain job at range old v e one) (ToMaintain _ _ _ _ u f two) = (
  job_one_point job s range (index_view_at at w) v u old e f one two,
  ap (after_maintain job at range) (job_one_outcome job s range (index_view_at at w) v u old e f one two),
)
task_once w s _ _ _ _ _ (ToPrune extent next) (ToPrune extent' next') = (refl, refl)
task_once w s _ _ _ _ _ (ToSweep at page) (ToSweep at' page') = (refl, refl)
task_once w s _ _ _ _ _ (ToRestart at) (ToRestart at') = (refl, refl)
task_once w s _ _ _ _ _ (ToJudge old new inside one) (ToJudge _ new' inside' two) = (
  judge_held (index_view_at old.at w) old new one ∙ sym (judge_held (index_view_at old.at w) old new' two),
  ap Scans (judge_once (index_view_at old.at w) old new new' one two),
)
task_once w s _ _ _ _ _ (ToJudge old new inside one) (ToRead _ next found reads) = absurd (ne_of_lt inside reads.judged)
task_once w s _ _ _ _ _ (ToRead scan next found reads) (ToJudge _ new inside two) = absurd (ne_of_lt inside reads.judged)
task_once w s _ _ _ _ _ (ToRead scan next found reads) (ToRead _ next' found' reads') =
    let same = reads_once w scan next next' found found' reads reads' in
    (refl, λ i. Scans (record scan { read = same.0 i + 1; found = λ b k. same.1 b k i }))
task_once w s _ _ _ _ _ (ToMark scan id rest) (ToMark scan' id' rest') = (refl, refl)

-- a session with a statement in hand
abbrev IsBusy : Task → Type 0
IsBusy Resting = ⊥
IsBusy task = Unit

-- each step of a running statement that has a point has that of its task
module _ (w v : TableState) (s : ℕ) (p : Point) (busy : IsBusy (w.task s)) where
  at_task : (task new : Task) (q : Point) → TaskTurns s w v task new → NextTask w s task q new → Some q ≡ Some p → NextTask w s (w.task s) p (v.task s)
  at_task task new q turns point same =
      subst (λ t. NextTask w s t p (v.task s)) (sym turns.was)
      (subst (λ t. NextTask w s task p t) (sym turns.now) (subst (λ r. NextTask w s task r new) (same_Some _ _ same) point))

  rests : {A : Type 0} → w.task s ≡ Resting → A
  rests is = absurd (subst IsBusy is busy)

  does_task : (does : Does s w v) → does_point s w v does ≡ Some p → NextTask w s (w.task s) p (v.task s)
  does_task (PutsRow b k r place turns takes) is = rests turns.was
  does_task (RefusesRow t refused turns fails) is = rests turns.was
  does_task (AsksSummary b k r at turns only) is = at_task _ _ _ turns (ToAsk b k r at) is
  does_task (InsertGoes b k r at old new turns stepped step) is =
      at_task _ _ _ turns (ToInsert b k r at old (index_view_at at v) (Inserting b k r new) step) is
  does_task (InsertCompletes b k r at old turns stepped step) is = at_task _ _ _ turns (ToInsert b k r at old (index_view_at at v) Idle step) is
  does_task (TakesLock first begins turns free held rows indexes) is = rests turns.was
  does_task (MaintainGoes job at range old new turns stepped step) is =
      at_task _ _ _ turns (ToMaintain job at range old (index_view_at at v) (Maintaining range new) step) is
  does_task (MaintainCompletes job at range old turns stepped step) is =
      at_task _ _ _ turns (ToMaintain job at range old (index_view_at at v) Holding step) is
  does_task (PrunesBlock extent next dropped inside spared turns drops) is = at_task _ _ _ turns (ToPrune extent next) is
  does_task (SweepsPage at page turns stepped sweeps) is = at_task _ _ _ turns (ToSweep at page) is
  does_task (RestartsIndex at turns only) is = at_task _ _ _ turns (ToRestart at) is
  does_task (BeginsScan scan begins turns only) is = rests turns.was
  does_task (Judges old new inside low step turns only) is = at_task _ _ _ turns (ToJudge old new inside step) is
  does_task (ReadsBlock scan next found reads turns only) is = at_task _ _ _ turns (ToRead scan next found reads) is
  does_task (MarksRow scan id rest turns only) is = at_task _ _ _ turns (ToMark scan id rest) is
  does_task _ is = absurd (none-some _ is)

busy_task : (task : Task) → (task ≡ Resting → ⊥) → IsBusy task
busy_task Resting not = not refl
busy_task _ not = tt

pub table_one_next : (s : ℕ) (w v u : TableState) (p q : Point) → (w.task s ≡ Resting → ⊥) → (one : Does s w v) → (two : Does s w u)
    → does_point s w v one ≡ Some p → does_point s w u two ≡ Some q → (p ≡ q) × (v.task s ≡ u.task s)
table_one_next s w v u p q busy one two is is' =
    let at = busy_task (w.task s) busy in
    task_once w s (w.task s) p q (v.task s) (u.task s) (does_task w v s p at one is) (does_task w u s q at two is')
