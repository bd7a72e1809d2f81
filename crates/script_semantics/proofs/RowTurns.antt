-- The step with the name of a put row is an insert's.
use Rattle.std.proofs.Common.{◌≡◌, ◌≢◌, ◌⊎◌, inl, inr, ℕ, Bool, true, false, Option, None, Some, refl, sym, ap, ◌∙◌}
use Rattle.std.proofs.lemmas.Bool.{false≢true}
use Rattle.block_model.specs.declared.reply.Point.{Point}
use Rattle.block_model.specs.declared.reply.Point.TheVariants as points
use Rattle.block_model.specs.declared.row.Row.{Row}
use Rattle.store_layout.specs.declared.statement.Statement.{Statement}
use Rattle.store_layout.specs.declared.statement.Statement.TheVariants as statements
use Rattle.coverage.specs.IndexView.{IndexView}
use Rattle.coverage.specs.Points.{desummarise_point, growth_point, insert_point, on_index_point, summarise_point}
use Rattle.coverage.specs.Statements.{OnIndex, Phase}
use Rattle.coverage.specs.Statements as on_index
use Rattle.coverage.specs.Steps as index_steps
use Rattle.coverage.specs.Steps.{Again, Clear, ClearAgain, ClearMap, ClearNone, Count, CountLeftOver, DesummariseStep, DropCleared, DropOld, EvacuateDrop, EvacuatePut, EvacuateSet, EvacuateSweep, Extent, Flag, Found, Gone, Grow, GrowMap}
use Rattle.coverage.specs.Steps.{GrowthStep, InsertCopies, InsertDrop, InsertNoEntry, InsertOnIndex, InsertSet, InsertStep, InsertSwap, InsertUnchanged, IsFinal, LookGone, LookMap, Maps, MovePut, OnIndexStep, Pass, Put, ReadNoEntry}
use Rattle.coverage.specs.Steps.{Set, SetFinal, SummariseStep, SwapFinal, Unite, UniteCopies}
use Rattle.coverage.specs.Table.{Desummarising, EachRange, Job, OneRange, Reaches, Resting, TableScan, TableState, Task, WholeRanges}
use Rattle.coverage.specs.TablePoints.{does_point, job_point, judge_point}
use Rattle.coverage.specs.TableSteps.{AsksSummary, BeginsScan, Blocked, Conflicts, Does, InsertCompletes, InsertGoes, JobStep, JudgeDrops, JudgeGone, JudgeKeeps, JudgeMap, JudgeNoEntry, Judges, JudgeStep, MaintainCompletes, MaintainGoes, MarksRow}
use Rattle.coverage.specs.TableSteps.{PrunesBlock, PutsRow, ReadsBlock, RefusesInsert, RefusesMaintain, RefusesRow, RefusesScan, RefusesVacuum, RestartsIndex, SweepsPage, TakesLock, Transacts}
use Rattle.script_semantics.specs.Beginnings.{Begins, StandsAt}
use Rattle.script_semantics.specs.Place.{Place}
use Rattle.script_semantics.specs.StatementSteps.{IsInsert}
use Rattle.script_semantics.specs.Turns.{Turn, point_of}

abbrev is_row : Point → Bool
is_row points.Row = true
is_row point = false

abbrev row_of : Option Point → Bool
row_of None = false
row_of (Some point) = is_row point

on_index_not : (s range : ℕ) (w v : IndexView) (old new : OnIndex) (step : OnIndexStep s range w v old new) → is_row (on_index_point step) ≡ false
on_index_not s range w v _ _ (Maps x names reads) = refl
on_index_not s range w v _ _ (Gone x gone reads) = refl
on_index_not s range w v _ _ (Again x old new verdict reads) = refl
on_index_not s range w v _ _ (MovePut x y old new verdict puts these) = refl

insert_not : (s b k : ℕ) (r : Row) (w v : IndexView) (old : OnIndex) (new : on_index.Statement) (step : InsertStep s b k r w v old new) → is_row (insert_point step) ≡ false
insert_not s b k r w v _ _ (InsertOnIndex old new step) = on_index_not s _ w v old new step
insert_not s b k r w v _ _ (InsertNoEntry none reads) = refl
insert_not s b k r w v _ _ (InsertCopies x old new stands added changes reads) = refl
insert_not s b k r w v _ _ (InsertUnchanged x t stands added free reads) = refl
insert_not s b k r w v _ _ (InsertSwap x old new verdict swap) = refl
insert_not s b k r w v _ _ (InsertSet x y old new sets same) = refl
insert_not s b k r w v _ _ (InsertDrop x drops) = refl

growth_not : (s range : ℕ) (w v : IndexView) (old new : Phase) (step : GrowthStep s range w v old new) → is_row (growth_point step) ≡ false
growth_not s range w v _ _ (Grow grows free meta turns) = refl
growth_not s range w v _ _ (CountLeftOver grows meta counts) = refl
growth_not s range w v _ _ (Count counts) = refl
growth_not s range w v _ _ (Flag grows free turns) = refl
growth_not s range w v _ _ (EvacuatePut x y t grows next names free verdict puts these) = refl
growth_not s range w v _ _ (EvacuateSet n x y t u sets same) = refl
growth_not s range w v _ _ (EvacuateDrop n x drops) = refl
growth_not s range w v _ _ (EvacuateSweep x t grows next unnamed sweeps) = refl
growth_not s range w v _ _ (index_steps.Turn grows empty free meta turns) = refl

summarise_not : (s range : ℕ) (w v : IndexView) (old : Phase) (new : on_index.Statement) (step : SummariseStep s range w v old new) → is_row (summarise_point step) ≡ false
summarise_not s range w v _ _ (LookMap x names reads) = refl
summarise_not s range w v _ _ (LookGone x gone reads) = refl
summarise_not s range w v _ _ (IsFinal x t stands final reads) = refl
summarise_not s range w v _ _ (Found x t stands flag reads) = refl
summarise_not s range w v _ _ (ReadNoEntry none of reads) = refl
summarise_not s range w v _ _ (GrowMap old new step) = growth_not s range w v old new step
summarise_not s range w v _ _ (Put x t is long verdict puts these) = refl
summarise_not s range w v _ _ (Set x sets none) = refl
summarise_not s range w v _ _ (Extent extent result start is reads) = refl
summarise_not s range w v _ _ (Pass extent next slots result wider below none made reads) = refl
summarise_not s range w v _ _ (Unite extent next result old new all step) = on_index_not s range w v old new step
summarise_not s range w v _ _ (UniteCopies extent next result x old new all stands united reads) = refl
summarise_not s range w v _ _ (SwapFinal p x old new verdict swap) = refl
summarise_not s range w v _ _ (SetFinal p x y old new sets same) = refl
summarise_not s range w v _ _ (DropOld x drops) = refl

desummarise_not : (s range : ℕ) (w v : IndexView) (old : Phase) (new : on_index.Statement) (step : DesummariseStep s range w v old new) → is_row (desummarise_point step) ≡ false
desummarise_not s range w v _ _ (ClearMap x names reads) = refl
desummarise_not s range w v _ _ (ClearNone none reads) = refl
desummarise_not s range w v _ _ (Clear x verdict clears these) = refl
desummarise_not s range w v _ _ (ClearAgain x verdict reads) = refl
desummarise_not s range w v _ _ (DropCleared x drops) = refl

job_not : (job : Job) (s range : ℕ) (w v : IndexView) (old : Phase) (new : on_index.Statement) (step : JobStep job s range w v old new) → is_row (job_point job s range w v old new step) ≡ false
job_not (EachRange extent) s range w v old new step = summarise_not s range w v old new step
job_not (OneRange extent only) s range w v old new step = summarise_not s range w v old new step
job_not (WholeRanges extent) s range w v old new step = summarise_not s range w v old new step
job_not (Desummarising only) s range w v old new step = desummarise_not s range w v old new step

judge_not : (w : IndexView) (old new : TableScan) (step : JudgeStep w old new) → is_row (judge_point step) ≡ false
judge_not w old _ (JudgeMap x empty names) = refl
judge_not w old _ (JudgeNoEntry empty none) = refl
judge_not w old _ (JudgeGone x held gone) = refl
judge_not w old _ (JudgeKeeps x t held stands keeps) = refl
judge_not w old _ (JudgeDrops x t candidate held stands drops excludes others) = refl

row_puts : (s : ℕ) (w v : TableState) (does : Does s w v) → row_of (does_point s w v does) ≡ true → (w.task s ≡ Resting) × ((b : ℕ) × (k : ℕ) × (r : Row) × (v.task s ≡ Reaches b k r 0))
row_puts s w v (PutsRow b k r place turns takes) is = (turns.was, (b, k, r, turns.now))
row_puts s w v (RefusesRow t refused turns fails) is = absurd (false≢true is)
row_puts s w v (AsksSummary b k r at turns only) is = absurd (false≢true is)
row_puts s w v (InsertGoes b k r at old new turns stepped step) is = absurd (false≢true (sym (insert_not s b k r _ _ old _ step) ∙ is))
row_puts s w v (InsertCompletes b k r at old turns stepped step) is = absurd (false≢true (sym (insert_not s b k r _ _ old _ step) ∙ is))
row_puts s w v (RefusesInsert b k r old refused turns fails) is = absurd (false≢true is)
row_puts s w v (TakesLock first begins turns free held rows indexes) is = absurd (false≢true is)
row_puts s w v (MaintainGoes job at range old new turns stepped step) is = absurd (false≢true (sym (job_not job s range _ _ old _ step) ∙ is))
row_puts s w v (MaintainCompletes job at range old turns stepped step) is = absurd (false≢true (sym (job_not job s range _ _ old _ step) ∙ is))
row_puts s w v (RefusesMaintain job at range phase refused turns stepped passes) is = absurd (false≢true is)
row_puts s w v (RefusesVacuum old vacuuming turns given rows indexes) is = absurd (false≢true is)
row_puts s w v (PrunesBlock extent next dropped inside spared turns drops) is = absurd (false≢true is)
row_puts s w v (SweepsPage at page turns stepped sweeps) is = absurd (false≢true is)
row_puts s w v (RestartsIndex at turns only) is = absurd (false≢true is)
row_puts s w v (BeginsScan scan begins turns only) is = absurd (false≢true is)
row_puts s w v (Judges old new inside low step turns only) is = absurd (false≢true (sym (judge_not _ old new step) ∙ is))
row_puts s w v (ReadsBlock scan next found reads turns only) is = absurd (false≢true is)
row_puts s w v (RefusesScan scan t turns how) is = absurd (false≢true is)
row_puts s w v (MarksRow scan id rest turns only) is = absurd (false≢true is)
row_puts s w v (Conflicts scan id rest t turns fails) is = absurd (false≢true is)
row_puts s w v (Blocked task blocked turns only) is = absurd (false≢true is)
row_puts s w v (Transacts counts resting few same) is = absurd (false≢true is)

abbrev is_reaching : Task → Bool
is_reaching (Reaches b k r at) = true
is_reaching task = false

-- of statements an insert's first step alone puts a row
begins_insert : (p : Place) (n : ℕ) (w : TableState) (statement : Statement) (task : Task) (b k : ℕ) (r : Row) → Begins p n w statement task → task ≡ Reaches b k r 0 → IsInsert statement
begins_insert p n w (statements.Insert table values) task b k r begins is = tt
begins_insert p n w (statements.Select q) task b k r begins is = absurd (false≢true (ap is_reaching (sym begins.2 ∙ is)))
begins_insert p n w (statements.Delete q) task b k r begins is = absurd (false≢true (ap is_reaching (sym begins.2 ∙ is)))
begins_insert p n w (statements.Explain q) task b k r begins is = absurd (false≢true (ap is_reaching (sym begins.2 ∙ is)))
begins_insert p n w (statements.Summarize index None) task b k r begins is = absurd (false≢true (ap is_reaching (sym begins.2 ∙ is)))
begins_insert p n w (statements.Summarize index (Some block)) task b k r begins is = absurd (false≢true (ap is_reaching (sym begins.2 ∙ is)))
begins_insert p n w (statements.Desummarize index block) task b k r begins is = absurd (false≢true (ap is_reaching (sym begins.2 ∙ is)))
begins_insert p n w (statements.Vacuum table) task b k r begins is = absurd (false≢true (ap is_reaching (sym begins ∙ is)))
begins_insert p n w statements.Work task b k r begins is = absurd (false≢true (ap is_reaching (sym begins.2 ∙ is)))
begins_insert p n w statements.Begin task b k r begins is = absurd begins
begins_insert p n w statements.Commit task b k r begins is = absurd begins
begins_insert p n w statements.Rollback task b k r begins is = absurd begins

pub row_is_insert : (p q : Place) (n : ℕ) (statement : Statement) (turn : Turn p n statement q) → point_of turn ≡ Some points.Row → IsInsert statement
row_is_insert p q n statement turn named = by turn.own
  where
    put : ((p.tables turn.table).task n ≡ Resting) × ((b : ℕ) × (k : ℕ) × (r : Row) × (turn.step.between.task n ≡ Reaches b k r 0))
    put = row_puts n (p.tables turn.table) turn.step.between turn.step.does (ap row_of named)

    by : ((p.tables turn.table).task n ≢ Resting) ⊎ Begins p n (p.tables turn.table) statement (turn.step.between.task n) → IsInsert statement
    by (inl busy) = absurd (busy put.0)
    by (inr begins) = begins_insert p n (p.tables turn.table) statement (turn.step.between.task n) put.1.0 put.1.1 put.1.2 begins put.1.3
