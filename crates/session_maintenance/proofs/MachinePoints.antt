-- the names of the steps of maintenance machines
use Rattle.std.proofs.Common.{Some, inl, inr, refl, subst, ℕ, ◌≡◌, ◌⊎◌}
use Rattle.block_model.specs.declared.reply.Point.{Point}
use Rattle.coverage.specs.TableCovered.{IsMaintenance}
use Rattle.script_semantics.specs.Place.{Hand as HandAt, Place}
use Rattle.script_semantics.specs.StatementSteps.{MakesAt, course_of}
use Rattle.std.proofs.lemmas.Option.{none-some, same_Some}
use Rattle.block_model.specs.declared.reply.Point.TheVariants as points
use Rattle.coverage.specs.IndexView.{IndexView}
use Rattle.coverage.specs.Points.{desummarise_point, growth_point, on_index_point, summarise_point}
use Rattle.coverage.specs.Statements.{OnIndex, Phase, Statement}
use Rattle.coverage.specs.Steps.{Again, Gone, Maps, MovePut, OnIndexStep}
use Rattle.coverage.specs.Steps.{Count, CountLeftOver, EvacuateDrop, EvacuatePut, EvacuateSet, EvacuateSweep, Flag, Grow, GrowthStep, Turn}
use Rattle.coverage.specs.Steps.{DropOld, Extent, Found, GrowMap, IsFinal, LookGone, LookMap, Pass, Put, ReadNoEntry, Set, SetFinal, SummariseStep, SwapFinal, Unite, UniteCopies}
use Rattle.coverage.specs.Steps.{Clear, ClearAgain, ClearMap, ClearNone, DesummariseStep, DropCleared}
use Rattle.coverage.specs.Table.{Desummarising, EachRange, Job, OneRange, TableState, Task, WholeRanges}
use Rattle.coverage.specs.TablePoints.{does_point, job_point}
use Rattle.coverage.specs.TableSteps.{AsksSummary, BeginsScan, Blocked, Conflicts, Does, InsertCompletes, InsertGoes, JobStep, Judges, MaintainCompletes, MaintainGoes, MarksRow, PrunesBlock, PutsRow, ReadsBlock, RefusesInsert, RefusesMaintain, RefusesRow, RefusesScan, RefusesVacuum, RestartsIndex, SweepsPage, TakesLock, Transacts}

-- a name under which nothing is entered
abbrev pub IsPlain : Point → Type 0
IsPlain points.Row = ⊥
IsPlain points.Mark = ⊥
IsPlain point = Unit {0}

on_index_plain : {s range : ℕ} {w v : IndexView} {old new : OnIndex} (step : OnIndexStep s range w v old new) → IsPlain (on_index_point step)
on_index_plain (Maps x named reads) = tt
on_index_plain (Gone x gone reads) = tt
on_index_plain (Again x old new verdict reads) = tt
on_index_plain (MovePut x y old new verdict puts these) = tt

growth_plain : {s range : ℕ} {w v : IndexView} {old new : Phase} (step : GrowthStep s range w v old new) → IsPlain (growth_point step)
growth_plain (Grow grows free meta turns) = tt
growth_plain (CountLeftOver grows meta counts) = tt
growth_plain (Count counts) = tt
growth_plain (Flag grows free turns) = tt
growth_plain (EvacuatePut x y t grows next named free verdict puts these) = tt
growth_plain (EvacuateSet m x y t u sets same) = tt
growth_plain (EvacuateDrop m x drops) = tt
growth_plain (EvacuateSweep x t grows next unnamed sweeps) = tt
growth_plain (Turn grows empty free meta turns) = tt

summarise_plain : {s range : ℕ} {w v : IndexView} {old : Phase} {new : Statement} (step : SummariseStep s range w v old new) → IsPlain (summarise_point step)
summarise_plain (LookMap x named reads) = tt
summarise_plain (LookGone x gone reads) = tt
summarise_plain (IsFinal x t stands final reads) = tt
summarise_plain (Found x t stands flag reads) = tt
summarise_plain (ReadNoEntry none of reads) = tt
summarise_plain (GrowMap old new step) = growth_plain step
summarise_plain (Put x t is long verdict puts these) = tt
summarise_plain (Set x sets none) = tt
summarise_plain (Extent extent result start is reads) = tt
summarise_plain (Pass extent next slots result wider below none made reads) = tt
summarise_plain (Unite extent next result old new all step) = on_index_plain step
summarise_plain (UniteCopies extent next result x old new all stands united reads) = tt
summarise_plain (SwapFinal p x old new verdict swap) = tt
summarise_plain (SetFinal p x y old new sets same) = tt
summarise_plain (DropOld x drops) = tt

desummarise_plain : {s range : ℕ} {w v : IndexView} {old : Phase} {new : Statement} (step : DesummariseStep s range w v old new) → IsPlain (desummarise_point step)
desummarise_plain (ClearMap x named reads) = tt
desummarise_plain (ClearNone none reads) = tt
desummarise_plain (Clear x verdict clears these) = tt
desummarise_plain (ClearAgain x verdict reads) = tt
desummarise_plain (DropCleared x drops) = tt

job_plain : (job : Job) (s range : ℕ) (w v : IndexView) (old : Phase) (new : Statement) (step : JobStep job s range w v old new) → IsPlain (job_point job s range w v old new step)
job_plain (EachRange extent) s range w v old new step = summarise_plain step
job_plain (OneRange extent only) s range w v old new step = summarise_plain step
job_plain (WholeRanges extent) s range w v old new step = summarise_plain step
job_plain (Desummarising only) s range w v old new step = desummarise_plain step

-- It is at a maintenance task before its step or within it: it enters nothing.
module _ (s : ℕ) (w v : TableState) (point : Point) (at : IsMaintenance (w.task s) ⊎ IsMaintenance (v.task s)) where
  other : (old new : Task) → w.task s ≡ old → v.task s ≡ new → (IsMaintenance old → ⊥) → (IsMaintenance new → ⊥) → ⊥
  other old new was now before then = elim at [
    | inl is ↦ before (subst IsMaintenance was is)
    | inr is ↦ then (subst IsMaintenance now is)
  ]

  pub plain_point : (does : Does s w v) → does_point s w v does ≡ Some point → IsPlain point
  plain_point (PutsRow b k r place turns takes) is = absurd (other _ _ turns.was turns.now (λ m. m) (λ m. m))
  plain_point (RefusesRow t refused turns fails) is = absurd (none-some _ is)
  plain_point (AsksSummary b k r i turns only) is = subst IsPlain (same_Some _ _ is) tt
  plain_point (InsertGoes b k r i old new turns stepped step) is = absurd (other _ _ turns.was turns.now (λ m. m) (λ m. m))
  plain_point (InsertCompletes b k r i old turns stepped step) is = absurd (other _ _ turns.was turns.now (λ m. m) (λ m. m))
  plain_point (RefusesInsert b k r old refused turns fails) is = absurd (none-some _ is)
  plain_point (TakesLock first begins turns free held rows indexes) is = subst IsPlain (same_Some _ _ is) tt
  plain_point (MaintainGoes j i m old new turns stepped step) is = subst IsPlain (same_Some _ _ is) (job_plain j s m _ _ old _ step)
  plain_point (MaintainCompletes j i m old turns stepped step) is = subst IsPlain (same_Some _ _ is) (job_plain j s m _ _ old _ step)
  plain_point (RefusesMaintain j i m q refused turns stepped passes) is = absurd (none-some _ is)
  plain_point (RefusesVacuum old vacuuming turns given rows indexes) is = absurd (none-some _ is)
  plain_point (PrunesBlock extent next dropped inside spared turns drops) is = subst IsPlain (same_Some _ _ is) tt
  plain_point (SweepsPage i page turns stepped sweeps) is = subst IsPlain (same_Some _ _ is) tt
  plain_point (RestartsIndex i turns only) is = subst IsPlain (same_Some _ _ is) tt
  plain_point (BeginsScan scan begins turns only) is = subst IsPlain (same_Some _ _ is) tt
  plain_point (Judges old new inside low step turns only) is = absurd (other _ _ turns.was turns.now (λ m. m) (λ m. m))
  plain_point (ReadsBlock scan next found reads turns only) is = subst IsPlain (same_Some _ _ is) tt
  plain_point (RefusesScan scan t turns how) is = absurd (none-some _ is)
  plain_point (MarksRow scan id rest turns only) is = absurd (other _ _ turns.was turns.now (λ m. m) (λ m. m))
  plain_point (Conflicts scan id rest t turns fails) is = absurd (none-some _ is)
  plain_point (Blocked task blocked turns only) is = absurd (none-some _ is)
  plain_point (Transacts counts resting few same) is = absurd (none-some _ is)

-- what it enters is nothing
pub plain_enters : (point : Point) (p : Place) (n : ℕ) (hand : HandAt) → IsPlain point → MakesAt point p n hand (course_of p hand)
plain_enters points.Row p n hand plain = absurd plain
plain_enters points.Mark p n hand plain = absurd plain
plain_enters point p n hand plain = refl
