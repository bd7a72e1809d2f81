-- the names of the steps of maintenance statements
use Rattle.std.proofs.Common.{◌≡◌, ℕ, Bool, true, false, Some, refl, sym, ap, subst, ◌∙◌}
use Rattle.std.proofs.lemmas.Bool.{false≢true}
use Rattle.std.proofs.lemmas.Option.{none-some, same_Some}
use Rattle.block_model.specs.declared.reply.Point.{Point}
use Rattle.block_model.specs.declared.reply.Point.TheVariants as points
use Rattle.coverage.specs.IndexView.{IndexView}
use Rattle.coverage.specs.Points.{desummarise_point, growth_point, on_index_point, summarise_point}
use Rattle.coverage.specs.Statements.{OnIndex, Phase, Statement}
use Rattle.coverage.specs.Steps.{Again, Gone, Maps, MovePut, OnIndexStep}
use Rattle.coverage.specs.Steps.{Count, CountLeftOver, EvacuateDrop, EvacuatePut, EvacuateSet, EvacuateSweep, Flag, Grow, GrowthStep, Turn}
use Rattle.coverage.specs.Steps.{DropOld, Extent, Found, GrowMap, IsFinal, LookGone, LookMap, Pass, Put, ReadNoEntry, Set, SetFinal, SummariseStep, SwapFinal, Unite, UniteCopies}
use Rattle.coverage.specs.Steps.{Clear, ClearAgain, ClearMap, ClearNone, DesummariseStep, DropCleared}
use Rattle.coverage.specs.Table.{Considers, Desummarising, EachRange, Job, Maintains, OneRange, Resting, TableState, Task, WholeRanges}
use Rattle.coverage.specs.TablePoints.{does_point, job_point}
use Rattle.coverage.specs.TableSteps.{AsksSummary, BeginsScan, Blocked, Conflicts, Does, InsertCompletes, InsertGoes, JobStep, Judges, MaintainCompletes, MaintainGoes, MarksRow, PrunesBlock, PutsRow, ReadsBlock, RefusesInsert, RefusesMaintain, RefusesRow, RefusesScan, RefusesVacuum, RestartsIndex, SweepsPage, TakesLock, Transacts}

-- a name under which nothing is entered and nothing is pruned
abbrev pub IsPlain : Point → Type 0
IsPlain points.Row = ⊥
IsPlain points.Mark = ⊥
IsPlain points.Prune = ⊥
IsPlain point = Unit {0}

on_index_plain : {s range : ℕ} {w v : IndexView} {old new : OnIndex} (step : OnIndexStep s range w v old new) → IsPlain (on_index_point step)
on_index_plain (Maps x named reads) = tt
on_index_plain (Gone x gone reads) = tt
on_index_plain (Again x old new verdict reads) = tt
on_index_plain (MovePut x y old new verdict puts these) = tt

growth_plain : {s range : ℕ} {w v : IndexView} {old new : Phase} (step : GrowthStep s range w v old new) → IsPlain (growth_point step)
growth_plain (Grow grows free meta turns) = tt
growth_plain (CountLeftOver grows meta counts) = tt
growth_plain (Count counts) = tt
growth_plain (Flag grows free turns) = tt
growth_plain (EvacuatePut x y t grows next named free verdict puts these) = tt
growth_plain (EvacuateSet m x y t u sets same) = tt
growth_plain (EvacuateDrop m x drops) = tt
growth_plain (EvacuateSweep x t grows next unnamed sweeps) = tt
growth_plain (Turn grows empty free meta turns) = tt

summarise_plain : {s range : ℕ} {w v : IndexView} {old : Phase} {new : Statement} (step : SummariseStep s range w v old new) → IsPlain (summarise_point step)
summarise_plain (LookMap x named reads) = tt
summarise_plain (LookGone x gone reads) = tt
summarise_plain (IsFinal x t stands final reads) = tt
summarise_plain (Found x t stands flag reads) = tt
summarise_plain (ReadNoEntry none of reads) = tt
summarise_plain (GrowMap old new step) = growth_plain step
summarise_plain (Put x t is long verdict puts these) = tt
summarise_plain (Set x sets none) = tt
summarise_plain (Extent extent result start is reads) = tt
summarise_plain (Pass extent next slots result wider below none made reads) = tt
summarise_plain (Unite extent next result old new all step) = on_index_plain step
summarise_plain (UniteCopies extent next result x old new all stands united reads) = tt
summarise_plain (SwapFinal p x old new verdict swap) = tt
summarise_plain (SetFinal p x y old new sets same) = tt
summarise_plain (DropOld x drops) = tt

desummarise_plain : {s range : ℕ} {w v : IndexView} {old : Phase} {new : Statement} (step : DesummariseStep s range w v old new) → IsPlain (desummarise_point step)
desummarise_plain (ClearMap x named reads) = tt
desummarise_plain (ClearNone none reads) = tt
desummarise_plain (Clear x verdict clears these) = tt
desummarise_plain (ClearAgain x verdict reads) = tt
desummarise_plain (DropCleared x drops) = tt

job_plain : (job : Job) (s range : ℕ) (w v : IndexView) (old : Phase) (new : Statement) (step : JobStep job s range w v old new) → IsPlain (job_point job s range w v old new step)
job_plain (EachRange extent) s range w v old new step = summarise_plain step
job_plain (OneRange extent only) s range w v old new step = summarise_plain step
job_plain (WholeRanges extent) s range w v old new step = summarise_plain step
job_plain (Desummarising only) s range w v old new step = desummarise_plain step

abbrev pub is_maintaining : Task → Bool
is_maintaining (Maintains job at range phase) = true
is_maintaining task = false

abbrev pub is_resting : Task → Bool
is_resting Resting = true
is_resting task = false

abbrev pub is_considering : Task → Bool
is_considering (Considers job at range) = true
is_considering task = false

module _ (s : ℕ) (w v : TableState) (point : Point) where
  -- at its range
  module _ (job : Job) (at range : ℕ) (phase : Phase) (was : w.task s ≡ Maintains job at range phase) where
    not_there : (task : Task) → w.task s ≡ task → is_maintaining task ≡ false → ⊥
    not_there task is other = false≢true (sym other ∙ ap is_maintaining (sym is ∙ was))

    pub maintain_point : (does : Does s w v) → does_point s w v does ≡ Some point → IsPlain point
    maintain_point (PutsRow b k r place turns takes) is = absurd (not_there _ turns.was refl)
    maintain_point (RefusesRow t refused turns fails) is = absurd (none-some _ is)
    maintain_point (AsksSummary b k r i turns only) is = absurd (not_there _ turns.was refl)
    maintain_point (InsertGoes b k r i old new turns stepped step) is = absurd (not_there _ turns.was refl)
    maintain_point (InsertCompletes b k r i old turns stepped step) is = absurd (not_there _ turns.was refl)
    maintain_point (RefusesInsert b k r old refused turns fails) is = absurd (none-some _ is)
    maintain_point (TakesLock first begins turns free held rows indexes) is = absurd (not_there _ turns.was refl)
    maintain_point (MaintainGoes j i m old new turns stepped step) is = subst IsPlain (same_Some _ _ is) (job_plain j s m _ _ old _ step)
    maintain_point (MaintainCompletes j i m old turns stepped step) is = subst IsPlain (same_Some _ _ is) (job_plain j s m _ _ old _ step)
    maintain_point (RefusesMaintain j i m q refused turns stepped passes) is = absurd (none-some _ is)
    maintain_point (RefusesVacuum old vacuuming turns given rows indexes) is = absurd (none-some _ is)
    maintain_point (PrunesBlock extent next dropped inside spared turns drops) is = absurd (not_there _ turns.was refl)
    maintain_point (SweepsPage i page turns stepped sweeps) is = absurd (not_there _ turns.was refl)
    maintain_point (RestartsIndex i turns only) is = absurd (not_there _ turns.was refl)
    maintain_point (BeginsScan scan begins turns only) is = absurd (not_there _ turns.was refl)
    maintain_point (Judges old new inside low step turns only) is = absurd (not_there _ turns.was refl)
    maintain_point (ReadsBlock scan next found reads turns only) is = absurd (not_there _ turns.was refl)
    maintain_point (RefusesScan scan t turns how) is = absurd (none-some _ is)
    maintain_point (MarksRow scan id rest turns only) is = absurd (not_there _ turns.was refl)
    maintain_point (Conflicts scan id rest t turns fails) is = absurd (none-some _ is)
    maintain_point (Blocked task blocked turns only) is = absurd (none-some _ is)
    maintain_point (Transacts counts resting few same) is = absurd (none-some _ is)

  -- before its first range
  module _ (job : Job) (at range : ℕ) (was : w.task s ≡ Resting) (now : v.task s ≡ Considers job at range) where
    not_here : (task : Task) → w.task s ≡ task → is_resting task ≡ false → ⊥
    not_here task is other = false≢true (sym other ∙ ap is_resting (sym is ∙ was))

    not_then : (task : Task) → v.task s ≡ task → is_considering task ≡ false → ⊥
    not_then task is other = false≢true (sym other ∙ ap is_considering (sym is ∙ now))

    pub first_point : (does : Does s w v) → does_point s w v does ≡ Some point → IsPlain point
    first_point (PutsRow b k r place turns takes) is = absurd (not_then _ turns.now refl)
    first_point (RefusesRow t refused turns fails) is = absurd (none-some _ is)
    first_point (AsksSummary b k r i turns only) is = absurd (not_here _ turns.was refl)
    first_point (InsertGoes b k r i old new turns stepped step) is = absurd (not_here _ turns.was refl)
    first_point (InsertCompletes b k r i old turns stepped step) is = absurd (not_here _ turns.was refl)
    first_point (RefusesInsert b k r old refused turns fails) is = absurd (none-some _ is)
    first_point (TakesLock first begins turns free held rows indexes) is = subst IsPlain (same_Some _ _ is) tt
    first_point (MaintainGoes j i m old new turns stepped step) is = absurd (not_here _ turns.was refl)
    first_point (MaintainCompletes j i m old turns stepped step) is = absurd (not_here _ turns.was refl)
    first_point (RefusesMaintain j i m q refused turns stepped passes) is = absurd (none-some _ is)
    first_point (RefusesVacuum old vacuuming turns given rows indexes) is = absurd (none-some _ is)
    first_point (PrunesBlock extent next dropped inside spared turns drops) is = absurd (not_here _ turns.was refl)
    first_point (SweepsPage i page turns stepped sweeps) is = absurd (not_here _ turns.was refl)
    first_point (RestartsIndex i turns only) is = absurd (not_here _ turns.was refl)
    first_point (BeginsScan scan begins turns only) is = absurd (not_then _ turns.now refl)
    first_point (Judges old new inside low step turns only) is = absurd (not_here _ turns.was refl)
    first_point (ReadsBlock scan next found reads turns only) is = absurd (not_here _ turns.was refl)
    first_point (RefusesScan scan t turns how) is = absurd (none-some _ is)
    first_point (MarksRow scan id rest turns only) is = absurd (not_here _ turns.was refl)
    first_point (Conflicts scan id rest t turns fails) is = absurd (none-some _ is)
    first_point (Blocked task blocked turns only) is = absurd (none-some _ is)
    first_point (Transacts counts resting few same) is = absurd (none-some _ is)
