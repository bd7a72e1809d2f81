-- A maintenance statement goes from a range to the next one, and a vacuum from a block of the heap, or an index page, to the next one.
use Rattle.std.proofs.Common.{◌≡◌, ◌⊎◌, inl, inr, ℕ, ◌≤◌, ◌∷◌, sym, ap, subst, arith, zero, suc}
use Rattle.coverage.specs.Statements.{Empty, Phase, NotBuilding}
use Rattle.coverage.specs.Table.{Job, EachRange, OneRange, WholeRanges, Desummarising, Task, Resting, Reaches, Asks, Inserts, Considers, Maintains, Prunes}
use Rattle.coverage.specs.Table.{SweepsFrom, Sweeps, Restarts, Scans, Marks, TableState}
use Rattle.coverage.specs.TableSteps.{BeginsWith, Summarize, SummarizeOne, Work, Desummarize, Vacuum, HasRange, IsFrom, TaskTurns, Does, PutsRow, RefusesRow}
use Rattle.coverage.specs.TableSteps.{AsksSummary, InsertGoes, InsertCompletes, RefusesInsert, TakesLock, MaintainGoes, MaintainCompletes, RefusesMaintain}
use Rattle.coverage.specs.TableSteps.{RefusesVacuum, PrunesBlock, SweepsPage, RestartsIndex, BeginsScan, Judges, ReadsBlock, RefusesScan, MarksRow, Conflicts}
use Rattle.coverage.specs.TableSteps.{Blocked, Transacts, Onward, Stays, ToRange, NextIndex, Pruned, ToPage, Swept, JudgesNext, Settles, GoesOn, GivesLock}
use Rattle.coverage.specs.TableSteps.{TableStep}
use Rattle.coverage.specs.NextTasks.{AtFirst, AfterRange, AfterBlock, AfterPage, AfterRestart}

-- a statement that isn't maintenance, before its begin or in hand
abbrev IsOther : Task → Type 0
IsOther Resting = ⊥
IsOther (Maintains job at range phase) = ⊥
IsOther (Prunes extent next) = ⊥
IsOther (Sweeps at page) = ⊥
IsOther (Restarts at) = ⊥
IsOther task = Unit

-- an insert or a scan begins
abbrev IsBegunOther : Task → Type 0
IsBegunOther (Reaches b k r at) = Unit
IsBegunOther (Scans scan) = Unit
IsBegunOther task = ⊥

-- where what a step does takes a statement
data Leads (w u : TableState) : Task → Task → Type 0 where
  Rests : (old : Task) → Leads w u old Resting
  Same : (old : Task) → Leads w u old old
  Begins : (first : Task) → BeginsWith w first → u.blocks ≡ w.blocks → Leads w u Resting first
  BeginsOther : (new : Task) → IsBegunOther new → Leads w u Resting new
  Works : (job : Job) (at range : ℕ) (old new : Phase) → Leads w u (Maintains job at range old) (Maintains job at range new)
  Completes : (job : Job) (at range : ℕ) (old : Phase) → Leads w u (Maintains job at range old) (Considers job at (suc range))
  PrunesOne : (extent next : ℕ) → Leads w u (Prunes extent next) (Prunes extent (suc next))
  SweepsOne : (at page : ℕ) → Leads w u (Sweeps at page) (SweepsFrom at (suc page))
  RestartsOne : (at : ℕ) → Leads w u (Restarts at) (Considers (WholeRanges w.blocks) at 0)
  Others : (old new : Task) → IsOther old → Leads w u old new

module _ (s : ℕ) (w u : TableState) where
  lead : (old new : Task) → TaskTurns s w u old new → Leads w u old new → Leads w u (w.task s) (u.task s)
  lead old new turns leads = subst (λ t. Leads w u t (u.task s)) (sym turns.was) (subst (Leads w u old) (sym turns.now) leads)

  does_leads : Does s w u → Leads w u (w.task s) (u.task s)
  does_leads (PutsRow b k r place turns takes) = lead _ _ turns (BeginsOther _ tt)
  does_leads (RefusesRow t refused turns fails) = lead _ _ turns (Rests Resting)
  does_leads (AsksSummary b k r at turns only) = lead _ _ turns (Others (Asks b k r at) _ tt)
  does_leads (InsertGoes b k r at old new turns stepped step) = lead _ _ turns (Others (Inserts b k r at old) _ tt)
  does_leads (InsertCompletes b k r at old turns stepped step) = lead _ _ turns (Others (Inserts b k r at old) _ tt)
  does_leads (RefusesInsert b k r old refused turns fails) = lead _ _ turns (Rests old)
  does_leads (TakesLock first begins turns free held rows indexes) = lead _ _ turns (Begins first begins rows.blocks)
  does_leads (MaintainGoes job at range old new turns stepped step) = lead _ _ turns (Works job at range old new)
  does_leads (MaintainCompletes job at range old turns stepped step) = lead _ _ turns (Completes job at range old)
  does_leads (RefusesMaintain job at range phase refused turns stepped passes) = lead _ _ turns (Rests (Maintains job at range phase))
  does_leads (RefusesVacuum old vacuuming turns given rows indexes) = lead _ _ turns (Rests old)
  does_leads (PrunesBlock extent next dropped inside spared turns drops) = lead _ _ turns (PrunesOne extent next)
  does_leads (SweepsPage at page turns stepped sweeps) = lead _ _ turns (SweepsOne at page)
  does_leads (RestartsIndex at turns only) = lead _ _ turns (RestartsOne at)
  does_leads (BeginsScan scan begins turns only) = lead _ _ turns (BeginsOther _ tt)
  does_leads (Judges old new inside low step turns only) = lead _ _ turns (Others (Scans old) _ tt)
  does_leads (ReadsBlock scan next found reads turns only) = lead _ _ turns (Others (Scans scan) _ tt)
  does_leads (RefusesScan scan t turns how) = lead _ _ turns (Rests (Scans scan))
  does_leads (MarksRow scan id rest turns only) = lead _ _ turns (Others (Marks scan (id ∷ rest)) _ tt)
  does_leads (Conflicts scan id rest t turns fails) = lead _ _ turns (Rests (Marks scan (id ∷ rest)))
  does_leads (Blocked task blocked turns only) = lead _ _ turns (Same task)
  does_leads (Transacts counts resting few same) = subst (Leads w u (w.task s)) (sym (ap (λ (x : TableState). x.task s) same)) (Same (w.task s))

-- where the statement comes from there
data Lands (u : TableState) : Task → Task → Type 0 where
  Comes : (old new : Task) → Onward u old new → Lands u old new
  Replies : (old : Task) → Lands u old Resting

settles_lands : (s : ℕ) (u v : TableState) → Settles s u v → Lands u (u.task s) (v.task s)
settles_lands s u v (GoesOn old new onward turns only) =
    subst (λ t. Lands u t (v.task s)) (sym turns.was) (subst (Lands u old) (sym turns.now) (Comes old new onward))
settles_lands s u v (GivesLock old done turns given rows indexes) =
    subst (λ t. Lands u t (v.task s)) (sym turns.was) (subst (Lands u old) (sym turns.now) (Replies old))

-- 0 0 comes first
first_of_all : (n q : ℕ) → IsFrom 0 0 n q
first_of_all zero q = inr ((λ i. 0), omega arith)
first_of_all (suc n) q = inl (omega arith)

-- where a step begins a statement it is before the first of what it goes over
abbrev FirstOf : TableState → Task → Type 0
FirstOf u (Considers (EachRange extent) at range) = range ≡ 0
FirstOf u (Considers (OneRange extent only) at range) = range ≡ only
FirstOf u (Considers (Desummarising only) at range) = range ≡ only
FirstOf u (Considers (WholeRanges extent) at range) = ⊥
FirstOf u (Maintains job at range phase) = ⊥
FirstOf u (Prunes extent next) = (extent ≡ u.blocks) × (next ≡ 0)
FirstOf u (SweepsFrom at from) = (at ≡ 0) × (from ≡ 0)
FirstOf u (Sweeps at page) = ⊥
FirstOf u (Restarts at) = ⊥
FirstOf u task = Unit

begins_first : (w u : TableState) (first : Task) → BeginsWith w first → u.blocks ≡ w.blocks → FirstOf u first
begins_first w u _ (Summarize at below) same = λ i. 0
begins_first w u _ (SummarizeOne at only below) same = λ i. only
begins_first w u _ (Work at only below) same = λ i. only
begins_first w u _ (Desummarize at only below) same = λ i. only
begins_first w u _ Vacuum same = (sym same, λ i. 0)

begun_first : (u : TableState) (t : Task) → IsBegunOther t → FirstOf u t
begun_first u (Reaches b k r at) is = tt
begun_first u (Scans scan) is = tt
begun_first u _ is = absurd is

stays_first : (u : TableState) (t : Task) → FirstOf u t → AtFirst u t
stays_first u (Maintains job at range phase) first = absurd first
stays_first u (Prunes extent next) first = first
stays_first u (Sweeps at page) first = absurd first
stays_first u (Restarts at) first = absurd first
stays_first u _ first = tt

lowest_range : (u : TableState) (job : Job) (at range m : ℕ) → FirstOf u (Considers job at range) → HasRange u job at m → range ≤ m
lowest_range u (EachRange extent) at range m first has = omega arith
lowest_range u (OneRange extent only) at range m first has = omega (arith, first, has.0)
lowest_range u (WholeRanges extent) at range m first has = absurd first
lowest_range u (Desummarising only) at range m first has = omega arith

onward_first : (u : TableState) (old new : Task) → Onward u old new → FirstOf u old → AtFirst u new
onward_first u _ _ (Stays task has) first = stays_first u task first
onward_first u _ _ (ToRange job at range has) first = λ m has'. lowest_range u job at range m first has'
onward_first u _ _ (NextIndex extent at range none more) first = absurd first
onward_first u _ _ (Pruned extent next new all onward) first = onward_first u _ _ onward ((λ i. 0), λ i. 0)
onward_first u _ _ (ToPage at from m p page) first = λ n q has.
    page.first n q has (subst (λ a. IsFrom a from n q) (sym first.0) (subst (λ f. IsFrom 0 f n q) (sym first.1) (first_of_all n q)))
onward_first u _ _ (Swept at from none some) first = (
  (λ i. 0),
  λ m p has. none m p has (subst (λ a. IsFrom a from m p) (sym first.0) (subst (λ f. IsFrom 0 f m p) (sym first.1) (first_of_all m p))),
)
onward_first u _ _ (JudgesNext scan new inside low held onward) first = onward_first u _ _ onward tt
onward_first u _ _ _ first = tt

lands_first : (u : TableState) (m t : Task) → Lands u m t → FirstOf u m → AtFirst u t
lands_first u _ _ (Comes old new onward) first = onward_first u old new onward first
lands_first u _ _ (Replies old) first = tt

begin_after : (w u : TableState) (m t : Task) → Leads w u Resting m → Lands u m t → AtFirst u t
begin_after w u _ t (Rests _) lands = lands_first u Resting t lands tt
begin_after w u _ t (Same _) lands = lands_first u Resting t lands tt
begin_after w u _ t (Begins first begins same) lands = lands_first u first t lands (begins_first w u first begins same)
begin_after w u _ t (BeginsOther new is) lands = lands_first u new t lands (begun_first u new is)
begin_after w u m t (Others _ _ other) lands = absurd other

module _ (w u : TableState) where
  resting_lands : (t : Task) → Lands u Resting t → t ≡ Resting
  resting_lands _ (Comes _ _ (Stays _ has)) = refl'
    where
      refl' : Resting ≡ Resting
      refl' = λ i. Resting
  resting_lands _ (Replies _) = λ i. Resting

  range_lands : (job : Job) (at range : ℕ) (phase : Phase) (t : Task) → Lands u (Maintains job at range phase) t → AfterRange job at range t
  range_lands job at range phase _ (Comes _ _ (Stays _ has)) = inl (phase, λ i. Maintains job at range phase)
  range_lands job at range phase _ (Replies _) = inr (inr (inr (λ i. Resting)))

  considers_lands : (job : Job) (at range : ℕ) (t : Task) → Lands u (Considers job at (suc range)) t → AfterRange job at range t
  considers_lands job at range _ (Comes _ _ (Stays _ has)) = absurd has
  considers_lands job at range _ (Comes _ _ (ToRange _ _ _ has)) = inr (inl (λ i. Maintains job at (suc range) (NotBuilding Empty)))
  considers_lands _ at range _ (Comes _ _ (NextIndex extent _ _ done inside)) = inr (inr (inl (λ i. Restarts (suc at))))
  considers_lands job at range _ (Replies _) = inr (inr (inr (λ i. Resting)))

  range_after : (job : Job) (at range : ℕ) (old : Phase) (m t : Task) → Leads w u (Maintains job at range old) m → Lands u m t → AfterRange job at range t
  range_after job at range old _ t (Rests _) lands = inr (inr (inr (resting_lands t lands)))
  range_after job at range old _ t (Same _) lands = range_lands job at range old t lands
  range_after job at range old _ t (Works _ _ _ _ new) lands = range_lands job at range new t lands
  range_after job at range old _ t (Completes _ _ _ _) lands = considers_lands job at range t lands
  range_after job at range old m t (Others _ _ other) lands = absurd other

  abbrev AllPruned : (extent next : ℕ) → Task → Type 0
  AllPruned extent next t = (extent ≤ next) × AtFirst u t

  prunes_lands : (extent next : ℕ) (t : Task) → Lands u (Prunes extent next) t → (t ≡ Prunes extent next) ⊎ AllPruned extent next t ⊎ (t ≡ Resting)
  prunes_lands extent next _ (Comes _ _ (Stays _ has)) = inl (λ i. Prunes extent next)
  prunes_lands extent next _ (Comes _ _ (Pruned _ _ _ all more)) = inr (inl (all, onward_first u _ _ more ((λ i. 0), λ i. 0)))
  prunes_lands extent next _ (Replies _) = inr (inr (λ i. Resting))

  block_after : (extent next : ℕ) (m t : Task) → Leads w u (Prunes extent next) m → Lands u m t → AfterBlock u extent next t
  block_after extent next _ t (Rests _) lands = inr (inr (inr (resting_lands t lands)))
  block_after extent next _ t (Same _) lands = by (prunes_lands extent next t lands)
    where
      by : (t ≡ Prunes extent next) ⊎ AllPruned extent next t ⊎ (t ≡ Resting) → AfterBlock u extent next t
      by (inl is) = inl is
      by (inr (inl all)) = inr (inr (inl (omega (arith, all.0), all.1)))
      by (inr (inr is)) = inr (inr (inr is))
  block_after extent next _ t (PrunesOne _ _) lands = by (prunes_lands extent (suc next) t lands)
    where
      by : (t ≡ Prunes extent (suc next)) ⊎ AllPruned extent (suc next) t ⊎ (t ≡ Resting) → AfterBlock u extent next t
      by (inl is) = inr (inl is)
      by (inr (inl all)) = inr (inr (inl all))
      by (inr (inr is)) = inr (inr (inr is))
  block_after extent next m t (Others _ _ other) lands = absurd other

  page_lands : (at page : ℕ) (t : Task) → Lands u (SweepsFrom at (suc page)) t → AfterPage u at page t
  page_lands at page _ (Comes _ _ (Stays _ has)) = absurd has
  page_lands at page _ (Comes _ _ (ToPage _ _ m p next)) = inr (inl (m, p, (λ i. Sweeps m p), next))
  page_lands at page _ (Comes _ _ (Swept _ _ none some)) = inr (inr (inl ((λ i. Restarts 0), none)))
  page_lands at page _ (Replies _) = inr (inr (inr (λ i. Resting)))

  sweeps_lands : (at page : ℕ) (t : Task) → Lands u (Sweeps at page) t → AfterPage u at page t
  sweeps_lands at page _ (Comes _ _ (Stays _ has)) = inl (λ i. Sweeps at page)
  sweeps_lands at page _ (Replies _) = inr (inr (inr (λ i. Resting)))

  page_after : (at page : ℕ) (m t : Task) → Leads w u (Sweeps at page) m → Lands u m t → AfterPage u at page t
  page_after at page _ t (Rests _) lands = inr (inr (inr (resting_lands t lands)))
  page_after at page _ t (Same _) lands = sweeps_lands at page t lands
  page_after at page _ t (SweepsOne _ _) lands = page_lands at page t lands
  page_after at page m t (Others _ _ other) lands = absurd other

  restart_lands : (extent at : ℕ) (t : Task) → Lands u (Considers (WholeRanges extent) at 0) t → AfterRestart extent at t
  restart_lands extent at _ (Comes _ _ (Stays _ has)) = absurd has
  restart_lands extent at _ (Comes _ _ (ToRange _ _ _ has)) = inl (λ i. Maintains (WholeRanges extent) at 0 (NotBuilding Empty))
  restart_lands extent at _ (Comes _ _ (NextIndex _ _ _ done inside)) = inr (inl (λ i. Restarts (suc at)))
  restart_lands extent at _ (Replies _) = inr (inr (λ i. Resting))

  restart_after : (at : ℕ) (m t : Task) → Leads w u (Restarts at) m → Lands u m t → (t ≡ Restarts at) ⊎ AfterRestart w.blocks at t
  restart_after at _ t (Rests _) lands = inr (inr (inr (resting_lands t lands)))
  restart_after at _ t (Same _) lands = same_lands t lands
    where
      same_lands : (t : Task) → Lands u (Restarts at) t → (t ≡ Restarts at) ⊎ AfterRestart w.blocks at t
      same_lands _ (Comes _ _ (Stays _ has)) = inl (λ i. Restarts at)
      same_lands _ (Replies _) = inr (inr (inr (λ i. Resting)))
  restart_after at _ t (RestartsOne _) lands = inr (restart_lands w.blocks at t lands)
  restart_after at m t (Others _ _ other) lands = absurd other

module _ (s : ℕ) (w v : TableState) (step : TableStep s w v) where
  abbrev led : Leads w step.between (w.task s) (step.between.task s)
  led = does_leads s w step.between step.does

  abbrev landed : Lands step.between (step.between.task s) (v.task s)
  landed = settles_lands s step.between v step.settles

  pub no_range_skipped : (job : Job) (at range : ℕ) (old : Phase) → w.task s ≡ Maintains job at range old → AfterRange job at range (v.task s)
  no_range_skipped job at range old is =
      range_after w step.between job at range old (step.between.task s) (v.task s) (subst (λ t. Leads w step.between t (step.between.task s)) is led) landed

  pub no_block_skipped : (extent next : ℕ) → w.task s ≡ Prunes extent next → AfterBlock step.between extent next (v.task s)
  no_block_skipped extent next is =
      block_after w step.between extent next (step.between.task s) (v.task s) (subst (λ t. Leads w step.between t (step.between.task s)) is led) landed

  pub no_page_skipped : (at page : ℕ) → w.task s ≡ Sweeps at page → AfterPage step.between at page (v.task s)
  no_page_skipped at page is =
      page_after w step.between at page (step.between.task s) (v.task s) (subst (λ t. Leads w step.between t (step.between.task s)) is led) landed

  pub begins_at_first : w.task s ≡ Resting → AtFirst step.between (v.task s)
  begins_at_first is = begin_after w step.between (step.between.task s) (v.task s) (subst (λ t. Leads w step.between t (step.between.task s)) is led) landed

  pub no_first_range_skipped : (at : ℕ) → w.task s ≡ Restarts at → (v.task s ≡ Restarts at) ⊎ AfterRestart w.blocks at (v.task s)
  no_first_range_skipped at is =
      restart_after w step.between at (step.between.task s) (v.task s) (subst (λ t. Leads w step.between t (step.between.task s)) is led) landed
