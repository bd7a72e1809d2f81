-- The number of ranges that the account of a statement has is that of the ranges to which it gave a final tuple.
use Rattle.std.proofs.Common.{◌≡◌, ◌≢◌, ◌⊎◌, inl, inr, ⊎_elim, ℕ, ◌+◌, ◌≤◌, ◌<◌, List, [], ◌∷◌, length, sym, ◌∙◌, ap, subst, arith, suc}
use Rattle.std.specs.Prelude.{refl, ◌↔◌}
use Rattle.std.proofs.lemmas.Bool.{cases_eq}
use Rattle.std.proofs.Math.Nat.{le-suc, le_refl, le_trans, lt_irrefl}
use Rattle.coverage.specs.IndexView.{IndexView}
use Rattle.coverage.specs.Statements.{Dropping, Phase, NotBuilding, Statement, Maintaining, Holding}
use Rattle.coverage.specs.Knowing.{Knows}
use Rattle.coverage.specs.Steps.{SummariseStep, IsFinal, GrowMap, SwapFinal, SetFinal, DropOld, GrowthStep, Grow}
use Rattle.coverage.specs.Counts.{NamesFinal, summarise_count}
use Rattle.coverage.proofs.CountsExact.{summarise_exact}
use Rattle.coverage.proofs.FinalsElsewhere.{same_final, sweeps_final, summarise_elsewhere}
use Rattle.coverage.specs.Table.{Index, Job, Desummarising, Task, Resting, Reaches, Considers, Maintains, Prunes, SweepsFrom, Sweeps, Restarts, Scans}
use Rattle.coverage.specs.Table.{TableState, seen_by, index_state, index_view_at}
use Rattle.coverage.specs.TableSteps.{TaskTurns, StepsIn, JobStep, BeginsWith, Work, IndexFull, Does, PutsRow, RefusesRow, AsksSummary, InsertGoes}
use Rattle.coverage.specs.TableSteps.{InsertCompletes, RefusesInsert, TakesLock, MaintainGoes, MaintainCompletes, RefusesMaintain, RefusesVacuum, PrunesBlock}
use Rattle.coverage.specs.TableSteps.{SweepsPage, RestartsIndex, BeginsScan, Judges, ReadsBlock, RefusesScan, MarksRow, Conflicts, Blocked, Transacts, IsFrom}
use Rattle.coverage.specs.TableSteps.{Onward, Stays, ToAsk, ToIndex, ToRange, NextIndex, Pruned, ToPage, Swept, JudgesNext, ToMarks, Settles, GoesOn, GivesLock}
use Rattle.coverage.specs.TableSteps.{TableStep}
use Rattle.coverage.specs.StepsLeft.{IsIn}
use Rattle.coverage.specs.TableCovered.{IsTableKept}
use Rattle.coverage.specs.Accounts.{Account, Accounts, Begins, Adds, job_count, AccountsStep, AccountsRun, AccountsDone, AccountsNext}
use Rattle.coverage.specs.RangesMade.{IsBuilder, GivesFinals, IsMadeFinal, MakesFinal, IsInHand, AreMadeFinal}
use Rattle.coverage.proofs.Views.{pick_same}
use Rattle.coverage.proofs.Leaves.{does_leaves, settles_leaves}
use Rattle.coverage.proofs.SummariseEnds.{job_summarises}
use Rattle.coverage.proofs.TableSeen.{table_between_kept, table_step_kept}

-- the first range that a statement hasn't counted, where it is at a range
abbrev next_uncounted : ℕ → Phase → ℕ
next_uncounted range (NotBuilding (Dropping x)) = suc range
next_uncounted range phase = range

abbrev uncounted_after : ℕ → Statement → ℕ
uncounted_after range (Maintaining m phase) = next_uncounted range phase
uncounted_after range statement = suc range

-- the ranges that a statement may still count
abbrev AheadOf : Task → (i m : ℕ) → Type 0
AheadOf (Considers job at range) i m = IsFrom at range i m
AheadOf (Maintains job at range phase) i m = IsFrom at (next_uncounted range phase) i m
AheadOf (Prunes extent next) i m = Unit
AheadOf (SweepsFrom at from) i m = Unit
AheadOf (Sweeps at page) i m = Unit
AheadOf (Restarts at) i m = IsFrom at 0 i m
AheadOf task i m = ⊥

-- what a summariser's step counts, and where it comes by it
abbrev Counts : (range count : ℕ) → Phase → Statement → Type 0
Counts range count old new = ((count ≡ 0) × (next_uncounted range old ≤ uncounted_after range new))
    ⊎ ((count ≡ 1) × (next_uncounted range old ≡ range) × (uncounted_after range new ≡ suc range))

module _ (s range : ℕ) (w v : IndexView) where
  growth_counts : (old new : Phase) → GrowthStep s range w v old new → next_uncounted range old ≤ next_uncounted range new
  growth_counts _ _ (Grow grows free meta turns) = le_refl range
  growth_counts _ _ _ = le_refl range

  step_counts : (old : Phase) (new : Statement) (step : SummariseStep s range w v old new) → Counts range (summarise_count step) old new
  step_counts _ _ (IsFinal x t stands final reads) = inl (refl, le-suc range)
  step_counts _ _ (GrowMap old new step) = inl (refl, growth_counts old new step)
  step_counts _ _ (SwapFinal p x old new verdict swap) = inr (refl, refl, refl)
  step_counts _ _ (SetFinal p x y old new sets same) = inr (refl, refl, refl)
  step_counts _ _ (DropOld x drops) = inl (refl, le_refl (suc range))
  step_counts _ _ _ = inl (refl, le_refl range)

from_mono : (at a b i m : ℕ) → a ≤ b → IsFrom at b i m → IsFrom at a i m
from_mono at a b i m le from = elim from [ inl later ↦ inl later | inr same ↦ inr (same.0, le_trans le same.1) ]

from_not : (at range n : ℕ) → n ≡ suc range → IsFrom at n at range → ⊥
from_not at range n is from = elim from [ inl later ↦ lt_irrefl at later | inr same ↦ omega (arith, is, same.1) ]

-- where an index stays, its ranges keep their final tuples, and no others have them
index_final : (i m : ℕ) (w v : TableState) → v.index i ≡ w.index i → NamesFinal (index_view_at i v) m → NamesFinal (index_view_at i w) m
index_final i m w v same final = (
  final.0,
  (final.1.0, sym (ap (λ (x : Index). x.entry m) same) ∙ final.1.1, sym (ap (λ (x : Index). x.tuple final.1.0) same) ∙ final.1.2),
  final.2,
)

-- what a step makes final, and adds to the account of its session
data StepMakes (s : ℕ) (w u : TableState) (a b : Accounts) (old new : Task) : Type 0 where
  MakesNone : ((i m : ℕ) → IsMadeFinal w u i m → ⊥) → (b.of s).ranges ≡ (a.of s).ranges → ((i m : ℕ) → AheadOf new i m → AheadOf old i m)
      → StepMakes s w u a b old new
  MakesOne : (at range : ℕ) → IsMadeFinal w u at range → ((i m : ℕ) → IsMadeFinal w u i m → (i ≡ at) × (m ≡ range))
      → (b.of s).ranges ≡ (a.of s).ranges + 1 → AheadOf old at range → (AheadOf new at range → ⊥) → ((i m : ℕ) → AheadOf new i m → AheadOf old i m)
      → StepMakes s w u a b old new

-- it goes on to give ranges final tuples, or rests
abbrev GoesOnGiving : Task → Type 0
GoesOnGiving t = GivesFinals t ⊎ (t ≡ Resting)

count_of : (job : Job) (is : IsBuilder job) (s range : ℕ) (w v : IndexView) (old : Phase) (e : Statement) (step : JobStep job s range w v old e)
    → job_count job s range w v old e step ≡ summarise_count (job_summarises job is s range w v old e step)
count_of (Desummarising only) is s range w v old e step = absurd is
count_of _ is s range w v old e step = refl

module _ (s : ℕ) (w u : TableState) (a b : Accounts) where
  abbrev Makes : Task → Task → Type 0
  Makes old new = StepMakes s w u a b old new × GoesOnGiving new

  by_turns : (old new : Task) → TaskTurns s w u old new → Makes old new → Makes (w.task s) (u.task s)
  by_turns old new turns makes = subst (λ t. Makes t (u.task s)) (sym turns.was) (subst (Makes old) (sym turns.now) makes)

  gives : (old new : Task) → TaskTurns s w u old new → GivesFinals (w.task s) → GivesFinals old
  gives old new turns is = subst GivesFinals turns.was is

  none_of : (old new : Task) → ((i m : ℕ) → NamesFinal (index_view_at i u) m → NamesFinal (index_view_at i w) m) → (b.of s).ranges ≡ (a.of s).ranges
      → ((i m : ℕ) → AheadOf new i m → AheadOf old i m) → StepMakes s w u a b old new
  none_of old new finals same ahead = MakesNone (λ i m made. made.1 (finals i m made.0)) same ahead

  all_same : ((i : ℕ) → u.index i ≡ w.index i) → (i m : ℕ) → NamesFinal (index_view_at i u) m → NamesFinal (index_view_at i w) m
  all_same same i m = index_final i m w u (same i)

  -- where one index changes
  in_one : (at : ℕ) → StepsIn at w u → ((m : ℕ) → NamesFinal (index_view_at at u) m → NamesFinal (index_view_at at w) m)
      → (i m : ℕ) → NamesFinal (index_view_at i u) m → NamesFinal (index_view_at i w) m
  in_one at stepped here i m final = ⊎_elim
      (λ (is : i ≡ at). subst (λ j. NamesFinal (index_view_at j w) m) (sym is) (here m (subst (λ j. NamesFinal (index_view_at j u) m) is final)))
      (λ (same : u.index i ≡ w.index i). index_final i m w u same final)
      (stepped.others i)

  -- a step at a range
  module _ (kept : IsTableKept w) (kept' : IsTableKept u) (job : Job) (is : IsBuilder job) (at range : ℕ) (old : Phase) (stepped : StepsIn at w u)
      (was : w.task s ≡ Maintains job at range old) (e : Statement) (now : (index_state at u).statement s ≡ e) where
    abbrev seen_was : Type 0
    seen_was = (index_state at w).statement s ≡ Maintaining range old

    seen : seen_was
    seen = ap (seen_by at) was ∙ pick_same at (Maintaining range old) Holding

    below : at < w.indexes
    below = stepped.below

    below' : at < u.indexes
    below' = subst (λ n. at < n) (sym stepped.rows.layout.indexes) below

    module _ (step : SummariseStep s range (index_view_at at w) (index_view_at at u) old e) where
      exact : (summarise_count step ≡ 1) ↔ IsMadeFinal w u at range
      exact = summarise_exact s range (index_state at w) (index_state at u) (kept.indexes at below) (kept'.indexes at below') old e step seen now

      elsewhere : (m : ℕ) → m ≢ range → NamesFinal (index_view_at at u) m → NamesFinal (index_view_at at w) m
      elsewhere m other = summarise_elsewhere s (index_view_at at w) (index_view_at at u) m range old e
          (λ n x names. (kept.indexes at below).sound.entries_name_tuples n x names)
          (subst (Knows (index_view_at at w) s) seen ((kept.indexes at below).knows s)).1 other step

      -- nothing but the range itself
      itself : (i m : ℕ) → IsMadeFinal w u i m → (i ≡ at) × (m ≡ range)
      itself i m made = ⊎_elim
          (λ (here : i ≡ at). ⊎_elim
          (λ (one : m ≡ range). (here, one))
          (λ (other : m ≢ range). absurd (made.1 (subst (λ j. NamesFinal (index_view_at j w) m) (sym here)
          (elsewhere m other (subst (λ j. NamesFinal (index_view_at j u) m) here made.0)))))
          (cases_eq m range))
          (λ (same : u.index i ≡ w.index i). absurd (made.1 (index_final i m w u same made.0)))
          (stepped.others i)

      made : (new : Task) → ((i m : ℕ) → AheadOf new i m → IsFrom at (uncounted_after range e) i m)
          → (b.of s).ranges ≡ (a.of s).ranges + summarise_count step → StepMakes s w u a b (Maintains job at range old) new
      made new ahead count = ⊎_elim
          (λ (none : (summarise_count step ≡ 0) × (next_uncounted range old ≤ uncounted_after range e)).
          MakesNone (λ i m is'. let one = itself i m is' in
          omega (arith, none.0, exact.1 (subst (λ j. IsMadeFinal w u j range) one.0 (subst (IsMadeFinal w u i) one.1 is'))))
          (omega (arith, none.0, count))
          (λ i m is'. from_mono at (next_uncounted range old) (uncounted_after range e) i m none.1 (ahead i m is')))
          (λ (one : (summarise_count step ≡ 1) × (next_uncounted range old ≡ range) × (uncounted_after range e ≡ suc range)).
          MakesOne at range (exact.0 one.0) itself (omega (arith, one.0, count))
          (inr (refl, omega (arith, one.1)))
          (λ is'. from_not at range (uncounted_after range e) one.2 (ahead at range is'))
          (λ i m is'. from_mono at (next_uncounted range old) (uncounted_after range e) i m (omega (arith, one.1, one.2))
          (ahead i m is')))
          (step_counts s range (index_view_at at w) (index_view_at at u) old e step)

  ranges_of : (now : Account) → b.of s ≡ now → (b.of s).ranges ≡ now.ranges
  ranges_of now same = ap (λ (x : Account). x.ranges) same

  range_goes : IsTableKept w → IsTableKept u → (job : Job) (at range : ℕ) (old new : Phase) → TaskTurns s w u (Maintains job at range old) (Maintains job at range new)
      → StepsIn at w u → (step : JobStep job s range (index_view_at at w) (index_view_at at u) old (Maintaining range new))
      → (b.of s).ranges ≡ (a.of s).ranges + job_count job s range (index_view_at at w) (index_view_at at u) old (Maintaining range new) step
      → IsBuilder job → Makes (Maintains job at range old) (Maintains job at range new)
  range_goes kept kept' job at range old new turns stepped step count is = (
    made kept kept' job is at range old stepped turns.was (Maintaining range new) (ap (seen_by at) turns.now ∙ pick_same at (Maintaining range new) Holding)
        (job_summarises job is s range (index_view_at at w) (index_view_at at u) old (Maintaining range new) step) (Maintains job at range new) (λ i m x. x)
        (count ∙ ap (λ n. (a.of s).ranges + n) (count_of job is s range (index_view_at at w) (index_view_at at u) old (Maintaining range new) step)),
    inl is,
  )

  range_completes : IsTableKept w → IsTableKept u → (job : Job) (at range : ℕ) (old : Phase) → TaskTurns s w u (Maintains job at range old) (Considers job at (suc range))
      → StepsIn at w u → (step : JobStep job s range (index_view_at at w) (index_view_at at u) old Holding)
      → (b.of s).ranges ≡ (a.of s).ranges + job_count job s range (index_view_at at w) (index_view_at at u) old Holding step
      → IsBuilder job → Makes (Maintains job at range old) (Considers job at (suc range))
  range_completes kept kept' job at range old turns stepped step count is = (
    made kept kept' job is at range old stepped turns.was Holding (ap (seen_by at) turns.now)
        (job_summarises job is s range (index_view_at at w) (index_view_at at u) old Holding step) (Considers job at (suc range)) (λ i m x. x)
        (count ∙ ap (λ n. (a.of s).ranges + n) (count_of job is s range (index_view_at at w) (index_view_at at u) old Holding step)),
    inl is,
  )

  does_makes : IsTableKept w → IsTableKept u → GivesFinals (w.task s) → (does : Does s w u) → Adds s w u does a b → Makes (w.task s) (u.task s)
  does_makes kept kept' is (PutsRow d k r place turns takes) adds = absurd (gives _ _ turns is)
  does_makes kept kept' is (RefusesRow t refused turns fails) adds = absurd (gives _ _ turns is)
  does_makes kept kept' is (AsksSummary d k r at turns only) adds = absurd (gives _ _ turns is)
  does_makes kept kept' is (InsertGoes d k r at old new turns stepped step) adds = absurd (gives _ _ turns is)
  does_makes kept kept' is (InsertCompletes d k r at old turns stepped step) adds = absurd (gives _ _ turns is)
  does_makes kept kept' is (RefusesInsert d k r _ (IndexFull number at x old new verdict) turns fails) adds = absurd (gives _ _ turns is)
  does_makes kept kept' is (TakesLock first begins turns free held rows indexes) adds = absurd (gives _ _ turns is)
  does_makes kept kept' is (MaintainGoes job at range old new turns stepped step) adds =
      by_turns _ _ turns (range_goes kept kept' job at range old new turns stepped step (ranges_of _ adds.account) (gives _ _ turns is))
  does_makes kept kept' is (MaintainCompletes job at range old turns stepped step) adds =
      by_turns _ _ turns (range_completes kept kept' job at range old turns stepped step (ranges_of _ adds.account) (gives _ _ turns is))
  does_makes kept kept' is (RefusesMaintain job at range phase refused turns stepped passes) adds = by_turns _ _ turns (
    none_of _ _ (in_one at stepped (λ m. same_final s (index_view_at at w) (index_view_at at u) m passes.frame.map passes.frame.tuples))
        (ranges_of _ adds.account) (λ i m x. absurd x),
    inr refl,
  )
  does_makes kept kept' is (RefusesVacuum old vacuuming turns given rows indexes) adds =
      by_turns _ _ turns (none_of _ _ (all_same indexes.index) (ranges_of _ adds.account) (λ i m x. absurd x), inr refl)
  does_makes kept kept' is (PrunesBlock extent next dropped inside spared turns drops) adds =
      by_turns _ _ turns (none_of _ _ (all_same drops.indexes.index) (ranges_of _ adds.2.account) (λ i m x. tt), inl tt)
  does_makes kept kept' is (SweepsPage at page turns stepped sweeps) adds = by_turns _ _ turns (
    none_of _ _ (in_one at stepped (λ m. sweeps_final s (index_view_at at w) (index_view_at at u) m page _ sweeps))
        (ranges_of _ adds.2.account) (λ i m x. tt),
    inl tt,
  )
  does_makes kept kept' is (RestartsIndex at turns only) adds =
      by_turns _ _ turns (none_of _ _ (all_same only.indexes.index) (ranges_of _ adds.account) (λ i m x. x), inl tt)
  does_makes kept kept' is (BeginsScan scan begins turns only) adds = absurd (gives _ _ turns is)
  does_makes kept kept' is (Judges old new inside low step turns only) adds = absurd (gives _ _ turns is)
  does_makes kept kept' is (ReadsBlock scan next found reads turns only) adds = absurd (gives _ _ turns is)
  does_makes kept kept' is (RefusesScan scan t turns how) adds = absurd (gives _ _ turns is)
  does_makes kept kept' is (MarksRow scan id rest turns only) adds = absurd (gives _ _ turns is)
  does_makes kept kept' is (Conflicts scan id rest t turns fails) adds = absurd (gives _ _ turns is)
  does_makes kept kept' is (Blocked task blocked turns only) adds =
      by_turns _ _ turns (none_of _ _ (all_same only.indexes.index) (ranges_of _ adds.account) (λ i m x. x), inl (gives _ _ turns is))
  does_makes kept kept' is (Transacts counts resting few same) adds = absurd (subst GivesFinals resting is)

-- where the statement comes from there
abbrev Acts : Task → Type 0
Acts Resting = ⊥
Acts task = Unit

fails : (t : Task) → (GivesFinals t → ⊥) → Acts t → GoesOnGiving t → ⊥
fails t none acts gives = ⊎_elim none (λ (is : t ≡ Resting). subst Acts is acts) gives

onward_ahead : (u : TableState) (old new : Task) → Onward u old new → (i m : ℕ) → AheadOf new i m → AheadOf old i m
onward_ahead u _ _ (NextIndex extent at range none more) i m ahead = elim ahead [ inl later ↦ inl (omega arith) | inr same ↦ inl (omega (arith, same.0)) ]
onward_ahead u _ _ (Pruned extent next new all onward) i m ahead = tt
onward_ahead u _ _ (ToPage at from n p page) i m ahead = tt
onward_ahead u _ _ (Swept at from none some) i m ahead = tt
onward_ahead u _ _ (JudgesNext scan new inside low held onward) i m ahead = absurd (onward_ahead u _ _ onward i m ahead)
onward_ahead u _ _ _ i m ahead = ahead

onward_gives : (u : TableState) (old new : Task) → Onward u old new → GoesOnGiving old → GoesOnGiving new
onward_gives u _ _ (Stays task has) gives = gives
onward_gives u _ _ (ToAsk b k r at inside asks) gives = absurd (fails (Reaches b k r at) (λ x. x) tt gives)
onward_gives u _ _ (ToIndex b k r at inside none) gives = absurd (fails (Reaches b k r at) (λ x. x) tt gives)
onward_gives u _ _ (ToRange job at range has) gives = elim gives [ inl is ↦ inl is | inr is ↦ absurd (subst Acts is tt) ]
onward_gives u _ _ (NextIndex extent at range none more) gives = inl tt
onward_gives u _ _ (Pruned extent next new all onward) gives = onward_gives u _ _ onward (inl tt)
onward_gives u _ _ (ToPage at from n p page) gives = inl tt
onward_gives u _ _ (Swept at from none some) gives = inl tt
onward_gives u _ _ (JudgesNext scan new inside low held onward) gives = absurd (fails (Scans scan) (λ x. x) tt gives)
onward_gives u _ _ (ToMarks scan id rest read not is lists) gives = absurd (fails (Scans scan) (λ x. x) tt gives)
onward_gives u _ _ _ gives = inr refl

abbrev SettlesTo : (s : ℕ) (u v : TableState) → Type 0
SettlesTo s u v = GoesOnGiving (v.task s) × ((i m : ℕ) → AheadOf (v.task s) i m → AheadOf (u.task s) i m) × ((i : ℕ) → v.index i ≡ u.index i)

settles_to : (s : ℕ) (u v : TableState) → Settles s u v → GoesOnGiving (u.task s) → SettlesTo s u v
settles_to s u v (GoesOn old new onward turns only) gives = (
  subst GoesOnGiving (sym turns.now) (onward_gives u old new onward (subst GoesOnGiving turns.was gives)),
  λ i m ahead. subst (λ t. AheadOf t i m) (sym turns.was) (onward_ahead u old new onward i m (subst (λ t. AheadOf t i m) turns.now ahead)),
  only.indexes.index,
)
settles_to s u v (GivesLock old done turns given rows indexes) gives = (
  inr turns.now,
  λ i m ahead. absurd (subst (λ t. AheadOf t i m) turns.now ahead),
  indexes.index,
)

module _ (s : ℕ) (w u v : TableState) (a b : Accounts) (to : SettlesTo s u v) where
  back : (i m : ℕ) → IsMadeFinal w v i m → IsMadeFinal w u i m
  back i m made = (index_final i m u v (to.2 i) made.0, made.1)

  whole : StepMakes s w u a b (w.task s) (u.task s) → StepMakes s w v a b (w.task s) (v.task s)
  whole (MakesNone none same ahead) = MakesNone (λ i m made. none i m (back i m made)) same (λ i m x. ahead i m (to.1 i m x))
  whole (MakesOne at range made only count first past ahead) = MakesOne at range
      (index_final at range v u (sym (to.2 at)) made.0, made.1) (λ i m x. only i m (back i m x)) count first
      (λ x. past (to.1 at range x)) (λ i m x. ahead i m (to.1 i m x))

step_makes : (s : ℕ) (w v : TableState) (a b : Accounts) (step : TableStep s w v) → AccountsStep s w step.between step.does a b → IsTableKept w
    → GivesFinals (w.task s) → StepMakes s w v a b (w.task s) (v.task s) × GoesOnGiving (v.task s)
step_makes s w v a b step adds kept is =
    let u = step.between in
    let makes = does_makes s w u a b kept (table_between_kept s w u kept step.does) is step.does adds.adds in
    let to = settles_to s u v step.settles makes.1 in
    (whole s w u v a b to makes.0, to.0)

abbrev IsSame : (p q : ℕ × ℕ) → Type 0
IsSame p q = p ≡ q

-- the ranges that a session makes final in a run, ahead of where it began
abbrev CountedIn : (s : ℕ) (steps : List ℕ) (w v : TableState) (a b : Accounts) → AccountsRun steps w v a b → Type 0
CountedIn s steps w v a b run = (made : List (ℕ × ℕ)) × AreMadeFinal s run made × ((i m : ℕ) → IsIn made (i, m) → AheadOf (w.task s) i m)
    × ((b.of s).ranges ≡ (a.of s).ranges + length made)

module _ (s n : ℕ) (rest : List ℕ) (w u v : TableState) (a b c : Accounts) (step : TableStep n w u) (adds : AccountsStep n w step.between step.does a b)
    (run : AccountsRun rest u v b c) where
  abbrev longer : AccountsRun (n ∷ rest) w v a c
  longer = AccountsNext n rest w u v a b c step adds run

  -- the step makes none of them
  skips : ((i m : ℕ) → n ≡ s → IsMadeFinal w u i m → ⊥) → (b.of s).ranges ≡ (a.of s).ranges → ((i m : ℕ) → AheadOf (u.task s) i m → AheadOf (w.task s) i m)
      → CountedIn s rest u v b c run → CountedIn s (n ∷ rest) w v a c longer
  skips none same ahead more = (
    more.0,
    record {
      apart = more.1.apart;
      all = λ i m. (
        λ is. inr ((more.1.all i m).0 is),
        λ makes. elim makes [ inl first ↦ absurd (none i m first.0 first.1) | inr later ↦ (more.1.all i m).1 later ],
      );
    },
    λ i m is. ahead i m (more.2 i m is),
    more.3 ∙ ap (λ k. k + length more.0) same,
  )

  -- it makes one of them
  adds_one : n ≡ s → StepMakes s w u a b (w.task s) (u.task s) → CountedIn s rest u v b c run → CountedIn s (n ∷ rest) w v a c longer
  adds_one is (MakesNone none same ahead) more = skips (λ i m _ made. none i m made) same ahead more
  adds_one is (MakesOne at range made only count first past ahead) more = (
    (at, range) ∷ more.0,
    record {
      apart = ((λ twice. past (more.2 at range twice)), more.1.apart);
      all = λ i m. (
        λ among. elim among [ inl one ↦ inl (is, back i m one) | inr later ↦ inr ((more.1.all i m).0 later) ],
        λ makes. ⊎_elim
            (λ (one : (n ≡ s) × IsMadeFinal w u i m). let here = only i m one.1 in inl (λ j. (here.0 j, here.1 j)))
            (λ (later : MakesFinal s i m run). inr ((more.1.all i m).1 later))
            makes,
      );
    },
    λ i m among. ⊎_elim
        (λ (one : IsSame (i, m) (at, range)). subst (λ (p : ℕ × ℕ). AheadOf (w.task s) p.0 p.1) (sym one) first)
        (λ (later : IsIn more.0 (i, m)). ahead i m (more.2 i m later))
        among,
    omega (arith, count, more.3),
  )
    where
      back : (i m : ℕ) → IsSame (i, m) (at, range) → IsMadeFinal w u i m
      back i m one = subst (λ (p : ℕ × ℕ). IsMadeFinal w u p.0 p.1) (sym one) made

-- another session's step leaves the session its statement and its account
others_leave : (s n : ℕ) (w u : TableState) → TableStep n w u → n ≢ s → u.task s ≡ w.task s
others_leave s n w u step other = ⊎_elim
    (λ (is : s ≡ n). absurd (other (sym is)))
    (λ (later : u.task s ≡ step.between.task s). ⊎_elim
    (λ (is : s ≡ n). absurd (other (sym is)))
    (λ (first : step.between.task s ≡ w.task s). later ∙ first)
    ((does_leaves n w step.between step.does).others s))
    ((settles_leaves n step.between u step.settles).others s)

abbrev Stepped : (n : ℕ) (w u : TableState) (a b : Accounts) → Type 0
Stepped n w u a b = (step : TableStep n w u) × AccountsStep n w step.between step.does a b

run_counts : (s : ℕ) (steps : List ℕ) (w v : TableState) (a b : Accounts) (run : AccountsRun steps w v a b) → IsTableKept w → GoesOnGiving (w.task s)
    → IsInHand s run → CountedIn s steps w v a b run
run_counts s _ _ _ _ _ (AccountsDone w a) kept gives in_hand = (
  [],
  record { apart = tt; all = λ i m. ((λ x. x), λ x. x) },
  λ i m is. absurd is,
  omega arith,
)
run_counts s _ _ _ _ _ (AccountsNext n rest w u v a b c step adds run) kept gives in_hand = ⊎_elim
    (λ (is : n ≡ s).
    let own : Stepped s w u a b = subst (λ k. Stepped k w u a b) is (step, adds) in
    let makes = step_makes s w u a b own.0 own.1 kept (giving gives) in
    adds_one s n rest w u v a b c step adds run is makes.0
    (run_counts s rest u v b c run (table_step_kept n w u kept step) makes.1 in_hand.1))
    (λ (other : n ≢ s).
    let same = others_leave s n w u step other in
    skips s n rest w u v a b c step adds run (λ i m is _. other is)
    (⊎_elim (λ (is : s ≡ n). absurd (other (sym is))) (λ (stays : b.of s ≡ a.of s). ap (λ (x : Account). x.ranges) stays) (adds.others s))
    (λ i m ahead. subst (λ t. AheadOf t i m) same ahead)
    (run_counts s rest u v b c run (table_step_kept n w u kept step) (subst GoesOnGiving (sym same) gives) in_hand.1))
    (cases_eq n s)
  where
    giving : GoesOnGiving (w.task s) → GivesFinals (w.task s)
    giving gives = ⊎_elim (λ (is : GivesFinals (w.task s)). is) (λ (rests : w.task s ≡ Resting). absurd (in_hand.0 rests)) gives

-- a statement begins with an empty account, and changes no index then
abbrev Begun : (s : ℕ) (w u : TableState) (b : Accounts) → Type 0
Begun s w u b = ((b.of s).ranges ≡ 0) × ((i : ℕ) → u.index i ≡ w.index i)

begins_empty : (s : ℕ) (w : TableState) (first : Task) (begins : BeginsWith w first) (a b : Accounts) → Begins s w first begins a b → (b.of s).ranges ≡ 0
begins_empty s w _ (Work at only inside) a b one = ap (λ (x : Account). x.ranges) one.0
begins_empty s w _ _ a b one = ap (λ (x : Account). x.ranges) one.account

module _ (s : ℕ) (w u : TableState) (a b : Accounts) (rested : w.task s ≡ Resting) (gives : GivesFinals (u.task s)) where
  was_not : (old new : Task) → TaskTurns s w u old new → Acts old → ⊥
  was_not old new turns acts = subst Acts (sym turns.was ∙ rested) acts

  gives_new : (old new : Task) → TaskTurns s w u old new → GivesFinals new
  gives_new old new turns = subst GivesFinals turns.now gives

  begun : (does : Does s w u) → Adds s w u does a b → Begun s w u b
  begun (PutsRow d k r place turns takes) adds = absurd (gives_new _ _ turns)
  begun (RefusesRow t refused turns fails) adds = absurd (gives_new _ _ turns)
  begun (AsksSummary d k r at turns only) adds = absurd (was_not _ _ turns tt)
  begun (InsertGoes d k r at old new turns stepped step) adds = absurd (was_not _ _ turns tt)
  begun (InsertCompletes d k r at old turns stepped step) adds = absurd (was_not _ _ turns tt)
  begun (RefusesInsert d k r old refused turns fails) adds = absurd (gives_new _ _ turns)
  begun (TakesLock first begins turns free held rows indexes) adds = (begins_empty s w first begins a b adds, indexes.index)
  begun (MaintainGoes job at range old new turns stepped step) adds = absurd (was_not _ _ turns tt)
  begun (MaintainCompletes job at range old turns stepped step) adds = absurd (was_not _ _ turns tt)
  begun (RefusesMaintain job at range phase refused turns stepped passes) adds = absurd (gives_new _ _ turns)
  begun (RefusesVacuum old vacuuming turns given rows indexes) adds = absurd (gives_new _ _ turns)
  begun (PrunesBlock extent next dropped inside spared turns drops) adds = absurd (was_not _ _ turns tt)
  begun (SweepsPage at page turns stepped sweeps) adds = absurd (was_not _ _ turns tt)
  begun (RestartsIndex at turns only) adds = absurd (was_not _ _ turns tt)
  begun (BeginsScan scan begins turns only) adds = absurd (gives_new _ _ turns)
  begun (Judges old new inside low step turns only) adds = absurd (was_not _ _ turns tt)
  begun (ReadsBlock scan next found reads turns only) adds = absurd (was_not _ _ turns tt)
  begun (RefusesScan scan t turns how) adds = absurd (gives_new _ _ turns)
  begun (MarksRow scan id rest turns only) adds = absurd (was_not _ _ turns tt)
  begun (Conflicts scan id rest t turns fails) adds = absurd (gives_new _ _ turns)
  begun (Blocked task blocked turns only) adds = absurd (subst GivesFinals (turns.now ∙ sym turns.was ∙ rested) gives)
  begun (Transacts counts resting few same) adds = absurd (subst GivesFinals (ap (λ (x : TableState). x.task s) same ∙ rested) gives)

pub replies_count : (s : ℕ) (rest : List ℕ) (w u v : TableState) (a b c : Accounts) (step : TableStep s w u) (adds : AccountsStep s w step.between step.does a b)
    (run : AccountsRun rest u v b c) → IsTableKept w → w.task s ≡ Resting → GivesFinals (step.between.task s) → IsInHand s run
    → (made : List (ℕ × ℕ)) × AreMadeFinal s (AccountsNext s rest w u v a b c step adds run) made × (length made ≡ (c.of s).ranges)
replies_count s rest w u v a b c step adds run kept rested gives in_hand =
    let start = begun s w step.between a b rested gives step.does adds.adds in
    let to = settles_to s step.between u step.settles (inl gives) in
    let counted = run_counts s rest u v b c run (table_step_kept s w u kept step) to.0 in_hand in (
      counted.0,
      record {
        apart = counted.1.apart;
        all = λ i m. (
          λ is. inr ((counted.1.all i m).0 is),
          λ makes. ⊎_elim
              (λ (first : (s ≡ s) × IsMadeFinal w u i m).
              absurd (first.1.1 (index_final i m w step.between (start.1 i) (index_final i m step.between u (to.2 i) first.1.0))))
              (λ (later : MakesFinal s i m run). (counted.1.all i m).1 later)
              makes,
        );
      },
      omega (arith, start.0, counted.3),
    )
