-- A desummarise whose session steps alone ends within three steps from where it reads the map.
use Rattle.std.proofs.Common.{◌≡◌, ⊎_elim, ℕ, ◌≤◌, Option, Some, ◌∙◌, ap, subst, arith, suc}
use Rattle.std.specs.Prelude.{refl}
use Rattle.block_model.specs.declared.place.Spot.{Spot}
use Rattle.coverage.specs.IndexView.{IndexView}
use Rattle.coverage.specs.Statements.{Held, Phase, NotBuilding, Statement, Maintaining, Holding}
use Rattle.coverage.specs.Steps.{DesummariseStep, ClearMap, ClearNone, Clear, ClearAgain, DropCleared}
use Rattle.coverage.proofs.Verdicts.{clear_differs}
use Rattle.coverage.specs.Table.{Job, Desummarising, Index, Task, Resting, Considers, Maintains, TableState, index_view_at}
use Rattle.coverage.specs.TableSteps.{OnlyTurns, JobStep, Onward, Stays, ToRange, IsMaintained, TableStep}
use Rattle.coverage.specs.GoingOn.{StepsAlone, LastAlone, OneMoreAlone}
use Rattle.coverage.specs.StepsLeft.{desummarise_steps}
use Rattle.coverage.specs.TableCovered.{IsInTable, IsTableKept}
use Rattle.coverage.proofs.StepDid.{Did, DidMaintain, DidRange, step_did, step_settles}
use Rattle.coverage.proofs.TableSeen.{table_step_kept}

-- so many steps are within what is left, by the entry of the range
abbrev ClearWithin : (n : ℕ) → Option Spot → Phase → Type 0
ClearWithin n entry (NotBuilding (Held x)) = (entry ≡ Some x → n ≤ 2) × (n ≤ 4)
ClearWithin n entry phase = n ≤ desummarise_steps phase

abbrev AfterClear : (n : ℕ) → Option Spot → Statement → Type 0
AfterClear n entry (Maintaining range phase) = ClearWithin n entry phase
AfterClear n entry statement = n ≡ 0

module _ (s range n : ℕ) (w v : IndexView) where
  one_more : (m : ℕ) → n ≤ m → suc n ≤ suc m
  one_more m le = omega arith

  clear_within : (old : Phase) (e : Statement) → DesummariseStep s range w v old e → AfterClear n (v.entry range) e → ClearWithin (suc n) (w.entry range) old
  clear_within _ _ (ClearMap x named reads) left = one_more 2 (left.0 (reads.frame.map.entry range ∙ named))
  clear_within _ _ (ClearNone none reads) left = omega arith
  clear_within _ _ (Clear x verdict clears these) left = ((λ _. one_more 1 left), omega (arith, one_more 1 left))
  clear_within _ _ (ClearAgain x verdict reads) left = ((λ is. absurd (clear_differs w s range x verdict is)), one_more 3 left)
  clear_within _ _ (DropCleared x drops) left = omega arith

clear_bound : (n : ℕ) (entry : Option Spot) (phase : Phase) → ClearWithin n entry phase → n ≤ desummarise_steps phase
clear_bound n entry (NotBuilding (Held x)) left = left.1
clear_bound n entry phase left = left

abbrev JobWithin : (n : ℕ) → TableState → Job → (at range : ℕ) → Phase → Type 0
JobWithin n z (Desummarising only) at range phase = ClearWithin n ((z.index at).entry range) phase
JobWithin n z job at range phase = Unit

abbrev Within : (n : ℕ) → TableState → Task → Type 0
Within n z (Maintains job at range phase) = JobWithin n z job at range phase
Within n z task = Unit

module _ (s : ℕ) where
  module _ (n : ℕ) (w v : TableState) (step : TableStep s w v) (kept : IsTableKept w) (ends : v.task s ≡ Resting → n ≡ 0)
      (more : Within n v (v.task s)) where
    abbrev u : TableState
    u = step.between

    phase_left : (only at range : ℕ) (new : Phase) (t : Task) → Onward u (Maintains (Desummarising only) at range new) t → OnlyTurns u v → Within n v t
        → ClearWithin n ((u.index at).entry range) new
    phase_left only at range new _ (Stays _ has) turns left =
        subst (λ entry. ClearWithin n entry new) (ap (λ (x : Index). x.entry range) (turns.indexes.index at)) left

    unmaintained : (job : Job) (at range : ℕ) (new : Phase) → IsMaintained u (Maintains job at range new) → ⊥
    unmaintained job at range new done = elim done [ ]

    goes : (job : Job) (at range : ℕ) (old new : Phase) → JobStep job s range (index_view_at at w) (index_view_at at u) old (Maintaining range new)
        → u.task s ≡ Maintains job at range new → JobWithin (suc n) w job at range old
    goes (Desummarising only) at range old new does now =
        clear_within s range n (index_view_at at w) (index_view_at at u) old (Maintaining range new) does (⊎_elim
        (λ (on : Onward u (Maintains (Desummarising only) at range new) (v.task s) × OnlyTurns u v).
        phase_left only at range new (v.task s) on.0 on.1 more)
        (λ (done : IsMaintained u (Maintains (Desummarising only) at range new) × (v.task s ≡ Resting)).
        absurd (unmaintained (Desummarising only) at range new done.0))
        (step_settles s u v step.settles (Maintains (Desummarising only) at range new) now))
    goes _ at range old new does now = tt

    no_other : (only at range : ℕ) (t : Task) → Onward u (Considers (Desummarising only) at (suc range)) t → range ≡ only → ⊥
    no_other only at range _ (Stays _ has) is = has
    no_other only at range _ (ToRange _ _ _ has) is = omega arith

    ranges : (job : Job) (at range : ℕ) (old : Phase) → JobStep job s range (index_view_at at w) (index_view_at at u) old Holding
        → u.task s ≡ Considers job at (suc range) → IsInTable w (Maintains job at range old) → JobWithin (suc n) w job at range old
    ranges (Desummarising only) at range old does now inside =
        clear_within s range n (index_view_at at w) (index_view_at at u) old Holding does (⊎_elim
        (λ (on : Onward u (Considers (Desummarising only) at (suc range)) (v.task s) × OnlyTurns u v).
        absurd (no_other only at range (v.task s) on.0 inside.2))
        (λ (done : IsMaintained u (Considers (Desummarising only) at (suc range)) × (v.task s ≡ Resting)). ends done.1)
        (step_settles s u v step.settles (Considers (Desummarising only) at (suc range)) now))
    ranges _ at range old does now inside = tt

    step_within : (task new : Task) → Did s w u task new → w.task s ≡ task → u.task s ≡ new → Within (suc n) w task
    step_within _ _ (DidMaintain job at range old new stepped does) was now = goes job at range old new does now
    step_within _ _ (DidRange job at range old stepped does) was now = ranges job at range old does now (subst (IsInTable w) was (kept.inside s))
    step_within _ _ _ was now = tt

  none_job : (z : TableState) (job : Job) (at range : ℕ) (phase : Phase) → JobWithin 0 z job at range phase
  none_job z (Desummarising only) at range phase = none_clear ((z.index at).entry range) phase
    where
      none_clear : (entry : Option Spot) (phase : Phase) → ClearWithin 0 entry phase
      none_clear entry (NotBuilding (Held x)) = ((λ _. omega arith), omega arith)
      none_clear entry phase = omega arith
  none_job z _ at range phase = tt

  none_left : (z : TableState) (task : Task) → Within 0 z task
  none_left z (Maintains job at range phase) = none_job z job at range phase
  none_left z task = tt

  within : (n : ℕ) (w : TableState) → StepsAlone s n w → IsTableKept w → Within n w (w.task s)
  within _ _ (LastAlone w v step p point) kept =
      step_within 0 w v step kept (λ _. refl) (none_left v (v.task s)) (w.task s) (step.between.task s) (step_did s w step.between p step.does point) refl refl
  within _ _ (OneMoreAlone n w v step p point going more) kept =
      step_within n w v step kept (λ is. absurd (going is)) (within n v more (table_step_kept s w v kept step))
      (w.task s) (step.between.task s) (step_did s w step.between p step.does point) refl refl

  pub desummarise_within : (n only at range : ℕ) (w : TableState) (phase : Phase) → IsTableKept w → w.task s ≡ Maintains (Desummarising only) at range phase
      → StepsAlone s n w → n ≤ desummarise_steps phase
  desummarise_within n only at range w phase kept is alone =
      clear_bound n ((w.index at).entry range) phase (subst (Within n w) is (within n w alone kept))
