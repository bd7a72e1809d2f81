-- Each step of a vacuum that prunes or sweeps leaves it fewer steps to go.
use Rattle.std.proofs.Common.{◌≡◌, ⊎_elim, ℕ, ◌+◌, ◌-◌, ◌≤◌, ◌<◌, Some, sym, ◌∙◌, ap, subst, arith, suc}
use Rattle.std.specs.Prelude.{refl}
use Rattle.block_model.specs.declared.reply.Point.{Point}
use Rattle.coverage.specs.IndexView.{PageKind, Unstarted, Mapping, Regular, Emptying}
use Rattle.coverage.specs.Table.{Index, Task, Resting, Prunes, SweepsFrom, Sweeps, TableState}
use Rattle.coverage.specs.TableSteps.{OnlyTurns, StepsIn, HasTuples, IsFrom, Onward, Stays, Pruned, ToPage, Swept, IsMaintained, TableStep}
use Rattle.coverage.specs.TablePoints.{does_point}
use Rattle.coverage.specs.StepsLeft.{sum_below, IsCleaning, page_limit, cleaning_steps}
use Rattle.coverage.specs.TableCovered.{IsTableKept}
use Rattle.coverage.proofs.Sums.{sum_same, sum_grows}
use Rattle.coverage.proofs.StepDid.{Did, DidPrune, DidSweep, step_did, step_settles}
use Rattle.coverage.proofs.TableSeen.{table_between_kept}

abbrev IsForNoTuples : PageKind → Type 0
IsForNoTuples Regular = ⊥
IsForNoTuples Emptying = ⊥
IsForNoTuples kind = Unit

for_tuples : (u : TableState) (m p : ℕ) (kind : PageKind) → IsForNoTuples kind → HasTuples u m p → (u.index m).pages.kind p ≡ kind → ⊥
for_tuples u m p kind none has is = ⊎_elim
    (λ (regular : (u.index m).pages.kind p ≡ Regular). subst IsForNoTuples (sym is ∙ regular) none)
    (λ (emptying : (u.index m).pages.kind p ≡ Emptying). subst IsForNoTuples (sym is ∙ emptying) none)
    has.1

-- a page with tuples lies past the first one, and below the limit
page_within : (u : TableState) (m p : ℕ) → IsTableKept u → HasTuples u m p → (0 < p) × (p < page_limit u m)
page_within u m p kept has =
    let ordered = (kept.indexes m has.0).ordered in (
      past p (λ zeroth. for_tuples u m p Mapping tt has (ordered.map p (omega arith))),
      ordered.below p (λ is. for_tuples u m p Unstarted tt has is),
    )
  where
    past : (p : ℕ) → (p ≡ 0 → ⊥) → 0 < p
    past p not = omega arith

module _ (u : TableState) (kept : IsTableKept u) where
  abbrev all : ℕ
  all = sum_below u.indexes (page_limit u)

  -- a sweep has no more before it than the pages of all indexes
  at_most_all : (m p : ℕ) → m < u.indexes → (all - sum_below (suc m) (page_limit u)) + (page_limit u m - p) ≤ all
  at_most_all m p below = omega (arith, sum_grows (page_limit u) (suc m) u.indexes below)

  -- the page that comes next has fewer before it
  next_fewer : (at page m p : ℕ) → HasTuples u m p → IsFrom at (suc page) m p
      → cleaning_steps u (Sweeps m p) < cleaning_steps u (Sweeps at page)
  next_fewer at page m p has from = ⊎_elim
      (λ (later : at < m).
      omega (arith, sum_grows (page_limit u) (suc at) m later, sum_grows (page_limit u) (suc m) u.indexes has.0, inside.0, inside.1))
      (λ (same : (at ≡ m) × (suc page ≤ p)).
      subst (λ n. cleaning_steps u (Sweeps m p) < cleaning_steps u (Sweeps n page)) (sym same.0)
      (omega (arith, same.1, inside.1)))
      from
    where
      inside : (0 < p) × (p < page_limit u m)
      inside = page_within u m p kept has

-- where the limits are the same, so is what is left
module _ (w v : TableState) (indexes : v.indexes ≡ w.indexes) (limits : (i : ℕ) → page_limit v i ≡ page_limit w i) where
  same_all : sum_below v.indexes (page_limit v) ≡ sum_below w.indexes (page_limit w)
  same_all = ap (λ n. sum_below n (page_limit v)) indexes ∙ sum_same (page_limit w) (page_limit v) limits w.indexes

  same_left : (task : Task) → cleaning_steps v task ≡ cleaning_steps w task
  same_left (Prunes extent next) = ap (λ n. (extent - next) + n) same_all
  same_left (Sweeps at page) = λ j. (same_all j - sum_same (page_limit w) (page_limit v) limits (suc at) j) + (limits at j - page)
  same_left task = refl

module _ (s : ℕ) (w v : TableState) (step : TableStep s w v) (kept : IsTableKept w) where
  abbrev u : TableState
  u = step.between

  kept_u : IsTableKept u
  kept_u = table_between_kept s w u kept step.does

  page_on : (at page : ℕ) (t : Task) → Onward u (SweepsFrom at (suc page)) t → IsCleaning t → cleaning_steps u t < cleaning_steps u (Sweeps at page)
  page_on at page _ (Stays _ has) cleaning = absurd has
  page_on at page _ (ToPage _ _ m p next) cleaning = next_fewer u kept_u at page m p next.has next.after
  page_on at page _ (Swept _ _ none some) cleaning = absurd cleaning

  first_page_on : (t : Task) → Onward u (SweepsFrom 0 0) t → IsCleaning t → cleaning_steps u t ≤ sum_below u.indexes (page_limit u)
  first_page_on _ (Stays _ has) cleaning = absurd has
  first_page_on _ (ToPage _ _ m p next) cleaning = at_most_all u kept_u m p next.has.0
  first_page_on _ (Swept _ _ none some) cleaning = absurd cleaning

  block_on : (extent next : ℕ) (t : Task) → next < extent → Onward u (Prunes extent (suc next)) t → IsCleaning t
      → cleaning_steps u t < cleaning_steps u (Prunes extent next)
  block_on extent next _ below (Stays _ has) cleaning = omega arith
  block_on extent next t below (Pruned _ _ _ all more) cleaning =
      omega (arith, first_page_on t more cleaning)

  -- from what is left of the table that the step made
  left_of : (task new : Task) → u.task s ≡ new → u.indexes ≡ w.indexes → ((i : ℕ) → page_limit u i ≡ page_limit w i)
      → (Onward u new (v.task s) → cleaning_steps u (v.task s) < cleaning_steps u task) → IsCleaning (v.task s)
      → cleaning_steps v (v.task s) < cleaning_steps w task
  left_of task new now indexes limits fewer cleaning = ⊎_elim
      (λ (on : Onward u new (v.task s) × OnlyTurns u v).
      subst (λ n. n < cleaning_steps w task)
      (sym (same_left u v on.1.rows.layout.indexes (λ i. ap (λ (x : Index). x.pages.limit) (on.1.indexes.index i)) (v.task s)))
      (subst (λ n. cleaning_steps u (v.task s) < n) (same_left w u indexes limits task) (fewer on.0)))
      (λ (done : IsMaintained u new × (v.task s ≡ Resting)). absurd (subst IsCleaning done.1 cleaning))
      (step_settles s u v step.settles new now)

  swept_limits : (at : ℕ) → StepsIn at w u
      → (u.index at).pages.limit ≡ (w.index at).pages.limit → (i : ℕ) → page_limit u i ≡ page_limit w i
  swept_limits at stepped same i = ⊎_elim
      (λ (is : i ≡ at). subst (λ n. page_limit u n ≡ page_limit w n) (sym is) same)
      (λ (e : u.index i ≡ w.index i). ap (λ (x : Index). x.pages.limit) e)
      (stepped.others i)

  step_fewer : (task new : Task) → Did s w u task new → u.task s ≡ new → IsCleaning task → IsCleaning (v.task s)
      → cleaning_steps v (v.task s) < cleaning_steps w task
  step_fewer _ _ (DidPrune extent next dropped below drops) now was cleaning =
      left_of (Prunes extent next) (Prunes extent (suc next)) now drops.layout.indexes (λ i. ap (λ (x : Index). x.pages.limit) (drops.indexes.index i))
      (λ on. block_on extent next (v.task s) below on cleaning) cleaning
  step_fewer _ _ (DidSweep at page stepped sweeps) now was cleaning =
      left_of (Sweeps at page) (SweepsFrom at (suc page)) now stepped.rows.layout.indexes (swept_limits at stepped sweeps.page.limit)
      (λ on. page_on at page (v.task s) on cleaning) cleaning
  step_fewer _ _ _ now was cleaning = absurd was

  pub cleaning_fewer : (p : Point) → does_point s w u step.does ≡ Some p → IsCleaning (w.task s) → IsCleaning (v.task s)
      → cleaning_steps v (v.task s) < cleaning_steps w (w.task s)
  cleaning_fewer p point was cleaning = step_fewer (w.task s) (u.task s) (step_did s w u p step.does point) refl was cleaning
