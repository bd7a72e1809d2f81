-- A count is one number, and so is what a step counts.
use Rattle.std.proofs.Common.{◌≡◌, ⊎_elim, ℕ, ◌≤◌, ◌<◌, sym, ◌∙◌, ap, subst, arith, suc}
use Rattle.std.specs.Prelude.{refl}
use Rattle.std.proofs.Math.Nat.{le_of_lt}
use Rattle.block_model.specs.declared.reply.Point.{Point}
use Rattle.block_model.specs.declared.reply.Point.TheVariants as points
use Rattle.coverage.specs.IndexView.{IndexView, Progress, Passing}
use Rattle.coverage.specs.Statements.{OnIndex, Phase, IsAt, Statement}
use Rattle.coverage.specs.Steps.{OnIndexStep, Maps, GrowthStep, Grow, SummariseStep, GrowMap, Unite, DesummariseStep, ClearMap}
use Rattle.coverage.specs.Points.{on_index_point, growth_point, summarise_point, desummarise_point}
use Rattle.coverage.specs.Counts.{IsCountBelow, NoneBelow, OneMoreBelow, NotThisOne, IsCountOf, summarise_count, desummarise_count}
use Rattle.coverage.proofs.NextSteps.{summarise_one_point, desummarise_one_point}
use Rattle.coverage.proofs.Numbers.{lt_or_ge}

module _ (Is : ℕ → Type 0) where
  below_once : (n c d : ℕ) → IsCountBelow Is n c → IsCountBelow Is n d → c ≡ d
  below_once _ _ _ NoneBelow NoneBelow = refl
  below_once _ _ _ (OneMoreBelow n c is one) (OneMoreBelow _ d is' two) = ap suc (below_once n c d one two)
  below_once _ _ _ (OneMoreBelow n c is one) (NotThisOne _ d not two) = absurd (not is)
  below_once _ _ _ (NotThisOne n c not one) (OneMoreBelow _ d is two) = absurd (not is)
  below_once _ _ _ (NotThisOne n c not one) (NotThisOne _ d not' two) = below_once n c d one two

  -- from a number on from which none is so, the count stays
  module _ (n c : ℕ) (one : IsCountBelow Is n c) (none : (k : ℕ) → n ≤ k → Is k → ⊥) where
    same_below : (m d : ℕ) → n ≡ m → IsCountBelow Is m d → c ≡ d
    same_below m d is two = below_once m c d (subst (λ j. IsCountBelow Is j c) is one) two

    count_stays : (m d : ℕ) → IsCountBelow Is m d → n ≤ m → c ≡ d
    count_stays _ _ NoneBelow le = same_below 0 0 (omega arith) NoneBelow
    count_stays _ _ (OneMoreBelow j d is two) le = ⊎_elim
        (λ (before : j < n). same_below (suc j) (suc d) (omega arith) (OneMoreBelow j d is two))
        (λ (after : n ≤ j). absurd (none j after is))
        (lt_or_ge j n)
    count_stays _ _ (NotThisOne j d not two) le = ⊎_elim
        (λ (before : j < n). same_below (suc j) d (omega arith) (NotThisOne j d not two))
        (λ (after : n ≤ j). count_stays j d two after)
        (lt_or_ge j n)

  pub count_once : (c d : ℕ) → IsCountOf Is c → IsCountOf Is d → c ≡ d
  count_once c d one two = ⊎_elim
      (λ (less : one.below < two.below).
      count_stays one.below c one.counted one.rest two.below d two.counted (le_of_lt less))
      (λ (more : two.below ≤ one.below). sym (count_stays two.below d two.counted two.rest one.below c one.counted more))
      (lt_or_ge one.below two.below)

-- what a summariser's step counts, by its phase and its point
abbrev count_at : Phase → Point → ℕ
count_at phase points.Swap = 1
count_at (IsAt p on_index) points.Set = 1
count_at phase point = 0

on_index_counts_none : (s range : ℕ) (w v : IndexView) (p : Progress) (old new : OnIndex) (step : OnIndexStep s range w v old new)
    → 0 ≡ count_at (IsAt p old) (on_index_point step)
on_index_counts_none s range w v p _ _ (Maps x named reads) = refl
on_index_counts_none s range w v p _ _ _ = refl

growth_counts_none : (s range : ℕ) (w v : IndexView) (old new : Phase) (step : GrowthStep s range w v old new) → 0 ≡ count_at old (growth_point step)
growth_counts_none s range w v _ _ (Grow grows free meta turns) = refl
growth_counts_none s range w v _ _ _ = refl

summarise_counts : (s range : ℕ) (w v : IndexView) (phase : Phase) (e : Statement) (step : SummariseStep s range w v phase e)
    → summarise_count step ≡ count_at phase (summarise_point step)
summarise_counts s range w v _ _ (GrowMap old new step) = growth_counts_none s range w v old new step
summarise_counts s range w v _ _ (Unite extent next result old new all step) =
    on_index_counts_none s range w v (Passing extent next result) old new step
summarise_counts s range w v _ _ _ = refl

pub summarise_one_count : (s range : ℕ) (w v u : IndexView) (phase : Phase) (e f : Statement)
    → (one : SummariseStep s range w v phase e) → (two : SummariseStep s range w u phase f) → summarise_count one ≡ summarise_count two
summarise_one_count s range w v u phase e f one two =
    summarise_counts s range w v phase e one ∙ ap (count_at phase) (summarise_one_point s range w v u phase e f one two)
    ∙ sym (summarise_counts s range w u phase f two)

-- what a desummarise's step counts, by its point
abbrev clear_count : Point → ℕ
clear_count points.Clear = 1
clear_count point = 0

desummarise_counts : (s range : ℕ) (w v : IndexView) (phase : Phase) (e : Statement) (step : DesummariseStep s range w v phase e)
    → desummarise_count step ≡ clear_count (desummarise_point step)
desummarise_counts s range w v _ _ (ClearMap x named reads) = refl
desummarise_counts s range w v _ _ _ = refl

pub desummarise_one_count : (s range : ℕ) (w v u : IndexView) (phase : Phase) (e f : Statement)
    → (one : DesummariseStep s range w v phase e) → (two : DesummariseStep s range w u phase f) → desummarise_count one ≡ desummarise_count two
desummarise_one_count s range w v u phase e f one two =
    desummarise_counts s range w v phase e one ∙ ap clear_count (desummarise_one_point s range w v u phase e f one two)
    ∙ sym (desummarise_counts s range w u phase f two)
