-- A summariser's final tuple is exactly what the rows of its range, and the placeholder, make.
use Rattle.std.proofs.Common.{◌≡◌, ◌⊎◌, inl, inr, ℕ, ◌+◌, ◌*◌, ◌≤◌, ◌<◌, min, Option, Some, sym, ◌∙◌, ap, subst, arith, add-one, suc-mul}
use Rattle.std.specs.Prelude.{refl}
use Rattle.block_model.specs.declared.row.Row.{Row}
use Rattle.block_model.specs.declared.place.Spot.{Spot}
use Rattle.coverage.specs.IndexView.{IndexTuple, Contents, Progress, ExtentUnread, Passing, IndexView, IsRangeOf}
use Rattle.coverage.specs.Changes.{SameHeap}
use Rattle.coverage.specs.Statements.{OnIndex, Empty, Copied, Moving, Phase, IsAt, Statement, Maintaining}
use Rattle.coverage.specs.Knowing.{KnowsPhase, Knows}
use Rattle.coverage.specs.PageOrder.{IsPassWithin, KnowsPagesOfPhase, KnowsPages}
use Rattle.coverage.specs.IsCovered.{IndexState, index_view, IsIndexKept}
use Rattle.coverage.specs.Steps.{ReplacesTuple, SetsEntry, OnIndexStep, Maps, Gone, Again, MovePut, SummariseStep, Found, GrowMap, Set, Extent, Pass, Unite}
use Rattle.coverage.specs.Steps.{UniteCopies, SwapFinal, SetFinal, GrowthStep, Grow}
use Rattle.coverage.specs.Counts.{summarise_count}
use Rattle.coverage.specs.ExactResults.{IsPassed, NonePassed, OneMorePassed, IsPassedIn, UnitesExactly, IsExact, IsExactAfter, NamesExactFinal}
use Rattle.coverage.proofs.Stable.{held_named}

-- where the heap and the contents are the same, so is what was passed
module _ (w v : IndexView) (heap : SameHeap w v) (contents : v.contents ≡ w.contents) where
  passed_on : (range next : ℕ) (result : IndexTuple) → IsPassedIn w range next result → IsPassedIn v range next result
  passed_on range next result passed =
      let back = sym contents in
      subst (λ c. IsPassed c v.row range (range * v.pages_per_range) next result) back
      (subst (λ m. IsPassed w.contents v.row range (range * m) next result) (sym heap.pages_per_range)
      (subst (λ (f : ℕ → ℕ → Option Row). IsPassed w.contents f range (range * w.pages_per_range) next result) (sym (λ j b k. heap.row b k j)) passed))

  extent_on : (range extent : ℕ) → extent ≡ min w.blocks ((range + 1) * w.pages_per_range) → extent ≡ min v.blocks ((range + 1) * v.pages_per_range)
  extent_on range extent is =
      subst (λ m. extent ≡ min v.blocks ((range + 1) * m)) (sym heap.pages_per_range)
      (subst (λ m. extent ≡ min m ((range + 1) * w.pages_per_range)) (sym heap.blocks) is)

  unites_on : (result : IndexTuple) (on_index : OnIndex) → UnitesExactly w.contents result on_index → UnitesExactly v.contents result on_index
  unites_on result on_index = subst (λ c. UnitesExactly c result on_index) (sym contents)

  pub exact_on : (range : ℕ) (phase : Phase) → IsExact w range phase → IsExact v range phase
  exact_on range (IsAt ExtentUnread on_index) is = is
  exact_on range (IsAt (Passing extent next result) on_index) is =
      (extent_on range extent is.0, passed_on range next result is.1, unites_on result on_index is.2)
  exact_on range phase is = tt

-- a step towards a new tuple in the old one's place makes no other
unites_step : (s range : ℕ) (w v : IndexView) (contents : Contents) (result : IndexTuple) (old new : OnIndex) → OnIndexStep s range w v old new
    → UnitesExactly contents result old → UnitesExactly contents result new
unites_step s range w v contents result _ _ (MovePut x y old new verdict puts these) is = is
unites_step s range w v contents result _ _ _ is = tt

step_heap : (s range : ℕ) (w v : IndexView) (old new : OnIndex) → OnIndexStep s range w v old new → SameHeap w v × (v.contents ≡ w.contents)
step_heap s range w v _ _ (Maps x named reads) = (reads.frame.heap, reads.frame.contents)
step_heap s range w v _ _ (Gone x gone reads) = (reads.frame.heap, reads.frame.contents)
step_heap s range w v _ _ (Again x old new verdict reads) = (reads.frame.heap, reads.frame.contents)
step_heap s range w v _ _ (MovePut x y old new verdict puts these) = (puts.frame.heap, puts.frame.contents)

growth_exact : (s range : ℕ) (w v : IndexView) (old new : Phase) → GrowthStep s range w v old new → IsExact v range new
growth_exact s range w v _ _ (Grow grows free meta turns) = tt
growth_exact s range w v _ _ _ = tt

pub exact_after : (s range : ℕ) (w v : IndexView) (old : Phase) (e : Statement) → SummariseStep s range w v old e → IsExact w range old → IsExactAfter v range e
exact_after s range w v _ _ (Found x t stands flag reads) is = refl
exact_after s range w v _ _ (GrowMap old new step) is = growth_exact s range w v old new step
exact_after s range w v _ _ (Set x sets none) is = refl
exact_after s range w v _ _ (Extent extent result start read reads) is =
    exact_on w v reads.frame.heap reads.frame.contents range (IsAt (Passing extent (range * w.pages_per_range) result) Empty)
    (read, subst (λ t. IsPassedIn w range (range * w.pages_per_range) t) (sym start) NonePassed, tt)
exact_after s range w v _ _ (Pass extent next slots result wider below none made reads) is =
    exact_on w v reads.frame.heap reads.frame.contents range (IsAt (Passing extent (next + 1) wider) Empty)
    (is.0, subst (λ t. IsPassedIn w range (next + 1) t) (sym made) (OneMorePassed next slots result is.1 none), tt)
exact_after s range w v _ _ (Unite extent next result old new all step) is =
    let same = step_heap s range w v old new step in
    exact_on w v same.0 same.1 range (IsAt (Passing extent next result) new)
    (is.0, is.1, unites_step s range w v w.contents result old new step is.2)
exact_after s range w v _ _ (UniteCopies extent next result x old new all stands united reads) is =
    exact_on w v reads.frame.heap reads.frame.contents range (IsAt (Passing extent next result) (Copied x old new)) (is.0, is.1, united)
exact_after s range w v _ _ _ is = tt

not_counted : (count : ℕ) → count ≡ 0 → count ≡ 1 → ⊥
not_counted count none one = omega arith

module _ (s range : ℕ) (w v : IndexState) (kept : IsIndexKept w) where
  abbrev view : IndexView
  view = index_view w

  known_at : (phase : Phase) → w.statement s ≡ Maintaining range phase → KnowsPhase view s range phase × KnowsPagesOfPhase view s range phase
  known_at phase is = ((subst (Knows view s) is (kept.knows s)).1, subst (KnowsPages view s) is (kept.knows_pages s))

  -- where the pass is over, all blocks of the range are passed
  all_passed : (extent next : ℕ) (result : IndexTuple) → extent ≡ min w.blocks ((range + 1) * w.pages_per_range) → extent ≤ next → IsRangeOf view range
      → IsPassWithin view range (Passing extent next result) → IsPassedIn view range next result
      → IsPassedIn view range (min w.blocks ((range + 1) * w.pages_per_range)) result
  all_passed extent next result is over its within passed =
      subst (λ m. IsPassedIn view range m result)
      (whole (range * w.pages_per_range) w.pages_per_range w.blocks ((range + 1) * w.pages_per_range) extent next kept.sound.ranged its.0
      (ap (λ n. n * w.pages_per_range) (add-one range) ∙ suc-mul range w.pages_per_range) is over within.1) passed
    where
      whole : (first per blocks past extent next : ℕ) → 0 < per → first < blocks → past ≡ first + per → extent ≡ min blocks past → extent ≤ next
          → (next ≤ extent) ⊎ (next ≡ first) → next ≡ min blocks past
      whole first per blocks past extent next some below last is over (inl le) = omega arith
      whole first per blocks past extent next some below last is over (inr same) = omega arith

  swap_final : (p : Progress) (x : Spot) (old new : IndexTuple) → w.statement s ≡ Maintaining range (IsAt p (Copied x old new))
      → ReplacesTuple s view (index_view v) x old new → IsExact view range (IsAt p (Copied x old new)) → NamesExactFinal view (index_view v) range
  swap_final ExtentUnread x old new was swap is = absurd ((known_at (IsAt ExtentUnread (Copied x old new)) was).0.0.3)
  swap_final (Passing extent next result) x old new was swap is =
      let known = known_at (IsAt (Passing extent next result) (Copied x old new)) was in
      let own = known.0.0 in
      let named = held_named view s range x old kept.sound own.1 swap.tuple.was own.2 swap.free own.0 in (
        old,
        result,
        (x, named, swap.tuple.was),
        all_passed extent next result is.0 own.3.0 known.0.1 known.1.2 is.1,
        (x, swap.frame.map.entry range ∙ named, swap.tuple.now ∙ ap Some is.2),
      )

  set_final : (p : Progress) (x y : Spot) (old new : IndexTuple) → w.statement s ≡ Maintaining range (IsAt p (Moving x y old new))
      → SetsEntry s view (index_view v) range y → IsExact view range (IsAt p (Moving x y old new)) → NamesExactFinal view (index_view v) range
  set_final ExtentUnread x y old new was sets is = absurd ((known_at (IsAt ExtentUnread (Moving x y old new)) was).0.0.6)
  set_final (Passing extent next result) x y old new was sets is =
      let known = known_at (IsAt (Passing extent next result) (Moving x y old new)) was in
      let own = known.0.0 in (
        old,
        result,
        (x, own.2, own.3),
        all_passed extent next result is.0 own.6.0 known.0.1 known.1.2 is.1,
        (y, sets.entry.now, sets.frame.tuples.tuple y ∙ own.4 ∙ ap Some is.2),
      )

  pub exact_final : (old : Phase) (e : Statement) (step : SummariseStep s range view (index_view v) old e) → w.statement s ≡ Maintaining range old
      → IsExact view range old → summarise_count step ≡ 1 → NamesExactFinal view (index_view v) range
  exact_final _ _ (SwapFinal p x old new verdict swap) was is one = swap_final p x old new was swap is
  exact_final _ _ (SetFinal p x y old new sets same) was is one = set_final p x y old new was sets is
  exact_final _ _ _ was is one = absurd (not_counted 0 refl one)
