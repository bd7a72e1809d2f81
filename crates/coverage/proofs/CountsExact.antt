-- What a step counts is what it does: a range gets its final tuple, an entry leaves the map, an unnamed tuple goes.
use Rattle.std.proofs.Common.{◌≡◌, ◌≢◌, inl, inr, ⊎_elim, ℕ, None, false, sym, ◌∙◌, ap, subst, arith}
use Rattle.std.specs.Prelude.{refl, ◌↔◌}
use Rattle.std.proofs.lemmas.Option.{same_Some, none-some}
use Rattle.std.proofs.lemmas.Bool.{false≢true}
use Rattle.block_model.specs.declared.place.Spot.{Spot}
use Rattle.coverage.specs.IndexView.{IndexTuple, Progress, ExtentUnread, Passing, IndexView, NamesPlaceholder}
use Rattle.coverage.specs.Statements.{OnIndex, Copied, Moving, Phase, NotBuilding, Vacant, Placing, IsAt, Statement, Maintaining}
use Rattle.coverage.specs.Knowing.{MakesUnited, KnowsPhase, Knows}
use Rattle.coverage.specs.PageOrder.{KnowsPagesOfPhase, KnowsPages}
use Rattle.coverage.specs.IsCovered.{IndexState, index_view, IsIndexKept}
use Rattle.coverage.specs.Steps.{ReadsIndex, DropsTuple, IsUnnamed, SweepsTuples, SummariseStep, LookMap, LookGone, IsFinal, Found, ReadNoEntry, GrowMap, Put}
use Rattle.coverage.specs.Steps.{Set, Extent, Pass, Unite, UniteCopies, SwapFinal, SetFinal, DropOld, DesummariseStep, ClearMap, ClearNone, Clear, ClearAgain}
use Rattle.coverage.specs.Steps.{DropCleared, GrowthStep, Grow}
use Rattle.coverage.specs.Counts.{HasGone, NamesFinal, summarise_count, desummarise_count}
use Rattle.coverage.proofs.Stable.{held_named}

not_both : (n : ℕ) → n ≡ 0 → n ≡ 1 → ⊥
not_both n none one = omega arith

-- a range of which the map names a placeholder has no final tuple
placeholder_not_final : (w : IndexView) (range : ℕ) → NamesPlaceholder w range → NamesFinal w range → ⊥
placeholder_not_final w range names final =
    let place : names.0 ≡ final.1.0 = same_Some _ _ (sym names.2 ∙ final.1.1) in
    let same : names.1 ≡ final.0 = same_Some _ _ (sym names.3 ∙ ap w.tuple place ∙ final.1.2) in
    false≢true (sym final.2 ∙ sym (ap (λ (u : IndexTuple). u.placeholder) same) ∙ names.4)

-- one without an entry has none either
none_not_final : (w : IndexView) (range : ℕ) → w.entry range ≡ None → NamesFinal w range → ⊥
none_not_final w range none final = none-some _ (sym none ∙ final.1.1)

united_final : (p : Progress) (old new : IndexTuple) → MakesUnited p old new → new.placeholder ≡ false
united_final ExtentUnread old new how = absurd how
united_final (Passing extent next result) old new how = how.1.placeholder

-- a summariser at work on its range, whose range has no final tuple
phase_not_final : (w : IndexView) (s range : ℕ) (phase : Phase) → KnowsPhase w s range phase → KnowsPagesOfPhase w s range phase
    → ((on_index : OnIndex) → phase ≢ NotBuilding on_index) → NamesFinal w range → ⊥
phase_not_final w s range (NotBuilding on_index) known pages working final = working on_index refl
phase_not_final w s range Vacant known pages working final = none_not_final w range known.1 final
phase_not_final w s range (IsAt p on_index) known pages working final = placeholder_not_final w range pages.1 final
phase_not_final w s range _ known pages working final = none_not_final w range known.0 final

abbrev is_building : Phase → ℕ
is_building (NotBuilding on_index) = 0
is_building phase = 1

works : (phase : Phase) → is_building phase ≡ 1 → (on_index : OnIndex) → phase ≢ NotBuilding on_index
works phase is on_index same = not_both (is_building phase) (ap is_building same) is

module _ (s range : ℕ) (w v : IndexState) (before : IsIndexKept w) (after : IsIndexKept v) where
  -- by the step the map comes to name a final tuple of the range
  abbrev pub GetsFinal : Type 0
  GetsFinal = NamesFinal (index_view v) range × (NamesFinal (index_view w) range → ⊥)

  -- nothing was counted
  no_final : (count : ℕ) → count ≡ 0 → (GetsFinal → ⊥) → (count ≡ 1) ↔ GetsFinal
  no_final count none never = ((λ is. absurd (not_both count none is)), λ gets. absurd (never gets))

  reads_none : ReadsIndex s (index_view w) (index_view v) → GetsFinal → ⊥
  reads_none reads gets = gets.1 (
    gets.0.0,
    (gets.0.1.0, sym (reads.frame.map.entry range) ∙ gets.0.1.1, sym (reads.frame.tuples.tuple gets.0.1.0) ∙ gets.0.1.2),
    gets.0.2,
  )

  -- a tuple that goes was named by no entry
  drops_none : (x : Spot) → DropsTuple s (index_view w) (index_view v) x → GetsFinal → ⊥
  drops_none x drops gets = ⊎_elim
      (λ (is : gets.0.1.0 ≡ x). none-some _ (sym drops.tuple.now ∙ sym (ap v.tuple is) ∙ gets.0.1.2))
      (λ (same : v.tuple gets.0.1.0 ≡ w.tuple gets.0.1.0).
      gets.1 (gets.0.0, (gets.0.1.0, sym (drops.frame.map.entry range) ∙ gets.0.1.1, sym same ∙ gets.0.1.2), gets.0.2))
      (drops.tuple.others gets.0.1.0)

  phase_known : (u : IndexState) → IsIndexKept u → (phase : Phase) → u.statement s ≡ Maintaining range phase → KnowsPhase (index_view u) s range phase
      × KnowsPagesOfPhase (index_view u) s range phase
  phase_known u kept phase is =
      ((subst (Knows (index_view u) s) is (kept.knows s)).1, subst (KnowsPages (index_view u) s) is (kept.knows_pages s))

  -- it is at work afterwards
  working_none : (new : Phase) → v.statement s ≡ Maintaining range new → is_building new ≡ 1 → GetsFinal → ⊥
  working_none new is working gets =
      let known = phase_known v after new is in phase_not_final (index_view v) s range new known.0 known.1 (works new working) gets.0

  was_none : (old : Phase) → w.statement s ≡ Maintaining range old → is_building old ≡ 1 → NamesFinal (index_view w) range → ⊥
  was_none old is working =
      let known = phase_known w before old is in phase_not_final (index_view w) s range old known.0 known.1 (works old working)

  -- a growth of the map leaves the range at work
  grown : (old new : Phase) → GrowthStep s range (index_view w) (index_view v) old new → is_building new ≡ 1
  grown _ _ (Grow grows free meta turns) = refl
  grown _ _ _ = refl

  pub summarise_exact : (old : Phase) (new : Statement) (step : SummariseStep s range (index_view w) (index_view v) old new)
      → w.statement s ≡ Maintaining range old → v.statement s ≡ new → (summarise_count step ≡ 1) ↔ GetsFinal
  summarise_exact _ _ (LookMap x named reads) was now = no_final 0 refl (reads_none reads)
  summarise_exact _ _ (LookGone x gone reads) was now = no_final 0 refl (reads_none reads)
  summarise_exact _ _ (IsFinal x t stands final reads) was now = no_final 0 refl (reads_none reads)
  summarise_exact _ _ (Found x t stands flag reads) was now = no_final 0 refl (reads_none reads)
  summarise_exact _ _ (ReadNoEntry none of reads) was now = no_final 0 refl (reads_none reads)
  summarise_exact _ _ (GrowMap old new step) was now = no_final 0 refl (working_none new now (grown old new step))
  summarise_exact _ _ (Put x t is long verdict puts these) was now = no_final 0 refl (working_none (Placing x) now refl)
  summarise_exact _ _ (Set x sets none) was now = no_final 0 refl (working_none _ now refl)
  summarise_exact _ _ (Extent extent result start is reads) was now = no_final 0 refl (reads_none reads)
  summarise_exact _ _ (Pass extent next slots result wider below none made reads) was now = no_final 0 refl (reads_none reads)
  summarise_exact _ _ (Unite extent next result old new all step) was now = no_final 0 refl (working_none (IsAt (Passing extent next result) new) now refl)
  summarise_exact _ _ (UniteCopies extent next result x old new all stands united reads) was now = no_final 0 refl (reads_none reads)
  summarise_exact _ _ (SwapFinal p x old new verdict swap) was now =
      let known = (phase_known w before (IsAt p (Copied x old new)) was).0.0 in
      let named = held_named (index_view w) s range x old before.sound known.1 swap.tuple.was known.2 swap.free known.0 in
      ((λ one. ((new, (x, swap.frame.map.entry range ∙ named, swap.tuple.now), united_final p old new known.3), was_none _ was refl)), λ gets. refl)
  summarise_exact _ _ (SetFinal p x y old new sets same) was now =
      let known = (phase_known w before (IsAt p (Moving x y old new)) was).0.0 in
      ((λ one. ((new, (y, sets.entry.now, sets.frame.tuples.tuple y ∙ known.4), united_final p old new known.6), was_none _ was refl)), λ gets. refl)
  summarise_exact _ _ (DropOld x drops) was now = no_final 0 refl (drops_none x drops)

module _ (s range : ℕ) (w v : IndexState) where
  -- by the step the range's entry leaves the map
  abbrev pub LosesEntry : Type 0
  LosesEntry = (w.entry range ≢ None) × (v.entry range ≡ None)

  entry_stays : (count : ℕ) → count ≡ 0 → v.entry range ≡ w.entry range → (count ≡ 1) ↔ LosesEntry
  entry_stays count none same = ((λ is. absurd (not_both count none is)), λ loses. absurd (loses.0 (sym same ∙ loses.1)))

  pub desummarise_exact : (old : Phase) (new : Statement) (step : DesummariseStep s range (index_view w) (index_view v) old new)
      → (desummarise_count step ≡ 1) ↔ LosesEntry
  desummarise_exact _ _ (ClearMap x named reads) = entry_stays 0 refl (reads.frame.map.entry range)
  desummarise_exact _ _ (ClearNone none reads) = entry_stays 0 refl (reads.frame.map.entry range)
  desummarise_exact _ _ (Clear x verdict clears these) =
      ((λ one. ((λ none. none-some _ (sym none ∙ clears.entry.was)), clears.entry.now)), λ loses. refl)
  desummarise_exact _ _ (ClearAgain x verdict reads) = entry_stays 0 refl (reads.frame.map.entry range)
  desummarise_exact _ _ (DropCleared x drops) = entry_stays 0 refl (drops.frame.map.entry range)

-- the tuples of a page that a sweep drops are those that the map doesn't name
pub swept_exact : (s page : ℕ) (w v : IndexView) → SweepsTuples s w v page (λ x. (x.block ≡ page) × IsUnnamed w x) → (x : Spot) → x.block ≡ page
    → HasGone (w.tuple x) (v.tuple x) ↔ IsUnnamed w x
swept_exact s page w v sweeps x on = (
  (λ gone. elim (sweeps.places x) [ inl same ↦ absurd (gone.0 (sym same.0 ∙ gone.1)) | inr swept ↦ swept.1.1 ]),
  λ unnamed. ((λ none. none-some _ (sym none ∙ unnamed.1)), (sweeps.gone x (on, unnamed)).0),
)
