-- what a summarise has of an index that is kept
use Rattle.std.proofs.Common.{◌≡◌, inl, inr, ⊎_elim, ℕ, Option, Some, refl, sym, subst, ◌∙◌}
use Rattle.std.proofs.lemmas.Option.{none-some}
use Rattle.block_model.specs.declared.place.Spot.{Spot}
use Rattle.store_layout.specs.DiskLayout.{DiskLayout}
use Rattle.page_map.specs.PageMap.{PageMap}
use Rattle.coverage.specs.GoesOn.{IsHeld}
use Rattle.coverage.specs.IndexView.{IndexTuple, IsTupleOf}
use Rattle.coverage.specs.IsCovered.{IndexState, IsIndexKept, index_view}
use Rattle.coverage.specs.Knowing.{Knows}
use Rattle.coverage.specs.PageOrder.{KnowsPages}
use Rattle.coverage.specs.Statements.{Maintaining, Statement}
use Rattle.index_contents.specs.IndexContents.{IndexContents, contents}
use Rattle.index_steps.specs.IndexTuples.{IndexShape, shape_of}
use Rattle.index_steps.specs.Readings.{IsMisnamed, IsMisread}
use Rattle.index_steps.specs.ShownIndex.{Shows}
use Rattle.summarise_core.specs.declared.range_stage.Stage.{Stage}
use Rattle.summarise_core.specs.declared.range_stage.Stage.TheVariants as stages
use Rattle.index_steps.specs.GrowthSteps.{phase_of as growth_phase}
use Rattle.index_steps.specs.StepCauses.{DamageAt as DamageToGrow, IsReady as IsReadyToGrow}
use Rattle.summarise_core.specs.StepCauses.{DamageAt, IsReady}
use Rattle.summarise_core.specs.SummariseHands.{SummariseHand}
use Rattle.summarise_core.specs.SummariseSteps.{phase_at}

module _ (shape : IndexShape) (c : IndexContents) (lock : ℕ → Option ℕ) (w : IndexState) (s range : ℕ) (hand : SummariseHand) (shows : Shows shape c lock (index_view w)) (kept : IsIndexKept w) where
  knows_at : (statement : Statement) → w.statement s ≡ statement → Knows (index_view w) s statement
  knows_at statement is = subst (λ (q : Statement). Knows (index_view w) s q) is (kept.knows s)

  pages_at : (statement : Statement) → w.statement s ≡ statement → KnowsPages (index_view w) s statement
  pages_at statement is = subst (λ (q : Statement). KnowsPages (index_view w) s q) is (kept.knows_pages s)

  pub ready_at : (w.statement s ≡ Maintaining range (growth_phase shape hand.growth) → IsReadyToGrow shape c hand.growth.stage) → (stage : Stage) → w.statement s ≡ Maintaining range (phase_at shape hand stage) → IsReady shape c range hand.growth.stage stage
  ready_at grows stages.Map is = tt
  ready_at grows (stages.Tuple x) is = tt
  ready_at grows stages.Place is = grows is
  ready_at grows (stages.Name x) is =
      let knows = knows_at (Maintaining range (phase_at shape hand (stages.Name x))) is in
      let pages = pages_at (Maintaining range (phase_at shape hand (stages.Name x))) is in
      record { view = index_view w; lock = lock; shows = shows; ordered = kept.ordered; none = knows.1.0; within = pages.0; put = (knows.1.1.1.0, knows.1.1.1.1) }
  ready_at grows stages.Extent is = tt
  ready_at grows stages.Pass is = tt
  ready_at grows (stages.Copy x) is = tt
  ready_at grows (stages.Swap x) is = tt
  ready_at grows (stages.Set x y) is =
      let knows = knows_at (Maintaining range (phase_at shape hand (stages.Set x y))) is in
      record { view = index_view w; lock = lock; shows = shows; ordered = kept.ordered; named = knows.1.0.2; put = (_, knows.1.0.4) }
  ready_at grows (stages.Drop x) is = tt
  ready_at grows stages.Had is = tt
  ready_at grows stages.Made is = tt

  -- a tuple of the range at a place that the map named is one of the index
  held_is_one : (x : Spot) → IsHeld (index_view w) range x → (t : IndexTuple) → w.tuple x ≡ Some t → t.range ≡ range → IsTupleOf (index_view w) t
  held_is_one x held t there of = elim (kept.sound.formed x t there) [
    | inl formed ↦ formed
    | inr unnamed ↦
        let left = kept.sound.unnamed_tuples x unnamed in
        absurd (⊎_elim (λ (named : w.entry range ≡ Some x). left.unnamed range named) (λ (loose : (n : ℕ) × ((index_view w).loose n ≡ Some x)). left.apart loose.0 loose.1) (held t there of))
  ]

module _ (layout : DiskLayout) (pages : PageMap) (index : ℕ) (lock : ℕ → Option ℕ) (w : IndexState) (s range : ℕ) (hand : SummariseHand) (shows : Shows (shape_of layout index) (contents layout pages index) lock (index_view w)) (kept : IsIndexKept w)
    (misnamed : IsMisnamed (contents layout pages index) range → ⊥)
    (misread : (x : Spot) → ((t : IndexTuple) → w.tuple x ≡ Some t → t.range ≡ range → IsTupleOf (index_view w) t) → IsMisread (shape_of layout index) (contents layout pages index) range x → ⊥)
  where
    abbrev shape : IndexShape
    shape = shape_of layout index

    abbrev c : IndexContents
    c = contents layout pages index

    held : (x : Spot) → IsHeld (index_view w) range x → (t : IndexTuple) → w.tuple x ≡ Some t → t.range ≡ range → IsTupleOf (index_view w) t
    held = held_is_one shape c lock w s range hand shows kept

    knows : (stage : Stage) → w.statement s ≡ Maintaining range (phase_at shape hand stage) → Knows (index_view w) s (Maintaining range (phase_at shape hand stage))
    knows stage is = knows_at shape c lock w s range hand shows kept (Maintaining range (phase_at shape hand stage)) is

    -- no step finds damage
    pub sound_at : (stage : Stage) → (stage ≡ stages.Place → w.statement s ≡ Maintaining range (growth_phase shape hand.growth) → DamageToGrow layout pages index hand.growth.stage → ⊥) → w.statement s ≡ Maintaining range (phase_at shape hand stage) → DamageAt layout pages index range hand stage → ⊥
    sound_at stages.Map grows is damage = misnamed damage
    sound_at (stages.Tuple x) grows is damage = misread x (held x (knows (stages.Tuple x) is).1.1) damage
    sound_at stages.Place grows is damage = grows refl is damage.1
    sound_at (stages.Name x) grows is damage = damage
    sound_at stages.Extent grows is damage = damage
    sound_at stages.Pass grows is (all, inl damage) = misnamed damage
    sound_at stages.Pass grows is (all, inr none) =
        let placeholder = (pages_at shape c lock w s range hand shows kept (Maintaining range (phase_at shape hand stages.Pass)) is).1 in
        none-some placeholder.0 (sym none ∙ sym (shows.entry range) ∙ placeholder.2)
    sound_at (stages.Copy x) grows is damage = misread x (held x (knows (stages.Copy x) is).1.0.1) damage
    sound_at (stages.Swap x) grows is damage = damage
    sound_at (stages.Set x y) grows is damage = damage
    sound_at (stages.Drop x) grows is damage = damage
    sound_at stages.Had grows is damage = damage
    sound_at stages.Made grows is damage = damage
