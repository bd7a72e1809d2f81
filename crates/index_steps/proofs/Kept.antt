-- what a growth has of an index that is kept
use Rattle.std.proofs.Common.{◌≡◌, ℕ, ◌<◌, Option, sym, subst, ◌∙◌}
use Rattle.store_layout.specs.DiskLayout.{DiskLayout}
use Rattle.page_map.specs.PageMap.{PageMap}
use Rattle.index_contents.specs.PageOrder.{IsIndexInOrder}
use Rattle.coverage.specs.IndexView.{Mapping, PageKind, Pages, Unstarted, next_map_page}
use Rattle.coverage.specs.IsCovered.{IndexState, IsIndexKept, index_view}
use Rattle.coverage.specs.Knowing.{Knows}
use Rattle.coverage.specs.PageOrder.{KnowsPages}
use Rattle.coverage.specs.Statements.{Maintaining, Statement}
use Rattle.index_contents.specs.IndexContents.{IndexContents, contents, index_page}
use Rattle.index_steps.specs.IndexTuples.{IndexShape}
use Rattle.index_steps.specs.ShownIndex.{Shows}
use Rattle.index_steps.specs.NextPages.{IsNextDamaged}
use Rattle.index_steps.specs.declared.growth_stage.Stage.{Stage}
use Rattle.index_steps.specs.declared.growth_stage.Stage.TheVariants as stages
use Rattle.index_steps.specs.GrowthHands.{GrowthHand}
use Rattle.index_steps.specs.GrowthSteps.{phase_at}
use Rattle.index_steps.specs.StepCauses.{DamageAt, HasLeftOver, IsReady}

module _ (shape : IndexShape) (c : IndexContents) (lock : ℕ → Option ℕ) (w : IndexState) (s range : ℕ) (hand : GrowthHand) (shows : Shows shape c lock (index_view w)) (kept : IsIndexKept w) where
  knows_at : (statement : Statement) → w.statement s ≡ statement → Knows (index_view w) s statement
  knows_at statement is = subst (λ (q : Statement). Knows (index_view w) s q) is (kept.knows s)

  pages_at : (statement : Statement) → w.statement s ≡ statement → KnowsPages (index_view w) s statement
  pages_at statement is = subst (λ (q : Statement). KnowsPages (index_view w) s q) is (kept.knows_pages s)

  pub ready_at : (stage : Stage) → w.statement s ≡ Maintaining range (phase_at shape hand stage) → IsReady shape c stage
  ready_at stages.Judge is = tt
  ready_at stages.Count is = tt
  ready_at (stages.Set m x y) is =
      let knows = knows_at (Maintaining range (phase_at shape hand (stages.Set m x y))) is in
      record { view = index_view w; lock = lock; shows = shows; ordered = kept.ordered; named = knows.1.1.2; put = (_, knows.1.1.4) }
  ready_at (stages.Drop m x) is = tt

  not_unstarted : (kind : PageKind) → kind ≡ Mapping → kind ≡ Unstarted → ⊥
  not_unstarted kind is none = mapping_is_not (sym is ∙ none)
    where
      mapping_is_not : Mapping ≡ Unstarted → ⊥
      mapping_is_not e = cc

  -- the page that the growth made stands behind the map, below the limit
  pub made_there : w.statement s ≡ Maintaining range (phase_at shape hand stages.Count) → c.pages.kind (next_map_page c.pages) ≡ Mapping
  made_there is = subst (λ (pages : Pages). pages.kind (next_map_page pages) ≡ Mapping) shows.pages (pages_at (Maintaining range (phase_at shape hand stages.Count)) is).0

  pub made_below : w.statement s ≡ Maintaining range (phase_at shape hand stages.Count) → next_map_page c.pages < c.pages.limit
  made_below is =
      let kind = (pages_at (Maintaining range (phase_at shape hand stages.Count)) is).0 in
      subst (λ (pages : Pages). next_map_page pages < pages.limit) shows.pages (kept.ordered.below (next_map_page w.pages) (not_unstarted (w.pages.kind (next_map_page w.pages)) kind))

-- the laws of pages in order
abbrev pub IsNeverDamaged : DiskLayout → PageMap → ℕ → Type 0
IsNeverDamaged layout pages index = IsIndexInOrder layout.sizes.index_blocks (index_page layout pages index) → IsNextDamaged layout pages index → ⊥

abbrev pub IsLeftOverThere : DiskLayout → PageMap → ℕ → Type 0
IsLeftOverThere layout pages index = IsIndexInOrder layout.sizes.index_blocks (index_page layout pages index) → next_map_page (contents layout pages index).pages < layout.sizes.index_blocks
    → (contents layout pages index).pages.kind (next_map_page (contents layout pages index).pages) ≡ Mapping → HasLeftOver layout pages index

below_limit : (layout : DiskLayout) (pages : PageMap) (index n : ℕ) → n < (contents layout pages index).pages.limit → n < layout.sizes.index_blocks
unfolding contents
below_limit layout pages index n below = below

module _ (layout : DiskLayout) (pages : PageMap) (shape : IndexShape) (lock : ℕ → Option ℕ) (w : IndexState) (s range : ℕ) (hand : GrowthHand) (order : IsIndexInOrder layout.sizes.index_blocks (index_page layout pages hand.index))
    (shows : Shows shape (contents layout pages hand.index) lock (index_view w)) (kept : IsIndexKept w) (never : IsNeverDamaged layout pages hand.index) (there : IsLeftOverThere layout pages hand.index) where
  pub sound_at : (stage : Stage) → w.statement s ≡ Maintaining range (phase_at shape hand stage) → DamageAt layout pages hand.index stage → ⊥
  sound_at stages.Judge is damage = never order damage
  sound_at stages.Count is damage =
      let c = contents layout pages hand.index in
      damage (there order (below_limit layout pages hand.index (next_map_page c.pages) (made_below shape c lock w s range hand shows kept is)) (made_there shape c lock w s range hand shows kept is))
  sound_at (stages.Set m x y) is damage = damage
  sound_at (stages.Drop m x) is damage = damage
