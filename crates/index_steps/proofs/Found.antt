-- what a count finds behind the map
use Rattle.std.proofs.Common.{◌≡◌, ℕ, Option, None, Some, List, refl, sym, subst, ◌∙◌, arith}
use Rattle.std.specs.Prelude.{replicate}
use Rattle.store_layout.specs.DiskLayout.{DiskLayout}
use Rattle.disk_trait.specs.Told.{Told}
use Rattle.page_map.specs.Keeps.{Keeps, Tells}
use Rattle.page_map.specs.PageMap.{PageMap, View}
use Rattle.index_layout.specs.declared.format.TheConstants.{MAP_ENTRIES}
use Rattle.index_contents.specs.IndexContents.{index_page}
use Rattle.index_contents.specs.MapLaws.{is_of_map}
use Rattle.index_steps.specs.declared.next.NextPage.{NextPage}
use Rattle.index_steps.specs.declared.next.PageState.{PageState}
use Rattle.index_steps.specs.declared.next.PageState.TheVariants as states
use Rattle.index_steps.specs.NextPages.{IsEmptyMap, IsNext, IsOfState, StandsNext}
use Rattle.index_steps.specs.StepCauses.{HasLeftOver}

-- a call that changes no page leaves what stands there
pub stands_still : {D : Type 0} (told : D → Told) (index block : ℕ) (state : PageState) (old mid : View D) → Keeps told old mid → Tells told old → StandsNext old.layout old.pages index block state → StandsNext mid.layout mid.pages index block state
stands_still told index block state old mid kept tells stands =
    subst (λ (l : DiskLayout). StandsNext l mid.pages index block state) (sym kept.leaves.layout) (subst (λ (m : PageMap). StandsNext old.layout m index block state) (sym (kept.pages tells)) stands)

-- no other page is left over
only_left : (page : List ℕ) (state : PageState) → IsOfState page state → IsEmptyMap page → (state ≡ states.LeftOver → ⊥) → ⊥
only_left page states.Unstarted is empty other = let e : 0 ≡ 4 = sym is ∙ is_of_map (replicate MAP_ENTRIES None) page empty in omega (arith, e)
only_left page states.LeftOver is empty other = other refl
only_left page states.Regular is empty other = let e : 5 ≡ 4 = sym is ∙ is_of_map (replicate MAP_ENTRIES None) page empty in omega (arith, e)
only_left page states.Emptying is empty other = let e : 6 ≡ 4 = sym is ∙ is_of_map (replicate MAP_ENTRIES None) page empty in omega (arith, e)

pub not_left_over : (layout : DiskLayout) (pages : PageMap) (index : ℕ) (next : Option NextPage) → IsNext layout pages index next → ((page : NextPage) → next ≡ Some page → page.state ≡ states.LeftOver → ⊥) → HasLeftOver layout pages index → ⊥
not_left_over layout pages index None past other left = omega (arith, past, left.below)
not_left_over layout pages index (Some page) stands other left =
    only_left (index_page layout pages index page.block) page.state stands.is (subst (λ (b : ℕ). IsEmptyMap (index_page layout pages index b)) (sym stands.next) left.is) (other page refl)

pub left_over_there : (layout : DiskLayout) (pages : PageMap) (index block : ℕ) (next : Option NextPage) → next ≡ Some (record { block = block; state = states.LeftOver }) → IsNext layout pages index next → StandsNext layout pages index block states.LeftOver
left_over_there layout pages index block next is stands = subst (IsNext layout pages index) is stands
