-- the facts of pages after a step
use Rattle.std.proofs.Common.{◌≡◌, ◌≢◌, ⊎_elim, ℕ, ◌<◌, Bool, List, [], length, map, set, get_or, refl, sym, ap, subst, ◌∙◌, arith}
use Rattle.std.specs.Prelude.{IsTrue, Option, None, Some}
use Rattle.std.proofs.Math.Seq.{map-set_same}
use Rattle.std.proofs.lemmas.Bool.{cases_eq}
use Rattle.std.proofs.lemmas.List.{get_or-map, get_or-set_other, get_or-set_same, length-map, length-set, set-get_or}
use Rattle.block_model.specs.declared.place.Place.{Place}
use Rattle.store_layout.specs.DiskLayout.{DiskLayout, IsPlace, relation_blocks}
use Rattle.page_layout.specs.declared.page.Form.{Form}
use Rattle.page_layout.specs.PageContents.{IsPageOf}
use Rattle.page_layout.specs.SlotsOnPage.{lowest_on}
use Rattle.buffer_pool.specs.PoolState.{PoolState}
use Rattle.page_map.specs.declared.facts.PageFacts.{PageFacts}
use Rattle.page_map.specs.Forms.{IsPageIn, form_of}
use Rattle.page_map.specs.PageFacts.{facts_in, facts_on, no_facts}
use Rattle.page_map.specs.PageMap.{PageMap, block_limit, page_at}
use Rattle.page_map.proofs.FactsKept.{OneList}
use Rattle.page_map.proofs.Rooms.{free_there, slot_there}
use Rattle.recovery.specs.PageNumbers.{page_number}
use Rattle.recovery.specs.ShownLaws.{same_place}
use Rattle.recovery.specs.ShownPages.{content_at}
use Rattle.page_store.specs.Noted.{noted}
use Rattle.page_store.specs.StoreFacts.{AreFactsOf, IsFactPlace, IsSlotOf, facts_at}

-- the place of each page of the layout has facts
pub fact_place : (layout : DiskLayout) (facts : List (List PageFacts)) → map length facts ≡ relation_blocks layout → (place : Place) → IsPlace layout place → IsFactPlace facts place
fact_place layout facts whole place is =
    let many : length facts ≡ length (relation_blocks layout) = sym (length-map facts (length {A = PageFacts})) ∙ ap (length {A = ℕ}) whole in
    let below : place.relation < length facts = omega (arith, many, is.relation) in
    let limit : length (get_or facts place.relation []) ≡ block_limit layout place.relation = sym (get_or-map (length {A = PageFacts}) facts place.relation [] 0 below) ∙ ap (λ (l : List ℕ). get_or l place.relation 0) whole in
    record { relation = below; block = omega (arith, limit, is.block) }

-- what is noted

pub noted_same : (facts : List (List PageFacts)) (place : Place) (found : PageFacts) → facts_at facts place ≡ found → facts ≡ noted facts place found
noted_same facts place found is = sym (
    ap (noted facts place) (sym is)
    ∙ ap (set facts place.relation) (set-get_or (get_or facts place.relation []) place.block no_facts)
    ∙ set-get_or facts place.relation []
    )

noted_here : (facts : List (List PageFacts)) (place : Place) (one : PageFacts) → IsFactPlace facts place → facts_at (noted facts place one) place ≡ one
noted_here facts place one is =
    ap (λ (l : List PageFacts). facts_in l place.block) (get_or-set_same facts place.relation (set (get_or facts place.relation []) place.block one) [] is.relation)
    ∙ get_or-set_same (get_or facts place.relation []) place.block one no_facts is.block

noted_there : (facts : List (List PageFacts)) (place other : Place) (one : PageFacts) → IsFactPlace facts place → other ≢ place → facts_at (noted facts place one) other ≡ facts_at facts other
noted_there facts place other one is apart = ⊎_elim
    (λ (same : other.relation ≡ place.relation).
    let block : (other.block ≡ place.block → ⊥) = λ e. apart (λ i. record { relation = same i; block = e i }) in
    ap (λ (r : ℕ). facts_in (get_or (set facts place.relation (set (get_or facts place.relation []) place.block one)) r []) other.block) same
    ∙ ap (λ (l : List PageFacts). facts_in l other.block) (get_or-set_same facts place.relation (set (get_or facts place.relation []) place.block one) [] is.relation)
    ∙ get_or-set_other (get_or facts place.relation []) place.block other.block one no_facts (λ e. block e)
    ∙ ap (λ (r : ℕ). facts_in (get_or facts r []) other.block) (sym same))
    (λ (differ : other.relation ≢ place.relation). ap (λ (l : List PageFacts). facts_in l other.block) (get_or-set_other facts place.relation other.relation (set (get_or facts place.relation []) place.block one) [] differ))
    (cases_eq other.relation place.relation)

noted_whole : (facts : List (List PageFacts)) (place : Place) (one : PageFacts) → map length (noted facts place one) ≡ map length facts
noted_whole facts place one = map-set_same (length {A = PageFacts}) facts place.relation (set (get_or facts place.relation []) place.block one) [] (length-set (get_or facts place.relation []) place.block one)

pub slot_of_page : OneList → (form : Form) (page : List ℕ) → IsPageOf form page → IsSlotOf form (lowest_on form page)
slot_of_page one form page of_form = by (lowest_on form page) refl
  where
    by : (o : Option ℕ) → lowest_on form page ≡ o → IsSlotOf form o
    by None lowest = tt
    by (Some slot) lowest = slot_there form page slot (free_there one form page slot of_form lowest)

-- the facts of one page are noted

pub noted_known : (layout : DiskLayout) (tells : Bool) (old new : PoolState) (pages after : PageMap) (facts : List (List PageFacts)) (place : Place) (bytes : List ℕ)
    → AreFactsOf tells layout old pages facts → IsPlace layout place → OneList → IsPageIn layout place.relation bytes
    → (IsTrue tells → page_at after place ≡ bytes) → (IsTrue tells → (q : Place) → IsPlace layout q → q ≢ place → page_at after q ≡ page_at pages q)
    → ((b : List ℕ) → content_at new (page_number layout place) ≡ Some b → b ≡ bytes)
    → ((q : Place) (b : List ℕ) → IsPlace layout q → q ≢ place → content_at new (page_number layout q) ≡ Some b → content_at old (page_number layout q) ≡ Some b)
    → AreFactsOf tells layout new after (noted facts place (facts_on (form_of layout place.relation) bytes))
noted_known layout tells old new pages after facts place bytes known is one passes here others own rest =
    let at = fact_place layout facts known.whole place is in
    let now = noted_here facts place (facts_on (form_of layout place.relation) bytes) at in
    let kept = λ (q : Place) (apart : q ≢ place). noted_there facts place q (facts_on (form_of layout place.relation) bytes) at apart in
    record {
      whole = noted_whole facts place (facts_on (form_of layout place.relation) bytes) ∙ known.whole;
      held = λ q b isq there. ⊎_elim
          (λ (e : q ≡ place).
          ap (facts_at (noted facts place (facts_on (form_of layout place.relation) bytes))) e ∙ now
          ∙ ap (facts_on (form_of layout place.relation)) (sym (own b (ap (λ (p : Place). content_at new (page_number layout p)) (sym e) ∙ there)))
          ∙ ap (λ (p : Place). facts_on (form_of layout p.relation) b) (sym e))
          (λ (apart : q ≢ place). kept q apart ∙ known.held q b isq (rest q b isq apart there))
          (same_place q place);
      known = λ yes q isq. ⊎_elim
          (λ (e : q ≡ place).
          ap (facts_at (noted facts place (facts_on (form_of layout place.relation) bytes))) e ∙ now
          ∙ ap (facts_on (form_of layout place.relation)) (sym (here yes))
          ∙ ap (λ (p : Place). facts_on (form_of layout p.relation) (page_at after p)) (sym e))
          (λ (apart : q ≢ place). kept q apart ∙ known.known yes q isq ∙ ap (facts_on (form_of layout q.relation)) (sym (others yes q isq apart)))
          (same_place q place);
      slots = λ q isq. ⊎_elim
          (λ (e : q ≡ place). subst (λ (p : Place). IsSlotOf (form_of layout p.relation) (facts_at (noted facts place (facts_on (form_of layout place.relation) bytes)) p).lowest) (sym e)
          (subst (λ (f : PageFacts). IsSlotOf (form_of layout place.relation) f.lowest) (sym now) (slot_of_page one (form_of layout place.relation) bytes passes)))
          (λ (apart : q ≢ place). subst (λ (f : PageFacts). IsSlotOf (form_of layout q.relation) f.lowest) (sym (kept q apart)) (known.slots q isq))
          (same_place q place);
    }

-- where nothing else is held and the pages stay, the facts stay
pub known_still : (layout : DiskLayout) (tells : Bool) (old new : PoolState) (pages after : PageMap) (facts : List (List PageFacts)) → AreFactsOf tells layout old pages facts → (IsTrue tells → after ≡ pages)
    → ((number : ℕ) (b : List ℕ) → content_at new number ≡ Some b → content_at old number ≡ Some b) → AreFactsOf tells layout new after facts
known_still layout tells old new pages after facts known same less = record {
  whole = known.whole;
  held = λ place b is there. known.held place b is (less (page_number layout place) b there);
  known = λ yes place is. known.known yes place is ∙ ap (λ (m : PageMap). facts_on (form_of layout place.relation) (page_at m place)) (sym (same yes));
  slots = known.slots;
}
