-- a page that was judged
use Rattle.std.proofs.Common.{◌≡◌, ℕ, List, get_or, sym, ◌∙◌, ap, subst}
use Rattle.std.proofs.lemmas.Bool.{eq-eqb}
use Rattle.std.specs.Prelude.{None, Some, IsTrue}
use Rattle.std.specs.Option.{option_map}
use Rattle.block_model.specs.declared.limits.TheConstants.{PAGE_SIZE}
use Rattle.block_model.specs.declared.place.Place.{Place}
use Rattle.block_model.specs.NumberMaps.{none_Some, same_Some}
use Rattle.byte_fields.specs.Fields.{field_at}
use Rattle.store_layout.specs.DiskLayout.{DiskLayout, IsPlace, page_offset}
use Rattle.store_layout.specs.PagesFillDisk.{PagesFillDisk}
use Rattle.disk_trait.specs.Told.{Told}
use Rattle.page_layout.specs.declared.page.Form.{Form}
use Rattle.page_layout.specs.PageContents.{IsPageOf}
use Rattle.page_map.specs.declared.facts.PageFacts.{PageFacts}
use Rattle.page_map.specs.Forms.{IsPageIn, form_of}
use Rattle.page_map.specs.PageFacts.{facts_on, no_facts}
use Rattle.page_map.specs.PageMap.{unstarted_page}
use Rattle.page_map.proofs.PageKinds.{kind_unstarted, unstarted_facts, unstarted_is}
use Rattle.buffer_pool.specs.PoolState.{HeldPage, PoolState, held_at}
use Rattle.recovery.specs.PageNumbers.{page_number}
use Rattle.recovery.specs.ShownPages.{shown_page}
use Rattle.recovery.specs.PooledPages.{HoldsDurablePages}
use Rattle.recovery.proofs.Places.{pooled_absent, pooled_held, read_there}
use Rattle.recovery.proofs.Pooling.{held_checked, lent_held, none_held}
use Rattle.recovery.specs.Judged.{IsJudged}
use Rattle.recovery.specs.PageCauses.{HasPageAmiss}

-- the page that was read is the one that is shown
pub shown_read : (layout : DiskLayout) (pool : PoolState) (place : Place) (number : ℕ) → number ≡ page_number layout place → (contents page : List ℕ) (offset : ℕ) → None ≡ option_map (λ (held : HeldPage). held.content) (held_at pool number)
    → offset ≡ page_offset layout place → page ≡ field_at contents offset PAGE_SIZE → page ≡ shown_page layout pool contents place
shown_read layout pool place number at contents page offset none begins read =
    read_there layout place contents page offset begins read ∙ sym (pooled_absent layout contents pool place (ap (held_at pool) (sym at) ∙ none_held (held_at pool number) none))

-- a read of the disk before changes nothing of it
pub judged_before : (layout : DiskLayout) (pool : PoolState) (place : Place) (facts : PageFacts) (old mid : Told) → mid ≡ record old { faults = mid.faults } → IsJudged layout pool mid place facts → IsJudged layout pool old place facts
judged_before layout pool place facts old mid same j =
    let k : IsJudged layout pool (record old { faults = mid.faults }) place facts = subst (λ (t : Told). IsJudged layout pool t place facts) same j in
    record { page = k.page; passes = k.passes; facts_are = k.facts_are; held = k.held; shown = k.shown }

pub judged_after : (layout : DiskLayout) (pool : PoolState) (place : Place) (facts : PageFacts) (old mid : Told) → mid ≡ record old { faults = mid.faults } → IsJudged layout pool old place facts → IsJudged layout pool mid place facts
judged_after layout pool place facts old mid same j =
    subst (λ (t : Told). IsJudged layout pool t place facts) (sym same) (record { page = j.page; passes = j.passes; facts_are = j.facts_are; held = j.held; shown = j.shown })

-- the facts of a page that isn't started
pub unstarted_judged : (layout : DiskLayout) (pool : PoolState) (disk : Told) (place : Place) (facts : PageFacts) → IsJudged layout pool disk place facts → facts.kind ≡ 0 → facts ≡ no_facts
unstarted_judged layout pool disk place facts j zero =
    let form = form_of layout place.relation in
    let kind : get_or j.page 0 0 ≡ 0 = sym (ap (λ (f : PageFacts). f.kind) j.facts_are) ∙ zero in
    let zeros : j.page ≡ unstarted_page = kind_unstarted form j.page j.passes (eq-eqb (get_or j.page 0 0) 0 kind) ∙ sym unstarted_is in
    j.facts_are ∙ ap (facts_on form) zeros ∙ unstarted_facts form

module _ (layout : DiskLayout) (fill : PagesFillDisk layout) (pool : PoolState) (place : Place) (is : IsPlace layout place) (all : HoldsDurablePages layout pool) (form : Form) (same : form ≡ form_of layout place.relation) (number : ℕ) (at : number ≡ page_number layout place) where
  pub held_passes : (page : List ℕ) → Some page ≡ option_map (λ (held : HeldPage). held.content) (held_at pool number) → IsPageOf form page
  held_passes page lent =
      let h = lent_held (held_at pool number) page lent in
      subst (λ (f : Form). IsPageOf f page) (sym same) (subst (IsPageIn layout place.relation) (sym h.2) (held_checked layout fill pool place h.0 is all (ap (held_at pool) (sym at) ∙ h.1)))

  pub judged_held : (disk : Told) (page : List ℕ) (facts : PageFacts) → Some page ≡ option_map (λ (held : HeldPage). held.content) (held_at pool number) → facts ≡ facts_on form page → IsJudged layout pool disk place facts
  judged_held disk page facts lent facts_are =
      let h = lent_held (held_at pool number) page lent in
      let got : held_at pool (page_number layout place) ≡ Some h.0 = ap (held_at pool) (sym at) ∙ h.1 in
      record {
        page = page;
        passes = subst (λ (f : Form). IsPageOf f page) same (held_passes page lent);
        facts_are = facts_are ∙ ap (λ (f : Form). facts_on f page) same;
        held = λ held there. h.2 ∙ ap (λ (p : HeldPage). p.content) (same_Some h.0 held (sym got ∙ there));
        shown = λ tells. h.2 ∙ sym (pooled_held layout disk.contents pool place h.0 got);
      }

  pub judged_read : (disk : Told) (page : List ℕ) (facts : PageFacts) (offset : ℕ) → None ≡ option_map (λ (held : HeldPage). held.content) (held_at pool number) → offset ≡ page_offset layout place
      → (IsTrue disk.tells_contents → page ≡ field_at disk.contents offset PAGE_SIZE) → IsPageOf form page → facts ≡ facts_on form page → IsJudged layout pool disk place facts
  judged_read disk page facts offset none begins read passed facts_are =
      let absent : held_at pool (page_number layout place) ≡ None = ap (held_at pool) (sym at) ∙ none_held (held_at pool number) none in
      record {
        page = page;
        passes = subst (λ (f : Form). IsPageOf f page) same passed;
        facts_are = facts_are ∙ ap (λ (f : Form). facts_on f page) same;
        held = λ held there. absurd (none_Some held (sym absent ∙ there));
        shown = λ tells. shown_read layout pool place number at disk.contents page offset none begins (read tells);
      }

  pub read_amiss : (contents page : List ℕ) (offset : ℕ) → None ≡ option_map (λ (held : HeldPage). held.content) (held_at pool number) → offset ≡ page_offset layout place → page ≡ field_at contents offset PAGE_SIZE
      → (IsPageOf form page → ⊥) → HasPageAmiss layout pool contents offset
  read_amiss contents page offset none begins read refused = record {
    place = place;
    is = is;
    begins = begins;
    fails = λ passes. refused (subst (IsPageOf form) (sym (shown_read layout pool place number at contents page offset none begins read)) (subst (λ (f : Form). IsPageOf f (shown_page layout pool contents place)) (sym same) passes));
  }
