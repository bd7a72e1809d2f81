-- the facts of a store after a call
use Rattle.std.proofs.Common.{◌≡◌, ◌≢◌, ⊎_elim, ℕ, Bool, List, sym, ap, subst, ◌∙◌}
use Rattle.std.specs.Prelude.{IsTrue, Option, Some, unwrap_or}
use Rattle.block_model.specs.declared.place.Place.{Place}
use Rattle.block_model.specs.NumberMaps.{same_Some}
use Rattle.store_layout.specs.DiskLayout.{DiskLayout, IsPlace}
use Rattle.store_layout.specs.PagesFillDisk.{PagesFillDisk}
use Rattle.disk_trait.specs.Told.{Told}
use Rattle.wal_record.specs.Changes.{LoggedChange}
use Rattle.page_map.specs.declared.facts.PageFacts.{PageFacts}
use Rattle.page_map.specs.Changed.{Changed}
use Rattle.page_map.specs.Forms.{IsPageIn, form_of}
use Rattle.page_map.specs.PageFacts.{facts_on}
use Rattle.page_map.specs.PageMap.{PageMap, page_at}
use Rattle.page_map.proofs.FactsKept.{OneList}
use Rattle.recovery.specs.Opens.{disk_page}
use Rattle.recovery.specs.PageNumbers.{page_number}
use Rattle.recovery.specs.ShownLaws.{one_number, shown_at}
use Rattle.recovery.specs.ShownPages.{content_at, shown_pages}
use Rattle.page_store.specs.Contents.{AddsOnly, HoldsAlike}
use Rattle.page_store.proofs.FactSteps.{known_still, noted_known}
use Rattle.page_store.specs.KeptPages.{KeptPages}
use Rattle.page_store.specs.LoggedState.{LoggedState, store_of}
use Rattle.page_store.specs.Noted.{noted}
use Rattle.page_store.specs.StoreFacts.{AreFactsOf, AreKnown}

module _ {D : Type 0} (told : D → Told) (old new : LoggedState D) (facts : List (List PageFacts)) (known : AreKnown told old facts) where
  moved : (layout : new.layout ≡ old.layout) → (told new.disk).tells_contents ≡ (told old.disk).tells_contents → (l : List (List PageFacts)) → AreFactsOf (told old.disk).tells_contents old.layout new.pool (store_of told new).pages l → AreKnown told new l
  moved layout tells l are =
      subst (λ (b : Bool). AreFactsOf b new.layout new.pool (store_of told new).pages l) (sym tells)
      (subst (λ (d : DiskLayout). AreFactsOf (told old.disk).tells_contents d new.pool (store_of told new).pages l) (sym layout) are)

  -- nothing else is held
  pub known_kept : KeptPages told (store_of told old) (store_of told new) → HoldsAlike old.pool new.pool → AreKnown told new facts
  known_kept keeps alike =
      moved keeps.leaves.layout keeps.leaves.tells facts
      (known_still old.layout (told old.disk).tells_contents old.pool new.pool (store_of told old).pages (store_of told new).pages facts known keeps.pages (λ number b there. sym (alike number) ∙ there))

  module _ (fill : PagesFillDisk old.layout) (place : Place) (is : IsPlace old.layout place) (one : OneList) (bytes : List ℕ) (passes : IsPageIn old.layout place.relation bytes) (there : content_at new.pool (page_number old.layout place) ≡ Some bytes) (layout : new.layout ≡ old.layout) where
    shown_there : page_at (store_of told new).pages place ≡ bytes
    shown_there =
        subst (λ (d : DiskLayout). page_at (shown_pages d new.pool (told new.disk).contents) place ≡ bytes) (sym layout)
        (shown_at old.layout new.pool (told new.disk).contents place is ∙ ap (λ (o : Option (List ℕ)). unwrap_or o (disk_page old.layout (told new.disk).contents place)) there)

    elsewhere : (q : Place) → IsPlace old.layout q → q ≢ place → page_number old.layout q ≢ page_number old.layout place
    elsewhere q isq apart same = apart (one_number old.layout fill q place isq is same)

    -- one page is held besides, and noted
    pub known_added : KeptPages told (store_of told old) (store_of told new) → AddsOnly (page_number old.layout place) old.pool new.pool → AreKnown told new (noted facts place (facts_on (form_of old.layout place.relation) bytes))
    known_added keeps adds =
        moved keeps.leaves.layout keeps.leaves.tells (noted facts place (facts_on (form_of old.layout place.relation) bytes))
        (noted_known old.layout (told old.disk).tells_contents old.pool new.pool (store_of told old).pages (store_of told new).pages facts place bytes known is one passes (λ tells. shown_there)
        (λ tells q isq apart. ap (λ (m : PageMap). page_at m q) (keeps.pages tells))
        (λ b got. same_Some b bytes (sym got ∙ there))
        (λ q b isq apart got. ⊎_elim (λ (same : page_number old.layout q ≡ page_number old.layout place). absurd (elsewhere q isq apart same)) (λ was. was) (adds (page_number old.layout q) b got)))

    -- one page is changed, and noted
    pub known_changed : (changes : List LoggedChange) → (told new.disk).tells_contents ≡ (told old.disk).tells_contents → (IsTrue (told old.disk).tells_contents → Changed old.layout place changes (store_of told old).pages (store_of told new).pages)
        → ((number : ℕ) → number ≢ page_number old.layout place → content_at new.pool number ≡ content_at old.pool number) → AreKnown told new (noted facts place (facts_on (form_of old.layout place.relation) bytes))
    known_changed changes tells changed others =
        moved layout tells (noted facts place (facts_on (form_of old.layout place.relation) bytes))
        (noted_known old.layout (told old.disk).tells_contents old.pool new.pool (store_of told old).pages (store_of told new).pages facts place bytes known is one passes (λ now. shown_there)
        (λ now q isq apart. (changed now).others q apart)
        (λ b got. same_Some b bytes (sym got ∙ there))
        (λ q b isq apart got. sym (others (page_number old.layout q) (elsewhere q isq apart)) ∙ got))
