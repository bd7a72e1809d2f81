-- laws of what the images at the moments of calls open to, where each call passes only the pages that it begins with
use Rattle.std.specs.Prelude.{◌≡◌, ◌⊎◌}
use Rattle.std.proofs.Common.{◌∙◌, ⊎_elim}
use Rattle.disk_trait.specs.Told.{Told}
use Rattle.page_map.specs.Keeps.{Keeps}
use Rattle.page_map.specs.PageMap.{PageMap, View}
use Rattle.page_store.specs.Survives.{Survives, survives_then, survives_weaker}

-- a store to which nothing happens
pub survives_still : {D : Type 0} (told : D → Told) (store : View D) → Survives told (λ pages. ⊥) store store → Survives told (λ pages. pages ≡ store.pages) store store
survives_still told store stays = survives_weaker told (λ pages. ⊥) store store stays (λ pages. pages ≡ store.pages) (λ tells pages none. absurd none)

-- a call that changes no page, and then any call
pub survives_on : {D : Type 0} (told : D → Told) (old mid new : View D) → Keeps told old mid → Survives told (λ pages. pages ≡ old.pages) old mid → Survives told (λ pages. pages ≡ mid.pages) mid new
    → Survives told (λ pages. pages ≡ old.pages) old new
survives_on told old mid new kept first second =
    let both : Survives told (λ (pages : PageMap). (pages ≡ old.pages) ⊎ (pages ≡ mid.pages)) old new = survives_then told (λ pages. pages ≡ old.pages) (λ pages. pages ≡ mid.pages) old mid new kept.leaves.layout first second in
    survives_weaker told (λ pages. (pages ≡ old.pages) ⊎ (pages ≡ mid.pages)) old new both (λ pages. pages ≡ old.pages)
    (λ tells pages either. ⊎_elim (λ (same : pages ≡ old.pages). same) (λ (same : pages ≡ mid.pages). same ∙ kept.pages tells) either)
