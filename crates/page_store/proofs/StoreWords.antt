-- what a call leaves, in the words of every store of pages
use Rattle.std.proofs.Common.{◌≡◌, inl, inr, ⊎_elim, ℕ, List, refl, ap, ◌∙◌}
use Rattle.std.specs.Prelude.{Option, Some, unwrap_or, Result, Ok, Err, OnErr}
use Rattle.block_model.specs.declared.place.Place.{Place}
use Rattle.store_layout.specs.DiskLayout.{IsPlace}
use Rattle.disk_trait.specs.Told.{Told}
use Rattle.disk_trait.specs.ThroughoutLaws.{weaker}
use Rattle.page_map.specs.Keeps.{Keeps, Leaves}
use Rattle.page_map.specs.PageMap.{PageMap, View, page_at}
use Rattle.recovery.specs.Opens.{OpensAs, disk_page}
use Rattle.recovery.specs.Reaches.{Reaches, ReachesAny}
use Rattle.recovery.specs.PageNumbers.{page_number}
use Rattle.recovery.specs.ShownLaws.{shown_at}
use Rattle.recovery.specs.ShownPages.{content_at}
use Rattle.page_store.specs.KeptPages.{KeptPages, LeftStore}
use Rattle.page_store.specs.LoggedState.{LoggedState, store_of}
use Rattle.page_store.specs.Survives.{Survives, survives_none}
use Rattle.page_store.proofs.Steps.{DiskLaws}

module _ {D : Type 0} (told : D → Told) (old new : View D) where
  pub leaves_of : LeftStore told old new → Leaves told old new
  leaves_of left = record { layout = left.layout; tells = left.tells; faults = left.faults }

  pub keeps_of : KeptPages told old new → Keeps told old new
  keeps_of kept = record { leaves = leaves_of kept.leaves; pages = kept.pages }

  -- the pages of the beginning are the only ones that the call passed
  pub survives_of : LeftStore told old new → Survives told (λ pages. pages ≡ old.pages) old new
  survives_of left =
      let any : (image : List ℕ) → Reaches old.layout (told old.disk) old.pages image → ReachesAny old.layout (told old.disk) (λ pages. pages ≡ old.pages) image = λ image there. (
        there.0,
        there.1,
        ⊎_elim (λ (opens : OpensAs old.layout image old.pages). inl (old.pages, refl, opens))
            (λ (more : (others : PageMap) → OpensAs old.layout there.0 others → OpensAs old.layout image others). inr more) there.2,
      ) in
      record {
        moments = weaker (told old.disk) (told new.disk) (Reaches old.layout (told old.disk) old.pages) (ReachesAny old.layout (told old.disk) (λ pages. pages ≡ old.pages)) left.survives.moments any;
        images = λ image now. any image (left.survives.images image now);
        seen = left.survives.seen;
      }

-- the same where a call refuses
pub on_err : {T E A B : Type 0} (result : Result T E) → (A → B) → OnErr result A → OnErr result B
on_err (Ok value) f there = there
on_err (Err error) f there = f there

-- a store to which nothing happens
pub stays : {D : Type 0} (told : D → Told) → DiskLaws told → (store : View D) → Survives told (λ pages. ⊥) store store
stays told laws store = survives_none told store (laws.need store.disk) (laws.only store.disk)

-- a page that is held is that of the store
pub held_page : {D : Type 0} (told : D → Told) (s : LoggedState D) (place : Place) → IsPlace s.layout place → (bytes : List ℕ) → content_at s.pool (page_number s.layout place) ≡ Some bytes → page_at (store_of told s).pages place ≡ bytes
held_page told s place is bytes there = shown_at s.layout s.pool (told s.disk).contents place is ∙ ap (λ (o : Option (List ℕ)). unwrap_or o (disk_page s.layout (told s.disk).contents place)) there
