-- what one call on pages with a log leaves of the store that they are
use Rattle.std.specs.Prelude.{◌≡◌, ◌≤◌, ℕ, IsTrue, List}
use Rattle.std.proofs.Common.{◌∙◌, subst, arith, inl, inr, ⊎_elim}
use Rattle.store_layout.specs.DiskLayout.{DiskLayout}
use Rattle.disk_trait.specs.Told.{Told}
use Rattle.disk_trait.specs.Throughout.{Throughout}
use Rattle.page_map.specs.PageMap.{PageMap, View}
use Rattle.page_map.specs.Keeps.{Tells}
use Rattle.recovery.specs.Opens.{OpensAs}
use Rattle.recovery.specs.Reaches.{OpensToOr, Reaches}

-- At every moment of the call, and once it is done, each image comes from one that was there when it began, and opens to the pages
-- that the store had then or to what that one did. A disk that has an image tells its contents.
pub record PagesSurvive {D : Type 0} (told : D → Told) (old new : View D) : Type 0 where
  pub moments : Throughout (told old.disk) (told new.disk) (Reaches old.layout (told old.disk) old.pages)
  pub images : (image : List ℕ) → IsTrue ((told new.disk).now image) → Reaches old.layout (told old.disk) old.pages image
  pub seen : (image : List ℕ) → IsTrue ((told old.disk).now image) → Tells told old

-- What every call leaves, whether it changes pages or not: the layout, and whether the disk tells its contents. Its count of
-- faults doesn't fall. No image loses what was made sure.
pub record LeftStore {D : Type 0} (told : D → Told) (old new : View D) : Type 0 where
  pub layout : new.layout ≡ old.layout
  pub tells : (told new.disk).tells_contents ≡ (told old.disk).tells_contents
  pub faults : (told old.disk).faults ≤ (told new.disk).faults
  pub survives : PagesSurvive told old new

-- a call that changes no page leaves them too, where the disk tells its contents
pub record KeptPages {D : Type 0} (told : D → Told) (old new : View D) : Type 0 where
  pub leaves : LeftStore told old new
  pub pages : Tells told old → new.pages ≡ old.pages

module _ {D : Type 0} (told : D → Told) (old mid new : View D) (first : KeptPages told old mid) (second : LeftStore told mid new) where
  -- what was reached from the store in between is reached from the first one
  further : (image : List ℕ) → Reaches mid.layout (told mid.disk) mid.pages image → Reaches old.layout (told old.disk) old.pages image
  further image there =
      let come = first.leaves.survives.images there.0 there.1 in
      let pages = first.pages (first.leaves.survives.seen come.0 come.1) in
      let step : OpensToOr old.layout old.pages there.0 image =
      subst (λ (l : DiskLayout). OpensToOr l old.pages there.0 image) first.leaves.layout (subst (λ (m : PageMap). OpensToOr mid.layout m there.0 image) pages there.2) in (
        come.0,
        come.1,
        ⊎_elim (λ (now : OpensAs old.layout image old.pages). inl now)
            (λ (more : (others : PageMap) → OpensAs old.layout there.0 others → OpensAs old.layout image others). ⊎_elim
            (λ (was : OpensAs old.layout there.0 old.pages). inl (more old.pages was))
            (λ (was : (others : PageMap) → OpensAs old.layout come.0 others → OpensAs old.layout there.0 others). inr (λ others opens. more others (was others opens))) come.2) step,
      )

  survives_on : PagesSurvive told old new
  survives_on = record {
    moments = record {
      size = second.survives.moments.size ∙ first.leaves.survives.moments.size;
      tells_contents = second.survives.moments.tells_contents ∙ first.leaves.survives.moments.tells_contents;
      tells_images = second.survives.moments.tells_images ∙ first.leaves.survives.moments.tells_images;
      later = omega (arith, second.survives.moments.later, first.leaves.survives.moments.later);
      each = λ image since.
          ⊎_elim (first.leaves.survives.moments.each image) (further image) (second.survives.moments.earlier (told old.disk).moment image first.leaves.survives.moments.later since);
      earlier = λ t image le since.
          ⊎_elim (first.leaves.survives.moments.earlier t image le) (λ there. inr (further image there))
          (second.survives.moments.earlier t image (omega (arith, le, first.leaves.survives.moments.later)) since);
    };
    images = λ image now. further image (second.survives.images image now);
    seen = first.leaves.survives.seen;
  }

  -- a call that changes no page, and then any call
  pub kept_then : LeftStore told old new
  kept_then = record {
    layout = second.layout ∙ first.leaves.layout;
    tells = second.tells ∙ first.leaves.tells;
    faults = omega (arith, second.faults, first.leaves.faults);
    survives = survives_on;
  }

-- two calls that change no page
pub kept_on : {D : Type 0} (told : D → Told) (old mid new : View D) → KeptPages told old mid → KeptPages told mid new → KeptPages told old new
kept_on told old mid new first second = record {
  leaves = kept_then told old mid new first second.leaves;
  pages = λ tells. second.pages (first.leaves.tells ∙ tells) ∙ first.pages tells;
}
