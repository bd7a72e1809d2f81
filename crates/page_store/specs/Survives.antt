-- what the images at the moments of calls open to, in terms of the store
use Rattle.std.specs.Prelude.{◌≡◌, ◌⊎◌, ℕ, IsTrue, List}
use Rattle.std.proofs.Common.{◌∙◌, subst, arith, inl, inr, ⊎_elim}
use Rattle.store_layout.specs.DiskLayout.{DiskLayout}
use Rattle.disk_trait.specs.Told.{Told}
use Rattle.disk_trait.specs.Throughout.{Throughout}
use Rattle.disk_trait.specs.ThroughoutLaws.{started, weaker}
use Rattle.page_map.specs.PageMap.{PageMap, View}
use Rattle.page_map.specs.Keeps.{Tells}
use Rattle.recovery.specs.Opens.{OpensAs}
use Rattle.recovery.specs.Reaches.{OpensWith, ReachesAny}

-- At every moment of the calls, and once they are done, each image comes from one that was there when they began, and opens to
-- pages that they passed or to what that one did. A disk that has an image tells its contents.
pub record Survives {D : Type 0} (told : D → Told) (Passed : PageMap → Type 0) (old new : View D) : Type 0 where
  pub moments : Throughout (told old.disk) (told new.disk) (ReachesAny old.layout (told old.disk) Passed)
  pub images : (image : List ℕ) → IsTrue ((told new.disk).now image) → ReachesAny old.layout (told old.disk) Passed image
  pub seen : (image : List ℕ) → IsTrue ((told old.disk).now image) → Tells told old

module _ {D : Type 0} (told : D → Told) (First Then : PageMap → Type 0) (old mid new : View D) (layout : mid.layout ≡ old.layout) (first : Survives told First old mid) (second : Survives told Then mid new) where
  -- the pages that either of two runs of calls passed
  abbrev Either : PageMap → Type 0
  Either pages = First pages ⊎ Then pages

  less : (image : List ℕ) → ReachesAny old.layout (told old.disk) First image → ReachesAny old.layout (told old.disk) Either image
  less image there = (
    there.0,
    there.1,
    ⊎_elim (λ (passed : (pages : PageMap) × First pages × OpensAs old.layout image pages). inl (passed.0, inl passed.1, passed.2))
        (λ (more : (others : PageMap) → OpensAs old.layout there.0 others → OpensAs old.layout image others). inr more) there.2,
  )

  -- what an image of the store in between opens to, so does one that opens as it does
  on : (between image : List ℕ) → ((others : PageMap) → OpensAs old.layout between others → OpensAs old.layout image others) → ReachesAny old.layout (told old.disk) First between → ReachesAny old.layout (told old.disk) Either image
  on between image more there = (
    there.0,
    there.1,
    ⊎_elim (λ (passed : (pages : PageMap) × First pages × OpensAs old.layout between pages). inl (passed.0, inl passed.1, more passed.0 passed.2))
        (λ (was : (others : PageMap) → OpensAs old.layout there.0 others → OpensAs old.layout between others). inr (λ others opens. more others (was others opens))) there.2,
  )

  further : (image : List ℕ) → ReachesAny mid.layout (told mid.disk) Then image → ReachesAny old.layout (told old.disk) Either image
  further image there =
      let come = first.images there.0 there.1 in
      let step = subst (λ (l : DiskLayout). ((pages : PageMap) × Then pages × OpensAs l image pages) ⊎ ((others : PageMap) → OpensAs l there.0 others → OpensAs l image others)) layout there.2 in
      ⊎_elim (λ (passed : (pages : PageMap) × Then pages × OpensAs old.layout image pages). (come.0, come.1, inl (passed.0, inr passed.1, passed.2)))
      (λ (more : (others : PageMap) → OpensAs old.layout there.0 others → OpensAs old.layout image others). on there.0 image more come) step

  -- two runs of calls
  pub survives_then : Survives told (λ pages. First pages ⊎ Then pages) old new
  survives_then = record {
    moments = record {
      size = second.moments.size ∙ first.moments.size;
      tells_contents = second.moments.tells_contents ∙ first.moments.tells_contents;
      tells_images = second.moments.tells_images ∙ first.moments.tells_images;
      later = omega (arith, second.moments.later, first.moments.later);
      each = λ image since.
          ⊎_elim (λ was. less image (first.moments.each image was)) (further image) (second.moments.earlier (told old.disk).moment image first.moments.later since);
      earlier = λ t image le since.
          ⊎_elim (λ was. ⊎_elim (λ before. inl before) (λ there. inr (less image there)) (first.moments.earlier t image le was)) (λ there. inr (further image there))
          (second.moments.earlier t image (omega (arith, le, first.moments.later)) since);
    };
    images = λ image now. further image (second.images image now);
    seen = first.seen;
  }

module _ {D : Type 0} (told : D → Told) (Passed : PageMap → Type 0) (old new : View D) (survives : Survives told Passed old new) (Other : PageMap → Type 0) (less : Tells told old → (pages : PageMap) → Passed pages → Other pages) where
  wider : (image : List ℕ) → ReachesAny old.layout (told old.disk) Passed image → ReachesAny old.layout (told old.disk) Other image
  wider image there = (
    there.0,
    there.1,
    ⊎_elim (λ (passed : (pages : PageMap) × Passed pages × OpensAs old.layout image pages). inl (passed.0, less (survives.seen there.0 there.1) passed.0 passed.1, passed.2))
        (λ (more : (others : PageMap) → OpensAs old.layout there.0 others → OpensAs old.layout image others). inr more) there.2,
  )

  -- what is passed may be told by less
  pub survives_weaker : Survives told Other old new
  survives_weaker = record {
    moments = weaker (told old.disk) (told new.disk) (ReachesAny old.layout (told old.disk) Passed) (ReachesAny old.layout (told old.disk) Other) survives.moments wider;
    images = λ image now. wider image (survives.images image now);
    seen = survives.seen;
  }

module _ {D : Type 0} (told : D → Told) (Passed : PageMap → Type 0) (old new : View D) (survives : Survives told Passed old new) (P : PageMap → Type 0) (each : (image : List ℕ) → IsTrue ((told old.disk).now image) → OpensWith old.layout P image) (has : Tells told old → (pages : PageMap) → Passed pages → P pages) where
  reached : (image : List ℕ) → ReachesAny old.layout (told old.disk) Passed image → OpensWith old.layout P image
  reached image there =
      ⊎_elim (λ (passed : (pages : PageMap) × Passed pages × OpensAs old.layout image pages). (passed.0, passed.2, has (survives.seen there.0 there.1) passed.0 passed.1))
      (λ (more : (others : PageMap) → OpensAs old.layout there.0 others → OpensAs old.layout image others). let was = each there.0 there.1 in (was.0, more was.0 was.1, was.2)) there.2

  -- each image of the beginning opens to pages with P, and so do all that are passed: so it is at every moment of the calls
  pub each_moment_has : Throughout (told old.disk) (told new.disk) (OpensWith old.layout P)
  each_moment_has = weaker (told old.disk) (told new.disk) (ReachesAny old.layout (told old.disk) Passed) (OpensWith old.layout P) survives.moments reached

  -- and so it is once they are done
  pub each_image_has : (image : List ℕ) → IsTrue ((told new.disk).now image) → OpensWith old.layout P image
  each_image_has image now = reached image (survives.images image now)

-- a store to which nothing happens, by what a disk says of the images of this moment
pub survives_none : {D : Type 0} (told : D → Told) (store : View D) → ((image : List ℕ) → IsTrue ((told store.disk).now image) → Tells told store)
    → ((image : List ℕ) → IsTrue ((told store.disk).since (told store.disk).moment image) → IsTrue ((told store.disk).now image)) → Survives told (λ pages. ⊥) store store
survives_none told store seen only = record {
  moments = started (told store.disk) (ReachesAny store.layout (told store.disk) (λ pages. ⊥)) (λ image since. (image, only image since, inr (λ others opens. opens)));
  images = λ image now. (image, now, inr (λ others opens. opens));
  seen = seen;
}
