-- the images that a disk in memory picks
use Rattle.std.proofs.Common.{◌≡◌, ⊎_elim, ℕ, ◌+◌, List, [], ◌∷◌, length, get_or, sym, ◌∙◌, subst}
use Rattle.std.specs.Prelude.{refl, true, false, ◌&&◌, ◌==◌, ◌/◌, ◌%◌, nat_le, nat_lt}
use Rattle.std.proofs.lemmas.Bool.{cases_cond}
use Rattle.disk_trait.specs.Spliced.{spliced}
use Rattle.disk_trait.specs.Event.{Event, wrote, synced}
use Rattle.disk_trait.specs.IsCrashImage.{is_pending, is_crash_image}
use Rattle.disk_trait.specs.CrashImageLaws.{crash_image_from}
use Rattle.disk_trait.specs.AreWithin.{AreWithin}
use Rattle.disk_trait.specs.Undone.{undone}
use Rattle.disk_trait.specs.IsStriped.{IsStriped}
use Rattle.disk_trait.specs.TornLaws.{length-spliced}
use Rattle.disk_trait.proofs.Splices.{get_or-spliced_outside}
use Rattle.disk_trait.proofs.CrashImages.{not_in_range, not_before}

pub length-undone : (contents : List ℕ) (events : List Event) → AreWithin (length contents) events → length (undone contents events) ≡ length contents
length-undone contents [] within = refl
length-undone contents (wrote at replaced ∷ events) within =
    let long = length-spliced contents at replaced within.0 in
    length-undone (spliced contents at replaced) events (subst (λ (n : ℕ). AreWithin n events) (sym long) within.1) ∙ long
length-undone contents (synced ∷ events) within = refl

-- what isn't pending stays
pub get_or-undone : (contents : List ℕ) (events : List Event) → AreWithin (length contents) events → (k : ℕ) → is_pending events k ≡ false → get_or (undone contents events) k 0 ≡ get_or contents k 0
get_or-undone contents [] within k none = refl
get_or-undone contents (wrote at replaced ∷ events) within k none =
    let range = nat_le at k && nat_lt k (at + length replaced) in
    let long = length-spliced contents at replaced within.0 in
    get_or-undone (spliced contents at replaced) events (subst (λ (n : ℕ). AreWithin n events) (sym long) within.1) k (not_before range (is_pending events k) none)
    ∙ get_or-spliced_outside contents at replaced within.0 k (not_in_range at (length replaced) k (is_pending events k) none)
get_or-undone contents (synced ∷ events) within k none = refl

module _ (contents : List ℕ) (events : List Event) (within : AreWithin (length contents) events) where
  pub undone_image : is_crash_image contents events (undone contents events) ≡ true
  undone_image = crash_image_from contents events (undone contents events) (length-undone contents events within) (λ k lt none. get_or-undone contents events within k none)

  pub striped_image : (width : ℕ) (mixed : List ℕ) → IsStriped width (undone contents events) contents mixed → is_crash_image contents events mixed ≡ true
  striped_image width mixed striped = crash_image_from contents events mixed striped.long (λ k lt none.
      ⊎_elim (λ old. old ∙ get_or-undone contents events within k none) (λ new. new)
      (cases_cond ((k / width) % 2 == 0) (get_or (undone contents events) k 0) (get_or contents k 0) (get_or mixed k 0) (striped.bytes k lt)))
