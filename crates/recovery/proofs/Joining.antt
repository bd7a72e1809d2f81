-- an opening, from its parts
use Rattle.std.proofs.Common.{◌≡◌, inl, inr, ℕ, List, refl, ◌∙◌, ap, subst}
use Rattle.std.specs.Prelude.{IsTrue, take}
use Rattle.block_model.specs.declared.limits.TheConstants.{PAGE_SIZE}
use Rattle.store_layout.specs.DiskLayout.{DiskLayout, first_offset}
use Rattle.store_format.specs.ControlPage.{HasControl}
use Rattle.disk_trait.specs.Told.{Told}
use Rattle.disk_trait.specs.Throughout.{Throughout}
use Rattle.disk_trait.specs.ThroughoutLaws.{goes_on, joined, started, weaker}
use Rattle.disk_trait.specs.GoesOn.{GoesOn}
use Rattle.log_area.specs.Log.{ComesBy}
use Rattle.recovery.specs.Reaches.{OpensAsBefore}
use Rattle.recovery.proofs.Steps.{moments_read}
use Rattle.recovery.specs.Untouched.{HasFrontOf, IsUntouched, KeepsFront}

-- each image of a moment was there at that moment
pub as_itself : (disk : Told) (image : List ℕ) → IsTrue (disk.now image) → OpensAsBefore disk image
as_itself disk image now = (image, now, inl refl)

-- nothing was done yet
pub moments_begin : (disk : Told) → ((image : List ℕ) → IsTrue (disk.since disk.moment image) → IsTrue (disk.now image)) → Throughout disk disk (OpensAsBefore disk)
moments_begin disk counts = started disk (OpensAsBefore disk) (λ image since. as_itself disk image (counts image since))

-- a sync, whether it was made or not
pub moments_synced : (old new : Told) → ((image : List ℕ) → IsTrue (old.since old.moment image) → IsTrue (old.now image)) → ((image : List ℕ) → IsTrue (new.now image) → IsTrue (old.now image)) → GoesOn old new
    → Throughout old new (OpensAsBefore old)
moments_synced old new counts images on = goes_on old old new (OpensAsBefore old) (moments_begin old counts) on (λ image now. as_itself old image (images image now))

-- reads alone
pub moments_reads : (old new : Told) → ((image : List ℕ) → IsTrue (old.since old.moment image) → IsTrue (old.now image)) → new ≡ record old { faults = new.faults } → Throughout old new (OpensAsBefore old)
moments_reads old new counts same = moments_read old old new (OpensAsBefore old) same (moments_begin old counts)

-- one read after another
pub still_twice : (a b c : Told) → b ≡ record a { faults = b.faults } → c ≡ record b { faults = c.faults } → c ≡ record a { faults = c.faults }
still_twice a b c one two = two ∙ ap (λ (t : Told). record t { faults = c.faults }) one

-- ---- nothing is written

-- an image that was there before
abbrev Was : Told → List ℕ → Type 0
Was old image = IsTrue (old.now image)

-- reads alone
pub untouched_read : (old new : Told) → ((image : List ℕ) → IsTrue (old.since old.moment image) → IsTrue (old.now image)) → new ≡ record old { faults = new.faults } → IsUntouched old new
untouched_read old new counts same = record { contents = ap (λ (t : Told). t.contents) same; moments = moments_read old old new (Was old) same (started old (Was old) counts) }

-- a sync, and then nothing
pub untouched_synced : (old mid new : Told) → ((image : List ℕ) → IsTrue (old.since old.moment image) → IsTrue (old.now image)) → ((image : List ℕ) → IsTrue (mid.now image) → IsTrue (old.now image)) → GoesOn old mid
    → mid.contents ≡ old.contents → IsUntouched mid new → IsUntouched old new
untouched_synced old mid new counts images on same rest = record {
  contents = rest.contents ∙ same;
  moments = joined old mid new (Was old) (goes_on old old mid (Was old) (started old (Was old) counts) on images) (weaker mid new (Was mid) (Was old) rest.moments images);
}

-- ---- control page and log are as they were

abbrev HaveOneLayout : Type 0
HaveOneLayout = (page : List ℕ) (a b : DiskLayout) → HasControl a page → HasControl b page → a ≡ b

-- by the layout that the control page is of
pub front_of : HaveOneLayout → (layout : DiskLayout) (before image : List ℕ) → HasControl layout (take PAGE_SIZE before) → take (first_offset layout) image ≡ take (first_offset layout) before → HasFrontOf before image
front_of one layout before image control same other theirs =
    subst (λ (m : DiskLayout). take (first_offset m) image ≡ take (first_offset m) before) (one (take PAGE_SIZE before) layout other control theirs) same

-- a read or a sync first
pub front_behind : (old mid new : Told) → mid.contents ≡ old.contents → mid.tells_contents ≡ old.tells_contents → (IsTrue mid.tells_contents → HasFrontOf mid.contents new.contents) → IsTrue old.tells_contents → HasFrontOf old.contents new.contents
front_behind old mid new same tells_ front tells = subst (λ (l : List ℕ). HasFrontOf l new.contents) same (front (tells_ ∙ tells))

pub front_still : (old new : Told) → new.contents ≡ old.contents → HasFrontOf old.contents new.contents
front_still old new same layout control = ap (take (first_offset layout)) same

pub keeps_front : HaveOneLayout → (old new : Told) → (IsTrue old.tells_contents → HasFrontOf old.contents new.contents) → Throughout old new (OpensAsBefore old) → KeepsFront old new
keeps_front one old new contents moments = record {
  contents = contents;
  moments = weaker old new (OpensAsBefore old) (ComesBy HasFrontOf old) moments (λ image came. (
    came.0,
    came.1,
    elim came.2 [
      | inl same ↦ (λ layout control. ap (take (first_offset layout)) same)
      | inr like ↦ front_of one like.layout came.0 image like.control like.front
    ],
  ));
}
