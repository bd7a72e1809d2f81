-- a disk made a store
use Rattle.std.proofs.Common.{◌≡◌, ℕ, List, Err, refl, sym, ◌∙◌, inl, inr}
use Rattle.disk_trait.specs.Told.{Told}
use Rattle.disk_trait.specs.Throughout.{Throughout}
use Rattle.disk_trait.specs.ThroughoutLaws.{weaker}
use Rattle.store_layout.specs.DiskLayout.{DiskLayout, disk_size}
use Rattle.recovery.specs.Opens.{OpensAs}
use Rattle.store_format.specs.declared.fault.FormatFault.{FormatFault}
use Rattle.store_format.specs.declared.fault.FormatFault.TheVariants as formats
use Rattle.store_format.specs.FormatAnswers.{FormatAnswers}
use Rattle.store_format.specs.FreshStore.{IsOldOrNew}
use Rattle.session_core.specs.FreshPages.{IsOldOrFresh, fresh_pages}
use Rattle.session_core.specs.ImageLaws.{NewIsImage}
use Rattle.brin_app.specs.ScriptOutput.{HoldsFresh, IsOldOrEmpty}
use Rattle.brin_app.specs.Statuses.{IsUnfit, format_status}

old_or_empty : (layout : DiskLayout) (old : Told) (image : List ℕ) → NewIsImage layout → IsOldOrFresh layout old image → IsOldOrEmpty layout old image
old_or_empty layout old image law (inl was) = inl (inl was)
old_or_empty layout old image law (inr (inl none)) = inl (inr none)
old_or_empty layout old image law (inr (inr opens)) = inr (fresh_pages layout, opens, law)

pub moments_of : (layout : DiskLayout) (old new : Told) → NewIsImage layout → ((image : List ℕ) → IsOldOrNew layout old image → IsOldOrFresh layout old image) → Throughout old new (IsOldOrNew layout old)
    → Throughout old new (IsOldOrEmpty layout old)
moments_of layout old new law leaves moments = weaker old new (IsOldOrNew layout old) (IsOldOrEmpty layout old) moments (λ image at. old_or_empty layout old image law (leaves image at))

-- before they are forgotten to be fresh
pub fresh_moments_of : (layout : DiskLayout) (old new : Told) → ((image : List ℕ) → IsOldOrNew layout old image → IsOldOrFresh layout old image) → Throughout old new (IsOldOrNew layout old) → Throughout old new (IsOldOrFresh layout old)
fresh_moments_of layout old new leaves moments = weaker old new (IsOldOrNew layout old) (IsOldOrFresh layout old) moments leaves

pub fresh_holds : (layout : DiskLayout) (old new : Told) → NewIsImage layout → old.size ≡ disk_size layout → Throughout old new (IsOldOrNew layout old) → OpensAs layout new.contents (fresh_pages layout) → HoldsFresh new layout
fresh_holds layout old new law size moments opens = record { sized = sym (moments.size ∙ size); opens = opens; image = law }

pub unfit_of : (layout : DiskLayout) (old new : Told) (fault : FormatFault) → FormatAnswers {T = Unit {0}} (disk_size layout) old new (Err fault) → IsUnfit (format_status fault) layout old new
unfit_of layout old new (formats.Size wanted found) answers = inr (refl, answers.0, answers.3)
unfit_of layout old new formats.Disk answers = inl (refl, answers.1, answers.0)
unfit_of layout old new formats.Memory answers = absurd answers
