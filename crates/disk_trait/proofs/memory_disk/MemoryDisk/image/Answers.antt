use Rattle.std.proofs.Common.{◌≡◌, List, ℕ, length, ap, ◌∙◌, sym, subst, arith}
use Rattle.std.specs.Prelude.{true}
use Rattle.disk_trait.specs.Event.{Event}
use Rattle.disk_trait.specs.IsCrashImage.{is_crash_image}
use Rattle.disk_trait.specs.CrashImageLaws.{contents_crash_image}
use Rattle.disk_trait.specs.AreWithin.{AreWithin}
use Rattle.disk_trait.specs.Undone.{undone}
use Rattle.disk_trait.specs.IsStriped.{IsStriped}
use Rattle.disk_trait.proofs.Undoing.{length-undone, undone_image, striped_image}
use Rattle.disk_trait.proofs.memory_disk.MemoryDisk.image.Goals as goal

module _ (held : List ℕ) (events : List Event) (within : AreWithin (length held) events) (copy image : List ℕ) (same : copy ≡ held) (put_back : image ≡ undone copy events) where
  old : image ≡ undone held events
  old = put_back ∙ ap (λ (v : List ℕ). undone v events) same

  old_length : length image ≡ length held
  old_length = ap length old ∙ length-undone held events within

  old_image : is_crash_image held events image ≡ true
  old_image = subst (λ (v : List ℕ). is_crash_image held events v ≡ true) (sym old) (undone_image held events within)

  mixed_image : (width : ℕ) (new mixed : List ℕ) → new ≡ held → IsStriped width image new mixed → is_crash_image held events mixed ≡ true
  mixed_image width new mixed is striped =
      striped_image held events within width mixed (subst (λ (v : List ℕ). IsStriped width (undone held events) v mixed) is (subst (λ (v : List ℕ). IsStriped width v new mixed) old striped))

pub returns-then-pick-eq1-clause-image : goal.returns-then-pick-eq1-clause-image
returns-then-pick-eq1-clause-image c = rw (← c.self.view_is)
    (subst (λ (v : List ℕ). is_crash_image c.self.inside.bytes.items c.self.inside.past.events v ≡ true) (sym (c.in_ok-image.ensures.items ∙ c.as_slice.ensures.value))
    (contents_crash_image c.self.inside.bytes.items c.self.inside.past.events))

pub returns-then-pick-eq0-clause-image : goal.returns-then-pick-eq0-clause-image
returns-then-pick-eq0-clause-image c =
    rw (← c.self.view_is) (old_image c.self.inside.bytes.items c.self.inside.past.events c.self.invariant _ _ (c.in_ok-image.ensures.items ∙ c.as_slice.ensures.value) c.undo.ensures)

pub stripe-requires-clause-length : goal.stripe-requires-clause-length
stripe-requires-clause-length c =
    omega (arith, old_length c.self.inside.bytes.items c.self.inside.past.events c.self.invariant _ _ (c.in_ok-image.ensures.items ∙ c.as_slice.ensures.value) c.undo.ensures, c.undo.new.image.ok, ap (length {A = ℕ}) c.as_slice-2.ensures.value)

pub returns-clause-image : goal.returns-clause-image
returns-clause-image c =
    rw (← c.self.view_is) (mixed_image c.self.inside.bytes.items c.self.inside.past.events c.self.invariant _ _ (c.in_ok-image.ensures.items ∙ c.as_slice.ensures.value) c.undo.ensures
    c.args.pick _ _ c.as_slice-2.ensures.value c.stripe.ensures)
