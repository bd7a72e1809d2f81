-- a change of a page in the pool
use Rattle.std.proofs.Common.{◌≡◌, inl, inr, ℕ, List, length, refl, sym, ◌∙◌, ap, subst, ⊎_elim}
use Rattle.std.specs.Prelude.{Option, None, Some, OnOk, IfErr, IsSome, Result, Ok, Err}
use Rattle.std.specs.Option.{option_map}
use Rattle.block_model.specs.declared.limits.TheConstants.{PAGE_SIZE}
use Rattle.block_model.specs.declared.place.Place.{Place}
use Rattle.block_model.specs.NumberMaps.{none_Some, same_Some}
use Rattle.store_layout.specs.DiskLayout.{DiskLayout, IsPlace}
use Rattle.store_layout.specs.PagesFillDisk.{PagesFillDisk}
use Rattle.byte_fields.specs.Fields.{AreBytes}
use Rattle.disk_trait.specs.Told.{Told}
use Rattle.page_layout.specs.declared.page.Form.{Form}
use Rattle.wal_record.specs.Changes.{LoggedChange}
use Rattle.page_map.specs.Redo.{Fits, Means}
use Rattle.page_map.specs.Misfit.{Misfit}
use Rattle.page_map.specs.Forms.{IsPageIn, form_of}
use Rattle.buffer_pool.specs.PoolState.{HeldPage, PoolState, held_at, with_page}
use Rattle.buffer_pool.specs.SetsPage.{SetsPage}
use Rattle.buffer_pool.specs.WritesPage.{Cleans}
use Rattle.recovery.specs.PageNumbers.{page_number}
use Rattle.recovery.specs.ShownLaws.{one_number}
use Rattle.recovery.specs.Holds.{Holds, MayWrite}
use Rattle.recovery.specs.PooledPages.{HoldsDurablePages}
use Rattle.recovery.specs.RedoesPage.{ChangesHeld, DoesNotFit, RedoesPage}
use Rattle.recovery.proofs.Changing.{pages_set}
use Rattle.recovery.proofs.Places.{pooled_held}
use Rattle.recovery.proofs.Steps.{pages_cleaned}

-- what is lent is what is held
pub lent_held : (found : Option HeldPage) (page : List ℕ) → Some page ≡ option_map (λ (held : HeldPage). held.content) found → (held : HeldPage) × (found ≡ Some held) × (page ≡ held.content)
lent_held None page e = absurd (none_Some page (sym e))
lent_held (Some held) page e = (held, refl, same_Some page held.content e)

pub none_held : (found : Option HeldPage) → None ≡ option_map (λ (held : HeldPage). held.content) found → found ≡ None
none_held None e = refl
none_held (Some held) e = absurd (none_Some held.content e)

-- the page that is held at a place passes the check of its form
pub held_checked : (layout : DiskLayout) → PagesFillDisk layout → (pool : PoolState) (place : Place) (held : HeldPage) → IsPlace layout place → HoldsDurablePages layout pool → held_at pool (page_number layout place) ≡ Some held → IsPageIn layout place.relation held.content
held_checked layout fill pool place held is all got =
    let one = (all (page_number layout place) held got).0 in
    subst (λ (p : Place). IsPageIn layout p.relation held.content) (one_number layout fill one.place place one.is is one.number) one.passes

-- the page was held already
pub sets_held : (pool : PoolState) (number : ℕ) (held new : HeldPage) → held_at pool number ≡ Some held → SetsPage pool number new (with_page pool number new)
sets_held pool number held new got = inl (inl (subst (λ (found : Option HeldPage). IsSome found) (sym got) refl), refl)

pub changes_held : (layout : DiskLayout) (place : Place) (change : LoggedChange) (pool : PoolState) (form : Form) (held : HeldPage) (page made : List ℕ) (number : ℕ) (result : Result Unit Misfit)
    → form ≡ form_of layout place.relation → number ≡ page_number layout place → held_at pool number ≡ Some held → page ≡ held.content → AreBytes made
    → OnOk result (Fits form page change) → OnOk result (Means form page change made) → IfErr result (λ e. Fits form page change → ⊥)
    → ChangesHeld layout place change pool (with_page pool number (record { content = made; log = Some 0 })) result
changes_held layout place change pool form held page made number (Ok done) same at got is bytes fits means misfit =
    let fit = subst (λ (p : List ℕ). Fits form p change) is fits in
    let mean = subst (λ (p : List ℕ). Means form p change made) is means in (
      held,
      made,
      ap (held_at pool) (sym at) ∙ got,
      subst (λ (f : Form). Fits f held.content change) same fit,
      subst (λ (f : Form). Means f held.content change made) same mean,
      bytes,
      ap (λ (n : ℕ). with_page pool n (record { content = made; log = Some 0 })) at,
    )
changes_held layout place change pool form held page made number (Err e) same at got is bytes fits means misfit =
    (held, ap (held_at pool) (sym at) ∙ got, λ fit. misfit (subst (λ (p : List ℕ). Fits form p change) (sym is) (subst (λ (f : Form). Fits f held.content change) (sym same) fit)))

-- ---- by the answer

-- the page was held, and is changed
pub redoes_held : (layout : DiskLayout) (place : Place) (change : LoggedChange) (disk : Told) (pool new : PoolState) (held : HeldPage) (made : List ℕ)
    → held_at pool (page_number layout place) ≡ Some held → Fits (form_of layout place.relation) held.content change → Means (form_of layout place.relation) held.content change made → AreBytes made
    → new ≡ with_page pool (page_number layout place) (record { content = made; log = Some 0 }) → RedoesPage layout place change disk pool disk new
redoes_held layout place change disk pool new held made got fits means bytes is = record {
  page = held.content;
  made = made;
  before = λ tells. inr (sym (pooled_held layout disk.contents pool place held got));
  fits = fits;
  means = means;
  bytes = bytes;
  read = disk;
  still = refl;
  holds = record { mid = pool; cleans = inl (refl, refl); sets = subst (SetsPage pool (page_number layout place) (record { content = made; log = Some 0 })) (sym is) (sets_held pool (page_number layout place) held (record { content = made; log = Some 0 }) got) };
}

-- or the change doesn't fit it
pub misfits_held : (layout : DiskLayout) (place : Place) (change : LoggedChange) (disk : Told) (pool : PoolState) (held : HeldPage) → held_at pool (page_number layout place) ≡ Some held
    → (Fits (form_of layout place.relation) held.content change → ⊥) → DoesNotFit layout place change disk pool
misfits_held layout place change disk pool held got not = record { page = held.content; before = λ tells. inr (sym (pooled_held layout disk.contents pool place held got)); misfit = not }

pub pages_held : (layout : DiskLayout) (fill : PagesFillDisk layout) (place : Place) (page : List ℕ) (disk : Told) (pool : PoolState) (after : Told) (new : PoolState) → IsPlace layout place → length page ≡ PAGE_SIZE → IsPageIn layout place.relation page
    → Holds (page_number layout place) page disk pool after new → HoldsDurablePages layout pool → HoldsDurablePages layout new
pages_held layout fill place page disk pool after new is whole checked h held =
    pages_set layout fill h.mid new place is (record { content = page; log = Some 0 }) h.sets whole checked refl
    (⊎_elim (λ (none : (after ≡ disk) × (h.mid ≡ pool)). subst (HoldsDurablePages layout) (sym none.1) held) (λ (c : Cleans pool h.mid 0 0 disk after). pages_cleaned layout pool h.mid 0 disk after c held) h.cleans)

pub size_written : (disk : Told) (pool : PoolState) (after : Told) → MayWrite disk pool after → after.size ≡ disk.size
size_written disk pool after (inl same) = ap (λ (t : Told). t.size) same
size_written disk pool after (inr wrote) = wrote.3.moments.size
