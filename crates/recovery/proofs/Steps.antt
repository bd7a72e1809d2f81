-- one step of a redo: a page is read, written back, or changed
use Rattle.std.proofs.Common.{◌≡◌, ◌≢◌, ◌⊎◌, inl, inr, ℕ, ◌≤◌, List, ◌∷◌, length, refl, sym, ◌∙◌, ap, subst, ⊎_elim}
use Rattle.std.specs.Prelude.{IsTrue, None, Some, take}
use Rattle.std.proofs.lemmas.Cmp.{nat_cmp_total}
use Rattle.block_model.specs.declared.limits.TheConstants.{PAGE_SIZE}
use Rattle.block_model.specs.declared.place.Place.{Place}
use Rattle.block_model.specs.NumberMaps.{found_after_put, get_put_apart, get_put_here, numbers_apart}
use Rattle.store_layout.specs.DiskLayout.{DiskLayout, IsPlace, disk_size, first_offset}
use Rattle.store_layout.specs.PagesFillDisk.{PagesFillDisk}
use Rattle.store_format.specs.ControlPage.{HasControl}
use Rattle.disk_trait.specs.Told.{Told}
use Rattle.disk_trait.specs.Spliced.{spliced}
use Rattle.disk_trait.specs.Torn.{Torn}
use Rattle.disk_trait.specs.Throughout.{Throughout}
use Rattle.disk_trait.specs.ThroughoutLaws.{goes_on}
use Rattle.log_area.specs.Frames.{LogFrame}
use Rattle.log_area.specs.OpensInOneWay.{OpensInOneWay}
use Rattle.page_layout.specs.declared.page.Form.{Form}
use Rattle.wal_record.specs.Changes.{LoggedChange}
use Rattle.page_map.specs.Redo.{ForgetPage, IsAnew, Redone}
use Rattle.page_map.specs.Forms.{form_of}
use Rattle.buffer_pool.specs.PoolState.{HeldPage, PoolState, held_at, with_page}
use Rattle.buffer_pool.specs.WritesPage as writes
use Rattle.recovery.specs.LoggedChanges.{changes_at}
use Rattle.recovery.specs.Opens.{disk_page}
use Rattle.recovery.specs.Reaches.{OpensAsBefore}
use Rattle.recovery.specs.Holds.{MayWrite}
use Rattle.recovery.specs.PooledPages.{HoldsDurablePages, IsDurablePage}
use Rattle.recovery.specs.InPool.{IsHeldPage}
use Rattle.recovery.specs.PageNumbers.{page_number}
use Rattle.recovery.specs.ShownLaws.{one_number}
use Rattle.recovery.specs.ShownPages.{shown_page}
use Rattle.recovery.specs.Redoing.{IsKept, Redoing}
use Rattle.recovery.proofs.Changes.{same_place}
use Rattle.recovery.proofs.Images.{kept_torn, opens_like}
use Rattle.recovery.proofs.Places.{other_page, pooled_held, pooled_same, written_page}

-- ---- a read: only the count of faults changes

pub moments_read : (start disk after : Told) (P : List ℕ → Type 0) → after ≡ record disk { faults = after.faults } → Throughout start disk P → Throughout start after P
moments_read start disk after P same all = subst (λ (t : Told). Throughout start t P) (sym same)
    (record { size = all.size; tells_contents = all.tells_contents; tells_images = all.tells_images; later = all.later; each = all.each; earlier = all.earlier })

pub redoing_read : (layout : DiskLayout) (frames : List LogFrame) (start : Told) (done : List LoggedChange) (disk after : Told) (pool : PoolState) → after ≡ record disk { faults = after.faults }
    → Redoing layout frames start done disk pool → Redoing layout frames start done after pool
redoing_read layout frames start done disk after pool same r = subst (λ (t : Told). Redoing layout frames start done t pool) (sym same)
    (record {
      log = r.log;
      first = r.first;
      pages = r.pages;
      touched = r.touched;
      clean = r.clean;
      contents = r.contents;
      images = r.images;
      moments =
          record { size = r.moments.size; tells_contents = r.moments.tells_contents; tells_images = r.moments.tells_images; later = r.moments.later; each = r.moments.each; earlier = r.moments.earlier };
    })

-- ---- what is kept

pub redoing_kept : (layout : DiskLayout) (frames : List LogFrame) (start : Told) (done : List LoggedChange) (disk : Told) (pool : PoolState) → Redoing layout frames start done disk pool → IsKept layout start disk
redoing_kept layout frames start done disk pool r = record { moments = r.moments; front = λ tells. (r.contents (r.moments.tells_contents ∙ tells)).log }

pub kept_read : (layout : DiskLayout) (start disk after : Told) → after ≡ record disk { faults = after.faults } → IsKept layout start disk → IsKept layout start after
kept_read layout start disk after same kept = record {
  moments = moments_read start disk after (OpensAsBefore start) same kept.moments;
  front = λ tells. ap (λ (t : Told). take (first_offset layout) t.contents) same ∙ kept.front tells;
}

-- ---- a page is written back

module _ (one_layout : (page : List ℕ) (a b : DiskLayout) → HasControl a page → HasControl b page → a ≡ b) (ways : (area : List ℕ) → OpensInOneWay area) (forgets : (form : Form) (change : LoggedChange) (changes : List LoggedChange) → IsAnew change → ForgetPage form (change ∷ changes)) where
  moments_written : (layout : DiskLayout) → PagesFillDisk layout → (frames : List LogFrame) (start : Told) (done : List LoggedChange) (disk after : Told) (pool : PoolState)
      → ((t : ℕ) (c : List ℕ) → t ≤ disk.moment → IsTrue (disk.now c) → IsTrue (disk.since t c))
      → HoldsDurablePages layout pool → MayWrite disk pool after → Redoing layout frames start done disk pool → Throughout start after (OpensAsBefore start)
  moments_written layout fill frames start done disk after pool counts held (inl same) r = subst (λ (t : Told). Throughout start t (OpensAsBefore start)) (sym same) r.moments
  moments_written layout fill frames start done disk after pool counts held (inr wrote) r =
      let cleanable = wrote.2 in
      let one = (held wrote.0 wrote.1 cleanable.held).0 in
      goes_on start disk after (OpensAsBefore start) r.moments wrote.3.moments
      (λ image now.
      let d = wrote.3.images image now in
      let was = r.moments.each d.0 (counts start.moment d.0 r.moments.later d.1) in
      let touched = r.touched one.place wrote.1 one.is (ap (held_at pool) one.number ∙ cleanable.held) in
      let kept = kept_torn layout fill done start.contents d.0 image one.place one.is touched (subst (λ (n : ℕ). Torn (writes.place_of 0 n) PAGE_SIZE d.0 image) (sym one.number) d.2) (r.images d.0 d.1) in
      (was.0, was.1, inr (opens_like one_layout ways forgets layout frames start done r.log r.first was.0 image was.1 kept)))

  -- whether all of it came or not
  front_written : (layout : DiskLayout) → PagesFillDisk layout → (frames : List LogFrame) (start : Told) (done : List LoggedChange) (disk after : Told) (pool : PoolState)
      → HoldsDurablePages layout pool → MayWrite disk pool after → Redoing layout frames start done disk pool → IsTrue disk.tells_contents
      → take (first_offset layout) after.contents ≡ take (first_offset layout) start.contents
  front_written layout fill frames start done disk after pool held (inl same) r tells = ap (λ (t : Told). take (first_offset layout) t.contents) same ∙ (r.contents tells).log
  front_written layout fill frames start done disk after pool held (inr wrote) r tells =
      let cleanable = wrote.2 in
      let one = (held wrote.0 wrote.1 cleanable.held).0 in
      let touched = r.touched one.place wrote.1 one.is (ap (held_at pool) one.number ∙ cleanable.held) in
      let torn = subst (λ (n : ℕ). Torn (writes.place_of 0 n) PAGE_SIZE disk.contents after.contents) (sym one.number) (wrote.3.others tells) in
      (kept_torn layout fill done start.contents disk.contents after.contents one.place one.is touched torn (r.contents tells)).log

  pub kept_written : (layout : DiskLayout) → PagesFillDisk layout → (frames : List LogFrame) (start : Told) (done : List LoggedChange) (disk after : Told) (pool : PoolState)
      → ((t : ℕ) (c : List ℕ) → t ≤ disk.moment → IsTrue (disk.now c) → IsTrue (disk.since t c))
      → HoldsDurablePages layout pool → MayWrite disk pool after → Redoing layout frames start done disk pool → IsKept layout start after
  kept_written layout fill frames start done disk after pool counts held writes_ r = record {
    moments = moments_written layout fill frames start done disk after pool counts held writes_ r;
    front = λ tells. front_written layout fill frames start done disk after pool held writes_ r (r.moments.tells_contents ∙ tells);
  }

-- what is held once a page is clean: it, as a clean page, or what was held before
cleaned_held : (pool mid : PoolState) (page : ℕ) (held : HeldPage) (number : ℕ) (x : HeldPage) → mid ≡ with_page pool page (record held { log = None }) → held_at mid number ≡ Some x
    → ((number ≡ page) × (record held { log = None } ≡ x)) ⊎ ((number ≡ page → ⊥) × (held_at pool number ≡ Some x))
cleaned_held pool mid page held number x is got = found_after_put pool.pages page number (record held { log = None }) x (ap (λ (p : PoolState). held_at p number) (sym is) ∙ got)

cleaned_here : (pool mid : PoolState) (page : ℕ) (held : HeldPage) → mid ≡ with_page pool page (record held { log = None }) → held_at mid page ≡ Some (record held { log = None })
cleaned_here pool mid page held is = ap (λ (p : PoolState). held_at p page) is ∙ get_put_here nat_cmp_total pool.pages page (record held { log = None })

cleaned_other : (pool mid : PoolState) (page : ℕ) (held : HeldPage) (number : ℕ) → mid ≡ with_page pool page (record held { log = None }) → (number ≡ page → ⊥) → held_at mid number ≡ held_at pool number
cleaned_other pool mid page held number is other =
    ap (λ (p : PoolState). held_at p number) is ∙ get_put_apart nat_cmp_total pool.pages page number (record held { log = None }) (numbers_apart number page other)

module _ (layout : DiskLayout) (fill : PagesFillDisk layout) (disk after : Told) (pool mid : PoolState) (c : writes.Cleans pool mid 0 0 disk after) (one : IsHeldPage layout c.page c.held.content) where
  -- the number of another page
  apart : (place : Place) → IsPlace layout place → place ≢ one.place → page_number layout place ≡ c.page → ⊥
  apart place is other same = other (one_number layout fill place one.place is one.is (same ∙ (sym one.number)))

  here : page_number layout one.place ≡ c.page
  here = one.number

  -- the pages are the same
  cleaned_page : IsTrue disk.tells_contents → disk_size layout ≤ length disk.contents → (place : Place) → IsPlace layout place → shown_page layout mid after.contents place ≡ shown_page layout pool disk.contents place
  cleaned_page tells size place is = elim (same_place one.place place) [
    | inl e ↦
        let at : page_number layout place ≡ c.page = ap (page_number layout) e ∙ here in
        pooled_held layout after.contents mid place (record c.held { log = None }) (ap (held_at mid) at ∙ cleaned_here pool mid c.page c.held c.clean)
        ∙ sym (pooled_held layout disk.contents pool place c.held (ap (held_at pool) at ∙ c.cleanable.held))
    | inr other ↦
        pooled_same layout disk.contents after.contents pool mid place (cleaned_other pool mid c.page c.held (page_number layout place) c.clean (apart place is other))
        (other_page layout fill place one.place disk.contents after.contents is one.is other (subst (λ (n : ℕ). Torn (writes.place_of 0 n) PAGE_SIZE disk.contents after.contents) (sym one.number) (c.writes.others tells)))
  ]

  pub redoing_cleaned : (frames : List LogFrame) (start : Told) (done : List LoggedChange) → (IsTrue disk.tells_contents → disk_size layout ≤ length disk.contents)
      → Throughout start after (OpensAsBefore start) → Redoing layout frames start done disk pool → Redoing layout frames start done after mid
  redoing_cleaned frames start done size moments r =
      let told : IsTrue after.tells_contents → IsTrue disk.tells_contents = λ tells. sym c.writes.moments.tells_contents ∙ tells in
      let touched = r.touched one.place c.held one.is (ap (held_at pool) here ∙ c.cleanable.held) in
      record {
        log = r.log;
        first = r.first;
        pages = λ tells.
            let was = r.pages (told tells) in
            record {
              places = was.places;
              anew = was.anew;
              redone = λ place is.
                  subst (Redone (form_of layout place.relation) (disk_page layout start.contents place) (changes_at place done))
                  (sym (cleaned_page (told tells) (size (told tells)) place is)) (was.redone place is);
            };
        touched = λ place x is got.
            ⊎_elim (λ (own : (page_number layout place ≡ c.page) × (record c.held { log = None } ≡ x)). r.touched place c.held is (ap (held_at pool) own.0 ∙ c.cleanable.held))
            (λ (other : (page_number layout place ≡ c.page → ⊥) × (held_at pool (page_number layout place) ≡ Some x)). r.touched place x is other.1)
            (cleaned_held pool mid c.page c.held (page_number layout place) x c.clean got);
        clean = λ tells place x is got none.
            let wrote = c.written (told tells) in
            ⊎_elim
            (λ (own : (page_number layout place ≡ c.page) × (record c.held { log = None } ≡ x)).
            ap (λ (h : HeldPage). h.content) (sym own.1)
            ∙ sym (written_page layout fill place disk.contents after.contents c.held.content is (size (told tells)) one.whole (subst (λ (n : ℕ). after.contents ≡ spliced disk.contents (writes.place_of 0 n) c.held.content) (sym own.0) wrote)))
            (λ (other : (page_number layout place ≡ c.page → ⊥) × (held_at pool (page_number layout place) ≡ Some x)).
            r.clean (told tells) place x is other.1 none
            ∙ sym (other_page layout fill place one.place disk.contents after.contents is one.is (λ same. other.0 (ap (page_number layout) same ∙ here))
            (subst (λ (n : ℕ). Torn (writes.place_of 0 n) PAGE_SIZE disk.contents after.contents) (sym one.number) (c.writes.others (told tells)))))
            (cleaned_held pool mid c.page c.held (page_number layout place) x c.clean got);
        contents = λ tells.
            kept_torn layout fill done start.contents disk.contents after.contents one.place one.is touched
            (subst (λ (n : ℕ). Torn (writes.place_of 0 n) PAGE_SIZE disk.contents after.contents) (sym one.number) (c.writes.others (told tells))) (r.contents (told tells));
        images = λ image now.
            let d = c.writes.images image now in
            kept_torn layout fill done start.contents d.0 image one.place one.is touched (subst (λ (n : ℕ). Torn (writes.place_of 0 n) PAGE_SIZE d.0 image) (sym one.number) d.2) (r.images d.0 d.1);
        moments = moments;
      }

-- each page that is held then was held before
pub pages_cleaned : (layout : DiskLayout) (pool mid : PoolState) (at : ℕ) (disk after : Told) → writes.Cleans pool mid at 0 disk after → HoldsDurablePages layout pool → HoldsDurablePages layout mid
pages_cleaned layout pool mid at disk after c held number x got =
    ⊎_elim
    (λ (own : (number ≡ c.page) × (record c.held { log = None } ≡ x)).
    let h = (held c.page c.held c.cleanable.held).0 in
    subst (IsDurablePage layout number) own.1 (record { place = h.place; is = h.is; number = h.number ∙ sym own.0; whole = h.whole; passes = h.passes }, inl refl))
    (λ (other : (number ≡ c.page → ⊥) × (held_at pool number ≡ Some x)). held number x other.1)
    (cleaned_held pool mid c.page c.held number x c.clean got)
