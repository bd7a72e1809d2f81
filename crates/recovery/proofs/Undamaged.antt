-- an image of a store is not damaged
use Rattle.std.proofs.Common.{◌≡◌, inl, inr, ℕ, List, ◌∷◌, ◌++◌, sym, ◌∙◌, ap, subst, ⊎_elim, append_assoc}
use Rattle.block_model.specs.declared.place.Place.{Place}
use Rattle.store_layout.specs.DiskLayout.{DiskLayout, IsPlace, area_size}
use Rattle.log_area.specs.Frames.{LogFrame}
use Rattle.log_area.specs.Log.{chosen_area}
use Rattle.log_area.specs.OpensInOneWay.{OpensInOneWay}
use Rattle.page_layout.specs.declared.page.Form.{Form}
use Rattle.wal_record.specs.Changes.{LoggedChange, place_of}
use Rattle.page_map.specs.Redo.{Redone}
use Rattle.page_map.specs.Forms.{form_of, IsPageIn}
use Rattle.page_map.specs.PageMap.{IsWhole, PageMap, page_at}
use Rattle.recovery.specs.LoggedChanges.{AreLogged, BeginAnew, changes_at}
use Rattle.recovery.specs.Opens.{Opens, disk_page}
use Rattle.recovery.specs.PageOrder.{AreInOrder}
use Rattle.recovery.specs.Redoing.{CanBeRedone}
use Rattle.recovery.proofs.Changes.{NoneBeginsAnother, all_front, changes_at-append, front_begins, logged_once, logged_split}
use Rattle.recovery.proofs.Changing.{redone_split}
use Rattle.recovery.specs.Damaged.{HasFrameDamaged, HasPageDamaged, IsDamaged}
use Rattle.recovery.specs.Orders.{StandsInOrder}
use Rattle.recovery.proofs.AllOrder.{order_of_one, stands_at}

-- the first ones of changes that can be redone
front_redone : (layout : DiskLayout) (image : List ℕ) (front rest : List LoggedChange) → CanBeRedone layout image (front ++ rest) → CanBeRedone layout image front
front_redone layout image front rest all = record {
  places = all_front (λ (change : LoggedChange). IsPlace layout (place_of change)) front rest all.places;
  anew = λ place. front_begins (changes_at place front) (changes_at place rest) (subst BeginAnew (changes_at-append place front rest) (all.anew place));
  fit = λ place is.
      let form = form_of layout place.relation in
      let page = all.fit place is in
      let s = redone_split form (disk_page layout image place) page.0 (changes_at place front) (changes_at place rest)
      (subst (λ (l : List LoggedChange). Redone form (disk_page layout image place) l page.0) (changes_at-append place front rest) page.1) in
      (s.0, s.1);
}

-- the changes of an image that opens can be
opens_redone : (layout : DiskLayout) (image : List ℕ) (pages : PageMap) (o : Opens layout image pages) → CanBeRedone layout image o.changes
opens_redone layout image pages o = record { places = o.places; anew = o.anew; fit = λ place is. (page_at pages place, o.redone place is) }

module _ (ways : (area : List ℕ) → OpensInOneWay area) (one : NoneBeginsAnother) (once : (form : Form) (page a b : List ℕ) (changes : List LoggedChange) → Redone form page changes a → Redone form page changes b → a ≡ b) (same_maps : (layout : DiskLayout) (a b : PageMap) → IsWhole layout a → IsWhole layout b → ((place : Place) → IsPlace layout place → page_at a place ≡ page_at b place) → a ≡ b) (layout : DiskLayout) (image : List ℕ) (pages : PageMap) (o : Opens layout image pages) where
  no_frame : (at : ℕ) → HasFrameDamaged layout image at → ⊥
  no_frame at d =
      let frames : o.frames ≡ d.frames = (ways (chosen_area (area_size layout) image)).frames o.frames d.frames o.opened d.holds in
      let a = d.amiss in
      let logged : AreLogged (a.before ++ a.frame ∷ a.behind) o.changes = subst (λ (fs : List LogFrame). AreLogged fs o.changes) (frames ∙ a.stands) o.decoded in
      let s = logged_split a.before (a.frame ∷ a.behind) o.changes logged in
      let same : s.0 ≡ a.done = logged_once one a.before a.done s.0 a.logged s.2 in
      let whole : o.changes ≡ (a.done ++ s.3.0) ++ s.3.1 =
      s.4 ∙ ap (λ (l : List LoggedChange). l ++ s.1) same ∙ ap (λ (l : List LoggedChange). a.done ++ l) s.3.5 ∙ sym (append_assoc a.done s.3.0 s.3.1) in
      a.amiss s.3.0 s.3.2 s.3.3 (front_redone layout image (a.done ++ s.3.0) s.3.1 (subst (CanBeRedone layout image) whole (opens_redone layout image pages o)))

  no_page : (at : ℕ) → AreInOrder layout pages → HasPageDamaged layout image at → ⊥
  no_page at order d =
      let frames : o.frames ≡ d.has.frames = (ways (chosen_area (area_size layout) image)).frames o.frames d.has.frames o.opened d.has.holds in
      let changes : d.has.changes ≡ o.changes = logged_once one o.frames o.changes d.has.changes o.decoded (subst (λ (fs : List LogFrame). AreLogged fs d.has.changes) (sym frames) d.has.logged) in
      let same : d.pages ≡ pages = same_maps layout d.pages pages d.has.whole o.whole (λ place is.
      let form = form_of layout place.relation in
      once form (disk_page layout image place) (page_at d.pages place) (page_at pages place) (changes_at place o.changes)
      (subst (λ (l : List LoggedChange). Redone form (disk_page layout image place) (changes_at place l) (page_at d.pages place)) changes (d.has.made.redone place is)) (o.redone place is)) in
      ⊎_elim (λ (fails : IsPageIn layout d.place.relation (page_at d.pages d.place) → ⊥). fails (subst (λ (m : PageMap). IsPageIn layout d.place.relation (page_at m d.place)) (sym same) (o.checked d.place d.is)))
      (λ (breaks : StandsInOrder layout d.pages d.place → ⊥). breaks (stands_at layout d.pages d.place.relation d.place.block d.is.block (order_of_one layout d.pages d.place.relation d.is.relation (subst (AreInOrder layout) (sym same) order)))) d.breaks

  pub not_damaged : (at : ℕ) → AreInOrder layout pages → IsDamaged layout image at → ⊥
  not_damaged at order (inl passes) = (ways (chosen_area (area_size layout) image)).apart o.frames passes.0 o.opened passes.2
  not_damaged at order (inr (inl frame)) = no_frame at frame
  not_damaged at order (inr (inr page)) = no_page at order page
