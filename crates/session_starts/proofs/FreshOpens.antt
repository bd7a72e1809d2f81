-- what a new store opens to
use Rattle.std.proofs.Common.{◌≡◌, inl, inr, ℕ, zero, suc, ◌+◌, ◌-◌, ◌*◌, ◌%◌, ◌<◌, List, [], ◌∷◌, length, take, drop, refl, sym, ◌∙◌, ap, subst, arith, lit<}
use Rattle.std.specs.Prelude.{slice_index}
use Rattle.std.proofs.lemmas.List.{get_or-take, length-drop, length-take}
use Rattle.block_model.specs.declared.place.Place.{Place}
use Rattle.byte_fields.specs.Fields.{field_at}
use Rattle.store_layout.specs.DiskLayout.{DiskLayout, HasBoundedSizes, IsPlace, area_offset, area_size, page_offset}
use Rattle.store_layout.specs.PagesFillDisk.{PagesFillDisk}
use Rattle.store_layout.specs.RelationCounts.{blocks_of_statuses, count_relations}
use Rattle.store_format.specs.ControlPage.{HasControl, control_bytes, written_bytes}
use Rattle.disk_trait.specs.Told.{Told}
use Rattle.log_area.specs.Frames.{HoldsFrames}
use Rattle.log_area.specs.Log.{area_start, chosen_area}
use Rattle.page_map.specs.Forms.{IsPageIn}
use Rattle.page_map.specs.PageMap.{unstarted_page}
use Rattle.recovery.specs.Opens.{OpensAs, disk_page}
use Rattle.store_format.specs.FreshStore.{IsClosed, IsFormatted, IsOldOrNew}
use Rattle.store_format.proofs.Places.{fresh_status}
use Rattle.session_starts.specs.FreshPages.{IsOldOrFresh, fresh_pages}
use Rattle.session_starts.proofs.FreshForms.{fresh_passes, length-statuses}
use Rattle.session_starts.proofs.FreshPlaces.{fresh_at, fresh_whole}

-- the byte behind a gate chooses the area
area_byte : (layout : DiskLayout) → slice_index (control_bytes layout 1 0) 1 ≡ 0
unfolding control_bytes written_bytes
area_byte layout = refl

-- a field that isn't empty begins with a byte
field_first : (bytes : List ℕ) (at n : ℕ) → at < length bytes → field_at bytes at (suc n) ≡ slice_index bytes at ∷ take n (drop (suc at) bytes)
field_first [] at n low = absurd (omega (arith, low))
field_first (b ∷ bytes) zero n low = refl
field_first (b ∷ bytes) (suc at) n low = field_first bytes at n (omega (arith, low))

module _ (layout : DiskLayout) (sizes : HasBoundedSizes layout) (fill : PagesFillDisk layout) (image : List ℕ) (made : IsFormatted layout image) where
  status_place : IsPlace layout (record { relation = 0; block = 0 })
  status_place = record { relation = omega (arith, count_relations layout); block = omega (arith, blocks_of_statuses layout 0 refl, sizes.some_status_block) }

  -- the areas of the log are there
  long : 8192 < length image
  long =
      let place : Place = record { relation = 0; block = 0 } in
      let page : length (field_at image (page_offset layout place) 8192) ≡ 8192 = ap (length {A = ℕ}) (made.pages place status_place ∙ fresh_status layout place refl) ∙ length-statuses in
      omega (arith, page, length-take 8192 (drop (page_offset layout place) image), length-drop (page_offset layout place) image, fill.begins place status_place, sizes.some_log_pages)

  chosen : slice_index image 1 ≡ 0
  chosen = sym (get_or-take 8192 image 1 0 (lit< tt)) ∙ ap (λ (l : List ℕ). slice_index l 1) made.control ∙ area_byte layout

  -- area 0 has no frame
  no_frames : HoldsFrames (chosen_area (area_size layout) image) []
  unfolding area_start
  no_frames = record {
    gate = slice_index image (area_offset layout 0);
    rest = take (area_size layout - 1) (drop (suc (area_offset layout 0)) image);
    bytes =
        let some : area_size layout ≡ suc (area_size layout - 1) = omega (arith, sizes.some_log_pages) in
        ap (λ (b : ℕ). field_at image (8192 + area_size layout * (b % 2)) (area_size layout)) chosen
        ∙ ap (field_at image (area_offset layout 0)) some
        ∙ field_first image (area_offset layout 0) (area_size layout - 1) (omega (arith, long));
    closed = λ e. absurd (omega (arith, sym made.first_area ∙ e));
    fields = tt;
  }

  pub opens : HasControl layout (take 8192 image) → OpensAs layout image (fresh_pages layout)
  unfolding disk_page
  opens control = record {
    control = control;
    opens = record {
      frames = [];
      changes = [];
      opened = no_frames;
      decoded = refl;
      places = tt;
      anew = λ place. tt;
      redone = λ place is. fresh_at layout unstarted_page place is ∙ sym (made.pages place is);
      checked = λ place is. subst (IsPageIn layout place.relation) (sym (fresh_at layout unstarted_page place is)) (fresh_passes layout place is);
      whole = fresh_whole layout;
    };
  }

-- what a format leaves
pub old_or_fresh : (layout : DiskLayout) → ((any : DiskLayout) (image : List ℕ) → IsClosed image → HasControl any (take 8192 image) → ⊥) → ((image : List ℕ) → IsFormatted layout image → OpensAs layout image (fresh_pages layout))
    → (old : Told) (image : List ℕ) → IsOldOrNew layout old image → IsOldOrFresh layout old image
old_or_fresh layout none fresh old image (inl was) = inl was
old_or_fresh layout none fresh old image (inr (inl closed)) = inr (inl (λ any control. none any image closed control))
old_or_fresh layout none fresh old image (inr (inr made)) = inr (inr (fresh image made))
