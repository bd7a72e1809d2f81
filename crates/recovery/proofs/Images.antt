-- images of a disk under a log of which the first changes are redone
use Rattle.std.proofs.Common.{◌≡◌, ◌⊎◌, inl, inr, ℕ, ◌+◌, ◌*◌, ◌%◌, ◌<◌, ◌≤◌, List, [], ◌∷◌, ◌++◌, length, take, drop, slice_index, get_or, refl, sym, ◌∙◌, ap, subst, arith}
use Rattle.std.specs.Prelude.{IsTrue}
use Rattle.std.proofs.lemmas.List.{get_or-take, take-take, drop-take}
use Rattle.block_model.specs.declared.limits.TheConstants.{PAGE_SIZE}
use Rattle.block_model.specs.declared.place.Place.{Place}
use Rattle.store_layout.specs.DiskLayout.{DiskLayout, IsPlace, first_offset, area_size}
use Rattle.store_layout.specs.PagesFillDisk.{PagesFillDisk}
use Rattle.byte_fields.specs.Fields.{field_at}
use Rattle.store_format.specs.ControlPage.{HasControl}
use Rattle.disk_trait.specs.Told.{Told}
use Rattle.disk_trait.specs.Torn.{Torn}
use Rattle.log_area.specs.Frames.{LogFrame, HoldsFrames}
use Rattle.log_area.specs.Log.{area_start, chosen_area}
use Rattle.log_area.specs.OpensInOneWay.{OpensInOneWay}
use Rattle.page_layout.specs.declared.page.Form.{Form}
use Rattle.wal_record.specs.Changes.{LoggedChange}
use Rattle.page_map.specs.Redo.{ForgetPage, IsAnew, Redone}
use Rattle.page_map.specs.PageMap.{PageMap, page_at}
use Rattle.page_map.specs.Forms.{form_of}
use Rattle.buffer_pool.specs.WritesPage.{place_of}
use Rattle.recovery.specs.LoggedChanges.{AreLogged, BeginAnew, changes_at}
use Rattle.recovery.specs.Opens.{disk_page, OpensAs}
use Rattle.recovery.specs.Reaches.{OpensLike}
use Rattle.recovery.specs.PageNumbers.{page_number}
use Rattle.recovery.specs.Redoing.{AreFirstOf, HasLog, KeepsTheRest}
use Rattle.recovery.proofs.Changes.{changes_at-append, front_none, none_or_some}
use Rattle.recovery.proofs.Places.{offset_of_number, other_page}

parity : (b : ℕ) → (b % 2 ≡ 0) ⊎ (b % 2 ≡ 1)
parity b = grind arith

-- a byte and a field of what two lists have in common
pub same_byte : (n : ℕ) (xs ys : List ℕ) (i : ℕ) → i < n → take n xs ≡ take n ys → get_or xs i 0 ≡ get_or ys i 0
same_byte n xs ys i within same = sym (get_or-take n xs i 0 within) ∙ ap (λ (l : List ℕ). get_or l i 0) same ∙ get_or-take n ys i 0 within

same_field : (at n m : ℕ) (xs ys : List ℕ) → at + n ≤ m → take m xs ≡ take m ys → field_at xs at n ≡ field_at ys at n
same_field at n m xs ys within same =
    sym (drop-take at n xs)
    ∙ ap (drop at) (sym (take-take (at + n) m xs within) ∙ ap (take (at + n)) same ∙ take-take (at + n) m ys within)
    ∙ drop-take at n ys

-- images with the same control page and the same log choose the same area
pub area_same : (layout : DiskLayout) (xs ys : List ℕ) → take (first_offset layout) xs ≡ take (first_offset layout) ys → chosen_area (area_size layout) xs ≡ chosen_area (area_size layout) ys
unfolding area_start
area_same layout xs ys same =
    let room = area_size layout in
    let m = first_offset layout in
    let side : slice_index xs 1 ≡ slice_index ys 1 = same_byte m xs ys 1 (omega arith) same in
    ap (λ (b : ℕ). field_at xs (8192 + room * (b % 2)) room) side ∙ same_field (8192 + room * (slice_index ys 1 % 2)) room m xs ys (high (slice_index ys 1)) same
  where
    high : (b : ℕ) → 8192 + area_size layout * (b % 2) + area_size layout ≤ first_offset layout
    high b = elim (parity b) [
      | inl e ↦ subst (λ (k : ℕ). 8192 + area_size layout * k + area_size layout ≤ first_offset layout) (sym e) (omega arith)
      | inr e ↦ subst (λ (k : ℕ). 8192 + area_size layout * k + area_size layout ≤ first_offset layout) (sym e) (omega arith)
    ]

pub control_same : (layout : DiskLayout) (xs ys : List ℕ) → take (first_offset layout) xs ≡ take (first_offset layout) ys → take PAGE_SIZE xs ≡ take PAGE_SIZE ys
control_same layout xs ys same =
    sym (take-take PAGE_SIZE (first_offset layout) xs (omega arith)) ∙ ap (take PAGE_SIZE) same ∙ take-take PAGE_SIZE (first_offset layout) ys (omega arith)

-- ---- what stays

pub rest_kept : (layout : DiskLayout) (done : List LoggedChange) (first : List ℕ) → KeepsTheRest layout done first first
rest_kept layout done first = record { log = refl; pages = λ place is none. refl }

pub kept_more : (layout : DiskLayout) (done more : List LoggedChange) (first image : List ℕ) → KeepsTheRest layout done first image → KeepsTheRest layout (done ++ more) first image
kept_more layout done more first image kept = record {
  log = kept.log;
  pages = λ place is none. kept.pages place is (front_none (changes_at place done) (changes_at place more) (sym (changes_at-append place done more) ∙ none));
}

pub kept_torn : (layout : DiskLayout) → PagesFillDisk layout → (done : List LoggedChange) (first image torn : List ℕ) (written : Place) → IsPlace layout written → 0 < length (changes_at written done)
    → Torn (place_of 0 (page_number layout written)) PAGE_SIZE image torn → KeepsTheRest layout done first image → KeepsTheRest layout done first torn
kept_torn layout fill done first image torn written is touched tears kept =
    let at = place_of 0 (page_number layout written) in
    let behind : first_offset layout ≤ at = omega (arith, fill.begins written is, offset_of_number layout written) in
    record {
      log = sym (take-take (first_offset layout) at torn behind) ∙ ap (take (first_offset layout)) tears.before ∙ take-take (first_offset layout) at image behind ∙ kept.log;
      pages = λ place isp none.
          other_page layout fill place written image torn isp is
          (λ same. absurd (let n : length (changes_at written done) ≡ 0 = ap (λ (p : Place). length (changes_at p done)) (sym same) ∙ ap (length {A = LoggedChange}) none in omega (arith, touched, n))) tears
          ∙ kept.pages place isp none;
    }

-- changes that begin a page anew make the same of any page
pub redo_any : ((form : Form) (change : LoggedChange) (changes : List LoggedChange) → IsAnew change → ForgetPage form (change ∷ changes)) → (form : Form) (cs : List LoggedChange) (x y new : List ℕ) → 0 < length cs → BeginAnew cs → Redone form x cs new → Redone form y cs new
redo_any forgets form [] x y new touched begun r = absurd (omega (arith, touched))
redo_any forgets form (c ∷ cs) x y new touched begun r = forgets form c cs begun x y new r

-- ---- what it opens to

module _ (one_layout : (page : List ℕ) (a b : DiskLayout) → HasControl a page → HasControl b page → a ≡ b) (ways : (area : List ℕ) → OpensInOneWay area) (forgets : (form : Form) (change : LoggedChange) (changes : List LoggedChange) → IsAnew change → ForgetPage form (change ∷ changes)) where
  module _ (layout : DiskLayout) (frames : List LogFrame) (start : Told) (done : List LoggedChange) (log : HasLog layout frames start) (first : AreFirstOf frames done) where
    opens_still : (image : List ℕ) (pages : PageMap) → IsTrue start.tells_contents → KeepsTheRest layout done start.contents image → OpensAs layout start.contents pages → OpensAs layout image pages
    opens_still image pages tells kept was =
        let o = was.opens in
        let frames_are : o.frames ≡ frames = (ways (chosen_area (area_size layout) start.contents)).frames o.frames frames o.opened (log.holds tells) in
        let all = first o.changes (subst (λ (fs : List LogFrame). AreLogged fs o.changes) frames_are o.decoded) in
        record {
          control = subst (HasControl layout) (sym (control_same layout image start.contents kept.log)) was.control;
          opens = record {
            frames = o.frames;
            changes = o.changes;
            opened = subst (λ (area : List ℕ). HoldsFrames area o.frames) (sym (area_same layout image start.contents kept.log)) o.opened;
            decoded = o.decoded;
            places = o.places;
            anew = o.anew;
            redone = λ place is.
                let form = form_of layout place.relation in
                let own = changes_at place o.changes in
                elim (none_or_some (changes_at place done)) [
                  | inl none ↦ subst (λ (page : List ℕ). Redone form page own (page_at pages place)) (sym (kept.pages place is none)) (o.redone place is)
                  | inr some ↦
                      let more : own ≡ changes_at place done ++ changes_at place all.0 = ap (changes_at place) all.1 ∙ changes_at-append place done all.0 in
                      redo_any forgets form own (disk_page layout start.contents place) (disk_page layout image place) (page_at pages place)
                      (omega (arith, some, ap (length {A = LoggedChange}) more, length_front (changes_at place done) (changes_at place all.0))) (o.anew place) (o.redone place is)
                ];
            checked = o.checked;
            whole = o.whole;
          };
        }
      where
        length_front : (xs ys : List LoggedChange) → length xs ≤ length (xs ++ ys)
        length_front [] ys = omega arith
        length_front (x ∷ xs) ys = omega (arith, length_front xs ys)

    -- an image that keeps the rest opens as the one of the start did
    pub opens_like : (before image : List ℕ) → IsTrue (start.now before) → KeepsTheRest layout done start.contents image → OpensLike before image
    opens_like before image now kept = record {
      layout = layout;
      control = subst (λ (l : List ℕ). HasControl layout (take PAGE_SIZE l)) (sym (log.stable before now)) (log.control (log.tells before now));
      front = kept.log ∙ ap (take (first_offset layout)) (sym (log.stable before now));
      opens = λ other pages was.
          let tells = log.tells before now in
          let here : OpensAs other start.contents pages = subst (λ (l : List ℕ). OpensAs other l pages) (log.stable before now) was in
          let same : other ≡ layout = one_layout (take PAGE_SIZE start.contents) other layout here.control (log.control tells) in
          subst (λ (l : DiskLayout). OpensAs l image pages) (sym same) (opens_still image pages tells kept (subst (λ (l : DiskLayout). OpensAs l start.contents pages) same here));
    }
