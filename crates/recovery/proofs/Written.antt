-- a page that is written to its place under a log that begins it anew
use Rattle.std.proofs.Common.{◌≡◌, ◌≢◌, ◌⊎◌, inl, inr, ℕ, ◌+◌, ◌*◌, ◌%◌, ◌<◌, ◌≤◌, List, [], ◌∷◌, length, take, drop, slice_index, get_or, sym, ◌∙◌, ap, subst, arith}
use Rattle.std.proofs.lemmas.Bool.{cases_eq}
use Rattle.std.proofs.lemmas.List.{get_or-take, take-take, drop-take}
use Rattle.block_model.specs.declared.place.Place.{Place}
use Rattle.store_layout.specs.DiskLayout.{DiskLayout, IsPlace, page_offset, first_offset, area_size}
use Rattle.store_layout.specs.PagesFillDisk.{PagesFillDisk}
use Rattle.byte_fields.specs.Fields.{field_at}
use Rattle.disk_trait.specs.Torn.{Torn}
use Rattle.disk_trait.specs.RangeLaws.{torn_apart}
use Rattle.log_area.specs.Frames.{HoldsFrames}
use Rattle.log_area.specs.Log.{area_start, chosen_area}
use Rattle.page_layout.specs.declared.page.Form.{Form}
use Rattle.wal_record.specs.Changes.{LoggedChange}
use Rattle.page_map.specs.Redo.{ForgetPage, IsAnew, Redone}
use Rattle.page_map.specs.PageMap.{PageMap, page_at}
use Rattle.page_map.specs.Forms.{form_of}
use Rattle.recovery.specs.LoggedChanges.{BeginAnew, changes_at}
use Rattle.recovery.specs.Opens.{disk_page, Opens}

parity : (b : ℕ) → (b % 2 ≡ 0) ⊎ (b % 2 ≡ 1)
parity b = grind arith

-- a byte and a field of what two lists have in common
pub same_byte : (n : ℕ) (xs ys : List ℕ) (i : ℕ) → i < n → take n xs ≡ take n ys → get_or xs i 0 ≡ get_or ys i 0
same_byte n xs ys i within same = sym (get_or-take n xs i 0 within) ∙ ap (λ (l : List ℕ). get_or l i 0) same ∙ get_or-take n ys i 0 within

same_field : (at n m : ℕ) (xs ys : List ℕ) → at + n ≤ m → take m xs ≡ take m ys → field_at xs at n ≡ field_at ys at n
same_field at n m xs ys within same =
    sym (drop-take at n xs)
    ∙ ap (drop at) (sym (take-take (at + n) m xs within) ∙ ap (take (at + n)) same ∙ take-take (at + n) m ys within)
    ∙ drop-take at n ys

-- images with the same control page and the same log choose the same area
pub area_same : (room : ℕ) (xs ys : List ℕ) → take (8192 + 2 * room) xs ≡ take (8192 + 2 * room) ys → chosen_area room xs ≡ chosen_area room ys
unfolding area_start
area_same room xs ys same =
    let side : slice_index xs 1 ≡ slice_index ys 1 = same_byte (8192 + 2 * room) xs ys 1 (omega arith) same in
    ap (λ (b : ℕ). field_at xs (8192 + room * (b % 2)) room) side
    ∙ same_field (8192 + room * (slice_index ys 1 % 2)) room (8192 + 2 * room) xs ys (high (slice_index ys 1) room) same
  where
    high : (b r : ℕ) → 8192 + r * (b % 2) + r ≤ 8192 + 2 * r
    high b r = elim (parity b) [
      | inl e ↦ subst (λ (k : ℕ). 8192 + r * k + r ≤ 8192 + 2 * r) (sym e) (omega arith)
      | inr e ↦ subst (λ (k : ℕ). 8192 + r * k + r ≤ 8192 + 2 * r) (sym e) (omega arith)
    ]

same_place : (p q : Place) → (q ≡ p) ⊎ (q ≢ p)
same_place p q = elim (cases_eq q.relation p.relation) [
  | inl r ↦ elim (cases_eq q.block p.block) [
    | inl b ↦ inl (λ i. record { relation = r i; block = b i })
    | inr other ↦ inr (λ e. other (ap (λ (x : Place). x.block) e))
  ]
  | inr other ↦ inr (λ e. other (ap (λ (x : Place). x.relation) e))
]

module _ (forgets : (form : Form) (change : LoggedChange) (changes : List LoggedChange) → IsAnew change → ForgetPage form (change ∷ changes)) where
  pub redo_any : (form : Form) (cs : List LoggedChange) (x y new : List ℕ) → 0 < length cs → BeginAnew cs → Redone form x cs new → Redone form y cs new
  redo_any form [] x y new touched begun r = absurd (omega (arith, touched))
  redo_any form (c ∷ cs) x y new touched begun r = forgets form c cs begun x y new r

  pub opens_torn : (layout : DiskLayout) → PagesFillDisk layout → (place : Place) (d c : List ℕ) (pages : PageMap) → IsPlace layout place → Torn (page_offset layout place) 8192 d c
      → (o : Opens layout d pages) → 0 < length (changes_at place o.changes) → Opens layout c pages
  unfolding disk_page
  opens_torn layout fill place d c pages is torn o touched =
      let front : take (first_offset layout) c ≡ take (first_offset layout) d =
      sym (take-take (first_offset layout) (page_offset layout place) c (fill.begins place is)) ∙ ap (take (first_offset layout)) torn.before ∙ take-take (first_offset layout) (page_offset layout place) d (fill.begins place is) in
      let log : take (8192 + 2 * area_size layout) c ≡ take (8192 + 2 * area_size layout) d = subst (λ (n : ℕ). take n c ≡ take n d) (omega arith) front in
      record {
        frames = o.frames;
        changes = o.changes;
        opened = subst (λ (area : List ℕ). HoldsFrames area o.frames) (sym (area_same (area_size layout) c d log)) o.opened;
        decoded = o.decoded;
        places = o.places;
        anew = o.anew;
        redone = λ q isq. elim (same_place place q) [
          | inl e ↦
              redo_any (form_of layout q.relation) (changes_at q o.changes) (disk_page layout d q) (disk_page layout c q) (page_at pages q) (subst (λ (p : Place). 0 < length (changes_at p o.changes)) (sym e) touched) (o.anew q) (o.redone q isq)
          | inr other ↦
              subst (λ (x : List ℕ). Redone (form_of layout q.relation) x (changes_at q o.changes) (page_at pages q))
              (sym (torn_apart (page_offset layout q) 8192 (page_offset layout place) 8192 d c (fill.disjoint q place isq is other) torn)) (o.redone q isq)
        ];
        checked = o.checked;
        whole = o.whole;
      }
