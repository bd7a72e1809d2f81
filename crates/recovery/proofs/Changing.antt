-- one step of a redo: a change
use Rattle.std.proofs.Common.{◌≡◌, ◌≢◌, ◌⊎◌, inl, inr, ℕ, ◌<◌, Bool, true, false, List, [], ◌∷◌, ◌++◌, length, get_or, set, refl, sym, ◌∙◌, ap, subst, ⊎_elim, arith}
use Rattle.std.specs.Prelude.{IsTrue, None, Some}
use Rattle.std.specs.FinMap as map
use Rattle.std.proofs.lemmas.Bool.{cases_eq, false≢true}
use Rattle.std.proofs.lemmas.List.{append-nil, get_or-set_same, get_or-set_other}
use Rattle.std.proofs.lemmas.Cmp.{nat_cmp_total}
use Rattle.block_model.specs.declared.limits.TheConstants.{PAGE_SIZE}
use Rattle.block_model.specs.declared.place.Place.{Place}
use Rattle.block_model.specs.NumberMaps.{get_put_apart, get_put_here, get_removed_apart, get_removed_here, none_Some, numbers_apart}
use Rattle.store_layout.specs.DiskLayout.{DiskLayout, IsPlace}
use Rattle.store_layout.specs.PagesFillDisk.{PagesFillDisk}
use Rattle.byte_fields.specs.Fields.{AreBytes}
use Rattle.disk_trait.specs.Told.{Told}
use Rattle.log_area.specs.Frames.{LogFrame}
use Rattle.page_layout.specs.declared.page.Form.{Form}
use Rattle.wal_record.specs.Changes.{LoggedChange, place_of}
use Rattle.page_map.specs.Redo.{Fits, ForgetPage, IsAnew, Means, Redone}
use Rattle.page_map.specs.Forms.{IsPageIn, form_of}
use Rattle.buffer_pool.specs.PoolState.{HeldPage, PoolState, held_at}
use Rattle.buffer_pool.specs.SetsPage.{SetsPage}
use Rattle.buffer_pool.specs.SetLaws.{held_after}
use Rattle.recovery.specs.LoggedChanges.{BeginAnew, changes_at}
use Rattle.recovery.specs.Opens.{disk_page}
use Rattle.recovery.specs.PooledPages.{HoldsDurablePages, IsDurablePage}
use Rattle.recovery.specs.PageNumbers.{page_number}
use Rattle.recovery.specs.ShownLaws.{one_number}
use Rattle.recovery.specs.ShownPages.{shown_page}
use Rattle.recovery.specs.RedoesPage.{DoesNotFit, IsPageBefore}
use Rattle.recovery.specs.Redoing.{AreFirstOf, AreMarked, CanBeRedone, Redoing}
use Rattle.recovery.proofs.Changes.{all_append, all_behind, at_other, at_own, begin_front, changes_at-append, none_or_some, same_place}
use Rattle.recovery.proofs.Images.{kept_more}
use Rattle.recovery.proofs.Places.{pooled_absent, pooled_held, pooled_same}

-- ---- what changes of a page make

-- changes one after the other, taken apart
pub redone_split : (form : Form) (page new : List ℕ) (xs ys : List LoggedChange) → Redone form page (xs ++ ys) new → (mid : List ℕ) × Redone form page xs mid × Redone form mid ys new
redone_split form page new [] ys r = (page, refl, r)
redone_split form page new (x ∷ xs) ys r = let s = redone_split form r.0 new xs ys r.4 in (s.0, (r.0, r.1, r.2, r.3, s.1), s.2)

-- those of a page with one more behind them, or in the middle
pub at_push : (place : Place) (done : List LoggedChange) (c : LoggedChange) (more : List LoggedChange) → place_of c ≡ place → changes_at place (done ++ c ∷ more) ≡ changes_at place done ++ c ∷ changes_at place more
at_push place done c more is = changes_at-append place done (c ∷ more) ∙ ap (λ (l : List LoggedChange). changes_at place done ++ l) (at_own place c more is)

pub at_push_other : (place : Place) (done : List LoggedChange) (c : LoggedChange) → place_of c ≢ place → changes_at place (done ++ c ∷ []) ≡ changes_at place done
at_push_other place done c other =
    changes_at-append place done (c ∷ []) ∙ ap (λ (l : List LoggedChange). changes_at place done ++ l) (at_other place c [] other) ∙ append-nil (changes_at place done)

some_push : (xs : List LoggedChange) (c : LoggedChange) → 0 < length (xs ++ c ∷ [])
some_push [] c = omega arith
some_push (x ∷ xs) c = omega (arith, some_push xs c)

some_front : (xs ys : List LoggedChange) → 0 < length xs → 0 < length (xs ++ ys)
some_front [] ys some = absurd (omega (arith, some))
some_front (x ∷ xs) ys some = omega arith

module _ (forgets : (form : Form) (change : LoggedChange) (changes : List LoggedChange) → IsAnew change → ForgetPage form (change ∷ changes)) (goes_on : (form : Form) (page mid new : List ℕ) (first more : List LoggedChange) → Redone form page first mid → Redone form mid more new → Redone form page (first ++ more) new) (once : (form : Form) (page a b : List ℕ) (changes : List LoggedChange) → Redone form page changes a → Redone form page changes b → a ≡ b) where
  -- the change is made of the page that the ones before made
  pub made_of : (layout : DiskLayout) (frames : List LogFrame) (start disk : Told) (done : List LoggedChange) (pool : PoolState) (place : Place) (c : LoggedChange) (page made : List ℕ)
      → IsPlace layout place → place_of c ≡ place → Redoing layout frames start done disk pool → IsPageBefore layout place c disk pool page
      → Fits (form_of layout place.relation) page c → Means (form_of layout place.relation) page c made → AreBytes made → IsTrue disk.tells_contents
      → Redone (form_of layout place.relation) (disk_page layout start.contents place) (changes_at place (done ++ c ∷ [])) made
  made_of layout frames start disk done pool place c page made is own r before fits means bytes tells =
      let form = form_of layout place.relation in
      let now = shown_page layout pool disk.contents place in
      let last : Redone form page (c ∷ []) made = (made, bytes, fits, means, refl) in
      let mine : Redone form now (c ∷ []) made = ⊎_elim (λ anew. forgets form c [] anew page now made last) (λ is_now. subst (λ (p : List ℕ). Redone form p (c ∷ []) made) is_now last) (before tells) in
      subst (λ (l : List LoggedChange). Redone form (disk_page layout start.contents place) l made) (sym (at_push place done c [] own))
      (goes_on form (disk_page layout start.contents place) now made (changes_at place done) (c ∷ []) ((r.pages tells).redone place is) mine)

  -- a change that doesn't fit the page can't be the next
  pub cannot_fit : (layout : DiskLayout) (frames : List LogFrame) (start disk : Told) (done : List LoggedChange) (pool : PoolState) (place : Place) (c : LoggedChange)
      → IsPlace layout place → place_of c ≡ place → Redoing layout frames start done disk pool → DoesNotFit layout place c disk pool → IsTrue disk.tells_contents
      → (more : List LoggedChange) → CanBeRedone layout start.contents (done ++ c ∷ more) → ⊥
  cannot_fit layout frames start disk done pool place c is own r not tells more make =
      let all = make.fit place is in
      let form = form_of layout place.relation in
      let base = disk_page layout start.contents place in
      let now = shown_page layout pool disk.contents place in
      let s = redone_split form base all.0 (changes_at place done) (c ∷ changes_at place more) (subst (λ (l : List LoggedChange). Redone form base l all.0) (at_push place done c more own) all.1) in
      let same : s.0 ≡ now = once form base s.0 now (changes_at place done) s.1 ((r.pages tells).redone place is) in
      let rest : Redone form now (c ∷ changes_at place more) all.0 = subst (λ (p : List ℕ). Redone form p (c ∷ changes_at place more) all.0) same s.2 in
      not.misfit (⊎_elim (λ anew. (forgets form c (changes_at place more) anew now not.page all.0 rest).2) (λ is_now. subst (λ (p : List ℕ). Fits form p c) (sym is_now) rest.2) (not.before tells))

-- a change of no page of the layout can't be the next
pub cannot_stand : (layout : DiskLayout) (image : List ℕ) (done : List LoggedChange) (c : LoggedChange) → (IsPlace layout (place_of c) → ⊥) → (more : List LoggedChange)
    → CanBeRedone layout image (done ++ c ∷ more) → ⊥
cannot_stand layout image done c not more make = not (all_behind (λ (x : LoggedChange). IsPlace layout (place_of x)) done (c ∷ more) make.places).0

-- the first one of a page can't be one that doesn't make it whole
pub cannot_begin : (layout : DiskLayout) (image : List ℕ) (done : List LoggedChange) (c : LoggedChange) → changes_at (place_of c) done ≡ [] → (IsAnew c → ⊥) → (more : List LoggedChange)
    → CanBeRedone layout image (done ++ c ∷ more) → ⊥
cannot_begin layout image done c none not more make =
    not (subst BeginAnew (at_push (place_of c) done c more refl ∙ ap (λ (l : List LoggedChange). l ++ c ∷ changes_at (place_of c) more) none) (make.anew (place_of c)))

-- ---- what a pool holds once a page is set

set_here : (mid new : PoolState) (number : ℕ) (held : HeldPage) → SetsPage mid number held new → held_at new number ≡ Some held
set_here mid new number held (inl kept) = ap (λ (p : PoolState). held_at p number) kept.1 ∙ get_put_here nat_cmp_total mid.pages number held
set_here mid new number held (inr gone) = ap (λ (p : PoolState). held_at p number) gone.4 ∙ get_put_here nat_cmp_total (map.remove mid.pages gone.0) number held

module _ (layout : DiskLayout) (fill : PagesFillDisk layout) (mid new : PoolState) (place : Place) (is : IsPlace layout place) (held : HeldPage) (sets : SetsPage mid (page_number layout place) held new) where
  -- another page is held as it was, or it was clean and is held no more
  other_held : (other : Place) → IsPlace layout other → other ≢ place → (s : SetsPage mid (page_number layout place) held new)
      → (held_at new (page_number layout other) ≡ held_at mid (page_number layout other))
      ⊎ ((x : HeldPage) × (held_at mid (page_number layout other) ≡ Some x) × (x.log ≡ None) × (held_at new (page_number layout other) ≡ None))
  other_held other iso apart (inl kept) =
      inl (ap (λ (p : PoolState). held_at p (page_number layout other)) kept.1
      ∙ get_put_apart nat_cmp_total mid.pages (page_number layout place) (page_number layout other) held (numbers_apart (page_number layout other) (page_number layout place) (λ e. apart (one_number layout fill other place iso is e))))
  other_held other iso apart (inr gone) =
      let n = page_number layout other in
      let put : held_at new n ≡ map.get (map.remove mid.pages gone.0) n =
      ap (λ (p : PoolState). held_at p n) gone.4
      ∙ get_put_apart nat_cmp_total (map.remove mid.pages gone.0) (page_number layout place) n held (numbers_apart n (page_number layout place) (λ e. apart (one_number layout fill other place iso is e))) in
      elim (cases_eq n gone.0) [
        | inl e ↦ inr (gone.3.0, ap (held_at mid) e ∙ gone.3.1, gone.3.2, put ∙ ap (map.get (map.remove mid.pages gone.0)) e ∙ get_removed_here nat_cmp_total mid.pages gone.0)
        | inr differs ↦ inl (put ∙ get_removed_apart nat_cmp_total mid.pages gone.0 n (numbers_apart n gone.0 differs))
      ]

  -- and its content is the same
  other_pooled : (contents : List ℕ) (other : Place) → IsPlace layout other → other ≢ place
      → ((x : HeldPage) → held_at mid (page_number layout other) ≡ Some x → x.log ≡ None → x.content ≡ disk_page layout contents other)
      → shown_page layout new contents other ≡ shown_page layout mid contents other
  other_pooled contents other iso apart clean =
      ⊎_elim (λ (same : held_at new (page_number layout other) ≡ held_at mid (page_number layout other)). pooled_same layout contents contents mid new other same refl)
      (λ (gone : (x : HeldPage) × (held_at mid (page_number layout other) ≡ Some x) × (x.log ≡ None) × (held_at new (page_number layout other) ≡ None)).
      pooled_absent layout contents new other gone.3 ∙ sym (clean gone.0 gone.1 gone.2) ∙ sym (pooled_held layout contents mid other gone.0 gone.1))
      (other_held other iso apart sets)

  pub redoing_set : (frames : List LogFrame) (start disk : Told) (done : List LoggedChange) (c : LoggedChange) → place_of c ≡ place → held.log ≡ Some 0
      → (IsAnew c) ⊎ (0 < length (changes_at place done))
      → (IsTrue disk.tells_contents → Redone (form_of layout place.relation) (disk_page layout start.contents place) (changes_at place (done ++ c ∷ [])) held.content)
      → AreFirstOf frames (done ++ c ∷ []) → Redoing layout frames start done disk mid → Redoing layout frames start (done ++ c ∷ []) disk new
  redoing_set frames start disk done c own dirty begun made first r =
      let all = done ++ c ∷ [] in
      record {
        log = r.log;
        first = first;
        pages = λ tells.
            let was = r.pages tells in
            record {
              places = all_append (λ (x : LoggedChange). IsPlace layout (place_of x)) done (c ∷ []) was.places (subst (IsPlace layout) (sym own) is, tt);
              anew = λ q. elim (none_or_some (changes_at q done)) [
                | inr some ↦ subst BeginAnew (sym (changes_at-append q done (c ∷ []))) (begin_front (changes_at q done) (changes_at q (c ∷ [])) some (was.anew q))
                | inl none ↦ elim (same_place place q) [
                  | inl e ↦
                      subst BeginAnew (sym (at_push q done c [] (own ∙ sym e) ∙ ap (λ (l : List LoggedChange). l ++ c ∷ []) none))
                      (⊎_elim (λ (a : IsAnew c). a) (λ (some : 0 < length (changes_at place done)). absurd (omega (arith, some, ap (λ (p : Place). length (changes_at p done)) (sym e), ap (length {A = LoggedChange}) none))) begun)
                  | inr other ↦ subst BeginAnew (sym (at_push_other q done c (λ e. other (sym e ∙ own)) ∙ none)) tt
                ]
              ];
              redone = λ q isq. elim (same_place place q) [
                | inl e ↦
                    subst (λ (p : Place). Redone (form_of layout p.relation) (disk_page layout start.contents p) (changes_at p all) (shown_page layout new disk.contents p)) (sym e)
                    (subst (Redone (form_of layout place.relation) (disk_page layout start.contents place) (changes_at place all)) (sym (pooled_held layout disk.contents new place held (set_here mid new (page_number layout place) held sets))) (made tells))
                | inr other ↦
                    subst (λ (l : List LoggedChange). Redone (form_of layout q.relation) (disk_page layout start.contents q) l (shown_page layout new disk.contents q)) (sym (at_push_other q done c (λ e. other (sym e ∙ own))))
                    (subst (Redone (form_of layout q.relation) (disk_page layout start.contents q) (changes_at q done)) (sym (other_pooled disk.contents q isq other (λ x. r.clean tells q x isq))) (was.redone q isq))
              ];
            };
        touched = λ q x isq got.
            ⊎_elim
            (λ (mine : (page_number layout q ≡ page_number layout place) × (held ≡ x)).
            subst (λ (l : List LoggedChange). 0 < length l) (sym (at_push q done c [] (own ∙ sym (one_number layout fill q place isq is mine.0)))) (some_push (changes_at q done) c))
            (λ (was : held_at mid (page_number layout q) ≡ Some x).
            subst (λ (l : List LoggedChange). 0 < length l) (sym (changes_at-append q done (c ∷ []))) (some_front (changes_at q done) (changes_at q (c ∷ [])) (r.touched q x isq was)))
            (held_after mid new (page_number layout place) held sets (page_number layout q) x got);
        clean = λ tells q x isq got none.
            ⊎_elim (λ (mine : (page_number layout q ≡ page_number layout place) × (held ≡ x)). absurd (none_Some 0 (sym none ∙ ap (λ (h : HeldPage). h.log) (sym mine.1) ∙ dirty)))
            (λ (was : held_at mid (page_number layout q) ≡ Some x). r.clean tells q x isq was none) (held_after mid new (page_number layout place) held sets (page_number layout q) x got);
        contents = λ tells. kept_more layout done (c ∷ []) start.contents disk.contents (r.contents tells);
        images = λ image now. kept_more layout done (c ∷ []) start.contents image (r.images image now);
        moments = r.moments;
      }

  -- each page that is held then is one of the layout
  pub pages_set : length held.content ≡ PAGE_SIZE → IsPageIn layout place.relation held.content → held.log ≡ Some 0 → HoldsDurablePages layout mid → HoldsDurablePages layout new
  pages_set whole checked dirty before number x got =
      ⊎_elim
      (λ (mine : (number ≡ page_number layout place) × (held ≡ x)).
      subst (IsDurablePage layout number) mine.1 (record { place = place; is = is; number = sym mine.0; whole = whole; passes = checked }, inr dirty))
      (λ (was : held_at mid number ≡ Some x). before number x was) (held_after mid new (page_number layout place) held sets number x got)

-- ---- marks

pub marked_more : (layout : DiskLayout) → PagesFillDisk layout → (done : List LoggedChange) (marks : List Bool) (place : Place) (c : LoggedChange) → IsPlace layout place → place_of c ≡ place → page_number layout place < length marks
    → AreMarked layout done marks → AreMarked layout (done ++ c ∷ []) (set marks (page_number layout place) true)
marked_more layout fill done marks place c is own within are = record {
  marked = λ q isq on. elim (same_place place q) [
    | inl e ↦ subst (λ (l : List LoggedChange). 0 < length l) (sym (at_push q done c [] (own ∙ sym e))) (some_push (changes_at q done) c)
    | inr other ↦
        subst (λ (l : List LoggedChange). 0 < length l) (sym (at_push_other q done c (λ e. other (sym e ∙ own))))
        (are.marked q isq (sym (get_or-set_other marks (page_number layout place) (page_number layout q) true false (λ e. other (one_number layout fill q place isq is e))) ∙ on))
  ];
  unmarked = λ q isq off. elim (same_place place q) [
    | inl e ↦ absurd (false≢true (sym off ∙ ap (λ (p : Place). get_or (set marks (page_number layout place) true) (page_number layout p) false) e ∙ get_or-set_same marks (page_number layout place) true false within))
    | inr other ↦
        at_push_other q done c (λ e. other (sym e ∙ own))
        ∙ are.unmarked q isq (sym (get_or-set_other marks (page_number layout place) (page_number layout q) true false (λ e. other (one_number layout fill q place isq is e))) ∙ off)
  ];
}
