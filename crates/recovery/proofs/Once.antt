-- an image opens to one map of pages
use Rattle.std.proofs.Common.{◌≡◌, ℕ, List, [], ◌∷◌, ◌++◌, sym, ◌∙◌, ap, subst, refl}
use Rattle.block_model.specs.declared.place.Place.{Place}
use Rattle.store_layout.specs.DiskLayout.{DiskLayout, IsPlace, area_size}
use Rattle.log_area.specs.Frames.{LogFrame}
use Rattle.log_area.specs.Log.{chosen_area}
use Rattle.log_area.specs.OpensInOneWay.{OpensInOneWay}
use Rattle.page_layout.specs.declared.page.Form.{Form}
use Rattle.wal_record.specs.Changes.{LoggedChange, IsChange, FullPage, PageStart, RowPut, RowMark, RowsDrop, TuplePut, TupleReplace, TupleDrop, Evacuate, MapPage, MapSet, MetaSet, StatusSet}
use Rattle.wal_record.specs.ChangeBytes.{bytes_of}
use Rattle.page_map.specs.Redo.{Redone}
use Rattle.page_map.specs.PageMap.{PageMap, page_at}
use Rattle.page_map.specs.Forms.{form_of}
use Rattle.recovery.specs.LoggedChanges.{AreChangesOf, AreLogged, changes_at}
use Rattle.recovery.specs.Opens.{disk_page, Opens}

cons_not : (x : ℕ) (xs : List ℕ) → x ∷ xs ≡ [] → ⊥
cons_not x xs e = absurd cc

pub some : (a : LoggedChange) (x : List ℕ) → bytes_of a ++ x ≡ [] → ⊥
unfolding bytes_of
some (FullPage place bytes) x h = cons_not _ _ h
some (PageStart place kind) x h = cons_not _ _ h
some (RowPut place slot bytes) x h = cons_not _ _ h
some (RowMark place slot deleter) x h = cons_not _ _ h
some (RowsDrop place slots) x h = cons_not _ _ h
some (TuplePut place slot bytes) x h = cons_not _ _ h
some (TupleReplace place slot bytes) x h = cons_not _ _ h
some (TupleDrop place slots) x h = cons_not _ _ h
some (Evacuate place) x h = cons_not _ _ h
some (MapPage place) x h = cons_not _ _ h
some (MapSet place entry spot) x h = cons_not _ _ h
some (MetaSet place maps) x h = cons_not _ _ h
some (StatusSet place entry status) x h = cons_not _ _ h

-- by the law of the layer below: no change's bytes begin those of another
module _ (one : (a b : LoggedChange) (x y : List ℕ) → IsChange a → IsChange b → bytes_of a ++ x ≡ bytes_of b ++ y → (a ≡ b) × (x ≡ y)) where
  changes_once : (bytes : List ℕ) (xs ys : List LoggedChange) → AreChangesOf bytes xs → AreChangesOf bytes ys → xs ≡ ys
  changes_once bytes [] [] a b = refl
  changes_once bytes [] (y ∷ ys) a b = absurd (some y b.0 (sym b.2 ∙ a))
  changes_once bytes (x ∷ xs) [] a b = absurd (some x a.0 (sym a.2 ∙ b))
  changes_once bytes (x ∷ xs) (y ∷ ys) a b =
      let same = one x y a.0 b.0 a.1 b.1 (sym a.2 ∙ b.2) in
      ap (λ (c : LoggedChange). c ∷ xs) same.0 ∙ ap (λ (l : List LoggedChange). y ∷ l) (changes_once b.0 xs ys (subst (λ (r : List ℕ). AreChangesOf r xs) same.1 a.3) b.3)

  -- frames hold one list of changes
  pub logged_once : (fs : List LogFrame) (xs ys : List LoggedChange) → AreLogged fs xs → AreLogged fs ys → xs ≡ ys
  logged_once [] xs ys a b = a ∙ sym b
  logged_once (f ∷ fs) xs ys a b =
      a.5 ∙ ap (λ (l : List LoggedChange). l ++ a.1) (changes_once f.changes a.0 b.0 a.2 b.2) ∙ ap (λ (l : List LoggedChange). b.0 ++ l) (logged_once fs a.1 b.1 a.4 b.4) ∙ sym b.5

-- and what changes make of a page is one page
module _ (one : (a b : LoggedChange) (x y : List ℕ) → IsChange a → IsChange b → bytes_of a ++ x ≡ bytes_of b ++ y → (a ≡ b) × (x ≡ y)) (redo : (form : Form) (page a b : List ℕ) (changes : List LoggedChange) → Redone form page changes a → Redone form page changes b → a ≡ b) where
  pub opens_once : (layout : DiskLayout) (image : List ℕ) → OpensInOneWay (chosen_area (area_size layout) image) → (a b : PageMap) → Opens layout image a → Opens layout image b → (place : Place) → IsPlace layout place → page_at a place ≡ page_at b place
  opens_once layout image way a b oa ob place is =
      let frames : oa.frames ≡ ob.frames = way.frames oa.frames ob.frames oa.opened ob.opened in
      let changes : oa.changes ≡ ob.changes = logged_once one ob.frames oa.changes ob.changes (subst (λ (fs : List LogFrame). AreLogged fs oa.changes) frames oa.decoded) ob.decoded in
      redo (form_of layout place.relation) (disk_page layout image place) (page_at a place) (page_at b place) (changes_at place ob.changes)
      (subst (λ (cs : List LoggedChange). Redone (form_of layout place.relation) (disk_page layout image place) (changes_at place cs) (page_at a place)) changes (oa.redone place is)) (ob.redone place is)
