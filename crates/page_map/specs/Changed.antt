-- what changes of one page make of the pages
use Rattle.std.specs.Prelude.{◌≡◌, ◌≢◌, ℕ, List, [], ◌∷◌}
use Rattle.std.proofs.Common.{sym, subst}
use Rattle.block_model.specs.declared.place.Place.{Place}
use Rattle.page_redo.specs.DiskLayout.{DiskLayout}
use Rattle.page_redo.specs.Form.{Form}
use Rattle.page_redo.specs.Redo.{Means, Redone}
use Rattle.page_map.specs.Forms.{form_of}
use Rattle.page_map.specs.PageMap.{PageMap, page_at}
use Rattle.page_redo.specs.Changes.{LoggedChange}

-- the page at the place is what the changes make of it, one after the other, and every other page is as before
pub record Changed (layout : DiskLayout) (place : Place) (changes : List LoggedChange) (old new : PageMap) : Type 0 where
  pub redone : Redone (form_of layout place.relation) (page_at old place) changes (page_at new place)
  pub others : (other : Place) → other ≢ place → page_at new other ≡ page_at old other

-- one change makes the page
pub redone_once : (form : Form) (old : List ℕ) (change : LoggedChange) (new : List ℕ) → Redone form old (change ∷ []) new → Means form old change new
redone_once form old change new redone = subst (Means form old change) (sym redone.4) redone.3

-- two changes make the page, with one in between
pub redone_twice : (form : Form) (old : List ℕ) (first second : LoggedChange) (new : List ℕ) → Redone form old (first ∷ second ∷ []) new → (next : List ℕ) × Means form old first next × Means form next second new
redone_twice form old first second new redone = (redone.0, redone.3, redone_once form redone.0 second new redone.4)
