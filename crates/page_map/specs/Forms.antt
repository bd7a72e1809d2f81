-- what the pages of each relation are
use Rattle.std.specs.Prelude.{ℕ, ◌≤◌, List, [], ◌∷◌, ◌++◌, length, map, slice_index_or}
use Rattle.block_model.specs.declared.schema.Table.{Table}
use Rattle.page_redo.specs.DiskLayout.{DiskLayout}
use Rattle.page_redo.specs.HeapForms.{heap_form}
use Rattle.page_redo.specs.Form.{Form}
use Rattle.page_redo.specs.Form.TheVariants as forms
use Rattle.page_redo.specs.PageContents.{IsForm, IsPageOf}
use Rattle.page_redo.specs.Redo.{Fits, Means}
use Rattle.page_redo.specs.Changes.{LoggedChange}

-- at most eight columns, and the rows of a page fit it
pub record HasForm (table : Table) : Type 0 where
  pub few : length table.columns ≤ 8
  pub form : IsForm (heap_form table)

-- the statuses, then the heaps of the tables, then the indexes
unfoldable pub forms_of : DiskLayout → List Form
forms_of layout = forms.Status ∷ map heap_form layout.schema.tables ++ map (λ _. forms.Index) layout.schema.indexes

-- the form of the relation; behind the last one it is that of an index
abbrev pub form_of : DiskLayout → ℕ → Form
form_of layout relation = slice_index_or (forms_of layout) relation forms.Index

-- the page passes the check of the relation's form
abbrev pub IsPageIn : DiskLayout → ℕ → List ℕ → Type 0
IsPageIn layout relation page = IsPageOf (form_of layout relation) page

-- the page of the relation takes the change
abbrev pub FitsIn : DiskLayout → ℕ → List ℕ → LoggedChange → Type 0
FitsIn layout relation page change = Fits (form_of layout relation) page change

-- the page takes the changes, each as the ones before it leave the page
abbrev pub FitInTurn : Form → List ℕ → List LoggedChange → Type 0
FitInTurn form page [] = Unit {0}
FitInTurn form page (change ∷ changes) = Fits form page change × ((next : List ℕ) → Means form page change next → FitInTurn form next changes)
