-- A change that begins no page anew fits only a page of the form.
use Rattle.std.proofs.Common.{◌≡◌, ℕ, inr, List, refl, Bor}
use Rattle.wal_record.specs.Place.{Place}
use Rattle.wal_record.specs.declared.change.Change.{Change}
use Rattle.wal_record.specs.declared.change.Change.TheVariants as code
use Rattle.wal_record.specs.Changes.{logged}
use Rattle.page_layout.specs.declared.page.Form.{Form}
use Rattle.page_layout.specs.declared.page.Form.TheVariants as forms
use Rattle.page_layout.specs.IndexLaws.{index_page_of}
use Rattle.page_layout.specs.PageContents.{IsPageOf}
use Rattle.page_layout.specs.SlotLaws.{has_page}
use Rattle.page_redo.specs.Redo.{Fits, IsOfStatuses}

status_page : (form : Form) (page : List ℕ) → IsOfStatuses form page → IsPageOf form page
status_page forms.Status page is = inr is
status_page (forms.Heap row count ks format) page is = absurd is
status_page forms.Index page is = absurd is

pub fits_page : (form : Form) (page : List ℕ) (change : Change) → ((place : Place) (bytes : Bor (List ℕ)) → change ≡ code.FullPage place bytes → ⊥) → ((place : Place) (kind : ℕ) → change ≡ code.PageStart place kind → ⊥) → Fits form page (logged change) → IsPageOf form page
fits_page form page (code.FullPage place bytes) full start fit = absurd (full place bytes refl)
fits_page form page (code.PageStart place kind) full start fit = absurd (start place kind refl)
fits_page form page (code.RowPut place slot bytes) full start fit = has_page form page fit.0.0 fit.0.1
fits_page form page (code.RowMark place slot deleter) full start fit = has_page form page fit.0 fit.2
fits_page form page (code.RowsDrop place slots) full start fit = has_page form page fit.0.0 fit.0.1
fits_page form page (code.StatusSet place entry status) full start fit = status_page form page fit.0
fits_page form page (code.TuplePut place slot bytes) full start fit = index_page_of form page fit.0.0 fit.0.1
fits_page form page (code.TupleReplace place slot bytes) full start fit = index_page_of form page fit.0.0 fit.0.1
fits_page form page (code.TupleDrop place slots) full start fit = index_page_of form page fit.0.0 fit.0.1
fits_page form page (code.Evacuate place) full start fit = index_page_of form page fit.0.0 fit.0.1
fits_page form page (code.MapPage place) full start fit = index_page_of form page fit.0.0 fit.0.1
fits_page form page (code.MapSet place entry spot) full start fit = index_page_of form page fit.0.0 fit.0.1
fits_page form page (code.MetaSet place maps) full start fit = index_page_of form page fit.0.0 fit.0.1
