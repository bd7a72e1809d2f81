-- laws of the pages of an index: their kinds, and that they are pages of the form
use Rattle.std.proofs.Common.{◌≡◌, ◌≢◌, ℕ, inl, inr, List, get_or, refl, sym, ap, subst, ⊎_elim, arith}
use Rattle.std.specs.Prelude.{Option}
use Rattle.block_model.specs.declared.place.Spot.{Spot}
use Rattle.index_layout.specs.IndexPages.{IsIndexPage, IsMap, IsMeta, IsRegular, Map, Meta, Regular, Slot, Unstarted, map_bytes, meta_bytes, regular_bytes}
use Rattle.page_layout.specs.declared.page.Form.{Form}
use Rattle.page_layout.specs.declared.page.Form.TheVariants as forms
use Rattle.page_layout.specs.PageContents.{IsPageOf}
use Rattle.page_layout.specs.PageWrites.{IsOfIndex}

-- the kind of a page

pub meta_front : (pages : ℕ) (page : List ℕ) → IsMeta pages page → get_or page 0 0 ≡ 3
unfolding meta_bytes
meta_front pages page is = ap (λ (l : List ℕ). get_or l 0 0) is.bytes

pub map_front : (entries : List (Option Spot)) (page : List ℕ) → IsMap entries page → get_or page 0 0 ≡ 4
unfolding map_bytes
map_front entries page is = ap (λ (l : List ℕ). get_or l 0 0) is.bytes

pub regular_front : (kind : ℕ) (slots : List Slot) (page : List ℕ) → IsRegular kind slots page → get_or page 0 0 ≡ kind
unfolding regular_bytes
regular_front kind slots page is = ap (λ (l : List ℕ). get_or l 0 0) is.has.bytes

regular_some : (kind : ℕ) (slots : List Slot) (page : List ℕ) → IsRegular kind slots page → get_or page 0 0 ≢ 0
regular_some kind slots page is = λ none. ⊎_elim (λ five. absurd (omega (arith, none, five, regular_front kind slots page is))) (λ six. absurd (omega (arith, none, six, regular_front kind slots page is))) is.has.of

-- a page of an index is one of the form

pub meta_page : (pages : ℕ) (page : List ℕ) → IsMeta pages page → IsPageOf forms.Index page
meta_page pages page is = inr (Meta pages is, λ none. absurd (omega (arith, none, meta_front pages page is)))

pub map_page : (entries : List (Option Spot)) (page : List ℕ) → IsMap entries page → IsPageOf forms.Index page
map_page entries page is = inr (Map entries is, λ none. absurd (omega (arith, none, map_front entries page is)))

pub regular_page : (kind : ℕ) (slots : List Slot) (page : List ℕ) → IsRegular kind slots page → IsPageOf forms.Index page
regular_page kind slots page is = inr (Regular kind slots is, regular_some kind slots page is)

pub index_page : (page : List ℕ) → IsIndexPage page → IsPageOf forms.Index page
index_page page (Unstarted zeros) = inl zeros
index_page page (Meta pages is) = meta_page pages page is
index_page page (Map entries is) = map_page entries page is
index_page page (Regular kind slots is) = regular_page kind slots page is

-- and the other way round
pub page_index : (page : List ℕ) → IsPageOf forms.Index page → IsIndexPage page
page_index page (inl zeros) = Unstarted zeros
page_index page (inr started) = started.0

pub page_index_of : (form : Form) (page : List ℕ) → IsOfIndex form → IsPageOf form page → IsPageOf forms.Index page
page_index_of forms.Status page index is = absurd index
page_index_of (forms.Heap row count ks format) page index is = absurd index
page_index_of forms.Index page index is = is

-- a form of an index is that one
pub index_form : (form : Form) → IsOfIndex form → form ≡ forms.Index
index_form forms.Status index = absurd index
index_form (forms.Heap row count ks format) index = absurd index
index_form forms.Index index = refl

pub index_page_of : (form : Form) (page : List ℕ) → IsOfIndex form → IsPageOf forms.Index page → IsPageOf form page
index_page_of form page index is = subst (λ (f : Form). IsPageOf f page) (sym (index_form form index)) is
