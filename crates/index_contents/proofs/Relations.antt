-- The relation of an index, its form, its limit and its pages.
use Rattle.std.proofs.Common.{◌≡◌, ℕ, zero, suc, ◌+◌, ◌<◌, inl, inr, List, [], ◌∷◌, ◌++◌, length, map, get_or, refl, ap, subst, ◌∙◌, arith}
use Rattle.block_model.specs.declared.place.Place.{Place}
use Rattle.index_layout.specs.IndexPages.{IsIndexPage, Unstarted}
use Rattle.store_layout.specs.DiskLayout.{DiskLayout, relation_blocks}
use Rattle.recovery.specs.HeapForms.{heap_form}
use Rattle.recovery.specs.Form.TheVariants as forms
use Rattle.recovery.specs.Form.{Form}
use Rattle.recovery.specs.Forms.{IsPageIn, form_of, forms_of}
use Rattle.recovery.specs.PageContents.{IsPageOf}
use Rattle.recovery.specs.PageMap.{PageMap, block_limit, page_at}
use Rattle.index_contents.specs.IndexContents.{index_page, relation_of}

-- an element behind others

there : {A Y : Type 0} (i d : A) (is : List Y) (n : ℕ) → n < length is → get_or (map (λ _. i) is) n d ≡ i
there i d [] n below = absurd (omega arith)
there i d (x ∷ is) zero below = refl
there i d (x ∷ is) (suc n) below = there i d is n (omega arith)

behind : {A X Y : Type 0} (f : X → A) (i d : A) (ts : List X) (is : List Y) (n : ℕ) → n < length is → get_or (map f ts ++ map (λ _. i) is) (length ts + n) d ≡ i
behind f i d [] is n below = let same : 0 + n ≡ n = omega arith in ap (λ (k : ℕ). get_or (map (λ _. i) is) k d) same ∙ there i d is n below
behind f i d (t ∷ ts) is n below =
    let next : suc (length ts) + n ≡ suc (length ts + n) = omega arith in
    ap (λ (k : ℕ). get_or (f t ∷ (map f ts ++ map (λ _. i) is)) k d) next ∙ behind f i d ts is n below

pub limit_is : (d : DiskLayout) (index : ℕ) → index < length d.schema.indexes → block_limit d (relation_of d index) ≡ d.sizes.index_blocks
unfolding relation_blocks
limit_is d index below =
    let next : length d.schema.tables + index + 1 ≡ suc (length d.schema.tables + index) = omega arith in
    ap (block_limit d) next ∙ behind (λ _. d.sizes.heap_blocks) d.sizes.index_blocks 0 d.schema.tables d.schema.indexes index below

pub form_is : (d : DiskLayout) (index : ℕ) → index < length d.schema.indexes → form_of d (relation_of d index) ≡ forms.Index
unfolding forms_of
form_is d index below =
    let next : length d.schema.tables + index + 1 ≡ suc (length d.schema.tables + index) = omega arith in
    ap (form_of d) next ∙ behind heap_form forms.Index forms.Index d.schema.tables d.schema.indexes index below

-- a page that passes the check of an index's relation
pub is_index : (layout : DiskLayout) (relation : ℕ) (page : List ℕ) → form_of layout relation ≡ forms.Index → IsPageIn layout relation page → IsIndexPage page
is_index layout relation page form is = elim (subst (λ (f : Form). IsPageOf f page) form is) [
  | inl zeros ↦ Unstarted zeros
  | inr started ↦ started.0
]

pub pages_checked : (layout : DiskLayout) (pages : PageMap) (index : ℕ) → index < length layout.schema.indexes
    → ((place : Place) → IsPageIn layout place.relation (page_at pages place)) → (block : ℕ) → IsIndexPage (index_page layout pages index block)
pages_checked layout pages index below checked block =
    is_index layout (relation_of layout index) (index_page layout pages index block) (form_is layout index below) (checked (record { relation = relation_of layout index; block = block }))
