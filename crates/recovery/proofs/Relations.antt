-- the form of the pages of each relation of a layout
use Rattle.std.proofs.Common.{◌≡◌, ℕ, zero, suc, ◌-◌, ◌<◌, ◌≤◌, List, [], ◌∷◌, ◌++◌, length, map, get_or, refl, ◌∙◌, ap, arith}
use Rattle.block_model.specs.declared.schema.Table.{Table}
use Rattle.store_layout.specs.DiskLayout.{DiskLayout}
use Rattle.store_layout.specs.RelationCounts.{of_both}
use Rattle.page_layout.specs.declared.page.Form.TheVariants as forms
use Rattle.page_layout.specs.HeapForms.{heap_form}
use Rattle.page_map.specs.Forms.{form_of, forms_of}

pub form_status : (layout : DiskLayout) (r : ℕ) → r ≡ 0 → form_of layout r ≡ forms.Status
unfolding forms_of
form_status layout r is = ap (λ (k : ℕ). get_or (forms_of layout) k forms.Index) is

pub form_table : (layout : DiskLayout) (r : ℕ) (table : Table) → 0 < r → r - 1 < length layout.schema.tables → form_of layout r ≡ heap_form (get_or layout.schema.tables (r - 1) table)
unfolding forms_of
form_table layout zero table some within = absurd (omega (arith, some))
form_table layout (suc r) table some within = of_both heap_form forms.Index layout.schema.tables layout.schema.indexes r table forms.Index (omega (arith, within)) ∙ ap (λ (k : ℕ). heap_form (get_or layout.schema.tables k table)) (omega arith)

pub form_index : (layout : DiskLayout) (r : ℕ) → length layout.schema.tables < r → form_of layout r ≡ forms.Index
unfolding forms_of
form_index layout zero past = absurd (omega (arith, past))
form_index layout (suc r) past = behind layout.schema.tables r (omega (arith, past))
  where
    last : {Y : Type 0} (is : List Y) (k : ℕ) → get_or (map (λ _. forms.Index) is) k forms.Index ≡ forms.Index
    last [] k = refl
    last (x ∷ is) zero = refl
    last (x ∷ is) (suc k) = last is k

    behind : (ts : List Table) (k : ℕ) → length ts ≤ k → get_or (map heap_form ts ++ map (λ _. forms.Index) layout.schema.indexes) k forms.Index ≡ forms.Index
    behind [] k le = last layout.schema.indexes k
    behind (t ∷ ts) zero le = absurd (omega (arith, le))
    behind (t ∷ ts) (suc k) le = behind ts k (omega (arith, le))
