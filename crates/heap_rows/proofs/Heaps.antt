-- What the limits of a layout say of a table.
use Rattle.std.proofs.Common.{◌≡◌, ℕ, zero, suc, ◌+◌, ◌*◌, ◌/◌, ◌<◌, ◌≤◌, nat_le, List, [], ◌∷◌, ◌++◌, length, map, get_or, refl, ap, ◌∙◌, arith}
use Rattle.std.proofs.lemmas.Nat.{mul-le}
use Rattle.std.proofs.lemmas.Bool.{and_parts, leb-true}
use Rattle.std.proofs.lemmas.List.{get_or-map, get_or_append_left, length-map}
use Rattle.std.proofs.lemmas.List.Sums.{AllPass-from_list_all}
use Rattle.block_model.specs.declared.schema.Column.{Column}
use Rattle.block_model.specs.declared.schema.Table.{Table}
use Rattle.store_layout.specs.DiskLayout.{DiskLayout, relation_blocks}
use Rattle.store_layout.specs.FirstBrokenRule.{KeepsLimits}
use Rattle.store_layout.specs.Limits.{rows_fit}
use Rattle.block_model.specs.RowSize.{row_size}
use Rattle.page_layout.specs.declared.page.Form.{Form}
use Rattle.page_layout.specs.declared.page.Form.TheVariants as forms
use Rattle.page_layout.specs.PageContents.{IsForm}
use Rattle.page_map.specs.Forms.{form_of, forms_of}
use Rattle.page_layout.specs.HeapForms.{heap_form}
use Rattle.page_map.specs.PageMap.{block_limit}
use Rattle.heap_rows.specs.Heaps.{relation_of, no_table, table_at, form_at, kinds_at, slots_a_page}

-- a table within the limits has a row on each page
pub some_row : (layout : DiskLayout) (table : ℕ) → table < length layout.schema.tables → KeepsLimits layout.schema layout.sizes → 1 ≤ (table_at layout table).rows_per_page
some_row layout table there limits =
    let t : Table = table_at layout table in
    let s : ℕ = row_size (map (λ (c : Column). c.kind) t.columns) in
    leb-true 1 t.rows_per_page (and_parts (nat_le 1 t.rows_per_page) (nat_le t.rows_per_page (8160 / s)) (AllPass-from_list_all rows_fit layout.schema.tables (limits 4) table no_table there)).0

-- the relation of a table

same-there : {X Y : Type 0} (h i : ℕ) (ts : List X) (is : List Y) (n : ℕ) → n < length ts → get_or (map (λ _. h) ts ++ map (λ _. i) is) n 0 ≡ h
same-there h i [] is n below = absurd (omega arith)
same-there h i (t ∷ ts) is zero below = refl
same-there h i (t ∷ ts) is (suc n) below = same-there h i ts is n (omega arith)

pub limit_is : (d : DiskLayout) (table relation : ℕ) → relation ≡ table + 1 → table < length d.schema.tables → block_limit d relation ≡ d.sizes.heap_blocks
unfolding relation_blocks
limit_is d table relation is there =
    let next : relation ≡ suc table = omega arith in
    ap (block_limit d) next ∙ same-there d.sizes.heap_blocks d.sizes.index_blocks d.schema.tables d.schema.indexes table there

pub form_found : (d : DiskLayout) (table : ℕ) → table < length d.schema.tables → form_of d (relation_of table) ≡ form_at d table
unfolding forms_of
form_found d table there =
    let next : table + 1 ≡ suc table = omega arith in
    let heaps : List Form = map heap_form d.schema.tables in
    ap (form_of d) next
    ∙ get_or_append_left heaps (map (λ _. forms.Index) d.schema.indexes) forms.Index table (omega (arith, there, length-map d.schema.tables heap_form))
    ∙ get_or-map heap_form d.schema.tables table no_table forms.Index there

-- a row has 22 bytes and more, so a page has at most 370
few_fit : (count row : ℕ) → 22 ≤ row → count * row ≤ 8160 → count ≤ 370
few_fit count row least room = let less : count * 22 ≤ count * row = mul-le count 22 count row (omega arith) least in omega arith

pub few_rows : (layout : DiskLayout) (table : ℕ) → IsForm (form_at layout table) → slots_a_page layout table ≤ 370
few_rows layout table is = few_fit (slots_a_page layout table) (row_size (kinds_at layout table)) (omega arith) is.1
