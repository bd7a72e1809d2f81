-- fresh pages are of their forms
use Rattle.std.proofs.Common.{◌≡◌, inl, inr, ℕ, zero, suc, ◌+◌, ◌<◌, ◌≤◌, ◌++◌, length, length-append, refl, sym, ◌∙◌, subst, arith, lit<}
use Rattle.std.specs.Prelude.{None, Option, replicate}
use Rattle.std.proofs.lemmas.Bool.{cases_lt}
use Rattle.std.proofs.lemmas.List.{length-replicate}
use Rattle.block_model.specs.declared.place.Place.{Place}
use Rattle.block_model.specs.declared.place.Spot.{Spot}
use Rattle.store_layout.specs.DiskLayout.{DiskLayout, IsPlace}
use Rattle.store_layout.specs.RelationCounts.{behind_both, count_relations}
use Rattle.index_layout.specs.declared.format.TheConstants.{MAP_ENTRIES}
use Rattle.index_layout.specs.IndexPages.{AreEntries, Map, Meta, map_bytes, meta_bytes}
use Rattle.page_layout.specs.declared.page.Form.{Form}
use Rattle.page_layout.specs.declared.page.Form.TheVariants as forms
use Rattle.page_layout.specs.HeapForms.{heap_form}
use Rattle.page_layout.specs.PageContents.{IsPageOf, IsUnstarted, header_bytes, statuses}
use Rattle.page_map.specs.Forms.{IsPageIn, form_of, forms_of}
use Rattle.store_format.specs.FreshStore.{fresh_index_page, fresh_page, unstarted_page, unused_statuses}
use Rattle.store_format.proofs.Places.{fresh_index, fresh_status, fresh_table, index_others}

unstarted : IsUnstarted unstarted_page
unfolding unstarted_page
unstarted = refl

statuses_pass : IsPageOf forms.Status unused_statuses
unfolding unused_statuses
statuses_pass = inr (statuses (replicate 8160 0), record { bytes = (replicate 8160 0, length-replicate {A = ℕ} 8160 0, refl, refl) })

no_entries : (n : ℕ) → AreEntries (replicate n None)
no_entries zero = tt
no_entries (suc n) = (tt, no_entries n)

meta_pass : IsPageOf forms.Index (meta_bytes 1)
unfolding meta_bytes
meta_pass = inr (Meta 1 (record { small = lit< tt; bytes = refl }), λ e. let three : 3 ≡ 0 = e in omega (arith, three))

map_pass : IsPageOf forms.Index (map_bytes (replicate MAP_ENTRIES None))
unfolding map_bytes
map_pass = inr (Map (replicate MAP_ENTRIES None) (record { counted = length-replicate {A = Option Spot} MAP_ENTRIES None; are = no_entries MAP_ENTRIES; bytes = refl }), λ e. let four : 4 ≡ 0 = e in omega (arith, four))

index_pass : (block : ℕ) → IsPageOf forms.Index (fresh_index_page block)
index_pass zero = meta_pass
index_pass (suc zero) = map_pass
index_pass (suc (suc block)) = inl (index_others (suc (suc block)) (λ e. absurd (omega (arith, e))) (λ e. absurd (omega (arith, e))) ∙ unstarted)

-- the forms of the statuses and of an index
form_status : (layout : DiskLayout) → form_of layout 0 ≡ forms.Status
unfolding forms_of
form_status layout = refl

form_index : (layout : DiskLayout) (k : ℕ) → length layout.schema.tables ≤ k → suc k < 1 + (length layout.schema.tables + length layout.schema.indexes) → form_of layout (suc k) ≡ forms.Index
unfolding forms_of
form_index layout k past within = behind_both heap_form forms.Index layout.schema.tables layout.schema.indexes k forms.Index past (omega (arith, within))

pass_at : (layout : DiskLayout) (r b : ℕ) → IsPlace layout (record { relation = r; block = b }) → IsPageIn layout r (fresh_page layout (record { relation = r; block = b }))
pass_at layout zero b is =
    subst (λ (form : Form). IsPageOf form (fresh_page layout (record { relation = zero; block = b }))) (sym (form_status layout))
    (subst (IsPageOf forms.Status) (sym (fresh_status layout (record { relation = zero; block = b }) refl)) statuses_pass)
pass_at layout (suc k) b is =
    let place : Place = record { relation = suc k; block = b } in
    elim (cases_lt k (length layout.schema.tables)) [
      | inl table ↦ inl (fresh_table layout place (λ e. absurd (omega (arith, e))) (omega (arith, table)) ∙ unstarted)
      | inr past ↦
          let within : suc k < 1 + (length layout.schema.tables + length layout.schema.indexes) = omega (arith, is.relation, count_relations layout) in
          subst (λ (form : Form). IsPageOf form (fresh_page layout place)) (sym (form_index layout k past within))
          (subst (IsPageOf forms.Index) (sym (fresh_index layout place (omega (arith, past)))) (index_pass b))
    ]

pub fresh_passes : (layout : DiskLayout) (place : Place) → IsPlace layout place → IsPageIn layout place.relation (fresh_page layout place)
fresh_passes layout place is = pass_at layout place.relation place.block is

-- and whole
length-filled : (kind n : ℕ) → length (header_bytes kind ++ replicate n 0) ≡ 32 + n
length-filled kind n = omega (arith, length-append (header_bytes kind) (replicate n 0), length-replicate {A = ℕ} n 0)

pub length-statuses : length unused_statuses ≡ 8192
unfolding unused_statuses
length-statuses = length-filled 1 8160
