-- what the facts of a relation tell of its pages
use Rattle.std.proofs.Common.{◌≡◌, inl, ⊎_elim, ℕ, ◌<◌, ◌≤◌, List, [], ◌++◌, length, map, get_or, refl, sym, ap, subst, ◌∙◌, arith, length-append}
use Rattle.std.specs.Prelude.{Option, count_by}
use Rattle.std.specs.List.{All}
use Rattle.std.proofs.lemmas.Bool.{cases_lt}
use Rattle.std.proofs.lemmas.List.{get_or-map, get_or_past, length-map}
use Rattle.std.proofs.lemmas.List.Elements.{All-append, All-cons, All-map}
use Rattle.block_model.specs.declared.place.Place.{Place}
use Rattle.block_model.specs.declared.schema.Index.{Index}
use Rattle.block_model.specs.declared.schema.Table.{Table}
use Rattle.store_layout.specs.DiskLayout.{DiskLayout, IsPlace, relation_blocks}
use Rattle.index_layout.specs.IndexReading.{map_pages_of}
use Rattle.page_layout.specs.HeapForms.{heap_form}
use Rattle.page_layout.specs.declared.page.Form.{Form}
use Rattle.page_layout.specs.declared.page.Form.TheVariants as forms
use Rattle.page_layout.specs.PageContents.{IsForm}
use Rattle.page_layout.specs.PageWrites.{IsOfIndex}
use Rattle.page_map.specs.declared.facts.PageFacts.{PageFacts}
use Rattle.page_map.specs.FactLists.{IsFirstOf, IsFirstOfIndex, tells_started}
use Rattle.page_map.specs.FirstRoom.{IsFirstRoom}
use Rattle.page_map.specs.Forms.{HasForm, IsPageIn, form_of, forms_of}
use Rattle.page_map.specs.PageFacts.{facts_in, facts_on, no_facts}
use Rattle.page_map.specs.PageMap.{IsWhole, PageMap, block_at, block_limit, page_at, unstarted_page}
use Rattle.page_map.specs.Started.{AreFirst, is_started}
use Rattle.page_map.proofs.FactsKept.{OneList}
use Rattle.page_map.proofs.Maps.{blocks_in, relations_in}
use Rattle.page_map.proofs.PageKinds.{unstarted_facts, unstarted_is}
use Rattle.page_map.proofs.Relations.{AreFactsOf, first_of_index, first_of_pages, started_first, started_same}
use Rattle.page_store.specs.StoreFacts.{facts_at}

-- the forms of a layout

pub each_form : (layout : DiskLayout) → All HasForm layout.schema.tables → (relation : ℕ) → IsForm (form_of layout relation)
unfolding forms_of
each_form layout tables relation = ⊎_elim
    (λ (low : relation < length (forms_of layout)). subst IsForm (default low) (all relation forms.Index low))
    (λ (past : length (forms_of layout) ≤ relation). subst IsForm (sym (get_or_past (forms_of layout) relation forms.Index past)) tt)
    (cases_lt relation (length (forms_of layout)))
  where
    default : relation < length (forms_of layout) → get_or (forms_of layout) relation forms.Index ≡ form_of layout relation
    default low = refl

    all : All IsForm (forms_of layout)
    all =
        All-cons IsForm forms.Status (map heap_form layout.schema.tables ++ map (λ _. forms.Index) layout.schema.indexes) tt
        (All-append IsForm (map heap_form layout.schema.tables) (map (λ _. forms.Index) layout.schema.indexes)
        (All-map IsForm heap_form layout.schema.tables (λ k d low. (tables k d low).form))
        (All-map IsForm (λ (x : Index). forms.Index) layout.schema.indexes (λ k d low. tt)))

pub forms_count : (layout : DiskLayout) → length (forms_of layout) ≡ length (relation_blocks layout)
unfolding forms_of relation_blocks
forms_count layout =
    let tables = layout.schema.tables in
    let indexes = layout.schema.indexes in
    omega (
      arith,
      length-append (map heap_form tables) (map (λ _. forms.Index) indexes),
      length-map tables heap_form,
      length-map indexes (λ (x : Index). forms.Index),
      length-append (map (λ _. layout.sizes.heap_blocks) tables) (map (λ _. layout.sizes.index_blocks) indexes),
      length-map tables (λ (t : Table). layout.sizes.heap_blocks),
      length-map indexes (λ (x : Index). layout.sizes.index_blocks),
    )

module _ (layout : DiskLayout) (pages : PageMap) (whole : IsWhole layout pages) (facts : List (List PageFacts)) (counts : map length facts ≡ relation_blocks layout)
    (known : (place : Place) → IsPlace layout place → facts_at facts place ≡ facts_on (form_of layout place.relation) (page_at pages place)) (checked : (place : Place) → IsPlace layout place → IsPageIn layout place.relation (page_at pages place))
    (relation : ℕ) (low : relation < length (relation_blocks layout)) (formed : IsForm (form_of layout relation)) where
  abbrev own_pages : List (List ℕ)
  own_pages = get_or pages relation []

  abbrev own_facts : List PageFacts
  own_facts = get_or facts relation []

  pages_long : length (get_or pages relation []) ≡ block_limit layout relation
  pages_long = blocks_in layout pages relation whole (omega (arith, low, relations_in layout pages whole))

  pub facts_long : length (get_or facts relation []) ≡ block_limit layout relation
  facts_long =
      let many : length facts ≡ length (relation_blocks layout) = sym (length-map facts (length {A = PageFacts})) ∙ ap (length {A = ℕ}) counts in
      sym (get_or-map (length {A = PageFacts}) facts relation [] 0 (omega (arith, many, low))) ∙ ap (λ (l : List ℕ). get_or l relation 0) counts

  of_relation : AreFactsOf (form_of layout relation) (get_or pages relation []) (get_or facts relation [])
  of_relation = record {
    many = omega (arith, pages_long, facts_long);
    checked = λ block. ⊎_elim
        (λ (small : block < block_limit layout relation). checked (record { relation = relation; block = block }) (record { relation = low; block = small }))
        (λ (past : block_limit layout relation ≤ block). inl (get_or_past (get_or pages relation []) block unstarted_page (omega (arith, past, pages_long)) ∙ unstarted_is))
        (cases_lt block (block_limit layout relation));
    known = λ block. ⊎_elim
        (λ (small : block < block_limit layout relation). known (record { relation = relation; block = block }) (record { relation = low; block = small }))
        (λ (past : block_limit layout relation ≤ block).
        get_or_past (get_or facts relation []) block no_facts (omega (arith, past, facts_long)) ∙ sym (unstarted_facts (form_of layout relation))
        ∙ ap (facts_on (form_of layout relation)) (sym (get_or_past (get_or pages relation []) block unstarted_page (omega (arith, past, pages_long)))))
        (cases_lt block (block_limit layout relation));
  }

  pub count_known : count_by tells_started (get_or facts relation []) ≡ count_by is_started (get_or pages relation [])
  count_known = sym (started_same (form_of layout relation) (get_or pages relation []) (get_or facts relation []) of_relation)

  pub first_known : (n : ℕ) → AreFirst (block_limit layout relation) (block_at pages relation) n → count_by tells_started (get_or facts relation []) ≡ n
  first_known n first =
      started_first (form_of layout relation) (get_or pages relation []) (get_or facts relation []) of_relation n
      (subst (λ (k : ℕ). AreFirst k (block_at pages relation) n) (sym pages_long) first)

  pub room_known : OneList → (need past : ℕ) (result : Option ℕ) → (IsOfIndex (form_of layout relation) → IsFirstOfIndex (get_or facts relation []) need past result) → ((IsOfIndex (form_of layout relation) → ⊥) → IsFirstOf (get_or facts relation []) result)
      → IsFirstRoom (form_of layout relation) (block_limit layout relation) need past (block_at pages relation) result
  room_known one need past result index rows =
      subst (λ (k : ℕ). IsFirstRoom (form_of layout relation) k need past (block_at pages relation) result) pages_long
      (by (form_of layout relation) refl)
    where
      by : (form : Form) → form_of layout relation ≡ form → IsFirstRoom (form_of layout relation) (length (get_or pages relation [])) need past (block_at pages relation) result
      by forms.Status e =
          first_of_pages (form_of layout relation) (get_or pages relation []) (get_or facts relation []) of_relation one (λ is. subst IsOfIndex e is) need past result (rows (λ is. subst IsOfIndex e is))
      by (forms.Heap row count kinds format) e =
          first_of_pages (form_of layout relation) (get_or pages relation []) (get_or facts relation []) of_relation one (λ is. subst IsOfIndex e is) need past result (rows (λ is. subst IsOfIndex e is))
      by forms.Index e =
          let is : IsOfIndex (form_of layout relation) = subst IsOfIndex (sym e) tt in
          first_of_index (form_of layout relation) (get_or pages relation []) (get_or facts relation []) of_relation is need past result (index is)

  pub maps_known : (facts_in (get_or facts relation []) 0).maps ≡ map_pages_of (block_at pages relation 0)
  maps_known = ap (λ (f : PageFacts). f.maps) (of_relation.known 0)
