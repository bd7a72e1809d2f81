-- an index of fresh pages
use Rattle.std.proofs.Common.{◌≡◌, inl, inr, ℕ, zero, suc, ◌%◌, ◌<◌, ◌≤◌, Bool, true, false, List, length, refl, sym, ◌∙◌, ap, arith, lit<}
use Rattle.std.specs.Prelude.{nat_le, replicate, slice_index, slice_index_or, Option, None, if◌then◌else◌}
use Rattle.std.proofs.lemmas.Bool.{cases_lt, lt-leb}
use Rattle.std.proofs.lemmas.List.{get_or-replicate, length-replicate}
use Rattle.block_model.specs.declared.place.Place.{Place}
use Rattle.block_model.specs.declared.place.Spot.{Spot}
use Rattle.store_layout.specs.DiskLayout.{DiskLayout, HasBoundedSizes, IsPlace}
use Rattle.store_layout.specs.RelationCounts.{blocks_of_index, count_relations}
use Rattle.page_map.specs.PageMap.{IsWhole, PageMap, block_at}
use Rattle.index_layout.specs.declared.format.TheConstants.{MAP, MAP_ENTRIES, META}
use Rattle.index_layout.specs.IndexPages.{AreEntries, IsMap, IsMeta, meta_bytes}
use Rattle.index_layout.specs.IndexReading.{entries_of, map_pages_of}
use Rattle.coverage.specs.IndexView.{Mapping, map_page_of}
use Rattle.coverage.specs.PageOrder.{AreNewPages}
use Rattle.index_contents.specs.Calls.{past_the_limit}
use Rattle.index_contents.specs.IndexContents.{contents, contents_in, entry_in, entry_on, index_page, kind_at, pages_in, relation_of, tuple_on}
use Rattle.index_contents.specs.MapLaws.{is_of_map}
use Rattle.index_contents.specs.Reading.{unstarted_kind}
use Rattle.store_format.specs.FreshStore.{fresh_index_page, fresh_page, unstarted_page}
use Rattle.store_format.proofs.Places.{fresh_index, index_others}
use Rattle.store_image.proofs.Ordered.{no_tuple_on}
use Rattle.session_starts.specs.NewTables.{IsNewIndex}

-- a page has one list of entries, and a metapage one number
abbrev pub HasOneMap : Type 0
HasOneMap = (list : List (Option Spot)) (page : List ℕ) → IsMap list page → list ≡ entries_of page

abbrev pub HasOneCount : Type 0
HasOneCount = (number : ℕ) (page : List ℕ) → IsMeta number page → number ≡ map_pages_of page

none_in : (n k : ℕ) → ◌≡◌ {A = Option Spot} (slice_index_or (replicate n None) k None) None
none_in zero k = refl
none_in (suc n) zero = refl
none_in (suc n) (suc k) = none_in n k

either_none : (b : Bool) (e : Option Spot) → e ≡ None → (if b then e else None) ≡ None
either_none true e none = none
either_none false e none = refl

module _ (limit : ℕ) (page : ℕ → List ℕ) (some : 3 ≤ limit) (meta : IsMeta 1 (page 0)) (map : IsMap (replicate MAP_ENTRIES None) (page 1)) (rest : (block : ℕ) → 2 ≤ block → slice_index (page block) 0 ≡ 0) (one : HasOneMap) (count : HasOneCount) where
  kind_first : slice_index (page 0) 0 ≡ META
  unfolding meta_bytes
  kind_first = ap (λ (p : List ℕ). slice_index p 0) meta.bytes

  kind_second : slice_index (page 1) 0 ≡ MAP
  kind_second = is_of_map (replicate MAP_ENTRIES None) (page 1) map

  counted : map_pages_of (page 0) ≡ 1
  counted = sym (count 1 (page 0) meta)

  entry_second : (range : ℕ) → entry_on (page 1) range ≡ None
  entry_second range =
      ap (λ (l : List (Option Spot)). slice_index_or l (range % MAP_ENTRIES) None) (sym (one (replicate MAP_ENTRIES None) (page 1) map)) ∙ none_in MAP_ENTRIES (range % MAP_ENTRIES)

  no_entry : (range : ℕ) → entry_in page range ≡ None
  no_entry range = elim (cases_lt 1 (map_page_of range)) [
    | inl past ↦ ap (λ (b : Bool). if b then entry_on (page (map_page_of range)) range else None) (lt-leb (map_page_of range) (map_pages_of (page 0)) (omega (arith, past, counted)))
    | inr within ↦
        let at : map_page_of range ≡ 1 = omega (arith, within) in
        either_none (nat_le (map_page_of range) (map_pages_of (page 0))) (entry_on (page (map_page_of range)) range) (ap (λ (b : ℕ). entry_on (page b) range) at ∙ entry_second range)
  ]

  no_tuple : (block slot : ℕ) → tuple_on (page block) slot ≡ None
  no_tuple zero slot = no_tuple_on (page 0) META slot kind_first refl
  no_tuple (suc zero) slot = no_tuple_on (page 1) MAP slot kind_second refl
  no_tuple (suc (suc block)) slot = no_tuple_on (page (suc (suc block))) 0 slot (rest (suc (suc block)) (omega arith)) refl

  new_pages : AreNewPages (pages_in limit page)
  new_pages = record {
    one = counted;
    map = first_kinds;
    rest = λ p past. ap (kind_at p) (rest p past);
    below = omega (arith, some);
  }
    where
      first_kinds : (p : ℕ) → p < 2 → (pages_in limit page).kind p ≡ Mapping
      first_kinds zero low = ap (kind_at 0) kind_first
      first_kinds (suc zero) low = ap (kind_at 1) kind_second
      first_kinds (suc (suc p)) low = absurd (omega (arith, low))

  pub new_contents : IsNewIndex (contents_in limit page)
  new_contents = record { entry = no_entry; bytes = λ x. no_tuple x.block x.slot; pages = new_pages }

no_spots : (n : ℕ) → AreEntries (replicate n None)
no_spots zero = tt
no_spots (suc n) = (tt, no_spots n)

-- the pages of an index of a layout
module _ (layout : DiskLayout) (sizes : HasBoundedSizes layout) (pages : PageMap) (whole : IsWhole layout pages) (fresh : (place : Place) → IsPlace layout place → block_at pages place.relation place.block ≡ fresh_page layout place) (index : ℕ) (within : index < length layout.schema.indexes) where
  fresh_block : (block : ℕ) → block < layout.sizes.index_blocks → index_page layout pages index block ≡ fresh_index_page block
  fresh_block block below =
      let place : Place = record { relation = relation_of layout index; block = block } in
      fresh place (record { relation = omega (arith, within, count_relations layout); block = omega (arith, below, blocks_of_index layout (relation_of layout index) (omega arith) (omega (arith, within))) })
      ∙ fresh_index layout place (omega arith)

  zero_kind : slice_index unstarted_page 0 ≡ 0
  unfolding unstarted_page
  zero_kind = get_or-replicate {A = ℕ} 8192 0 0 0 (lit< tt)

  rest_kind : (block : ℕ) → 2 ≤ block → slice_index (index_page layout pages index block) 0 ≡ 0
  rest_kind block behind = elim (cases_lt block layout.sizes.index_blocks) [
    | inl below ↦
        ap (λ (p : List ℕ). slice_index p 0) (fresh_block block below ∙ index_others block (λ e. absurd (omega (arith, behind, e))) (λ e. absurd (omega (arith, behind, e)))) ∙ zero_kind
    | inr past ↦
        ap (λ (p : List ℕ). slice_index p 0) (past_the_limit layout pages (relation_of layout index) block whole (omega (arith, within, count_relations layout))
        (omega (arith, past, blocks_of_index layout (relation_of layout index) (omega arith) (omega (arith, within))))) ∙ unstarted_kind
  ]

  pub fresh_index_contents : HasOneMap → HasOneCount → IsNewIndex (contents layout pages index)
  unfolding contents
  fresh_index_contents one count = new_contents layout.sizes.index_blocks (index_page layout pages index) sizes.some_index_blocks
      (record { small = lit< tt; bytes = fresh_block 0 (omega (arith, sizes.some_index_blocks)) })
      (record { counted = length-replicate {A = Option Spot} MAP_ENTRIES None; are = no_spots MAP_ENTRIES; bytes = fresh_block 1 (omega (arith, sizes.some_index_blocks)) })
      rest_kind one count
