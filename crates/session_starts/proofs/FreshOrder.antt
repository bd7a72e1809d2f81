-- the kinds of fresh pages, and their order
use Rattle.std.proofs.Common.{◌≡◌, inl, inr, ℕ, zero, suc, ◌+◌, ◌<◌, ◌≤◌, List, length, refl, sym, ◌∙◌, ap, arith, lit<}
use Rattle.std.specs.Prelude.{Option}
use Rattle.std.proofs.lemmas.List.{get_or-replicate}
use Rattle.block_model.specs.declared.place.Place.{Place}
use Rattle.block_model.specs.declared.place.Spot.{Spot}
use Rattle.byte_fields.specs.Fields.{number-bytes}
use Rattle.store_layout.specs.DiskLayout.{DiskLayout, HasBoundedSizes, relation_blocks}
use Rattle.store_layout.specs.RelationCounts.{blocks_of_index, blocks_of_statuses, count_relations}
use Rattle.index_layout.specs.IndexPages.{map_bytes, meta_bytes}
use Rattle.page_map.specs.PageMap.{block_at, block_limit}
use Rattle.page_map.specs.PageMap as pages
use Rattle.recovery.specs.PageOrder.{AreInOrder, IsIndexInOrder, StartsFirst, kind_of, map_pages}
use Rattle.store_format.specs.FreshStore.{fresh_index_page, unstarted_page, unused_statuses}
use Rattle.store_format.proofs.Places.{fresh_index, fresh_status, fresh_table, index_others}
use Rattle.session_starts.specs.FreshPages.{fresh_pages}
use Rattle.session_starts.proofs.FreshPlaces.{fresh_at}

kind_statuses : kind_of unused_statuses ≡ 1
unfolding unused_statuses
kind_statuses = refl

kind_unstarted : kind_of unstarted_page ≡ 0
unfolding unstarted_page
kind_unstarted = get_or-replicate 8192 0 0 0 (lit< tt)

kind_meta : kind_of (meta_bytes 1) ≡ 3
unfolding meta_bytes
kind_meta = refl

kind_map : (entries : List (Option Spot)) → kind_of (map_bytes entries) ≡ 4
unfolding map_bytes
kind_map entries = refl

maps_meta : map_pages (meta_bytes 1) ≡ 1
unfolding meta_bytes
maps_meta = number-bytes 4 1 (lit< tt)

-- an index of fresh pages
module _ (limit : ℕ) (page : ℕ → List ℕ) (some : 3 ≤ limit) (each : (block : ℕ) → block < limit → page block ≡ fresh_index_page block) where
  first_kind : kind_of (page 0) ≡ 3
  first_kind = ap kind_of (each 0 (omega (arith, some))) ∙ kind_meta

  counted : map_pages (page 0) ≡ 1
  counted = ap map_pages (each 0 (omega (arith, some))) ∙ maps_meta

  other_kind : (block : ℕ) → 1 < block → block < limit → kind_of (page block) ≡ 0
  other_kind block past low = ap kind_of (each block low ∙ index_others block (λ e. absurd (omega (arith, past, e))) (λ e. absurd (omega (arith, past, e)))) ∙ kind_unstarted

  started_first : StartsFirst limit page
  started_first zero block below low started none = absurd (omega (arith, sym first_kind ∙ none))
  started_first (suc before) block below low started none = absurd (started (other_kind block (omega (arith, below)) low))

  map_kind : (block : ℕ) → 1 ≤ block → block ≤ 1 → kind_of (page block) ≡ 4
  map_kind zero low high = absurd (omega (arith, low))
  map_kind (suc zero) low high = ap kind_of (each 1 (omega (arith, some))) ∙ kind_map _
  map_kind (suc (suc block)) low high = absurd (omega (arith, high))

  pub index_in_order : IsIndexInOrder limit page
  index_in_order = record {
    first = started_first;
    metapage = first_kind;
    some_map = omega (arith, counted);
    few_maps = omega (arith, counted, some);
    maps = λ block low high. map_kind block low (omega (arith, high, counted));
    next = λ low. inl (inr (inr (other_kind (map_pages (page 0) + 1) (omega (arith, counted)) low)));
    others = λ block past low. inr (inr (other_kind block (omega (arith, past, counted)) low));
  }

-- all relations
pub fresh_order : (layout : DiskLayout) → HasBoundedSizes layout → AreInOrder layout (fresh_pages layout)
fresh_order layout sizes = record {
  statuses = λ block low.
      let place : Place = record { relation = 0; block = block } in
      ap kind_of (fresh_at layout pages.unstarted_page place (record { relation = omega (arith, count_relations layout); block = omega (arith, low, blocks_of_statuses layout 0 refl) }) ∙ fresh_status layout place refl) ∙ kind_statuses;
  tables = λ table within before block below low started none.
      let place : Place = record { relation = 1 + table; block = block } in
      absurd
      (started
      (ap kind_of
      (fresh_at layout pages.unstarted_page place (record { relation = omega (arith, within, count_relations layout); block = low }) ∙ fresh_table layout place (λ e. absurd (omega (arith, e))) (omega (arith, within)))
      ∙ kind_unstarted));
  indexes = λ index within.
      let relation : ℕ = 1 + length layout.schema.tables + index in
      let there : relation < length (relation_blocks layout) = omega (arith, within, count_relations layout) in
      let blocks : block_limit layout relation ≡ layout.sizes.index_blocks = blocks_of_index layout relation (omega arith) (omega (arith, within)) in
      index_in_order layout.sizes.index_blocks (block_at (fresh_pages layout) relation) sizes.some_index_blocks
      (λ block low.
      let place : Place = record { relation = relation; block = block } in
      fresh_at layout pages.unstarted_page place (record { relation = there; block = omega (arith, low, blocks) }) ∙ fresh_index layout place (omega arith));
}
