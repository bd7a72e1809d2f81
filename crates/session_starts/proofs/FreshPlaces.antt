-- the fresh pages, place by place
use Rattle.std.proofs.Common.{◌≡◌, inl, inr, ℕ, zero, suc, ◌+◌, ◌<◌, List, [], ◌∷◌, ◌++◌, length, map, get_or, refl, sym, ◌∙◌, ap, arith}
use Rattle.std.specs.Prelude.{replicate}
use Rattle.std.specs.List.{range_with_len}
use Rattle.std.proofs.lemmas.Bool.{cases_lt}
use Rattle.std.proofs.lemmas.List.{get_or-replicate, length-replicate}
use Rattle.std.proofs.lemmas.List.FromFn.{get_or-map-range_with_len, length-map-range_with_len}
use Rattle.block_model.specs.declared.place.Place.{Place}
use Rattle.store_layout.specs.DiskLayout.{DiskLayout, IsPlace, relation_blocks}
use Rattle.store_layout.specs.RelationCounts.{behind_both, blocks_of_index, blocks_of_statuses, blocks_of_table, count_relations}
use Rattle.page_map.specs.PageMap.{IsWhole}
use Rattle.store_format.specs.FreshStore.{fresh_index_page, fresh_page, unstarted_page, unused_statuses}
use Rattle.store_format.proofs.Places.{fresh_index, fresh_status, fresh_table}
use Rattle.session_starts.specs.FreshPages.{fresh_pages}

-- at a place of the first of two lists, each of one element
front_both : {X Y Z : Type 0} (a b : Z) (xs : List X) (ys : List Y) (k : ℕ) (d : Z) → k < length xs → get_or (map (λ _. a) xs ++ map (λ _. b) ys) k d ≡ a
front_both a b [] ys k d low = absurd (omega (arith, low))
front_both a b (x ∷ xs) ys zero d low = refl
front_both a b (x ∷ xs) ys (suc k) d low = front_both a b xs ys k d (omega (arith, low))

-- the page of a block of a relation
at_block : (layout : DiskLayout) (r b : ℕ) (d : List ℕ) → r < length (relation_blocks layout) → b < get_or (relation_blocks layout) r 0 → get_or (get_or (fresh_pages layout) r []) b d ≡ fresh_page layout (record { relation = r; block = b })
unfolding fresh_pages
at_block layout zero b d there low =
    get_or-replicate layout.sizes.status_blocks b unused_statuses d (omega (arith, low, blocks_of_statuses layout 0 refl)) ∙ sym (fresh_status layout (record { relation = zero; block = b }) refl)
at_block layout (suc k) b d there low =
    let tables = layout.schema.tables in
    let indexes = layout.schema.indexes in
    let heaps = replicate layout.sizes.heap_blocks unstarted_page in
    let index = map fresh_index_page (range_with_len 0 layout.sizes.index_blocks) in
    elim (cases_lt k (length tables)) [
      | inl table ↦
          ap (λ (l : List (List ℕ)). get_or l b d) (front_both heaps index tables indexes k [] table)
          ∙ get_or-replicate layout.sizes.heap_blocks b unstarted_page d (omega (arith, low, blocks_of_table layout (suc k) (omega arith) (omega (arith, table))))
          ∙ sym (fresh_table layout (record { relation = suc k; block = b }) (λ e. absurd (omega (arith, e))) (omega (arith, table)))
      | inr past ↦
          let within : suc k < 1 + (length tables + length indexes) = omega (arith, there, count_relations layout) in
          ap (λ (l : List (List ℕ)). get_or l b d) (behind_both (λ _. heaps) index tables indexes k [] past (omega (arith, within)))
          ∙ get_or-map-range_with_len fresh_index_page 0 layout.sizes.index_blocks b b d (omega (arith, low, blocks_of_index layout (suc k) (omega (arith, past)) within)) (omega arith)
          ∙ sym (fresh_index layout (record { relation = suc k; block = b }) (omega (arith, past)))
    ]

pub fresh_at : (layout : DiskLayout) (d : List ℕ) (place : Place) → IsPlace layout place → get_or (get_or (fresh_pages layout) place.relation []) place.block d ≡ fresh_page layout place
fresh_at layout d place is = at_block layout place.relation place.block d is.relation is.block

-- there is one for each
lengths_both : {X Y : Type 0} (a b : List (List ℕ)) (m n : ℕ) → length a ≡ m → length b ≡ n → (xs : List X) (ys : List Y) → map length (map (λ _. a) xs ++ map (λ _. b) ys) ≡ map (λ _. m) xs ++ map (λ _. n) ys
lengths_both {X} {Y} a b m n ea eb [] [] = refl
lengths_both {X} {Y} a b m n ea eb [] (y ∷ ys) = let rest = lengths_both {X = X} {Y = Y} a b m n ea eb [] ys in λ i. eb i ∷ rest i
lengths_both {X} {Y} a b m n ea eb (x ∷ xs) ys = let rest = lengths_both {X = X} {Y = Y} a b m n ea eb xs ys in λ i. ea i ∷ rest i

pub fresh_whole : (layout : DiskLayout) → IsWhole layout (fresh_pages layout)
unfolding fresh_pages relation_blocks
fresh_whole layout =
    let first = length-replicate layout.sizes.status_blocks unused_statuses in
    let rest = lengths_both (replicate layout.sizes.heap_blocks unstarted_page) (map fresh_index_page (range_with_len 0 layout.sizes.index_blocks)) layout.sizes.heap_blocks layout.sizes.index_blocks
    (length-replicate layout.sizes.heap_blocks unstarted_page) (length-map-range_with_len fresh_index_page 0 layout.sizes.index_blocks) layout.schema.tables layout.schema.indexes in
    λ i. first i ∷ rest i
