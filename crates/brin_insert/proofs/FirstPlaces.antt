-- the lowest free slot of the lowest block that has one, as the protocol's first place
use Rattle.std.proofs.Common.{◌≡◌, ◌⊎◌, inl, inr, ⊎_elim, ℕ, zero, suc, ◌+◌, ◌<◌, ◌≤◌, max, Bool, true, false, cond, List, [], ◌∷◌, ◌++◌, length, get_or, set, refl, sym, ap, subst, ◌∙◌, arith, length-append, length-set}
use Rattle.std.specs.Prelude.{Option, None, Some, nat_lt, replicate}
use Rattle.std.specs.List.{position_or_len}
use Rattle.std.proofs.lemmas.Bool.{cases_eq, cases_lt, cond-true, false≢true, lt-ltb, le-ltb}
use Rattle.std.proofs.lemmas.List.Quantifiers.{position-Some}
use Rattle.std.proofs.lemmas.List.Sums.{fails_before_first}
use Rattle.std.proofs.lemmas.Option.{same_Some, none-some}
use Rattle.block_model.specs.declared.place.Spot.{Spot}
use Rattle.store_layout.specs.DiskLayout.{DiskLayout}
use Rattle.page_layout.specs.RowBytes.{StoredRow}
use Rattle.page_layout.specs.PageContents.{Slot}
use Rattle.page_layout.specs.FreeSlots.{is_free, lowest_free}
use Rattle.page_map.specs.PageMap.{PageMap}
use Rattle.heap_rows.specs.HeapBlocks.{HasBlocks, slots_of}
use Rattle.heap_rows.specs.Heaps.{slots_a_page}
use Rattle.heap_rows.specs.RowPlaces.{place_for, place_from, slot_at, spot_in, with_row, with_table_block}
use Rattle.coverage.specs.Table.{TableState}
use Rattle.coverage.specs.TableSteps.{IsVacantPlace, IsFirstPlace}
use Rattle.index_steps.specs.ShownRows.{row_in, rows_in}

-- a free slot isn't one in use
not_used : (slot : Slot) → slot ≡ None → is_free slot ≡ false → ⊥
not_used slot none used = false≢true (sym used ∙ ap is_free none)

-- where no slot is free, each is in use
none_used : (slots : List Slot) → lowest_free slots ≡ None → (j : ℕ) → j < length slots → is_free (get_or slots j None) ≡ false
none_used slots none j below = elim (cases_lt (position_or_len is_free slots) (length slots)) [
  | inl there ↦
      let n = position_or_len is_free slots in
      absurd (none-some n (sym (sym (cond-true _ (Some n) None (lt-ltb n (length slots) there)) ∙ none)))
  | inr all ↦ fails_before_first is_free slots j None (omega arith)
]

-- a slot without a row is free
no_row : (table : ℕ) (slot : Slot) → row_in table slot ≡ None → slot ≡ None
no_row table None none = refl
no_row table (Some stored) none = absurd (none-some (record { table = table; id = stored.id; values = stored.values }) (sym none))

-- the place comes before each other free slot
record First (n size : ℕ) (blocks : List (List Slot)) (spot : Spot) : Type 0 where
  m : ℕ
  at : spot.block ≡ n + m
  within : m ≤ length blocks
  first : (i j : ℕ) → j < size → get_or (get_or blocks i []) j None ≡ None → (m < i) ⊎ ((m ≡ i) × (spot.slot ≤ j))

first_from : (limit n size : ℕ) (blocks : List (List Slot)) (spot : Spot) → ((i : ℕ) → i < length blocks → length (get_or blocks i []) ≡ size) → place_from limit n blocks ≡ Some spot → First n size blocks spot
unfolding place_from
first_from limit n size [] spot sizes is = behind (nat_lt n limit) is
  where
    behind : (b : Bool) → cond b (Some (record { block = n; slot = 0 })) None ≡ Some spot → First n size [] spot
    behind false e = absurd (none-some spot e)
    behind true e =
        let same : record { block = n; slot = 0 } ≡ spot = same_Some (record { block = n; slot = 0 }) spot e in
        let slot : 0 ≡ spot.slot = ap (λ (x : Spot). x.slot) same in
        record { m = 0; at = let block : n ≡ spot.block = ap (λ (x : Spot). x.block) same in omega arith; within = omega arith; first = λ i j below free. elim (cases_eq 0 i) [ inl e ↦ inr (e, omega arith) | inr apart ↦ inl (omega arith) ] }
first_from limit n size (slots ∷ blocks) spot sizes is = here (λ later. first_from limit (n + 1) size blocks spot (λ i below. sizes (suc i) (omega arith)) later) (lowest_free slots) refl is
  where
    here : (place_from limit (n + 1) blocks ≡ Some spot → First (n + 1) size blocks spot) → (o : Option ℕ) → lowest_free slots ≡ o → spot_in n o (place_from limit (n + 1) blocks) ≡ Some spot → First n size (slots ∷ blocks) spot
    here later (Some k) e found =
        let same : record { block = n; slot = k } ≡ spot = same_Some (record { block = n; slot = k }) spot found in
        record { m = 0; at = let block : n ≡ spot.block = ap (λ (x : Spot). x.block) same in omega arith; within = omega arith; first = first_here }
      where
        first_here : (i j : ℕ) → j < size → get_or (get_or (slots ∷ blocks) i []) j None ≡ None → (0 < i) ⊎ ((0 ≡ i) × (spot.slot ≤ j))
        first_here zero j below free =
            let slot : k ≡ spot.slot = ap (λ (x : Spot). x.slot) (same_Some (record { block = n; slot = k }) spot found) in
            elim (cases_lt j k) [ inl before ↦ absurd (not_used (get_or slots j None) free ((position-Some is_free slots k None e).2 j before)) | inr past ↦ inr (refl, omega arith) ]
        first_here (suc i) j below free = inl (omega arith)
    here later None e found =
        let rest : First (n + 1) size blocks spot = later found in
        record { m = suc rest.m; at = let a = rest.at in omega arith; within = let w = rest.within in omega arith; first = first_later rest }
      where
        first_later : (rest : First (n + 1) size blocks spot) (i j : ℕ) → j < size → get_or (get_or (slots ∷ blocks) i []) j None ≡ None → (suc rest.m < i) ⊎ ((suc rest.m ≡ i) × (spot.slot ≤ j))
        first_later rest zero j below free =
            let long : length slots ≡ size = sizes 0 (omega arith) in
            absurd (not_used (get_or slots j None) free (none_used slots e j (omega arith)))
        first_later rest (suc i) j below free = ⊎_elim
            (λ (before : rest.m < i). inl (omega arith))
            (λ (same : (rest.m ≡ i) × (spot.slot ≤ j)). inr (ap suc same.0, same.1))
            (rest.first i j below free)

-- each block has as many slots
sizes_of : (layout : DiskLayout) (pages : PageMap) (table : ℕ) (blocks : List (List Slot)) → HasBlocks layout pages table blocks → (i : ℕ) → i < length blocks → length (get_or blocks i []) ≡ slots_a_page layout table
sizes_of layout pages table blocks has i below = (has.started i below).counted

module _ (layout : DiskLayout) (pages : PageMap) (table : ℕ) (blocks : List (List Slot)) (w : TableState) (size : w.rows_per_page ≡ slots_a_page layout table) (limit : w.heap_limit ≡ layout.sizes.heap_blocks)
    (row : (b k : ℕ) → w.row b k ≡ rows_in table blocks b k) (has : HasBlocks layout pages table blocks) where
  free_there : (b k : ℕ) → IsVacantPlace w b k → (k < slots_a_page layout table) × (get_or (get_or blocks b []) k None ≡ None)
  free_there b k vacant =
      (subst (λ (n : ℕ). k < n) size vacant.0, no_row table (slot_at blocks (record { block = b; slot = k })) (sym (row b k) ∙ vacant.1))

  module _ (spot : Spot) (place : place_for layout.sizes.heap_blocks blocks ≡ Some spot) where
    first : First 0 (slots_a_page layout table) blocks spot
    first = first_from layout.sizes.heap_blocks 0 (slots_a_page layout table) blocks spot (sizes_of layout pages table blocks has) place

    pub is_first : slot_at blocks spot ≡ None → spot.block < layout.sizes.heap_blocks → spot.slot < slots_a_page layout table → IsFirstPlace w spot.block spot.slot
    is_first free below within = record {
      vacant = (subst (λ (n : ℕ). spot.slot < n) (sym size) within, row spot.block spot.slot ∙ ap (row_in table) free);
      below = subst (λ (n : ℕ). spot.block < n) (sym limit) below;
      first = λ c j vacant.
          let there = free_there c j vacant in
          let block : spot.block ≡ 0 + first.m = first.at in
          ⊎_elim (λ (before : first.m < c). inl (omega arith)) (λ (same : (first.m ≡ c) × (spot.slot ≤ j)). inr (let e = same.0 in omega arith, same.1)) (first.first c j there.0 there.1);
    }

    -- the blocks with the row: one more, where its block is the next
    pub blocks_then : (count : ℕ) (stored : StoredRow) → length (with_row count blocks spot stored) ≡ max (length blocks) (spot.block + 1)
    blocks_then count stored =
        let block : spot.block ≡ 0 + first.m = first.at in
        let within : first.m ≤ length blocks = first.within in
        length-set (with_table_block count blocks spot.block) spot.block (set (slots_of (with_table_block count blocks spot.block) spot.block) spot.slot (Some stored))
        ∙ elim (cases_lt spot.block (length blocks)) [
          | inl there ↦
              let many : length blocks ≡ max (length blocks) (spot.block + 1) = omega arith in
              ap (λ (b : Bool). length (cond b blocks (blocks ++ replicate count None ∷ []))) (lt-ltb spot.block (length blocks) there) ∙ many
          | inr next ↦
              let many : length (blocks ++ replicate count None ∷ []) ≡ max (length blocks) (spot.block + 1) = omega (arith, length-append blocks (replicate count None ∷ [])) in
              ap (λ (b : Bool). length (cond b blocks (blocks ++ replicate count None ∷ []))) (le-ltb spot.block (length blocks) next) ∙ many
        ]
