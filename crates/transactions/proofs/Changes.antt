-- What a put and a mark make of the versions in the slots of a table.
use Rattle.std.proofs.Common.{◌≡◌, ℕ, zero, suc, ◌<◌, inl, inr, Bool, cond, List, [], ◌∷◌, ◌++◌, length, get_or, set, refl, sym, ap, subst, ◌∙◌, arith, length-append, length-set}
use Rattle.std.specs.Prelude.{None, Some, replicate}
use Rattle.std.specs.List.{flat_map}
use Rattle.std.proofs.lemmas.Bool.{cases_lt, lt-ltb, le-ltb}
use Rattle.std.proofs.lemmas.List.{append-nil, get_or-set_same, get_or_past, get_or_push}
use Rattle.std.proofs.lemmas.List.Concat.{flat_map-append}
use Rattle.block_model.specs.declared.place.Spot.{Spot}
use Rattle.page_layout.specs.RowBytes.{StoredRow}
use Rattle.page_layout.specs.PageContents.{Slot}
use Rattle.page_layout.specs.PageWrites.{marked}
use Rattle.heap_rows.specs.HeapBlocks.{slots_of}
use Rattle.heap_rows.specs.RowPlaces.{FillsSlot, slot_at, with_row, with_slot, with_table_block}
use Rattle.snapshot_core.specs.declared.table.Version.{Version}
use Rattle.transactions.specs.ShownVersions.{version_of, versions_in, versions_on}
use Rattle.transactions.proofs.Swaps.{Swaps, swaps_in}
use Rattle.transactions.proofs.Tables.{free_have_none}

-- a slot with a row is one of a block
pub slot_there : (blocks : List (List Slot)) (spot : Spot) (row : StoredRow) → slot_at blocks spot ≡ Some row → (spot.block < length blocks) × (spot.slot < length (slots_of blocks spot.block))
slot_there blocks spot row at =
    elim (cases_lt spot.slot (length (slots_of blocks spot.block))) [
      | inl within ↦ (
        elim (cases_lt spot.block (length blocks)) [
          | inl there ↦ there
          | inr past ↦ absurd (let none : length (slots_of blocks spot.block) ≡ 0 = ap length (get_or_past blocks spot.block [] past) in omega arith)
        ],
        within,
      )
      | inr past ↦ absurd (let none : None ≡ Some row = sym (get_or_past (slots_of blocks spot.block) spot.slot None past) ∙ at in cc)
    ]

-- a change of one slot
swaps_slot : (table : ℕ) (blocks : List (List Slot)) (spot : Spot) (slot : Slot) → spot.block < length blocks → spot.slot < length (slots_of blocks spot.block)
    → Swaps (versions_in table (slot_at blocks spot)) (versions_in table slot) (flat_map (versions_on table) blocks) (flat_map (versions_on table) (with_slot blocks spot slot))
swaps_slot table blocks spot slot there within =
    let p = versions_in table (slot_at blocks spot) in
    let q = versions_in table slot in
    swaps_in (versions_on table) p q blocks spot.block [] (set (slots_of blocks spot.block) spot.slot slot) there
    (swaps_in (versions_in table) p q (slots_of blocks spot.block) spot.slot None slot within
    (record { front = []; back = []; was = sym (append-nil p); is = sym (append-nil q) }))

-- a mark
pub swaps_mark : (table : ℕ) (blocks : List (List Slot)) (spot : Spot) (row : StoredRow) (deleter : ℕ) → slot_at blocks spot ≡ Some row
    → Swaps (version_of table row ∷ []) (version_of table (marked row deleter) ∷ []) (flat_map (versions_on table) blocks) (flat_map (versions_on table) (with_slot blocks spot (Some (marked row deleter))))
swaps_mark table blocks spot row deleter at =
    let there = slot_there blocks spot row at in
    subst (λ (slot : Slot). Swaps (versions_in table slot) (version_of table (marked row deleter) ∷ []) (flat_map (versions_on table) blocks) (flat_map (versions_on table) (with_slot blocks spot (Some (marked row deleter))))) at
    (swaps_slot table blocks spot (Some (marked row deleter)) there.0 there.1)

-- a put

abbrev free_slots : ℕ → List Slot
free_slots count = replicate count None

free_at : (count n : ℕ) → get_or (free_slots count) n None ≡ None
free_at zero n = refl
free_at (suc count) zero = refl
free_at (suc count) (suc n) = free_at count n

-- the blocks with one more that is free
free_behind : (table count : ℕ) (blocks : List (List Slot)) → flat_map (versions_on table) (blocks ++ replicate count None ∷ []) ≡ flat_map (versions_on table) blocks
free_behind table count blocks =
    flat_map-append (versions_on table) blocks (replicate count None ∷ [])
    ∙ ap (λ l. flat_map (versions_on table) blocks ++ l) (append-nil (versions_on table (replicate count None)) ∙ free_have_none table count)
    ∙ append-nil (flat_map (versions_on table) blocks)

-- the blocks up to that of a spot have the same versions, and a free slot there if it was free
up_to : (table count : ℕ) (blocks : List (List Slot)) (spot : Spot) → slot_at blocks spot ≡ None → spot.block < length (with_table_block count blocks spot.block)
    → (flat_map (versions_on table) (with_table_block count blocks spot.block) ≡ flat_map (versions_on table) blocks) × (slot_at (with_table_block count blocks spot.block) spot ≡ None)
up_to table count blocks spot free =
    let all : List (List Slot) = blocks ++ replicate count None ∷ [] in
    let P : Bool → Type 0 = λ (b : Bool). spot.block < length (cond b blocks all) → (flat_map (versions_on table) (cond b blocks all) ≡ flat_map (versions_on table) blocks) × (slot_at (cond b blocks all) spot ≡ None) in
    elim (cases_lt spot.block (length blocks)) [
      | inl there ↦ subst P (sym (lt-ltb spot.block (length blocks) there)) (λ below. (refl, free))
      | inr past ↦ subst P (sym (le-ltb spot.block (length blocks) past)) (λ below.
          let long = length-append blocks (replicate count None ∷ []) in
          let last : length blocks ≡ spot.block = omega arith in (
            free_behind table count blocks,
            ap (λ (slots : List Slot). get_or slots spot.slot None) (get_or_push blocks (replicate count None) [] spot.block last) ∙ free_at count spot.slot,
          ))
    ]

pub swaps_put : (table count : ℕ) (blocks : List (List Slot)) (spot : Spot) (row : StoredRow) → FillsSlot count spot row blocks
    → Swaps [] (version_of table row ∷ []) (flat_map (versions_on table) blocks) (flat_map (versions_on table) (with_row count blocks spot row))
swaps_put table count blocks spot row fills =
    let all = with_table_block count blocks spot.block in
    let new = with_row count blocks spot row in
    let there = slot_there new spot row fills.1.there in
    let below : spot.block < length all = omega (arith, there.0, length-set all spot.block (set (slots_of all spot.block) spot.slot (Some row))) in
    let slots = get_or-set_same all spot.block (set (slots_of all spot.block) spot.slot (Some row)) [] below in
    let within : spot.slot < length (slots_of all spot.block) = omega (arith, there.1, ap length slots, length-set (slots_of all spot.block) spot.slot (Some row)) in
    let same = up_to table count blocks spot fills.0 below in
    subst (λ (vs : List Version). Swaps [] (version_of table row ∷ []) vs (flat_map (versions_on table) new)) same.0
    (subst (λ (slot : Slot). Swaps (versions_in table slot) (version_of table row ∷ []) (flat_map (versions_on table) all) (flat_map (versions_on table) new)) same.1
    (swaps_slot table all spot (Some row) below within))
