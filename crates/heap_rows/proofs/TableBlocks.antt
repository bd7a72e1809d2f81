-- The blocks of a table before and after a change of one page.
use Rattle.std.proofs.Common.{◌≡◌, ◌≢◌, ◌⊎◌, ℕ, ◌+◌, ◌<◌, ◌≤◌, inl, inr, Bool, cond, List, [], ◌∷◌, ◌++◌, length, get_or, set, refl, sym, ap, subst, ◌∙◌, arith, length-append}
use Rattle.std.specs.Prelude.{Option, None, Some, replicate, slice_get, nat_lt}
use Rattle.std.proofs.lemmas.Bool.{cases_lt, cases_eq, false_from_ne_true, lt-ltb, le-ltb}
use Rattle.std.proofs.lemmas.List.{ext_get_or, length-set, get_or-set_same, get_or-set_other, get_or_past, get_or_append_left, get_or_push, set_at}
use Rattle.std.proofs.lemmas.Option.{slice_get-get_or}
use Rattle.block_model.specs.declared.place.Place.{Place}
use Rattle.block_model.specs.declared.place.Spot.{Spot}
use Rattle.store_layout.specs.DiskLayout.{DiskLayout}
use Rattle.page_layout.specs.declared.page.Form.{Form}
use Rattle.page_layout.specs.RowBytes.{StoredRow}
use Rattle.page_layout.specs.PageContents.{Slot, HasSlots, IsUnstarted}
use Rattle.page_layout.specs.FreeSlots.{is_free, lowest_free}
use Rattle.page_layout.specs.SlotLaws.{free_found, free_slot, started_not}
use Rattle.page_layout.specs.SlotsOnPage.{slots_on}
use Rattle.page_map.specs.Redo.{IsFreeSlot, IsUsedSlot}
use Rattle.page_map.specs.PageMap.{PageMap, block_at, page_at}
use Rattle.page_map.specs.FirstRoom.{IsFirstRoom}
use Rattle.page_map.specs.Started.{AreFirst}
use Rattle.heap_rows.specs.Heaps.{relation_of, form_at, slots_a_page}
use Rattle.heap_rows.specs.HeapBlocks.{HasBlocks, slots_of}
use Rattle.heap_rows.specs.IsTableFull.{IsTableFull, AreUsed}
use Rattle.heap_rows.specs.RoomOnPage.{HasSlotsOnceStarted}
use Rattle.heap_rows.specs.RowPlaces.{IsInUse, place_for, slot_at, with_row, with_slot}
use Rattle.heap_rows.proofs.Places.{used_none, first_of_empty, place_at, place_behind}

-- the slots of a page are those that are read of its bytes
abbrev pub OneList : Type 0
OneList = (form : Form) (page : List ℕ) (slots : List Slot) → HasSlots form page slots → slots ≡ slots_on form page

-- what the layout says of the table, and every page of its slots
pub record IsHeap (layout : DiskLayout) (table : ℕ) : Type 0 where
  pub some : 0 < slots_a_page layout table
  pub one : OneList

-- every page of the table but one is as before
abbrev pub LeavesOthersOf : PageMap → PageMap → ℕ → ℕ → Type 0
LeavesOthersOf old new table block = (other : ℕ) → other ≢ block → block_at new (relation_of table) other ≡ block_at old (relation_of table) other

-- the first room of the table's pages, as the page store gives it
abbrev pub IsRoomOf : DiskLayout → PageMap → ℕ → Option ℕ → Type 0
IsRoomOf layout pages table first = IsFirstRoom (form_at layout table) layout.sizes.heap_blocks 0 0 (block_at pages (relation_of table)) first

pub room_of : (layout : DiskLayout) (pages : PageMap) (table relation : ℕ) (form : Form) (limit : ℕ) (first : Option ℕ) → relation ≡ relation_of table → form ≡ form_at layout table → limit ≡ layout.sizes.heap_blocks
    → IsFirstRoom form limit 0 0 (block_at pages relation) first → IsRoomOf layout pages table first
room_of layout pages table relation form limit first is_relation is_form is_limit room_there =
    subst (λ (f : Form). IsFirstRoom f layout.sizes.heap_blocks 0 0 (block_at pages (relation_of table)) first) is_form
    (subst (λ (n : ℕ). IsFirstRoom form n 0 0 (block_at pages (relation_of table)) first) is_limit
    (subst (λ (r : ℕ). IsFirstRoom form limit 0 0 (block_at pages r) first) is_relation room_there))

-- the block has a free slot
abbrev HasRoomAt : DiskLayout → PageMap → ℕ → ℕ → Type 0
HasRoomAt layout pages table block = (slot : ℕ) × IsFreeSlot (form_at layout table) (block_at pages (relation_of table) block) slot

-- a block with room is one of the blocks, and one of its slots is free
room_within : {layout : DiskLayout} {table : ℕ} {pages : PageMap} {blocks : List (List Slot)} (heap : IsHeap layout table) (has : HasBlocks layout pages table blocks) (block : ℕ) → block < layout.sizes.heap_blocks
    → HasRoomAt layout pages table block → (block < length blocks) × (lowest_free (slots_of blocks block) ≡ None → ⊥)
room_within {layout} {table} {pages} {blocks} heap has block below room_there =
    let free = room_there in
    elim (cases_lt block (length blocks)) [
      | inl there ↦ (
        there,
        λ none.
            let page = block_at pages (relation_of table) block in
            let same : free.1.0 ≡ slots_of blocks block = heap.one (form_at layout table) page free.1.0 free.1.1 ∙ sym (heap.one (form_at layout table) page (slots_of blocks block) (has.started block there)) in
            free_found free.1.0 free.0 free.1.2 (ap lowest_free same ∙ none),
      )
      | inr past ↦ absurd (started_not (form_at layout table) (block_at pages (relation_of table) block) free.1.0 free.1.1 (has.unstarted block past below))
    ]

-- a block without room has no free slot
no_room : {layout : DiskLayout} {table : ℕ} {pages : PageMap} {blocks : List (List Slot)} (heap : IsHeap layout table) (has : HasBlocks layout pages table blocks) (block : ℕ) → block < length blocks
    → (HasRoomAt layout pages table block → ⊥) → AreUsed (slots_of blocks block)
no_room {layout} {table} {pages} {blocks} heap has block there none = λ slot within.
    false_from_ne_true (is_free (get_or (slots_of blocks block) slot None)) (λ free.
    none (slot, (slots_of blocks block, has.started block there, slice_get-get_or (slots_of blocks block) slot None within ∙ ap Some (free_slot (get_or (slots_of blocks block) slot None) free))))

-- the block that isn't started comes behind the last one
next_block : {layout : DiskLayout} {table : ℕ} {pages : PageMap} {blocks : List (List Slot)} (has : HasBlocks layout pages table blocks) (block : ℕ) → block < layout.sizes.heap_blocks → IsUnstarted (block_at pages (relation_of table) block)
    → ((other : ℕ) → other < block → IsUnstarted (block_at pages (relation_of table) other) → ⊥) → block ≡ length blocks
next_block {layout} {table} {pages} {blocks} has block below unstarted lower =
    elim (cases_lt block (length blocks)) [
      | inl there ↦ absurd (started_not (form_at layout table) (block_at pages (relation_of table) block) (slots_of blocks block) (has.started block there) unstarted)
      | inr past ↦ elim (cases_lt (length blocks) block) [
        | inl before ↦ absurd (lower (length blocks) before (has.unstarted (length blocks) (omega arith) (omega arith)))
        | inr within ↦ omega arith
      ]
    ]

-- where the first room is: in a block with a free slot, none before it having one, or behind full blocks
pub record InBlock (blocks : List (List Slot)) (block : ℕ) : Type 0 where
  pub there : block < length blocks
  pub before : (k : ℕ) → k < block → lowest_free (slots_of blocks k) ≡ None
  pub here : lowest_free (slots_of blocks block) ≡ None → ⊥

pub record Behind (limit : ℕ) (blocks : List (List Slot)) (block : ℕ) : Type 0 where
  pub there : block ≡ length blocks
  pub below : block < limit
  pub before : (k : ℕ) → k < length blocks → lowest_free (slots_of blocks k) ≡ None

pub first_room : {layout : DiskLayout} {table : ℕ} {pages : PageMap} {blocks : List (List Slot)} (heap : IsHeap layout table) (has : HasBlocks layout pages table blocks) (block : ℕ) → IsRoomOf layout pages table (Some block)
    → InBlock blocks block ⊎ Behind layout.sizes.heap_blocks blocks block
first_room {layout} {table} {pages} {blocks} heap has block (inl with_room) =
    let within = room_within heap has block with_room.below with_room.room in
    inl (record { there = within.0; before = λ k lower. used_none (slots_of blocks k) (no_room heap has k (let first = within.0 in omega arith) (with_room.lower k lower tt)); here = within.1 })
first_room {layout} {table} {pages} {blocks} heap has block (inr next) =
    inr (record { there = next_block has block next.below next.unstarted next.lower; below = next.below; before = λ k there. used_none (slots_of blocks k) (no_room heap has k there (next.no_room k tt)) })

-- a change of one page

pub set-block : {layout : DiskLayout} {table : ℕ} {old new : PageMap} {blocks : List (List Slot)} (has : HasBlocks layout old table blocks) (block : ℕ) (slots : List Slot) → block < length blocks → LeavesOthersOf old new table block
    → HasSlots (form_at layout table) (block_at new (relation_of table) block) slots → HasBlocks layout new table (set blocks block slots)
set-block {layout} {table} {old} {new} {blocks} has block slots there others here = record {
  within = omega (arith, has.within, length-set blocks block slots);
  started = λ b below.
      let low : b < length blocks = omega (arith, length-set blocks block slots) in
      elim (cases_eq b block) [
        | inl same ↦
            let P : ℕ → Type 0 = λ n. HasSlots (form_at layout table) (block_at new (relation_of table) n) (slots_of (set blocks block slots) n) in
            subst P (sym same) (subst (HasSlots (form_at layout table) (block_at new (relation_of table) block)) (sym (get_or-set_same blocks block slots [] there)) here)
        | inr other ↦
            subst (HasSlots (form_at layout table) (block_at new (relation_of table) b)) (sym (get_or-set_other blocks block b slots [] other))
            (subst (λ (p : List ℕ). HasSlots (form_at layout table) p (slots_of blocks b)) (sym (others b other)) (has.started b low))
      ];
  unstarted = λ b past below.
      let behind : length blocks ≤ b = omega (arith, length-set blocks block slots) in
      let other : b ≢ block = λ same. absurd (omega arith) in
      subst IsUnstarted (sym (others b other)) (has.unstarted b behind below);
}

pub push_block : {layout : DiskLayout} {table : ℕ} {old new : PageMap} {blocks : List (List Slot)} (has : HasBlocks layout old table blocks) (block : ℕ) (slots : List Slot) → block ≡ length blocks → block < layout.sizes.heap_blocks
    → LeavesOthersOf old new table block → HasSlots (form_at layout table) (block_at new (relation_of table) block) slots → HasBlocks layout new table (blocks ++ slots ∷ [])
push_block {layout} {table} {old} {new} {blocks} has block slots there below others here =
    let long : length (blocks ++ slots ∷ []) ≡ length blocks + 1 = length-append blocks (slots ∷ []) in
    record {
      within = omega arith;
      started = λ b low.
          elim (cases_eq b block) [
            | inl same ↦
                let P : ℕ → Type 0 = λ n. HasSlots (form_at layout table) (block_at new (relation_of table) n) (slots_of (blocks ++ slots ∷ []) n) in
                subst P (sym same) (subst (HasSlots (form_at layout table) (block_at new (relation_of table) block)) (sym (get_or_push blocks slots [] block (sym there))) here)
            | inr other ↦
                let within : b < length blocks = omega arith in
                subst (HasSlots (form_at layout table) (block_at new (relation_of table) b)) (sym (get_or_append_left blocks (slots ∷ []) [] b within))
                (subst (λ (p : List ℕ). HasSlots (form_at layout table) p (slots_of blocks b)) (sym (others b other)) (has.started b within))
          ];
      unstarted = λ b past low.
          let behind : length blocks ≤ b = omega arith in
          let other : b ≢ block = λ same. absurd (omega arith) in
          subst IsUnstarted (sym (others b other)) (has.unstarted b behind low);
    }

pub same-blocks : {layout : DiskLayout} {table : ℕ} {old new : PageMap} {blocks : List (List Slot)} → HasBlocks layout old table blocks → ((block : ℕ) → block_at new (relation_of table) block ≡ block_at old (relation_of table) block) → HasBlocks layout new table blocks
same-blocks {layout} {table} {old} {new} {blocks} has same = record {
  within = has.within;
  started = λ b there. subst (λ (p : List ℕ). HasSlots (form_at layout table) p (slots_of blocks b)) (sym (same b)) (has.started b there);
  unstarted = λ b past below. subst IsUnstarted (sym (same b)) (has.unstarted b past below);
}

-- a put

-- the row stands where the definition says
pub put-place : {layout : DiskLayout} {table : ℕ} {pages : PageMap} {blocks : List (List Slot)} (heap : IsHeap layout table) (has : HasBlocks layout pages table blocks) (block slot : ℕ) → IsRoomOf layout pages table (Some block)
    → ((slots : List Slot) → HasSlotsOnceStarted (form_at layout table) (block_at pages (relation_of table) block) slots → lowest_free slots ≡ Some slot)
    → place_for layout.sizes.heap_blocks blocks ≡ Some (record { block = block; slot = slot })
put-place {layout} {table} {pages} {blocks} heap has block slot first lowest =
    elim (first_room heap has block first) [
      | inl in_block ↦
          let zero_on : 0 + block ≡ block = omega arith in
          place_at layout.sizes.heap_blocks 0 block slot blocks in_block.there in_block.before (lowest (slots_of blocks block) (inl (has.started block in_block.there)))
          ∙ ap (λ (b : ℕ). Some (record { block = b; slot = slot })) zero_on
      | inr behind ↦
          let unstarted = has.unstarted block (omega (arith, behind.there)) behind.below in
          let empty = lowest (replicate (slots_a_page layout table) None) (inr (unstarted, refl)) in
          let first_slot : Some 0 ≡ Some slot = sym (first_of_empty (slots_a_page layout table) heap.some) ∙ empty in
          let zero_slot : 0 ≡ slot = cc in
          let zero_on : 0 + length blocks ≡ block = omega (arith, behind.there) in
          place_behind layout.sizes.heap_blocks 0 blocks behind.before
          ∙ ap (λ (b : ℕ). cond (nat_lt b layout.sizes.heap_blocks) (Some (record { block = b; slot = 0 })) None) zero_on
          ∙ ap (λ (t : Bool). cond t (Some (record { block = block; slot = 0 })) None) (lt-ltb block layout.sizes.heap_blocks behind.below)
          ∙ ap (λ (s : ℕ). Some (record { block = block; slot = s })) zero_slot
    ]

-- and the blocks have it
pub put-blocks : {layout : DiskLayout} {table : ℕ} {old : PageMap} {blocks : List (List Slot)} (new : PageMap) (heap : IsHeap layout table) (has : HasBlocks layout old table blocks) (block slot : ℕ) (row : StoredRow) → IsRoomOf layout old table (Some block)
    → LeavesOthersOf old new table block
    → ((slots : List Slot) → HasSlotsOnceStarted (form_at layout table) (block_at old (relation_of table) block) slots → HasSlots (form_at layout table) (block_at new (relation_of table) block) (set slots slot (Some row)))
    → HasBlocks layout new table (with_row (slots_a_page layout table) blocks (record { block = block; slot = slot }) row)
put-blocks {layout} {table} {old} {blocks} new heap has block slot row first others puts =
    let count = slots_a_page layout table in
    let result : List (List Slot) → Type 0 = λ all. HasBlocks layout new table (with_slot all (record { block = block; slot = slot }) (Some row)) in
    elim (first_room heap has block first) [
      | inl in_block ↦
          subst (λ (t : Bool). result (cond t blocks (blocks ++ replicate count None ∷ []))) (sym (lt-ltb block (length blocks) in_block.there))
          (set-block has block (set (slots_of blocks block) slot (Some row)) in_block.there others (puts (slots_of blocks block) (inl (has.started block in_block.there))))
      | inr behind ↦
          let unstarted = has.unstarted block (omega (arith, behind.there)) behind.below in
          let empty : List Slot = replicate count None in
          let there : slots_of (blocks ++ empty ∷ []) block ≡ empty = get_or_push blocks empty [] block (sym behind.there) in
          let all : with_slot (blocks ++ empty ∷ []) (record { block = block; slot = slot }) (Some row) ≡ blocks ++ set empty slot (Some row) ∷ [] =
          ap (λ (s : List Slot). set (blocks ++ empty ∷ []) block (set s slot (Some row))) there ∙ set_at blocks empty [] (set empty slot (Some row)) block (sym behind.there) in
          subst (λ (t : Bool). result (cond t blocks (blocks ++ replicate count None ∷ []))) (sym (le-ltb block (length blocks) (omega (arith, behind.there))))
          (subst (HasBlocks layout new table) (sym all)
          (push_block has block (set empty slot (Some row)) behind.there behind.below others (puts empty (inr (unstarted, refl)))))
    ]

-- a table without a place

pub full_blocks : {layout : DiskLayout} {table : ℕ} {pages : PageMap} {blocks : List (List Slot)} (heap : IsHeap layout table) (has : HasBlocks layout pages table blocks) → IsRoomOf layout pages table None → IsTableFull layout.sizes.heap_blocks blocks
full_blocks {layout} {table} {pages} {blocks} heap has full = record {
  all_blocks =
      elim (cases_lt (length blocks) layout.sizes.heap_blocks) [
        | inl before ↦ absurd (full.started (length blocks) before (has.unstarted (length blocks) (omega arith) before))
        | inr all ↦ let most = has.within in omega arith
      ];
  all_slots = λ block there. no_room heap has block there (full.no_room block tt);
}

pub full_not_first : {layout : DiskLayout} {table : ℕ} {pages : PageMap} {blocks : List (List Slot)} (heap : IsHeap layout table) (has : HasBlocks layout pages table blocks) (block : ℕ) → IsRoomOf layout pages table (Some block) → IsTableFull layout.sizes.heap_blocks blocks → ⊥
full_not_first {layout} {table} {pages} {blocks} heap has block first full =
    elim (first_room heap has block first) [
      | inl in_block ↦ in_block.here (used_none (slots_of blocks block) (full.all_slots block in_block.there))
      | inr behind ↦ absurd (omega (arith, behind.there, behind.below, full.all_blocks))
    ]

-- a mark

-- a row at a spot is one of a block
pub in_use : {layout : DiskLayout} {table : ℕ} {pages : PageMap} {blocks : List (List Slot)} (has : HasBlocks layout pages table blocks) (spot : Spot) (row : StoredRow) → slot_at blocks spot ≡ Some row
    → (spot.block < length blocks) × (slice_get (slots_of blocks spot.block) spot.slot ≡ Some (Some row))
in_use {layout} {table} {pages} {blocks} has spot row at =
    elim (cases_lt spot.slot (length (slots_of blocks spot.block))) [
      | inl within ↦ (
        elim (cases_lt spot.block (length blocks)) [
          | inl there ↦ there
          | inr past ↦ absurd (let none : length (slots_of blocks spot.block) ≡ 0 = ap length (get_or_past blocks spot.block [] past) in omega arith)
        ],
        slice_get-get_or (slots_of blocks spot.block) spot.slot None within ∙ ap Some at,
      )
      | inr past ↦ absurd (let none : None ≡ Some row = sym (get_or_past (slots_of blocks spot.block) spot.slot None past) ∙ at in cc)
    ]

pub is_used : {layout : DiskLayout} {table : ℕ} {pages : PageMap} (spot : Spot) → IsInUse layout pages table spot → IsUsedSlot (form_at layout table) (block_at pages (relation_of table) spot.block) spot.slot
is_used spot use_of =
    let there = in_use use_of.2 spot use_of.1 use_of.3 in
    (slots_of use_of.0 spot.block, use_of.1, use_of.2.started spot.block there.0, there.1)

-- the blocks of a table are one list

no_longer : {layout : DiskLayout} {table : ℕ} {pages : PageMap} {a b : List (List Slot)} → HasBlocks layout pages table a → HasBlocks layout pages table b → length b ≤ length a
no_longer {layout} {table} {pages} {a} {b} first second =
    elim (cases_lt (length a) (length b)) [
      | inl more ↦ absurd (started_not (form_at layout table) (block_at pages (relation_of table) (length a)) (slots_of b (length a)) (second.started (length a) more) (first.unstarted (length a) (omega arith) (omega (arith, more, second.within))))
      | inr few ↦ few
    ]

pub one_list : OneList → (layout : DiskLayout) (pages : PageMap) (table : ℕ) (a b : List (List Slot)) → HasBlocks layout pages table a → HasBlocks layout pages table b → a ≡ b
one_list one layout pages table a b first second =
    let up = no_longer first second in
    let down = no_longer second first in
    ext_get_or [] a b (omega arith) (λ n below.
    let page = block_at pages (relation_of table) n in
    one (form_at layout table) page (slots_of a n) (first.started n below) ∙ sym (one (form_at layout table) page (slots_of b n) (second.started n (omega arith))))

pub blocks_first : (layout : DiskLayout) (pages : PageMap) (table : ℕ) (blocks : List (List Slot)) → HasBlocks layout pages table blocks → AreFirst layout.sizes.heap_blocks (block_at pages (relation_of table)) (length blocks)
blocks_first layout pages table blocks has = record {
  within = has.within;
  started = λ n below zeros. started_not (form_at layout table) (block_at pages (relation_of table) n) (slots_of blocks n) (has.started n below) zeros;
  others = has.unstarted;
}

-- a table without started pages
pub no_blocks : (layout : DiskLayout) (pages : PageMap) (table : ℕ) → ((place : Place) → IsUnstarted (page_at pages place)) → HasBlocks layout pages table []
no_blocks layout pages table unstarted = record {
  within = omega arith;
  started = λ block there. absurd (omega arith);
  unstarted = λ block past below. unstarted (record { relation = relation_of table; block = block });
}
