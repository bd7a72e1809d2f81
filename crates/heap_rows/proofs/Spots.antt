-- The slots at spots, before and after a put or a mark.
use Rattle.std.proofs.Common.{◌≡◌, ◌⊎◌, ℕ, suc, ◌+◌, ◌<◌, inl, inr, Bool, cond, List, [], ◌∷◌, ◌++◌, length, get_or, set, refl, sym, ap, subst, ◌∙◌, arith, length-append}
use Rattle.std.specs.Prelude.{Option, None, Some, replicate, nat_lt}
use Rattle.std.proofs.lemmas.Bool.{cases_eq, cases_lt, lt-ltb, le-ltb}
use Rattle.std.proofs.lemmas.List.{get_or-set_same, get_or-set_other, get_or-replicate, get_or_append_left, get_or_past, get_or_push, length-replicate}
use Rattle.std.proofs.lemmas.Option.{cond_some, get_or_from_slice_get, slice_get_within}
use Rattle.block_model.specs.declared.place.Spot.{Spot}
use Rattle.page_layout.specs.RowBytes.{StoredRow}
use Rattle.page_layout.specs.PageContents.{Slot}
use Rattle.page_layout.specs.FreeSlots.{lowest_free}
use Rattle.heap_rows.specs.HeapBlocks.{slots_of}
use Rattle.heap_rows.specs.RowPlaces.{ChangesSlot, place_for, place_from, slot_at, spot_in, with_row, with_slot}
use Rattle.heap_rows.proofs.Places.{lowest_there}

-- a place is the lowest free slot of a block, or the first of the next one
PlaceIn : List (List Slot) → ℕ → ℕ → Type 0
PlaceIn blocks n slot = ((n < length blocks) × (lowest_free (slots_of blocks n) ≡ Some slot)) ⊎ ((n ≡ length blocks) × (slot ≡ 0))

place_first : (block : ℕ) (spot : Spot) (o : Option ℕ) (later : Option Spot) → spot_in block o later ≡ Some spot → ((o ≡ Some spot.slot) × (spot.block ≡ block)) ⊎ ((o ≡ None) × (later ≡ Some spot))
place_first block spot (Some slot) later e =
    let same : record { block = block; slot = slot } ≡ spot = cc in
    inl (ap (λ (s : Spot). Some s.slot) same, sym (ap (λ (s : Spot). s.block) same))
place_first block spot None later e = inr (refl, e)

place_is : (limit block : ℕ) (blocks : List (List Slot)) (spot : Spot) → place_from limit block blocks ≡ Some spot → (n : ℕ) × (spot.block ≡ block + n) × PlaceIn blocks n spot.slot
unfolding place_from PlaceIn
place_is limit block [] spot e =
    let same = (cond_some (nat_lt block limit) (record { block = block; slot = 0 }) spot e).1 in
    (0, (let own : block ≡ spot.block = ap (λ (s : Spot). s.block) same in omega arith), inr (refl, sym (ap (λ (s : Spot). s.slot) same)))
place_is limit block (x ∷ xs) spot e =
    elim (place_first block spot (lowest_free x) (place_from limit (block + 1) xs) e) [
      | inl here ↦ (0, (let own = here.1 in omega arith), inl (omega arith, here.0))
      | inr later ↦
          let rest = place_is limit (block + 1) xs spot later.1 in
          (suc rest.0, (let own : spot.block ≡ block + 1 + rest.0 = rest.1 in omega arith), elim rest.2 [ inl in_block ↦ inl ((let low = in_block.0 in omega arith), in_block.1) | inr behind ↦ inr (ap suc behind.0, behind.1) ])
    ]

-- where a row is put, by the blocks
place_in : (limit : ℕ) (blocks : List (List Slot)) (spot : Spot) → place_for limit blocks ≡ Some spot → PlaceIn blocks spot.block spot.slot
place_in limit blocks spot e =
    let found = place_is limit 0 blocks spot e in
    let same : found.0 ≡ spot.block = let own = found.1 in omega arith in
    subst (λ (n : ℕ). PlaceIn blocks n spot.slot) same found.2

-- a slot of a block that changes
set-slot : (blocks : List (List Slot)) (spot : Spot) (slot : Slot) → spot.block < length blocks → spot.slot < length (slots_of blocks spot.block) → ChangesSlot blocks (with_slot blocks spot slot) spot slot
set-slot blocks spot slot there within = record {
  there =
      ap (λ (s : List Slot). get_or s spot.slot None) (get_or-set_same blocks spot.block (set (slots_of blocks spot.block) spot.slot slot) [] there)
      ∙ get_or-set_same (slots_of blocks spot.block) spot.slot slot None within;
  others = λ other apart.
      elim (cases_eq other.block spot.block) [
        | inl same ↦
            let P : ℕ → Type 0 = λ b. get_or (slots_of (with_slot blocks spot slot) b) other.slot None ≡ get_or (slots_of blocks b) other.slot None in
            subst P (sym same)
            (ap (λ (s : List Slot). get_or s other.slot None) (get_or-set_same blocks spot.block (set (slots_of blocks spot.block) spot.slot slot) [] there)
            ∙ get_or-set_other (slots_of blocks spot.block) spot.slot other.slot slot None (λ e. apart (λ i. record { block = same i; slot = e i })))
        | inr away ↦ ap (λ (s : List Slot). get_or s other.slot None) (get_or-set_other blocks spot.block other.block (set (slots_of blocks spot.block) spot.slot slot) [] away)
      ];
}

-- of slots that are all free, or none, each is free
all_free : (count n : ℕ) (slots : List Slot) → (slots ≡ replicate count None) ⊎ (slots ≡ []) → get_or slots n None ≡ None
all_free count n slots (inl is) =
    elim (cases_lt n count) [
      | inl within ↦ ap (λ (s : List Slot). get_or s n None) is ∙ get_or-replicate {A = Slot} count n None None within
      | inr past ↦ get_or_past slots n None (let long = ap length is ∙ length-replicate {A = Slot} count None in omega arith)
    ]
all_free count n slots (inr is) = ap (λ (s : List Slot). get_or s n None) is

-- an empty block at the end changes no slot
empty-behind : (count : ℕ) (blocks : List (List Slot)) (spot : Spot) → slot_at (blocks ++ replicate count None ∷ []) spot ≡ slot_at blocks spot
empty-behind count blocks spot =
    elim (cases_lt spot.block (length blocks)) [
      | inl there ↦ ap (λ (s : List Slot). get_or s spot.slot None) (get_or_append_left blocks (replicate count None ∷ []) [] spot.block there)
      | inr past ↦
          all_free count spot.slot (get_or (blocks ++ replicate count None ∷ []) spot.block [])
          (elim (cases_eq spot.block (length blocks)) [
            | inl next ↦ inl (get_or_push blocks (replicate count None) [] spot.block (sym next))
            | inr behind ↦ inr (get_or_past (blocks ++ replicate count None ∷ []) spot.block [] (let long = length-append blocks (replicate count None ∷ []) in omega arith))
          ])
          ∙ sym (ap (λ (s : List Slot). get_or s spot.slot None) (get_or_past blocks spot.block [] past))
    ]

-- a put
pub put-slot : (limit count : ℕ) (blocks : List (List Slot)) (spot : Spot) (row : StoredRow) → 0 < count → place_for limit blocks ≡ Some spot → (slot_at blocks spot ≡ None) × ChangesSlot blocks (with_row count blocks spot row) spot (Some row)
unfolding PlaceIn
put-slot limit count blocks spot row some place =
    let result : List (List Slot) → Type 0 = λ all. ChangesSlot blocks (with_slot all spot (Some row)) spot (Some row) in
    let empty : List Slot = replicate count None in
    elim (place_in limit blocks spot place) [
      | inl in_block ↦
          let free = lowest_there (slots_of blocks spot.block) spot.slot in_block.1 in (
            get_or_from_slice_get (slots_of blocks spot.block) spot.slot None None free,
            subst (λ (t : Bool). result (cond t blocks (blocks ++ empty ∷ []))) (sym (lt-ltb spot.block (length blocks) in_block.0)) (set-slot blocks spot (Some row) in_block.0 (slice_get_within (slots_of blocks spot.block) spot.slot None free)),
          )
      | inr behind ↦
          let all : List (List Slot) = blocks ++ empty ∷ [] in
          let there : slots_of all spot.block ≡ empty = get_or_push blocks empty [] spot.block (sym behind.0) in
          let below : spot.block < length all = (let long = length-append blocks (empty ∷ []) in let next = behind.0 in omega arith) in
          let within : spot.slot < length (slots_of all spot.block) = (let long = ap length there ∙ length-replicate {A = Slot} count None in let first = behind.1 in omega arith) in
          let changed = set-slot all spot (Some row) below within in (
            ap (λ (s : List Slot). get_or s spot.slot None) (get_or_past blocks spot.block [] (let next = behind.0 in omega arith)),
            subst (λ (t : Bool). result (cond t blocks all)) (sym (le-ltb spot.block (length blocks) (let next = behind.0 in omega arith)))
                (record { there = changed.there; others = λ other apart. changed.others other apart ∙ empty-behind count blocks other }),
          )
    ]

-- a mark
pub mark_slot : (blocks : List (List Slot)) (spot : Spot) (row : StoredRow) (slot : Slot) → slot_at blocks spot ≡ Some row → ChangesSlot blocks (with_slot blocks spot slot) spot slot
mark_slot blocks spot row slot at =
    elim (cases_lt spot.slot (length (slots_of blocks spot.block))) [
      | inl within ↦
          set-slot blocks spot slot
          (elim (cases_lt spot.block (length blocks)) [
            | inl there ↦ there
            | inr past ↦ absurd (let none : length (slots_of blocks spot.block) ≡ 0 = ap length (get_or_past blocks spot.block [] past) in omega arith)
          ])
          within
      | inr past ↦ absurd (let none : None ≡ Some row = sym (get_or_past (slots_of blocks spot.block) spot.slot None past) ∙ at in cc)
    ]
