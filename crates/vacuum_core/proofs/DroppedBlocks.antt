-- rows that are dropped from a block
use Rattle.std.proofs.Common.{◌≡◌, ◌⊎◌, inl, inr, ℕ, zero, suc, ◌+◌, ◌<◌, List, [], ◌∷◌, length, get_or, sym, ap, subst, ◌∙◌, arith}
use Rattle.std.specs.Prelude.{All, Contains, None, Some}
use Rattle.std.proofs.lemmas.Bool.{cases_eq}
use Rattle.std.proofs.lemmas.List.{length-set}
use Rattle.std.proofs.lemmas.List.Elements.{All-head, All-tail}
use Rattle.std.proofs.lemmas.Option.{none-some, same_Some}
use Rattle.block_model.specs.declared.place.Spot.{Spot}
use Rattle.coverage.specs.Counts.{HasGone}
use Rattle.page_layout.specs.PageContents.{Slot}
use Rattle.page_layout.specs.RowBytes.{StoredRow}
use Rattle.heap_rows.specs.DroppedRows.{AreAscending, FreesSlots, with_free, with_slots_free}
use Rattle.heap_rows.specs.HeapBlocks.{slots_of}
use Rattle.heap_rows.specs.RowPlaces.{slot_at}
use Rattle.heap_rows.specs.StoredRows.{stored_from, stored_rows}
use Rattle.vacuum_core.specs.DeadRows.{DropsFrom, DropsTheDead, Living, dead_slots, is_dead}
use Rattle.vacuum_core.proofs.Counting.{counts_ascending}
use Rattle.vacuum_core.proofs.Picking.{IsAmong, dead_listed, listed_dead}

among_contained : (slots : List ℕ) (n : ℕ) → IsAmong slots n → Contains slots n
among_contained [] n among = absurd among
among_contained (first ∷ slots) n among = elim among [
  | inl is ↦ (0, omega arith, sym is)
  | inr later ↦ let at = among_contained slots n later in (suc at.0, omega (arith, at.1), at.2)
]

contained_among : (slots : List ℕ) (n k : ℕ) → k < length slots → get_or slots k n ≡ n → IsAmong slots n
contained_among [] n k below is = absurd (omega (arith, below))
contained_among (first ∷ slots) n zero below is = inl (sym is)
contained_among (first ∷ slots) n (suc k) below is = inr (contained_among slots n k (omega (arith, below)) is)

pub is_among : (slots : List ℕ) (n : ℕ) → IsAmong slots n ⊎ (IsAmong slots n → ⊥)
is_among [] n = inr (λ none. none)
is_among (first ∷ slots) n = elim (cases_eq n first) [
  | inl is ↦ inl (inl is)
  | inr other ↦ elim (is_among slots n) [
    | inl later ↦ inl (inr later)
    | inr none ↦ inr (λ among. elim among [
      | inl is ↦ other is
      | inr later ↦ none later
    ])
  ]
]

all_among : (P : ℕ → Type 0) (slots : List ℕ) (n : ℕ) → All P slots → IsAmong slots n → P n
all_among P [] n all among = absurd among
all_among P (first ∷ slots) n all among = elim among [
  | inl is ↦ subst P (sym is) (All-head P first slots all)
  | inr later ↦ all_among P slots n (All-tail P first slots all) later
]

module _ (blocks : List (List Slot)) (block : ℕ) (free : List ℕ) (frees : FreesSlots block free blocks) where
  abbrev after : List (List Slot)
  after = with_slots_free blocks block free

  abbrev at : ℕ → Spot
  at k = record { block = block; slot = k }

  there : (k : ℕ) → IsAmong free k → slot_at after (at k) ≡ None
  there k among = all_among (λ (n : ℕ). slot_at after (at n) ≡ None) free k frees.there among

  stays : (k : ℕ) → (IsAmong free k → ⊥) → slot_at after (at k) ≡ slot_at blocks (at k)
  stays k none = frees.others (at k) (λ same contained. none (contained_among free k contained.0 contained.1 contained.2))

  moves : (list : List (List Slot)) (x : Spot) → x.block ≡ block → slot_at list x ≡ slot_at list (at x.slot)
  moves list x same = ap (λ (b : ℕ). get_or (slots_of list b) x.slot None) same

  -- each slot is as it was, or free
  each_slot : (x : Spot) → (slot_at after x ≡ slot_at blocks x) ⊎ ((x.block ≡ block) × IsAmong free x.slot)
  each_slot x = elim (cases_eq x.block block) [
    | inl same ↦ elim (is_among free x.slot) [
      | inl among ↦ inr (same, among)
      | inr none ↦ inl (moves after x same ∙ stays x.slot none ∙ sym (moves blocks x same))
    ]
    | inr other ↦ inl (frees.others x (λ same contained. absurd (other same)))
  ]

  -- so many rows have gone
  pub drops_from : (count : ℕ) → AreAscending 0 count free → All (λ k. (row : StoredRow) × (slot_at blocks (at k) ≡ Some row)) free → DropsFrom blocks after block (length free)
  drops_from count ascend used = record {
    blocks = length-set blocks block (with_free (slots_of blocks block) free);
    slots = λ x. elim (each_slot x) [
      | inl same ↦ inl same
      | inr gone ↦ inr (gone.0, moves after x gone.0 ∙ there x.slot gone.1)
    ];
    counted = counts_ascending count (λ (k : ℕ). HasGone (slot_at blocks (at k)) (slot_at after (at k))) free ascend
        (λ k gone. elim (is_among free k) [
          | inl among ↦ among
          | inr none ↦ absurd (gone.0 (sym (stays k none) ∙ gone.1))
        ])
        (λ k among. let row = all_among (λ (n : ℕ). (row : StoredRow) × (slot_at blocks (at n) ≡ Some row)) free k used among in (λ none. none-some row.0 (sym none ∙ row.1), there k among));
  }

  -- exactly the dead ones
  pub drops_the_dead : (by : Living) → free ≡ dead_slots by (stored_rows (slots_of blocks block)) → DropsTheDead by blocks after block
  drops_the_dead by is = record {
    dead = λ k row there_was dead.
        let among : IsAmong (dead_slots by (stored_from 0 (slots_of blocks block))) (0 + k) = dead_listed by 0 k (slots_of blocks block) row there_was dead in
        let e : 0 + k ≡ k = omega arith in
        there k (subst (λ (l : List ℕ). IsAmong l k) (sym is) (subst (IsAmong (dead_slots by (stored_from 0 (slots_of blocks block)))) e among));
    gone = λ x row was now. elim (each_slot x) [
      | inl same ↦ absurd (none-some row (sym now ∙ same ∙ was))
      | inr gone ↦
          let found = listed_dead by 0 x.slot (slots_of blocks block) (subst (λ (l : List ℕ). IsAmong l x.slot) is gone.1) in
          let e : found.0 ≡ x.slot = (let f = found.1 in omega (arith, f)) in
          let same : Some found.2.0 ≡ Some row = sym found.2.1 ∙ ap (λ (i : ℕ). get_or (slots_of blocks block) i None) e ∙ sym (moves blocks x gone.0) ∙ was in
          (gone.0, ap (is_dead by) (sym (same_Some found.2.0 row same)) ∙ found.2.2)
    ];
  }
