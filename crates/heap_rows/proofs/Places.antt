-- The lowest free slot, of a page and of a table's blocks.
use Rattle.std.proofs.Common.{◌≡◌, ℕ, zero, suc, ◌+◌, ◌<◌, cond, List, [], ◌∷◌, length, get_or, refl, sym, ap, ◌∙◌, arith}
use Rattle.std.specs.Prelude.{Option, None, Some, replicate, slice_get, nat_lt}
use Rattle.std.proofs.lemmas.List.{get_or-replicate, length-replicate}
use Rattle.std.proofs.lemmas.List.Quantifiers.{position-Some}
use Rattle.std.proofs.lemmas.Option.{slice_get-get_or}
use Rattle.page_layout.specs.PageContents.{Slot}
use Rattle.page_layout.specs.FreeSlots.{is_free, lowest_free}
use Rattle.page_layout.specs.SlotLaws.{free_slot, lowest_found, lowest_none}
use Rattle.heap_rows.specs.IsTableFull.{AreUsed}
use Rattle.heap_rows.specs.RowPlaces.{place_from, spot_in}

-- slots of one page

pub lowest_there : (slots : List Slot) (n : ℕ) → lowest_free slots ≡ Some n → slice_get slots n ≡ Some None
lowest_there slots n e =
    let at = position-Some is_free slots n None e in
    slice_get-get_or slots n None at.0 ∙ ap Some (free_slot (get_or slots n None) at.1)

pub used_none : (slots : List Slot) → AreUsed slots → lowest_free slots ≡ None
used_none slots used = sym (lowest_none slots (length slots) refl used)

pub first_of_empty : (count : ℕ) → 0 < count → lowest_free (replicate count None) ≡ Some 0
first_of_empty count some =
    let long : length (replicate count None) ≡ count = length-replicate {A = Slot} count None in
    sym (lowest_found (replicate count None) 0 (omega arith) (λ k below. absurd (omega arith)) (ap is_free (get_or-replicate {A = Slot} count 0 None None some)))

-- places in blocks

pub place_at : (limit block n slot : ℕ) (blocks : List (List Slot)) → n < length blocks → ((k : ℕ) → k < n → lowest_free (get_or blocks k []) ≡ None) → lowest_free (get_or blocks n []) ≡ Some slot
    → place_from limit block blocks ≡ Some (record { block = block + n; slot = slot })
unfolding place_from
place_at limit block n slot [] there before here = absurd (omega arith)
place_at limit block zero slot (x ∷ xs) there before here =
    let same : block ≡ block + 0 = omega arith in
    ap (λ (o : Option ℕ). spot_in block o (place_from limit (block + 1) xs)) here ∙ ap (λ (b : ℕ). Some (record { block = b; slot = slot })) same
place_at limit block (suc n) slot (x ∷ xs) there before here =
    let same : block + 1 + n ≡ block + suc n = omega arith in
    ap (λ (o : Option ℕ). spot_in block o (place_from limit (block + 1) xs)) (before 0 (omega arith))
    ∙ place_at limit (block + 1) n slot xs (omega arith) (λ k below. before (suc k) (omega arith)) here
    ∙ ap (λ (b : ℕ). Some (record { block = b; slot = slot })) same

pub place_behind : (limit block : ℕ) (blocks : List (List Slot)) → ((k : ℕ) → k < length blocks → lowest_free (get_or blocks k []) ≡ None)
    → place_from limit block blocks ≡ cond (nat_lt (block + length blocks) limit) (Some (record { block = block + length blocks; slot = 0 })) None
unfolding place_from
place_behind limit block [] used =
    let same : block ≡ block + 0 = omega arith in
    ap (λ (b : ℕ). cond (nat_lt b limit) (Some (record { block = b; slot = 0 })) None) same
place_behind limit block (x ∷ xs) used =
    let same : block + 1 + length xs ≡ block + suc (length xs) = omega arith in
    ap (λ (o : Option ℕ). spot_in block o (place_from limit (block + 1) xs)) (used 0 (omega arith))
    ∙ place_behind limit (block + 1) xs (λ k below. used (suc k) (omega arith))
    ∙ ap (λ (b : ℕ). cond (nat_lt b limit) (Some (record { block = b; slot = 0 })) None) same
