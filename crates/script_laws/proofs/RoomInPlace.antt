-- What room a page has where a tuple comes to its lowest free slot, or in place of another.
use Rattle.std.proofs.Common.{◌≡◌, ◌≢◌, ⊎_elim, ℕ, zero, suc, ◌+◌, ◌-◌, ◌*◌, ◌≤◌, ◌<◌, Bool, true, false, if◌then◌else◌, length, Option, Some, None, refl, sym, ◌∙◌, ap, subst, arith}
use Rattle.std.proofs.lemmas.Option.{none-some, same_Some}
use Rattle.std.specs.Option.{option_map}
use Rattle.index_layout.specs.IndexPages.{Slot, taken, tuple_bytes}
use Rattle.index_layout.specs.IndexReading.{free_of}
use Rattle.index_layout.specs.IndexWrites.{before, trimmed}
use Rattle.block_model.specs.declared.place.Spot.{Spot}
use Rattle.coverage.specs.Changes.{ChangesAt}
use Rattle.coverage.specs.IndexView.{IndexTuple}
use Rattle.coverage.specs.Rooms.{HasTuplesWithin, bytes_of, first_slots, page_room, place_room, slots_on}
use Rattle.coverage.specs.Verdicts.{IsFreeSlot, IsLowestNumber}
use Rattle.coverage.proofs.Numbers.{lt_or_ge}
use Rattle.coverage.proofs.PageRooms.{put_room, room_within}

no_bytes : (o : Option IndexTuple) → option_map (λ t. t.bytes) o ≡ None → o ≡ None
no_bytes None is = refl
no_bytes (Some t) is = absurd (none-some _ (sym is))

-- slots that all have tuples
all_taken : (f : ℕ → Slot) (n : ℕ) → ((j : ℕ) → j < n → f j ≢ None) → 4 * n ≤ taken (trimmed (first_slots f n))
unfolding taken trimmed first_slots
all_taken f zero all = omega arith
all_taken f (suc n) all = on (f 0) refl (all_taken (λ j. f (suc j)) n (λ j less. all (suc j) (omega (arith, less))))
  where
    more : (size used : ℕ) → 4 * n ≤ used → 4 * suc n ≤ 4 + size + used
    more size used le = omega (arith, le)

    on : (s : Slot) → f 0 ≡ s → 4 * n ≤ taken (trimmed (first_slots (λ j. f (suc j)) n)) → 4 * suc n ≤ taken (before (f 0) (trimmed (first_slots (λ j. f (suc j)) n)))
    on None is rest = absurd (all 0 (omega arith) is)
    on (Some tuple) is rest = subst (λ (s : Slot). 4 * suc n ≤ taken (before s (trimmed (first_slots (λ j. f (suc j)) n)))) (sym is)
        (more (length tuple) (taken (trimmed (first_slots (λ j. f (suc j)) n))) rest)

none_left : (used most place : ℕ) (gap : Bool) → 4 * 2040 ≤ used → most ≤ (if gap then 8160 - used else 8160 - used - 4) → most ≤ place
none_left used most place true all le = omega (arith, all, le)
none_left used most place false all le = omega (arith, all, le)

-- in place of a tuple that comes to the lowest free slot one may stand that had room on the page before
pub room_in_place : (f g : Spot → Option IndexTuple) (y : Spot) (t : IndexTuple) (most : ℕ) → IsLowestNumber (IsFreeSlot f y.block) y.slot → ChangesAt f g y None (Some t)
    → length t.bytes ≤ most → most ≤ page_room (bytes_of f) y.block → most ≤ place_room (bytes_of g) y
room_in_place f g y t most lowest changes size room = ⊎_elim
    (λ (less : y.slot < 2040).
    let as_much = put_room old new 2040 y.slot t.bytes less (ap (option_map (λ u. u.bytes)) lowest.0) lower (ap (option_map (λ u. u.bytes)) changes.now) others (within (length t.bytes) most (page_room (bytes_of f) y.block) size room) in
    subst (λ (s : Slot). most ≤ free_of (slots_on (bytes_of g) y.block) + length (tuple_bytes s)) (sym (ap (option_map (λ u. u.bytes)) changes.now)) (same most (page_room (bytes_of f) y.block) _ room as_much))
    (λ (past : 2040 ≤ y.slot). none_left (taken (slots_on (bytes_of f) y.block)) most (place_room (bytes_of g) y) _
    (all_taken old 2040 (λ j less. lower j (before_it j y.slot less past))) room)
    (lt_or_ge y.slot 2040)
  where
    old : ℕ → Slot
    old k = bytes_of f (record { block = y.block; slot = k })

    new : ℕ → Slot
    new k = bytes_of g (record { block = y.block; slot = k })

    crosses : (a b : ℕ) → a < b → b ≤ a → ⊥
    crosses a b less le = omega (arith, less, le)

    before_it : (j k : ℕ) → j < 2040 → 2040 ≤ k → j < k
    before_it j k less past = omega (arith, less, past)

    within : (a b c : ℕ) → a ≤ b → b ≤ c → a ≤ c
    within a b c one two = omega (arith, one, two)

    same : (a b c : ℕ) → a ≤ b → c ≡ b → a ≤ c
    same a b c le is = omega (arith, le, is)

    lower : (j : ℕ) → j < y.slot → old j ≢ None
    lower j less is = crosses j y.slot less (lowest.1 j (no_bytes (f (record { block = y.block; slot = j })) is))

    others : (j : ℕ) → j ≢ y.slot → new j ≡ old j
    others j apart = ⊎_elim
        (λ (is : record { block = y.block; slot = j } ≡ y). absurd (apart (ap (λ (x : Spot). x.slot) is)))
        (λ (same : g (record { block = y.block; slot = j }) ≡ f (record { block = y.block; slot = j })). ap (option_map (λ u. u.bytes)) same)
        (changes.others (record { block = y.block; slot = j }))

-- a page without tuples takes the longest one that a page takes
pub empty_within : (f : Spot → Option IndexTuple) (page most : ℕ) → ((x : Spot) → f x ≡ None) → HasTuplesWithin (bytes_of f) page 0 most
empty_within f page most none = record {
  none = λ k past. ap (option_map (λ u. u.bytes)) (none (record { block = page; slot = k }));
  few = λ k tuple is. absurd (none-some _ (sym (ap (option_map (λ u. u.bytes)) (none (record { block = page; slot = k }))) ∙ is));
}

pub empty_room : (f : Spot → Option IndexTuple) (page most : ℕ) → ((x : Spot) → f x ≡ None) → most ≤ 8156 → most ≤ page_room (bytes_of f) page
empty_room f page most none le = room_within (bytes_of f) page 0 most (empty_within f page most none) (omega (arith, le))

-- the tuples of a page still stand in so many slots where one comes to one of these
pub still_within : (f g : Spot → Option IndexTuple) (y : Spot) (t : IndexTuple) (old : Option IndexTuple) (page j k most : ℕ) → ChangesAt f g y old (Some t) → j ≤ k → y.slot < k
    → length t.bytes ≤ most → HasTuplesWithin (bytes_of f) page j most → HasTuplesWithin (bytes_of g) page k most
still_within f g y t old page j k most changes on low size within = record {
  none = λ i past. ⊎_elim
      (λ (is : record { block = page; slot = i } ≡ y). absurd (crosses i y.slot k (ap (λ (x : Spot). x.slot) is) low past))
      (λ (same : g (record { block = page; slot = i }) ≡ f (record { block = page; slot = i })). ap (option_map (λ u. u.bytes)) same ∙ within.none i (onto j k i on past))
      (changes.others (record { block = page; slot = i }));
  few = λ i tuple is. ⊎_elim
      (λ (at : record { block = page; slot = i } ≡ y).
      subst (λ bytes. length bytes ≤ most) (same_Some _ _ (sym (ap (option_map (λ u. u.bytes)) (ap g at ∙ changes.now)) ∙ is)) size)
      (λ (same : g (record { block = page; slot = i }) ≡ f (record { block = page; slot = i })). within.few i tuple (sym (ap (option_map (λ u. u.bytes)) same) ∙ is))
      (changes.others (record { block = page; slot = i }));
}
  where
    crosses : (i n k : ℕ) → i ≡ n → n < k → k ≤ i → ⊥
    crosses i n k is less le = omega (arith, is, less, le)

    onto : (j k i : ℕ) → j ≤ k → k ≤ i → j ≤ i
    onto j k i one two = omega (arith, one, two)

-- a free slot of the page is past its lowest one, and a slot with a tuple is one of the first
pub put_low : (f : Spot → Option IndexTuple) (y : Spot) (k most : ℕ) → IsLowestNumber (IsFreeSlot f y.block) y.slot → HasTuplesWithin (bytes_of f) y.block k most → y.slot < suc k
put_low f y k most lowest within = up y.slot k (lowest.1 k (no_bytes (f (record { block = y.block; slot = k })) (within.none k (omega arith))))
  where
    up : (a b : ℕ) → a ≤ b → a < suc b
    up a b le = omega (arith, le)

pub stands_low : (f : Spot → Option IndexTuple) (y : Spot) (t : IndexTuple) (k most : ℕ) → f y ≡ Some t → HasTuplesWithin (bytes_of f) y.block k most → y.slot < k
stands_low f y t k most is within = ⊎_elim
    (λ (less : y.slot < k). less)
    (λ (past : k ≤ y.slot). absurd (none-some _ (sym (within.none y.slot past) ∙ ap (option_map (λ u. u.bytes)) is)))
    (lt_or_ge y.slot k)
