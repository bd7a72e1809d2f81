-- What room a page has for tuples: a function of those that stand on it.
use Rattle.std.specs.Prelude.{◌≡◌, ℕ, zero, suc, ◌+◌, ◌≤◌, List, [], ◌∷◌, length, Option, None, Some}
use Rattle.std.specs.Option.{option_map}
use Rattle.block_model.specs.declared.place.Spot.{Spot}
use Rattle.index_layout.specs.IndexPages.{Slot, tuple_bytes}
use Rattle.index_layout.specs.IndexReading.{free_of}
use Rattle.index_layout.specs.IndexWrites.{room_for_further, trimmed}
use Rattle.coverage.specs.IndexView.{IndexTuple}

-- the bytes of the tuple at each place
abbrev pub bytes_of : (Spot → Option IndexTuple) → Spot → Slot
bytes_of tuple x = option_map (λ t. t.bytes) (tuple x)

-- so many slots, from the lowest on
unfoldable pub first_slots : (ℕ → Slot) → ℕ → List Slot
first_slots slot zero = []
first_slots slot (suc n) = slot 0 ∷ first_slots (λ k. slot (suc k)) n

-- as many slots as a page has room for, of 4 bytes each
abbrev pub most_slots : ℕ
most_slots = 2040

-- the slots of a page, up to the last one with a tuple
abbrev pub slots_on : (Spot → Slot) → ℕ → List Slot
slots_on bytes page = trimmed (first_slots (λ k. bytes (record { block = page; slot = k })) most_slots)

-- how long a further tuple the page takes
abbrev pub page_room : (Spot → Slot) → ℕ → ℕ
page_room bytes page = room_for_further (slots_on bytes page)

-- how long a tuple may stand in place of the one there
abbrev pub place_room : (Spot → Slot) → Spot → ℕ
place_room bytes x = free_of (slots_on bytes x.block) + length (tuple_bytes (bytes x))

-- the tuples of a page stand in its first slots, and none has more bytes than so many
pub record HasTuplesWithin (bytes : Spot → Slot) (page slots most : ℕ) : Type 0 where
  pub none : (k : ℕ) → slots ≤ k → bytes (record { block = page; slot = k }) ≡ None
  pub few : (k : ℕ) (tuple : List ℕ) → bytes (record { block = page; slot = k }) ≡ Some tuple → length tuple ≤ most
