-- changes that fit can be logged
use Rattle.std.proofs.Common.{◌≡◌, inl, inr, ℕ, zero, suc, ◌+◌, ◌*◌, ◌%◌, ◌/◌, ◌≤◌, ◌&&◌, true, nat_le, nat_lt, List, [], ◌∷◌, ◌++◌, length, get_or, refl, ap, arith, length-append}
use Rattle.std.specs.Prelude.{None, Some, slice_get}
use Rattle.std.specs.Int.{bytes_high_first}
use Rattle.std.proofs.lemmas.Bool.{and_parts, false≢true, leb-true, ltb-true}
use Rattle.std.proofs.lemmas.Option.{slice_get_within}
use Rattle.block_model.specs.declared.place.Place.{Place}
use Rattle.byte_fields.specs.Fields.{length-number}
use Rattle.index_layout.specs.IndexPages.{Slot, taken, tuple_bytes}
use Rattle.index_layout.specs.IndexReading.{is_regular, slots_of}
use Rattle.index_layout.specs.IndexWrites.{IsRoom, are_ascending as tuples_ascend}
use Rattle.index_layout.proofs.Reading.{regular_of}
use Rattle.page_layout.specs.declared.page.Form.{Form}
use Rattle.page_layout.specs.declared.page.Form.TheVariants as forms
use Rattle.page_layout.specs.FreeSlots.{slot_count}
use Rattle.page_layout.specs.PageContents.{IsForm, IsPageOf, IsRowOf}
use Rattle.page_layout.specs.IndexLaws.{page_index}
use Rattle.page_layout.proofs.OnPages.{row_sound}
use Rattle.recovery.specs.Redo.{Fits, IsFreeSlot, are_ascending}
use Rattle.wal_record.specs.Changes.{LoggedChange, FullPage, PageStart, RowPut, RowMark, RowsDrop, TuplePut, TupleReplace, TupleDrop, Evacuate, MapPage, MapSet, MetaSet, StatusSet}
use Rattle.wal_record.specs.ChangeBytes.{bytes_of, counted_slots, place_bytes, put_bytes, spot_bytes, tagged}
use Rattle.page_store.specs.Room.{IsLoggable}

tagged_length : (tag : ℕ) (place : Place) (carried : List ℕ) → length (tagged tag place carried) ≡ 6 + length carried
tagged_length tag place carried = omega (arith, length-append (place_bytes place) carried)

put_length : (slot : ℕ) (bytes : List ℕ) → length (put_bytes slot bytes) ≡ 4 + length bytes
put_length slot bytes = omega (arith, length-append (bytes_high_first 2 slot) (bytes_high_first 2 (length bytes) ++ bytes), length-append (bytes_high_first 2 (length bytes)) bytes)

slots_length : (slots : List ℕ) → length (counted_slots slots) ≡ 2 + length slots
slots_length slots = let count : ℕ = length slots / 2 in omega (arith, length-append (bytes_high_first 2 (length slots / 2)) slots, length-number 2 (length slots / 2))

-- slots that ascend are few, and two bytes each

pub few_ascend : (least count : ℕ) (slots : List ℕ) → least ≤ count → are_ascending least count slots ≡ true → (length slots % 2 ≡ 0) × (length slots + 2 * least ≤ 2 * count)
unfolding are_ascending
few_ascend least count [] low holds = (refl, omega (arith, low))
few_ascend least count (high ∷ []) low holds = absurd (false≢true holds)
few_ascend least count (high ∷ byte ∷ slots) low holds =
    let parts = and_parts (nat_le least (high * 256 + byte) && nat_lt (high * 256 + byte) count) (are_ascending (high * 256 + byte + 1) count slots) holds in
    let here = and_parts (nat_le least (high * 256 + byte)) (nat_lt (high * 256 + byte) count) parts.0 in
    let above = leb-true least (high * 256 + byte) here.0 in
    let below = ltb-true (high * 256 + byte) count here.1 in
    let rest = few_ascend (high * 256 + byte + 1) count slots (omega (arith, below)) parts.1 in
    (let even = rest.0 in omega (arith, even), omega (arith, rest.1, above))

pub few_tuples_ascend : (least count : ℕ) (slots : List ℕ) → least ≤ count → tuples_ascend least count slots ≡ true → (length slots % 2 ≡ 0) × (length slots + 2 * least ≤ 2 * count)
unfolding tuples_ascend
few_tuples_ascend least count [] low holds = (refl, omega (arith, low))
few_tuples_ascend least count (high ∷ []) low holds = absurd (false≢true holds)
few_tuples_ascend least count (high ∷ byte ∷ slots) low holds =
    let parts = and_parts (nat_le least (high * 256 + byte) && nat_lt (high * 256 + byte) count) (tuples_ascend (high * 256 + byte + 1) count slots) holds in
    let here = and_parts (nat_le least (high * 256 + byte)) (nat_lt (high * 256 + byte) count) parts.0 in
    let above = leb-true least (high * 256 + byte) here.0 in
    let below = ltb-true (high * 256 + byte) count here.1 in
    let rest = few_tuples_ascend (high * 256 + byte + 1) count slots (omega (arith, below)) parts.1 in
    (let even = rest.0 in omega (arith, even), omega (arith, rest.1, above))

-- the slots of a page of tuples take room

four_each : (slots : List Slot) → 4 * length slots ≤ taken slots
unfolding taken
four_each [] = omega arith
four_each (slot ∷ slots) = omega (arith, four_each slots)

tuple_takes : (slots : List Slot) (n : ℕ) (tuple : List ℕ) → slice_get slots n ≡ Some (Some tuple) → length tuple ≤ taken slots
unfolding taken
tuple_takes [] n tuple there = absurd cc
tuple_takes (slot ∷ slots) zero tuple there = let e : slot ≡ Some tuple = cc in omega (arith, ap (λ (s : Slot). length (tuple_bytes s)) e)
tuple_takes (slot ∷ slots) (suc n) tuple there = omega (arith, tuple_takes slots n tuple there)

regular : (page : List ℕ) → IsPageOf forms.Index page → get_or page 0 0 ≡ 5 → taken (slots_of page) ≤ 8160
regular page is kind = (regular_of page 8192 refl (page_index page is) (ap is_regular kind)).has.fit.room

count_in : (count row : ℕ) → 1 ≤ row → count * row ≤ 8160 → count ≤ 8160
count_in count row some room = grind arith

row_in : (count row : ℕ) → 1 ≤ count → count * row ≤ 8160 → row ≤ 8160
row_in count row some room = grind arith

room_small : (slots : List Slot) (n size : ℕ) → IsRoom slots n size → size ≤ 8160
room_small slots n size (inl free) = omega (arith, free.1)
room_small slots n size (inr next) = omega (arith, next.1)

pub fits_loggable : (form : Form) (page : List ℕ) (change : LoggedChange) → IsForm form → Fits form page change → IsLoggable change
unfolding bytes_of
fits_loggable form page (FullPage place bytes) is fits = record { sizes = fits.0; few = omega (arith, fits.0, tagged_length 1 place bytes) }
fits_loggable form page (PageStart place kind) is fits = record { sizes = tt; few = omega (arith, tagged_length 2 place (kind ∷ [])) }
fits_loggable form page (RowPut place slot bytes) is fits = put_row form is fits
  where
    put_row : (form : Form) → IsForm form → IsFreeSlot form page slot × IsRowOf form bytes → IsLoggable (RowPut place slot bytes)
    put_row forms.Status is fits = absurd fits.1
    put_row (forms.Heap row count kinds format) is fits =
        let long = (row_sound (forms.Heap row count kinds format) row count kinds format bytes refl fits.1).0 in
        let there = slice_get_within fits.0.0 slot None fits.0.2 in
        let few = row_in count row (omega (arith, there, fits.0.1.counted)) is.1 in
        record { sizes = omega (arith, long, few, is.0); few = omega (arith, long, few, is.0, tagged_length 3 place (put_bytes slot bytes), put_length slot bytes) }
    put_row forms.Index is fits = absurd fits.1
fits_loggable form page (RowMark place slot deleter) is fits = record { sizes = tt; few = omega (arith, tagged_length 4 place (bytes_high_first 2 slot ++ bytes_high_first 8 deleter), length-append (bytes_high_first 2 slot) (bytes_high_first 8 deleter)) }
fits_loggable form page (RowsDrop place slots) is fits =
    let few = few_ascend 0 (slot_count form) slots (omega arith) fits.1 in
    let most = count_of form is in
    record { sizes = (few.0, omega (arith, few.1, most)); few = omega (arith, few.1, most, tagged_length 5 place (counted_slots slots), slots_length slots) }
  where
    count_of : (form : Form) → IsForm form → slot_count form ≤ 8160
    count_of forms.Status is = omega arith
    count_of (forms.Heap row count kinds format) is = count_in count row (omega (arith, is.0)) is.1
    count_of forms.Index is = omega arith
fits_loggable form page (TuplePut place slot bytes) is fits =
    let small : length bytes ≤ 8160 = room_small (slots_of page) slot (length bytes) fits.1.2 in
    record { sizes = omega (arith, small); few = omega (arith, small, tagged_length 6 place (put_bytes slot bytes), put_length slot bytes) }
fits_loggable form page (TupleReplace place slot bytes) is fits =
    let own = tuple_takes (slots_of page) slot fits.1.2.0 fits.1.2.1 in
    let room = regular page fits.0.1 fits.1.0 in
    let small : length bytes ≤ 16320 = omega (arith, fits.1.2.2, own, room) in
    record { sizes = omega (arith, small); few = omega (arith, small, tagged_length 7 place (put_bytes slot bytes), put_length slot bytes) }
fits_loggable form page (TupleDrop place slots) is fits =
    let few = few_tuples_ascend 0 (length (slots_of page)) slots (omega arith) fits.1.1 in
    let room = (regular_of page 8192 refl (page_index page fits.0.1) fits.1.0).has.fit.room in
    let four = four_each (slots_of page) in
    record { sizes = (few.0, omega (arith, few.1, four, room)); few = omega (arith, few.1, four, room, tagged_length 8 place (counted_slots slots), slots_length slots) }
fits_loggable form page (Evacuate place) is fits = record { sizes = tt; few = omega (arith, tagged_length 9 place []) }
fits_loggable form page (MapPage place) is fits = record { sizes = tt; few = omega (arith, tagged_length 10 place []) }
fits_loggable form page (MapSet place entry spot) is fits =
    record { sizes = tt; few = omega (arith, tagged_length 11 place (bytes_high_first 2 entry ++ spot_bytes spot), length-append (bytes_high_first 2 entry) (spot_bytes spot), length-append (bytes_high_first 4 spot.block) (bytes_high_first 2 spot.slot)) }
fits_loggable form page (MetaSet place maps) is fits = record { sizes = tt; few = omega (arith, tagged_length 12 place (bytes_high_first 4 maps)) }
fits_loggable form page (StatusSet place entry status) is fits = record { sizes = tt; few = omega (arith, tagged_length 13 place (bytes_high_first 2 entry ++ status ∷ []), length-append (bytes_high_first 2 entry) (status ∷ [])) }
