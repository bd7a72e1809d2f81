-- what stays of the slots of a table
use Rattle.std.proofs.Common.{◌≡◌, ◌≢◌, ◌⊎◌, inl, inr, ℕ, false, List, None, Some, refl, sym, ap, subst, ◌∙◌}
use Rattle.std.proofs.lemmas.Bool.{cases_eq}
use Rattle.std.proofs.lemmas.Option.{none-some, same_Some}
use Rattle.block_model.specs.declared.place.Spot.{Spot}
use Rattle.page_layout.specs.PageContents.{Slot}
use Rattle.page_layout.specs.PageWrites.{marked}
use Rattle.page_layout.specs.RowBytes.{StoredRow}
use Rattle.heap_rows.specs.RowPlaces.{ChangesSlot, slot_at, with_row}
use Rattle.snapshot_core.specs.Visibility.{in_snapshot}
use Rattle.bitmap_scan.specs.Finds.{Sight, sees_stored}
use Rattle.bitmap_scan.specs.SeenRows.{SeesLater}
use Rattle.bitmap_scan.proofs.Seen.{since_unseen, stays_seen}
use Rattle.session_parts.specs.Leaving.{LacksDeleters, RowsStay, SeesSlots}
use Rattle.session_parts.specs.TableLaws.{FilledSlotStays, MarkedSlotStays, SameSlotsStay}

-- a transaction sees by the same sight
sees_itself : (sight : Sight) → SeesLater sight sight
sees_itself sight = record { snapshot = refl; own = refl; ended = λ t is. refl }

-- the same row has the same deleter
lacks_still : (sight : Sight) (row now : StoredRow) → row ≡ now → in_snapshot sight.snapshot row.deleter (sight.status row.deleter) ≡ false → in_snapshot sight.snapshot now.deleter (sight.status now.deleter) ≡ false
lacks_still sight row now same = subst (λ (r : StoredRow). in_snapshot sight.snapshot r.deleter (sight.status r.deleter) ≡ false) same

pub same_slots : SameSlotsStay
same_slots blocks = record {
  rows = λ spot row there. (row, there, refl, refl);
  seen = λ sight spot now there. inl (now, there, refl);
  lacks = λ sight spot row now is there lacking. lacks_still sight row now (same_Some row now (sym is ∙ there)) lacking;
}

-- the spot is the one, or another
spot_cases : (a b : Spot) → (a ≡ b) ⊎ (a ≢ b)
spot_cases a b = elim (cases_eq a.block b.block) [
  | inl block ↦ elim (cases_eq a.slot b.slot) [
    | inl slot ↦ inl (λ i. record { block = block i; slot = slot i })
    | inr apart ↦ inr (λ is. apart (ap (λ (x : Spot). x.slot) is))
  ]
  | inr apart ↦ inr (λ is. apart (ap (λ (x : Spot). x.block) is))
]

module _ (spot : Spot) (row : StoredRow) (old new : List (List Slot)) (free : slot_at old spot ≡ None) (changes : ChangesSlot old new spot (Some row)) where
  filled_rows : RowsStay old new
  filled_rows at there is = (there, changes.others at (λ same. none-some there (sym free ∙ ap (slot_at old) (sym same) ∙ is)) ∙ is, refl, refl)

  filled_unseen : (sight : Sight) → sees_stored sight row ≡ false → SeesSlots sight old new
  filled_unseen sight unseen at now is = elim (spot_cases at spot) [
    | inl same ↦ inr (
      ap (slot_at old) same ∙ free,
      ap (sees_stored sight) (sym (same_Some row now (sym changes.there ∙ ap (slot_at new) (sym same) ∙ is))) ∙ unseen,
    )
    | inr other ↦ inl (now, sym (changes.others at other) ∙ is, refl)
  ]

  filled_lacks : (sight : Sight) → LacksDeleters sight old new
  filled_lacks sight at was now is there lacking = elim (spot_cases at spot) [
    | inl same ↦ absurd (none-some was (sym free ∙ ap (slot_at old) (sym same) ∙ is))
    | inr other ↦ lacks_still sight was now (same_Some was now (sym is ∙ sym (changes.others at other) ∙ there)) lacking
  ]

pub filled_slot : FilledSlotStays
filled_slot count spot row blocks fills = record {
  rows = filled_rows spot row blocks (with_row count blocks spot row) fills.0 fills.1;
  seen = λ sight since. filled_unseen spot row blocks (with_row count blocks spot row) fills.0 fills.1 sight (since_unseen sight row since);
  unseen = filled_unseen spot row blocks (with_row count blocks spot row) fills.0 fills.1;
  lacks = filled_lacks spot row blocks (with_row count blocks spot row) fills.0 fills.1;
}

module _ (spot : Spot) (row : StoredRow) (deleter : ℕ) (old new : List (List Slot)) (there : slot_at old spot ≡ Some row) (changes : ChangesSlot old new spot (Some (marked row deleter))) where
  marked_rows : RowsStay old new
  marked_rows at was is = elim (spot_cases at spot) [
    | inl same ↦ (
      marked row deleter,
      ap (slot_at new) same ∙ changes.there,
      ap (λ (r : StoredRow). r.id) (same_Some row was (sym there ∙ ap (slot_at old) (sym same) ∙ is)),
      ap (λ (r : StoredRow). r.values) (same_Some row was (sym there ∙ ap (slot_at old) (sym same) ∙ is)),
    )
    | inr other ↦ (was, changes.others at other ∙ is, refl, refl)
  ]

  marked_alike : (sight : Sight) → sees_stored sight (marked row deleter) ≡ sees_stored sight row → SeesSlots sight old new
  marked_alike sight alike at now is = elim (spot_cases at spot) [
    | inl same ↦ inl (
      row,
      ap (slot_at old) same ∙ there,
      ap (sees_stored sight) (sym (same_Some (marked row deleter) now (sym changes.there ∙ ap (slot_at new) (sym same) ∙ is))) ∙ alike,
    )
    | inr other ↦ inl (now, sym (changes.others at other) ∙ is, refl)
  ]

  marked_lacks : (sight : Sight) → in_snapshot sight.snapshot deleter (sight.status deleter) ≡ false → LacksDeleters sight old new
  marked_lacks sight lacks at was now is now_there lacking = elim (spot_cases at spot) [
    | inl same ↦ lacks_still sight (marked row deleter) now (same_Some (marked row deleter) now (sym changes.there ∙ ap (slot_at new) (sym same) ∙ now_there)) lacks
    | inr other ↦ lacks_still sight was now (same_Some was now (sym is ∙ sym (changes.others at other) ∙ now_there)) lacking
  ]

pub marked_slot : MarkedSlotStays
marked_slot spot row deleter old new there changes = record {
  rows = marked_rows spot row deleter old new there changes;
  seen = λ sight stays. marked_alike spot row deleter old new there changes sight (stays_seen sight sight (sees_itself sight) row (marked row deleter) stays);
  alike = marked_alike spot row deleter old new there changes;
  lacks = marked_lacks spot row deleter old new there changes;
}
