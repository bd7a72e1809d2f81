-- what a scan found stands where it was found
use Rattle.std.proofs.Common.{◌≡◌, ℕ, suc, ◌+◌, Bool, true, false, cond, List, [], ◌∷◌, Option, None, Some, All, refl, sym, ap, subst, arith}
use Rattle.std.specs.Prelude.{slice_index_or}
use Rattle.std.specs.List.{AllByRecursion, filter}
use Rattle.std.proofs.lemmas.List.Elements.{All-append, All-cons, All-map, All-nil, recursion_from_All}
use Rattle.block_model.specs.declared.place.Spot.{Spot}
use Rattle.block_model.specs.declared.row.Query.{Query}
use Rattle.block_model.specs.declared.row.Row.{Row}
use Rattle.page_layout.specs.PageContents.{Slot}
use Rattle.page_layout.specs.RowBytes.{StoredRow}
use Rattle.heap_rows.specs.declared.rows.Stored.{Stored}
use Rattle.heap_rows.specs.HeapBlocks.{slots_of}
use Rattle.heap_rows.specs.RowPlaces.{slot_at}
use Rattle.heap_rows.specs.StoredRows.{stored_from, stored_in, stored_rows}
use Rattle.index_steps.specs.ShownRows.{row_in}
use Rattle.bitmap_scan.specs.Finds.{FindHand, FindsThere, Sight, found_at, is_visible_match, visible_matches}

-- what holds of each row in its slot, holds of the rows in use
in_slots : (Q : Stored → Type 0) (slots : List Slot) (least : ℕ) → ((k : ℕ) (row : StoredRow) → slice_index_or slots k None ≡ Some row → Q (stored_in (least + k) row)) → All Q (stored_from least slots)
unfolding stored_from
in_slots Q [] least each = All-nil Q
in_slots Q (None ∷ slots) least each = in_slots Q slots (least + 1) (λ k row is. subst (λ (n : ℕ). Q (stored_in n row)) (omega arith) (each (suc k) row is))
in_slots Q (Some first ∷ slots) least each = All-cons Q (stored_in least first) (stored_from (least + 1) slots)
    (subst (λ (n : ℕ). Q (stored_in n first)) (omega arith) (each 0 first refl))
    (in_slots Q slots (least + 1) (λ k row is. subst (λ (n : ℕ). Q (stored_in n row)) (omega arith) (each (suc k) row is)))

by_test : {X : Type 0} (P : X → Type 0) (x : X) (xs : List X) (b : Bool) → P x → All P xs → All P (cond b (x ∷ xs) xs)
by_test P x xs true here more = All-cons P x xs here more
by_test P x xs false here more = more

all_kept : {X : Type 0} (P : X → Type 0) (g : X → Bool) (xs : List X) → AllByRecursion P xs → All P (filter g xs)
all_kept P g [] each = All-nil P
all_kept P g (x ∷ xs) each = by_test P x (filter g xs) (g x) each.0 (all_kept P g xs each.1)

-- the row of a spot is that one
abbrev pub IsThere : (table : ℕ) → List (List Slot) → Row × Spot → Type 0
IsThere table blocks f = row_in table (slot_at blocks f.1) ≡ Some f.0

module _ (sight : Sight) (query : Query) (blocks : List (List Slot)) (b : ℕ) where
  there : (k : ℕ) (row : StoredRow) → slice_index_or (slots_of blocks b) k None ≡ Some row → IsThere query.table blocks (found_at query.table b (stored_in (0 + k) row))
  there k row is = subst (λ (n : ℕ). IsThere query.table blocks (found_at query.table b (stored_in n row))) (omega arith) (ap (row_in query.table) is)

  matches_stand : All (IsThere query.table blocks) (visible_matches sight query b (stored_rows (slots_of blocks b)))
  matches_stand = All-map (IsThere query.table blocks) (found_at query.table b) (filter (is_visible_match sight query) (stored_rows (slots_of blocks b)))
      (all_kept (λ (x : Stored). IsThere query.table blocks (found_at query.table b x)) (is_visible_match sight query) (stored_rows (slots_of blocks b))
      (recursion_from_All (λ (x : Stored). IsThere query.table blocks (found_at query.table b x)) (stored_rows (slots_of blocks b))
      (in_slots (λ (x : Stored). IsThere query.table blocks (found_at query.table b x)) (slots_of blocks b) 0 there)))

pub all_stand : (sight : Sight) (blocks : List (List Slot)) (before after : FindHand) (next : Option ℕ) → FindsThere sight blocks before after next
    → All (IsThere before.judging.query.table blocks) before.found → All (IsThere before.judging.query.table blocks) after.found
all_stand sight blocks before after None same stand = subst (All (IsThere before.judging.query.table blocks)) (sym same) stand
all_stand sight blocks before after (Some b) added stand =
    subst (All (IsThere before.judging.query.table blocks)) (sym added) (All-append (IsThere before.judging.query.table blocks) before.found _ stand (matches_stand sight before.judging.query blocks b))
