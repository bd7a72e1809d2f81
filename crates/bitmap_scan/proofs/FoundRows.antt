-- the rows found on a block, by their places
use Rattle.std.proofs.Common.{◌≡◌, ◌⊎◌, inl, inr, ℕ, zero, suc, ◌+◌, ◌<◌, ◌==◌, Bool, true, false, ◌&&◌, ◌||◌, cond, List, [], ◌∷◌, ◌++◌, length, map, None, Some, refl, sym, ap, subst, ◌∙◌, arith}
use Rattle.std.specs.Prelude.{slice_index_or}
use Rattle.std.specs.List.{filter, list_any}
use Rattle.std.proofs.lemmas.Bool.{and_parts, eq-eqb, eqb-true, false≢true}
use Rattle.std.proofs.lemmas.List.Folds.{list_any-append}
use Rattle.std.proofs.lemmas.Option.{none-some, same_Some}
use Rattle.block_model.specs.declared.place.Spot.{Spot}
use Rattle.block_model.specs.declared.row.Query.{Query}
use Rattle.block_model.specs.declared.row.Row.{Row}
use Rattle.block_model.specs.declared.value.Kind.{Kind}
use Rattle.block_model.specs.RowMatches.{row_matches}
use Rattle.store_layout.specs.DiskLayout.{DiskLayout}
use Rattle.page_layout.specs.PageContents.{AreSlots, Slot}
use Rattle.page_layout.specs.RowBytes.{StoredRow}
use Rattle.page_map.specs.PageMap.{PageMap}
use Rattle.heap_rows.specs.declared.rows.Stored.{Stored}
use Rattle.heap_rows.specs.Heaps.{kinds_at}
use Rattle.heap_rows.specs.HeapBlocks.{HasBlocks, slots_of}
use Rattle.heap_rows.specs.RowPlaces.{slot_at}
use Rattle.heap_rows.specs.StoredRows.{stored_from, stored_in, stored_rows}
use Rattle.index_steps.specs.IndexTuples.{are_values}
use Rattle.bitmap_scan.specs.Finds.{Sight, found_at, is_found, is_visible_match, sees_stored, visible_matches}
use Rattle.index_steps.specs.ShownRows.{row_in}
use Rattle.bitmap_scan.proofs.StoredValues.{values_are}

-- a test of what is made of those that pass another
made_by : {X Y : Type 0} (q : Y → Bool) (f : X → Y) (g : X → Bool) (x : X) (xs : List X) → list_any q (map f (filter g xs)) ≡ list_any (λ y. g y && q (f y)) xs → (b : Bool)
    → list_any q (map f (cond b (x ∷ filter g xs) (filter g xs))) ≡ ((b && q (f x)) || list_any (λ y. g y && q (f y)) xs)
made_by q f g x xs rest true = ap (λ (c : Bool). q (f x) || c) rest
made_by q f g x xs rest false = rest

any_made : {X Y : Type 0} (q : Y → Bool) (f : X → Y) (g : X → Bool) (xs : List X) → list_any q (map f (filter g xs)) ≡ list_any (λ x. g x && q (f x)) xs
any_made q f g [] = refl
any_made q f g (x ∷ xs) = made_by q f g x xs (any_made q f g xs) (g x)

either_true : (a b : Bool) → (a || b) ≡ true → (a ≡ true) ⊎ (b ≡ true)
either_true true b is = inl refl
either_true false b is = inr is

or_left : (a b : Bool) → a ≡ true → (a || b) ≡ true
or_left true b is = refl
or_left false b is = absurd (false≢true is)

or_right : (a b : Bool) → b ≡ true → (a || b) ≡ true
or_right true b is = refl
or_right false b is = is

and_true : (a b : Bool) → a ≡ true → b ≡ true → (a && b) ≡ true
and_true true true one two = refl
and_true true false one two = absurd (false≢true two)
and_true false b one two = absurd (false≢true one)

-- a row in a slot is among the rows of its block, with its slot
stored_there : (p : Stored → Bool) (slots : List Slot) (least k : ℕ) (row : StoredRow) → slice_index_or slots k None ≡ Some row → p (stored_in (least + k) row) ≡ true → list_any p (stored_from least slots) ≡ true
unfolding stored_from
stored_there p [] least k row is passes = absurd (none-some row is)
stored_there p (None ∷ slots) least zero row is passes = absurd (none-some row is)
stored_there p (Some first ∷ slots) least zero row is passes =
    or_left _ _ (subst (λ (r : StoredRow). p (stored_in least r) ≡ true) (sym (same_Some first row is)) (subst (λ (n : ℕ). p (stored_in n row) ≡ true) (omega arith) passes))
stored_there p (None ∷ slots) least (suc k) row is passes = stored_there p slots (least + 1) k row is (subst (λ (n : ℕ). p (stored_in n row) ≡ true) (omega arith) passes)
stored_there p (Some first ∷ slots) least (suc k) row is passes =
    or_right _ _ (stored_there p slots (least + 1) k row is (subst (λ (n : ℕ). p (stored_in n row) ≡ true) (omega arith) passes))

-- and each of them stands in its slot
record StandsIn (p : Stored → Bool) (slots : List Slot) (least : ℕ) : Type 0 where
  k : ℕ
  row : StoredRow
  there : slice_index_or slots k None ≡ Some row
  passes : p (stored_in (least + k) row) ≡ true

later : (p : Stored → Bool) (slot : Slot) (slots : List Slot) (least : ℕ) → StandsIn p slots (least + 1) → StandsIn p (slot ∷ slots) least
later p slot slots least s = record { k = suc s.k; row = s.row; there = s.there; passes = subst (λ (n : ℕ). p (stored_in n s.row) ≡ true) (omega arith) s.passes }

from_stored : (p : Stored → Bool) (slots : List Slot) (least : ℕ) → list_any p (stored_from least slots) ≡ true → StandsIn p slots least
unfolding stored_from
from_stored p [] least is = absurd (false≢true is)
from_stored p (None ∷ slots) least is = later p None slots least (from_stored p slots (least + 1) is)
from_stored p (Some row ∷ slots) least is = elim (either_true (p (stored_in least row)) _ is) [
  | inl here ↦ record { k = 0; row = row; there = refl; passes = subst (λ (n : ℕ). p (stored_in n row) ≡ true) (omega arith) here }
  | inr more ↦ later p (Some row) slots least (from_stored p slots (least + 1) more)
]

-- rows on pages have values of their table
values_in : (kinds : List Kind) (slots : List Slot) (k : ℕ) (row : StoredRow) → AreSlots kinds slots → slice_index_or slots k None ≡ Some row → are_values kinds row.values ≡ true
values_in kinds [] k row are is = absurd (none-some row is)
values_in kinds (None ∷ slots) zero row are is = absurd (none-some row is)
values_in kinds (Some first ∷ slots) zero row are is = subst (λ (r : StoredRow). are_values kinds r.values ≡ true) (same_Some first row is) (values_are kinds first.values are.0.columns are.0.values)
values_in kinds (slot ∷ slots) (suc k) row are is = values_in kinds slots k row are.1 is

-- blocks behind the last have no slots
slots_none : (blocks : List (List Slot)) (b k : ℕ) (row : StoredRow) → slice_index_or (slots_of blocks b) k None ≡ Some row → b < length blocks
slots_none [] b k row is = absurd (none-some row is)
slots_none (slots ∷ blocks) zero k row is = omega arith
slots_none (slots ∷ blocks) (suc b) k row is = omega (arith, slots_none blocks b k row is)

pub values_there : (layout : DiskLayout) (pages : PageMap) (table : ℕ) (blocks : List (List Slot)) (b k : ℕ) (row : StoredRow) → HasBlocks layout pages table blocks
    → slot_at blocks (record { block = b; slot = k }) ≡ Some row → are_values (kinds_at layout table) row.values ≡ true
values_there layout pages table blocks b k row has is = values_in (kinds_at layout table) (slots_of blocks b) k row (has.started b (slots_none blocks b k row is)).are is

-- a row of the table is that of a slot
pub slot_of_row : (table : ℕ) (slot : Slot) (r : Row) → row_in table slot ≡ Some r → (row : StoredRow) × (slot ≡ Some row) × (r ≡ record { table = table; id = row.id; values = row.values })
slot_of_row table None r is = absurd (none-some r is)
slot_of_row table (Some row) r is = (row, refl, sym (same_Some (record { table = table; id = row.id; values = row.values }) r is))

abbrev is_at : ℕ → ℕ → Row × Spot → Bool
is_at b k f = (f.1.block == b) && (f.1.slot == k)

module _ (sight : Sight) (query : Query) (block : ℕ) (slots : List Slot) where
  abbrev finds : List (Row × Spot)
  finds = visible_matches sight query block (stored_rows slots)

  -- a visible match is found at its place
  pub found_there : (k : ℕ) (row : StoredRow) → slice_index_or slots k None ≡ Some row → row_matches query (record { table = query.table; id = row.id; values = row.values }) ≡ true → sees_stored sight row ≡ true
      → is_found finds block k ≡ true
  found_there k row is matches sees =
      any_made (is_at block k) (found_at query.table block) (is_visible_match sight query) (stored_rows slots)
      ∙ stored_there here slots 0 k row is (subst (λ (n : ℕ). here (stored_in n row) ≡ true) (omega arith) (and_true _ _ (and_true _ _ matches sees) (and_true _ _ (eq-eqb block block refl) (eq-eqb k k refl))))
    where
      here : Stored → Bool
      here stored = is_visible_match sight query stored && is_at block k (found_at query.table block stored)

  -- and what is found is one
  pub record IsFoundMatch (b k : ℕ) : Type 0 where
    pub row : StoredRow
    pub block_is : b ≡ block
    pub there : slice_index_or slots k None ≡ Some row
    pub matches : row_matches query (record { table = query.table; id = row.id; values = row.values }) ≡ true
    pub sees : sees_stored sight row ≡ true

  pub found_is : (b k : ℕ) → is_found finds b k ≡ true → IsFoundMatch b k
  found_is b k is =
      let s = from_stored here slots 0 (sym (any_made (is_at b k) (found_at query.table block) (is_visible_match sight query) (stored_rows slots)) ∙ is) in
      let passes : here (stored_in s.k s.row) ≡ true = subst (λ (n : ℕ). here (stored_in n s.row) ≡ true) (omega arith) s.passes in
      let both = and_parts (is_visible_match sight query (stored_in s.k s.row)) _ passes in
      let place = and_parts (block == b) _ both.1 in
      let matches = and_parts (row_matches query (record { table = query.table; id = s.row.id; values = s.row.values })) _ both.0 in
      let slot : s.k ≡ k = eqb-true s.k k place.1 in
      record { row = s.row; block_is = sym (eqb-true block b place.0); there = subst (λ (n : ℕ). slice_index_or slots n None ≡ Some s.row) slot s.there; matches = matches.0; sees = matches.1 }
    where
      here : Stored → Bool
      here stored = is_visible_match sight query stored && is_at b k (found_at query.table block stored)

-- what is found among more
pub found_more : (old more : List (Row × Spot)) (b k : ℕ) → is_found old b k ≡ true → is_found (old ++ more) b k ≡ true
found_more old more b k is = list_any-append (is_at b k) old more ∙ or_left _ _ is

pub found_new : (old more : List (Row × Spot)) (b k : ℕ) → is_found more b k ≡ true → is_found (old ++ more) b k ≡ true
found_new old more b k is = list_any-append (is_at b k) old more ∙ or_right _ _ is

pub found_either : (old more : List (Row × Spot)) (b k : ℕ) → is_found (old ++ more) b k ≡ true → (is_found old b k ≡ true) ⊎ (is_found more b k ≡ true)
found_either old more b k is = either_true _ _ (sym (list_any-append (is_at b k) old more) ∙ is)
