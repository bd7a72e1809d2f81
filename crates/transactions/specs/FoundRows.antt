-- what a scan of a table found
use Rattle.std.specs.Prelude.{◌≡◌, ℕ, ◌+◌, ◌<◌, ◌≤◌, ◌⊎◌, Bool, true, ◌&&◌, ◌==◌, List, [], ◌∷◌, Some, All}
use Rattle.std.specs.List.{list_any}
use Rattle.block_model.specs.declared.place.Spot.{Spot}
use Rattle.block_model.specs.declared.row.Query.{Query}
use Rattle.block_model.specs.declared.row.Row.{Row}
use Rattle.block_model.specs.RowMatches.{row_matches}
use Rattle.page_layout.specs.PageContents.{Slot}
use Rattle.page_layout.specs.RowBytes.{StoredRow}
use Rattle.heap_rows.specs.RowPlaces.{slot_at}
use Rattle.transactions.specs.StoredRows.{row_of}

-- the places ascend, from one on, by block and then by slot
abbrev pub Ascend : (block slot : ℕ) → List (Row × Spot) → Type 0
Ascend block slot [] = Unit {0}
Ascend block slot (f ∷ found) = ((block < f.1.block) ⊎ ((block ≡ f.1.block) × (slot ≤ f.1.slot))) × Ascend f.1.block (f.1.slot + 1) found

-- something was found at that place
abbrev pub is_found : List (Row × Spot) → ℕ → ℕ → Bool
is_found found b k = list_any (λ (f : Row × Spot). (f.1.block == b) && (f.1.slot == k)) found

-- at its spot stands the row that was found, which is seen and matches
pub record IsFoundThere (sees : StoredRow → Bool) (query : Query) (blocks : List (List Slot)) (found : Row × Spot) : Type 0 where
  pub stored : StoredRow
  pub there : slot_at blocks found.1 ≡ Some stored
  pub is : found.0 ≡ row_of query.table stored
  pub seen : sees stored ≡ true
  pub matches : row_matches query found.0 ≡ true

-- the rows that are seen and match were found, each once, and no others
pub record AreFound (sees : StoredRow → Bool) (query : Query) (blocks : List (List Slot)) (found : List (Row × Spot)) : Type 0 where
  pub ascend : Ascend 0 0 found
  pub there : All (IsFoundThere sees query blocks) found
  pub all : (spot : Spot) (row : StoredRow) → slot_at blocks spot ≡ Some row → sees row ≡ true → row_matches query (row_of query.table row) ≡ true → is_found found spot.block spot.slot ≡ true
