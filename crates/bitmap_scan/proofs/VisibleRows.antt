-- the visible matches among the rows of a block, one row after the other
use Rattle.std.proofs.Common.{◌≡◌, ℕ, Bool, true, false, ◌&&◌, cond, List, [], ◌∷◌, ◌++◌, map, sym, ap, ◌∙◌}
use Rattle.std.specs.List.{filter}
use Rattle.std.proofs.lemmas.List.{append_assoc, map-append}
use Rattle.std.proofs.lemmas.List.Elements.{filter-append}
use Rattle.block_model.specs.declared.place.Spot.{Spot}
use Rattle.block_model.specs.declared.row.Query.{Query}
use Rattle.block_model.specs.declared.row.Row.{Row}
use Rattle.block_model.specs.RowMatches.{row_matches}
use Rattle.heap_rows.specs.declared.rows.Stored.{Stored}
use Rattle.heap_rows.specs.StoredRows.{row_of}
use Rattle.snapshot_core.specs.declared.snapshots.Snapshot.{Snapshot}
use Rattle.snapshot_core.specs.declared.statuses.Status.{Status}
use Rattle.bitmap_scan.specs.Finds.{Sight, found_at, is_visible_match, sees_stored, stands_by, visible_matches}

-- how a transaction sees rows by these statuses
abbrev pub sight_of : Snapshot → (own first : ℕ) → List Status → Sight
sight_of snapshot own first statuses = record { snapshot = snapshot; own = own; status = stands_by first statuses }

module _ (sight : Sight) (query : Query) (block : ℕ) (row : Stored) where
  by_test : (b : Bool) → is_visible_match sight query row ≡ b → visible_matches sight query block (row ∷ []) ≡ map (found_at query.table block) (cond b (row ∷ []) [])
  by_test b is = ap (λ (c : Bool). map (found_at query.table block) (cond c (row ∷ []) [])) is

  -- a row that matches and is seen is found; another isn't
  pub is_found_alone : row_matches query (found_at query.table block row).0 ≡ true → sees_stored sight (row_of row) ≡ true → visible_matches sight query block (row ∷ []) ≡ found_at query.table block row ∷ []
  is_found_alone matches sees = by_test true (ap (λ (b : Bool). b && sees_stored sight (row_of row)) matches ∙ sees)

  pub is_hidden : row_matches query (found_at query.table block row).0 ≡ true → sees_stored sight (row_of row) ≡ false → visible_matches sight query block (row ∷ []) ≡ []
  is_hidden matches hidden = by_test false (ap (λ (b : Bool). b && sees_stored sight (row_of row)) matches ∙ hidden)

  pub is_other : row_matches query (found_at query.table block row).0 ≡ false → visible_matches sight query block (row ∷ []) ≡ []
  is_other other = by_test false (ap (λ (b : Bool). b && sees_stored sight (row_of row)) other)

  -- the first row and the others
  split : (rest : List Stored) → visible_matches sight query block (row ∷ rest) ≡ visible_matches sight query block (row ∷ []) ++ visible_matches sight query block rest
  split rest =
      ap (map (found_at query.table block)) (filter-append (is_visible_match sight query) (row ∷ []) rest)
      ∙ map-append (found_at query.table block) (filter (is_visible_match sight query) (row ∷ [])) (filter (is_visible_match sight query) rest)

  pub one_more : (rest : List Stored) (found found' all : List (Row × Spot)) → found' ≡ found ++ visible_matches sight query block (row ∷ []) → found ++ visible_matches sight query block (row ∷ rest) ≡ all
      → found' ++ visible_matches sight query block rest ≡ all
  one_more rest found found' all added so_far =
      ap (λ (l : List (Row × Spot)). l ++ visible_matches sight query block rest) added
      ∙ append_assoc found (visible_matches sight query block (row ∷ [])) (visible_matches sight query block rest)
      ∙ ap (λ (l : List (Row × Spot)). found ++ l) (sym (split rest)) ∙ so_far
