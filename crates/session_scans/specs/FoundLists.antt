-- what a scan found, in lists
use Rattle.std.specs.Prelude.{◌≡◌, List, map, IsPermutation, IsSorted}
use Rattle.block_model.specs.declared.place.Spot.{Spot}
use Rattle.block_model.specs.declared.row.Row.{Row}
use Rattle.block_model.specs.TableState.{id_cmp}
use Rattle.session_parts.specs.declared.hand.Hit.{Hit}

-- the rows
abbrev pub rows_of : List (Row × Spot) → List Row
rows_of found = map (λ (f : Row × Spot). f.0) found

-- their ids, and where they stand
abbrev pub hit_of : Row × Spot → Hit
hit_of f = record { id = f.0.id; spot = f.1 }

abbrev pub hits_of : List (Row × Spot) → List Hit
hits_of found = map hit_of found

-- the same, in order of the ids of the rows
pub record IsInOrder (found ordered : List (Row × Spot)) : Type 0 where
  pub permutation : IsPermutation found ordered
  pub sorted : IsSorted (λ (a b : Row × Spot). id_cmp a.0.id b.0.id) ordered

-- the list has the rows, or the hits, in order
abbrev pub ListsRows : (found : List (Row × Spot)) → List Row → Type 0
ListsRows found rows = (ordered : List (Row × Spot)) × IsInOrder found ordered × (rows ≡ rows_of ordered)

abbrev pub ListsHits : (found : List (Row × Spot)) → List Hit → Type 0
ListsHits found hits = (ordered : List (Row × Spot)) × IsInOrder found ordered × (hits ≡ hits_of ordered)
