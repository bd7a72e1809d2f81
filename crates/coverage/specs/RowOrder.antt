-- Ids of rows in the order in which a delete marks them.
use Rattle.std.specs.Prelude.{◌≡◌, ◌⊎◌, ◌<◌, List, [], ◌∷◌}
use Rattle.block_model.specs.declared.row.RowId.{RowId}

-- by the transaction that put the row, and then by the row's place in it
abbrev pub IsBefore : RowId → RowId → Type 0
IsBefore a b = (a.t < b.t) ⊎ ((a.t ≡ b.t) × (a.k < b.k))

abbrev pub IsAmong : List RowId → RowId → Type 0
IsAmong [] id = ⊥
IsAmong (first ∷ rest) id = (id ≡ first) ⊎ IsAmong rest id

-- each comes before those behind it
abbrev pub AreInOrder : List RowId → Type 0
AreInOrder [] = Unit
AreInOrder (first ∷ rest) = ((id : RowId) → IsAmong rest id → IsBefore first id) × AreInOrder rest
