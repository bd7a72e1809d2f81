-- who holds the summarise lock of which table
use Rattle.std.specs.Prelude.{ℕ, Option, None, List, slice_index_or}

-- the holder of that table's lock
abbrev pub right_of : List (Option ℕ) → ℕ → Option ℕ
right_of rights table = slice_index_or rights table None
