-- the bytes of a summary
use Rattle.std.specs.Prelude.{ℕ, List, [], ◌++◌}
use Rattle.byte_fields.specs.Int8.{int8_bytes}
use Rattle.opclass_minmax.specs.Bounds.{Bounds, NothingYet, Between}

-- no bytes where there is nothing yet, else the least and the greatest value
abbrev pub bytes_of : Bounds → List ℕ
bytes_of NothingYet = []
bytes_of (Between least greatest) = int8_bytes least ++ int8_bytes greatest
