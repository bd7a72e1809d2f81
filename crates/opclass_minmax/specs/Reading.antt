-- the summary that bytes encode, or where they go wrong
use Rattle.std.specs.Prelude.{ℕ, ◌==◌, nat_lt, int_lt, if◌then◌else◌, List, length, Result, Ok, Err}
use Rattle.byte_fields.specs.Int8.{int8_at}
use Rattle.opclass_minmax.specs.Bounds.{Bounds, NothingYet, Between}

-- two values: they go wrong at their end while bytes are missing, at a greatest that is below the least, and behind both
abbrev pub both_in : List ℕ → Result Bounds ℕ
both_in bytes =
    if nat_lt (length bytes) 16 then Err (length bytes)
    else if int_lt (int8_at bytes 8) (int8_at bytes 0) then Err 8
    else if nat_lt 16 (length bytes) then Err 16
    else Ok (Between (int8_at bytes 0) (int8_at bytes 8))

-- no bytes are nothing yet
abbrev pub read_of : List ℕ → Result Bounds ℕ
read_of bytes = if length bytes == 0 then Ok NothingYet else both_in bytes
