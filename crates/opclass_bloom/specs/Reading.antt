-- the summary that bytes encode, or where they go wrong
use Rattle.std.specs.Prelude.{ℕ, ◌==◌, min, if◌then◌else◌, Bool, List, length, Result, Ok, Err}
use Rattle.opclass_bloom.specs.Encoding.{size_of}
use Rattle.opclass_bloom.specs.Kept.{bits_of}
use Rattle.opclass_bloom.specs.Parameters.{Parameters}

-- as many bytes as every summary has are one; others go wrong at their end, or at the first byte too many
abbrev pub read_of : Parameters → List ℕ → Result (List Bool) ℕ
read_of p bytes = if length bytes == size_of p then Ok (bits_of bytes) else Err (min (length bytes) (size_of p))
