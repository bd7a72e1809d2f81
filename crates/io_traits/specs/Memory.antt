-- what a source and a sink in memory hold
use Rattle.std.specs.Prelude.{ℕ, ◌-◌, ◌<◌, ◌≤◌, min, List, length}
use Rattle.disk_trait.specs.Calls.{CallCounts}

-- a source in memory: the bytes that are left, and how many a call gives at most
pub record Reading : Type 0 where
  pub left : List ℕ
  pub piece : ℕ
  pub calls : CallCounts

-- a sink in memory: the bytes that it took, how many it has room for, and how many a call takes at most
pub record Writing : Type 0 where
  pub taken : List ℕ
  pub room : ℕ
  pub piece : ℕ
  pub calls : CallCounts

-- how many bytes a call gives that doesn't fail, into a piece of that length
abbrev pub given_count : Reading → ℕ → ℕ
given_count source len = min source.piece (min len (length source.left))

-- how many of so many bytes a call takes that doesn't fail
abbrev pub taken_count : Writing → ℕ → ℕ
taken_count sink len = min sink.piece (min len (sink.room - length sink.taken))

-- no room is left for bytes that there are
pub record IsFullFor (sink : Writing) (bytes : List ℕ) : Type 0 where
  pub full : sink.room ≤ length sink.taken
  pub some : 0 < length bytes
