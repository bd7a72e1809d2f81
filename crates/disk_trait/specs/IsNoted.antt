-- how the record of a disk's events is kept
use Rattle.std.specs.Prelude.{◌≡◌, ◌+◌, ◌≤◌, length, vec_len, vec_capacity}
use Rattle.disk_trait.specs.Noted.{replaced_count}
use Rattle.disk_trait.specs.declared.history.History.TheInside.{Inside}

-- the bytes that were replaced are those of the writes, and what room is left was taken
pub record IsNoted (past : Inside) : Type 0 where
  pub whole : replaced_count past.calls.items ≡ length past.replaced.items
  pub calls : vec_len past.calls + past.calls_left ≤ vec_capacity past.calls
  pub bytes : vec_len past.replaced + past.bytes_left ≤ vec_capacity past.replaced
