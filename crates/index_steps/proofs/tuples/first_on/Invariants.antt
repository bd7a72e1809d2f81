use Rattle.std.proofs.Common.{◌≡◌, ℕ, ◌<◌}
use Rattle.std.specs.Prelude.{None}
use Rattle.index_contents.specs.IndexContents.{tuple_on}
use Rattle.index_steps.proofs.tuples.first_on.Given as goal

-- each slot below that one is free
abbrev pub invariant-slots : goal.invariant-slots
invariant-slots l = (slot : ℕ) → slot < l.slot → tuple_on l.bytes slot ≡ None
