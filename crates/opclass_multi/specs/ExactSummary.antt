-- the exact summary of a list of values
use Rattle.std.specs.Prelude.{ℕ, List, fold}
use Rattle.block_model.specs.declared.value.Value.{Value}
use Rattle.opclass_multi.specs.Kept.{Kept, nothing_yet, with_value}

-- the values, added in their order to the summary of none
abbrev pub exact_summary : ℕ → List Value → Kept
exact_summary limit values = fold with_value (nothing_yet limit) values
