-- the exact summary of a list of values, whatever their order
use Rattle.std.specs.Prelude.{◌≡◌, ℕ, ◌<◌, ◌==◌, Bool, List, fold}
use Rattle.std.specs.List.{list_any}
use Rattle.block_model.specs.declared.value.Value.{Value}
use Rattle.opclass_bloom.specs.Bits.{IsSummary, is_set, nothing_set, with_value}
use Rattle.opclass_bloom.specs.Parameters.{Parameters}
use Rattle.opclass_bloom.specs.Positions.{positions}

-- the position is one of the value's
unfoldable pub has_position : Parameters → ℕ → Value → Bool
has_position p q v = list_any (λ r. r == q) (positions p v)

-- a position is set exactly where some value has it
pub record ExactSummary (p : Parameters) (values : List Value) (s : List Bool) : Type 0 where
  pub of_class : IsSummary p s
  pub exact : (q : ℕ) → q < p.bits → is_set s q ≡ list_any (has_position p q) values

-- the summary of values that are added one by one, in their order
abbrev pub summary_of : Parameters → List Value → List Bool
summary_of p values = fold (with_value p) (nothing_set p) values
