-- operators that say the same of two values when these change places
use Rattle.std.specs.Prelude.{◌≡◌}
use Rattle.block_model.specs.declared.value.Value.{Value}
use Rattle.block_model.specs.declared.value.Op.{Op}
use Rattle.block_model.specs.declared.value.Op.TheVariants.{Lt, Le, Eq, Ge, Gt, Overlaps, Contains, Within, Before, After, WithinEq, ContainsEq, Adjacent}
use Rattle.block_model.specs.Matches.{matches}

-- of all values, of whatever kinds
abbrev pub AreConverse : Op → Op → Type 0
AreConverse op back = (v k : Value) → matches v op k ≡ matches k back v

-- the pairs of them, and those that are their own converse
pub record ConverseOperators : Type 0 where
  pub less : AreConverse Lt Gt
  pub at_most : AreConverse Le Ge
  pub contains : AreConverse Contains Within
  pub before : AreConverse Before After
  pub within : AreConverse WithinEq ContainsEq
  pub equal : AreConverse Eq Eq
  pub overlaps : AreConverse Overlaps Overlaps
  pub adjacent : AreConverse Adjacent Adjacent
