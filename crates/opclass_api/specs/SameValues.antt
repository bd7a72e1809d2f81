-- lists that differ in order alone
use Rattle.std.specs.Prelude.{List, Contains}
use Rattle.block_model.specs.declared.value.Value.{Value}

-- the same values in any order, however often each
pub record HaveSameValues (values others : List Value) : Type 0 where
  pub all_there : (v : Value) → Contains values v → Contains others v
  pub no_more : (v : Value) → Contains others v → Contains values v
