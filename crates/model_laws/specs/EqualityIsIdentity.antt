-- `=` holds of a value and itself, and of no two values.
use Rattle.std.specs.Prelude.{◌≡◌, ◌≢◌, ◌↔◌, true}
use Rattle.block_model.specs.declared.value.Value.{Value}
use Rattle.block_model.specs.declared.value.Value.TheVariants.{Null}
use Rattle.block_model.specs.declared.value.Op.TheVariants.{Eq}
use Rattle.block_model.specs.Matches.{matches}

-- whatever the key, for any value but a null
abbrev pub EqualityIsIdentity : Type 0
EqualityIsIdentity = (v k : Value) → v ≢ Null → (matches v Eq k ≡ true) ↔ (v ≡ k)
