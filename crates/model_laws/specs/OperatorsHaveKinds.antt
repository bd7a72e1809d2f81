-- which operators compare values of which kinds
use Rattle.std.specs.Prelude.{◌≡◌, ◌≢◌, true, false, Option, Some, None}
use Rattle.block_model.specs.declared.value.Kind.{Kind}
use Rattle.block_model.specs.declared.value.Kind.TheVariants as kinds
use Rattle.block_model.specs.declared.value.Value.{Value}
use Rattle.block_model.specs.declared.value.Value.TheVariants.{Null, Int, Span, Net}
use Rattle.block_model.specs.declared.value.Op.{Op}
use Rattle.block_model.specs.declared.value.Op.TheVariants.{IsNull, NotNull}
use Rattle.block_model.specs.Matches.{matches}
use Rattle.block_model.specs.ValuesOfKind.{IsValueOf}
use Rattle.store_layout.specs.OperatorKinds.{takes_operator}

-- the kind of a value that isn't null
abbrev pub kind_of : Value → Option Kind
kind_of Null = None
kind_of (Int n) = Some kinds.Int
kind_of (Span range) = Some kinds.Span
kind_of (Net network) = Some kinds.Net

-- two values of the kind meet the operator
pub record SomeMeet (kind : Kind) (op : Op) : Type 0 where
  pub value : Value
  pub key : Value
  pub value_is : IsValueOf kind value
  pub key_is : IsValueOf kind key
  pub meet : matches value op key ≡ true

-- Of an operator that a kind takes some two values meet it, and of one that it doesn't take none do, whatever the key. Values that
-- meet an operator are of one kind, unless it asks whether a value is null.
pub record OperatorsHaveKinds : Type 0 where
  pub own : (kind : Kind) (op : Op) → takes_operator kind op ≡ true → SomeMeet kind op
  pub foreign : (kind : Kind) (op : Op) → takes_operator kind op ≡ false → (value key : Value) → IsValueOf kind value → matches value op key ≡ false
  pub one_kind : (op : Op) → op ≢ IsNull → op ≢ NotNull → (value key : Value) → matches value op key ≡ true → kind_of value ≡ kind_of key
