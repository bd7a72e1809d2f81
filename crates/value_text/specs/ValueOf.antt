-- the value that a text of a kind denotes
use Rattle.std.specs.Prelude.{◌≡◌, ◌↔◌, ℕ, List, Option, None, Some, Result, Ok, Err}
use Rattle.block_model.specs.declared.value.Kind.{Kind}
use Rattle.block_model.specs.declared.value.Value.{Value}
use Rattle.value_text.specs.ValueTexts.{ValueText, meaning, Denotes}
use Rattle.value_text.specs.Reading.{whole_at}

-- a value that is representable
abbrev pub representable : Result Value ℕ → Option Value
representable (Ok value) = Some value
representable (Err at) = None

-- the value of a text that was read
abbrev pub value_read : Result (ValueText × List ℕ) (List ℕ) → Option Value
value_read (Ok read) = representable (meaning read.0)
value_read (Err rest) = None

-- the value of the bytes, where they are a text of the kind and it is representable
unfoldable pub value_of : Kind → List ℕ → Option Value
value_of kind bytes = value_read (whole_at kind bytes)

-- it is the value that they denote
abbrev pub ValueOfIsDenoted : Type 0
ValueOfIsDenoted = (kind : Kind) (bytes : List ℕ) (value : Value) → (value_of kind bytes ≡ Some value) ↔ Denotes kind bytes (Ok value)
