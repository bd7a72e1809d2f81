-- which bytes are a text of a value, and which value it denotes
use Rattle.std.specs.Prelude.{◌≡◌, ℕ, List, codes, ℤ, Option, None, Some, Result, Ok, Err}
use Rattle.block_model.specs.Ranges.{Range, Empty}
use Rattle.block_model.specs.declared.value.Kind.{Kind}
use Rattle.block_model.specs.declared.value.Kind.TheVariants as kinds
use Rattle.block_model.specs.declared.value.Value.{Value}
use Rattle.block_model.specs.declared.value.Value.TheVariants as values
use Rattle.value_text.specs.declared.read.TextFault.{TextFault}
use Rattle.value_text.specs.declared.read.TextFault.TheVariants as faults
use Rattle.value_text.specs.IntTexts.{NumberText, IsNumber, number_bytes, int8_of}
use Rattle.value_text.specs.RangeTexts.{BoundText, IsBound, bounds_bytes, written_range}
use Rattle.value_text.specs.NetTexts.{NetText, IsNet, net_bytes, network_of}

-- a value as it is written
pub data ValueText : Type 0 where
  Null : ValueText
  Number : NumberText → ValueText
  NoNumber : ValueText
  Bounds : BoundText → BoundText → ValueText
  Address : NetText → ValueText

-- a null is written in each kind
abbrev pub IsTextOf : Kind → ValueText → Type 0
IsTextOf kind Null = Unit {0}
IsTextOf kinds.Int (Number n) = IsNumber n
IsTextOf kinds.Span NoNumber = Unit {0}
IsTextOf kinds.Span (Bounds lower upper) = IsBound lower × IsBound upper
IsTextOf kinds.Net (Address n) = IsNet n
IsTextOf kind text = ⊥

-- the bytes that write it
abbrev pub bytes_of : ValueText → List ℕ
bytes_of Null = codes "null"
bytes_of (Number n) = number_bytes n
bytes_of NoNumber = codes "empty"
bytes_of (Bounds lower upper) = bounds_bytes lower upper
bytes_of (Address n) = net_bytes n

-- the number is one of int8, else it doesn't fit where it begins
abbrev pub int_value : Option ℤ → Result Value ℕ
int_value None = Err 0
int_value (Some n) = Ok (values.Int n)

-- the range, or where its number begins that doesn't fit
abbrev pub range_value : Result Range ℕ → Result Value ℕ
range_value (Ok range) = Ok (values.Span range)
range_value (Err at) = Err at

-- the value that it denotes, or where the number begins that doesn't fit
abbrev pub meaning : ValueText → Result Value ℕ
meaning Null = Ok values.Null
meaning (Number n) = int_value (int8_of n)
meaning NoNumber = Ok (values.Span Empty)
meaning (Bounds lower upper) = range_value (written_range lower upper)
meaning (Address n) = Ok (values.Net (network_of n))

-- the bytes are a text of the kind, which denotes that
abbrev pub Denotes : Kind → List ℕ → Result Value ℕ → Type 0
Denotes kind bytes m = (text : ValueText) × IsTextOf kind text × (bytes ≡ bytes_of text) × (meaning text ≡ m)

-- what is answered for a text that denotes that
abbrev pub Answers : Result Value ℕ → Result Value TextFault → Type 0
Answers (Ok value) answer = answer ≡ Ok value
Answers (Err at) answer = answer ≡ Err (faults.Range at)
