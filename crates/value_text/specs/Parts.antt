-- the parts of a text without where they lie in memory
use Rattle.std.specs.Prelude.{Option, None, Some}
use Rattle.value_text.specs.declared.number.Number.{Number}
use Rattle.value_text.specs.declared.range.Bound.{Bound}
use Rattle.value_text.specs.declared.net.Address.{Address}
use Rattle.value_text.specs.declared.literal.Literal.{Literal}
use Rattle.value_text.specs.declared.literal.Literal.TheVariants as code
use Rattle.value_text.specs.IntTexts.{NumberText}
use Rattle.value_text.specs.RangeTexts.{BoundText}
use Rattle.value_text.specs.NetTexts.{NetText}
use Rattle.value_text.specs.ValueTexts.{ValueText, Null, Number as WrittenNumber, NoNumber, Bounds, Address as WrittenAddress}

-- a number
abbrev pub number_text : Number → NumberText
number_text n = record { negative = n.negative; digits = n.numeral.digits.now }

-- a number, or none
abbrev pub side_text : Option Number → Option NumberText
side_text None = None
side_text (Some n) = Some (number_text n)

-- a bound
abbrev pub bound_text : Bound → BoundText
bound_text b = record { number = side_text b.number; inclusive = b.inclusive }

-- an address
abbrev pub net_text : Address → NetText
net_text a = record { first = a.first; second = a.second; third = a.third; fourth = a.fourth; prefix = a.prefix }

-- a text of any kind
abbrev pub value_text : Literal → ValueText
value_text code.Null = Null
value_text (code.Int n) = WrittenNumber (number_text n)
value_text code.Empty = NoNumber
value_text (code.Bounds lower upper) = Bounds (bound_text lower) (bound_text upper)
value_text (code.Net a) = WrittenAddress (net_text a)
