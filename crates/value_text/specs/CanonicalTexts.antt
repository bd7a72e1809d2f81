-- the one text that a value is printed as
use Rattle.std.specs.Prelude.{ℕ, ◌/◌, ◌%◌, ◌^◌, ◌==◌, if◌then◌else◌, List, [], ◌++◌, codes, decimal, ℤ, Option, None, Some}
use Rattle.std.specs.List.{flat_map}
use Rattle.std.specs.Fmt.{signed_decimal}
use Rattle.block_model.specs.Ranges.{Range, Empty, Between}
use Rattle.block_model.specs.Networks.{Network}
use Rattle.block_model.specs.declared.value.Value.{Value}
use Rattle.block_model.specs.declared.value.Value.TheVariants as values

-- the lower side of a range, with a round bracket where it is infinite
abbrev pub lower_text : Option ℤ → List ℕ
lower_text None = codes "("
lower_text (Some n) = codes "[" ++ signed_decimal n

-- the upper side of a range
abbrev pub upper_text : Option ℤ → List ℕ
upper_text None = codes ")"
upper_text (Some n) = signed_decimal n ++ codes ")"

-- both sides, or `empty`
abbrev pub range_text : Range → List ℕ
range_text Empty = codes "empty"
range_text (Between lower upper) = lower_text lower ++ codes "," ++ upper_text upper

-- the length of a prefix, where it isn't the whole address
abbrev pub prefix_text : ℕ → List ℕ
prefix_text bits = if bits == 32 then [] else codes "/" ++ decimal bits

-- the byte of an address that begins at that bit
abbrev pub byte_of : ℕ → ℕ → ℕ
byte_of address bits = address / 2 ^ bits % 256

-- the four bytes of an address, the highest first
abbrev pub address_text : ℕ → List ℕ
address_text a =
    decimal (byte_of a 24) ++ codes "." ++ decimal (byte_of a 16) ++ codes "." ++ decimal (byte_of a 8) ++ codes "." ++ decimal (byte_of a 0)

-- an address and its prefix
abbrev pub network_text : Network → List ℕ
network_text n = address_text n.address ++ prefix_text n.prefix

-- a value as it is printed
abbrev pub canonical_text : Value → List ℕ
canonical_text values.Null = codes "null"
canonical_text (values.Int n) = signed_decimal n
canonical_text (values.Span range) = range_text range
canonical_text (values.Net network) = network_text network

-- values, each behind a space
abbrev pub values_text : List Value → List ℕ
values_text values = flat_map (λ value. codes " " ++ canonical_text value) values
