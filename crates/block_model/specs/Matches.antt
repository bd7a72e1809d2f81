-- when a value meets a condition ("Comparison Functions and Operators", "Range Functions and Operators", "Network
-- Address Functions and Operators")
use Rattle.std.specs.Prelude.{ℤ, int_lt, int_le, Bool, true, false, ◌&&◌, ◌||◌, ◌==◌, nat_le, nat_lt, Option}
use Rattle.std.specs.Ordering.{int_eq}
use Rattle.block_model.specs.declared.value.Value.{Value}
use Rattle.block_model.specs.declared.value.Value.TheVariants.{Null, Int, Span, Net}
use Rattle.block_model.specs.declared.value.Op.{Op}
use Rattle.block_model.specs.declared.value.Op.TheVariants.{Lt, Le, Eq, Ge, Gt, Overlaps, Contains, Within, Before, After, WithinEq, ContainsEq, NotAfter, NotBefore, Adjacent, IsNull, NotNull}
use Rattle.block_model.specs.Ranges.{Range, Empty, Between, leaves_room, starts_first, ends_last, same_bound, meets_before, touches}
use Rattle.block_model.specs.Networks.{Network, leading_bits}

-- numbers by their order
abbrev pub number_matches : ℤ → Op → ℤ → Bool
number_matches v Lt k = int_lt v k
number_matches v Le k = int_le v k
number_matches v Eq k = int_eq v k
number_matches v Ge k = int_le k v
number_matches v Gt k = int_lt k v
number_matches v op k = false

-- the second bounds are within the first
abbrev pub holds_bounds : Option ℤ → Option ℤ → Option ℤ → Option ℤ → Bool
holds_bounds vl vh kl kh = starts_first vl kl && ends_last vh kh

-- ranges that aren't empty, by their bounds
abbrev pub bounds_match : Option ℤ → Option ℤ → Op → Option ℤ → Option ℤ → Bool
bounds_match vl vh Eq kl kh = same_bound vl kl && same_bound vh kh
bounds_match vl vh Overlaps kl kh = leaves_room vl kh && leaves_room kl vh
bounds_match vl vh Contains kl kh = holds_bounds vl vh kl kh
bounds_match vl vh Within kl kh = holds_bounds kl kh vl vh
bounds_match vl vh Before kl kh = meets_before vh kl
bounds_match vl vh After kl kh = meets_before kh vl
bounds_match vl vh NotAfter kl kh = ends_last kh vh
bounds_match vl vh NotBefore kl kh = starts_first kl vl
bounds_match vl vh Adjacent kl kh = touches vh kl || touches kh vl
bounds_match vl vh op kl kh = false

-- An empty range equals an empty one, is within every range, and contains an empty one alone.
abbrev pub range_matches : Range → Op → Range → Bool
range_matches Empty Eq Empty = true
range_matches Empty Contains Empty = true
range_matches Empty Within k = true
range_matches Empty op k = false
range_matches (Between vl vh) Contains Empty = true
range_matches (Between vl vh) op Empty = false
range_matches (Between vl vh) op (Between kl kh) = bounds_match vl vh op kl kh

-- the first is a network or an address of the second: the same family, at least as long a prefix, and the bits of the
-- second's prefix agree
abbrev pub is_within : Network → Network → Bool
is_within v k = (v.family == k.family) && nat_le k.prefix v.prefix && (leading_bits v k.prefix == leading_bits k k.prefix)

abbrev pub network_matches : Network → Op → Network → Bool
network_matches v Eq k = (v.family == k.family) && (v.prefix == k.prefix) && (v.address == k.address)
network_matches v Overlaps k = is_within v k || is_within k v
network_matches v Before k = is_within v k && nat_lt k.prefix v.prefix
network_matches v After k = is_within k v && nat_lt v.prefix k.prefix
network_matches v WithinEq k = is_within v k
network_matches v ContainsEq k = is_within k v
network_matches v op k = false

-- values that aren't null, by the operators of their kind
abbrev pub kind_matches : Value → Op → Value → Bool
kind_matches (Int v) op (Int k) = number_matches v op k
kind_matches (Span v) op (Span k) = range_matches v op k
kind_matches (Net v) op (Net k) = network_matches v op k
kind_matches v op k = false

-- any value but a null
abbrev pub value_matches : Value → Op → Value → Bool
value_matches v IsNull k = false
value_matches v NotNull k = true
value_matches v op k = kind_matches v op k

abbrev pub is_null_test : Op → Bool
is_null_test IsNull = true
is_null_test op = false

-- A null meets `is null` alone. Any other value meets `is not null`, and the operators of its kind.
abbrev pub matches : Value → Op → Value → Bool
matches Null op k = is_null_test op
matches (Int v) op k = value_matches (Int v) op k
matches (Span v) op k = value_matches (Span v) op k
matches (Net v) op k = value_matches (Net v) op k
