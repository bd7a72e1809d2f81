-- which values are of a kind
use Rattle.std.specs.Prelude.{◌≡◌, ◌^◌, nat_lt, Bool, true, false, ℤ, pos, negsuc, IfSome}
use Rattle.block_model.specs.Ranges.{Range, Empty, Between, IsRange}
use Rattle.block_model.specs.Networks.{IsNetwork}
use Rattle.block_model.specs.declared.value.Kind.{Kind}
use Rattle.block_model.specs.declared.value.Kind.TheVariants as kinds
use Rattle.block_model.specs.declared.value.Value.{Value}
use Rattle.block_model.specs.declared.value.Value.TheVariants as values

-- from -9223372036854775808 to 9223372036854775807
abbrev pub is_int8 : ℤ → Bool
is_int8 (pos n) = nat_lt n (2 ^ 63)
is_int8 (negsuc n) = nat_lt n (2 ^ 63)

-- the bounds are numbers of int8
abbrev pub HasBounds : Range → Type 0
HasBounds Empty = Unit {0}
HasBounds (Between lower upper) = IfSome lower (λ n. is_int8 n ≡ true) × IfSome upper (λ n. is_int8 n ≡ true)

-- the value is null, or was made as one of the kind
abbrev pub has_kind : Kind → Value → Bool
has_kind kind values.Null = true
has_kind kinds.Int (values.Int n) = true
has_kind kinds.Span (values.Span range) = true
has_kind kinds.Net (values.Net network) = true
has_kind kind value = false

-- the value is one of the kind
abbrev pub IsValueOf : Kind → Value → Type 0
IsValueOf kind values.Null = Unit {0}
IsValueOf kinds.Int (values.Int n) = is_int8 n ≡ true
IsValueOf kinds.Span (values.Span range) = IsRange range × HasBounds range
IsValueOf kinds.Net (values.Net network) = IsNetwork network
IsValueOf kind value = ⊥
