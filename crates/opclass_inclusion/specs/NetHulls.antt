-- summaries of networks
use Rattle.std.specs.Prelude.{◌≡◌, ◌≢◌, ℕ, zero, suc, ◌-◌, ◌*◌, ◌%◌, ◌^◌, ◌==◌, ◌≤◌, ◌<◌, min, if◌then◌else◌}
use Rattle.block_model.specs.declared.value.Value.{Value}
use Rattle.block_model.specs.declared.value.Value.TheVariants.{Net}
use Rattle.block_model.specs.Networks.{Network, IsNetwork, leading_bits, width_of}
use Rattle.opclass_inclusion.specs.declared.net_summary.NetSummary.{NetSummary}
use Rattle.opclass_inclusion.specs.declared.net_summary.NetSummary.TheVariants.{NothingYet, Unmergeable, Hull}

-- its bits past the prefix are zero
abbrev pub HasNoHost : Network → Type 0
HasNoHost u = u.address % 2 ^ (width_of u.family - u.prefix) ≡ 0

pub record IsHull (u : Network) : Type 0 where
  pub is_network : IsNetwork u
  pub no_host : HasNoHost u

-- the network that is kept has no host bits
abbrev pub IsSummary : NetSummary → Type 0
IsSummary NothingYet = Unit {0}
IsSummary Unmergeable = Unit {0}
IsSummary (Hull u) = IsHull u

-- the network of an address with a prefix of so many bits
abbrev pub network_with : Network → ℕ → Network
network_with n prefix = record { family = n.family; prefix = prefix; address = leading_bits n prefix * 2 ^ (width_of n.family - prefix) }

-- within both prefixes the first bits agree, and no more bits do
pub record IsCommonPrefix (a b : Network) (p : ℕ) : Type 0 where
  pub within_first : p ≤ a.prefix
  pub within_second : p ≤ b.prefix
  pub agrees : leading_bits a p ≡ leading_bits b p
  pub no_longer : (q : ℕ) → p < q → q ≤ a.prefix → q ≤ b.prefix → leading_bits a q ≡ leading_bits b q → ⊥

-- how many first bits agree, of so many at most
abbrev pub agreeing_bits : Network → Network → ℕ → ℕ
agreeing_bits a b zero = 0
agreeing_bits a b (suc p) = if leading_bits a (suc p) == leading_bits b (suc p) then suc p else agreeing_bits a b p

abbrev pub common_prefix : Network → Network → ℕ
common_prefix a b = agreeing_bits a b (min a.prefix b.prefix)

-- the network of both: that of the greatest prefix within both in whose bits they agree
abbrev pub merged : Network → Network → Network
merged a b = network_with a (common_prefix a b)

-- networks of different families have no network in common
abbrev pub joined : Network → Network → NetSummary
joined a b = if a.family == b.family then Hull (merged a b) else Unmergeable

-- the networks are joined to another summary than that of the first
pub record IsWider (a b : Network) (s : NetSummary) : Type 0 where
  pub is_joined : s ≡ joined a b
  pub of_class : IsSummary s
  pub changed : s ≢ Hull a

-- the summary of one address
abbrev pub of_network : Network → NetSummary
of_network n = Hull (network_with n n.prefix)

-- the summary of what either is of; what is unmergeable stays so
abbrev pub united : NetSummary → NetSummary → NetSummary
united s NothingYet = s
united NothingYet Unmergeable = Unmergeable
united Unmergeable Unmergeable = Unmergeable
united (Hull a) Unmergeable = Unmergeable
united NothingYet (Hull b) = Hull b
united Unmergeable (Hull b) = Unmergeable
united (Hull a) (Hull b) = joined a b

-- the summary also of a value
abbrev pub with_value : NetSummary → Value → NetSummary
with_value s (Net n) = united s (of_network n)
with_value s v = s
