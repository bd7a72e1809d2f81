-- the exact summary of a list of addresses, whatever their order
use Rattle.std.specs.Prelude.{◌≡◌, ◌≢◌, true, List, [], All, Contains, fold}
use Rattle.block_model.specs.declared.value.Value.{Value}
use Rattle.block_model.specs.declared.value.Value.TheVariants.{Net}
use Rattle.block_model.specs.Matches.{is_within}
use Rattle.block_model.specs.Networks.{Network, IsNetwork}
use Rattle.opclass_inclusion.specs.NetHulls.{HasNoHost, with_value}
use Rattle.opclass_inclusion.specs.NetIncludes.{IsIn}
use Rattle.opclass_inclusion.specs.declared.net_summary.NetSummary.{NetSummary}
use Rattle.opclass_inclusion.specs.declared.net_summary.NetSummary.TheVariants.{NothingYet, Unmergeable, Hull}

-- the value is an address of its family
abbrev pub IsAddress : Value → Type 0
IsAddress (Net n) = IsNetwork n
IsAddress v = ⊥

-- each value is in it, and it is in every network that each value is in; it has no host bits
pub record IsSmallestNetwork (values : List Value) (u : Network) : Type 0 where
  pub no_host : HasNoHost u
  pub holds_each : All (IsIn u) values
  pub smallest : (n : Network) → All (IsIn n) values → is_within u n ≡ true

-- two of the values are of different families
pub record HaveTwoFamilies (values : List Value) : Type 0 where
  pub one : Network
  pub other : Network
  pub has_one : Contains values (Net one)
  pub has_other : Contains values (Net other)
  pub apart : one.family ≢ other.family

abbrev pub ExactSummary : List Value → NetSummary → Type 0
ExactSummary values NothingYet = values ≡ []
ExactSummary values Unmergeable = HaveTwoFamilies values
ExactSummary values (Hull u) = IsSmallestNetwork values u

-- the summary of values that are added one by one, in their order
abbrev pub summary_of : List Value → NetSummary
summary_of values = fold with_value NothingYet values
