-- which values a summary of networks includes
use Rattle.std.specs.Prelude.{◌≡◌, Bool, true, false}
use Rattle.block_model.specs.declared.value.Value.{Value}
use Rattle.block_model.specs.declared.value.Value.TheVariants.{Net}
use Rattle.block_model.specs.Matches.{is_within}
use Rattle.block_model.specs.Networks.{Network}
use Rattle.opclass_inclusion.specs.declared.net_summary.NetSummary.{NetSummary}
use Rattle.opclass_inclusion.specs.declared.net_summary.NetSummary.TheVariants.{NothingYet, Unmergeable, Hull}

-- the values of the class are those of inet
abbrev pub IsNet : Value → Type 0
IsNet (Net n) = Unit {0}
IsNet v = ⊥

-- the value is the network, or an address or network within it
abbrev pub IsIn : Network → Value → Type 0
IsIn u (Net n) = is_within n u ≡ true
IsIn u v = ⊥

-- each where it is unmergeable, else those in the network
abbrev pub Includes : NetSummary → Value → Type 0
Includes NothingYet v = ⊥
Includes Unmergeable v = IsNet v
Includes (Hull u) v = IsIn u v

-- the same as tests
abbrev pub is_net : Value → Bool
is_net (Net n) = true
is_net v = false

abbrev pub is_in : Network → Value → Bool
is_in u (Net n) = is_within n u
is_in u v = false

abbrev pub is_included : NetSummary → Value → Bool
is_included NothingYet v = false
is_included Unmergeable v = is_net v
is_included (Hull u) v = is_in u v
