-- which conditions a summary of networks may meet
use Rattle.std.specs.Prelude.{Bool, true, false, List}
use Rattle.std.specs.List.{list_all}
use Rattle.block_model.specs.declared.value.Value.{Value}
use Rattle.block_model.specs.declared.value.Value.TheVariants.{Net}
use Rattle.block_model.specs.declared.value.Op.{Op}
use Rattle.block_model.specs.declared.value.Op.TheVariants.{Eq, Overlaps, Before, After, WithinEq, ContainsEq}
use Rattle.block_model.specs.declared.row.Cond.{Cond}
use Rattle.block_model.specs.Matches.{is_within, network_matches}
use Rattle.block_model.specs.Networks.{Network}
use Rattle.opclass_inclusion.specs.declared.net_summary.NetSummary.{NetSummary}
use Rattle.opclass_inclusion.specs.declared.net_summary.NetSummary.TheVariants.{NothingYet, Unmergeable, Hull}

-- what equals the key or contains it, contains it in the network; what is in the key, is in both: the network and the key
-- overlap; the other operators hold nothing
abbrev pub network_holds : Network → Op → Network → Bool
network_holds u Eq k = is_within k u
network_holds u After k = is_within k u
network_holds u ContainsEq k = is_within k u
network_holds u Overlaps k = network_matches u Overlaps k
network_holds u Before k = network_matches u Overlaps k
network_holds u WithinEq k = network_matches u Overlaps k
network_holds u op k = false

-- no other key holds
abbrev pub key_holds : Network → Op → Value → Bool
key_holds u op (Net k) = network_holds u op k
key_holds u op k = false

-- what is unmergeable holds everything, and nothing yet holds nothing
abbrev pub condition_holds : NetSummary → Op → Value → Bool
condition_holds NothingYet op k = false
condition_holds Unmergeable op k = true
condition_holds (Hull u) op k = key_holds u op k

-- each condition holds
abbrev pub consistent : NetSummary → List Cond → Bool
consistent s conds = list_all (λ cond. condition_holds s cond.op cond.key) conds
