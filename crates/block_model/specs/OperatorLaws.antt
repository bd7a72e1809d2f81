-- what the definitions of the operators may not say: that something is before itself, or that an address has other than 32 bits
use Rattle.std.specs.Prelude.{◌≡◌, ℤ, false}
use Rattle.std.proofs.Common.{arith}
use Rattle.std.proofs.lemmas.Int.{ints}
use Rattle.block_model.specs.declared.value.Op.TheVariants.{Lt, Before}
use Rattle.block_model.specs.Networks.{Network, width_of}
use Rattle.block_model.specs.Matches.{number_matches, network_matches}

-- no number is less than itself
pub no_number_precedes_itself : (v : ℤ) → number_matches v Lt v ≡ false
no_number_precedes_itself v = grind (arith, ints)

-- no network is within itself by `<<`, which takes a longer prefix
pub no_network_precedes_itself : (v : Network) → network_matches v Before v ≡ false
no_network_precedes_itself v = grind (arith, ints)

-- an address of the fourth family has 32 bits
pub four_bytes_of_eight_bits : width_of 4 ≡ 32
four_bytes_of_eight_bits = grind arith
