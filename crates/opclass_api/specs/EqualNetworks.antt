-- networks that `=` holds equal are the same
use Rattle.std.proofs.Common.{◌≡◌, true, ◌&&◌}
use Rattle.std.specs.Prelude.{◌==◌}
use Rattle.std.proofs.lemmas.Bool.{and_parts, eqb-true}
use Rattle.block_model.specs.declared.value.Op.TheVariants.{Eq}
use Rattle.block_model.specs.Matches.{network_matches}
use Rattle.block_model.specs.Networks.{Network}

pub same_network : (v k : Network) → network_matches v Eq k ≡ true → v ≡ k
same_network v k is =
    let two = and_parts ((v.family == k.family) && (v.prefix == k.prefix)) (v.address == k.address) is in
    let one = and_parts (v.family == k.family) (v.prefix == k.prefix) two.0 in
    let family = eqb-true v.family k.family one.0 in
    let prefix = eqb-true v.prefix k.prefix one.1 in
    let address = eqb-true v.address k.address two.1 in
    λ i. record { family = family i; prefix = prefix i; address = address i }
