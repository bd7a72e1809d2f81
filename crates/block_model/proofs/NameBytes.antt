-- how long a name is
use Rattle.std.specs.Prelude.{◌≡◌, ℕ, ◌≤◌, true, List, [], ◌∷◌, length}
use Rattle.std.proofs.Common.{arith}
use Rattle.block_model.specs.Names.{is_name}

pub name_fits : (bytes : List ℕ) → is_name bytes ≡ true → length bytes ≤ 16
name_fits [] h = omega arith
name_fits (c ∷ cs) h = grind arith
