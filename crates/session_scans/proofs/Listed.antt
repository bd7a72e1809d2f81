-- what a scan found, listed
use Rattle.std.proofs.Common.{◌≡◌, ◌<◌, ◌==◌, true, false, List, [], length, refl, sym, ap, subst, arith}
use Rattle.std.specs.Global.{Vec}
use Rattle.std.proofs.lemmas.List.{length-map, nil_from_length}
use Rattle.std.proofs.lemmas.List.Sorted.{IsPermutation-refl, length_permutation}
use Rattle.block_model.specs.declared.place.Spot.{Spot}
use Rattle.block_model.specs.declared.row.Row.{Row}
use Rattle.session_parts.specs.declared.hand.Hit.{Hit}
use Rattle.session_scans.specs.FoundLists.{ListsHits, ListsRows, hit_of}

-- nothing
pub none_listed : (found : List (Row × Spot)) → found ≡ [] → ListsRows found []
none_listed found none = subst (λ (l : List (Row × Spot)). ListsRows l []) (sym none) ([], record { permutation = IsPermutation-refl []; sorted = λ k d low below. absurd (omega (arith, below)) }, refl)

-- and something
pub some_listed : (found : List (Row × Spot)) (hits : List Hit) → ListsHits found hits → 0 < length found → 0 < length hits
some_listed found hits lists some =
    omega (arith, some, ap length lists.2, length-map lists.0 hit_of, length_permutation found lists.0 lists.1.permutation)

pub is_none : (found : Vec (Row × Spot)) → (found.len == 0) ≡ true → found.items ≡ []
is_none found is = nil_from_length found.items (grind (arith, found.ok, is))

pub has_some : (found : Vec (Row × Spot)) → (found.len == 0) ≡ false → 0 < length found.items
has_some found is = grind (arith, found.ok, is)
