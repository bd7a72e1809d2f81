-- one session's transaction changes
use Rattle.std.proofs.Common.{◌≡◌, ◌≢◌, ℕ, zero, suc, ◌<◌, List, [], ◌∷◌, length, set, get_or-set_same, get_or-set_other, Option, None, Some, arith}
use Rattle.std.proofs.lemmas.Option.{none-some}
use Rattle.snapshot_core.specs.declared.sessions.Open.{Open}
use Rattle.snapshot_core.specs.StoredVersions.{transaction_of}

inside : (opens : List (Option Open)) (n : ℕ) (o : Open) → transaction_of opens n ≡ Some o → n < length opens
inside [] n o is = absurd (none-some o is)
inside (x ∷ opens) zero o is = omega arith
inside (x ∷ opens) (suc n) o is = omega (arith, inside opens n o is)

pub open_here : (opens : List (Option Open)) (n : ℕ) (o : Open) (then : Option Open) → transaction_of opens n ≡ Some o → transaction_of (set opens n then) n ≡ then
open_here opens n o then is = get_or-set_same opens n then None (inside opens n o is)

pub open_there : (opens : List (Option Open)) (n m : ℕ) (then : Option Open) → m ≢ n → transaction_of (set opens n then) m ≡ transaction_of opens m
open_there opens n m then other = get_or-set_other opens n m then None other
