-- The parts of a fault: there is none exactly where no part has one.
use Rattle.std.proofs.Common.{◌≡◌, ℕ, Bool, true, false, refl}
use Rattle.std.specs.Prelude.{Option, None, Some}
use Rattle.page_layout.specs.RowFaults.{first_of, shifted, fault_unless}

pub holds-unless : (b : Bool) (at : ℕ) → fault_unless b at ≡ None → b ≡ true
holds-unless true at e = refl
holds-unless false at e = absurd cc

pub first_none : (a b : Option ℕ) → first_of a b ≡ None → (a ≡ None) × (b ≡ None)
first_none None b e = (refl, e)
first_none (Some at) b e = absurd cc

pub shifted-none : (n : ℕ) (o : Option ℕ) → shifted n o ≡ None → o ≡ None
shifted-none n None e = refl
shifted-none n (Some at) e = absurd cc
