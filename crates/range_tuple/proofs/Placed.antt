-- where nothing is out of form, all of it was read
use Rattle.std.proofs.Common.{◌≡◌, ℕ, ◌==◌, Option, None, Some, Ok, refl}
use Rattle.std.specs.Prelude.{min}
use Rattle.std.proofs.lemmas.Bool.{eqb-true}
use Rattle.opclass_inclusion.specs.Faults.{placed, read_unless}
use Rattle.range_tuple.proofs.Numbers.{by_cond}

-- no field is out of form, and there are as many bytes as there should be
pub record IsWhole (size whole : ℕ) (fault : Option ℕ) : Type 0 where
  pub none : fault ≡ None
  pub long : size ≡ whole

pub placed_none : (size whole : ℕ) (end : ℕ → ℕ) (fault : Option ℕ) → placed size whole end fault ≡ None → IsWhole size whole fault
placed_none size whole end None is =
    by_cond (size == whole) None (Some (min size whole)) None (IsWhole size whole None) is (λ t same. record { none = refl; long = eqb-true size whole t }) (λ f wrong. absurd (cc))
placed_none size whole end (Some at) is = absurd (cc)

-- what was found is what was read
pub record WasFound {S : Type 0} (fault : Option ℕ) (found s : S) : Type 0 where
  pub none : fault ≡ None
  pub is : found ≡ s

pub read_unless_ok : {S : Type 0} (fault : Option ℕ) (found s : S) → read_unless fault found ≡ Ok s → WasFound fault found s
read_unless_ok None found s is = let same : found ≡ s = cc in record { none = refl; is = same }
read_unless_ok (Some at) found s is = absurd (cc)
