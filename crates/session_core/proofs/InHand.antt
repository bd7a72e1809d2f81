-- facts of the statement that is in hand
use Rattle.std.proofs.Common.{◌≡◌, Option, None, Some, IfSome, IsSome, refl, subst}
use Rattle.std.specs.Prelude.{IsSomeAnd}
use Rattle.std.proofs.lemmas.Bool.{false≢true}
use Rattle.session_parts.specs.declared.hand.Hand.{Hand}

pub in_some : (hand : Option Hand) → IsSome hand → (was : Hand) × (hand ≡ Some was)
in_some None some = absurd (false≢true some)
in_some (Some was) some = (was, refl)

-- what holds of it where there is one
pub at_some : (P : Hand → Type 0) (hand : Option Hand) (was : Hand) → hand ≡ Some was → IfSome hand P → P was
at_some P hand was is holds = subst (λ (h : Option Hand). IfSome h P) is holds

pub for_some : (P : Hand → Type 0) (hand : Option Hand) → ((was : Hand) → hand ≡ Some was → P was) → IfSome hand P
for_some P None holds = tt
for_some P (Some was) holds = holds was refl

pub some_and : (P : Hand → Type 0) (hand : Option Hand) → IsSomeAnd hand P → (was : Hand) × (hand ≡ Some was) × P was
some_and P None holds = absurd holds
some_and P (Some was) holds = (was, refl, holds)
