-- the test of included addresses says what Includes does
use Rattle.std.specs.Prelude.{◌≡◌, ◌↔◌, true}
use Rattle.std.proofs.Common.{refl}
use Rattle.std.proofs.lemmas.Bool.{false≢true}
use Rattle.block_model.specs.declared.value.Value.{Value}
use Rattle.block_model.specs.declared.value.Value.TheVariants.{Null, Int, Span, Net}
use Rattle.block_model.specs.Networks.{Network}
use Rattle.opclass_inclusion.specs.NetIncludes.{Includes, IsIn, IsNet, is_in, is_included, is_net}
use Rattle.opclass_inclusion.specs.declared.net_summary.NetSummary.{NetSummary}
use Rattle.opclass_inclusion.specs.declared.net_summary.NetSummary.TheVariants.{NothingYet, Unmergeable, Hull}

tested_net : (v : Value) → (is_net v ≡ true) ↔ IsNet v
tested_net (Net n) = (λ is. tt, λ is. refl)
tested_net Null = (λ is. absurd (false≢true is), λ is. absurd is)
tested_net (Int v) = (λ is. absurd (false≢true is), λ is. absurd is)
tested_net (Span r) = (λ is. absurd (false≢true is), λ is. absurd is)

tested_in : (u : Network) (v : Value) → (is_in u v ≡ true) ↔ IsIn u v
tested_in u (Net n) = (λ is. is, λ is. is)
tested_in u Null = (λ is. absurd (false≢true is), λ is. absurd is)
tested_in u (Int v) = (λ is. absurd (false≢true is), λ is. absurd is)
tested_in u (Span r) = (λ is. absurd (false≢true is), λ is. absurd is)

pub tested : (s : NetSummary) (v : Value) → (is_included s v ≡ true) ↔ Includes s v
tested NothingYet v = (λ is. absurd (false≢true is), λ is. absurd is)
tested Unmergeable v = tested_net v
tested (Hull u) v = tested_in u v
