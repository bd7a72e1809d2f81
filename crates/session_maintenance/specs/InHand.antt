-- which statement it is
use Rattle.std.specs.Prelude.{◌≡◌}
use Rattle.bitmap_scan.specs.Explains.{ExplainHand}
use Rattle.session_parts.specs.declared.hand.Cleaning.{Cleaning}
use Rattle.session_parts.specs.declared.hand.Hand.{Hand}
use Rattle.session_parts.specs.declared.hand.Hand.TheVariants as hands

-- an explain
abbrev pub IsExplain : Hand → Type 0
IsExplain hand = (explain : ExplainHand) × (hand ≡ hands.Explains explain)

-- a vacuum that cleans its table
abbrev pub IsCleaning : Hand → Type 0
IsCleaning hand = (cleaning : Cleaning) × (hand ≡ hands.Cleans cleaning)
