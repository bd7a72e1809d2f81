-- how far a statement in hand goes, and that it ends
use Rattle.std.specs.Prelude.{◌≡◌, ℕ, Some}
use Rattle.disk_trait.specs.Told.{Told}
use Rattle.page_map.specs.Keeps.{Tells}
use Rattle.session_parts.specs.ScanHands.{IsHand}
use Rattle.script_semantics.specs.Place.{Hand as HandAt, Place}
use Rattle.script_semantics.specs.Moves.{IsBoundedAt}
use Rattle.session_parts.specs.declared.hand.Hand.{Hand}
use Rattle.session_parts.specs.declared.hand.Hand.TheVariants as hands
use Rattle.session_parts.specs.ShowsPlace.{ShowsPlace}
use Rattle.session_parts.specs.StoreStates.{StoreState}

-- a scan goes no further than its table may reach
abbrev pub GoesWithin : Hand → Type 0
GoesWithin (hands.Selects scan) = IsHand scan.judging
GoesWithin (hands.Deletes scan) = IsHand scan.judging
GoesWithin (hands.Explains explain) = IsHand explain.judging
GoesWithin hand = Unit {0}

-- where the disk tells its contents, what session n has in hand at any place that the store shows is a statement that comes to its reply, or to a step that
-- waits, behind few steps
abbrev pub EndsSoon : {D : Type 0} → (D → Told) → StoreState D → ℕ → Type 0
EndsSoon told s n = Tells told s.pages → (p : Place) (hand : HandAt) → ShowsPlace s p → p.hands n ≡ Some hand → IsBoundedAt p n hand.statement
