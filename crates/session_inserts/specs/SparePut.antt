-- a machine that waits before its first step, and what that step leaves
use Rattle.std.specs.Prelude.{Option, None, Some, IfSome, Result, Ok, Err}
use Rattle.brin_insert.specs.declared.insert.Insert.{Insert}
use Rattle.session_parts.specs.declared.faults.Step.{Step}
use Rattle.session_parts.specs.declared.faults.Step.TheVariants as steps
use Rattle.session_parts.specs.declared.faults.StoreFault.{StoreFault}
use Rattle.session_parts.specs.declared.hand.Hand.{Hand}
use Rattle.session_parts.specs.declared.hand.Hand.TheVariants as hands

-- the fact holds of the put that the machine is to begin with, as what the session has in hand
abbrev pub OfItsPut : Option Insert → (Hand → Type 0) → Type 0
OfItsPut machine P = IfSome machine (λ insert. P (hands.Puts insert.row.table insert.row.values))

-- the insert of that machine, in hand
abbrev pub insert_of : Option Insert → Option Hand
insert_of None = None
insert_of (Some insert) = Some (hands.Inserts insert)

-- what is in hand behind the first step of a put: the insert, whose machine goes on; nothing, behind its reply; or still the put
abbrev pub left_behind : Hand → Option Insert → Result Step StoreFault → Option Hand
left_behind put machine (Ok (steps.Moved point)) = insert_of machine
left_behind put machine (Ok (steps.Done reply)) = None
left_behind put machine (Ok (steps.Blocked what holder)) = Some put
left_behind put machine (Err fault) = Some put
