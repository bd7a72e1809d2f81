-- what a session has in hand, and where it stands
use Rattle.std.specs.Prelude.{[], Option, None, Some, IfSome, Result, Ok, Err}
use Rattle.brin_insert.specs.declared.insert.Insert.{Insert}
use Rattle.brin_insert.specs.Inserts.{IsInsertFor}
use Rattle.store_layout.specs.DiskLayout.{DiskLayout}
use Rattle.store_layout.specs.declared.statement.Statement.{Statement}
use Rattle.store_layout.specs.declared.statement.Statement.TheVariants as statements
use Rattle.session_parts.specs.declared.faults.Step.{Step}
use Rattle.session_parts.specs.declared.faults.Step.TheVariants as steps
use Rattle.session_parts.specs.declared.faults.StoreFault.{StoreFault}
use Rattle.session_parts.specs.declared.hand.Hand.{Hand}
use Rattle.session_parts.specs.declared.hand.Hand.TheVariants as hands
use Rattle.session_parts.specs.Hands.{statement_of}
use Rattle.session_inserts.specs.SparePut.{insert_of}
use Rattle.session_core.specs.declared.slots.Held.{Held}
use Rattle.session_core.specs.declared.slots.Held.TheVariants as held
use Rattle.session_core.specs.declared.slots.Put.{Put}
use Rattle.session_core.specs.declared.slots.Slot.{Slot}

-- the statement in hand, by where it stands
abbrev pub hand_there : Held → Put → Option Insert → Option Hand → Option Hand
hand_there held.Nothing put machine other = None
hand_there held.Put put machine other = Some (hands.Puts put.table put.values)
hand_there held.Insert put machine other = insert_of machine
hand_there held.Other put machine other = other

abbrev pub hand_of : Slot → Option Hand
hand_of slot = hand_there slot.held slot.put slot.machine slot.other

-- before the session's first statement
abbrev pub empty_slot : Slot
empty_slot = record { held = held.Nothing; put = record { table = 0; values = [] }; machine = None; other = None }

-- any statement but an insert
abbrev pub IsNoInsert : Statement → Type 0
IsNoInsert (statements.Insert table values) = ⊥
IsNoInsert statement = Unit {0}

-- an insert stands nowhere but in its own places
abbrev pub IsElsewhere : Hand → Type 0
IsElsewhere hand = IsNoInsert (statement_of hand)

-- The machine is one for the layout, whatever it does; and the place of the other statements has no insert.
pub record IsKeptSlot (layout : DiskLayout) (slot : Slot) : Type 0 where
  pub machine : IfSome slot.machine (IsInsertFor layout)
  pub elsewhere : IfSome slot.other IsElsewhere

-- where an insert stands behind its step
abbrev pub held_after : Held → Result Step StoreFault → Held
held_after stays (Ok (steps.Moved point)) = held.Insert
held_after stays (Ok (steps.Done reply)) = held.Nothing
held_after stays (Ok (steps.Blocked what holder)) = stays
held_after stays (Err fault) = stays
