-- sessions by their numbers
use Rattle.std.specs.Prelude.{ℕ, List, map, slice_index_or, Option}
use Rattle.session_parts.specs.declared.hand.Hand.{Hand}
use Rattle.session_core.specs.declared.sessions.Session.{Session}
use Rattle.session_core.specs.declared.slots.Slot.{Slot}
use Rattle.session_core.specs.Slots.{empty_slot, hand_of}

-- the sessions' names
abbrev pub names_of : List Session → List (List ℕ)
names_of sessions = map (λ (s : Session). s.name) sessions

-- what each has in hand
abbrev pub hands_of : List Session → List (Option Hand)
hands_of sessions = map (λ (s : Session). hand_of s.slot) sessions

-- and where
abbrev pub slots_of : List Session → List Slot
slots_of sessions = map (λ (s : Session). s.slot) sessions

-- that of session n
abbrev pub slot_in : List Slot → ℕ → Slot
slot_in slots n = slice_index_or slots n empty_slot
