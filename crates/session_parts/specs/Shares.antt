-- how many entries of the journal a session is promised, so that what it has begun can end without taking memory
use Rattle.std.specs.Prelude.{ℕ, ◌+◌, length, Option, None, Some, if◌then◌else◌}
use Rattle.block_model.specs.declared.row.Query.{Query}
use Rattle.snapshot_core.specs.declared.sessions.Open.{Open}
use Rattle.session_parts.specs.declared.hand.Hand.{Hand}
use Rattle.session_parts.specs.declared.hand.Hand.TheVariants as hands
use Rattle.session_parts.specs.declared.hand.Marking.{Marking}
use Rattle.session_parts.specs.declared.limits.TheConstants.{ENTRIES_A_BEGIN}
use Rattle.session_parts.specs.Hands.{hits_left}

-- the marks that a delete has still to make, and its look, if that isn't entered
abbrev pub look_share : Option Query → ℕ
look_share None = 0
look_share (Some look) = 1

abbrev pub marks_share : Marking → ℕ
marks_share marking = length (hits_left marking) + look_share marking.look

-- by its statement in hand: a begin its three, a scan its look, and a delete its marks
abbrev pub hand_share : Option Hand → ℕ
hand_share (Some (hands.Begins numbers)) = ENTRIES_A_BEGIN
hand_share (Some (hands.Selects scan)) = 1
hand_share (Some (hands.Deletes scan)) = 1
hand_share (Some (hands.Marks marking)) = marks_share marking
hand_share hand = 0

-- by its transaction: the request at which that may fail, and its end; behind a failure its end alone
abbrev pub open_share : Option Open → ℕ
open_share None = 0
open_share (Some o) = if o.failed then 1 else 2

abbrev pub share_of : Option Hand → Option Open → ℕ
share_of hand transaction = hand_share hand + open_share transaction
