-- what a session's insert asked for in vain, as its store keeps it
use Rattle.std.specs.Prelude.{ℕ, List, map, Option, Some}
use Rattle.store_layout.specs.DiskLayout.{DiskLayout}
use Rattle.reply_texts.specs.declared.dropped.Dropped.{Dropped}
use Rattle.coverage.specs.Accounts.{Asked}
use Rattle.script_semantics.specs.IndexTuples.{index_at}
use Rattle.brin_insert.specs.AskedFor.{AreRequestsOf}
use Rattle.session_parts.specs.declared.hand.Hand.{Hand}
use Rattle.session_parts.specs.declared.hand.Hand.TheVariants as hands

-- a request with the name of its index
abbrev pub named_request : DiskLayout → ℕ × ℕ → Dropped
named_request layout request = record { index = (index_at layout request.0).name; range = request.1 }

abbrev pub named_requests : DiskLayout → List (ℕ × ℕ) → List Dropped
named_requests layout requests = map (named_request layout) requests

-- an insert in hand has asked for these in vain
abbrev pub HandAsked : DiskLayout → Option Hand → List Asked → Type 0
HandAsked layout (Some (hands.Inserts insert)) asked = AreRequestsOf layout insert.dropped.items asked
HandAsked layout hand asked = Unit {0}

-- none is in hand
abbrev pub IsNoInsert : Option Hand → Type 0
IsNoInsert (Some (hands.Inserts insert)) = ⊥
IsNoInsert hand = Unit {0}
