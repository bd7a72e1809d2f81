-- the open transactions as a list of sessions
use Rattle.std.specs.Prelude.{◌≡◌, ℕ, true, List, map}
use Rattle.std.specs.Ordering.{nat_cmp}
use Rattle.std.specs.FinMap.{FinMap, from_sorted, is_sorted}
use Rattle.block_model.specs.DatabaseState.{OpenTransaction}
use Rattle.model_laws.specs.declared.sessions.Session.{Session}

-- each transaction stands at its session's number
abbrev pub at_numbers : List Session → List (ℕ × OpenTransaction)
at_numbers sessions = map (λ s. (s.number, s.transaction)) sessions

-- the numbers rise
abbrev pub IsInOrder : List Session → Type 0
IsInOrder sessions = is_sorted nat_cmp (at_numbers sessions) ≡ true

-- the map of these sessions, which are in order
abbrev pub sessions_of : List Session → FinMap nat_cmp OpenTransaction
sessions_of sessions = from_sorted (at_numbers sessions)
