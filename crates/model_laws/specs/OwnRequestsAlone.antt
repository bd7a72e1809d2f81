-- A transaction that hasn't failed is what its own requests alone make of it, and so are its answers, whatever requests of
-- other sessions come between.
use Rattle.std.specs.Prelude.{◌≡◌, ℕ, Bool, true, false, ◌==◌, List, [], ◌∷◌, filter, fold, Some, if◌then◌else◌}
use Rattle.std.specs.List.{list_any}
use Rattle.std.specs.FinMap as maps
use Rattle.block_model.specs.declared.request.Entry.{Entry}
use Rattle.block_model.specs.declared.request.Request.{Request}
use Rattle.block_model.specs.declared.request.Request.TheVariants.{Put, Look, Mark, Commit, Rollback}
use Rattle.block_model.specs.DatabaseState.{DatabaseState, OpenTransaction}
use Rattle.block_model.specs.RequestEffect.{Answer, Inserted, Found, Marked, Illegal, after_request, reply_to, after_put, after_mark, next_row, rows_found}
use Rattle.block_model.specs.SerialRun.{serial_run}

-- the session's own requests
abbrev pub own_entries : ℕ → List Entry → List Entry
own_entries n journal = filter (λ e. e.session == n) journal

-- it ends the transaction
abbrev pub is_end : Request → Bool
is_end Commit = true
is_end Rollback = true
is_end request = false

-- none of its own requests ends the transaction
abbrev pub NeverEnds : ℕ → List Entry → Type 0
NeverEnds n journal = list_any (λ e. is_end e.request) (own_entries n journal) ≡ false

-- what a request makes of the transaction, where it doesn't fail
abbrev pub own_after : OpenTransaction → ℕ → Request → OpenTransaction
own_after x table (Put values) = after_put x table values
own_after x table (Mark id) = after_mark x id
own_after x table request = x

-- the same, by the journal's entry
abbrev pub own_step : OpenTransaction → Entry → OpenTransaction
own_step x e = own_after x e.table e.request

-- and what it is answered
abbrev pub own_reply : OpenTransaction → ℕ → Request → Answer
own_reply x table (Put values) = Inserted (next_row x table values).id
own_reply x table (Look q) = Found (rows_found x q)
own_reply x table (Mark id) = Marked
own_reply x table request = Illegal

-- the answers to its own requests, one after the other
abbrev pub own_replies : OpenTransaction → List Entry → List Answer
own_replies x [] = []
own_replies x (e ∷ es) = own_reply x e.table e.request ∷ own_replies (own_step x e) es

-- the answers to the session's requests in the run of all of them
abbrev pub replies_of : ℕ → DatabaseState → List Entry → List Answer
replies_of n s [] = []
replies_of n s (e ∷ es) = if e.session == n then reply_to s e ∷ replies_of n (after_request s e) es else replies_of n (after_request s e) es

-- y is what the own requests alone make of x, and the answers are theirs
pub record IsOwnRun (n : ℕ) (s : DatabaseState) (journal : List Entry) (x y : OpenTransaction) : Type 0 where
  pub transaction : y ≡ fold own_step x (own_entries n journal)
  pub replies : replies_of n s journal ≡ own_replies x (own_entries n journal)

-- for each session, each state in which it has a transaction, and each journal that doesn't end it
abbrev pub OwnRequestsAlone : Type 0
OwnRequestsAlone = (n : ℕ) (s : DatabaseState) (journal : List Entry) (x y : OpenTransaction)
    → maps.get s.sessions n ≡ Some x → NeverEnds n journal → maps.get (serial_run s journal).sessions n ≡ Some y → y.failed ≡ false → IsOwnRun n s journal x y
