-- what the open transactions of all sessions are seen as
use Rattle.std.specs.Prelude.{◌≡◌, ℕ, ◌+◌, false, List, set, length, Option, Some}
use Rattle.store_layout.specs.declared.limits.TheConstants.{MAX_SESSIONS}
use Rattle.snapshot_core.specs.declared.sessions.Open.{Open}
use Rattle.snapshot_core.specs.SessionChanges.{failed_open, numbers_of, with_next_k}
use Rattle.snapshot_core.specs.StoredVersions.{transaction_of}
use Rattle.tx_table.specs.TxState.{IsOwn, TxState}

-- the numbers of transactions, and each session's open one
pub record TransactionsState : Type 0 where
  pub tx : TxState
  pub opens : List (Option Open)

-- on any disk: there is a place for each session, and each open transaction began since the opening
pub record AreOpen (t : TransactionsState) : Type 0 where
  pub places : length t.opens ≡ MAX_SESSIONS
  pub own : (session : ℕ) (o : Open) → transaction_of t.opens session ≡ Some o → IsOwn t.tx o.t

-- the fact holds of the session's open transaction, if it has one
abbrev pub OfOpen : TransactionsState → ℕ → (Open → Type 0) → Type 0
OfOpen t session P = (o : Open) → transaction_of t.opens session ≡ Some o → P o

-- the session's transaction is that one now, or it has none
abbrev pub with_open : TransactionsState → ℕ → Option Open → TransactionsState
with_open t session o = record t { opens = set t.opens session o }

-- it has put one row more
abbrev pub with_row_counted : TransactionsState → ℕ → Open → TransactionsState
with_row_counted t session o = with_open t session (Some (with_next_k o (o.next_k + 1)))

-- it has failed
abbrev pub with_failed : TransactionsState → ℕ → Open → TransactionsState
with_failed t session o = with_open t session (Some (failed_open o))

-- the transaction that begins: it has the next number, and the open ones are active in its snapshot
abbrev pub next_open : TransactionsState → Open
next_open t = record { t = t.tx.next; next_k = 0; snapshot = record { next = t.tx.next; active = numbers_of t.opens }; failed = false }

-- it has begun
abbrev pub with_begun : TransactionsState → ℕ → TransactionsState
with_begun t session = record { tx = record t.tx { next = t.tx.next + 1 }; opens = set t.opens session (Some (next_open t)) }
