-- the sessions' transactions, in the database and as they are open
use Rattle.std.specs.Prelude.{◌≡◌, ℕ, ◌-◌, ◌^◌, ◌==◌, Option, None, Some, List, [], ◌∷◌, if◌then◌else◌}
use Rattle.std.specs.FinMap as map
use Rattle.block_model.specs.declared.row.RowId.{RowId}
use Rattle.block_model.specs.DatabaseState.{DatabaseState, OpenTransaction}
use Rattle.snapshot_core.specs.declared.sessions.Open.{Open}
use Rattle.snapshot_core.specs.declared.standing.Standing.{Standing}
use Rattle.snapshot_core.specs.declared.standing.Standing.TheVariants as standings
use Rattle.snapshot_core.specs.StoredVersions.{transaction_of}
use Rattle.snapshot_core.specs.VersionsState.{standing_of}
use Rattle.transactions.specs.TransactionsState.{TransactionsState}

-- how a session stands that has this open transaction, or none
abbrev pub open_standing : Option Open → Standing
open_standing None = standings.Idle
open_standing (Some o) = if o.failed then standings.Failed else standings.UnderWay

-- the transactions that a commit of this one commits: none where it has failed
abbrev pub committed_by : Open → List ℕ
committed_by o = if o.failed then [] else o.t ∷ []

-- the id of a transaction's next row; its rows are numbered by 32 bits, and the greatest such number is not used
abbrev pub next_row_of : Open → Option RowId
next_row_of o = if o.next_k == 2 ^ 32 - 1 then None else Some (record { t = o.t; k = o.next_k })

-- the same transaction, in the database and as it is open
pub record IsCopyOf (o : Open) (x : OpenTransaction) : Type 0 where
  pub t : x.t ≡ o.t
  pub next_k : x.next_k ≡ o.next_k
  pub failed : x.failed ≡ o.failed

-- the database has a transaction of a session exactly where the session has an open one
pub record HaveTransactions (t : TransactionsState) (s : DatabaseState) : Type 0 where
  pub next : s.next ≡ t.tx.next
  pub shown : (session : ℕ) (o : Open) → transaction_of t.opens session ≡ Some o → (x : OpenTransaction) × (map.get s.sessions session ≡ Some x) × IsCopyOf o x
  pub opened : (session : ℕ) (x : OpenTransaction) → map.get s.sessions session ≡ Some x → (o : Open) × (transaction_of t.opens session ≡ Some o) × IsCopyOf o x
  pub none : (session : ℕ) → transaction_of t.opens session ≡ None → map.get s.sessions session ≡ None
  pub idle : (session : ℕ) → map.get s.sessions session ≡ None → transaction_of t.opens session ≡ None
  pub stands : (session : ℕ) → standing_of (map.get s.sessions session) ≡ open_standing (transaction_of t.opens session)
