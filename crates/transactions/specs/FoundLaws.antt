-- Which table is found on the pages of a store.
use Rattle.std.specs.Prelude.{◌≡◌, ◌⊎◌, ℕ, false, true, Some}
use Rattle.std.specs.FinMap.{get}
use Rattle.block_model.specs.declared.request.Entry.{Entry}
use Rattle.block_model.specs.declared.request.Request.TheVariants as requests
use Rattle.block_model.specs.DatabaseState.{DatabaseState, OpenTransaction}
use Rattle.block_model.specs.RequestEffect.{after_request}
use Rattle.block_model.specs.TableState.{TableState}
use Rattle.store_layout.specs.StatementRequests.{request_entry}
use Rattle.store_layout.specs.DiskLayout.{DiskLayout}
use Rattle.page_map.specs.PageMap.{PageMap}
use Rattle.snapshot_core.specs.declared.statuses.Status.TheVariants.{Committed}
use Rattle.snapshot_core.specs.declared.sessions.Open.{Open}
use Rattle.snapshot_core.specs.StoredVersions.{transaction_of}
use Rattle.tx_table.specs.Durable.{HasPart}
use Rattle.transactions.specs.Sessions.{committed_by}
use Rattle.transactions.specs.ShowsDatabase.{ShowsDatabase}
use Rattle.transactions.specs.TransactionsState.{TransactionsState}
use Rattle.transactions.specs.FoundTable.{FoundTable}

-- two tables that are found on the same pages are one
abbrev pub OneTableIsFound : Type 0
OneTableIsFound = (layout : DiskLayout) (pages : PageMap) (a b : TableState) → FoundTable layout pages a → FoundTable layout pages b → a ≡ b

-- the table of the database that is shown, whatever transactions are open
abbrev pub ShownTableIsFound : Type 0
ShownTableIsFound = (layout : DiskLayout) (pages : PageMap) (t : TransactionsState) (s : DatabaseState) → ShowsDatabase layout pages t s → FoundTable layout pages s.table

-- so a store that is opened over pages shows the table that is found on them
abbrev pub FoundTableIsShown : Type 0
FoundTableIsShown = (layout : DiskLayout) (pages : PageMap) (t : TransactionsState) (s : DatabaseState) (table : TableState) → FoundTable layout pages table → ShowsDatabase layout pages t s → s.table ≡ table

-- ---- a commit

-- the table behind the commit of a session's transaction
abbrev pub table_committed : DatabaseState → ℕ → TableState
table_committed s n = (after_request s (request_entry n 0 requests.Commit)).table

-- one of two tables is found
abbrev pub FindsEither : DiskLayout → TableState → TableState → PageMap → Type 0
FindsEither layout a b pages = FoundTable layout pages a ⊎ FoundTable layout pages b

-- amid a commit it is that of before, or that of behind it
abbrev pub CommitFindsEither : Type 0
CommitFindsEither = (layout : DiskLayout) (old pages : PageMap) (t : TransactionsState) (s : DatabaseState) (n : ℕ) (o : Open)
    → ShowsDatabase layout old t s → transaction_of t.opens n ≡ Some o → HasPart layout old (committed_by o) Committed pages
    → FindsEither layout s.table (table_committed s n) pages

-- amid one of a transaction that has failed it is that of before
abbrev pub FailedCommitFindsOld : Type 0
FailedCommitFindsOld = (layout : DiskLayout) (old pages : PageMap) (t : TransactionsState) (s : DatabaseState) (n : ℕ) (o : Open)
    → ShowsDatabase layout old t s → transaction_of t.opens n ≡ Some o → o.failed ≡ true → HasPart layout old (committed_by o) Committed pages
    → FoundTable layout pages s.table

-- ---- any other request

-- the request commits a transaction that hasn't failed
pub record IsCommit (s : DatabaseState) (e : Entry) : Type 0 where
  pub asks : e.request ≡ requests.Commit
  pub transaction : OpenTransaction
  pub under_way : get s.sessions e.session ≡ Some transaction
  pub unfailed : transaction.failed ≡ false

-- any other leaves the table: a begin, a put, a look, a mark, a rollback, and the commit of a failed one
abbrev pub OnlyCommitsChangeTable : Type 0
OnlyCommitsChangeTable = (s : DatabaseState) (e : Entry) → (IsCommit s e → ⊥) → (after_request s e).table ≡ s.table

-- so it is found on the pages behind such a request
abbrev pub OtherRequestsLeaveTable : Type 0
OtherRequestsLeaveTable = (layout : DiskLayout) (pages : PageMap) (t : TransactionsState) (s : DatabaseState) (e : Entry)
    → (IsCommit s e → ⊥) → ShowsDatabase layout pages t (after_request s e) → FoundTable layout pages s.table
