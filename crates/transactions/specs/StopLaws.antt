-- Which table a stop leaves, at every moment of a run of calls.
use Rattle.std.specs.Prelude.{◌≡◌, ℕ, IsTrue, List, Some}
use Rattle.block_model.specs.DatabaseState.{DatabaseState}
use Rattle.block_model.specs.TableState.{TableState}
use Rattle.store_layout.specs.DiskLayout.{DiskLayout}
use Rattle.disk_trait.specs.Told.{Told}
use Rattle.disk_trait.specs.Throughout.{Throughout}
use Rattle.page_map.specs.PageMap.{View}
use Rattle.recovery.specs.Reaches.{OpensWith}
use Rattle.heap_rows.specs.Survives.{Survives}
use Rattle.snapshot_core.specs.declared.statuses.Status.TheVariants.{Committed}
use Rattle.snapshot_core.specs.declared.sessions.Open.{Open}
use Rattle.snapshot_core.specs.StoredVersions.{transaction_of}
use Rattle.tx_table.specs.Durable.{HasPart, IsBefore, IsDurable}
use Rattle.transactions.specs.Sessions.{committed_by}
use Rattle.transactions.specs.ShowsDatabase.{ShowsDatabase}
use Rattle.transactions.specs.TransactionsState.{TransactionsState}
use Rattle.transactions.specs.FoundLaws.{FindsEither, table_committed}
use Rattle.transactions.specs.FoundTable.{FoundTable}

-- the image opens to pages with this table
abbrev pub HasTable : DiskLayout → TableState → List ℕ → Type 0
HasTable layout table = OpensWith layout (λ pages. FoundTable layout pages table)

-- an image has one table
abbrev pub OneTableInImage : DiskLayout → Type 0
OneTableInImage layout = (image : List ℕ) (a b : TableState) → HasTable layout a image → HasTable layout b image → a ≡ b

-- the image opens to pages with one of two
abbrev pub HasEither : DiskLayout → TableState → TableState → List ℕ → Type 0
HasEither layout a b = OpensWith layout (FindsEither layout a b)

-- each image that a stop may leave now has P
abbrev pub EachImage : {D : Type 0} → (D → Told) → View D → (List ℕ → Type 0) → Type 0
EachImage told store P = (image : List ℕ) → IsTrue ((told store.disk).now image) → P image

-- each that it may leave at any moment of a run of calls has it, and each that it may leave when they are done
pub record EachStop {D : Type 0} (told : D → Told) (old new : View D) (P : List ℕ → Type 0) : Type 0 where
  pub moments : Throughout (told old.disk) (told new.disk) P
  pub images : EachImage told new P

-- ---- whatever calls

-- Each image has a table before, and so have all pages that the calls pass.
abbrev pub StopsKeepTable : {D : Type 0} → (D → Told) → Type 0
StopsKeepTable {D} told = (old new : View D) (table : TableState)
    → EachImage told old (HasTable old.layout table) → Survives told (λ pages. FoundTable old.layout pages table) old new
    → EachStop told old new (HasTable old.layout table)

-- The pages that the calls pass have it or another one.
abbrev pub StopsLeaveEither : {D : Type 0} → (D → Told) → Type 0
StopsLeaveEither {D} told = (old new : View D) (a b : TableState)
    → EachImage told old (HasTable old.layout a) → Survives told (FindsEither old.layout a b) old new
    → EachStop told old new (HasEither old.layout a b)

-- So it stays where each image has one of the two before, as behind a commit that a fault of the disk ended.
abbrev pub StopsKeepEither : {D : Type 0} → (D → Told) → Type 0
StopsKeepEither {D} told = (old new : View D) (a b : TableState)
    → EachImage told old (HasEither old.layout a b) → Survives told (FindsEither old.layout a b) old new
    → EachStop told old new (HasEither old.layout a b)

-- Where pages with a table are sure, each image has it.
abbrev pub SureTableIsLeft : {D : Type 0} → (D → Told) → Type 0
SureTableIsLeft {D} told = (store : View D) (table : TableState) → IsDurable told store → FoundTable store.layout store.pages table → EachImage told store (HasTable store.layout table)

-- ---- the calls of a store

-- The table of the database that is shown, where the calls pass no other pages than those of before.
abbrev pub StepKeepsTable : {D : Type 0} → (D → Told) → Type 0
StepKeepsTable {D} told = (old new : View D) (t : TransactionsState) (s : DatabaseState) → ShowsDatabase old.layout old.pages t s
    → EachImage told old (HasTable old.layout s.table) → Survives told (IsBefore old) old new
    → EachStop told old new (HasTable old.layout s.table)

-- Amid the commit of a session's transaction it is that table, or the one behind the commit.
abbrev pub CommitLeavesEither : {D : Type 0} → (D → Told) → Type 0
CommitLeavesEither {D} told = (old new : View D) (t : TransactionsState) (s : DatabaseState) (n : ℕ) (o : Open) → ShowsDatabase old.layout old.pages t s → transaction_of t.opens n ≡ Some o
    → EachImage told old (HasTable old.layout s.table) → Survives told (HasPart old.layout old.pages (committed_by o) Committed) old new
    → EachStop told old new (HasEither old.layout s.table (table_committed s n))

-- Once the pages are sure, it is that of the database that is shown then.
abbrev pub SureDatabaseIsLeft : {D : Type 0} → (D → Told) → Type 0
SureDatabaseIsLeft {D} told = (store : View D) (t : TransactionsState) (s : DatabaseState) → IsDurable told store → ShowsDatabase store.layout store.pages t s → EachImage told store (HasTable store.layout s.table)
