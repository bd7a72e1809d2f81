-- what each step of a store keeps of FrontsStand
use Rattle.std.specs.Prelude.{◌≡◌, ℕ, Bool, All, List, [], ◌∷◌, ◌++◌, set, None, Some}
use Rattle.block_model.specs.declared.request.Entry.{Entry}
use Rattle.block_model.specs.declared.request.Request.{Request}
use Rattle.block_model.specs.declared.request.Request.TheVariants as requests
use Rattle.store_layout.specs.DiskLayout.{DiskLayout}
use Rattle.page_map.specs.PageMap.{PageMap}
use Rattle.snapshot_core.specs.declared.statuses.Status.{Status}
use Rattle.snapshot_core.specs.declared.statuses.Status.TheVariants as status
use Rattle.snapshot_core.specs.declared.sessions.Open.{Open}
use Rattle.snapshot_core.specs.SessionChanges.{ended}
use Rattle.snapshot_core.specs.StoredVersions.{transaction_of}
use Rattle.tx_table.specs.Statuses.{HasStatuses}
use Rattle.transactions.specs.Laws.{IsOpened}
use Rattle.transactions.specs.ShowsDatabase.{ShowsDatabase}
use Rattle.transactions.specs.TransactionsState.{TransactionsState, with_begun, with_failed, with_open, with_row_counted}
use Rattle.script_semantics.specs.Place.{Place, database_at}
use Rattle.session_parts.specs.FrontsStand.{FrontsStand}
use Rattle.session_parts.specs.RowsFollow.{RowsFollow}

-- the place has the same opening, and these requests more in its journal
pub record GoesOn (p q : Place) (more : List Entry) : Type 0 where
  pub opening : q.opening ≡ p.opening
  pub journal : q.journal ≡ p.journal ++ more

-- ---- which statuses, and which place

-- whichever list it is that the pages have
abbrev pub AnyStatusesStand : Type 0
AnyStatusesStand = (layout : DiskLayout) (pages : PageMap) (t : TransactionsState) (stored other : List Status) (p : Place)
    → HasStatuses layout pages stored → HasStatuses layout pages other → FrontsStand layout pages t stored p → FrontsStand layout pages t other p

-- whichever place it is that has that opening and that journal
abbrev pub AnyPlaceStands : Type 0
AnyPlaceStands = (layout : DiskLayout) (pages : PageMap) (t : TransactionsState) (stored : List Status) (p q : Place)
    → q.opening ≡ p.opening → q.journal ≡ p.journal → FrontsStand layout pages t stored p → FrontsStand layout pages t stored q

-- ---- a step within a transaction

-- a put, a look or a mark
abbrev pub IsWithin : Request → Type 0
IsWithin requests.Begin = ⊥
IsWithin requests.Commit = ⊥
IsWithin requests.Rollback = ⊥
IsWithin request = Unit {0}

-- whoever has a transaction open had it open, with that number and that snapshot
abbrev pub OpensStay : TransactionsState → TransactionsState → Type 0
OpensStay t now = (n : ℕ) (o : Open) → transaction_of now.opens n ≡ Some o → (was : Open) × (transaction_of t.opens n ≡ Some was) × (o.t ≡ was.t) × (o.snapshot ≡ was.snapshot)

-- so it is where a session's transaction goes on, has put one row more, or has failed
pub record KeepOpens (t : TransactionsState) (n : ℕ) (o : Open) : Type 0 where
  pub same : OpensStay t t
  pub counted : OpensStay t (with_row_counted t n o)
  pub failed : OpensStay t (with_failed t n o)

abbrev pub OwnStepsKeepOpens : Type 0
OwnStepsKeepOpens = (t : TransactionsState) (n : ℕ) (o : Open) → transaction_of t.opens n ≡ Some o → KeepOpens t n o

-- No transaction begins or ends, and the statuses stay.
abbrev pub StepWithinStands : Type 0
StepWithinStands = (layout : DiskLayout) (old new : PageMap) (t now : TransactionsState) (stored : List Status) (p q : Place) (more : List Entry)
    → ShowsDatabase layout old t (database_at p) → FrontsStand layout old t stored p
    → GoesOn p q more → All (λ (e : Entry). IsWithin e.request) more → now.tx.first ≡ t.tx.first → OpensStay t now → RowsFollow layout old new t
    → FrontsStand layout new now stored q

-- ---- a begin

-- the entry is this request of session n
pub record IsRequestOf (n : ℕ) (request : Request) (e : Entry) : Type 0 where
  pub session : e.session ≡ n
  pub asks : e.request ≡ request

-- A session that has no transaction begins the next one.
abbrev pub BeginStands : Type 0
BeginStands = (layout : DiskLayout) (old new : PageMap) (t : TransactionsState) (stored : List Status) (p q : Place) (n : ℕ) (e : Entry)
    → ShowsDatabase layout old t (database_at p) → HasStatuses layout old stored → FrontsStand layout old t stored p
    → transaction_of t.opens n ≡ None → IsRequestOf n requests.Begin e → GoesOn p q (e ∷ []) → RowsFollow layout old new t
    → FrontsStand layout new (with_begun t n) (set stored t.tx.next status.Begun) q

-- ---- an end

-- The request ends a transaction, which has that status then: one that has failed is rolled back by its commit.
abbrev pub IsEnding : Request → (failed : Bool) → Status → Type 0
IsEnding requests.Commit failed end = end ≡ ended failed
IsEnding requests.Rollback failed end = end ≡ status.RolledBack
IsEnding request failed end = ⊥

-- A session's transaction commits or is rolled back.
abbrev pub EndStands : Type 0
EndStands = (layout : DiskLayout) (old new : PageMap) (t : TransactionsState) (stored : List Status) (p q : Place) (n : ℕ) (o : Open) (e : Entry) (end : Status)
    → ShowsDatabase layout old t (database_at p) → HasStatuses layout old stored → FrontsStand layout old t stored p
    → transaction_of t.opens n ≡ Some o → e.session ≡ n → IsEnding e.request o.failed end → GoesOn p q (e ∷ []) → RowsFollow layout old new t
    → FrontsStand layout new (with_open t n None) (set stored o.t end) q

-- ---- the start

-- A store that is opened, where nobody has a transaction, and whose journal is empty.
abbrev pub StartStands : Type 0
StartStands = (layout : DiskLayout) (pages : PageMap) (t : TransactionsState) (stored : List Status) (p : Place)
    → ShowsDatabase layout pages t p.opening → HasStatuses layout pages stored → IsOpened t → p.journal ≡ [] → FrontsStand layout pages t stored p
