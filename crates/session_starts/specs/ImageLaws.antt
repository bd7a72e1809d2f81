-- That a store which shows a place is that of an image, that each stop leaves one, and that an opening shows it.
use Rattle.std.specs.Prelude.{◌≡◌, ◌⊎◌, ℕ, ◌≤◌, false, List, [], None, Some, Result, Ok}
use Rattle.block_model.specs.declared.reply.Reply.TheVariants as replies
use Rattle.block_model.specs.DatabaseState.{initial_state}
use Rattle.block_model.specs.TableState.{TableState}
use Rattle.store_layout.specs.declared.statement.Statement.TheVariants as statements
use Rattle.store_layout.specs.DiskLayout.{DiskLayout}
use Rattle.page_locks.specs.RightHolders.{right_of}
use Rattle.page_map.specs.PageMap.{PageMap}
use Rattle.snapshot_core.specs.declared.statuses.Status.{Status}
use Rattle.snapshot_core.specs.declared.statuses.Status.TheVariants.{Committed}
use Rattle.snapshot_core.specs.declared.sessions.Open.{Open}
use Rattle.snapshot_core.specs.StoredVersions.{transaction_of}
use Rattle.tx_table.specs.Durable.{HasPart}
use Rattle.tx_table.specs.Statuses.{HasStatuses, number_limit}
use Rattle.tx_table.specs.TxState.{IsNext}
use Rattle.transactions.specs.Laws.{IsOpened}
use Rattle.transactions.specs.Sessions.{committed_by}
use Rattle.script_semantics.specs.Place.{Hand, Place, database_at}
use Rattle.script_semantics.specs.Starts.{IsOpening}
use Rattle.transactions.specs.FoundLaws.{table_committed}
use Rattle.session_parts.specs.declared.faults.Step.{Step}
use Rattle.session_parts.specs.declared.faults.Step.TheVariants as steps
use Rattle.session_parts.specs.declared.faults.StoreFault.{StoreFault}
use Rattle.session_parts.specs.declared.hand.Hand.TheVariants as hands
use Rattle.session_parts.specs.ShowsPlace.{IsPlaceOf}
use Rattle.session_parts.specs.StepIs.{StepIs}
use Rattle.session_parts.specs.StoreStates.{ShownStore, dropped_in, hand_in}
use Rattle.session_starts.specs.FreshPages.{fresh_pages}
use Rattle.session_starts.specs.StoreImage.{IsStoreImage, IsUnlocked, database_with}

-- The pages of a store that shows a place, whatever its sessions have in hand, are those of a store with the committed table.
abbrev pub ShownIsImage : Type 0
ShownIsImage = (s : ShownStore) (p : Place) → IsPlaceOf s p → IsStoreImage s.layout s.pages (database_at p).table

-- So are those that a commit of a session passes; behind the change of its status they have the table with the commit, where the transaction hasn't failed.
abbrev pub CommitIsImage : Type 0
CommitIsImage = (s : ShownStore) (p : Place) (n : ℕ) (o : Open) (pages : PageMap) → IsPlaceOf s p → hand_in s.hands n ≡ Some hands.Commits
    → transaction_of s.transactions.opens n ≡ Some o → s.transactions.tx.next ≤ number_limit s.layout → HasPart s.layout s.pages (committed_by o) Committed pages
    → IsStoreImage s.layout pages (database_at p).table ⊎ ((o.failed ≡ false) × IsStoreImage s.layout pages (table_committed (database_at p) n))

-- session n has a commit in hand, whose request isn't made
pub record IsCommitting (p : Place) (n : ℕ) : Type 0 where
  pub hand : Hand
  pub in_hand : p.hands n ≡ Some hand
  pub is : hand.statement ≡ statements.Commit
  pub new : hand.answers ≡ []

-- no step changes the committed table but a commit that is done
abbrev pub StepLeavesTable : Type 0
StepLeavesTable = (p q : Place) (n : ℕ) (answer : Result Step StoreFault) → StepIs p n answer q → (IsCommitting p n → answer ≡ Ok (steps.Done replies.Committed) → ⊥)
    → (database_at q).table ≡ (database_at p).table

-- a step that is answered while a commit is in hand makes that commit, which changes nothing where its transaction has failed
abbrev pub StepCommits : Type 0
StepCommits = (p q : Place) (n : ℕ) (step : Step) → IsCommitting p n → StepIs p n (Ok step) q → (database_at q).table ≡ table_committed (database_at p) n

-- A store that was opened over these pages: its transactions are started over them, nobody has anything in hand or a lock, and nothing was asked.
pub record IsOpenedStore (s : ShownStore) : Type 0 where
  pub opened : IsOpened s.transactions
  pub stored : List Status
  pub has : HasStatuses s.layout s.pages stored
  pub next : IsNext stored s.transactions.tx.next
  pub unlocked : IsUnlocked s.locks
  pub free : (table : ℕ) → right_of s.rights table ≡ None
  pub entries : s.entries ≡ []
  pub queue : s.queue ≡ []
  pub dropped : (n : ℕ) → dropped_in s.dropped n ≡ []
  pub names : s.names ≡ []
  pub hands : (n : ℕ) → hand_in s.hands n ≡ None

-- Over an image of a store it shows a place at which a script begins, with the image's table and its next number.
abbrev pub ImageIsShown : DiskLayout → Type 0
ImageIsShown layout = (s : ShownStore) (table : TableState) → s.layout ≡ layout → IsOpenedStore s → (image : IsStoreImage s.layout s.pages table)
    → (p : Place) × IsOpening s.layout (database_with image.next table) p × IsPlaceOf s p

-- the pages of a new store are those of a store with the empty table
abbrev pub NewIsImage : DiskLayout → Type 0
NewIsImage layout = IsStoreImage layout (fresh_pages layout) initial_state.table
