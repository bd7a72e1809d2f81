-- a vacuum's cleaning in hand, in a place that the store shows
use Rattle.std.proofs.Common.{◌≡◌, ◌≢◌, ℕ, ◌<◌, ◌≤◌, List, [], length, Option, Some, refl, sym, ap, subst, ◌∙◌}
use Rattle.block_model.specs.declared.place.Place.{Place as PagePlace}
use Rattle.block_model.specs.DatabaseState.{OpenTransaction}
use Rattle.store_layout.specs.DiskLayout.{DiskLayout}
use Rattle.page_layout.specs.PageContents.{Slot}
use Rattle.page_map.specs.PageMap.{page_at}
use Rattle.page_locks.specs.RightHolders.{right_of}
use Rattle.recovery.specs.PageOrder.{IsIndexInOrder}
use Rattle.snapshot_core.specs.declared.statuses.Status.{Status}
use Rattle.snapshot_core.specs.declared.sessions.Open.{Open}
use Rattle.snapshot_core.specs.StoredVersions.{transaction_of}
use Rattle.store_layout.specs.declared.limits.TheConstants.{MAX_ENTRIES}
use Rattle.store_layout.specs.declared.statement.Statement.TheVariants as statements
use Rattle.tx_table.specs.TxState.{TxState}
use Rattle.index_contents.specs.IndexContents.{index_page}
use Rattle.coverage.specs.Accounts.{Account, no_account}
use Rattle.coverage.specs.Machines.{ShownTable, Unseen, table_state}
use Rattle.coverage.specs.Table.{TableState, Task}
use Rattle.coverage.specs.TableCovered.{IsTableKept}
use Rattle.index_steps.specs.ShownRows.{shown_by}
use Rattle.vacuum_core.specs.declared.standing.Standing.{Standing}
use Rattle.vacuum_core.specs.declared.standing.Standing.TheVariants as standings
use Rattle.vacuum_core.specs.TableSteps.{HasCounted, account_by, task_of}
use Rattle.vacuum_core.specs.Vacuums.{VacuumState}
use Rattle.script_semantics.specs.Place.{Place, new_hand}
use Rattle.session_parts.specs.declared.hand.Cleaning.{Cleaning}
use Rattle.session_parts.specs.declared.hand.Hand.{Hand}
use Rattle.session_parts.specs.declared.hand.Hand.TheVariants as hands
use Rattle.session_parts.specs.Hands.{AnswersAre, HandShows, TellsSo, cleaned_at, statement_of}
use Rattle.session_parts.specs.HandsAsk.{IsNoInsert}
use Rattle.session_parts.specs.HandsInTables.{IsTaskOf, table_in}
use Rattle.session_parts.specs.Leaving.{IsRelationOf, LeavesOthers}
use Rattle.session_parts.specs.ShowsPlace.{IsOfTransaction, IsPlaceOf, ShowsTable}
use Rattle.session_parts.specs.StoreStates.{ShownStore, hand_in}

-- what a step of its machine left of the store: pages of its table's relations alone changed, and the table's summarise lock
pub record CleaningLeft (old new : ShownStore) (n : ℕ) (c : Cleaning) : Type 0 where
  pub had : hand_in old.hands n ≡ Some (hands.Cleans c)
  pub below : c.vacuum.table < length old.layout.schema.tables
  pub others : LeavesOthers n old new
  pub pages : (place : PagePlace) → (IsRelationOf old.layout c.vacuum.table place.relation → ⊥) → page_at new.pages place ≡ page_at old.pages place
  pub locks : new.locks ≡ old.locks
  pub rights : (other : ℕ) → other ≢ c.vacuum.table → right_of new.rights other ≡ right_of old.rights other
  pub order : (i : ℕ) → i < length old.layout.schema.indexes → IsIndexInOrder old.layout.sizes.index_blocks (index_page old.layout old.pages i)
      → IsIndexInOrder old.layout.sizes.index_blocks (index_page old.layout new.pages i)
  pub transactions : new.transactions ≡ old.transactions
  pub entries : new.entries ≡ old.entries
  pub queue : new.queue ≡ old.queue
  pub dropped : new.dropped ≡ old.dropped
  pub few : length old.entries ≤ MAX_ENTRIES

-- What a vacuum in hand is then: one of this table, at this task, with this to tell. It makes no request.
pub record IsVacuumHand (layout : DiskLayout) (table : ℕ) (hand : Hand) (task : Task) (account : Account) : Type 0 where
  pub statement : statement_of hand ≡ statements.Vacuum table
  pub answered : AnswersAre hand []
  pub told : TellsSo hand account
  pub own : (transaction : Option Open) (copy : Option OpenTransaction) → IsOfTransaction transaction copy hand
  pub in_table : table_in layout (Some hand) ≡ Some table
  pub no_insert : IsNoInsert (Some hand)
  pub at : (blocks : List (List Slot)) (tx : TxState) (stored : List Status) (transaction : Option Open) → IsTaskOf layout table blocks tx stored transaction (Some hand) task

-- what it has dropped
abbrev pub cleaned : VacuumState → Account
cleaned a = record no_account { rows = a.rows; unnamed = a.unnamed }

-- with each step it counts what it drops
pub counts_on : (a b : VacuumState) (standing : Standing) (count : ℕ) → HasCounted standing a b count → account_by standing count (cleaned_at a standing) ≡ cleaned b
counts_on a b standings.Begins count counts = λ i. record { rows = sym counts.0 i; unnamed = sym counts.1 i; ranges = 0; dropped = [] }
counts_on a b (standings.Prunes block) count counts = λ i. record { rows = sym counts.0 i; unnamed = sym counts.1 i; ranges = 0; dropped = [] }
counts_on a b (standings.Sweeps at block) count counts = λ i. record { rows = sym counts.0 i; unnamed = sym counts.1 i; ranges = 0; dropped = [] }
counts_on a b standings.Done count counts = absurd counts

module _ (old : ShownStore) (n : ℕ) (c : Cleaning) (had : hand_in old.hands n ≡ Some (hands.Cleans c)) (below : c.vacuum.table < length old.layout.schema.tables) (p : Place) (shown : IsPlaceOf old p) where
  abbrev pub stored : List Status
  stored = shown.database.stored

  abbrev pub here : ShowsTable old stored c.vacuum.table (p.tables c.vacuum.table)
  here = shown.tables c.vacuum.table below

  abbrev pub u : Unseen
  u = here.unseen

  abbrev pub pages_show : ShownTable
  pages_show = shown_by old.layout old.pages old.locks c.vacuum.table here.blocks

  abbrev pub w : TableState
  w = table_state pages_show u

  pub at_task : u.task n ≡ task_of c.vacuum
  at_task = (subst (λ (h : Option Hand). IsTaskOf old.layout c.vacuum.table here.blocks old.transactions.tx stored (transaction_of old.transactions.opens n) h (u.task n)) had (here.tasks n)).0 refl

  pub kept_here : IsTableKept w
  kept_here = subst IsTableKept here.shown here.kept

  hand_shown : HandShows (Some (hands.Cleans c)) (p.hands n) (p.accounts n)
  hand_shown = subst (λ (h : Option Hand). HandShows h (p.hands n) (p.accounts n)) had (shown.hands n)

  pub hand_is : p.hands n ≡ Some (new_hand (statements.Vacuum c.vacuum.table))
  hand_is = hand_shown.1 ∙ ap Some same
    where
      same : hand_shown.0 ≡ new_hand (statements.Vacuum c.vacuum.table)
      same = λ j. record { statement = hand_shown.2 j; answers = hand_shown.3 j }

  pub told_is : p.accounts n ≡ cleaned_at c.vacuum c.vacuum.standing
  told_is = hand_shown.4
