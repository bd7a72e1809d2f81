-- a maintenance statement in hand, in a place that the store shows
use Rattle.std.proofs.Common.{◌≡◌, ◌≢◌, ℕ, ◌<◌, ◌≤◌, List, [], length, Option, None, Some, refl, sym, ap, subst, ◌∙◌}
use Rattle.std.specs.Prelude.{IsTrue}
use Rattle.block_model.specs.declared.place.Place.{Place as PagePlace}
use Rattle.block_model.specs.DatabaseState.{OpenTransaction}
use Rattle.block_model.specs.RequestEffect.{Answer}
use Rattle.store_layout.specs.DiskLayout.{DiskLayout}
use Rattle.page_layout.specs.PageContents.{Slot}
use Rattle.page_map.specs.PageMap.{page_at}
use Rattle.page_locks.specs.RightHolders.{right_of}
use Rattle.recovery.specs.PageOrder.{IsIndexInOrder}
use Rattle.snapshot_core.specs.declared.statuses.Status.{Status}
use Rattle.snapshot_core.specs.declared.sessions.Open.{Open}
use Rattle.snapshot_core.specs.StoredVersions.{transaction_of}
use Rattle.store_layout.specs.declared.limits.TheConstants.{MAX_ENTRIES}
use Rattle.tx_table.specs.TxState.{TxState}
use Rattle.index_contents.specs.IndexContents.{index_page, relation_of as index_relation}
use Rattle.coverage.specs.Accounts.{Account, Asked, no_account}
use Rattle.coverage.specs.Machines.{ShownTable, Unseen, table_state}
use Rattle.coverage.specs.Table.{TableState, Task}
use Rattle.coverage.specs.TableCovered.{IsTableKept}
use Rattle.index_steps.specs.IndexTuples.{index_at}
use Rattle.index_steps.specs.ShownRows.{shown_by}
use Rattle.script_semantics.specs.Beginnings.{StandsAt, takes_lock}
use Rattle.script_semantics.specs.Place.{Hand as HandAt, Place, new_hand}
use Rattle.script_semantics.specs.Requests.{next_request}
use Rattle.session_parts.specs.declared.hand.Hand.{Hand}
use Rattle.session_parts.specs.Hands.{AnswersAre, HandShows, TellsSo, statement_of}
use Rattle.session_parts.specs.HandFits.{right_held}
use Rattle.session_parts.specs.HandsAsk.{HandAsked, IsNoInsert}
use Rattle.session_parts.specs.HandsInTables.{InItsTable, IsTaskOf, table_in}
use Rattle.session_parts.specs.Leaving.{ChangesLocks, LeavesOthers}
use Rattle.session_parts.specs.ShowsPlace.{IsOfTransaction, IsPlaceOf, ShowsTable}
use Rattle.session_parts.specs.StoreStates.{ShownStore, hand_in}

-- an account that tells so many ranges alone
abbrev pub counted : ℕ → Account
counted count = record no_account { ranges = count }

-- at its index's place among the table's, it is at this
abbrev pub IsUpkeepAt : DiskLayout → (index : ℕ) → (ℕ → Task) → Task → Type 0
IsUpkeepAt layout index task now = (at : ℕ) × StandsAt layout index at × (now ≡ task at)

-- What a maintenance statement in hand is: one of the table of this index, at such a task there, and with this to tell. It makes no request, and needs the
-- summarise lock. It is in no other table; work is in none before its first step.
pub record IsUpkeep (layout : DiskLayout) (hand : Hand) (index : ℕ) (Here : Task → Type 0) (account : Account) : Type 0 where
  pub within : index < length layout.schema.indexes
  pub below : (index_at layout index).table < length layout.schema.tables
  pub lock : IsTrue (takes_lock (statement_of hand))
  pub asks : (n : ℕ) (answers : List Answer) → next_request n (statement_of hand) answers ≡ None
  pub answers : (answers : List Answer) → AnswersAre hand answers → answers ≡ []
  pub answered : AnswersAre hand []
  pub tells : (so_far : Account) → TellsSo hand so_far → so_far ≡ account
  pub told : TellsSo hand account
  pub none : account.dropped ≡ []
  pub own : (transaction : Option Open) (copy : Option OpenTransaction) → IsOfTransaction transaction copy hand
  pub in_table : (table : ℕ) → table_in layout (Some hand) ≡ Some table → table ≡ (index_at layout index).table
  pub no_insert : IsNoInsert (Some hand)
  pub asked : (asked : List Asked) → HandAsked layout (Some hand) asked
  pub right : (table : ℕ) → right_held layout (Some hand) ≡ Some table → table ≡ (index_at layout index).table
  pub task_is : (table : ℕ) (blocks : List (List Slot)) (tx : TxState) (stored : List Status) (transaction : Option Open) (now : Task)
      → IsTaskOf layout table blocks tx stored transaction (Some hand) now → InItsTable (index_at layout index).table table (Here now) now
  pub is_task : (table : ℕ) (blocks : List (List Slot)) (tx : TxState) (stored : List Status) (transaction : Option Open) (now : Task)
      → InItsTable (index_at layout index).table table (Here now) now → IsTaskOf layout table blocks tx stored transaction (Some hand) now

-- what a step of its machine left of the store: pages of the index alone changed, and locks of them, and the table's summarise lock; and perhaps the requests
-- for summaries
pub record UpkeepLeft (old new : ShownStore) (n : ℕ) (was : Hand) (index : ℕ) : Type 0 where
  pub had : hand_in old.hands n ≡ Some was
  pub others : LeavesOthers n old new
  pub pages : (place : PagePlace) → place.relation ≢ index_relation old.layout index → page_at new.pages place ≡ page_at old.pages place
  pub locks : ChangesLocks n (index_at old.layout index).table old new
  pub rights : (other : ℕ) → other ≢ (index_at old.layout index).table → right_of new.rights other ≡ right_of old.rights other
  pub order : (i : ℕ) → i < length old.layout.schema.indexes → IsIndexInOrder old.layout.sizes.index_blocks (index_page old.layout old.pages i)
      → IsIndexInOrder old.layout.sizes.index_blocks (index_page old.layout new.pages i)
  pub transactions : new.transactions ≡ old.transactions
  pub entries : new.entries ≡ old.entries
  pub dropped : new.dropped ≡ old.dropped
  pub few : length old.entries ≤ MAX_ENTRIES

-- what the definition has in hand of it
pub upkeep_hand : (layout : DiskLayout) (hand : Hand) (index : ℕ) (Here : Task → Type 0) (account : Account) → IsUpkeep layout hand index Here account → (at : Option HandAt) (so_far : Account) → HandShows (Some hand) at so_far
    → (at ≡ Some (new_hand (statement_of hand))) × (so_far ≡ account)
upkeep_hand layout hand index Here account is at so_far (h, there, statement, answers, tells) = (
  there ∙ ap Some (λ j. record { statement = statement j; answers = is.answers h.answers answers j }),
  is.tells so_far tells,
)

-- so a hand stands there
pub upkeep_shows : (layout : DiskLayout) (hand : Hand) (index : ℕ) (Here : Task → Type 0) (account : Account) → IsUpkeep layout hand index Here account → (now : Option Hand) → now ≡ Some hand → (so_far : Account) → so_far ≡ account
    → HandShows now (Some (new_hand (statement_of hand))) so_far
upkeep_shows layout hand index Here account is now there so_far told =
    subst (λ (h : Option Hand). HandShows h (Some (new_hand (statement_of hand))) so_far) (sym there)
    (new_hand (statement_of hand), refl, refl, is.answered, subst (TellsSo hand) (sym told) is.told)

module _ (old : ShownStore) (n : ℕ) (was : Hand) (index : ℕ) (Here : Task → Type 0) (account : Account) (is : IsUpkeep old.layout was index Here account) (had : hand_in old.hands n ≡ Some was) (p : Place) (shown : IsPlaceOf old p) where
  abbrev pub table : ℕ
  table = (index_at old.layout index).table

  abbrev pub stored : List Status
  stored = shown.database.stored

  abbrev pub here : ShowsTable old stored table (p.tables table)
  here = shown.tables table is.below

  abbrev pub pages_show : ShownTable
  pages_show = shown_by old.layout old.pages old.locks table here.blocks

  abbrev pub unseen_here : Unseen
  unseen_here = here.unseen

  abbrev pub w : TableState
  w = table_state pages_show unseen_here

  pub at_task : Here (unseen_here.task n)
  at_task = (is.task_is table here.blocks old.transactions.tx stored (transaction_of old.transactions.opens n) (unseen_here.task n)
      (subst (λ (h : Option Hand). IsTaskOf old.layout table here.blocks old.transactions.tx stored (transaction_of old.transactions.opens n) h (unseen_here.task n)) had (here.tasks n))).0 refl

  pub kept_here : IsTableKept w
  kept_here = subst IsTableKept here.shown here.kept

  shown_hand : HandShows (Some was) (p.hands n) (p.accounts n)
  shown_hand = subst (λ (h : Option Hand). HandShows h (p.hands n) (p.accounts n)) had (shown.hands n)

  pub hand_is : p.hands n ≡ Some (new_hand (statement_of was))
  hand_is = (upkeep_hand old.layout was index Here account is (p.hands n) (p.accounts n) shown_hand).0

  pub told_is : p.accounts n ≡ account
  told_is = (upkeep_hand old.layout was index Here account is (p.hands n) (p.accounts n) shown_hand).1

-- ---- the table of its index, by the numbers that were read

-- what holds of one layout and index holds of the same
pub of_same : (F : DiskLayout → ℕ → Type 0) (layout other : DiskLayout) → other ≡ layout → (index i : ℕ) → i ≡ index → F other i → F layout index
of_same F layout other same index i is holds = subst (λ (l : DiskLayout). F l index) same (subst (λ (j : ℕ). F other j) is holds)

pub table_is : (layout other : DiskLayout) → other ≡ layout → (index i : ℕ) → i ≡ index → (number : ℕ) → number ≡ (index_at other i).table → number ≡ (index_at layout index).table
table_is layout other same index i is number there = of_same (λ (l : DiskLayout) (j : ℕ). number ≡ (index_at l j).table) layout other same index i is there

pub table_below : (layout other : DiskLayout) → other ≡ layout → (index i : ℕ) → i ≡ index → (it : ℕ) → it ≡ (index_at other i).table → it < length other.schema.tables → (index_at layout index).table < length layout.schema.tables
table_below layout other same index i is it number below = of_same (λ (l : DiskLayout) (j : ℕ). (index_at l j).table < length l.schema.tables) layout other same index i is
    (subst (λ (t : ℕ). t < length other.schema.tables) number below)
