-- a maintenance statement in hand, in a place that the store shows
use Rattle.std.proofs.Common.{IsTrue, List, None, Option, Some, [], ap, length, refl, subst, sym, ℕ, ◌<◌, ◌∙◌, ◌≡◌}
use Rattle.block_model.specs.DatabaseState.{OpenTransaction}
use Rattle.block_model.specs.RequestEffect.{Answer}
use Rattle.coverage.specs.Accounts.{Account, Asked}
use Rattle.coverage.specs.Machines.{ShownTable, Unseen, table_state}
use Rattle.coverage.specs.Table.{TableState, Task}
use Rattle.coverage.specs.TableCovered.{IsTableKept}
use Rattle.index_steps.specs.ShownRows.{shown_by}
use Rattle.page_layout.specs.PageContents.{Slot}
use Rattle.script_semantics.specs.Beginnings.{takes_lock}
use Rattle.script_semantics.specs.Place.{Place, new_hand}
use Rattle.script_semantics.specs.Requests.{next_request}
use Rattle.session_maintenance.specs.MaintenanceSteps.{MachineView}
use Rattle.session_parts.specs.HandFits.{right_held}
use Rattle.session_parts.specs.Hands.{AnswersAre, HandShows, TellsSo, statement_of}
use Rattle.session_parts.specs.HandsAsk.{HandAsked, IsNoInsert}
use Rattle.session_parts.specs.HandsInTables.{InItsTable, IsTaskOf, table_in}
use Rattle.session_parts.specs.Shares.{hand_share}
use Rattle.session_parts.specs.ShowsPlace.{IsLeftToMark, IsOfTransaction, IsPlaceOf, ShowsTable}
use Rattle.session_parts.specs.StoreStates.{ShownStore, hand_in}
use Rattle.session_parts.specs.declared.hand.Hand.{Hand}
use Rattle.snapshot_core.specs.StoredVersions.{transaction_of}
use Rattle.snapshot_core.specs.declared.sessions.Open.{Open}
use Rattle.snapshot_core.specs.declared.statuses.Status.{Status}
use Rattle.store_layout.specs.DiskLayout.{DiskLayout}
use Rattle.store_layout.specs.declared.statement.Statement.{Statement}
use Rattle.tx_table.specs.TxState.{TxState}
use Rattle.session_parts.specs.declared.hand.Hand.TheVariants as hands
use Rattle.vacuum_core.specs.declared.standing.Standing.TheVariants as cleanings
use Rattle.vacuum_core.specs.declared.standing.Standing.{Standing as CleaningStanding}
use Rattle.session_parts.specs.Hands.{cleaned_at}
use Rattle.vacuum_core.specs.Vacuums.{VacuumState}

-- A maintenance statement, whatever it is at: it makes no request, asks for no summary, and needs the summarise lock.
pub record IsPlainHand (hand : Hand) : Type 0 where
  pub lock : IsTrue (takes_lock (statement_of hand))
  pub asks : (n : ℕ) (answers : List Answer) → next_request n (statement_of hand) answers ≡ None
  pub answers : (answers : List Answer) → AnswersAre hand answers → answers ≡ []
  pub answered : AnswersAre hand []
  pub own : (transaction : Option Open) (copy : Option OpenTransaction) → IsOfTransaction transaction copy hand
  pub no_insert : IsNoInsert (Some hand)
  pub asked : (layout : DiskLayout) (asked : List Asked) → HandAsked layout (Some hand) asked
  pub share : hand_share (Some hand) ≡ 0
  pub none : (so_far : Account) → TellsSo hand so_far → so_far.dropped ≡ []

abbrev pub IsUpkeepHand : Hand → Type 0
IsUpkeepHand (hands.Summarises a) = Unit {0}
IsUpkeepHand (hands.Desummarises a) = Unit {0}
IsUpkeepHand (hands.Cleans c) = Unit {0}
IsUpkeepHand (hands.Completes c) = Unit {0}
IsUpkeepHand hands.Working = Unit {0}
IsUpkeepHand (hands.Works r) = Unit {0}
IsUpkeepHand hand = ⊥

marks_none : (copy : Option OpenTransaction) (hand : Hand) → IsUpkeepHand hand → IsLeftToMark copy hand
marks_none None hand is = tt
marks_none (Some x) (hands.Summarises a) is = tt
marks_none (Some x) (hands.Desummarises a) is = tt
marks_none (Some x) (hands.Cleans c) is = tt
marks_none (Some x) (hands.Completes c) is = tt
marks_none (Some x) hands.Working is = tt
marks_none (Some x) (hands.Works r) is = tt
marks_none (Some x) hand is = absurd is

cleaned_asks_none : (a : VacuumState) (standing : CleaningStanding) → (cleaned_at a standing).dropped ≡ []
cleaned_asks_none a cleanings.Begins = refl
cleaned_asks_none a (cleanings.Prunes block) = refl
cleaned_asks_none a (cleanings.Sweeps at block) = refl
cleaned_asks_none a cleanings.Done = refl

pub plain_hand : (hand : Hand) → IsUpkeepHand hand → IsPlainHand hand
plain_hand (hands.Summarises a) is = record { lock = refl; asks = λ n l. refl; answers = λ l none. none; answered = refl; own = λ o copy. marks_none copy (hands.Summarises a) tt; no_insert = tt; asked = λ l asked. tt; share = refl; none = λ x told. ap (λ (x : Account). x.dropped) told }
plain_hand (hands.Desummarises a) is = record { lock = refl; asks = λ n l. refl; answers = λ l none. none; answered = refl; own = λ o copy. marks_none copy (hands.Desummarises a) tt; no_insert = tt; asked = λ l asked. tt; share = refl; none = λ x told. ap (λ (x : Account). x.dropped) told }
plain_hand (hands.Cleans c) is = record { lock = refl; asks = λ n l. refl; answers = λ l none. none; answered = refl; own = λ o copy. marks_none copy (hands.Cleans c) tt; no_insert = tt; asked = λ l asked. tt; share = refl; none = λ x told. ap (λ (x : Account). x.dropped) told ∙ cleaned_asks_none c.vacuum c.vacuum.standing }
plain_hand (hands.Completes c) is = record { lock = refl; asks = λ n l. refl; answers = λ l none. none; answered = refl; own = λ o copy. marks_none copy (hands.Completes c) tt; no_insert = tt; asked = λ l asked. tt; share = refl; none = λ x told. ap (λ (x : Account). x.dropped) told }
plain_hand hands.Working is = record { lock = refl; asks = λ n l. refl; answers = λ l none. none; answered = refl; own = λ o copy. marks_none copy hands.Working tt; no_insert = tt; asked = λ l asked. tt; share = refl; none = λ x told. ap (λ (x : Account). x.dropped) told }
plain_hand (hands.Works r) is = record { lock = refl; asks = λ n l. refl; answers = λ l none. none; answered = refl; own = λ o copy. marks_none copy (hands.Works r) tt; no_insert = tt; asked = λ l asked. tt; share = refl; none = λ x told. ap (λ (x : Account). x.dropped) told }
plain_hand hand is = absurd is

-- It is the one of this table's that is seen so: in no other table, at its task there, and with that to tell.
pub record IsSeenSo (layout : DiskLayout) (table : ℕ) (hand : Hand) (view : MachineView) : Type 0 where
  pub below : table < length layout.schema.tables
  pub in_table : (other : ℕ) → table_in layout (Some hand) ≡ Some other → other ≡ table
  pub right : (other : ℕ) → right_held layout (Some hand) ≡ Some other → other ≡ table
  pub task_is : (number : ℕ) (blocks : List (List Slot)) (tx : TxState) (stored : List Status) (transaction : Option Open) (now : Task)
      → IsTaskOf layout number blocks tx stored transaction (Some hand) now → InItsTable table number (now ≡ view.task) now
  pub is_task : (number : ℕ) (blocks : List (List Slot)) (tx : TxState) (stored : List Status) (transaction : Option Open) (now : Task)
      → InItsTable table number (now ≡ view.task) now → IsTaskOf layout number blocks tx stored transaction (Some hand) now
  pub tells : (so_far : Account) → TellsSo hand so_far → view.tells so_far

-- its session is where its machine finds it
pub record StandsIn (old : ShownStore) (n : ℕ) (was : Hand) (table : ℕ) : Type 0 where
  pub had : hand_in old.hands n ≡ Some was
  pub below : table < length old.layout.schema.tables
  pub place : Place
  pub shown : IsPlaceOf old place

module _ (old : ShownStore) (n : ℕ) (was : Hand) (table : ℕ) (s : StandsIn old n was table) where
  abbrev pub stored : List Status
  stored = s.shown.database.stored

  abbrev pub here : ShowsTable old s.shown.database.stored table (s.place.tables table)
  here = s.shown.tables table s.below

  abbrev pub unseen : Unseen
  unseen = here.unseen

  abbrev pub pages_show : ShownTable
  pages_show = shown_by old.layout old.pages old.locks table here.blocks

  abbrev pub w : TableState
  w = table_state pages_show unseen

  pub kept_here : IsTableKept w
  kept_here = subst IsTableKept here.shown here.kept

  hand_shown : HandShows (Some was) (s.place.hands n) (s.place.accounts n)
  hand_shown = subst (λ (h : Option Hand). HandShows h (s.place.hands n) (s.place.accounts n)) s.had (s.shown.hands n)

  pub told_here : TellsSo was (s.place.accounts n)
  told_here = hand_shown.4

  pub hand_is : IsPlainHand was → s.place.hands n ≡ Some (new_hand (statement_of was))
  hand_is plain = hand_shown.1 ∙ ap Some (λ j. record { statement = hand_shown.2 j; answers = plain.answers hand_shown.0.answers hand_shown.3 j })

  pub at_task : (view : MachineView) → IsSeenSo old.layout table was view → unseen.task n ≡ view.task
  at_task view is = (is.task_is table here.blocks old.transactions.tx stored (transaction_of old.transactions.opens n) (unseen.task n)
      (subst (λ (h : Option Hand). IsTaskOf old.layout table here.blocks old.transactions.tx stored (transaction_of old.transactions.opens n) h (unseen.task n)) s.had (here.tasks n))).0 refl

-- so a hand stands there
pub hand_shows : (now : Option Hand) (hand : Hand) → IsPlainHand hand → now ≡ Some hand → (statement : Statement) → statement_of hand ≡ statement → (so_far : Account) → TellsSo hand so_far → HandShows now (Some (new_hand statement)) so_far
hand_shows now hand plain there statement same so_far told =
    subst (λ (h : Option Hand). HandShows h (Some (new_hand statement)) so_far) (sym there) (new_hand statement, refl, sym same, plain.answered, told)
