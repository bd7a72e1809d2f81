-- which place a store shows behind a step
use Rattle.std.specs.Prelude.{◌≡◌, ℕ, Bool, List, Option, None}
use Rattle.block_model.specs.declared.request.Entry.{Entry}
use Rattle.block_model.specs.declared.place.Place.{Place as PagePlace}
use Rattle.page_layout.specs.PageContents.{Slot}
use Rattle.page_map.specs.PageMap.{page_at}
use Rattle.snapshot_core.specs.declared.statuses.Status.{Status}
use Rattle.snapshot_core.specs.StoredVersions.{transaction_of}
use Rattle.tx_table.specs.Statuses.{HasStatuses}
use Rattle.transactions.specs.CountedRows.{counts as counts_of}
use Rattle.coverage.specs.Accounts.{Account, Asked}
use Rattle.coverage.specs.Table.{TableState, Task}
use Rattle.script_semantics.specs.Place.{Hand as HandAt, Place}
use Rattle.script_semantics.specs.Turns.{Leads, TablesStay}
use Rattle.session_parts.specs.HandsAsk.{HandAsked}
use Rattle.session_parts.specs.HandsInTables.{IsTaskOf}
use Rattle.session_parts.specs.Leaving.{AsksForNone, CountsFew, HasAsked, LeadsTo, LeavesOthers, SeeAlike, StepsAtOnce, StepsInTable}
use Rattle.session_parts.specs.PlacesAfter.{place_after, place_asking, place_at_once}
use Rattle.session_parts.specs.ShowsPlace.{IsPlaceOf, ShowsTable}
use Rattle.session_parts.specs.StoreStates.{ShownStore, hand_in}

-- behind a step in one table
abbrev pub TableStepIsShown : Type 0
TableStepIsShown = (old new : ShownStore) (p : Place) (n table : ℕ) (at : Option HandAt) (v : TableState) (account : Account) → (shown : IsPlaceOf old p)
    → LeavesOthers n old new → StepsInTable n table old new → CountsFew old new shown.database.stored shown.database.stored
    → LeadsTo old new p n at account → ShowsTable new shown.database.stored table v → AsksForNone n old new p account
    → IsPlaceOf new (place_after p n table at v account (counts_of new.transactions shown.database.stored) new.entries)

-- behind one of an insert in its table, with these summaries that are asked for
abbrev pub AskingStepIsShown : Type 0
AskingStepIsShown = (old new : ShownStore) (p : Place) (n table : ℕ) (at : Option HandAt) (v : TableState) (account : Account) (queue : List Asked) → (shown : IsPlaceOf old p)
    → LeavesOthers n old new → StepsInTable n table old new → CountsFew old new shown.database.stored shown.database.stored
    → LeadsTo old new p n at account → ShowsTable new shown.database.stored table v → HasAsked n old new account queue
    → IsPlaceOf new (place_asking p n table at v account (counts_of new.transactions shown.database.stored) new.entries queue)

-- behind one in no table, with these statuses on the pages
abbrev pub StepAtOnceIsShown : Type 0
StepAtOnceIsShown = (old new : ShownStore) (p : Place) (n : ℕ) (later : List Status) → (shown : IsPlaceOf old p) → LeavesOthers n old new → StepsAtOnce n old new
    → HasStatuses old.layout new.pages later → SeeAlike n old new shown.database.stored later → CountsFew old new shown.database.stored later
    → hand_in new.hands n ≡ None → LeadsTo old new p n None (p.accounts n) → AsksForNone n old new p (p.accounts n)
    → IsPlaceOf new (place_at_once p n (counts_of new.transactions later) new.entries)

-- What a store has for its place is the same, but for how the session's statement is kept.
pub record StaysShown (n : ℕ) (old new : ShownStore) (p : Place) : Type 0 where
  pub others : LeavesOthers n old new
  pub pages : (place : PagePlace) → page_at new.pages place ≡ page_at old.pages place
  pub transactions : new.transactions ≡ old.transactions
  pub locks : new.locks ≡ old.locks
  pub rights : new.rights ≡ old.rights
  pub entries : new.entries ≡ old.entries
  pub queue : new.queue ≡ old.queue
  pub dropped : new.dropped ≡ old.dropped
  pub asked : HandAsked old.layout (hand_in new.hands n) (p.accounts n).dropped
  pub hand : LeadsTo old new p n (p.hands n) (p.accounts n)
  pub tasks : (table : ℕ) (stored : List Status) (blocks : List (List Slot)) (task : Task)
      → IsTaskOf old.layout table blocks old.transactions.tx stored (transaction_of old.transactions.opens n) (hand_in old.hands n) task
      → IsTaskOf old.layout table blocks old.transactions.tx stored (transaction_of old.transactions.opens n) (hand_in new.hands n) task

-- behind one that waits, and where nothing is done
abbrev pub PlaceStaysShown : Type 0
PlaceStaysShown = (old new : ShownStore) (p : Place) (n : ℕ) → IsPlaceOf old p → StaysShown n old new p → IsPlaceOf new p

-- ---- what these places are

abbrev pub TableAfter : Type 0
TableAfter = (p : Place) (n table : ℕ) (at : Option HandAt) (v : TableState) (account : Account) (counts : ℕ → Bool) (entries : List Entry)
    → (place_after p n table at v account counts entries).tables table ≡ v

abbrev pub AfterLeads : Type 0
AfterLeads = (p : Place) (n table : ℕ) (at : Option HandAt) (v : TableState) (account : Account) (counts : ℕ → Bool) (entries : List Entry)
    → Leads p n at entries (place_after p n table at v account counts entries)

pub record IsAtOnceAfter (p : Place) (n : ℕ) (q : Place) (entries : List Entry) : Type 0 where
  pub leads : Leads p n None entries q
  pub stay : TablesStay p q

abbrev pub AtOnceLeads : Type 0
AtOnceLeads = (p : Place) (n : ℕ) (counts : ℕ → Bool) (entries : List Entry) → IsAtOnceAfter p n (place_at_once p n counts entries) entries
