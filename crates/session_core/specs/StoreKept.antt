-- what holds of every store
use Rattle.std.specs.Prelude.{◌≡◌, ◌≢◌, ℕ, ◌≤◌, ◌<◌, List, length, None, Some}
use Rattle.disk_trait.specs.Told.{Told}
use Rattle.store_layout.specs.declared.limits.TheConstants.{MAX_SESSIONS}
use Rattle.page_locks.specs.LockCounts.{locks_of}
use Rattle.page_locks.specs.RightHolders.{right_of}
use Rattle.page_map.specs.Keeps.{Tells}
use Rattle.snapshot_core.specs.StoredVersions.{transaction_of}
use Rattle.script_semantics.specs.Place.{Place}
use Rattle.session_parts.specs.HandFits.{FitsStore}
use Rattle.session_parts.specs.ShareLaws.{shares_below}
use Rattle.session_parts.specs.ShowsPlace.{ShowsPlace}
use Rattle.session_parts.specs.StoreStates.{StoreState}
use Rattle.session_core.specs.declared.slots.Slot.{Slot}
use Rattle.session_core.specs.SessionLists.{slot_in}
use Rattle.session_core.specs.Slots.{IsKeptSlot}

-- a session of that number has no transaction, and holds no page lock and no summarise lock
pub record HoldsNothing {D : Type 0} (s : StoreState D) (n : ℕ) : Type 0 where
  pub transaction : transaction_of s.transactions.opens n ≡ None
  pub locks : locks_of s.locks n ≡ 0
  pub rights : (table : ℕ) → right_of s.rights table ≢ Some n

-- Each session has a name, a hand, and a slot for what is in it. Each number that a session may have is fit for its next step; one that no session
-- has yet holds nothing. The journal promises what they are promised together. Where the disk tells its contents and no disk fault was kept, the store shows a place
-- of the definition of texts.
pub record IsStoreKept {D : Type 0} (told : D → Told) (s : StoreState D) (slots : List Slot) : Type 0 where
  pub few_sessions : length s.names ≤ MAX_SESSIONS
  pub a_hand_each : length s.hands ≡ length s.names
  pub a_slot_each : length slots ≡ length s.names
  pub fits : (n : ℕ) → n < MAX_SESSIONS → FitsStore told s n
  pub nobody : (n : ℕ) → length s.names ≤ n → HoldsNothing s n
  pub promised : s.journal.promised ≡ shares_below MAX_SESSIONS s.hands s.transactions.opens
  pub slot : (n : ℕ) → IsKeptSlot s.pages.layout (slot_in slots n)
  pub shown : Tells told s.pages → s.pages.failed ≡ None → (p : Place) × ShowsPlace s p
