-- what a store of sessions is seen as
use Rattle.std.specs.Prelude.{ℕ, List, [], slice_index_or, slice_set, Option, None}
use Rattle.page_locks.specs.LockHolders.{LockState}
use Rattle.store_layout.specs.DiskLayout.{DiskLayout}
use Rattle.block_model.specs.declared.request.Entry.{Entry}
use Rattle.page_map.specs.PageMap.{PageMap, View}
use Rattle.reply_texts.specs.declared.dropped.Dropped.{Dropped}
use Rattle.transactions.specs.TransactionsState.{TransactionsState}
use Rattle.session_parts.specs.declared.hand.Hand.{Hand}
use Rattle.session_parts.specs.declared.parts.Parts.{Parts}
use Rattle.session_parts.specs.JournalState.{JournalState}

-- The pages with their disk; the transactions; who locks which page, and who holds which table's summarise lock; the journal; the requests for
-- summaries, each of an index, by its number among all, and a range; and the sessions by their numbers: what the latest insert of each asked for
-- in vain, their names, and what each has in hand.
pub record StoreState (D : Type 0) : Type 0 where
  pub pages : View D
  pub transactions : TransactionsState
  pub locks : LockState
  pub rights : List (Option ℕ)
  pub journal : JournalState
  pub queue : List (ℕ × ℕ)
  pub dropped : List (List Dropped)
  pub names : List (List ℕ)
  pub hands : List (Option Hand)

-- what of a store its place depends on: all but its disk, and what of the journal is promised
pub record ShownStore : Type 0 where
  pub layout : DiskLayout
  pub pages : PageMap
  pub transactions : TransactionsState
  pub locks : LockState
  pub rights : List (Option ℕ)
  pub entries : List Entry
  pub queue : List (ℕ × ℕ)
  pub dropped : List (List Dropped)
  pub names : List (List ℕ)
  pub hands : List (Option Hand)

abbrev pub shown_of : {D : Type 0} → StoreState D → ShownStore
shown_of s = record {
  layout = s.pages.layout;
  pages = s.pages.pages;
  transactions = s.transactions;
  locks = s.locks;
  rights = s.rights;
  entries = s.journal.entries;
  queue = s.queue;
  dropped = s.dropped;
  names = s.names;
  hands = s.hands;
}

-- the statement that session n has in hand
abbrev pub hand_in : List (Option Hand) → ℕ → Option Hand
hand_in hands n = slice_index_or hands n None

abbrev pub hand_at : {D : Type 0} → StoreState D → ℕ → Option Hand
hand_at s n = hand_in s.hands n

-- what the latest insert of session n asked for in vain
abbrev pub dropped_in : List (List Dropped) → ℕ → List Dropped
dropped_in lists n = slice_index_or lists n []

-- the store of these parts, whose sessions have these names and hands
abbrev pub store_of : {D : Type 0} → Parts D → List (List ℕ) → List (Option Hand) → StoreState D
store_of parts names hands = record {
  pages = parts.pages;
  transactions = parts.transactions;
  locks = parts.locks;
  rights = parts.rights;
  journal = parts.journal;
  queue = parts.queue;
  dropped = parts.dropped;
  names = names;
  hands = hands;
}

-- session n has this in hand, and the others what they had
abbrev pub with_hand : List (Option Hand) → ℕ → Option Hand → List (Option Hand)
with_hand hands n hand = slice_set hands n hand
