-- the place that a store shows behind a step of a scan that is made
use Rattle.std.proofs.Common.{◌≡◌, ℕ, List, Option, Some, sym, ap, subst, ◌∙◌}
use Rattle.std.specs.FinMap as finite
use Rattle.block_model.specs.declared.request.Entry.{Entry}
use Rattle.block_model.specs.SerialRun.{IsLegal, serial_run}
use Rattle.page_layout.specs.PageContents.{Slot}
use Rattle.page_locks.specs.RightHolders.{right_of}
use Rattle.page_map.specs.PageMap.{PageMap, page_at}
use Rattle.recovery.specs.PageOrder.{IsIndexInOrder}
use Rattle.heap_rows.specs.HeapBlocks.{HasBlocks}
use Rattle.index_contents.specs.IndexContents.{index_page}
use Rattle.snapshot_core.specs.declared.statuses.Status.{Status}
use Rattle.snapshot_core.specs.declared.sessions.Open.{Open}
use Rattle.snapshot_core.specs.StoredVersions.{transaction_of}
use Rattle.transactions.specs.CountedRows.{counts as counts_of}
use Rattle.transactions.specs.ShowsDatabase.{ShowsDatabase}
use Rattle.transactions.specs.TransactionsState.{TransactionsState}
use Rattle.index_steps.specs.ShownRows.{shown_by}
use Rattle.coverage.specs.Accounts.{Account, no_account}
use Rattle.coverage.specs.Machines.{Unseen, table_state, task_turned}
use Rattle.coverage.specs.Table.{TableState, Task}
use Rattle.coverage.proofs.Views.{pick_other, pick_same}
use Rattle.bitmap_scan.specs.Finds.{FindHand}
use Rattle.script_semantics.specs.Place.{Hand as HandAt, Place, database_at}
use Rattle.session_parts.specs.HandsAsk.{IsNoInsert}
use Rattle.session_parts.specs.declared.hand.Hand.{Hand}
use Rattle.session_parts.specs.Hands.{HandShows}
use Rattle.session_parts.specs.HandsInTables.{IsTaskOf, table_in}
use Rattle.session_parts.specs.Leaving.{LeadsTo, LeavesOthers, SameLocks, StepsInTable}
use Rattle.session_parts.specs.PlacesAfter.{TurnsIn, place_after}
use Rattle.session_parts.specs.ShowsPlace.{IsOfTransaction, IsPlaceOf, ShowsTable}
use Rattle.session_parts.specs.StoreStates.{ShownStore, hand_in}
use Rattle.session_parts.proofs.Fronts.{fronts_same}
use Rattle.session_parts.proofs.Leads.{nothing_leaves_slots, same_counts_few}
use Rattle.session_parts.proofs.Places.{table_step_is_shown}
use Rattle.session_parts.proofs.Tables.{own_table_goes_on}
use Rattle.session_scans.specs.declared.looking.Looking.{Looking}
use Rattle.session_scans.specs.LookLaws.{LookLaws}
use Rattle.session_scans.specs.Looks.{statement_for}
use Rattle.session_scans.proofs.Standing.{LooksThere, shows, account_is}
use Rattle.session_scans.proofs.Words.{hand_is}

-- a step of the scan changed nothing but the journal, what the session has in hand, and perhaps its transaction
pub record ScanLeft (old new : ShownStore) (n : ℕ) (tx : TransactionsState) : Type 0 where
  pub others : LeavesOthers n old new
  pub pages : new.pages ≡ old.pages
  pub transactions : new.transactions ≡ tx
  pub locks : new.locks ≡ old.locks
  pub rights : new.rights ≡ old.rights
  pub queue : new.queue ≡ old.queue
  pub dropped : new.dropped ≡ old.dropped

-- what the session has in hand then, in its table
pub record IsInHand (old new : ShownStore) (n table : ℕ) (blocks : List (List Slot)) (stored : List Status) (next : Task) : Type 0 where
  pub is_in : (other : ℕ) → table_in old.layout (hand_in new.hands n) ≡ Some other → other ≡ table
  pub asks : IsNoInsert (hand_in new.hands n)
  pub task : IsTaskOf old.layout table blocks new.transactions.tx stored (transaction_of new.transactions.opens n) (hand_in new.hands n) next

-- the indexes' pages stay in their order
pub order_stays : (old new : ShownStore) → new.pages ≡ old.pages → (index : ℕ) → IsIndexInOrder old.layout.sizes.index_blocks (index_page old.layout old.pages index)
    → IsIndexInOrder old.layout.sizes.index_blocks (index_page old.layout new.pages index)
order_stays old new same index ordered = subst (λ (m : PageMap). IsIndexInOrder old.layout.sizes.index_blocks (index_page old.layout m index)) (sym same) ordered

-- nothing is entered
pub nothing_entered : (old new : ShownStore) (n : ℕ) (p : Place) → IsPlaceOf old p → ScanLeft old new n old.transactions → new.entries ≡ old.entries → (at : Option HandAt) (account : Account) → HandShows (hand_in new.hands n) at account
    → ((hand : Hand) → hand_in new.hands n ≡ Some hand → IsOfTransaction (transaction_of new.transactions.opens n) (finite.get (database_at p).sessions n) hand) → LeadsTo old new p n at account
nothing_entered old new n p shown left same at account hand own =
    let same_entries : new.entries ≡ p.journal = same ∙ sym shown.journal in
    record {
      database = subst (λ (e : List Entry). ShowsDatabase old.layout new.pages new.transactions (serial_run p.opening e)) (sym same_entries)
          (subst (λ (m : PageMap). ShowsDatabase old.layout m new.transactions (database_at p)) (sym left.pages)
          (subst (λ (t : TransactionsState). ShowsDatabase old.layout old.pages t (database_at p)) (sym left.transactions) shown.database));
      legal = subst (IsLegal p.opening) (sym same_entries) shown.legal;
      fronts = fronts_same old new p shown same left.transactions left.pages;
      copies = λ m apart. ap (λ (e : List Entry). finite.get (serial_run p.opening e).sessions m) same_entries;
      hand = hand;
      own = λ now is. subst (λ (e : List Entry). IsOfTransaction (transaction_of new.transactions.opens n) (finite.get (serial_run p.opening e).sessions n) now) (sym same_entries) (own now is);
      order = λ index below ordered. order_stays old new left.pages index ordered;
    }

-- it takes place in the table of its query alone
pub in_its_table : (old new : ShownStore) (n : ℕ) (looking : Looking) (before : FindHand) (o : Open) (tx : TransactionsState) → LooksThere old n looking before o → ScanLeft old new n tx
    → ((other : ℕ) → table_in old.layout (hand_in new.hands n) ≡ Some other → other ≡ before.judging.query.table) → StepsInTable n before.judging.query.table old new
in_its_table old new n looking before o tx there left is_in = record {
  below = there.find.judging.table;
  pages = λ place apart. ap (λ (m : PageMap). page_at m place) left.pages;
  locks = SameLocks left.locks;
  rights = λ other apart. ap (λ (r : List (Option ℕ)). right_of r other) left.rights;
  was_in = λ other is. (hand_is looking before before.judging.stage).in_table old.layout other (sym (ap (table_in old.layout) there.was) ∙ is);
  is_in = is_in;
}

module _ (laws : LookLaws) (old new : ShownStore) (n : ℕ) (looking : Looking) (before : FindHand) (o : Open) (there : LooksThere old n looking before o) (p : Place) (shown : IsPlaceOf old p) (left : ScanLeft old new n old.transactions)
    (next : Task) (at : Option HandAt) (account : Account) (in_hand : IsInHand old new n before.judging.query.table (shows laws old n looking before o there p shown).blocks shown.database.stored next) (leads : LeadsTo old new p n at account) where
  abbrev number : ℕ
  number = before.judging.query.table

  abbrev stored : List Status
  stored = shown.database.stored

  abbrev here : ShowsTable old stored number (p.tables number)
  here = shows laws old n looking before o there p shown

  abbrev u : Unseen
  u = task_turned n next here.unseen

  abbrev pub after : TableState
  after = table_state (shown_by old.layout old.pages old.locks number here.blocks) u

  module _ (turns : TurnsIn p n (statement_for looking before.judging.query) number after account) where
    own_table : ShowsTable new stored number after
    own_table = own_table_goes_on old new stored n number (p.tables number) after u here.blocks here left.others turns.step
        (λ i. table_state (shown_by old.layout (sym left.pages i) (sym left.locks i) number here.blocks) u)
        (subst (λ (m : PageMap). HasBlocks old.layout m number here.blocks) (sym left.pages) here.has)
        (here.lock ∙ ap (λ (r : List (Option ℕ)). right_of r number) (sym left.rights))
        (λ t. here.counts t ∙ ap (λ (x : TransactionsState). counts_of x stored t) (sym left.transactions))
        (λ m away. pick_other m n next (here.unseen.task m) away)
        (subst (λ (q : Task). IsTaskOf old.layout number here.blocks new.transactions.tx stored (transaction_of new.transactions.opens n) (hand_in new.hands n) q) (sym (pick_same n next (here.unseen.task n))) in_hand.task)
        (nothing_leaves_slots old stored n here.blocks)

    abbrev pub led : Place
    led = place_after p n number at after account (counts_of new.transactions stored) new.entries

    pub place_shown : account ≡ no_account → IsPlaceOf new led
    place_shown empty = table_step_is_shown old new p n number at after account shown left.others (in_its_table old new n looking before o old.transactions there left in_hand.is_in)
        (same_counts_few old new stored stored (λ t. ap (λ (x : TransactionsState). counts_of x stored t) left.transactions)) leads own_table
        (record { queue = left.queue; dropped = left.dropped; told = ap (λ (a : Account). a.dropped) (empty ∙ sym (account_is laws old n looking before o there p shown)); hand = in_hand.asks })
