-- the place that a store shows behind a step of an explain
use Rattle.std.proofs.Common.{◌≡◌, ◌≢◌, ℕ, Bool, List, Option, None, Some, refl, sym, ap, subst, ◌∙◌}
use Rattle.std.specs.FinMap as finite
use Rattle.std.proofs.lemmas.Option.{none-some, same_Some}
use Rattle.block_model.specs.declared.request.Entry.{Entry}
use Rattle.block_model.specs.declared.row.Query.{Query}
use Rattle.block_model.specs.DatabaseState.{OpenTransaction}
use Rattle.block_model.specs.SerialRun.{IsLegal, serial_run}
use Rattle.page_layout.specs.PageContents.{Slot}
use Rattle.page_locks.specs.RightHolders.{right_of}
use Rattle.page_map.specs.PageMap.{PageMap, page_at}
use Rattle.recovery.specs.PageOrder.{IsIndexInOrder}
use Rattle.heap_rows.specs.HeapBlocks.{HasBlocks}
use Rattle.index_contents.specs.IndexContents.{index_page}
use Rattle.snapshot_core.specs.declared.statuses.Status.{Status}
use Rattle.store_layout.specs.declared.statement.Statement.TheVariants as statements
use Rattle.store_layout.specs.DiskLayout.{DiskLayout}
use Rattle.snapshot_core.specs.declared.sessions.Open.{Open}
use Rattle.snapshot_core.specs.StoredVersions.{transaction_of}
use Rattle.transactions.specs.CountedRows.{counts as counts_of}
use Rattle.transactions.specs.ShowsDatabase.{ShowsDatabase}
use Rattle.transactions.specs.TransactionsState.{TransactionsState}
use Rattle.index_steps.specs.ShownRows.{shown_by}
use Rattle.coverage.specs.Accounts.{Account, no_account}
use Rattle.coverage.specs.Machines.{Unseen, table_state, task_turned}
use Rattle.coverage.specs.Table.{Resting, Scans, TableState, Task}
use Rattle.coverage.proofs.Views.{pick_other, pick_same}
use Rattle.bitmap_scan.specs.declared.stage.Stage.{Stage}
use Rattle.bitmap_scan.specs.declared.stage.Stage.TheVariants as stages
use Rattle.bitmap_scan.specs.Explains.{ExplainHand, explaining}
use Rattle.bitmap_scan.specs.ScanHands.{ScanHand}
use Rattle.bitmap_scan.specs.TableScans.{Beside, table_scan, task_of}
use Rattle.script_semantics.specs.Place.{Hand as HandAt, Place, database_at, new_hand}
use Rattle.session_parts.specs.declared.hand.Hand.{Hand}
use Rattle.session_parts.specs.declared.hand.Hand.TheVariants as hands
use Rattle.session_parts.specs.Hands.{HandShows}
use Rattle.session_parts.specs.HandsAsk.{IsNoInsert}
use Rattle.session_parts.specs.HandsInTables.{IsTaskOf, table_in}
use Rattle.session_parts.specs.Leaving.{LeadsTo, LeavesOthers, SameLocks, StepsInTable}
use Rattle.session_parts.specs.PlacesAfter.{TurnsIn, place_after}
use Rattle.session_parts.specs.ShowsPlace.{IsLeftToMark, IsOfTransaction, IsPlaceOf, ShowsTable}
use Rattle.session_parts.specs.StoreStates.{ShownStore, hand_in}
use Rattle.session_parts.proofs.Fronts.{fronts_same}
use Rattle.session_parts.proofs.Leads.{nothing_leaves_slots, same_counts_few}
use Rattle.session_parts.proofs.Places.{table_step_is_shown}
use Rattle.session_parts.proofs.Tables.{own_table_goes_on}
use Rattle.session_maintenance.proofs.ExplainTurns.{ExplainsThere, shows, statement}

-- a step of the explain changed nothing but what the session has in hand
pub record ExplainLeft (old new : ShownStore) (n : ℕ) (before : ExplainHand) : Type 0 where
  pub there : ExplainsThere old n before
  pub others : LeavesOthers n old new
  pub pages : new.pages ≡ old.pages
  pub transactions : new.transactions ≡ old.transactions
  pub locks : new.locks ≡ old.locks
  pub rights : new.rights ≡ old.rights
  pub queue : new.queue ≡ old.queue
  pub dropped : new.dropped ≡ old.dropped
  pub entries : new.entries ≡ old.entries

-- what the session has in hand then: the explain, over its table, or nothing
pub record LeftInHand (old new : ShownStore) (n : ℕ) (before : ExplainHand) (next : Task) (at : Option HandAt) : Type 0 where
  pub is_in : (other : ℕ) → table_in old.layout (hand_in new.hands n) ≡ Some other → other ≡ before.judging.query.table
  pub shows : HandShows (hand_in new.hands n) at no_account
  pub asks : IsNoInsert (hand_in new.hands n)
  pub own : (transaction : Option Open) (copy : Option OpenTransaction) (hand : Hand) → hand_in new.hands n ≡ Some hand → IsOfTransaction transaction copy hand
  pub task : (blocks : List (List Slot)) (stored : List Status) → IsTaskOf old.layout before.judging.query.table blocks new.transactions.tx stored (transaction_of new.transactions.opens n) (hand_in new.hands n) next

module _ (old new : ShownStore) (n : ℕ) (before : ExplainHand) (left : ExplainLeft old new n before) (p : Place) (shown : IsPlaceOf old p) (next : Task) (at : Option HandAt)
    (in_hand : LeftInHand old new n before next at) (account : Account) (empty : account ≡ no_account) where
  abbrev number : ℕ
  number = before.judging.query.table

  abbrev stored : List Status
  stored = shown.database.stored

  abbrev here : ShowsTable old stored number (p.tables number)
  here = shows old n before left.there p shown

  abbrev u : Unseen
  u = task_turned n next here.unseen

  abbrev pub after : TableState
  after = table_state (shown_by old.layout old.pages old.locks number here.blocks) u

  same_entries : new.entries ≡ p.journal
  same_entries = left.entries ∙ sym shown.journal

  told_here : p.accounts n ≡ no_account
  told_here = (subst (λ (h : Option Hand). HandShows h (p.hands n) (p.accounts n)) left.there.was (shown.hands n)).4

  steps_in : StepsInTable n number old new
  steps_in = record {
    below = left.there.scan.table;
    pages = λ place apart. ap (λ (m : PageMap). page_at m place) left.pages;
    locks = SameLocks left.locks;
    rights = λ other apart. ap (λ (r : List (Option ℕ)). right_of r other) left.rights;
    was_in = λ other is. same_Some other number (sym is ∙ ap (table_in old.layout) left.there.was);
    is_in = in_hand.is_in;
  }

  leads : LeadsTo old new p n at account
  leads = record {
    database = subst (λ (e : List Entry). ShowsDatabase old.layout new.pages new.transactions (serial_run p.opening e)) (sym same_entries)
        (subst (λ (m : PageMap). ShowsDatabase old.layout m new.transactions (database_at p)) (sym left.pages)
        (subst (λ (t : TransactionsState). ShowsDatabase old.layout old.pages t (database_at p)) (sym left.transactions) shown.database));
    legal = subst (IsLegal p.opening) (sym same_entries) shown.legal;
    fronts = fronts_same old new p shown left.entries left.transactions left.pages;
    copies = λ m apart. ap (λ (e : List Entry). finite.get (serial_run p.opening e).sessions m) same_entries;
    hand = subst (λ (a : Account). HandShows (hand_in new.hands n) at a) (sym empty) in_hand.shows;
    own = λ hand is. in_hand.own (transaction_of new.transactions.opens n) (finite.get (serial_run p.opening new.entries).sessions n) hand is;
    order = λ index below ordered. subst (λ (m : PageMap). IsIndexInOrder old.layout.sizes.index_blocks (index_page old.layout m index)) (sym left.pages) ordered;
  }

  module _ (statement_at : TurnsIn p n (statement old n before left.there p shown) number after account) where
    own_table : ShowsTable new stored number after
    own_table = own_table_goes_on old new stored n number (p.tables number) after u here.blocks here left.others statement_at.step
        (λ i. table_state (shown_by old.layout (sym left.pages i) (sym left.locks i) number here.blocks) u)
        (subst (λ (m : PageMap). HasBlocks old.layout m number here.blocks) (sym left.pages) here.has)
        (here.lock ∙ ap (λ (r : List (Option ℕ)). right_of r number) (sym left.rights))
        (λ t. here.counts t ∙ ap (λ (x : TransactionsState). counts_of x stored t) (sym left.transactions))
        (λ m away. pick_other m n next (here.unseen.task m) away)
        (subst (λ (q : Task). IsTaskOf old.layout number here.blocks new.transactions.tx stored (transaction_of new.transactions.opens n) (hand_in new.hands n) q) (sym (pick_same n next (here.unseen.task n))) (in_hand.task here.blocks stored))
        (nothing_leaves_slots old stored n here.blocks)

    abbrev pub led : Place
    led = place_after p n number at after account (counts_of new.transactions stored) new.entries

    pub place_shown : IsPlaceOf new led
    place_shown = table_step_is_shown old new p n number at after account shown left.others steps_in
        (same_counts_few old new stored stored (λ t. ap (λ (x : TransactionsState). counts_of x stored t) left.transactions)) leads own_table
        (record { queue = left.queue; dropped = left.dropped; told = ap (λ (a : Account). a.dropped) (empty ∙ sym told_here); hand = in_hand.asks })

-- ---- what the session has in hand then

of_any_copy : (copy : Option OpenTransaction) (after : ExplainHand) → IsLeftToMark copy (hands.Explains after)
of_any_copy None after = tt
of_any_copy (Some x) after = tt

-- one that has begun scans
begun : (layout : DiskLayout) (stage : Stage) (hand : ScanHand) (beside : Beside) → stage ≢ stages.Extent → task_of layout stage hand beside ≡ Scans (table_scan layout hand beside)
begun layout stages.Extent hand beside apart = absurd (apart refl)
begun layout (stages.Map at range) hand beside apart = refl
begun layout (stages.Tuple at range spot) hand beside apart = refl
begun layout stages.Judged hand beside apart = refl

pub explain_in_hand : (old new : ShownStore) (n : ℕ) (before after : ExplainHand) (now : ℕ → ℕ → Option Bool) → after.judging.query ≡ before.judging.query → after.judging.stage ≢ stages.Extent
    → hand_in new.hands n ≡ Some (hands.Explains after)
    → LeftInHand old new n before (Scans (table_scan old.layout after.judging (explaining now))) (Some (new_hand (statements.Explain before.judging.query)))
explain_in_hand old new n before after now same apart is = record {
  is_in = λ other there. same_Some other before.judging.query.table (sym there ∙ ap (table_in old.layout) is ∙ ap (λ (q : Query). Some q.table) same);
  shows = subst (λ (h : Option Hand). HandShows h (Some (new_hand (statements.Explain before.judging.query))) no_account) (sym is)
      (new_hand (statements.Explain before.judging.query), refl, ap statements.Explain (sym same), refl, refl);
  asks = subst IsNoInsert (sym is) tt;
  own = λ transaction copy hand there. subst (λ (h : Hand). IsOfTransaction transaction copy h) (same_Some (hands.Explains after) hand (sym is ∙ there)) (of_any_copy copy after);
  task = λ blocks stored. subst (λ (h : Option Hand). IsTaskOf old.layout before.judging.query.table blocks new.transactions.tx stored (transaction_of new.transactions.opens n) h
      (Scans (table_scan old.layout after.judging (explaining now)))) (sym is) (
        (λ own. (now, sym (begun old.layout after.judging.stage after.judging (explaining now) apart))),
        (λ away. absurd (away (ap (λ (q : Query). q.table) same))),
      );
}

pub none_in_hand : (old new : ShownStore) (n : ℕ) (before : ExplainHand) → hand_in new.hands n ≡ None → LeftInHand old new n before Resting None
none_in_hand old new n before is = record {
  is_in = λ other there. absurd (none-some other (sym (ap (table_in old.layout) is) ∙ there));
  shows = subst (λ (h : Option Hand). HandShows h None no_account) (sym is) refl;
  asks = subst IsNoInsert (sym is) tt;
  own = λ transaction copy hand there. absurd (none-some hand (sym is ∙ there));
  task = λ blocks stored. subst (λ (h : Option Hand). IsTaskOf old.layout before.judging.query.table blocks new.transactions.tx stored (transaction_of new.transactions.opens n) h Resting) (sym is) refl;
}
