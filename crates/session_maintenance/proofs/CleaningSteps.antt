-- a step of a vacuum's cleaning, as a step of the place that the store shows
use Rattle.std.proofs.Common.{◌≡◌, ◌≢◌, ◌⊎◌, ⊎_elim, ℕ, ◌<◌, ◌≤◌, Bool, List, [], length, Option, None, Some, refl, sym, ap, subst, ◌∙◌, arith}
use Rattle.std.specs.FinMap as finite
use Rattle.std.proofs.lemmas.List.{append-nil}
use Rattle.std.proofs.lemmas.List.Elements.{All-nil}
use Rattle.std.proofs.lemmas.Option.{none-some, same_Some}
use Rattle.block_model.specs.declared.place.Spot.{Spot}
use Rattle.block_model.specs.declared.reply.Point.{Point}
use Rattle.block_model.specs.declared.reply.Reply.TheVariants as replies
use Rattle.block_model.specs.declared.request.Entry.{Entry}
use Rattle.block_model.specs.SerialRun.{IsLegal, serial_run}
use Rattle.store_layout.specs.DiskLayout.{DiskLayout}
use Rattle.page_layout.specs.PageContents.{Slot}
use Rattle.page_locks.specs.LockHolders.{LockState}
use Rattle.page_locks.specs.RightHolders.{right_of}
use Rattle.heap_rows.specs.HeapBlocks.{HasBlocks}
use Rattle.heap_rows.specs.Heaps.{relation_of as heap_of}
use Rattle.index_contents.specs.IndexContents.{relation_of as index_relation}
use Rattle.index_steps.specs.IndexTuples.{index_at}
use Rattle.index_steps.specs.ShownRows.{shown_by}
use Rattle.snapshot_core.specs.StoredVersions.{transaction_of}
use Rattle.snapshot_core.specs.declared.statuses.Status.{Status}
use Rattle.store_layout.specs.declared.limits.TheConstants.{MAX_ENTRIES}
use Rattle.store_layout.specs.declared.statement.Statement.{Statement}
use Rattle.store_layout.specs.declared.statement.Statement.TheVariants as statements
use Rattle.tx_table.specs.Statuses.{status_relation}
use Rattle.transactions.specs.CountedRows.{counts as counts_of}
use Rattle.transactions.specs.ShowsDatabase.{ShowsDatabase}
use Rattle.transactions.specs.TransactionsState.{TransactionsState}
use Rattle.coverage.specs.Accounts.{Account}
use Rattle.coverage.specs.InOneIndex.{DoesAt}
use Rattle.coverage.specs.Machines.{ShownTable, Unseen, table_state, task_turned}
use Rattle.coverage.specs.Table.{Resting, TableState, Task}
use Rattle.coverage.specs.TableSteps.{Settles}
use Rattle.coverage.proofs.Views.{pick_other, pick_same}
use Rattle.vacuum_core.specs.declared.standing.Standing.{Standing}
use Rattle.vacuum_core.specs.declared.standing.Standing.TheVariants as standings
use Rattle.vacuum_core.specs.TableSteps.{lock_turned, unnamed_turned}
use Rattle.vacuum_core.specs.Vacuums.{VacuumState}
use Rattle.script_semantics.specs.Beginnings.{Begins}
use Rattle.script_semantics.specs.Place.{Hand as HandAt, Place, database_at, new_hand}
use Rattle.script_semantics.specs.Requests.{NoneLeft}
use Rattle.script_semantics.specs.StatementSteps.{Ended, MakesAt, Moved, Steps, StepsTo, course_of}
use Rattle.script_semantics.specs.Turns.{PrunesTheDead}
use Rattle.session_parts.specs.RowsFollow.{RowsFollow}
use Rattle.session_parts.specs.FrontLaws.{IsWithin, OpensStay}
use Rattle.session_parts.specs.declared.hand.Cleaning.{Cleaning}
use Rattle.session_parts.specs.declared.hand.Hand.{Hand}
use Rattle.session_parts.specs.declared.hand.Hand.TheVariants as hands
use Rattle.session_parts.specs.Hands.{HandShows, cleaned_at}
use Rattle.session_parts.specs.HandsAsk.{IsNoInsert}
use Rattle.session_parts.specs.HandsInTables.{IsTaskOf, table_in}
use Rattle.session_parts.specs.Leaving.{IsRelationOf, LeadsTo, SameLocks, SeenSlotsStay, StaysWithin, StepsInTable}
use Rattle.session_parts.specs.PlacesAfter.{TurnsIn, place_after, point_in}
use Rattle.session_parts.specs.ShowsPlace.{IsOfTransaction, IsPlaceOf, ShowsTable}
use Rattle.session_parts.specs.StoreStates.{ShownStore, hand_in}
use Rattle.session_parts.proofs.Fronts.{fronts_within}
use Rattle.session_parts.proofs.Leads.{same_counts_few}
use Rattle.session_parts.proofs.Places.{table_step_is_shown}
use Rattle.session_parts.proofs.Steps.{machine_asks, takes_none, turn_goes_on, turn_replies}
use Rattle.session_parts.proofs.Tables.{own_table_is_pruned}
use Rattle.session_maintenance.proofs.CleaningAt.{CleaningLeft, IsVacuumHand, hand_is, here, told_is, u, w}

-- with this summarise lock, at this task, and with these tuples unnamed
abbrev pub turned : (n : ℕ) → Option ℕ → Task → (ℕ → Spot → Bool) → Unseen → Unseen
turned n held task unnamed v = lock_turned held (task_turned n task (unnamed_turned unnamed v))

-- What the machine's step did in its table, whose heap has these blocks then: the database of the journal is shown still, and the other sessions' statements see what
-- they saw.
pub record MadeHere (old new : ShownStore) (n : ℕ) (c : Cleaning) (had : hand_in old.hands n ≡ Some (hands.Cleans c)) (below : c.vacuum.table < length old.layout.schema.tables) (p : Place) (shown : IsPlaceOf old p) (point : Point) : Type 0 where
  pub now : List (List Slot)
  pub has : HasBlocks old.layout new.pages c.vacuum.table now
  pub database : ShowsDatabase old.layout new.pages old.transactions (database_at p)
  pub rows : RowsFollow old.layout old.pages new.pages old.transactions
  pub slots : SeenSlotsStay n old (u old n c had below p shown).task shown.database.stored (here old n c had below p shown).blocks now
  pub account : Account → Account
  pub between : Task
  pub after : Task
  pub held : Option ℕ
  pub unnamed : ℕ → Spot → Bool
  pub does : DoesAt n (w old n c had below p shown) (table_state (shown_by old.layout new.pages old.locks c.vacuum.table now) (turned n (Some n) between unnamed (u old n c had below p shown))) point account
  pub dead : PrunesTheDead p does.does
  pub settles : Settles n (table_state (shown_by old.layout new.pages old.locks c.vacuum.table now) (turned n (Some n) between unnamed (u old n c had below p shown)))
      (table_state (shown_by old.layout new.pages old.locks c.vacuum.table now) (turned n held after unnamed (u old n c had below p shown)))
  pub own : ((u old n c had below p shown).task n ≢ Resting) ⊎ Begins p n (w old n c had below p shown) (statements.Vacuum c.vacuum.table) between
  pub enters : MakesAt point p n (new_hand (statements.Vacuum c.vacuum.table)) (course_of p (new_hand (statements.Vacuum c.vacuum.table)))
  pub right : held ≡ right_of new.rights c.vacuum.table

-- the pages of statuses are of no table
pub no_statuses : (layout : DiskLayout) (table : ℕ) → IsRelationOf layout table status_relation → ⊥
no_statuses layout table is = ⊎_elim (λ (heap : status_relation ≡ heap_of table). absurd (omega (arith, heap)))
    (λ (of : (index : ℕ) × (index < length layout.schema.indexes) × ((index_at layout index).table ≡ table) × (status_relation ≡ index_relation layout index)). absurd (let same = of.3 in omega (arith, same))) is

module _ (old new : ShownStore) (n : ℕ) (c : Cleaning) (left : CleaningLeft old new n c) (p : Place) (shown : IsPlaceOf old p) (point : Point) (made : MadeHere old new n c left.had left.below p shown point) where
  abbrev table : ℕ
  table = c.vacuum.table

  abbrev statement : Statement
  statement = statements.Vacuum c.vacuum.table

  abbrev stored : List Status
  stored = shown.database.stored

  abbrev at_here : ShowsTable old stored table (p.tables table)
  at_here = here old n c left.had left.below p shown

  abbrev then_shown : ShownTable
  then_shown = shown_by old.layout new.pages old.locks table made.now

  abbrev unseen_then : Unseen
  unseen_then = turned n made.held made.after made.unnamed at_here.unseen

  abbrev within : TableState
  within = table_state then_shown (turned n (Some n) made.between made.unnamed at_here.unseen)

  abbrev v : TableState
  v = table_state then_shown unseen_then

  within_is : within.task n ≡ made.between
  within_is = pick_same n made.between (at_here.unseen.task n)

  v_is : v.task n ≡ made.after
  v_is = pick_same n made.after (at_here.unseen.task n)

  journal_is : new.entries ≡ p.journal
  journal_is = left.entries ∙ sym shown.journal

  -- ---- what it leads to

  stays_within : StaysWithin old new
  stays_within = record {
    statuses = λ block. left.pages (record { relation = status_relation; block = block }) (no_statuses old.layout table);
    first = ap (λ (t : TransactionsState). t.tx.first) left.transactions;
    opens = subst (OpensStay old.transactions) (sym left.transactions) (λ m o is. (o, is, refl, refl));
    rows = made.rows;
  }

  leads_so : (at : Option HandAt) (account : Account) → HandShows (hand_in new.hands n) at account
      → ((hand : Hand) → hand_in new.hands n ≡ Some hand → IsOfTransaction (transaction_of new.transactions.opens n) (finite.get (serial_run p.opening new.entries).sessions n) hand) → LeadsTo old new p n at account
  leads_so at account hand own = record {
    database = subst (λ (t : TransactionsState). ShowsDatabase old.layout new.pages t (serial_run p.opening new.entries)) (sym left.transactions)
        (subst (λ (l : List Entry). ShowsDatabase old.layout new.pages old.transactions (serial_run p.opening l)) (sym journal_is) made.database);
    legal = subst (IsLegal p.opening) (sym journal_is) shown.legal;
    fronts = fronts_within old new p shown [] (left.entries ∙ sym (append-nil old.entries)) (All-nil (λ (e : Entry). IsWithin e.request)) stays_within;
    copies = λ m apart. ap (λ (l : List Entry). finite.get (serial_run p.opening l).sessions m) journal_is;
    hand = hand;
    own = own;
    order = left.order;
  }

  steps_in : ((other : ℕ) → table_in old.layout (hand_in new.hands n) ≡ Some other → other ≡ table) → StepsInTable n table old new
  steps_in then = record {
    below = left.below;
    pages = left.pages;
    locks = SameLocks left.locks;
    rights = left.rights;
    was_in = λ other there. same_Some other table (sym there ∙ ap (table_in old.layout) left.had);
    is_in = then;
  }

  counts_same : (t : ℕ) → counts_of new.transactions stored t ≡ counts_of old.transactions stored t
  counts_same t = ap (λ (s : TransactionsState). counts_of s stored t) left.transactions

  fits : length new.entries ≤ MAX_ENTRIES
  fits = subst (λ (l : List Entry). length l ≤ MAX_ENTRIES) (sym left.entries) left.few

  -- ---- the turn

  abbrev account_then : Account
  account_then = made.account (p.accounts n)

  turns : (turns : TurnsIn p n statement table v account_then) × (point_in turns ≡ Some point) × (turns.step.between ≡ within)
  turns = machine_asks p n table statement (w old n c left.had left.below p shown) within v point account_then p.queue at_here.shown
      (takes_none statement ((w old n c left.had left.below p shown).task n) p.queue p.queue (omega arith) (λ is. cc)) refl made.does.does made.does.point_is (λ b has. made.does.adds _ b has) made.dead made.settles own
    where
      own : ((w old n c left.had left.below p shown).task n ≢ Resting) ⊎ Begins p n (w old n c left.had left.below p shown) statement (within.task n)
      own = subst (λ (t : Task). ((w old n c left.had left.below p shown).task n ≢ Resting) ⊎ Begins p n (w old n c left.had left.below p shown) statement t) (sym within_is) made.own

  table_then : IsTaskOf old.layout table made.now new.transactions.tx stored (transaction_of new.transactions.opens n) (hand_in new.hands n) made.after → ShowsTable new stored table v
  table_then is_at = own_table_is_pruned old new stored n table (p.tables table) v unseen_then made.now at_here left.others turns.0.step
      (ap (λ (l : LockState). table_state (shown_by old.layout new.pages l table made.now) unseen_then) (sym left.locks)) made.has made.right
      (λ t. at_here.counts t ∙ sym (counts_same t)) (λ m other. pick_other m n made.after (at_here.unseen.task m) other)
      (subst (λ (t : Task). IsTaskOf old.layout table made.now new.transactions.tx stored (transaction_of new.transactions.opens n) (hand_in new.hands n) t) (sym v_is) is_at) made.slots

  -- behind it the store shows this place, whatever the session has in hand
  behind : (at : Option HandAt) → HandShows (hand_in new.hands n) at account_then
      → ((hand : Hand) → hand_in new.hands n ≡ Some hand → IsOfTransaction (transaction_of new.transactions.opens n) (finite.get (serial_run p.opening new.entries).sessions n) hand)
      → ((other : ℕ) → table_in old.layout (hand_in new.hands n) ≡ Some other → other ≡ table) → ShowsTable new stored table v
      → account_then.dropped ≡ (p.accounts n).dropped → IsNoInsert (hand_in new.hands n)
      → IsPlaceOf new (place_after p n table at v account_then (counts_of new.transactions stored) new.entries)
  behind at hand own there shows told asks = table_step_is_shown old new p n table at v account_then shown left.others (steps_in there) (same_counts_few old new stored stored counts_same)
      (leads_so at account_then hand own) shows (record { queue = left.queue; dropped = left.dropped; told = told; hand = asks })

  -- it asks for no summary
  cleaned_asks_none : (a : VacuumState) (standing : Standing) → (cleaned_at a standing).dropped ≡ []
  cleaned_asks_none a standings.Begins = refl
  cleaned_asks_none a (standings.Prunes block) = refl
  cleaned_asks_none a (standings.Sweeps at block) = refl
  cleaned_asks_none a standings.Done = refl

  none_asked : (account : Account) → account_then ≡ account → account.dropped ≡ [] → account_then.dropped ≡ (p.accounts n).dropped
  none_asked account is none = ap (λ (a : Account). a.dropped) is ∙ none ∙ sym (ap (λ (a : Account). a.dropped) (told_is old n c left.had left.below p shown) ∙ cleaned_asks_none c.vacuum c.vacuum.standing)

  -- it goes on
  module _ (next : Hand) (account : Account) (is : IsVacuumHand old.layout table next made.after account) (now : hand_in new.hands n ≡ Some next) (busy : made.after ≢ Resting)
      (counts_on : account_then ≡ account) (asks_none : account.dropped ≡ []) where
    next_shows : HandShows (hand_in new.hands n) (Some (new_hand statement)) account_then
    next_shows = subst (λ (h : Option Hand). HandShows h (Some (new_hand statement)) account_then) (sym now)
        (subst (HandShows (Some next) (Some (new_hand statement))) (sym counts_on) (new_hand statement, refl, sym is.statement, is.answered, is.told))

    next_at : IsTaskOf old.layout table made.now new.transactions.tx stored (transaction_of new.transactions.opens n) (hand_in new.hands n) made.after
    next_at = subst (λ (h : Option Hand). IsTaskOf old.layout table made.now new.transactions.tx stored (transaction_of new.transactions.opens n) h made.after) (sym now)
        (is.at made.now new.transactions.tx stored (transaction_of new.transactions.opens n))

    own_then : (h : Hand) → hand_in new.hands n ≡ Some h → IsOfTransaction (transaction_of new.transactions.opens n) (finite.get (serial_run p.opening new.entries).sessions n) h
    own_then h there = subst (λ (x : Hand). IsOfTransaction (transaction_of new.transactions.opens n) (finite.get (serial_run p.opening new.entries).sessions n) x) (same_Some next h (sym now ∙ there))
        (is.own (transaction_of new.transactions.opens n) (finite.get (serial_run p.opening new.entries).sessions n))

    pub goes_on : (q : Place) × IsPlaceOf new q × Steps p n (Moved point) q
    goes_on = (
      place_after p n table (Some (new_hand statement)) v account_then (counts_of new.transactions stored) new.entries,
      behind (Some (new_hand statement)) next_shows own_then (λ other there. same_Some other table (sym there ∙ ap (table_in old.layout) now ∙ is.in_table)) (table_then next_at)
          (none_asked account counts_on asks_none) (subst IsNoInsert (sym now) is.no_insert),
      record {
        hand = new_hand statement;
        in_hand = hand_is old n c left.had left.below p shown;
        steps = subst (λ (l : List Entry). StepsTo p n (new_hand statement) (Moved point) (place_after p n table (Some (new_hand statement)) v account_then (counts_of new.transactions stored) l)) (sym journal_is)
            (turn_goes_on p n table (new_hand statement) v account_then (counts_of new.transactions stored) point (course_of p (new_hand statement)) turns.0 turns.1 (λ rests. busy (sym v_is ∙ rests)) made.enters);
        fits = fits;
      },
    )

  -- it replies
  module _ (now : hand_in new.hands n ≡ None) (rests : made.after ≡ Resting) (account : Account) (counts_on : account_then ≡ account) (asks_none : account.dropped ≡ []) where
    pub is_done : (q : Place) × IsPlaceOf new q × Steps p n (Ended (replies.Vacuumed account.rows account.unnamed account.ranges)) q
    is_done = (
      place_after p n table None v account_then (counts_of new.transactions stored) new.entries,
      behind None
          (subst (λ (h : Option Hand). HandShows h None account_then) (sym now) refl)
          (λ h there. absurd (none-some h (sym now ∙ there)))
          (λ other there. absurd (none-some other (ap (table_in old.layout) (sym now) ∙ there)))
          (table_then (subst (λ (h : Option Hand). IsTaskOf old.layout table made.now new.transactions.tx stored (transaction_of new.transactions.opens n) h made.after) (sym now) rests))
          (none_asked account counts_on asks_none) (subst IsNoInsert (sym now) tt),
      record {
        hand = new_hand statement;
        in_hand = hand_is old n c left.had left.below p shown;
        steps = subst (λ (l : List Entry). StepsTo p n (new_hand statement) (Ended (replies.Vacuumed account.rows account.unnamed account.ranges)) (place_after p n table None v account_then (counts_of new.transactions stored) l)) (sym journal_is)
            (turn_replies p n table (new_hand statement) v account_then (counts_of new.transactions stored) point (course_of p (new_hand statement)) (replies.Vacuumed account.rows account.unnamed account.ranges) turns.0 turns.1 (v_is ∙ rests)
            (NoneLeft (course_of p (new_hand statement)) refl) (ap (λ (a : Account). Some (replies.Vacuumed a.rows a.unnamed a.ranges)) (sym counts_on)));
        fits = fits;
      },
    )
