-- a step of a maintenance machine, as a step of the place that the store shows
use Rattle.std.proofs.Common.{Bool, IsTrue, List, None, Option, Some, [], ap, arith, inl, inr, length, refl, subst, sym, ℕ, ⊎_elim, ◌<◌, ◌↔◌, ◌∙◌, ◌≡◌, ◌≢◌, ◌≤◌, ◌⊎◌}
use Rattle.block_model.specs.declared.place.Place.{Place as PagePlace}
use Rattle.block_model.specs.declared.place.Spot.{Spot}
use Rattle.block_model.specs.declared.reply.Point.{Point}
use Rattle.block_model.specs.declared.reply.Reply.{Reply}
use Rattle.block_model.specs.declared.request.Entry.{Entry}
use Rattle.block_model.specs.declared.row.Row.{Row}
use Rattle.brin_insert.specs.AskedFor.{AreRequestsOf}
use Rattle.coverage.proofs.Views.{pick_other, pick_same}
use Rattle.coverage.specs.Accounts.{Account, AccountIs, Accounts, Adds, Asked}
use Rattle.coverage.specs.Machines.{ShownTable, Unseen, table_state, task_turned}
use Rattle.coverage.specs.Table.{Prunes, Resting, TableState, Task}
use Rattle.coverage.specs.TableCovered.{IsMaintenance}
use Rattle.coverage.specs.TablePoints.{IsHeldBy, WaitedFor, does_point}
use Rattle.coverage.specs.TableSteps.{Does, Settles}
use Rattle.heap_rows.specs.HeapBlocks.{HasBlocks}
use Rattle.heap_rows.specs.Heaps.{relation_of as heap_of}
use Rattle.index_contents.specs.IndexContents.{index_page, relation_of as index_relation}
use Rattle.index_steps.specs.IndexTuples.{index_at}
use Rattle.index_steps.specs.ShownRows.{rows_in, shown_by}
use Rattle.page_layout.specs.PageContents.{Slot}
use Rattle.page_locks.specs.RightHolders.{right_of}
use Rattle.page_map.specs.PageMap.{PageMap, block_at, page_at}
use Rattle.recovery.specs.PageOrder.{IsIndexInOrder}
use Rattle.reply_texts.specs.declared.dropped.Dropped.{Dropped}
use Rattle.script_semantics.specs.Beginnings.{Begins, IsIn, TakesUp}
use Rattle.script_semantics.specs.DeadRows.{IsDead}
use Rattle.script_semantics.specs.Names.{dropped_of, name_of}
use Rattle.script_semantics.specs.Place.{Hand as HandAt, Place, accounts_at, database_at, new_hand}
use Rattle.script_semantics.specs.Turns.{PrunesTheDead}
use Rattle.session_maintenance.proofs.GoneRows.{does_dead}
use Rattle.session_maintenance.proofs.MachineHands.{IsPlainHand, IsSeenSo, StandsIn, at_task, hand_is, hand_shows, here, kept_here, pages_show, told_here, unseen, w}
use Rattle.session_maintenance.proofs.MachinePoints.{IsPlain, plain_enters, plain_point}
use Rattle.session_maintenance.specs.MaintenanceSteps.{IsFirstWithin, IsSpared, MachineGoes, MachineView, MachineWaitsFor, has_gone, lock_turned, unnamed_turned}
use Rattle.session_parts.proofs.Following.{same_heaps_follow}
use Rattle.session_parts.proofs.Fronts.{fronts_within}
use Rattle.session_parts.specs.FrontLaws.{IsWithin, OpensStay}
use Rattle.session_parts.specs.Hands.{HandShows, TellsSo, statement_of}
use Rattle.session_parts.specs.HandsAsk.{HandAsked, IsNoInsert}
use Rattle.session_parts.specs.HandsInTables.{IsTaskOf, table_in}
use Rattle.session_parts.specs.Leaving.{ChangesLocks, IsRelationOf, LeadsTo, LeavesOthers, SeenSlotsStay}
use Rattle.session_parts.specs.PlacesAfter.{TurnsAsking, place_asking, point_in}
use Rattle.session_parts.specs.RowsFollow.{RowsFollow}
use Rattle.session_parts.specs.ShowsPlace.{IsOfTransaction, IsPlaceOf, ShowsTable}
use Rattle.session_parts.specs.StoreStates.{ShownStore, dropped_in, hand_in}
use Rattle.session_parts.specs.declared.hand.Hand.{Hand}
use Rattle.snapshot_core.specs.StoredVersions.{transaction_of}
use Rattle.std.proofs.lemmas.List.{append-nil}
use Rattle.std.proofs.lemmas.List.Elements.{All-nil}
use Rattle.std.proofs.lemmas.Option.{none-some, same_Some}
use Rattle.store_layout.specs.DiskLayout.{DiskLayout}
use Rattle.store_layout.specs.declared.limits.TheConstants.{MAX_ENTRIES}
use Rattle.store_layout.specs.declared.statement.Statement.{Statement}
use Rattle.transactions.specs.CountedRows.{counts as counts_of}
use Rattle.transactions.specs.ShowsDatabase.{ShowsDatabase}
use Rattle.transactions.specs.TransactionsState.{TransactionsState}
use Rattle.tx_table.specs.Statuses.{status_relation}
use Rattle.block_model.specs.declared.reply.Refusal.TheVariants as refusals
use Rattle.std.specs.FinMap as finite
use Rattle.session_parts.proofs.Steps.{asking_leads, led, machine_asks, table_after, turn_asks, turn_waits, turned as turn_made, updated_here}
use Rattle.transactions.proofs.Alike.{shown_alike}
use Rattle.vacuum_core.proofs.InTable.{none_spared}
use Rattle.block_model.specs.SerialRun.{IsLegal, serial_run}
use Rattle.session_parts.proofs.Asks.{none_asked}
use Rattle.session_parts.proofs.Leads.{nothing_leaves_slots, same_counts_few}
use Rattle.session_parts.proofs.Tables.{all_rows_stay, own_table_is_pruned, same_blocks}
use Rattle.session_parts.proofs.Places.{asking_step_is_shown, place_stays_shown}
use Rattle.script_semantics.specs.StatementSteps.{Ended, Moved, Replies, Steps, StepsTo, Waits, course_of, reply_after, what_of}
use Rattle.script_semantics.specs.Requests.{NoneLeft}

-- with this summarise lock, at this task, and with these tuples unnamed
abbrev pub turned : (n : ℕ) → Option ℕ → Task → (ℕ → Spot → Bool) → Unseen → Unseen
turned n held task unnamed v = lock_turned held (task_turned n task (unnamed_turned unnamed v))

-- what a step of its machine left of the store: pages of its table's relations alone changed, locks of those, and the table's summarise lock
pub record StepLeft (old new : ShownStore) (n table : ℕ) : Type 0 where
  pub others : LeavesOthers n old new
  pub pages : (place : PagePlace) → (IsRelationOf old.layout table place.relation → ⊥) → page_at new.pages place ≡ page_at old.pages place
  pub locks : ChangesLocks n table old new
  pub rights : (other : ℕ) → other ≢ table → right_of new.rights other ≡ right_of old.rights other
  pub order : (i : ℕ) → i < length old.layout.schema.indexes → IsIndexInOrder old.layout.sizes.index_blocks (index_page old.layout old.pages i)
      → IsIndexInOrder old.layout.sizes.index_blocks (index_page old.layout new.pages i)
  pub transactions : new.transactions ≡ old.transactions
  pub entries : new.entries ≡ old.entries
  pub dropped : new.dropped ≡ old.dropped
  pub few : length old.entries ≤ MAX_ENTRIES

-- What stays where the pages are these and its table's heap has these blocks then: the database of the journal, and what others see; and exactly the dead rows
-- of its block have gone.
pub record StillShown (old : ShownStore) (paged : PageMap) (n : ℕ) (was : Hand) (table : ℕ) (s : StandsIn old n was table) (now : List (List Slot)) : Type 0 where
  pub has : HasBlocks old.layout paged table now
  pub database : ShowsDatabase old.layout paged old.transactions (database_at s.place)
  pub rows : RowsFollow old.layout old.pages paged old.transactions
  pub slots : SeenSlotsStay n old (unseen old n was table s).task s.shown.database.stored (here old n was table s).blocks now
  pub spared : IsSpared n (pages_show old n was table s) (shown_by old.layout paged old.locks table now) (unseen old n was table s)
  pub dead : (extent next : ℕ) → (unseen old n was table s).task n ≡ Prunes extent next → (k : ℕ)
      → IsTrue (has_gone (rows_in table (here old n was table s).blocks next k) (rows_in table now next k))
      ↔ ((r : Row) × (rows_in table (here old n was table s).blocks next k ≡ Some r) × IsDead s.place r.id)

-- What its machine did in its table, under this point, and what the session is at behind it: so its statement's step is in the place, with this made of its
-- account, and with these summaries asked for then.
pub record MadeSo (old new : ShownStore) (n : ℕ) (was : Hand) (table : ℕ) (s : StandsIn old n was table) (point : Point) (after : Task) : Type 0 where
  pub now : List (List Slot)
  pub still : StillShown old new.pages n was table s now
  pub account : Account
  pub between : Task
  pub unnamed : ℕ → Spot → Bool
  pub queue : List Asked
  pub requests : AreRequestsOf old.layout new.queue queue
  pub on : IsIn s.place n (statement_of was) table
  pub takes : TakesUp (statement_of was) ((unseen old n was table s).task n) s.place.queue queue
  pub does : Does n (w old n was table s) (table_state (shown_by old.layout new.pages new.locks table now) (turned n (Some n) between unnamed (unseen old n was table s)))
  pub named : does_point n (w old n was table s) (table_state (shown_by old.layout new.pages new.locks table now) (turned n (Some n) between unnamed (unseen old n was table s))) does ≡ Some point
  pub dead : PrunesTheDead s.place does
  pub adds : (b : Accounts) → AccountIs n (record (accounts_at s.place table) { queue = queue }) b account
      → Adds n (w old n was table s) (table_state (shown_by old.layout new.pages new.locks table now) (turned n (Some n) between unnamed (unseen old n was table s))) does (accounts_at s.place table) b
  pub settles : Settles n (table_state (shown_by old.layout new.pages new.locks table now) (turned n (Some n) between unnamed (unseen old n was table s)))
      (table_state (shown_by old.layout new.pages new.locks table now) (turned n (right_of new.rights table) after unnamed (unseen old n was table s)))
  pub own : ((unseen old n was table s).task n ≢ Resting) ⊎ Begins s.place n (w old n was table s) (statement_of was) between
  pub plain : IsPlain point

-- the pages of statuses are of no table
pub no_statuses : (layout : DiskLayout) (table : ℕ) → IsRelationOf layout table status_relation → ⊥
no_statuses layout table is = ⊎_elim (λ (heap : status_relation ≡ heap_of table). absurd (omega (arith, heap)))
    (λ (of : (index : ℕ) × (index < length layout.schema.indexes) × ((index_at layout index).table ≡ table) × (status_relation ≡ index_relation layout index)). absurd (let same = of.3 in omega (arith, same))) is

-- where no heap changes, and no page of statuses, all stays shown
pub beside_shown : (old : ShownStore) (paged : PageMap) (n : ℕ) (was : Hand) (table : ℕ) (s : StandsIn old n was table)
    → ((block : ℕ) → block_at paged status_relation block ≡ block_at old.pages status_relation block)
    → ((other block : ℕ) → other < length old.layout.schema.tables → block_at paged (heap_of other) block ≡ block_at old.pages (heap_of other) block)
    → ((extent next : ℕ) → (unseen old n was table s).task n ≢ Prunes extent next) → StillShown old paged n was table s (here old n was table s).blocks
beside_shown old paged n was table s statuses heaps beside = record {
  has = same_blocks old.layout old.pages paged table (here old n was table s).blocks (λ block. heaps table block s.below) (here old n was table s).has;
  database = shown_alike old.layout old.pages paged old.transactions (database_at s.place) statuses heaps s.shown.database;
  rows = same_heaps_follow old.layout old.pages paged old.transactions heaps;
  slots =
      let slots = nothing_leaves_slots old s.shown.database.stored n (here old n was table s).blocks in
      record { rows = λ m away. all_rows_stay ((unseen old n was table s).task m) (here old n was table s).blocks (here old n was table s).blocks slots.rows; seen = slots.seen; lacks = slots.lacks };
  spared = none_spared n (pages_show old n was table s) (shown_by old.layout paged old.locks table (here old n was table s).blocks) (unseen old n was table s) (λ b k. refl);
  dead = λ extent next is. absurd (beside extent next is);
}

module _ (old new : ShownStore) (n : ℕ) (was : Hand) (plain : IsPlainHand was) (table : ℕ) (s : StandsIn old n was table) (left : StepLeft old new n table) where
  abbrev statement : Statement
  statement = statement_of was

  abbrev at_here : ShowsTable old s.shown.database.stored table (s.place.tables table)
  at_here = here old n was table s

  abbrev u : Unseen
  u = unseen old n was table s

  counts_same : (t : ℕ) → counts_of new.transactions s.shown.database.stored t ≡ counts_of old.transactions s.shown.database.stored t
  counts_same t = ap (λ (x : TransactionsState). counts_of x s.shown.database.stored t) left.transactions

  journal_is : new.entries ≡ s.place.journal
  journal_is = left.entries ∙ sym s.shown.journal

  fits : length new.entries ≤ MAX_ENTRIES
  fits = subst (λ (l : List Entry). length l ≤ MAX_ENTRIES) (sym left.entries) left.few

  -- ---- what it leads to, where the database and the rows are shown still

  module _ (database : ShowsDatabase old.layout new.pages old.transactions (database_at s.place)) (rows : RowsFollow old.layout old.pages new.pages old.transactions) where
    abbrev Owns : Type 0
    Owns = (hand : Hand) → hand_in new.hands n ≡ Some hand → IsOfTransaction (transaction_of new.transactions.opens n) (finite.get (serial_run s.place.opening new.entries).sessions n) hand

    pub leads_so : (at : Option HandAt) (account : Account) → HandShows (hand_in new.hands n) at account → Owns → LeadsTo old new s.place n at account
    leads_so at account hand own = record {
      database = subst (λ (t : TransactionsState). ShowsDatabase old.layout new.pages t (serial_run s.place.opening new.entries)) (sym left.transactions)
          (subst (λ (l : List Entry). ShowsDatabase old.layout new.pages old.transactions (serial_run s.place.opening l)) (sym journal_is) database);
      legal = subst (IsLegal s.place.opening) (sym journal_is) s.shown.legal;
      fronts = fronts_within old new s.place s.shown [] (left.entries ∙ sym (append-nil old.entries)) (All-nil (λ (e : Entry). IsWithin e.request)) (record {
        statuses = λ block. left.pages (record { relation = status_relation; block = block }) (no_statuses old.layout table);
        first = ap (λ (t : TransactionsState). t.tx.first) left.transactions;
        opens = subst (OpensStay old.transactions) (sym left.transactions) (λ m o is. (o, is, refl, refl));
        rows = rows;
      });
      copies = λ m apart. ap (λ (l : List Entry). finite.get (serial_run s.place.opening l).sessions m) journal_is;
      hand = hand;
      own = own;
      order = left.order;
    }

    -- behind it the store shows this place, whatever the session has in hand
    pub behind : (at : Option HandAt) (v : TableState) (account : Account) (queue : List Asked) → AreRequestsOf old.layout new.queue queue → HandShows (hand_in new.hands n) at account → Owns
        → ((other : ℕ) → table_in old.layout (hand_in old.hands n) ≡ Some other → other ≡ table) → ((other : ℕ) → table_in old.layout (hand_in new.hands n) ≡ Some other → other ≡ table)
        → ShowsTable new s.shown.database.stored table v → account.dropped ≡ [] → IsNoInsert (hand_in new.hands n)
        → IsPlaceOf new (place_asking s.place n table at v account (counts_of new.transactions s.shown.database.stored) new.entries queue)
    behind at v account queue requests hand own was_in is_in shows none asks = asking_step_is_shown old new s.place n table at v account queue s.shown left.others
        (record { below = s.below; pages = left.pages; locks = left.locks; rights = left.rights; was_in = was_in; is_in = is_in }) (same_counts_few old new s.shown.database.stored s.shown.database.stored counts_same)
        (leads_so at account hand own) shows (record {
          requests = requests;
          told = ap (λ (l : List (List Dropped)). dropped_in l n) left.dropped ∙ s.shown.told n ∙ ap (dropped_of old.layout) (plain.none (s.place.accounts n) (told_here old n was table s) ∙ sym none);
          others = λ m apart. ap (λ (l : List (List Dropped)). dropped_in l m) left.dropped;
          hand = none_asked old.layout (hand_in new.hands n) account.dropped asks;
        })

  -- ---- the turn

  module _ (was_in : (other : ℕ) → table_in old.layout (Some was) ≡ Some other → other ≡ table) (point : Point) (after : Task) (made : MadeSo old new n was table s point after) where
    abbrev then_shown : ShownTable
    then_shown = shown_by old.layout new.pages new.locks table made.now

    abbrev within : TableState
    within = table_state then_shown (turned n (Some n) made.between made.unnamed u)

    abbrev v : TableState
    v = table_state then_shown (turned n (right_of new.rights table) after made.unnamed u)

    within_is : within.task n ≡ made.between
    within_is = pick_same n made.between (u.task n)

    v_is : v.task n ≡ after
    v_is = pick_same n after (u.task n)

    turns : (turns : TurnsAsking s.place n statement table v made.account made.queue) × (point_in turns ≡ Some point) × (turns.step.between ≡ within)
    turns = machine_asks s.place n table statement (w old n was table s) within v point made.account made.queue at_here.shown made.takes made.on made.does made.named made.adds made.dead made.settles
        (subst (λ (t : Task). (u.task n ≢ Resting) ⊎ Begins s.place n (w old n was table s) statement t) (sym within_is) made.own)

    table_then : IsTaskOf old.layout table made.now new.transactions.tx s.shown.database.stored (transaction_of new.transactions.opens n) (hand_in new.hands n) after → ShowsTable new s.shown.database.stored table v
    table_then is_at = own_table_is_pruned old new s.shown.database.stored n table (s.place.tables table) v (turned n (right_of new.rights table) after made.unnamed u) made.now at_here left.others turns.0.step refl made.still.has refl
        (λ t. at_here.counts t ∙ sym (counts_same t)) (λ m other. pick_other m n after (u.task m) other)
        (subst (λ (t : Task). IsTaskOf old.layout table made.now new.transactions.tx s.shown.database.stored (transaction_of new.transactions.opens n) (hand_in new.hands n) t) (sym v_is) is_at) made.still.slots

    was_there : (other : ℕ) → table_in old.layout (hand_in old.hands n) ≡ Some other → other ≡ table
    was_there other there = was_in other (ap (table_in old.layout) (sym s.had) ∙ there)

    -- it goes on
    pub goes_on : (next : Hand) (view : MachineView) → IsPlainHand next → IsSeenSo old.layout table next view → view.task ≡ after → statement_of next ≡ statement → hand_in new.hands n ≡ Some next
        → TellsSo next made.account → after ≢ Resting → (q : Place) × IsPlaceOf new q × Steps s.place n (Moved point) q
    goes_on next view next_plain is at same now told busy = (
      place_asking s.place n table (Some (new_hand statement)) v made.account (counts_of new.transactions s.shown.database.stored) new.entries made.queue,
      behind made.still.database made.still.rows (Some (new_hand statement)) v made.account made.queue made.requests (hand_shows (hand_in new.hands n) next next_plain now statement same made.account told)
          (λ h there. subst (λ (x : Hand). IsOfTransaction (transaction_of new.transactions.opens n) (finite.get (serial_run s.place.opening new.entries).sessions n) x) (same_Some next h (sym now ∙ there)) (next_plain.own _ _))
          was_there (λ other there. is.in_table other (ap (table_in old.layout) (sym now) ∙ there))
          (table_then (subst (λ (h : Option Hand). IsTaskOf old.layout table made.now new.transactions.tx s.shown.database.stored (transaction_of new.transactions.opens n) h after) (sym now)
          (is.is_task table made.now new.transactions.tx s.shown.database.stored (transaction_of new.transactions.opens n) after ((λ own. sym at), (λ away. absurd (away refl))))))
          (next_plain.none made.account told) (subst IsNoInsert (sym now) next_plain.no_insert),
      record {
        hand = new_hand statement;
        in_hand = hand_is old n was table s plain;
        steps = subst (λ (l : List Entry). StepsTo s.place n (new_hand statement) (Moved point) (place_asking s.place n table (Some (new_hand statement)) v made.account (counts_of new.transactions s.shown.database.stored) l made.queue)) (sym journal_is)
            (turn_asks s.place n table (new_hand statement) v made.account made.queue (counts_of new.transactions s.shown.database.stored) point (course_of s.place (new_hand statement)) turns.0 turns.1
            (λ rests. busy (sym v_is ∙ rests)) (plain_enters point s.place n (new_hand statement) made.plain));
        fits = fits;
      },
    )

    -- it replies
    pub is_done : hand_in new.hands n ≡ None → after ≡ Resting → made.account.dropped ≡ [] → (reply : Reply) → Some reply ≡ reply_after s.place.layout table made.between made.account [] statement
        → (q : Place) × IsPlaceOf new q × Steps s.place n (Ended reply) q
    is_done now rests none reply replies = (
      place_asking s.place n table None v made.account (counts_of new.transactions s.shown.database.stored) new.entries made.queue,
      behind made.still.database made.still.rows None v made.account made.queue made.requests (subst (λ (h : Option Hand). HandShows h None made.account) (sym now) refl)
          (λ h there. absurd (none-some h (sym now ∙ there))) was_there (λ other there. absurd (none-some other (ap (table_in old.layout) (sym now) ∙ there)))
          (table_then (subst (λ (h : Option Hand). IsTaskOf old.layout table made.now new.transactions.tx s.shown.database.stored (transaction_of new.transactions.opens n) h after) (sym now) rests)) none (subst IsNoInsert (sym now) tt),
      record {
        hand = new_hand statement;
        in_hand = hand_is old n was table s plain;
        steps = subst (λ (l : List Entry). StepsTo s.place n (new_hand statement) (Ended reply) (place_asking s.place n table None v made.account (counts_of new.transactions s.shown.database.stored) l made.queue)) (sym journal_is)
            (asking_replies reply
            (replies ∙ ap (λ (t : Task). reply_after s.place.layout table t made.account [] statement) (sym (ap (λ (x : TableState). x.task n) turns.2 ∙ within_is))));
        fits = fits;
      },
    )
      where
        asking_replies : (reply : Reply) → Some reply ≡ reply_after s.place.layout table (turns.0.step.between.task n) made.account [] statement
            → StepsTo s.place n (new_hand statement) (Ended reply) (place_asking s.place n table None v made.account (counts_of new.transactions s.shown.database.stored) s.place.journal made.queue)
        asking_replies reply said =
            let p = s.place in
            let counts = counts_of new.transactions s.shown.database.stored in
            let c = course_of p (new_hand statement) in
            Replies point c reply (led p n table statement None v made.account made.queue counts c.journal turns.0) (turn_made p n table statement None v made.account made.queue counts c.journal turns.0) turns.1
            (ap (λ (x : TableState). x.task n) (table_after p n table None v made.account counts c.journal) ∙ v_is ∙ rests) (NoneLeft c (plain.asks n []))
            (said ∙ ap (λ (a : Account). reply_after p.layout table (turns.0.step.between.task n) a c.answers statement) (sym (updated_here p.accounts n made.account)))
            (asking_leads p n table None v made.account counts c.journal made.queue)

-- ---- what its machine says, as that

module _ (old new : ShownStore) (n : ℕ) (was : Hand) (table : ℕ) (s : StandsIn old n was table) (a b : MachineView) (is : IsSeenSo old.layout table was a) (now : List (List Slot)) (still : StillShown old new.pages n was table s now)
    (held_then : Option ℕ) (right : held_then ≡ right_of new.rights table) (point : Point) where
  -- what it begins with, if it is its first step
  abbrev pub Starts : Type 0
  Starts = (between : Task) → IsFirstWithin a.first between → IsMaintenance a.task ⊎ (IsMaintenance between × Begins s.place n (w old n was table s) (statement_of was) between)

  pub made_so : MachineGoes n (pages_show old n was table s) (shown_by old.layout new.pages new.locks table now) (right_of old.rights table) held_then a b point → Starts
      → IsIn s.place n (statement_of was) table → TakesUp (statement_of was) a.task s.place.queue s.place.queue → new.queue ≡ old.queue
      → (made : MadeSo old new n was table s point b.task) × b.tells made.account
  made_so (account, tells, goes, first) starts on takes same_queue =
      let at = at_task old n was table s a is in
      let lock = (here old n was table s).lock in
      let kept = kept_here old n was table s in
      let it = goes (unseen old n was table s) at lock kept still.spared in
      let start = starts it.2 (first (unseen old n was table s) at lock kept still.spared) in
      let so = does_dead s.place n (w old n was table s) (table_state (shown_by old.layout new.pages new.locks table now) (turned n (Some n) it.2 it.0 (unseen old n was table s))) point account still.spared still.dead it.3 in (
        record {
          now = now;
          still = still;
          account = account (s.place.accounts n);
          between = it.2;
          unnamed = it.0;
          queue = s.place.queue;
          requests = subst (λ (l : List (ℕ × ℕ)). AreRequestsOf old.layout l s.place.queue) (sym same_queue) s.shown.queue;
          on = on;
          takes = subst (λ (t : Task). TakesUp (statement_of was) t s.place.queue s.place.queue) (sym at) takes;
          does = so.does.does;
          named = so.does.point_is;
          dead = so.dead;
          adds = λ b has. so.does.adds (accounts_at s.place table) b has;
          settles = subst (λ (held : Option ℕ). Settles n (table_state (shown_by old.layout new.pages new.locks table now) (turned n (Some n) it.2 it.0 (unseen old n was table s)))
              (table_state (shown_by old.layout new.pages new.locks table now) (turned n held b.task it.0 (unseen old n was table s)))) right it.4;
          own = elim start [
            | inl at_work ↦ inl (λ rests. subst IsMaintenance (sym at ∙ rests) at_work)
            | inr begun ↦ inr begun.1
          ];
          plain = plain_point n (w old n was table s) (table_state (shown_by old.layout new.pages new.locks table now) (turned n (Some n) it.2 it.0 (unseen old n was table s))) point (elim start [
            | inl at_work ↦ inl (subst IsMaintenance (sym at) at_work)
            | inr begun ↦ inr (subst IsMaintenance (sym (pick_same n it.2 ((unseen old n was table s).task n))) begun.0)
          ]) so.does.does so.does.point_is;
        },
        tells (s.place.accounts n) (is.tells (s.place.accounts n) (told_here old n was table s)),
      )

-- ---- it waits

-- nothing changed, but that the statement is kept anew, at the same task
pub record UpkeepStays (old new : ShownStore) (n : ℕ) (was next : Hand) (table : ℕ) : Type 0 where
  pub same : statement_of next ≡ statement_of was
  pub told : (so_far : Account) → TellsSo was so_far → TellsSo next so_far
  pub now : hand_in new.hands n ≡ Some next
  pub pages : (place : PagePlace) → page_at new.pages place ≡ page_at old.pages place
  pub locks : new.locks ≡ old.locks
  pub rights : new.rights ≡ old.rights
  pub queue : new.queue ≡ old.queue

pub stays_shown : (old new : ShownStore) (n : ℕ) (was next : Hand) (plain : IsPlainHand was) (next_plain : IsPlainHand next) (table : ℕ) (s : StandsIn old n was table) (left : StepLeft old new n table) (a b : MachineView)
    → IsSeenSo old.layout table was a → IsSeenSo old.layout table next b → b.task ≡ a.task → UpkeepStays old new n was next table → IsPlaceOf new s.place
stays_shown old new n was next plain next_plain table s left a b is is_then same_task so = place_stays_shown old new s.place n s.shown (record {
  others = left.others;
  pages = so.pages;
  transactions = left.transactions;
  locks = so.locks;
  rights = so.rights;
  entries = left.entries;
  queue = so.queue;
  dropped = left.dropped;
  asked = subst (λ (h : Option Hand). HandAsked old.layout h (s.place.accounts n).dropped) (sym so.now) (next_plain.asked old.layout (s.place.accounts n).dropped);
  hand = leads_so old new n was plain table s left
      (shown_alike old.layout old.pages new.pages old.transactions (database_at s.place) (λ block. so.pages (record { relation = status_relation; block = block })) (λ other block below. so.pages (record { relation = heap_of other; block = block })) s.shown.database)
      (same_heaps_follow old.layout old.pages new.pages old.transactions (λ other block below. so.pages (record { relation = heap_of other; block = block })))
      (s.place.hands n) (s.place.accounts n) (subst (λ (h : Option HandAt). HandShows (hand_in new.hands n) h (s.place.accounts n)) (sym (hand_is old n was table s plain))
      (hand_shows (hand_in new.hands n) next next_plain so.now (statement_of was) so.same (s.place.accounts n) (so.told (s.place.accounts n) (told_here old n was table s))))
      (λ h there. subst (λ (x : Hand). IsOfTransaction (transaction_of new.transactions.opens n) (finite.get (serial_run s.place.opening new.entries).sessions n) x) (same_Some next h (sym so.now ∙ there)) (next_plain.own _ _));
  tasks = λ number stored blocks now at.
      let before = is.task_is number blocks old.transactions.tx stored (transaction_of old.transactions.opens n) now
      (subst (λ (h : Option Hand). IsTaskOf old.layout number blocks old.transactions.tx stored (transaction_of old.transactions.opens n) h now) s.had at) in
      subst (λ (h : Option Hand). IsTaskOf old.layout number blocks old.transactions.tx stored (transaction_of old.transactions.opens n) h now) (sym so.now)
      (is_then.is_task number blocks old.transactions.tx stored (transaction_of old.transactions.opens n) now ((λ own. before.0 own ∙ sym same_task), before.1));
})

-- it waits in its table, for what another session holds
pub is_waiting : (old : ShownStore) (n : ℕ) (was : Hand) (plain : IsPlainHand was) (table : ℕ) (s : StandsIn old n was table) (a : MachineView) (is : IsSeenSo old.layout table was a) (few : length old.entries ≤ MAX_ENTRIES)
    (on : IsIn s.place n (statement_of was) table) (waited : WaitedFor) (by : ℕ) → MachineWaitsFor n (pages_show old n was table s) (right_of old.rights table) a.task waited
    → IsHeldBy (w old n was table s) waited by → Steps s.place n (Waits (refusals.Blocked (what_of old.layout table waited) (name_of s.place by))) s.place
is_waiting old n was plain table s a is few on waited by waits held =
    let at = at_task old n was table s a is in
    let it = waits (unseen old n was table s) at (here old n was table s).lock (kept_here old n was table s) in
    record {
      hand = new_hand (statement_of was);
      in_hand = hand_is old n was table s plain;
      steps = subst (λ (l : DiskLayout). StepsTo s.place n (new_hand (statement_of was)) (Waits (refusals.Blocked (what_of l table waited) (name_of s.place by))) s.place) s.shown.layout
          (turn_waits s.place n table (new_hand (statement_of was)) (w old n was table s) a.task waited by (here old n was table s).shown on at (inr plain.lock) it.0 it.1 held);
      fits = subst (λ (l : List Entry). length l ≤ MAX_ENTRIES) (sym s.shown.journal) few;
    }
