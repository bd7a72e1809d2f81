-- a step of an insert in an index, as a step of the place that the store shows
use Rattle.std.proofs.Common.{◌≡◌, ◌≢◌, inl, ℕ, false, ◌<◌, ◌≤◌, List, [], ◌∷◌, length, Option, None, Some, refl, sym, ap, subst, ◌∙◌, arith}
use Rattle.std.specs.FinMap as finite
use Rattle.std.proofs.lemmas.Option.{none-some, same_Some}
use Rattle.block_model.specs.declared.place.Place.{Place as PagePlace}
use Rattle.block_model.specs.declared.place.Spot.{Spot}
use Rattle.block_model.specs.declared.reply.Point.{Point}
use Rattle.block_model.specs.declared.reply.Point.TheVariants as points
use Rattle.block_model.specs.declared.reply.Reply.TheVariants as replies
use Rattle.block_model.specs.declared.request.Entry.{Entry}
use Rattle.block_model.specs.declared.row.Row.{Row}
use Rattle.block_model.specs.RequestEffect.{Inserted}
use Rattle.page_map.specs.PageMap.{block_at, page_at}
use Rattle.page_locks.specs.LockHolders.{holder}
use Rattle.page_locks.specs.RightHolders.{right_of}
use Rattle.recovery.specs.PageOrder.{IsIndexInOrder}
use Rattle.heap_rows.specs.HeapBlocks.{HasBlocks}
use Rattle.heap_rows.specs.Heaps.{relation_of as heap_of}
use Rattle.snapshot_core.specs.declared.sessions.Open.{Open}
use Rattle.snapshot_core.specs.StoredVersions.{transaction_of}
use Rattle.store_layout.specs.declared.limits.TheConstants.{MAX_ENTRIES}
use Rattle.store_layout.specs.declared.statement.Statement.TheVariants as statements
use Rattle.snapshot_core.specs.declared.statuses.Status.{Status}
use Rattle.tx_table.specs.Statuses.{status_relation}
use Rattle.transactions.specs.CountedRows.{counts as counts_of}
use Rattle.transactions.specs.TransactionsState.{TransactionsState}
use Rattle.index_contents.specs.IndexContents.{index_page, relation_of as index_relation}
use Rattle.coverage.specs.Accounts.{Account, Asked, no_account}
use Rattle.coverage.specs.GoingOn.{IsInserting}
use Rattle.coverage.specs.Machines.{Unseen, table_state, task_turned}
use Rattle.coverage.specs.Table.{Resting, TableState, Task}
use Rattle.coverage.proofs.Views.{pick_other, pick_same}
use Rattle.index_steps.specs.ShownRows.{shown_by}
use Rattle.index_steps.specs.SwapAnswers.{LeavesLocks}
use Rattle.script_semantics.specs.Names.{dropped_of}
use Rattle.script_semantics.specs.Place.{Hand as HandAt, Place, accounts_at, database_at}
use Rattle.script_semantics.specs.Requests.{Course, MakesAll, NoneLeft}
use Rattle.script_semantics.specs.StatementSteps.{Ended, MakesAt, Moved, Steps, course_of}
use Rattle.brin_insert.specs.AskedFor.{InsertAsks}
use Rattle.brin_insert.specs.declared.insert.Insert.{Insert}
use Rattle.brin_insert.specs.InsertAnswers.{AccountsCome, DoesWith, InsertGoesTo, relation_at}
use Rattle.brin_insert.specs.InsertHands.{InsertHand}
use Rattle.brin_insert.specs.Inserts.{task_of}
use Rattle.session_parts.specs.declared.hand.Hand.{Hand}
use Rattle.session_parts.specs.declared.hand.Hand.TheVariants as hands
use Rattle.session_parts.specs.Hands.{HandShows, put_answers}
use Rattle.session_parts.specs.HandsAsk.{HandAsked, named_requests}
use Rattle.session_parts.specs.HandsInTables.{IsTaskOf, table_in}
use Rattle.session_parts.specs.Leaving.{IsRelationOf, LeavesOthers, LocksIn, StepsInTable}
use Rattle.session_parts.specs.PlacesAfter.{TurnsAsking, place_after, place_asking, point_in}
use Rattle.session_parts.specs.ShowsPlace.{IsOfTransaction, IsPlaceOf, IsRowOf, ShowsTable, is_put}
use Rattle.session_parts.specs.StoreStates.{ShownStore, dropped_in, hand_in}
use Rattle.session_parts.proofs.Asks.{asked_are_named}
use Rattle.session_parts.proofs.Steps.{not_pruned, takes_none}
use Rattle.session_inserts.proofs.Asking.{ComesOf, comes_so}
use Rattle.session_inserts.proofs.AtIndex.{AtIndex, busy_before, hand_here, in_table, insert_of, kept_here, own_relation, own_row_here, put_of, relation_here, shows_here, task_here}
use Rattle.session_inserts.proofs.Points.{IsPlain, index_point}
use Rattle.session_inserts.specs.TakenLaws.{IndexLaws}

-- what a step of the machine in an index left of the store, which shows a place before it
pub record InIndex (old new : ShownStore) (n : ℕ) (before after : Insert) (hand : InsertHand) (x : Spot) : Type 0 where
  pub at : AtIndex old n before hand x
  pub still : after.place ≡ Some x
  pub row : after.row ≡ before.row
  pub others : LeavesOthers n old new
  pub pages : (place : PagePlace) → place.relation ≢ relation_at old.layout before → page_at new.pages place ≡ page_at old.pages place
  pub locks : LeavesLocks (holder old.locks) (holder new.locks) (relation_at old.layout before) n
  pub order : (index : ℕ) → index < length old.layout.schema.indexes → IsIndexInOrder old.layout.sizes.index_blocks (index_page old.layout old.pages index)
      → IsIndexInOrder old.layout.sizes.index_blocks (index_page old.layout new.pages index)
  pub transactions : new.transactions ≡ old.transactions
  pub rights : new.rights ≡ old.rights
  pub entries : new.entries ≡ old.entries
  pub asks : InsertAsks old.layout old.pages before after old.queue new.queue
  pub dropped : (m : ℕ) → m ≢ n → dropped_in new.dropped m ≡ dropped_in old.dropped m
  pub few : length old.entries ≤ MAX_ENTRIES

pub put_shown : (insert : Insert) (r : Row) (x : Spot) (account : Account) → insert.place ≡ Some x → insert.row ≡ r → account ≡ record no_account { dropped = account.dropped } → HandShows (Some (hands.Inserts insert)) (Some (put_of r)) account
put_shown insert r x account placed row tells =
    (put_of r, refl, ap insert_of (sym row), ap (λ (q : Row). Inserted q.id ∷ []) (sym row) ∙ ap (λ (o : Option Spot). put_answers o insert.row.id) (sym placed), tells)

-- the row stays one of the transaction's
pub row_stays : (was now : Option Open) (before after : Insert) → now ≡ was → after.place ≡ before.place → after.row ≡ before.row → IsRowOf was (is_put before.place) before.row.id.t before.row.id.k
    → IsRowOf now (is_put after.place) after.row.id.t after.row.id.k
row_stays was now before after same place row is =
    subst (λ (o : Option Open). IsRowOf o (is_put after.place) after.row.id.t after.row.id.k) (sym same)
    (subst (λ (o : Option Spot). IsRowOf was (is_put o) after.row.id.t after.row.id.k) (sym place)
    (subst (λ (r : Row). IsRowOf was (is_put before.place) r.id.t r.id.k) (sym row) is))

-- an insert at work isn't at nothing
pub not_resting : (task : Task) → IsInserting task → task ≢ Resting
not_resting task inserting is = subst IsInserting is inserting

-- a step that enters nothing
plain_enters : (point : Point) (p : Place) (n : ℕ) (hand : HandAt) (c : Course) → IsPlain point → c ≡ course_of p hand → MakesAt point p n hand c
plain_enters points.Row p n hand c plain is = absurd plain
plain_enters points.Mark p n hand c plain is = absurd plain
plain_enters point p n hand c plain is = is

no_prune : (point : Point) → IsPlain point → point ≢ points.Prune
no_prune point plain is = subst IsPlain is plain

pub is_no_work : (r : Row) → insert_of r ≢ statements.Work
is_no_work r is = cc

module _ (old new : ShownStore) (n : ℕ) (before after : Insert) (hand : InsertHand) (x : Spot) (step : InIndex old new n before after hand x) where
  abbrev table : ℕ
  table = before.row.table

  steps_in : ((other : ℕ) → table_in old.layout (hand_in new.hands n) ≡ Some other → other ≡ table) → StepsInTable n table old new
  steps_in then = record {
    below = step.at.made.table;
    pages = λ place other. step.pages place (λ same. other (subst (IsRelationOf old.layout table) (sym same) (own_relation old n before hand x step.at)));
    locks = LocksIn (relation_at old.layout before) (own_relation old n before hand x step.at) step.locks;
    rights = λ other apart. ap (λ (rights : List (Option ℕ)). right_of rights other) step.rights;
    was_in = λ other is. same_Some other table (sym is ∙ in_table old n before hand x step.at);
    is_in = then;
  }

  same_statuses : (block : ℕ) → block_at new.pages status_relation block ≡ block_at old.pages status_relation block
  same_statuses block = step.pages (record { relation = status_relation; block = block }) (λ same. let e : status_relation ≡ index_relation old.layout hand.index = same ∙ relation_here old n before hand x step.at in absurd (omega (arith, e)))

  same_heaps : (other block : ℕ) → other < length old.layout.schema.tables → block_at new.pages (heap_of other) block ≡ block_at old.pages (heap_of other) block
  same_heaps other block below = step.pages (record { relation = heap_of other; block = block }) (λ same. let e : heap_of other ≡ index_relation old.layout hand.index = same ∙ relation_here old n before hand x step.at in absurd (omega (arith, e, below)))

  module _ (p : Place) (shown : IsPlaceOf old p) where
    abbrev stored : List Status
    stored = shown.database.stored

    abbrev shows : ShowsTable old stored table (p.tables table)
    shows = shows_here old n before hand x step.at p shown

    abbrev u : Unseen
    u = shows.unseen

    abbrev w : TableState
    w = table_state (shown_by old.layout old.pages old.locks table shows.blocks) u

    at_task : IsInserting (u.task n)
    at_task = subst IsInserting (sym (task_here old n before hand x step.at p shown)) (busy_before old n before hand x step.at)

    -- the account behind the step, and the summaries that are asked for
    come : ComesOf old n before after p shows.blocks new.queue
    come = comes_so old n before after hand x step.at p shown shows.blocks new.queue step.asks

    abbrev account : Account
    account = come.account

    journal_is : new.entries ≡ p.journal
    journal_is = step.entries ∙ sym shown.journal

    abbrev course : Course
    course = record { journal = new.entries; answers = Inserted before.row.id ∷ [] }

    course_is : course ≡ course_of p (put_of before.row)
    course_is = λ j. record { journal = journal_is j; answers = Inserted before.row.id ∷ [] }

    fits : length new.entries ≤ MAX_ENTRIES
    fits = subst (λ (l : List Entry). length l ≤ MAX_ENTRIES) (sym step.entries) step.few

    -- the step of the table
    module _ (point : Point) (goes : InsertGoesTo n (shown_by old.layout old.pages old.locks table shows.blocks) (shown_by old.layout new.pages new.locks table shows.blocks) (task_of old.layout before) (task_of old.layout after) point)
        (has : HasBlocks old.layout new.pages table shows.blocks) (laws : IndexLaws) where
      abbrev then : Unseen
      then = task_turned n (task_of old.layout after) u

      abbrev v : TableState
      v = table_state (shown_by old.layout new.pages new.locks table shows.blocks) then

      abbrev between : Task
      between = (goes u (task_here old n before hand x step.at p shown) (kept_here old n before hand x step.at p shown)).0

      abbrev mid : TableState
      mid = table_state (shown_by old.layout new.pages new.locks table shows.blocks) (task_turned n between u)

      abbrev did_so : DoesWith n w mid point (AccountsCome n (shown_by old.layout old.pages old.locks table shows.blocks) (task_of old.layout before))
      did_so = (goes u (task_here old n before hand x step.at p shown) (kept_here old n before hand x step.at p shown)).1

      plain : IsPlain point
      plain = index_point n w mid point at_task did_so.does did_so.point_is

      busy : u.task n ≢ Resting
      busy = not_resting (u.task n) at_task

      abbrev Turns : List Asked → Type 0
      Turns queue = (turns : TurnsAsking p n (insert_of before.row) table v account queue) × (point_in turns ≡ Some point) × (turns.step.between ≡ mid)

      turns : Turns come.queue
      turns = laws.machine p n table (insert_of before.row) w mid v point account come.queue
          shows.shown (takes_none (insert_of before.row) (w.task n) p.queue come.queue come.more (is_no_work before.row)) refl did_so.does did_so.point_is (λ b has. did_so.adds (accounts_at p table) b (come.comes b has))
          (not_pruned p n w mid did_so.does point did_so.point_is (no_prune point plain))
          (goes u (task_here old n before hand x step.at p shown) (kept_here old n before hand x step.at p shown)).2 (inl busy)

      task_then : v.task n ≡ task_of old.layout after
      task_then = pick_same n (task_of old.layout after) (u.task n)

      -- so the store shows the place behind it, whatever the session has in hand then
      abbrev Behind : Option HandAt → List Asked → Type 0
      Behind at queue = IsPlaceOf new (place_asking p n table at v account (counts_of new.transactions stored) new.entries queue)

      behind : (at : Option HandAt) → HandShows (hand_in new.hands n) at account
          → ((hand : Hand) → hand_in new.hands n ≡ Some hand → IsOfTransaction (transaction_of new.transactions.opens n) (finite.get (database_at p).sessions n) hand)
          → ((other : ℕ) → table_in old.layout (hand_in new.hands n) ≡ Some other → other ≡ table)
          → IsTaskOf old.layout table shows.blocks new.transactions.tx stored (transaction_of new.transactions.opens n) (hand_in new.hands n) (then.task n)
          → dropped_in new.dropped n ≡ dropped_of old.layout account.dropped → HandAsked old.layout (hand_in new.hands n) account.dropped → Behind at come.queue
      behind at hand_then own_then in_then is_at told asked = laws.shown old new p n table at v account come.queue shown step.others (steps_in in_then)
          (laws.few old new stored stored (λ t. ap (λ (s : TransactionsState). counts_of s stored t) step.transactions))
          (laws.leads laws.alike old new p n at account shown step.entries step.transactions same_statuses same_heaps (record { hand = hand_then; own = own_then; order = step.order }))
          (laws.own old new stored n table (p.tables table) v then shows.blocks shows step.others turns.0.step refl has
          (shows.lock ∙ ap (λ (rights : List (Option ℕ)). right_of rights table) (sym step.rights))
          (λ t. shows.counts t ∙ ap (λ (s : TransactionsState). counts_of s stored t) (sym step.transactions))
          (λ m other. pick_other m n (task_of old.layout after) (u.task m) other)
          is_at (laws.slots old stored n shows.blocks))
          (record { requests = come.requests; told = told; others = step.dropped; hand = asked })

      -- it goes on
      module _ (now : hand_in new.hands n ≡ Some (hands.Inserts after)) (inserting : IsInserting (task_of old.layout after)) (named : dropped_in new.dropped n ≡ named_requests old.layout after.dropped.items) where
        goes_shown : Behind (Some (put_of before.row)) come.queue
        goes_shown = behind (Some (put_of before.row))
            (subst (λ (h : Option Hand). HandShows h (Some (put_of before.row)) account) (sym now) (put_shown after before.row x account step.still step.row come.tells))
            (λ h is. subst (λ (h : Hand). IsOfTransaction (transaction_of new.transactions.opens n) (finite.get (database_at p).sessions n) h) (same_Some (hands.Inserts after) h (sym now ∙ is)) row_then)
            (λ other is. same_Some other table (sym is ∙ ap (table_in old.layout) now ∙ ap (λ (r : Row). Some r.table) step.row))
            (subst (λ (h : Option Hand). IsTaskOf old.layout table shows.blocks new.transactions.tx stored (transaction_of new.transactions.opens n) h (then.task n)) (sym now)
            ((λ own. task_then), (λ apart. absurd (apart (ap (λ (r : Row). r.table) step.row)))))
            (named ∙ asked_are_named old.layout after.dropped.items account.dropped come.asked)
            (subst (λ (h : Option Hand). HandAsked old.layout h account.dropped) (sym now) come.asked)
          where
            row_then : IsRowOf (transaction_of new.transactions.opens n) (is_put after.place) after.row.id.t after.row.id.k
            row_then = row_stays (transaction_of old.transactions.opens n) (transaction_of new.transactions.opens n) before after (ap (λ (s : TransactionsState). transaction_of s.opens n) step.transactions) (step.still ∙ sym step.at.placed) step.row (own_row_here old n before hand x step.at p shown)

        pub goes_on : (q : Place) × IsPlaceOf new q × Steps p n (Moved point) q
        goes_on = (
          place_asking p n table (Some (put_of before.row)) v account (counts_of new.transactions stored) new.entries come.queue,
          goes_shown,
          record {
            hand = put_of before.row;
            in_hand = hand_here old n before hand x step.at p shown;
            steps = laws.goes p n table (put_of before.row) v account come.queue (counts_of new.transactions stored) point course turns.0 turns.1 (not_resting (v.task n) (subst IsInserting (sym task_then) inserting)) (plain_enters point p n (put_of before.row) course plain course_is);
            fits = fits;
          },
        )

      -- it is done
      module _ (now : hand_in new.hands n ≡ None) (rests : task_of old.layout after ≡ Resting) (silent : before.asking ≡ false) (kept : dropped_in new.dropped n ≡ dropped_in old.dropped n) where
        done_shown : Behind None p.queue
        done_shown = subst (Behind None) (come.silent silent).0 (behind None
            (subst (λ (h : Option Hand). HandShows h None account) (sym now) refl)
            (λ h is. absurd (none-some h (sym now ∙ is)))
            (λ other is. absurd (none-some other (ap (table_in old.layout) (sym now) ∙ is)))
            (subst (λ (h : Option Hand). IsTaskOf old.layout table shows.blocks new.transactions.tx stored (transaction_of new.transactions.opens n) h (then.task n)) (sym now) (task_then ∙ rests))
            (kept ∙ shown.told n ∙ ap (λ (a : Account). dropped_of old.layout a.dropped) (sym (come.silent silent).1))
            (subst (λ (h : Option Hand). HandAsked old.layout h account.dropped) (sym now) tt))

        turns_done : Turns p.queue
        turns_done = subst Turns (come.silent silent).0 turns

        pub is_done : (q : Place) × IsPlaceOf new q × Steps p n (Ended (replies.Inserted before.row.id)) q
        is_done = (
          place_after p n table None v account (counts_of new.transactions stored) new.entries,
          done_shown,
          record {
            hand = put_of before.row;
            in_hand = hand_here old n before hand x step.at p shown;
            steps = laws.replies p n table (put_of before.row) v account (counts_of new.transactions stored) point course (replies.Inserted before.row.id) turns_done.0 turns_done.1 (task_then ∙ rests)
                (subst (λ (c : Course). MakesAll p.opening n (insert_of before.row) (course_of p (put_of before.row)) c) (sym course_is) (NoneLeft (course_of p (put_of before.row)) refl)) refl;
            fits = fits;
          },
        )
