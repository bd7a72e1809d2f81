-- a step of a maintenance statement, as a step of the place that the store shows
use Rattle.std.proofs.Common.{◌≡◌, ◌≢◌, ◌⊎◌, inr, ℕ, ◌<◌, ◌≤◌, Bool, List, [], length, Option, None, Some, refl, sym, ap, subst, ◌∙◌, arith}
use Rattle.std.specs.FinMap as finite
use Rattle.std.proofs.lemmas.Option.{none-some, same_Some}
use Rattle.block_model.specs.declared.place.Spot.{Spot}
use Rattle.block_model.specs.declared.reply.Point.{Point}
use Rattle.block_model.specs.declared.reply.Point.TheVariants as points
use Rattle.block_model.specs.declared.reply.Reply.{Reply}
use Rattle.block_model.specs.declared.request.Entry.{Entry}
use Rattle.page_map.specs.PageMap.{block_at}
use Rattle.page_locks.specs.RightHolders.{right_of}
use Rattle.heap_rows.specs.HeapBlocks.{HasBlocks}
use Rattle.heap_rows.specs.Heaps.{relation_of as heap_of}
use Rattle.snapshot_core.specs.StoredVersions.{transaction_of}
use Rattle.snapshot_core.specs.declared.statuses.Status.{Status}
use Rattle.store_layout.specs.declared.limits.TheConstants.{MAX_ENTRIES}
use Rattle.store_layout.specs.declared.statement.Statement.{Statement}
use Rattle.tx_table.specs.Statuses.{status_relation}
use Rattle.transactions.specs.CountedRows.{counts as counts_of}
use Rattle.transactions.specs.Laws.{ShowAlike}
use Rattle.transactions.specs.TransactionsState.{TransactionsState}
use Rattle.index_contents.specs.IndexContents.{relation_of as index_relation}
use Rattle.reply_texts.specs.declared.dropped.Dropped.{Dropped}
use Rattle.coverage.specs.Accounts.{Account, AccountIs, Accounts, Adds, Asked}
use Rattle.coverage.specs.Machines.{ShownTable, Unseen, table_state, task_turned}
use Rattle.coverage.specs.Table.{Resting, TableState, Task}
use Rattle.coverage.specs.TablePoints.{does_point}
use Rattle.coverage.specs.TableSteps.{Does, Settles}
use Rattle.coverage.proofs.Views.{pick_other, pick_same}
use Rattle.index_steps.specs.IndexTuples.{index_at}
use Rattle.index_steps.specs.ShownRows.{shown_by}
use Rattle.brin_insert.specs.AskedFor.{AreRequestsOf}
use Rattle.script_semantics.specs.Beginnings.{Begins, IsIn, TakesUp}
use Rattle.script_semantics.specs.Names.{dropped_of}
use Rattle.script_semantics.specs.Place.{Hand as HandAt, Place, accounts_at, database_at, new_hand}
use Rattle.script_semantics.specs.Requests.{Course, MakesAll, NoneLeft}
use Rattle.script_semantics.specs.StatementSteps.{Ended, MakesAt, Moved, Replies, Steps, StepsTo, course_of, reply_after}
use Rattle.session_parts.specs.declared.hand.Hand.{Hand}
use Rattle.session_parts.specs.Hands.{HandShows, statement_of}
use Rattle.session_parts.specs.HandsAsk.{IsNoInsert}
use Rattle.session_parts.specs.HandsInTables.{IsTaskOf, table_in}
use Rattle.session_parts.specs.Leaving.{LeadsTo, StepsInTable}
use Rattle.session_parts.specs.PlacesAfter.{TurnsAsking, place_asking, point_in}
use Rattle.session_parts.specs.ShowsPlace.{IsOfTransaction, IsPlaceOf, ShowsTable}
use Rattle.session_parts.specs.StoreStates.{ShownStore, dropped_in, hand_in}
use Rattle.session_parts.proofs.Leads.{no_request_leads, nothing_leaves_slots, same_counts_few}
use Rattle.session_parts.proofs.Asks.{none_asked}
use Rattle.session_parts.proofs.Places.{asking_step_is_shown}
use Rattle.session_parts.proofs.Steps.{asking_leads, led, machine_asks, not_pruned, table_after, turn_asks, turned as turn_made, updated_here}
use Rattle.session_parts.proofs.Tables.{own_table_goes_on, same_blocks}
use Rattle.session_maintenance.proofs.UpkeepAt.{IsUpkeep, UpkeepLeft, hand_is, here, pages_show, table, told_is, unseen_here, upkeep_shows, w}
use Rattle.session_maintenance.proofs.UpkeepPoints.{IsPlain}

pub no_prune : (point : Point) → IsPlain point → point ≢ points.Prune
no_prune point plain is = subst IsPlain is plain

-- a step under a plain name enters nothing
pub plain_enters : (point : Point) (p : Place) (n : ℕ) (hand : HandAt) → IsPlain point → MakesAt point p n hand (course_of p hand)
plain_enters points.Row p n hand plain = absurd plain
plain_enters points.Mark p n hand plain = absurd plain
plain_enters point p n hand plain = refl

-- it replies, and may have taken up the summary that was asked for first
asking_replies : (p : Place) (n table : ℕ) (hand : HandAt) (v : TableState) (account : Account) (queue : List Asked) (counts : ℕ → Bool) (point : Point) (c : Course) (reply : Reply)
    → (turns : TurnsAsking p n hand.statement table v account queue) → point_in turns ≡ Some point → v.task n ≡ Resting → MakesAll p.opening n hand.statement (course_of p hand) c
    → Some reply ≡ reply_after p.layout table (turns.step.between.task n) account c.answers hand.statement
    → StepsTo p n hand (Ended reply) (place_asking p n table None v account counts c.journal queue)
asking_replies p n table hand v account queue counts point c reply turns named rests makes said =
    Replies point c reply (led p n table hand.statement None v account queue counts c.journal turns) (turn_made p n table hand.statement None v account queue counts c.journal turns) named
    (ap (λ (x : TableState). x.task n) (table_after p n table None v account counts c.journal) ∙ rests) makes
    (said ∙ ap (λ (a : Account). reply_after p.layout table (turns.step.between.task n) a c.answers hand.statement) (sym (updated_here p.accounts n account)))
    (asking_leads p n table None v account counts c.journal queue)

-- with this summarise lock, at this task, and with these tuples unnamed
abbrev pub turned : (n : ℕ) → Option ℕ → Task → (ℕ → Spot → Bool) → Unseen → Unseen
turned n held task unnamed u = record u { summarise_lock = held; task = (task_turned n task u).task; unnamed = unnamed }

-- what the machine's step is in the table: under this point, with this made of the account, and with these summaries asked for behind it; the session is at
-- these within the step and behind it, and holds the summarise lock behind it so
pub record TurnsSo (n table : ℕ) (statement : Statement) (p : Place) (shown then : ShownTable) (u : Unseen) (point : Point) (account : Account) (between after : Task) (held : Option ℕ) (unnamed : ℕ → Spot → Bool)
    (queue : List Asked) : Type 0 where
  pub on : IsIn p n statement table
  pub takes : TakesUp statement (u.task n) p.queue queue
  pub does : Does n (table_state shown u) (table_state then (turned n (Some n) between unnamed u))
  pub point_is : does_point n (table_state shown u) (table_state then (turned n (Some n) between unnamed u)) does ≡ Some point
  pub adds : (b : Accounts) → AccountIs n (record (accounts_at p table) { queue = queue }) b account → Adds n (table_state shown u) (table_state then (turned n (Some n) between unnamed u)) does (accounts_at p table) b
  pub settles : Settles n (table_state then (turned n (Some n) between unnamed u)) (table_state then (turned n held after unnamed u))
  pub own : (u.task n ≢ Resting) ⊎ Begins p n (table_state shown u) statement between
  pub plain : IsPlain point

-- the machine made a step in its table, which is shown then
pub record MadeIn (old new : ShownStore) (n : ℕ) (was : Hand) (index : ℕ) (Here : Task → Type 0) (account : Account) (is : IsUpkeep old.layout was index Here account) (had : hand_in old.hands n ≡ Some was) (p : Place) (shown : IsPlaceOf old p) (point : Point) : Type 0 where
  pub adds : Account → Account
  pub between : Task
  pub after : Task
  pub held : Option ℕ
  pub unnamed : ℕ → Spot → Bool
  pub queue : List Asked
  pub requests : AreRequestsOf old.layout new.queue queue
  pub turns : TurnsSo n (index_at old.layout index).table (statement_of was) p (pages_show old n was index Here account is had p shown)
      (shown_by old.layout new.pages new.locks (index_at old.layout index).table (here old n was index Here account is had p shown).blocks) (unseen_here old n was index Here account is had p shown) point (adds (p.accounts n)) between after held unnamed queue
  pub right : held ≡ right_of new.rights (index_at old.layout index).table

module _ (old new : ShownStore) (n : ℕ) (was : Hand) (index : ℕ) (Here : Task → Type 0) (account : Account) (is : IsUpkeep old.layout was index Here account) (left : UpkeepLeft old new n was index) (p : Place) (shown : IsPlaceOf old p) (alike : ShowAlike) where
  abbrev number : ℕ
  number = table old n was index Here account is left.had p shown

  abbrev stored : List Status
  stored = shown.database.stored

  abbrev at_here : ShowsTable old stored number (p.tables number)
  at_here = here old n was index Here account is left.had p shown

  abbrev u : Unseen
  u = unseen_here old n was index Here account is left.had p shown

  abbrev statement : Statement
  statement = statement_of was

  abbrev pub then_shown : ShownTable
  then_shown = shown_by old.layout new.pages new.locks number at_here.blocks

  -- the pages of statuses and of heaps stay
  same_statuses : (block : ℕ) → block_at new.pages status_relation block ≡ block_at old.pages status_relation block
  same_statuses block = left.pages (record { relation = status_relation; block = block }) (λ (same : status_relation ≡ index_relation old.layout index). absurd (omega (arith, same)))

  same_heaps : (other block : ℕ) → other < length old.layout.schema.tables → block_at new.pages (heap_of other) block ≡ block_at old.pages (heap_of other) block
  same_heaps other block below = left.pages (record { relation = heap_of other; block = block }) (λ (same : heap_of other ≡ index_relation old.layout index). absurd (omega (arith, same, below)))

  pub has_then : HasBlocks old.layout new.pages number at_here.blocks
  has_then = same_blocks old.layout old.pages new.pages number at_here.blocks (λ block. same_heaps number block is.below) at_here.has

  pub leads_so : (at : Option HandAt) (so_far : Account) → HandShows (hand_in new.hands n) at so_far
      → ((hand : Hand) → hand_in new.hands n ≡ Some hand → IsOfTransaction (transaction_of new.transactions.opens n) (finite.get (database_at p).sessions n) hand) → LeadsTo old new p n at so_far
  leads_so at so_far hand own = no_request_leads alike old new p n at so_far shown left.entries left.transactions same_statuses same_heaps (record { hand = hand; own = own; order = left.order })

  steps_in : ((other : ℕ) → table_in old.layout (hand_in new.hands n) ≡ Some other → other ≡ number) → StepsInTable n number old new
  steps_in then = record {
    below = is.below;
    pages = λ place apart. left.pages place (λ same. apart (inr (index, is.within, refl, same)));
    locks = left.locks;
    rights = left.rights;
    was_in = λ other there. is.in_table other (ap (table_in old.layout) (sym left.had) ∙ there);
    is_in = then;
  }

  counts_same : (t : ℕ) → counts_of new.transactions stored t ≡ counts_of old.transactions stored t
  counts_same t = ap (λ (s : TransactionsState). counts_of s stored t) left.transactions

  fits : length new.entries ≤ MAX_ENTRIES
  fits = subst (λ (l : List Entry). length l ≤ MAX_ENTRIES) (sym left.entries) left.few

  journal_is : new.entries ≡ p.journal
  journal_is = left.entries ∙ sym shown.journal

  -- behind a step whose table is shown then, and with these summaries asked for, the store shows this place, whatever the session has in hand
  pub behind : (at : Option HandAt) (v : TableState) (so_far : Account) (queue : List Asked) → AreRequestsOf old.layout new.queue queue → HandShows (hand_in new.hands n) at so_far
      → ((hand : Hand) → hand_in new.hands n ≡ Some hand → IsOfTransaction (transaction_of new.transactions.opens n) (finite.get (database_at p).sessions n) hand)
      → ((other : ℕ) → table_in old.layout (hand_in new.hands n) ≡ Some other → other ≡ number) → ShowsTable new stored number v
      → so_far.dropped ≡ (p.accounts n).dropped → IsNoInsert (hand_in new.hands n)
      → IsPlaceOf new (place_asking p n number at v so_far (counts_of new.transactions stored) new.entries queue)
  behind at v so_far queue requests hand own there shows told asks = asking_step_is_shown old new p n number at v so_far queue shown left.others (steps_in there) (same_counts_few old new stored stored counts_same)
      (leads_so at so_far hand own) shows (record {
        requests = requests;
        told = ap (λ (l : List (List Dropped)). dropped_in l n) left.dropped ∙ shown.told n ∙ ap (dropped_of old.layout) (sym told);
        others = λ m apart. ap (λ (l : List (List Dropped)). dropped_in l m) left.dropped;
        hand = none_asked old.layout (hand_in new.hands n) so_far.dropped asks;
      })

  module _ (point : Point) (made : MadeIn old new n was index Here account is left.had p shown point) where
    abbrev between : Task
    between = made.between

    abbrev after : Task
    after = made.after

    abbrev within : TableState
    within = table_state then_shown (turned n (Some n) between made.unnamed u)

    abbrev v : TableState
    v = table_state then_shown (turned n made.held after made.unnamed u)

    within_is : within.task n ≡ between
    within_is = pick_same n between (u.task n)

    v_is : v.task n ≡ after
    v_is = pick_same n after (u.task n)

    abbrev account_then : Account
    account_then = made.adds (p.accounts n)

    turns : (turns : TurnsAsking p n statement number v account_then made.queue) × (point_in turns ≡ Some point) × (turns.step.between ≡ within)
    turns = machine_asks p n number statement (w old n was index Here account is left.had p shown) within v point account_then made.queue at_here.shown made.turns.takes made.turns.on
        made.turns.does made.turns.point_is made.turns.adds
        (not_pruned p n (w old n was index Here account is left.had p shown) within made.turns.does point made.turns.point_is (no_prune point made.turns.plain)) made.turns.settles own
      where
        own : (u.task n ≢ Resting) ⊎ Begins p n (w old n was index Here account is left.had p shown) statement (within.task n)
        own = subst (λ (t : Task). (u.task n ≢ Resting) ⊎ Begins p n (w old n was index Here account is left.had p shown) statement t) (sym within_is) made.turns.own

    table_then : IsTaskOf old.layout number at_here.blocks new.transactions.tx stored (transaction_of new.transactions.opens n) (hand_in new.hands n) after → ShowsTable new stored number v
    table_then is_at = own_table_goes_on old new stored n number (p.tables number) v (turned n made.held after made.unnamed u) at_here.blocks at_here left.others turns.0.step refl has_then made.right
        (λ t. at_here.counts t ∙ sym (counts_same t)) (λ m other. pick_other m n after (u.task m) other)
        (subst (λ (t : Task). IsTaskOf old.layout number at_here.blocks new.transactions.tx stored (transaction_of new.transactions.opens n) (hand_in new.hands n) t) (sym v_is) is_at)
        (nothing_leaves_slots old stored n at_here.blocks)

    told_then : account_then ≡ made.adds account
    told_then = ap made.adds (told_is old n was index Here account is left.had p shown)

    -- it asks for no summary
    asks_none : (next_account : Account) → made.adds account ≡ next_account → next_account.dropped ≡ [] → account_then.dropped ≡ (p.accounts n).dropped
    asks_none next_account goes none = ap (λ (a : Account). a.dropped) (told_then ∙ goes) ∙ none ∙ sym is.none ∙ sym (ap (λ (a : Account). a.dropped) (told_is old n was index Here account is left.had p shown))

    -- it goes on
    module _ (next : Hand) (HereNext : Task → Type 0) (next_account : Account) (stays : IsUpkeep old.layout next index HereNext next_account) (same : statement_of next ≡ statement_of was) (now : hand_in new.hands n ≡ Some next)
        (at_next : HereNext after) (busy : after ≢ Resting) (goes : made.adds account ≡ next_account) where
      next_shows : HandShows (hand_in new.hands n) (Some (new_hand statement)) account_then
      next_shows = subst (λ (s : Statement). HandShows (hand_in new.hands n) (Some (new_hand s)) account_then) same
          (upkeep_shows old.layout next index HereNext next_account stays (hand_in new.hands n) now account_then (told_then ∙ goes))

      next_at : IsTaskOf old.layout number at_here.blocks new.transactions.tx stored (transaction_of new.transactions.opens n) (hand_in new.hands n) after
      next_at = subst (λ (h : Option Hand). IsTaskOf old.layout number at_here.blocks new.transactions.tx stored (transaction_of new.transactions.opens n) h after) (sym now)
          (stays.is_task number at_here.blocks new.transactions.tx stored (transaction_of new.transactions.opens n) after ((λ own. at_next), (λ away. absurd (away refl))))

      pub goes_on : (q : Place) × IsPlaceOf new q × Steps p n (Moved point) q
      goes_on = (
        place_asking p n number (Some (new_hand statement)) v account_then (counts_of new.transactions stored) new.entries made.queue,
        behind (Some (new_hand statement)) v account_then made.queue made.requests next_shows
            (λ h there. subst (λ (x : Hand). IsOfTransaction (transaction_of new.transactions.opens n) (finite.get (database_at p).sessions n) x) (same_Some next h (sym now ∙ there)) (stays.own (transaction_of new.transactions.opens n) (finite.get (database_at p).sessions n)))
            (λ other there. stays.in_table other (ap (table_in old.layout) (sym now) ∙ there)) (table_then next_at) (asks_none next_account goes stays.none) (subst IsNoInsert (sym now) stays.no_insert),
        record {
          hand = new_hand statement;
          in_hand = hand_is old n was index Here account is left.had p shown;
          steps = subst (λ (l : List Entry). StepsTo p n (new_hand statement) (Moved point) (place_asking p n number (Some (new_hand statement)) v account_then (counts_of new.transactions stored) l made.queue)) (sym journal_is)
              (turn_asks p n number (new_hand statement) v account_then made.queue (counts_of new.transactions stored) point (course_of p (new_hand statement)) turns.0 turns.1
              (λ rests. busy (sym v_is ∙ rests)) (plain_enters point p n (new_hand statement) made.turns.plain));
          fits = fits;
        },
      )

    -- it replies
    module _ (now : hand_in new.hands n ≡ None) (rests : after ≡ Resting) (next_account : Account) (goes : made.adds account ≡ next_account) (none : next_account.dropped ≡ []) (reply : Reply)
        (replies : Some reply ≡ reply_after p.layout number between next_account [] statement) where
      pub is_done : (q : Place) × IsPlaceOf new q × Steps p n (Ended reply) q
      is_done = (
        place_asking p n number None v account_then (counts_of new.transactions stored) new.entries made.queue,
        behind None v account_then made.queue made.requests
            (subst (λ (h : Option Hand). HandShows h None account_then) (sym now) refl)
            (λ h there. absurd (none-some h (sym now ∙ there)))
            (λ other there. absurd (none-some other (ap (table_in old.layout) (sym now) ∙ there)))
            (table_then (subst (λ (h : Option Hand). IsTaskOf old.layout number at_here.blocks new.transactions.tx stored (transaction_of new.transactions.opens n) h after) (sym now) rests)) (asks_none next_account goes none) (subst IsNoInsert (sym now) tt),
        record {
          hand = new_hand statement;
          in_hand = hand_is old n was index Here account is left.had p shown;
          steps = subst (λ (l : List Entry). StepsTo p n (new_hand statement) (Ended reply) (place_asking p n number None v account_then (counts_of new.transactions stored) l made.queue)) (sym journal_is)
              (asking_replies p n number (new_hand statement) v account_then made.queue (counts_of new.transactions stored) point (course_of p (new_hand statement)) reply turns.0 turns.1 (v_is ∙ rests)
              (NoneLeft (course_of p (new_hand statement)) (is.asks n [])) told);
          fits = fits;
        },
      )
        where
          told : Some reply ≡ reply_after p.layout number (turns.0.step.between.task n) account_then [] statement
          told = replies ∙ ap (λ (a : Account). reply_after p.layout number between a [] statement) (sym (told_then ∙ goes))
              ∙ ap (λ (t : Task). reply_after p.layout number t account_then [] statement) (sym (ap (λ (x : TableState). x.task n) turns.2 ∙ within_is))
