-- a row that is put, as a step of the place that the store shows
use Rattle.std.proofs.Common.{◌≡◌, ◌≢◌, inl, inr, ℕ, ◌+◌, ◌<◌, ◌≤◌, false, List, [], ◌∷◌, ◌++◌, length, Option, None, Some, refl, sym, ap, subst, ◌∙◌, arith, length-append}
use Rattle.std.specs.FinMap as finite
use Rattle.std.proofs.lemmas.Bool.{false≢true}
use Rattle.std.proofs.lemmas.Option.{none-some, same_Some}
use Rattle.block_model.specs.declared.place.Place.{Place as PagePlace}
use Rattle.block_model.specs.declared.place.Spot.{Spot}
use Rattle.block_model.specs.declared.reply.Point.{Point}
use Rattle.block_model.specs.declared.reply.Point.TheVariants as points
use Rattle.block_model.specs.declared.reply.Reply.TheVariants as replies
use Rattle.block_model.specs.declared.request.Entry.{Entry}
use Rattle.block_model.specs.declared.request.Request.TheVariants as requests
use Rattle.block_model.specs.declared.request.Tag.TheVariants as tags
use Rattle.block_model.specs.declared.row.Row.{Row}
use Rattle.block_model.specs.declared.value.Value.{Value}
use Rattle.block_model.specs.DatabaseState.{DatabaseState, OpenTransaction}
use Rattle.block_model.specs.RequestEffect.{Answer, Inserted, next_row, reply_to}
use Rattle.page_layout.specs.PageContents.{Slot}
use Rattle.page_map.specs.PageMap.{page_at}
use Rattle.page_locks.specs.declared.did.Did.{Did}
use Rattle.page_locks.specs.LockHolders.{holder}
use Rattle.page_locks.specs.RightHolders.{right_of}
use Rattle.recovery.specs.PageOrder.{IsIndexInOrder}
use Rattle.heap_rows.specs.HeapBlocks.{HasBlocks}
use Rattle.heap_rows.specs.Heaps.{relation_of as heap_of, slots_a_page}
use Rattle.heap_rows.specs.RowPlaces.{FillsSlot, new_row}
use Rattle.snapshot_core.specs.declared.statuses.Status.{Status}
use Rattle.snapshot_core.specs.declared.sessions.Open.{Open}
use Rattle.snapshot_core.specs.SessionChanges.{with_next_k}
use Rattle.snapshot_core.specs.StoredVersions.{transaction_of}
use Rattle.store_layout.specs.declared.limits.TheConstants.{MAX_ENTRIES}
use Rattle.store_layout.specs.declared.statement.Statement.TheVariants as statements
use Rattle.store_layout.specs.StatementRequests.{request_entry}
use Rattle.transactions.specs.CountedRows.{counts as counts_of}
use Rattle.transactions.specs.Sessions.{IsCopyOf}
use Rattle.transactions.specs.ShowsDatabase.{DoesRequest}
use Rattle.transactions.specs.StoredRows.{PutsRow}
use Rattle.transactions.specs.TransactionsState.{TransactionsState, with_row_counted}
use Rattle.index_contents.specs.IndexContents.{index_page}
use Rattle.reply_texts.specs.declared.dropped.Dropped.{Dropped}
use Rattle.coverage.specs.Accounts.{Account, no_account}
use Rattle.coverage.specs.GoingOn.{IsInserting}
use Rattle.coverage.specs.Machines.{Unseen, table_state, task_turned}
use Rattle.coverage.specs.Table.{Reaches, Resting, TableState, Task}
use Rattle.coverage.specs.TableCovered.{IsTableKept}
use Rattle.coverage.proofs.Views.{pick_other, pick_same}
use Rattle.index_steps.specs.ShownRows.{row_in, shown_by}
use Rattle.index_steps.specs.SwapAnswers.{LeavesLocks}
use Rattle.script_semantics.specs.Beginnings.{Begins}
use Rattle.script_semantics.specs.Names.{dropped_of}
use Rattle.script_semantics.specs.Place.{Hand as HandAt, Place, accounts_at, database_at}
use Rattle.script_semantics.specs.Requests.{Course, Enters, MakesOne, NoneLeft, OneMore, entered}
use Rattle.script_semantics.specs.StatementSteps.{Ended, MakesAt, Moved, Steps, course_of}
use Rattle.brin_insert.specs.AskedFor.{AreRequestsOf, NoRequests}
use Rattle.brin_insert.specs.declared.insert.Insert.{Insert}
use Rattle.brin_insert.specs.InsertAnswers.{AccountsCome, DoesWith, InsertDid, InsertGoesTo, InsertStepped, TakesItsSlot, heap_after, relation_at, relation_in}
use Rattle.brin_insert.specs.Inserts.{task_at, task_of, work_of}
use Rattle.brin_insert.specs.RowSteps.{blocks_with}
use Rattle.session_parts.specs.declared.hand.Hand.{Hand}
use Rattle.session_parts.specs.declared.hand.Hand.TheVariants as hands
use Rattle.session_parts.specs.Hands.{HandShows}
use Rattle.session_parts.specs.HandsAsk.{HandAsked}
use Rattle.session_parts.specs.HandsInTables.{IsTaskOf, table_in}
use Rattle.session_parts.specs.Leaving.{LeavesOthers, LocksIn, StepsInTable}
use Rattle.session_parts.specs.PlacesAfter.{TurnsIn, place_after, point_in}
use Rattle.session_parts.specs.ShowsPlace.{IsOfTransaction, IsPlaceOf, IsRowOf, ShowsTable, is_put}
use Rattle.session_parts.specs.StoreStates.{ShownStore, dropped_in, hand_in}
use Rattle.session_inserts.proofs.AtIndex.{put_of}
use Rattle.session_parts.proofs.Steps.{not_pruned, takes_none}
use Rattle.session_inserts.proofs.IndexStep.{is_no_work, not_resting, put_shown}
use Rattle.session_inserts.proofs.Opens.{open_here}
use Rattle.session_inserts.proofs.Points.{row_point}
use Rattle.session_inserts.specs.TakenLaws.{RowLaws}

-- the row that the session's transaction puts next
abbrev pub row_for : (table : ℕ) → List Value → Open → Row
row_for table values o = record { table = table; id = record { t = o.t; k = o.next_k }; values = values }

-- before its first step
abbrev pub begun_hand : (table : ℕ) → List Value → HandAt
begun_hand table values = record { statement = statements.Insert table values; answers = [] }

pub begun_is : (table : ℕ) (values : List Value) (at : Option HandAt) (account : Account) → HandShows (Some (hands.Puts table values)) at account → at ≡ Some (begun_hand table values)
begun_is table values at account (h, is, statement, answers, tells) = is ∙ ap Some (λ j. record { statement = statement j; answers = answers j })

pub begun_tells : (table : ℕ) (values : List Value) (at : Option HandAt) (account : Account) → HandShows (Some (hands.Puts table values)) at account → account ≡ no_account
begun_tells table values at account (h, is, statement, answers, tells) = tells

-- what the step that put the row left of the store, which shows a place before it
pub record PutsHere (old new : ShownStore) (n table : ℕ) (values : List Value) (before after : Insert) (o : Open) (x : Spot) : Type 0 where
  pub was : hand_in old.hands n ≡ Some (hands.Puts table values)
  pub nowhere : before.place ≡ None
  pub placed : after.place ≡ Some x
  pub row : after.row ≡ before.row
  pub row_is : before.row ≡ row_for table values o
  pub below : table < length old.layout.schema.tables
  pub open_is : transaction_of old.transactions.opens n ≡ Some o
  pub whole : o.failed ≡ false
  pub others : LeavesOthers n old new
  pub pages : (place : PagePlace) → place.relation ≢ relation_at old.layout before → page_at new.pages place ≡ page_at old.pages place
  pub locks : LeavesLocks (holder old.locks) (holder new.locks) (relation_at old.layout before) n
  pub order : (index : ℕ) → index < length old.layout.schema.indexes → IsIndexInOrder old.layout.sizes.index_blocks (index_page old.layout old.pages index)
      → IsIndexInOrder old.layout.sizes.index_blocks (index_page old.layout new.pages index)
  pub rights : new.rights ≡ old.rights
  pub counted : new.transactions ≡ with_row_counted old.transactions n o
  pub entries : new.entries ≡ old.entries ++ request_entry n table (requests.Put values) ∷ []
  pub room : length old.entries + 1 ≤ MAX_ENTRIES
  pub queue : new.queue ≡ old.queue
  pub dropped : new.dropped ≡ old.dropped
  pub none : after.dropped.items ≡ []

row_isnt_prune : points.Row ≡ points.Prune → ⊥
row_isnt_prune is = cc

module _ (laws : RowLaws) (old new : ShownStore) (n table : ℕ) (values : List Value) (before after : Insert) (o : Open) (x : Spot) (puts : PutsHere old new n table values before after o x) where
  abbrev r : Row
  r = row_for table values o

  abbrev e : Entry
  e = request_entry n table (requests.Put values)

  relation : relation_at old.layout before ≡ heap_of table
  relation = ap (λ (place : Option Spot). relation_in old.layout before.row.table place (work_of before)) puts.nowhere ∙ ap (λ (q : Row). heap_of q.table) puts.row_is

  rests : task_of old.layout before ≡ Resting
  rests = ap (λ (place : Option Spot). task_at old.layout before place) puts.nowhere

  steps_in : ((other : ℕ) → table_in old.layout (hand_in new.hands n) ≡ Some other → other ≡ table) → StepsInTable n table old new
  steps_in then = record {
    below = puts.below;
    pages = λ place other. puts.pages place (λ same. other (inl (same ∙ relation)));
    locks = LocksIn (relation_at old.layout before) (inl relation) puts.locks;
    rights = λ other apart. ap (λ (rights : List (Option ℕ)). right_of rights other) puts.rights;
    was_in = λ other is. absurd (none-some other (ap (table_in old.layout) (sym puts.was) ∙ is));
    is_in = then;
  }

  module _ (p : Place) (shown : IsPlaceOf old p) where
    abbrev stored : List Status
    stored = shown.database.stored

    abbrev shows : ShowsTable old stored table (p.tables table)
    shows = shown.tables table puts.below

    abbrev u : Unseen
    u = shows.unseen

    abbrev now : List (List Slot)
    now = blocks_with old.layout table r.id values x shows.blocks

    abbrev w : TableState
    w = table_state (shown_by old.layout old.pages old.locks table shows.blocks) u

    task_here : u.task n ≡ Resting
    task_here = subst (λ (h : Option Hand). IsTaskOf old.layout table shows.blocks old.transactions.tx stored (transaction_of old.transactions.opens n) h (u.task n)) puts.was (shows.tasks n)

    kept : IsTableKept w
    kept = subst IsTableKept shows.shown shows.kept

    hand_here : p.hands n ≡ Some (begun_hand table values)
    hand_here = begun_is table values (p.hands n) (p.accounts n) (subst (λ (h : Option Hand). HandShows h (p.hands n) (p.accounts n)) puts.was (shown.hands n))

    told_here : p.accounts n ≡ no_account
    told_here = begun_tells table values (p.hands n) (p.accounts n) (subst (λ (h : Option Hand). HandShows h (p.hands n) (p.accounts n)) puts.was (shown.hands n))

    abbrev Copy : Type 0
    Copy = (y : OpenTransaction) × (finite.get (database_at p).sessions n ≡ Some y) × IsCopyOf o y

    copy : Copy
    copy = (laws.sessions old.layout old.pages old.transactions (database_at p) shown.database).shown n o puts.open_is

    row_is_next : r ≡ next_row copy.0 table values
    row_is_next = λ j. record { table = table; id = record { t = sym copy.2.t j; k = sym copy.2.next_k j }; values = values }

    same_counts : (t : ℕ) → counts_of new.transactions stored t ≡ counts_of old.transactions stored t
    same_counts t = ap (λ (s : TransactionsState). counts_of s stored t) puts.counted ∙ laws.counts old.transactions stored n t o puts.open_is

    journal_is : new.entries ≡ p.journal ++ e ∷ []
    journal_is = puts.entries ∙ ap (λ (l : List Entry). l ++ e ∷ []) (sym shown.journal)

    fits : length new.entries ≤ MAX_ENTRIES
    fits = let many : length new.entries ≡ length (old.entries ++ e ∷ []) = ap (λ (l : List Entry). length l) puts.entries in omega (arith, many, length-append old.entries (e ∷ []), puts.room)

    module _ (answer : Did) (stepped : InsertStepped old.layout old.pages new.pages old.locks new.locks n before after answer shows.blocks) where
      -- the same with the row as it is
      has : HasBlocks old.layout new.pages table now
      has =
          subst (λ (place : Option Spot). HasBlocks old.layout new.pages table (heap_after old.layout r None place shows.blocks)) puts.placed
          (subst (λ (place : Option Spot). HasBlocks old.layout new.pages table (heap_after old.layout r place after.place shows.blocks)) puts.nowhere
          (subst (λ (q : Row). HasBlocks old.layout new.pages q.table (heap_after old.layout q before.place after.place shows.blocks)) puts.row_is stepped.has))

      fills : FillsSlot (slots_a_page old.layout table) x (new_row r.id values) shows.blocks
      fills =
          subst (λ (place : Option Spot). TakesItsSlot old.layout r None place shows.blocks) puts.placed
          (subst (λ (place : Option Spot). TakesItsSlot old.layout r place after.place shows.blocks) puts.nowhere
          (subst (λ (q : Row). TakesItsSlot old.layout q before.place after.place shows.blocks) puts.row_is stepped.slot))

      abbrev Came : (blocks : List (List Slot)) → (at : ℕ) → Task → Type 0
      Came blocks at task = InsertDid n before.at (shown_by old.layout old.pages old.locks at shows.blocks) (shown_by old.layout new.pages new.locks at blocks) task (task_of old.layout after) answer

      pub came : Came now table Resting
      came =
          subst (λ (place : Option Spot). Came (heap_after old.layout r None place shows.blocks) table Resting) puts.placed
          (subst (λ (place : Option Spot). Came (heap_after old.layout r place after.place shows.blocks) table Resting) puts.nowhere
          (subst (λ (q : Row). Came (heap_after old.layout q before.place after.place shows.blocks) q.table Resting) puts.row_is
          (subst (λ (task : Task). Came (heap_after old.layout before.row before.place after.place shows.blocks) before.row.table task) rests stepped.came)))

      puts_row : PutsRow old.layout old.pages new.pages table x (new_row r.id values)
      puts_row = record { blocks = shows.blocks; has = shows.has; fills = fills; takes = has; others = λ place other. puts.pages place (λ same. other (same ∙ relation)) }

      does : DoesRequest old.layout new.pages new.transactions (database_at p) e (Inserted r.id)
      does = subst (λ (s : TransactionsState). DoesRequest old.layout new.pages s (database_at p) e (Inserted r.id)) (sym puts.counted)
          (laws.put old.layout old.pages new.pages old.transactions (database_at p) n table o x values shown.database puts.open_is puts.below puts_row)

      reply : reply_to (database_at p) e ≡ Inserted r.id
      reply = ap (λ (z : DatabaseState × Answer). z.1) does.1

      abbrev course : Course
      course = record { journal = new.entries; answers = Inserted r.id ∷ [] }

      course_is : entered p.opening (course_of p (begun_hand table values)) e ≡ course
      course_is = λ j. record { journal = sym journal_is j; answers = reply j ∷ [] }

      one_more : MakesOne p.opening n (statements.Insert table values) (course_of p (begun_hand table values)) course
      one_more = subst (λ (c : Course). MakesOne p.opening n (statements.Insert table values) (course_of p (begun_hand table values)) c) course_is (Enters e refl)

      -- the step of the table
      module _ (point : Point) (goes : InsertGoesTo n (shown_by old.layout old.pages old.locks table shows.blocks) (shown_by old.layout new.pages new.locks table now) Resting (task_of old.layout after) point) where
        abbrev then : Unseen
        then = task_turned n (task_of old.layout after) u

        abbrev v : TableState
        v = table_state (shown_by old.layout new.pages new.locks table now) then

        abbrev between : Task
        between = (goes u task_here kept).0

        abbrev mid : TableState
        mid = table_state (shown_by old.layout new.pages new.locks table now) (task_turned n between u)

        abbrev did_so : DoesWith n w mid point (AccountsCome n (shown_by old.layout old.pages old.locks table shows.blocks) Resting)
        did_so = (goes u task_here kept).1

        begun : (mid.task n ≡ Reaches x.block x.slot r 0) × (point ≡ points.Row)
        begun = row_point n w mid point x.block x.slot r task_here (ap (row_in table) fills.0) (ap (row_in table) fills.1.there) did_so.does did_so.point_is

        begins : Begins p n w (statements.Insert table values) (mid.task n)
        begins = inr (copy.0, x.block, x.slot, copy.1, begun.0 ∙ ap (λ (q : Row). Reaches x.block x.slot q 0) row_is_next)

        abbrev Turns : Type 0
        Turns = (turns : TurnsIn p n (statements.Insert table values) table v no_account) × (point_in turns ≡ Some point) × (turns.step.between ≡ mid)

        turns : Turns
        turns = laws.machine p n table (statements.Insert table values) w mid v point no_account p.queue shows.shown
            (takes_none (statements.Insert table values) (w.task n) p.queue p.queue (omega arith) (is_no_work r)) refl did_so.does did_so.point_is (λ b has. did_so.adds (accounts_at p table) b has)
            (not_pruned p n w mid did_so.does point did_so.point_is (λ is. row_isnt_prune (sym begun.1 ∙ is))) (goes u task_here kept).2 (inr begins)

        task_then : v.task n ≡ task_of old.layout after
        task_then = pick_same n (task_of old.layout after) (u.task n)

        abbrev Behind : Option HandAt → Type 0
        Behind at = IsPlaceOf new (place_after p n table at v no_account (counts_of new.transactions stored) new.entries)

        behind : (at : Option HandAt) → HandShows (hand_in new.hands n) at no_account
            → ((hand : Hand) → hand_in new.hands n ≡ Some hand → IsOfTransaction (transaction_of new.transactions.opens n) (finite.get does.0.sessions n) hand)
            → ((other : ℕ) → table_in old.layout (hand_in new.hands n) ≡ Some other → other ≡ table)
            → IsTaskOf old.layout table now new.transactions.tx stored (transaction_of new.transactions.opens n) (hand_in new.hands n) (then.task n) → HandAsked old.layout (hand_in new.hands n) [] → Behind at
        behind at hand_then own_then in_then is_at asked = laws.shown old new p n table at v no_account p.queue shown puts.others (steps_in in_then)
            (laws.few old new stored stored same_counts)
            (laws.leads old new p n at no_account e (Inserted r.id) shown refl (laws.legal (database_at p) n table copy.0 values tags.Ok copy.1 (copy.2.failed ∙ puts.whole)) puts.entries does tt
            (laws.within old new n table o x (new_row r.id values) puts.open_is puts.counted puts_row refl)
            (record {
              hand = hand_then;
              own = λ hand is. subst (λ (s : DatabaseState). IsOfTransaction (transaction_of new.transactions.opens n) (finite.get s.sessions n) hand) (sym (ap (λ (z : DatabaseState × Answer). z.0) does.1)) (own_then hand is);
              order = puts.order;
            }))
            (laws.own old new stored n table (p.tables table) v then now shows puts.others turns.0.step refl has
            (shows.lock ∙ ap (λ (rights : List (Option ℕ)). right_of rights table) (sym puts.rights))
            (λ t. shows.counts t ∙ sym (same_counts t))
            (λ m other. pick_other m n (task_of old.layout after) (u.task m) other)
            is_at (laws.slots laws.unseen old (database_at p) stored n o (slots_a_page old.layout table) x (new_row r.id values) shows.blocks shown.database puts.open_is refl fills))
            (record {
              requests = subst (λ (l : List (ℕ × ℕ)). AreRequestsOf old.layout l p.queue) (sym puts.queue) shown.queue;
              told = ap (λ (l : List (List Dropped)). dropped_in l n) puts.dropped ∙ shown.told n ∙ ap (λ (a : Account). dropped_of old.layout a.dropped) told_here;
              others = λ m apart. ap (λ (l : List (List Dropped)). dropped_in l m) puts.dropped;
              hand = asked;
            })

        after_is : after.row ≡ r
        after_is = puts.row ∙ puts.row_is

        -- the insert goes on
        module _ (is_now : hand_in new.hands n ≡ Some (hands.Inserts after)) (inserting : IsInserting (task_of old.layout after)) where
          row_then : IsRowOf (transaction_of new.transactions.opens n) (is_put after.place) after.row.id.t after.row.id.k
          row_then = record {
            own = with_next_k o (o.next_k + 1);
            is = ap (λ (s : TransactionsState). transaction_of s.opens n) puts.counted ∙ open_here old.transactions.opens n o (Some (with_next_k o (o.next_k + 1))) puts.open_is;
            whole = puts.whole;
            number = ap (λ (q : Row). q.id.t) after_is;
            next = λ unput. absurd (false≢true (sym unput ∙ ap is_put puts.placed));
          }

          goes_shown : Behind (Some (put_of r))
          goes_shown = behind (Some (put_of r))
              (subst (λ (h : Option Hand). HandShows h (Some (put_of r)) no_account) (sym is_now) (put_shown after r x no_account puts.placed after_is refl))
              (λ h is. subst (λ (h : Hand). IsOfTransaction (transaction_of new.transactions.opens n) (finite.get does.0.sessions n) h) (same_Some (hands.Inserts after) h (sym is_now ∙ is)) row_then)
              (λ other is. same_Some other table (sym is ∙ ap (table_in old.layout) is_now ∙ ap (λ (q : Row). Some q.table) after_is))
              (subst (λ (h : Option Hand). IsTaskOf old.layout table now new.transactions.tx stored (transaction_of new.transactions.opens n) h (then.task n)) (sym is_now)
              ((λ own. task_then), (λ apart. absurd (apart (ap (λ (q : Row). q.table) after_is)))))
              (subst (λ (h : Option Hand). HandAsked old.layout h []) (sym is_now) (subst (λ (l : List (ℕ × ℕ)). AreRequestsOf old.layout l []) (sym puts.none) NoRequests))

          pub row_goes_on : (q : Place) × IsPlaceOf new q × Steps p n (Moved point) q
          row_goes_on = (
            place_after p n table (Some (put_of r)) v no_account (counts_of new.transactions stored) new.entries,
            goes_shown,
            record {
              hand = begun_hand table values;
              in_hand = hand_here;
              steps = laws.goes p n table (begun_hand table values) v no_account p.queue (counts_of new.transactions stored) point course turns.0 turns.1 (not_resting (v.task n) (subst IsInserting (sym task_then) inserting))
                  (subst (λ (q : Point). MakesAt q p n (begun_hand table values) course) (sym begun.1) one_more);
              fits = fits;
            },
          )

        -- the insert is done: its table has no index
        module _ (is_now : hand_in new.hands n ≡ None) (done : task_of old.layout after ≡ Resting) where
          done_shown : Behind None
          done_shown = behind None
              (subst (λ (h : Option Hand). HandShows h None no_account) (sym is_now) refl)
              (λ h is. absurd (none-some h (sym is_now ∙ is)))
              (λ other is. absurd (none-some other (ap (table_in old.layout) (sym is_now) ∙ is)))
              (subst (λ (h : Option Hand). IsTaskOf old.layout table now new.transactions.tx stored (transaction_of new.transactions.opens n) h (then.task n)) (sym is_now) (task_then ∙ done))
              (subst (λ (h : Option Hand). HandAsked old.layout h []) (sym is_now) tt)

          pub row_is_done : (q : Place) × IsPlaceOf new q × Steps p n (Ended (replies.Inserted r.id)) q
          row_is_done = (
            place_after p n table None v no_account (counts_of new.transactions stored) new.entries,
            done_shown,
            record {
              hand = begun_hand table values;
              in_hand = hand_here;
              steps = laws.replies p n table (begun_hand table values) v no_account (counts_of new.transactions stored) point course (replies.Inserted r.id) turns.0 turns.1 (task_then ∙ done)
                  (OneMore (course_of p (begun_hand table values)) course course one_more (NoneLeft course refl)) refl;
              fits = fits;
            },
          )
