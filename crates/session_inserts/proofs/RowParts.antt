-- the first step of an insert, over the parts of a store
use Rattle.std.proofs.Common.{◌≡◌, ◌≢◌, ℕ, ◌+◌, ◌-◌, ◌*◌, ◌<◌, ◌≤◌, false, List, [], ◌∷◌, ◌++◌, length, Option, None, Some, refl, sym, ap, subst, ◌∙◌, arith, length-append}
use Rattle.std.specs.Prelude.{IsSome}
use Rattle.std.proofs.lemmas.Option.{none-some}
use Rattle.disk_trait.specs.Told.{Told}
use Rattle.block_model.specs.declared.place.Spot.{Spot}
use Rattle.block_model.specs.declared.reply.Point.{Point}
use Rattle.block_model.specs.declared.reply.Refusal.TheVariants as refusals
use Rattle.block_model.specs.declared.reply.Reply.{Reply}
use Rattle.block_model.specs.declared.reply.Reply.TheVariants as replies
use Rattle.block_model.specs.declared.request.Entry.{Entry}
use Rattle.block_model.specs.declared.request.Request.TheVariants as requests
use Rattle.block_model.specs.declared.request.Tag.{Tag}
use Rattle.block_model.specs.declared.request.Tag.TheVariants as tags
use Rattle.block_model.specs.declared.row.Row.{Row}
use Rattle.block_model.specs.declared.row.RowId.{RowId}
use Rattle.block_model.specs.declared.value.Value.{Value}
use Rattle.store_layout.specs.DiskLayout.{DiskLayout}
use Rattle.page_layout.specs.PageContents.{Slot}
use Rattle.page_map.specs.Keeps.{Keeps, Tells}
use Rattle.page_map.specs.PageMap.{PageMap, View, page_at}
use Rattle.page_locks.specs.declared.did.Did.{Did}
use Rattle.page_locks.specs.declared.did.Did.TheVariants as did
use Rattle.page_locks.specs.LockChanges.{GivesAll}
use Rattle.page_locks.specs.LockCounts.{locks_of}
use Rattle.page_locks.specs.LockHolders.{LockState, holder}
use Rattle.heap_rows.specs.HeapBlocks.{OfBlocks}
use Rattle.heap_rows.specs.Heaps.{relation_of as heap_of}
use Rattle.snapshot_core.specs.declared.sessions.Open.{Open}
use Rattle.snapshot_core.specs.SessionChanges.{with_next_k}
use Rattle.snapshot_core.specs.StoredVersions.{transaction_of}
use Rattle.store_layout.specs.declared.limits.TheConstants.{MAX_ENTRIES}
use Rattle.store_layout.specs.declared.statement.Statement.TheVariants as statements
use Rattle.store_layout.specs.StatementRequests.{request_entry, tagged_entry}
use Rattle.tx_table.specs.Statuses.{status_relation}
use Rattle.tx_table.specs.TxState.{IsOver, TxState}
use Rattle.transactions.specs.Sessions.{next_row_of}
use Rattle.transactions.specs.TransactionsState.{TransactionsState, with_row_counted}
use Rattle.coverage.specs.Refusals.{Heap, IsFull, LacksMemory}
use Rattle.coverage.specs.Table.{Resting, TableState}
use Rattle.coverage.specs.TableSteps.{HeapFull, IsHeapFull, RowLacksMemory}
use Rattle.index_steps.specs.ShownRows.{shown_by}
use Rattle.script_semantics.specs.Names.{table_name}
use Rattle.script_semantics.specs.Place.{Place}
use Rattle.script_semantics.specs.StatementSteps.{Ended, ForMemory, LacksRoom, RefusesSo, Steps}
use Rattle.brin_insert.specs.declared.insert.Insert.{Insert}
use Rattle.brin_insert.specs.InsertAnswers.{InsertStepped, IsInsertFull, StandsPlaced, relation_at, relation_in}
use Rattle.brin_insert.specs.InsertLocks.{held_by, stage_of}
use Rattle.brin_insert.specs.Inserts.{HasStepLeft, task_at, task_of, work_of}
use Rattle.session_parts.proofs.FullRooms.{heap_refuses}
use Rattle.session_parts.specs.declared.hand.Hand.{Hand}
use Rattle.session_parts.specs.declared.hand.Hand.TheVariants as hands
use Rattle.session_parts.specs.declared.hand.Stepped.{Stepped}
use Rattle.session_parts.specs.declared.hand.Stepped.TheVariants as stepped
use Rattle.session_parts.specs.declared.parts.Parts.{Parts}
use Rattle.session_parts.specs.HandFits.{FitsHand, IsOwnRow, IsUnderWay, locks_held}
use Rattle.session_parts.specs.HandsInTables.{table_in}
use Rattle.session_parts.specs.JournalState.{JournalState}
use Rattle.session_parts.specs.ShowsPlace.{IsPlaceOf, ShowsPlace}
use Rattle.session_parts.specs.Shares.{hand_share, share_of}
use Rattle.session_parts.specs.StepAnswers.{StaysReady}
use Rattle.session_parts.specs.StepIs.{hand_after}
use Rattle.session_parts.specs.Stepping.{InSomeStore, IsFit, LeavesTheOthers}
use Rattle.index_steps.specs.ShownRows.{ShowsKept}
use Rattle.coverage.specs.TableCovered.{IsTableKept}
use Rattle.session_parts.specs.StoreLaws.{HandChanges}
use Rattle.session_parts.specs.StoreStates.{ShownStore, hand_in, shown_of, store_of, with_hand}
use Rattle.session_parts.specs.UndoneLaws.{FitOfParts, FitOfStores, FitsParts, StepsSo}
use Rattle.session_inserts.proofs.AtIndex.{insert_of}
use Rattle.session_inserts.proofs.Beside.{leaves_others, over_beside, stays_fit}
use Rattle.session_inserts.proofs.NextRow.{next_id}
use Rattle.session_inserts.proofs.OnParts.{MachineLeft}
use Rattle.session_inserts.proofs.Opens.{open_here, open_there}
use Rattle.session_inserts.proofs.Refused.{IsFailing, Refuses}
use Rattle.session_inserts.proofs.Refusing.{LeftRefused, first_is, refused_fits, refused_others, share_whole, theirs, with_these}
use Rattle.session_inserts.proofs.RowRefused.{rests_here, row_lacks_room, row_refused}
use Rattle.session_inserts.proofs.RowStep.{PutsHere, came, row_for, row_goes_on, row_is_done}
use Rattle.session_inserts.specs.Promised.{unpromised}
use Rattle.session_inserts.specs.TakenLaws.{RefusalLaws, RowLaws}

whole_of : (transaction : Option Open) (o : Open) → IsUnderWay transaction → transaction ≡ Some o → o.failed ≡ false
whole_of transaction o under is = subst IsUnderWay is under

pub at_no_heap_status : (layout : DiskLayout) (insert : Insert) → insert.place ≡ None → status_relation ≡ relation_at layout insert → ⊥
at_no_heap_status layout insert none same =
    let e : status_relation ≡ heap_of insert.row.table = same ∙ ap (λ (place : Option Spot). relation_in layout insert.row.table place (work_of insert)) none in
    omega (arith, e)

-- what the put of the row left beside the pages and the locks
pub record PutLeft {D : Type 0} (parts : Parts D) (transactions : TransactionsState) (journal : JournalState) (n : ℕ) (before after : Insert) (o : Open) : Type 0 where
  pub none : after.dropped.items ≡ []
  pub nowhere : before.place ≡ None
  pub open_is : transaction_of parts.transactions.opens n ≡ Some o
  pub next : next_row_of o ≡ Some before.row.id
  pub counted : transactions ≡ with_row_counted parts.transactions n o
  pub entries : journal.entries ≡ parts.journal.entries ++ request_entry n before.row.table (requests.Put before.row.values) ∷ []
  pub promised : journal.promised + 1 ≡ parts.journal.promised
  pub room : length parts.journal.entries + 1 ≤ MAX_ENTRIES

module _ {D : Type 0} (told : D → Told) (changes : HandChanges) (of_parts : FitOfParts told) (of_stores : FitOfStores told) (parts : Parts D) (pages : View D) (locks : LockState) (transactions : TransactionsState) (journal : JournalState) (n : ℕ)
    (before after : Insert) (fit : IsFit told (unpromised parts) n (hands.Puts before.row.table before.row.values)) (left : MachineLeft told parts pages locks n before after) (o : Open) (put : PutLeft parts transactions journal n before after o) where
  abbrev was : Hand
  was = hands.Puts before.row.table before.row.values

  abbrev new : Parts D
  new = with_these parts pages transactions locks journal

  fits : FitsParts told (unpromised parts) n (Some was)
  fits = of_parts (unpromised parts) n was fit

  whole : o.failed ≡ false
  whole = whole_of (transaction_of parts.transactions.opens n) o fits.in_hand.0 put.open_is

  row_is : before.row ≡ row_for before.row.table before.row.values o
  row_is = λ j. record { table = before.row.table; id = next_id o before.row.id put.next j; values = before.row.values }

  abbrev then_open : Open
  then_open = with_next_k o (o.next_k + 1)

  now_is : transaction_of transactions.opens n ≡ Some then_open
  now_is = ap (λ (s : TransactionsState). transaction_of s.opens n) put.counted ∙ open_here parts.transactions.opens n o (Some then_open) put.open_is

  others_open : (m : ℕ) → m ≢ n → transaction_of transactions.opens m ≡ transaction_of parts.transactions.opens m
  others_open m other = ap (λ (s : TransactionsState). transaction_of s.opens m) put.counted ∙ open_there parts.transactions.opens n m (Some then_open) other

  tx_is : transactions.tx ≡ parts.transactions.tx
  tx_is = ap (λ (s : TransactionsState). s.tx) put.counted

  many : length journal.entries ≡ length parts.journal.entries + 1
  many =
      let e = request_entry n before.row.table (requests.Put before.row.values) in
      let same : length journal.entries ≡ length (parts.journal.entries ++ e ∷ []) = ap (λ (l : List Entry). length l) put.entries in
      omega (arith, same, length-append parts.journal.entries (e ∷ []))

  share_was : share_of (Some was) (transaction_of parts.transactions.opens n) ≡ 2
  share_was = share_whole (Some was) (transaction_of parts.transactions.opens n) o put.open_is whole refl

  share_now : (h : Option Hand) → hand_share h ≡ 0 → share_of h (transaction_of transactions.opens n) ≡ 2
  share_now h free = share_whole h (transaction_of transactions.opens n) then_open now_is whole free

  fits_then : (h : Option Hand) → hand_share h ≡ 0 → FitsHand parts.pages.layout (transaction_of transactions.opens n) h → locks_of locks n ≤ locks_held h → FitsParts told new n h
  fits_then h free in_hand own = record {
    session = fits.session;
    over = subst (λ (tx : TxState). IsOver told tx pages) (sym tx_is) (over_beside told parts.transactions.tx parts.pages pages _ (at_no_heap_status parts.pages.layout before put.nowhere) fits.over left.others);
    in_hand = subst (λ (l : DiskLayout). FitsHand l (transaction_of transactions.opens n) h) (sym left.others.leaves.layout) in_hand;
    limit = left.counts.limit ∙ fits.limit;
    own = own;
    held = λ table holds. absurd (none-some table (fits.held table holds));
    rights = fits.rights ∙ ap (λ (l : DiskLayout). length l.schema.tables) (sym left.others.leaves.layout);
    entries = let room = put.room in omega (arith, many, room);
    share = let promised = put.promised in let enough = fits.share in let two = share_now h free in omega (arith, share_was, two, promised, enough);
  }

  others_so : (answer : Stepped) → hand_share (hand_after answer) ≡ 0 → LeavesTheOthers told (unpromised parts) new n was answer
  others_so answer free = leaves_others told changes (unpromised parts) new n was answer (record {
    leaves = left.others.leaves;
    transactions = others_open;
    locks = λ m other. left.counts.adds.others m other;
    dropped = λ m apart. refl;
    rights = refl;
    promised = let promised = put.promised in let two = share_now (hand_after answer) free in omega (arith, share_was, two, promised);
  })

  placed_at : StandsPlaced before.place after.place → (x : Spot) × (after.place ≡ Some x)
  placed_at placed = subst (λ (place : Option Spot). StandsPlaced place after.place) put.nowhere placed

  module _ (names : List (List ℕ)) (hand_list : List (Option Hand)) (has : hand_in hand_list n ≡ Some was) where
    abbrev before_it : ShownStore
    before_it = shown_of (store_of (unpromised parts) names hand_list)

    abbrev after_it : Option Hand → ShownStore
    after_it h = shown_of (store_of new names (with_hand hand_list n h))

    puts : Tells told parts.pages → (x : Spot) → after.place ≡ Some x → (h : Option Hand) → PutsHere before_it (after_it h) n before.row.table before.row.values before after o x
    puts tells x placed h = record {
      was = has;
      nowhere = put.nowhere;
      placed = placed;
      row = left.row;
      row_is = row_is;
      below = fits.in_hand.1;
      open_is = put.open_is;
      whole = whole;
      others = record {
        layout = left.others.leaves.layout;
        names = refl;
        first = ap (λ (tx : TxState). tx.first) tx_is;
        hands = (changes hand_list n was h has).others;
        opens = others_open;
      };
      pages = left.others.pages tells;
      locks = left.leaves;
      order = λ index below ordered. left.order index below tells ordered;
      rights = refl;
      counted = put.counted;
      entries = put.entries;
      room = put.room;
      queue = refl;
      dropped = refl;
      none = put.none;
    }

  abbrev SteppedSo : Did → Type 0
  SteppedSo answer = OfBlocks told parts.pages before.row.table (InsertStepped parts.pages.layout parts.pages.pages pages.pages parts.locks locks n before after answer)

  pub row_moved_so : RowLaws → (point : Point) → SteppedSo (did.Moved point) → HasStepLeft after → StandsPlaced before.place after.place → locks_of locks n ≤ held_by (stage_of after)
      → StepsSo told (unpromised parts) new n was (stepped.Moved point (hands.Inserts after))
  row_moved_so laws point stepped_so step_left placed own = record {
    steps = λ names hand_list has tells ready afterwards p shown.
        let at = placed_at placed in
        let h : Option Hand = Some (hands.Inserts after) in
        let here = puts names hand_list has tells at.0 at.1 h in
        let shows = shown.tables before.row.table here.below in
        let it = stepped_so tells shows.blocks shows.has in
        let did_so = came laws (before_it names hand_list has) (after_it names hand_list has h) n before.row.table before.row.values before after o at.0 here p shown (did.Moved point) it in
        row_goes_on laws (before_it names hand_list has) (after_it names hand_list has h) n before.row.table before.row.values before after o at.0 here p shown (did.Moved point) it point did_so.0
        (changes hand_list n was h has).own did_so.1;
    fit = stays_fit told changes of_stores (unpromised parts) new n was (stepped.Moved point (hands.Inserts after)) (fits_then (Some (hands.Inserts after)) refl (
      subst IsUnderWay (sym now_is) whole,
      left.made,
      step_left,
      subst (λ (place : Option Spot). IsSome place) (sym (placed_at placed).1) refl,
      subst (λ (t : Option Open). IsOwnRow t after.row.id.t) (sym now_is) (ap (λ (r : Row). r.id.t) (left.row ∙ row_is)),
    ) own);
    others = others_so (stepped.Moved point (hands.Inserts after)) refl;
    stays = λ names hand_list has. ap insert_of left.row;
    cause = left.ready;
  }

  pub row_done_so : RowLaws → (point : Point) → SteppedSo (did.Finished point) → StandsPlaced before.place after.place → locks_of locks n ≤ 0
      → StepsSo told (unpromised parts) new n was (stepped.Done (replies.Inserted before.row.id))
  row_done_so laws point stepped_so placed own = record {
    steps = λ names hand_list has tells ready afterwards p shown.
        let at = placed_at placed in
        let here = puts names hand_list has tells at.0 at.1 None in
        let shows = shown.tables before.row.table here.below in
        let it = stepped_so tells shows.blocks shows.has in
        let did_so = came laws (before_it names hand_list has) (after_it names hand_list has None) n before.row.table before.row.values before after o at.0 here p shown (did.Finished point) it in
        let end = row_is_done laws (before_it names hand_list has) (after_it names hand_list has None) n before.row.table before.row.values before after o at.0 here p shown (did.Finished point) it point did_so.0
        (changes hand_list n was None has).own did_so.1 in
        (end.0, end.1, subst (λ (id : RowId). Steps p n (Ended (replies.Inserted id)) end.0) (sym (next_id o before.row.id put.next)) end.2);
    fit = stays_fit told changes of_stores (unpromised parts) new n was (stepped.Done (replies.Inserted before.row.id)) (fits_then None refl tt own);
    others = others_so (stepped.Done (replies.Inserted before.row.id)) refl;
    stays = λ names hand_list has. tt;
    cause = left.ready;
  }

-- where the journal has no room for the put
pub no_room_so : {D : Type 0} (laws : RefusalLaws) (parts : Parts D) (n table : ℕ) (values : List Value) → table < length parts.pages.layout.schema.tables → MAX_ENTRIES ≤ length parts.journal.entries
    → (names : List (List ℕ)) (hand_list : List (Option Hand)) (p : Place) → hand_in hand_list n ≡ Some (hands.Puts table values) → ShowsPlace (store_of parts names hand_list) p → LacksRoom p n
no_room_so laws parts n table values below full names hand_list p has shown =
    row_lacks_room (shown_of (store_of parts names hand_list)) n table values has p shown (shown.tables table below) laws.row laws.refused (subst (λ (l : List Entry). MAX_ENTRIES ≤ length l) (sym shown.journal) full)

-- the table is full, or memory is short
module _ {D : Type 0} (told : D → Told) (changes : HandChanges) (of_stores : FitOfStores told) (laws : RefusalLaws) (parts : Parts D) (pages : View D) (locks : LockState) (transactions : TransactionsState) (journal : JournalState) (n table : ℕ) (values : List Value) (tag : Tag) (failing : IsFailing tag) (o : Open)
    (left : LeftRefused told parts pages transactions locks journal n (hands.Puts table values) o (tagged_entry n table (requests.Put values) tag)) (gives : GivesAll (holder parts.locks) (holder locks) n) (keeps : Keeps told parts.pages pages) (ready_so : StaysReady parts.pages pages) where
  abbrev refuser : Hand
  refuser = hands.Puts table values

  abbrev later : Parts D
  later = with_these parts pages transactions locks journal

  refuses : (names : List (List ℕ)) (hand_list : List (Option Hand)) (has : hand_in hand_list n ≡ Some refuser) → Tells told parts.pages
      → Refuses (shown_of (store_of parts names hand_list)) (shown_of (store_of later names (with_hand hand_list n None))) n table values tag o
  refuses names hand_list has tells = record {
    others = record {
      layout = left.leaves.layout;
      names = refl;
      first = first_is told changes of_stores parts pages transactions locks journal n refuser o (tagged_entry n table (requests.Put values) tag) left;
      hands = (changes hand_list n refuser None has).others;
      opens = theirs told changes of_stores parts pages transactions locks journal n refuser o (tagged_entry n table (requests.Put values) tag) left;
    };
    pages = λ place. ap (λ (m : PageMap). page_at m place) (keeps.pages tells);
    given = gives;
    rights = refl;
    open_is = left.open_is;
    whole = left.whole;
    failed = left.failed;
    entries = left.entries;
    room = left.room;
    queue = refl;
    dropped = refl;
    now = (changes hand_list n refuser None has).own;
    below = left.fits.in_hand.1;
    was_in = λ other is. absurd (none-some other (ap (table_in parts.pages.layout) (sym has) ∙ is));
  }

  -- whatever it is refused for
  refused_so : (reply : Reply) → ((names : List (List ℕ)) (hand_list : List (Option Hand)) → hand_in hand_list n ≡ Some refuser → Tells told parts.pages → (p : Place) → IsPlaceOf (shown_of (store_of parts names hand_list)) p
      → (q : Place) × IsPlaceOf (shown_of (store_of later names (with_hand hand_list n None))) q × Steps p n (Ended reply) q)
      → StepsSo told parts later n refuser (stepped.Done reply)
  refused_so reply steps = record {
    steps = λ names hand_list has tells ready afterwards p shown. steps names hand_list has tells p shown;
    fit = refused_fits told changes of_stores parts pages transactions locks journal n refuser o (tagged_entry n table (requests.Put values) tag) left reply;
    others = refused_others told changes of_stores parts pages transactions locks journal n refuser o (tagged_entry n table (requests.Put values) tag) left reply;
    stays = λ names hand_list has. tt;
    cause = ready_so;
  }

  pub short_so : tag ≡ tags.NoMemory → StepsSo told parts later n refuser (stepped.Done (replies.Refused refusals.Memory))
  short_so is = refused_so (replies.Refused refusals.Memory) (λ names hand_list has tells p shown.
      row_refused laws (shown_of (store_of parts names hand_list)) (shown_of (store_of later names (with_hand hand_list n None))) n table values tag o (refuses names hand_list has tells) failing has p shown
      RowLacksMemory LacksMemory refl refusals.Memory (subst (λ (t : Tag). RefusesSo p table (statements.Insert table values) LacksMemory t refusals.Memory) (sym is) (ForMemory tt)))

  pub full_heap_so : tag ≡ tags.Full → (number : ℕ) → OfBlocks told parts.pages table (λ (blocks : List (List Slot)). IsInsertFull n 0 (shown_by parts.pages.layout parts.pages.pages parts.locks table blocks) Resting number)
      → (reply : Reply) → reply ≡ replies.Refused (refusals.Full (table_name parts.pages.layout table) number) → StepsSo told parts later n refuser (stepped.Done reply)
  full_heap_so is number full reply reply_is = refused_so reply (λ names hand_list has tells p shown.
      let shows = shown.tables table left.fits.in_hand.1 in
      let there = full tells shows.blocks shows.has in
      let heap_full : IsHeapFull (p.tables table) = subst IsHeapFull (sym shows.shown) (there.1 shows.unseen) in
      let counted : (p.tables table).heap_limit * (p.tables table).rows_per_page ≡ number = ap (λ (w : TableState). w.heap_limit * w.rows_per_page) shows.shown ∙ sym there.0 in
      let it = row_refused laws (shown_of (store_of parts names hand_list)) (shown_of (store_of later names (with_hand hand_list n None))) n table values tag o (refuses names hand_list has tells) failing has p shown
      (HeapFull heap_full) (IsFull Heap number) (ap (IsFull Heap) counted) (refusals.Full (table_name p.layout table) number)
      (subst (λ (t : Tag). RefusesSo p table (statements.Insert table values) (IsFull Heap number) t (refusals.Full (table_name p.layout table) number)) (sym is)
      (heap_refuses (shown_of (store_of parts names hand_list)) p table shown left.fits.in_hand.1 values number counted)) in
      (it.0, it.1, subst (λ (r : Reply). Steps p n (Ended r) it.0) (sym (reply_is ∙ ap (λ (l : DiskLayout). replies.Refused (refusals.Full (table_name l table) number)) (sym shown.layout))) it.2))

-- the machine may put its row
pub kept_at_row : {D : Type 0} (told : D → Told) (parts : Parts D) (n : ℕ) (insert : Insert) → insert.place ≡ None → insert.row.table < length parts.pages.layout.schema.tables
    → InSomeStore (unpromised parts) n (hands.Puts insert.row.table insert.row.values) (λ s. (p : Place) × ShowsPlace s p) → ShowsKept parts.pages.layout parts.pages.pages parts.locks n insert.row.table (task_of parts.pages.layout insert)
kept_at_row told parts n insert nowhere below (names, hand_list, has, (p, shown)) =
    let shows = shown.tables insert.row.table below in
    record {
      blocks = shows.blocks;
      has = shows.has;
      unseen = shows.unseen;
      at = rests_here (shown_of (store_of (unpromised parts) names hand_list)) n insert.row.table insert.row.values has p shown shows ∙ sym (ap (λ (place : Option Spot). task_at parts.pages.layout insert place) nowhere);
      kept = subst IsTableKept shows.shown shows.kept;
    }

-- the parts without the promise
pub unpromised_is : {D : Type 0} (old mid : Parts D) → mid ≡ record old { journal = mid.journal } → mid.journal.entries ≡ old.journal.entries → mid.journal.promised ≡ old.journal.promised + 1 → unpromised mid ≡ old
unpromised_is old mid rest entries promised =
    let less : mid.journal.promised - 1 ≡ old.journal.promised = omega (arith, promised) in
    ap unpromised rest ∙ (λ j. record old { journal = record { entries = entries j; promised = less j } })
