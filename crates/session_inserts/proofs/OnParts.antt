-- a later step of an insert, over the parts of a store
use Rattle.std.proofs.Common.{inl, ◌≡◌, ◌≢◌, ℕ, false, ◌+◌, ◌<◌, ◌≤◌, List, length, Option, None, Some, refl, sym, ap, subst, ◌∙◌, arith}
use Rattle.std.specs.Prelude.{IfSome, IsSome, slice_get}
use Rattle.disk_trait.specs.Told.{Told}
use Rattle.block_model.specs.declared.place.Spot.{Spot}
use Rattle.block_model.specs.declared.reply.Point.{Point}
use Rattle.block_model.specs.declared.reply.Reply.TheVariants as replies
use Rattle.block_model.specs.declared.reply.What.{What}
use Rattle.block_model.specs.declared.reply.What.TheVariants as whats
use Rattle.block_model.specs.declared.row.Row.{Row}
use Rattle.store_layout.specs.DiskLayout.{DiskLayout}
use Rattle.page_layout.specs.PageContents.{Slot}
use Rattle.page_map.specs.Keeps.{Keeps, Tells}
use Rattle.page_map.specs.PageMap.{PageMap, View, page_at}
use Rattle.page_locks.specs.declared.did.Did.{Did}
use Rattle.page_locks.specs.declared.did.Did.TheVariants as did
use Rattle.page_locks.specs.declared.held.Held.{Held}
use Rattle.page_locks.specs.LockCounts.{locks_of}
use Rattle.page_locks.specs.LockHolders.{LockState, holder}
use Rattle.heap_rows.specs.HeapBlocks.{HasBlocks, OfBlocks}
use Rattle.snapshot_core.specs.declared.sessions.Open.{Open}
use Rattle.snapshot_core.specs.StoredVersions.{transaction_of}
use Rattle.store_layout.specs.declared.limits.TheConstants.{MAX_ENTRIES}
use Rattle.tx_table.specs.Kept.{over_kept}
use Rattle.tx_table.specs.Statuses.{status_relation}
use Rattle.tx_table.specs.TxState.{IsOver}
use Rattle.index_contents.specs.IndexContents.{relation_of as index_relation}
use Rattle.index_contents.specs.KeepsOrder.{KeepsOrder}
use Rattle.index_steps.specs.ShownRows.{shown_by}
use Rattle.index_steps.specs.ShownTable.{indexes_of}
use Rattle.index_steps.specs.SwapAnswers.{LeavesLocks, TakesAtMost}
use Rattle.brin_insert.specs.declared.insert.Insert.{Insert}
use Rattle.brin_insert.specs.InsertAnswers.{BlockedOn, InsertDid, InsertStepped, LeavesOtherRelations, StandsPlaced, heap_after, relation_at}
use Rattle.brin_insert.specs.AskedFor.{InsertAsks}
use Rattle.brin_insert.specs.InsertHands.{InsertHand}
use Rattle.brin_insert.specs.InsertLocks.{held_by, stage_at, stage_of, taken_by}
use Rattle.brin_insert.specs.declared.stage.Stage.TheVariants as stages
use Rattle.brin_insert.specs.InsertSteps.{IsAtWork}
use Rattle.brin_insert.specs.StageLocks.{held_at}
use Rattle.brin_insert.proofs.Numbers.{number_within}
use Rattle.brin_insert.proofs.Tasks.{number_there}
use Rattle.brin_insert.specs.Inserts.{HasStepAt, HasStepLeft, IsInsertFor, task_of, work_of}
use Rattle.brin_insert.proofs.Outcomes.{index_next}
use Rattle.session_parts.specs.declared.hand.Hand.{Hand}
use Rattle.session_parts.specs.declared.hand.Hand.TheVariants as hands
use Rattle.session_parts.specs.declared.hand.Stepped.{Stepped}
use Rattle.session_parts.specs.declared.hand.Stepped.TheVariants as stepped
use Rattle.session_parts.specs.declared.parts.Parts.{Parts}
use Rattle.session_parts.specs.Hands.{statement_of}
use Rattle.session_parts.specs.Shares.{share_of}
use Rattle.session_parts.specs.StepIs.{hand_after}
use Rattle.session_parts.specs.HandFits.{FitsHand, IsHandFor, IsOwnRow, locks_held}
use Rattle.session_parts.specs.Leaving.{LeavesOthers}
use Rattle.session_parts.specs.StepAnswers.{StaysReady}
use Rattle.session_parts.specs.Stepping.{IsFit, LeavesTheOthers}
use Rattle.session_parts.specs.StoreLaws.{HandChanges}
use Rattle.session_parts.specs.StoreStates.{ShownStore, dropped_in, hand_in, shown_of, store_of, with_hand}
use Rattle.session_parts.specs.UndoneLaws.{FitOfParts, FitOfStores, FitsParts, StepsSo}
use Rattle.reply_texts.specs.declared.dropped.Dropped.{Dropped}
use Rattle.session_inserts.proofs.AtIndex.{AtIndex, insert_of, number_here, shows_here}
use Rattle.session_inserts.proofs.Beside.{AtWork, at_work_of, leaves_others, past_one, stays_fit}
use Rattle.session_inserts.proofs.IndexStep.{InIndex, goes_on, is_done}
use Rattle.session_inserts.proofs.StaysHere.{StaysHere, is_waiting, stays_shown}
use Rattle.session_parts.specs.LeadLaws.{NoRequestLeads}
use Rattle.session_parts.specs.PlaceLaws.{PlaceStaysShown}
use Rattle.session_parts.specs.StepLaws.{TurnWaits}
use Rattle.transactions.specs.Laws.{ShowAlike}
use Rattle.block_model.specs.declared.reply.Refusal.TheVariants as refusals
use Rattle.script_semantics.specs.Names.{index_name, name_of}
use Rattle.script_semantics.specs.StatementSteps.{Steps, Waits}
use Rattle.std.proofs.lemmas.Option.{none-some, same_Some}
use Rattle.session_parts.proofs.HeldLocks.{holder_has_lock}
use Rattle.block_model.specs.declared.reply.Reply.{Reply}
use Rattle.block_model.specs.declared.request.Entry.{Entry}
use Rattle.block_model.specs.declared.request.Request.TheVariants as requests
use Rattle.block_model.specs.declared.request.Tag.TheVariants as tags
use Rattle.page_map.specs.declared.faults.MachineFault.TheVariants as faults
use Rattle.page_locks.specs.LockChanges.{GivesAll}
use Rattle.store_layout.specs.StatementRequests.{tagged_entry}
use Rattle.transactions.specs.TransactionsState.{TransactionsState}
use Rattle.brin_insert.specs.declared.stage.Stage.{Stage}
use Rattle.brin_insert.specs.InsertAnswers.{IsInsertFull, SaysInsertFull}
use Rattle.script_semantics.specs.StatementSteps.{Ended}
use Rattle.session_parts.specs.declared.faults.StoreFault.TheVariants as stops
use Rattle.session_parts.specs.HandsAsk.{named_requests}
use Rattle.session_parts.specs.HandsInTables.{table_in}
use Rattle.session_parts.specs.JournalState.{JournalState}
use Rattle.session_inserts.proofs.FullIndex.{index_lacks_room, index_refused}
use Rattle.session_inserts.proofs.Refused.{Refuses}
use Rattle.session_inserts.proofs.Refusing.{LeftRefused, first_is, refused_fits, refused_others, theirs, with_these}
use Rattle.session_inserts.specs.TakenLaws.{IndexLaws, RefusalLaws}

-- what the machine's step told of the pages, the locks and the machine
pub record MachineLeft {D : Type 0} (told : D → Told) (parts : Parts D) (pages : View D) (locks : LockState) (n : ℕ) (before after : Insert) : Type 0 where
  pub others : LeavesOtherRelations told (relation_at parts.pages.layout before) parts.pages pages
  pub order : (m : ℕ) → m < length parts.pages.layout.schema.indexes → KeepsOrder told m parts.pages pages
  pub leaves : LeavesLocks (holder parts.locks) (holder locks) (relation_at parts.pages.layout before) n
  pub counts : TakesAtMost (taken_by (stage_of before)) parts.locks locks n
  pub made : IsInsertFor parts.pages.layout after
  pub row : after.row ≡ before.row
  pub ready : StaysReady parts.pages pages

-- an insert that has no step left has no locks
pub none_left : (insert : Insert) → (HasStepLeft insert → ⊥) → (locks : LockState) (n : ℕ) → locks_of locks n ≤ held_by (stage_of insert) → locks_of locks n ≤ 0
none_left insert none locks n few = by_place insert.place (work_of insert) none few
  where
    by_stage : (x : Spot) (hand : InsertHand) (stage : Stage) → hand.stage ≡ stage → (IsAtWork hand.stage → ⊥) → locks_of locks n ≤ held_at hand.stage → locks_of locks n ≤ 0
    by_stage x hand stages.Complete is over few = subst (λ (s : Stage). locks_of locks n ≤ held_at s) is few
    by_stage x hand stages.Map is over few = absurd (over (subst IsAtWork (sym is) tt))
    by_stage x hand (stages.Copy y) is over few = absurd (over (subst IsAtWork (sym is) tt))
    by_stage x hand (stages.Swap y) is over few = absurd (over (subst IsAtWork (sym is) tt))
    by_stage x hand (stages.Set y z) is over few = absurd (over (subst IsAtWork (sym is) tt))
    by_stage x hand (stages.Drop y) is over few = absurd (over (subst IsAtWork (sym is) tt))

    by_place : (place : Option Spot) (work : Option InsertHand) → (HasStepAt place work → ⊥) → locks_of locks n ≤ held_by (stage_at place work) → locks_of locks n ≤ 0
    by_place None work over few = few
    by_place (Some x) None over few = few
    by_place (Some x) (Some hand) over few = by_stage x hand hand.stage refl over few

-- the number of the index that is next is one of the layout
pub number_at : (layout other : DiskLayout) (insert : Insert) → IsInsertFor layout insert → HasStepLeft insert → IsSome insert.place → (index : ℕ) → IfSome (work_of insert) (λ (h : InsertHand). index ≡ h.index) → other ≡ layout
    → index < length other.schema.indexes
number_at layout other insert made step_left some index is same =
    let work = at_work_of insert step_left some in
    let number : index ≡ work.hand.index = subst (λ (o : Option InsertHand). IfSome o (λ (h : InsertHand). index ≡ h.index)) work.got is in
    subst (λ (l : DiskLayout). index < length l.schema.indexes) (sym same)
    (subst (λ (i : ℕ). i < length layout.schema.indexes) (sym number) (number_within layout insert.row.table insert.at work.hand.index (number_there layout insert insert.at work.hand made work.got)))

-- the page that is waited for, by the index's name
pub waited_there : (layout other : DiskLayout) → other ≡ layout → (index : ℕ) (block : ℕ) (what : What)
    → ((table at : ℕ) → slice_get (indexes_of other table) at ≡ Some index → what ≡ whats.Page (index_name other table at) block)
    → (table at : ℕ) → slice_get (indexes_of layout table) at ≡ Some index → what ≡ whats.Page (index_name layout table at) block
waited_there layout other same index block what named table at there =
    subst (λ (l : DiskLayout). slice_get (indexes_of l table) at ≡ Some index → what ≡ whats.Page (index_name l table at) block) same (named table at) there

module _ {D : Type 0} (told : D → Told) (changes : HandChanges) (of_parts : FitOfParts told) (of_stores : FitOfStores told) (parts : Parts D) (pages : View D) (locks : LockState) (n : ℕ) (queue : List (ℕ × ℕ)) (dropped : List (List Dropped)) (before after : Insert)
    (fit : IsFit told parts n (hands.Inserts before)) (left : MachineLeft told parts pages locks n before after) (kept_others : (m : ℕ) → m ≢ n → dropped_in dropped m ≡ dropped_in parts.dropped m) where
  abbrev new : Parts D
  new = record parts { pages = pages; locks = locks; queue = queue; dropped = dropped }

  pub fits : FitsParts told parts n (Some (hands.Inserts before))
  fits = of_parts parts n (hands.Inserts before) fit

  pub work : AtWork before
  work = at_work_of before fits.in_hand.2 fits.in_hand.3

  relation : relation_at parts.pages.layout before ≡ index_relation parts.pages.layout work.hand.index
  relation = index_next parts.pages.layout before work.x work.hand work.placed work.got

  over : IsOver told parts.transactions.tx pages
  over = over_kept told parts.transactions.tx parts.pages pages fits.over left.others.leaves
      (λ tells block. left.others.pages tells (record { relation = status_relation; block = block })
      (λ same. let e : status_relation ≡ index_relation parts.pages.layout work.hand.index = same ∙ relation in absurd (omega (arith, e))))

  -- it is fit for the next step, with that in hand
  fits_then : (h : Option Hand) → FitsHand parts.pages.layout (transaction_of parts.transactions.opens n) h → locks_of locks n ≤ locks_held h
      → share_of h (transaction_of parts.transactions.opens n) ≡ share_of (Some (hands.Inserts before)) (transaction_of parts.transactions.opens n) → FitsParts told new n h
  fits_then h in_hand own share = record {
    session = fits.session;
    over = over;
    in_hand = subst (λ (l : DiskLayout). FitsHand l (transaction_of parts.transactions.opens n) h) (sym left.others.leaves.layout) in_hand;
    limit = left.counts.limit ∙ fits.limit;
    own = own;
    held = λ table holds. absurd (none-some table (fits.held table holds));
    rights = fits.rights ∙ ap (λ (l : DiskLayout). length l.schema.tables) (sym left.others.leaves.layout);
    entries = fits.entries;
    share = let more = fits.share in omega (arith, more, share);
  }

  in_hand_then : HasStepLeft after → IsSome after.place → IsHandFor parts.pages.layout (transaction_of parts.transactions.opens n) (hands.Inserts after)
  in_hand_then step_left some = (fits.in_hand.0, left.made, step_left, some, subst (λ (r : Row). IsOwnRow (transaction_of parts.transactions.opens n) r.id.t) (sym left.row) fits.in_hand.4)

  others_so : (answer : Stepped) → share_of (Some (hands.Inserts before)) (transaction_of parts.transactions.opens n) ≡ share_of (hand_after answer) (transaction_of parts.transactions.opens n)
      → LeavesTheOthers told parts new n (hands.Inserts before) answer
  others_so answer share = leaves_others told changes parts new n (hands.Inserts before) answer (record {
    leaves = left.others.leaves;
    transactions = λ m other. refl;
    locks = λ m other. left.counts.adds.others m other;
    dropped = kept_others;
    rights = refl;
    promised = ap (λ (s : ℕ). parts.journal.promised + s) share;
  })

  same_statement : statement_of (hands.Inserts after) ≡ statement_of (hands.Inserts before)
  same_statement = ap insert_of left.row

  module _ (names : List (List ℕ)) (hand_list : List (Option Hand)) (has : hand_in hand_list n ≡ Some (hands.Inserts before)) where
    abbrev before_it : ShownStore
    before_it = shown_of (store_of parts names hand_list)

    abbrev after_it : Option Hand → ShownStore
    after_it h = shown_of (store_of new names (with_hand hand_list n h))

    pub at_index : AtIndex before_it n before work.hand work.x
    at_index = record { was = has; placed = work.placed; got = work.got; made = fits.in_hand.1 }

    pub now_has : (h : Option Hand) → hand_in (with_hand hand_list n h) n ≡ h
    now_has h = (changes hand_list n (hands.Inserts before) h has).own

    pub left_others : (h : Option Hand) → LeavesOthers n before_it (after_it h)
    left_others h = record {
      layout = left.others.leaves.layout;
      names = refl;
      first = refl;
      hands = (changes hand_list n (hands.Inserts before) h has).others;
      opens = λ m other. refl;
    }

    in_index : Tells told parts.pages → InsertAsks parts.pages.layout parts.pages.pages before after parts.queue queue → after.place ≡ Some work.x → (h : Option Hand) → InIndex before_it (after_it h) n before after work.hand work.x
    in_index tells asks still h = record {
      at = at_index;
      still = still;
      row = left.row;
      others = left_others h;
      pages = left.others.pages tells;
      locks = left.leaves;
      order = λ index below ordered. left.order index below tells ordered;
      transactions = refl;
      rights = refl;
      entries = refl;
      asks = asks;
      dropped = kept_others;
      few = fits.entries;
    }

  -- the row stands where it stood
  still_there : StandsPlaced before.place after.place → after.place ≡ Some work.x
  still_there placed = subst (λ (o : Option Spot). StandsPlaced o after.place) work.placed placed

  placed_then : StandsPlaced before.place after.place → IsSome after.place
  placed_then placed = subst (λ (o : Option Spot). IsSome o) (sym (still_there placed)) refl

  heap_stays : (blocks : List (List Slot)) → heap_after parts.pages.layout before.row before.place after.place blocks ≡ blocks
  heap_stays blocks = ap (λ (o : Option Spot). heap_after parts.pages.layout before.row o after.place blocks) work.placed

  module _ (answer : Did) (stepped_so : OfBlocks told parts.pages before.row.table (InsertStepped parts.pages.layout parts.pages.pages pages.pages parts.locks locks n before after answer)) (tells : Tells told parts.pages) (blocks : List (List Slot))
      (has : HasBlocks parts.pages.layout parts.pages.pages before.row.table blocks) where
    has_then : HasBlocks parts.pages.layout pages.pages before.row.table blocks
    has_then = subst (HasBlocks parts.pages.layout pages.pages before.row.table) (heap_stays blocks) (stepped_so tells blocks has).has

    pub came : InsertDid n before.at (shown_by parts.pages.layout parts.pages.pages parts.locks before.row.table blocks) (shown_by parts.pages.layout pages.pages locks before.row.table blocks)
        (task_of parts.pages.layout before) (task_of parts.pages.layout after) answer
    came = subst (λ (l : List (List Slot)). InsertDid n before.at (shown_by parts.pages.layout parts.pages.pages parts.locks before.row.table blocks) (shown_by parts.pages.layout pages.pages locks before.row.table l)
        (task_of parts.pages.layout before) (task_of parts.pages.layout after) answer) (heap_stays blocks) (stepped_so tells blocks has).came

  -- it goes on
  pub moved_so : IndexLaws → (point : Point) → OfBlocks told parts.pages before.row.table (InsertStepped parts.pages.layout parts.pages.pages pages.pages parts.locks locks n before after (did.Moved point))
      → HasStepLeft after → StandsPlaced before.place after.place → locks_of locks n ≤ held_by (stage_of after) → dropped_in dropped n ≡ named_requests parts.pages.layout after.dropped.items
      → (Tells told parts.pages → InsertAsks parts.pages.layout parts.pages.pages before after parts.queue queue)
      → StepsSo told parts new n (hands.Inserts before) (stepped.Moved point (hands.Inserts after))
  unfolding in_index at_index
  moved_so laws point stepped_so step_left placed own named asks = record {
    steps = λ names hand_list has tells ready then p shown.
        let at = at_index names hand_list has in
        let shows = shows_here (before_it names hand_list has) n before work.hand work.x at p shown in
        let it = came (did.Moved point) stepped_so tells shows.blocks shows.has in
        goes_on (before_it names hand_list has) (after_it names hand_list has (Some (hands.Inserts after))) n before after work.hand work.x (in_index names hand_list has tells (asks tells) (still_there placed) (Some (hands.Inserts after))) p shown
        point it.0 (has_then (did.Moved point) stepped_so tells shows.blocks shows.has) laws (now_has names hand_list has (Some (hands.Inserts after))) it.1 named;
    fit = stays_fit told changes of_stores parts new n (hands.Inserts before) (stepped.Moved point (hands.Inserts after)) (fits_then (Some (hands.Inserts after)) (in_hand_then step_left (placed_then placed)) own refl);
    others = others_so (stepped.Moved point (hands.Inserts after)) refl;
    stays = λ names hand_list has. same_statement;
    cause = left.ready;
  }

  -- it is done
  pub done_so : IndexLaws → (point : Point) → OfBlocks told parts.pages before.row.table (InsertStepped parts.pages.layout parts.pages.pages pages.pages parts.locks locks n before after (did.Finished point))
      → StandsPlaced before.place after.place → locks_of locks n ≤ 0 → before.asking ≡ false → dropped ≡ parts.dropped
      → (Tells told parts.pages → InsertAsks parts.pages.layout parts.pages.pages before after parts.queue queue)
      → StepsSo told parts new n (hands.Inserts before) (stepped.Done (replies.Inserted before.row.id))
  unfolding in_index at_index
  done_so laws point stepped_so placed own silent kept asks = record {
    steps = λ names hand_list has tells ready then p shown.
        let at = at_index names hand_list has in
        let shows = shows_here (before_it names hand_list has) n before work.hand work.x at p shown in
        let it = came (did.Finished point) stepped_so tells shows.blocks shows.has in
        is_done (before_it names hand_list has) (after_it names hand_list has None) n before after work.hand work.x (in_index names hand_list has tells (asks tells) (still_there placed) None) p shown
        point it.0 (has_then (did.Finished point) stepped_so tells shows.blocks shows.has) laws (now_has names hand_list has None) it.1 silent (ap (λ (l : List (List Dropped)). dropped_in l n) kept);
    fit = stays_fit told changes of_stores parts new n (hands.Inserts before) (stepped.Done (replies.Inserted before.row.id)) (fits_then None tt own refl);
    others = others_so (stepped.Done (replies.Inserted before.row.id)) refl;
    stays = λ names hand_list has. tt;
    cause = left.ready;
  }

  -- nothing changed but the machine
  stays_here : queue ≡ parts.queue → dropped ≡ parts.dropped → after.dropped.items ≡ before.dropped.items → (names : List (List ℕ)) (hand_list : List (Option Hand)) (has : hand_in hand_list n ≡ Some (hands.Inserts before)) → Tells told parts.pages → after.place ≡ Some work.x
      → task_of parts.pages.layout after ≡ task_of parts.pages.layout before → locks ≡ parts.locks → pages.pages ≡ parts.pages.pages
      → StaysHere (before_it names hand_list has) (after_it names hand_list has (Some (hands.Inserts after))) n before after work.hand work.x
  stays_here same_queue kept same_dropped names hand_list has tells still task same_locks same_pages = record {
    at = at_index names hand_list has;
    still = still;
    row = left.row;
    task = task;
    now = now_has names hand_list has (Some (hands.Inserts after));
    others = left_others names hand_list has (Some (hands.Inserts after));
    pages = λ place. ap (λ (m : PageMap). page_at m place) same_pages;
    order = λ index below ordered. left.order index below tells ordered;
    locks = same_locks;
    transactions = refl;
    rights = refl;
    entries = refl;
    queue = same_queue;
    dropped = kept;
    same_dropped = same_dropped;
  }

  -- it waits
  pub waits_so : TurnWaits → PlaceStaysShown → NoRequestLeads → ShowAlike → (held : Held) → OfBlocks told parts.pages before.row.table (InsertStepped parts.pages.layout parts.pages.pages pages.pages parts.locks locks n before after (did.Blocked held))
      → HasStepLeft after → StandsPlaced before.place after.place → BlockedOn told (relation_at parts.pages.layout before) n parts.pages pages parts.locks locks (did.Blocked held) → locks_of locks n ≤ held_by (stage_of after)
      → queue ≡ parts.queue → dropped ≡ parts.dropped → after.dropped.items ≡ before.dropped.items
      → (index : ℕ) → IfSome (work_of before) (λ (h : InsertHand). index ≡ h.index)
      → (what : What) → ((table at : ℕ) → slice_get (indexes_of parts.pages.layout table) at ≡ Some index → what ≡ whats.Page (index_name parts.pages.layout table at) held.page.block)
      → StepsSo told parts new n (hands.Inserts before) (stepped.Blocked what held.by (hands.Inserts after))
  unfolding in_index at_index
  waits_so law stays leads alike held stepped_so step_left placed blocked own same_queue kept same_dropped index is what named = record {
    steps = λ names hand_list has tells ready then p shown.
        let at = at_index names hand_list has in
        let shows = shows_here (before_it names hand_list has) n before work.hand work.x at p shown in
        let it = came (did.Blocked held) stepped_so tells shows.blocks shows.has in (
          p,
          stays_shown (before_it names hand_list has) (after_it names hand_list has (Some (hands.Inserts after))) n before after work.hand work.x (stays_here same_queue kept same_dropped names hand_list has tells (still_there placed) (it.1) blocked.3 (blocked.4.pages tells)) p shown stays leads alike,
          subst (λ (w : What). Steps p n (Waits (refusals.Blocked w (name_of p held.by))) p) (sym (named before.row.table before.at (number_here (before_it names hand_list has) n before work.hand work.x at ∙ ap Some (sym (subst (λ (o : Option InsertHand). IfSome o (λ (h : InsertHand). index ≡ h.index)) work.got is)))))
              (is_waiting law (before_it names hand_list has) n before work.hand work.x at p shown held.page held.by it.0 blocked.0 blocked.1 fits.entries),
        );
    fit = stays_fit told changes of_stores parts new n (hands.Inserts before) (stepped.Blocked what held.by (hands.Inserts after)) (fits_then (Some (hands.Inserts after)) (in_hand_then step_left (placed_then placed)) own refl);
    others = others_so (stepped.Blocked what held.by (hands.Inserts after)) refl;
    stays = λ names hand_list has. (record { pages = blocked.4; transactions = refl; locks = blocked.3; rights = refl; journal = refl; queue = same_queue; dropped = kept }, same_statement, (blocked.2, inl (holder_has_lock parts.locks held.page held.by blocked.1)));
    cause = left.ready;
  }

  -- its index is full, and the journal has no room for that
  pub spent_so : IndexLaws → RefusalLaws → (relation_told number : ℕ)
      → SaysInsertFull (relation_at parts.pages.layout before) (λ (number : ℕ). OfBlocks told parts.pages before.row.table (λ (blocks : List (List Slot)). IsInsertFull n before.at (shown_by parts.pages.layout parts.pages.pages parts.locks before.row.table blocks) (task_of parts.pages.layout before) number)) (faults.Full relation_told number)
      → after.place ≡ before.place → HasStepLeft after → task_of parts.pages.layout after ≡ task_of parts.pages.layout before → stage_of after ≡ stage_of before → locks ≡ parts.locks → Keeps told parts.pages pages
      → queue ≡ parts.queue → dropped ≡ parts.dropped → after.dropped.items ≡ before.dropped.items → (entries : ℕ) → entries ≡ length parts.journal.entries → MAX_ENTRIES ≤ length parts.journal.entries
      → StepsSo told parts new n (hands.Inserts before) (stepped.Undone (stops.Spent entries) (hands.Inserts after))
  unfolding in_index at_index
  spent_so laws refusals_laws relation_told number says place step_left task stage same_locks keeps same_queue kept same_dropped entries entries_is full = record {
    steps = λ names hand_list has tells ready afterwards p shown.
        let at = at_index names hand_list has in
        let shows = shows_here (before_it names hand_list has) n before work.hand work.x at p shown in (
          p,
          stays_shown (before_it names hand_list has) (after_it names hand_list has (Some (hands.Inserts after))) n before after work.hand work.x (stays_here same_queue kept same_dropped names hand_list has tells (place ∙ work.placed) task same_locks (keeps.pages tells)) p shown laws.stays laws.leads laws.alike,
          (
            index_lacks_room refusals_laws.insert (before_it names hand_list has) n before work.hand work.x at p shown number (says.1 tells shows.blocks shows.has) refusals_laws.refused
                (subst (λ (l : List Entry). MAX_ENTRIES ≤ length l) (sym shown.journal) full),
            entries_is ∙ ap (λ (l : List Entry). length l) (sym shown.journal),
            refl,
          ),
        );
    fit = stays_fit told changes of_stores parts new n (hands.Inserts before) (stepped.Undone (stops.Spent entries) (hands.Inserts after))
        (fits_then (Some (hands.Inserts after)) (in_hand_then step_left (subst (λ (o : Option Spot). IsSome o) (sym place) fits.in_hand.3)) own refl);
    others = others_so (stepped.Undone (stops.Spent entries) (hands.Inserts after)) refl;
    stays = λ names hand_list has.
        (record { pages = keeps; transactions = refl; locks = same_locks; rights = refl; journal = refl; queue = same_queue; dropped = kept }, same_statement, entries_is, past_one (length parts.journal.entries) MAX_ENTRIES full);
    cause = left.ready;
  }
    where
      own : locks_of locks n ≤ held_by (stage_of after)
      own = subst (λ (o : Option Stage). locks_of locks n ≤ held_by o) (sym stage) (subst (λ (l : LockState). locks_of l n ≤ held_by (stage_of before)) (sym same_locks) fits.own)

  -- its index is full: it is refused
  pub full_so : RefusalLaws → (relation_told number : ℕ)
      → SaysInsertFull (relation_at parts.pages.layout before) (λ (number : ℕ). OfBlocks told parts.pages before.row.table (λ (blocks : List (List Slot)). IsInsertFull n before.at (shown_by parts.pages.layout parts.pages.pages parts.locks before.row.table blocks) (task_of parts.pages.layout before) number)) (faults.Full relation_told number)
      → Keeps told parts.pages pages → (transactions : TransactionsState) (given : LockState) (journal : JournalState) (o : Open)
      → (refused : LeftRefused told parts pages transactions given journal n (hands.Inserts before) o (tagged_entry n before.row.table (requests.Put before.row.values) tags.Full)) → GivesAll (holder parts.locks) (holder given) n
      → before.row.id.t ≡ o.t → (reply : Reply) → reply ≡ replies.Refused (refusals.Full (index_name parts.pages.layout before.row.table before.at) number)
      → StepsSo told parts (with_these parts pages transactions given journal) n (hands.Inserts before) (stepped.Done reply)
  unfolding at_index
  full_so laws relation_told number says keeps transactions given journal o refused gives own reply reply_is = record {
    steps = λ names hand_list has tells ready afterwards p shown.
        let at = at_index names hand_list has in
        let shows = shows_here (before_it names hand_list has) n before work.hand work.x at p shown in
        let it = index_refused laws.insert (before_it names hand_list has) n before work.hand work.x at p shown number (says.1 tells shows.blocks shows.has) laws
        (shown_of (store_of (with_these parts pages transactions given journal) names (with_hand hand_list n None))) o (refuses names hand_list has tells) own in
        (it.0, it.1, subst (λ (r : Reply). Steps p n (Ended r) it.0) (sym (reply_is ∙ ap (λ (l : DiskLayout). replies.Refused (refusals.Full (index_name l before.row.table before.at) number)) (sym shown.layout))) it.2);
    fit = refused_fits told changes of_stores parts pages transactions given journal n (hands.Inserts before) o (tagged_entry n before.row.table (requests.Put before.row.values) tags.Full) refused reply;
    others = refused_others told changes of_stores parts pages transactions given journal n (hands.Inserts before) o (tagged_entry n before.row.table (requests.Put before.row.values) tags.Full) refused reply;
    stays = λ names hand_list has. tt;
    cause = left.ready;
  }
    where
      refuses : (names : List (List ℕ)) (hand_list : List (Option Hand)) (has : hand_in hand_list n ≡ Some (hands.Inserts before)) → Tells told parts.pages
          → Refuses (before_it names hand_list has) (shown_of (store_of (with_these parts pages transactions given journal) names (with_hand hand_list n None))) n before.row.table before.row.values tags.Full o
      refuses names hand_list has tells = record {
        others = record {
          layout = left.others.leaves.layout;
          names = refl;
          first = first_is told changes of_stores parts pages transactions given journal n (hands.Inserts before) o (tagged_entry n before.row.table (requests.Put before.row.values) tags.Full) refused;
          hands = (changes hand_list n (hands.Inserts before) None has).others;
          opens = theirs told changes of_stores parts pages transactions given journal n (hands.Inserts before) o (tagged_entry n before.row.table (requests.Put before.row.values) tags.Full) refused;
        };
        pages = λ place. ap (λ (m : PageMap). page_at m place) (keeps.pages tells);
        given = gives;
        rights = refl;
        open_is = refused.open_is;
        whole = refused.whole;
        failed = refused.failed;
        entries = refused.entries;
        room = refused.room;
        queue = refl;
        dropped = refl;
        now = (changes hand_list n (hands.Inserts before) None has).own;
        below = fits.in_hand.1.table;
        was_in = λ other is. same_Some other before.row.table (sym is ∙ ap (table_in parts.pages.layout) has);
      }
