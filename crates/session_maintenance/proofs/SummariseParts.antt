-- a step of a summarise, over the parts of a store: of the statement itself, or of work
use Rattle.std.proofs.Common.{◌≡◌, ◌≢◌, ◌⊎◌, inl, inr, ℕ, ◌+◌, ◌<◌, ◌≤◌, List, [], length, Option, None, Some, refl, sym, ap, subst, ◌∙◌, arith}
use Rattle.std.specs.Prelude.{slice_get, slice_set}
use Rattle.disk_trait.specs.Told.{Told}
use Rattle.block_model.specs.declared.reply.Point.{Point}
use Rattle.block_model.specs.declared.reply.Refusal.TheVariants as refusals
use Rattle.block_model.specs.declared.reply.Reply.{Reply}
use Rattle.block_model.specs.declared.reply.What.{What}
use Rattle.block_model.specs.declared.reply.What.TheVariants as whats
use Rattle.store_layout.specs.DiskLayout.{DiskLayout}
use Rattle.page_layout.specs.PageContents.{Slot}
use Rattle.page_map.specs.declared.faults.StoreError.{StoreError}
use Rattle.page_map.specs.Keeps.{Keeps, Tells}
use Rattle.page_map.specs.Outcome.{Refused}
use Rattle.page_map.specs.PageMap.{PageMap, View}
use Rattle.page_locks.specs.declared.did.Did.{Did}
use Rattle.page_locks.specs.declared.did.Did.TheVariants as did
use Rattle.page_locks.specs.declared.held.Held.{Held}
use Rattle.page_locks.specs.LockCounts.{locks_of}
use Rattle.page_locks.specs.LockHolders.{LockState, holder}
use Rattle.page_locks.specs.RightHolders.{right_of}
use Rattle.recovery.specs.PageOrder.{IsIndexInOrder}
use Rattle.heap_rows.specs.HeapBlocks.{HasBlocks, OfBlocks}
use Rattle.snapshot_core.specs.StoredVersions.{transaction_of}
use Rattle.transactions.specs.Laws.{ShowAlike}
use Rattle.index_contents.specs.IndexChanges.{LeavesOthers as LeavesOtherIndexes}
use Rattle.index_contents.specs.IndexContents.{index_page, relation_of as index_relation}
use Rattle.index_contents.specs.KeepsOrder.{KeepsOrder}
use Rattle.index_steps.specs.IndexTuples.{index_at}
use Rattle.index_steps.specs.ShownRows.{shown_by}
use Rattle.index_steps.specs.ShownTable.{indexes_of}
use Rattle.index_steps.specs.SwapAnswers.{LeavesLocks, NamesHeld, TakesAtMost}
use Rattle.coverage.specs.Accounts.{Account}
use Rattle.coverage.specs.Machines.{Unseen, table_state}
use Rattle.coverage.specs.Table.{Resting, TableState, Task}
use Rattle.coverage.specs.TableCovered.{IsTableKept}
use Rattle.index_steps.specs.declared.growth_stage.Stage.{Stage as GrowthStage}
use Rattle.index_steps.specs.declared.growth_stage.Stage.TheVariants as growths
use Rattle.index_steps.specs.StageLocks.{taken_at as taken_to_grow}
use Rattle.summarise_core.specs.declared.range_stage.Stage.{Stage}
use Rattle.summarise_core.specs.declared.range_stage.Stage.TheVariants as stages
use Rattle.summarise_core.specs.StageLocks.{taken_at}
use Rattle.summarise_core.specs.SummariseHands.{SummariseHand, table_of}
use Rattle.summarise_core.specs.SummariseSteps.{RestsAt, made_at}
use Rattle.summarise_core.specs.declared.course.Standing.{Standing}
use Rattle.summarise_core.specs.declared.course.Standing.TheVariants as standings
use Rattle.summarise_core.specs.Summarises.{DamageIn, IsSummariseOf, ReadyAt, RightAnswers, StandsThen, SummariseDoes, SummariseState, count_at, count_of, held_by, held_in, step_of, taken_by, taken_in}
use Rattle.summarise_core.specs.SummariseTable.{DoesInTable, held_behind, indexes_left, task_of}
use Rattle.script_semantics.specs.Beginnings.{IsIn, StandsAt}
use Rattle.script_semantics.specs.Names.{index_name, name_of, table_name}
use Rattle.script_semantics.specs.Place.{Place}
use Rattle.script_semantics.specs.StatementSteps.{Steps, Waits, reply_after}
use Rattle.session_parts.specs.declared.hand.Hand.{Hand}
use Rattle.session_parts.specs.declared.hand.Stepped.TheVariants as stepped
use Rattle.session_parts.specs.declared.parts.Parts.{Parts}
use Rattle.session_parts.specs.DamagedPages.{NamesAPage}
use Rattle.session_parts.specs.Hands.{statement_of}
use Rattle.session_parts.specs.HandFits.{IsHandFor, locks_held, right_at, right_held}
use Rattle.session_parts.specs.Shares.{hand_share}
use Rattle.session_parts.specs.ShowsPlace.{IsPlaceOf}
use Rattle.session_parts.specs.StepAnswers.{StaysReady}
use Rattle.session_parts.specs.Stepping.{IsFit, IsShown}
use Rattle.session_parts.specs.StoreFaults.{fault_of}
use Rattle.session_parts.specs.StoreStates.{ShownStore, hand_in, shown_of, store_of}
use Rattle.session_parts.specs.UndoneLaws.{FitsParts, StepsSo}
use Rattle.session_parts.proofs.HeldLocks.{holder_has_lock}
use Rattle.session_parts.proofs.Undone.{fit_of_parts}
use Rattle.session_maintenance.proofs.SummariseLocks.{OthersStay, gives_own, gives_stay, gives_there, same_stays, stays_on}
use Rattle.session_maintenance.proofs.SummariseTurns.{IsSummaryAt, IsBySummarise, StepsInTable, counts_on, holds_there, is_busy, is_over, last_gives, made_by, right_left, right_taken}
use Rattle.session_maintenance.proofs.UpkeepAt.{IsUpkeep, IsUpkeepAt, at_task, counted, here, kept_here, unseen_here}
use Rattle.session_maintenance.proofs.UpkeepParts.{PartsLeft, done_so, moved_so, new_store, old_store, refused_untold, undone_so, waits_so, with_these}
use Rattle.session_maintenance.proofs.UpkeepSteps.{MadeIn}
use Rattle.session_maintenance.proofs.UpkeepStays.{waits_for_lock, waits_for_page}

-- ---- how many locks a step takes

growth_takes : (stage : GrowthStage) → taken_to_grow stage ≤ 3
growth_takes growths.Judge = omega arith
growth_takes growths.Count = omega arith
growth_takes (growths.Set range from to) = omega arith
growth_takes (growths.Drop range from) = omega arith

range_takes : (growth : GrowthStage) (stage : Stage) → taken_at growth stage ≤ 3
range_takes growth stages.Place = growth_takes growth
range_takes growth (stages.Swap x) = omega arith
range_takes growth stage = omega arith

takes_few : (a : SummariseState) (standing : Standing) → taken_in a standing ≤ 3
takes_few a standings.Begins = omega arith
takes_few a standings.AtRange = range_takes a.hand.growth.stage a.hand.stage
takes_few a standings.Done = omega arith

pub summarise_takes : (a : SummariseState) → taken_by a ≤ 3
summarise_takes a = takes_few a a.standing

-- ---- one that waits at its range has made as many

rests_stage : (stage : Stage) (old new : SummariseHand) → RestsAt stage old new → new.stage ≡ old.stage
rests_stage stages.Place old new is = ap (λ (h : SummariseHand). h.stage) is
rests_stage stage old new is = ap (λ (h : SummariseHand). h.stage) is

pub same_count : (a b : SummariseState) → a.standing ≡ standings.AtRange → b ≡ record a { hand = b.hand } → RestsAt a.hand.stage a.hand b.hand → count_of b ≡ count_of a
same_count a b at same rests =
    ap count_of same ∙ ap (λ (q : Standing). count_at (record a { hand = b.hand }) q) at ∙ ap (λ (s : Stage). a.made + made_at s) (rests_stage a.hand.stage a.hand b.hand rests)
    ∙ sym (ap (λ (q : Standing). count_at a q) at)

-- ---- a summarise whose step may be made

-- what the laws of its machine say of a table that is kept
abbrev pub TakesReady : Type 0
TakesReady = (layout : DiskLayout) (pages : PageMap) (locks : LockState) (blocks : List (List Slot)) (s at : ℕ) (a : SummariseState) (u : Unseen) → slice_get (indexes_of layout (table_of layout a.index)) at ≡ Some a.index
    → u.task s ≡ task_of layout at a → IsTableKept (table_state (shown_by layout pages locks (table_of layout a.index) blocks) u) → ReadyAt layout pages a

abbrev pub TakesSound : Type 0
TakesSound = (layout : DiskLayout) (pages : PageMap) (locks : LockState) (blocks : List (List Slot)) (s at : ℕ) (a : SummariseState) (u : Unseen) → slice_get (indexes_of layout (table_of layout a.index)) at ≡ Some a.index
    → u.task s ≡ task_of layout at a → IsTableKept (table_state (shown_by layout pages locks (table_of layout a.index) blocks) u)
    → (a.hand.stage ≡ stages.Place → IsIndexInOrder layout.sizes.index_blocks (index_page layout pages a.index)) → DamageIn layout pages a → ⊥

-- what its machine's step told of the pages, the locks and itself
pub record MachineLeft {D : Type 0} (told : D → Told) (parts : Parts D) (n : ℕ) (a : SummariseState) (pages : View D) (locks : LockState) (b : SummariseState) : Type 0 where
  pub of : IsSummariseOf parts.pages.layout b
  pub index : b.index ≡ a.index
  pub wish : b.wish ≡ a.wish
  pub others : LeavesOtherIndexes told a.index parts.pages pages
  pub order : KeepsOrder told a.index parts.pages pages
  pub leaves : LeavesLocks (holder parts.locks) (holder locks) (index_relation parts.pages.layout a.index) n
  pub counts : TakesAtMost (taken_by a) parts.locks locks n

module _ {D : Type 0} (told : D → Told) (parts : Parts D) (n : ℕ) (a : SummariseState) (pages : View D) (locks : LockState) (b : SummariseState) (left : MachineLeft told parts n a pages locks b) where
  -- what is left of the parts
  pub left_by : (rights : List (Option ℕ)) → OthersStay (index_at parts.pages.layout a.index).table n parts.rights rights → PartsLeft told parts pages locks rights n a.index
  left_by rights stays = record {
    others = left.others;
    order = left.order;
    limit = left.counts.limit;
    counts = λ m other. left.counts.adds.others m other;
    tables = stays.tables;
    apart = stays.apart;
    theirs = stays.theirs;
  }

  -- and where its session gives its page locks
  pub left_given : (given : LockState) → given.limit ≡ locks.limit → ((m : ℕ) → m ≢ n → locks_of given m ≡ locks_of locks m) → (rights : List (Option ℕ)) → OthersStay (index_at parts.pages.layout a.index).table n parts.rights rights
      → PartsLeft told parts pages given rights n a.index
  left_given given limit others rights stays = record {
    others = left.others;
    order = left.order;
    limit = limit ∙ left.counts.limit;
    counts = λ m other. others m other ∙ left.counts.adds.others m other;
    tables = stays.tables;
    apart = stays.apart;
    theirs = stays.theirs;
  }

  -- in the table that the store shows, with its index at that place
  pub came : StepsInTable → (righted : List (Option ℕ)) (answer : Did)
      → OfBlocks told parts.pages (index_at parts.pages.layout a.index).table (λ blocks. SummariseDoes (step_of parts.pages.layout parts.pages.pages pages.pages parts.locks locks parts.rights righted n blocks) a b answer)
      → IsSummariseOf parts.pages.layout a → Tells told parts.pages → (blocks : List (List Slot)) → HasBlocks parts.pages.layout parts.pages.pages (index_at parts.pages.layout a.index).table blocks
      → (at : ℕ) → StandsAt parts.pages.layout a.index at → DoesInTable (step_of parts.pages.layout parts.pages.pages pages.pages parts.locks locks parts.rights righted n blocks) at a b answer
  came law righted answer does of tells blocks has at stands = law (step_of parts.pages.layout parts.pages.pages pages.pages parts.locks locks parts.rights righted n blocks) at a b answer stands of
      (record { others = left.others.indexes tells; locks = left.leaves }) (does tells blocks has)

module _ {D : Type 0} (told : D → Told) (parts : Parts D) (n : ℕ) (hand : SummariseState → Hand) (by : IsBySummarise parts.pages.layout (transaction_of parts.transactions.opens n) hand) (a : SummariseState)
    (fit : IsFit told parts n (hand a)) (below : (index_at parts.pages.layout a.index).table < length parts.pages.layout.schema.tables) where
  pub fits : FitsParts told parts n (Some (hand a))
  fits = fit_of_parts told parts n (hand a) fit

  of_it : IsSummariseOf parts.pages.layout a
  of_it = by.of a fits.in_hand

  pub is_it : IsUpkeep parts.pages.layout (hand a) a.index (IsSummaryAt parts.pages.layout a) (counted (count_of a))
  is_it = by.upkeep a fits.in_hand below

  -- its session holds no more page locks than the summarise
  pub own_before : locks_of parts.locks n ≤ held_by a
  own_before = let own = fits.own in let same = by.locks a in omega (arith, own, same)

  abbrev number : ℕ
  number = (index_at parts.pages.layout a.index).table

  pub within : number < length parts.rights
  within = let as_many = fits.rights in omega (arith, as_many, below)

  module _ (shown : IsShown told parts n (hand a)) (tells : Tells told parts.pages) (ready : parts.pages.failed ≡ None) where
    abbrev names_there : List (List ℕ)
    names_there = (shown tells ready).0

    abbrev hands_there : List (Option Hand)
    hands_there = (shown tells ready).1

    abbrev store : ShownStore
    store = shown_of (store_of parts names_there hands_there)

    abbrev had : hand_in hands_there n ≡ Some (hand a)
    had = (shown tells ready).2

    abbrev place : Place
    place = (shown tells ready).3.0

    abbrev is_shown : IsPlaceOf store place
    is_shown = (shown tells ready).3.1

    pub is_ready : TakesReady → ReadyAt parts.pages.layout parts.pages.pages a
    is_ready law = law parts.pages.layout parts.pages.pages parts.locks (here store n (hand a) a.index (IsSummaryAt parts.pages.layout a) (counted (count_of a)) is_it had place is_shown).blocks n
        (at_task store n (hand a) a.index (IsSummaryAt parts.pages.layout a) (counted (count_of a)) is_it had place is_shown).0 a
        (unseen_here store n (hand a) a.index (IsSummaryAt parts.pages.layout a) (counted (count_of a)) is_it had place is_shown)
        (at_task store n (hand a) a.index (IsSummaryAt parts.pages.layout a) (counted (count_of a)) is_it had place is_shown).1
        (at_task store n (hand a) a.index (IsSummaryAt parts.pages.layout a) (counted (count_of a)) is_it had place is_shown).2
        (kept_here store n (hand a) a.index (IsSummaryAt parts.pages.layout a) (counted (count_of a)) is_it had place is_shown)

    pub is_sound : TakesSound → DamageIn parts.pages.layout parts.pages.pages a → ⊥
    is_sound law = law parts.pages.layout parts.pages.pages parts.locks (here store n (hand a) a.index (IsSummaryAt parts.pages.layout a) (counted (count_of a)) is_it had place is_shown).blocks n
        (at_task store n (hand a) a.index (IsSummaryAt parts.pages.layout a) (counted (count_of a)) is_it had place is_shown).0 a
        (unseen_here store n (hand a) a.index (IsSummaryAt parts.pages.layout a) (counted (count_of a)) is_it had place is_shown)
        (at_task store n (hand a) a.index (IsSummaryAt parts.pages.layout a) (counted (count_of a)) is_it had place is_shown).1
        (at_task store n (hand a) a.index (IsSummaryAt parts.pages.layout a) (counted (count_of a)) is_it had place is_shown).2
        (kept_here store n (hand a) a.index (IsSummaryAt parts.pages.layout a) (counted (count_of a)) is_it had place is_shown)
        (λ placing. is_shown.order a.index is_it.within)

  -- where its session is at that task, it is in its index's table
  on_there : (p : Place) (at : ℕ) → p.layout ≡ parts.pages.layout → (p.tables number).task n ≡ task_of parts.pages.layout at a → IsIn p n (statement_of (hand a)) number
  on_there p at same is = by.on a fits.in_hand below p n at same is

  module _ (pages : View D) (locks : LockState) (b : SummariseState) (left : MachineLeft told parts n a pages locks b) where
    abbrev was : Hand
    was = hand a

    abbrev next : Hand
    next = hand b

    abbrev HereNext : Task → Type 0
    HereNext = IsUpkeepAt parts.pages.layout a.index (λ at. task_of parts.pages.layout at b)

    pub same_statement : statement_of next ≡ statement_of was
    same_statement = by.same a b left.index left.wish

    -- it goes on at a range, or where it stood
    abbrev Stands : Type 0
    Stands = (b.standing ≡ standings.AtRange) ⊎ (b.standing ≡ a.standing)

    in_hand_then : Stands → IsHandFor parts.pages.layout (transaction_of parts.transactions.opens n) next
    in_hand_then stands = by.goes a b fits.in_hand left.of left.index left.wish stands

    is_then : Stands → IsUpkeep parts.pages.layout next a.index HereNext (counted (count_of b))
    is_then stands = subst (λ (i : ℕ). IsUpkeep parts.pages.layout next i (IsUpkeepAt parts.pages.layout i (λ at. task_of parts.pages.layout at b)) (counted (count_of b))) left.index
        (by.upkeep b (in_hand_then stands) (subst (λ (i : ℕ). (index_at parts.pages.layout i).table < length parts.pages.layout.schema.tables) (sym left.index) below))

    -- where it stands where it stood, it has the summarise lock that it had
    right_same : b.standing ≡ a.standing → right_held parts.pages.layout (Some next) ≡ right_held parts.pages.layout (Some was)
    right_same same = by.right b ∙ ap (λ (i : ℕ). right_at (index_at parts.pages.layout i).table b.standing) left.index ∙ ap (right_at number) same ∙ sym (by.right a)

    own_then : locks_of locks n ≤ held_by b → locks_of locks n ≤ locks_held (Some next)
    own_then own = let same = by.locks b in omega (arith, own, same)

    share_then : hand_share (Some next) ≡ hand_share (Some was)
    share_then = by.share b ∙ sym (by.share a)

    -- it goes on
    pub moved : StepsInTable → ShowAlike → (righted : List (Option ℕ)) (point : Point)
        → OfBlocks told parts.pages number (λ blocks. SummariseDoes (step_of parts.pages.layout parts.pages.pages pages.pages parts.locks locks parts.rights righted n blocks) a b (did.Moved point))
        → b.standing ≡ standings.AtRange → locks_of locks n ≤ held_by b → RightAnswers number n parts.rights righted a.standing (did.Moved point) → StaysReady parts.pages pages
        → StepsSo told parts (with_these parts pages locks righted) n was (stepped.Moved point next)
    moved law alike righted point does at own right ready =
        let stays = right_left number n parts.rights righted a.standing (did.Moved point) within right in
        moved_so told parts pages locks righted parts.queue n was a.index (IsSummaryAt parts.pages.layout a) (counted (count_of a)) fit is_it (left_by told parts n a pages locks b left righted stays) next HereNext (counted (count_of b)) (is_then (inl at)) same_statement
        (in_hand_then (inl at)) (own_then own) share_then ready right_then alike (inl left.leaves) point (λ names hand_list has tells p shown.
        let old = old_store told parts pages locks righted parts.queue n was a.index (IsSummaryAt parts.pages.layout a) (counted (count_of a)) fit is_it (left_by told parts n a pages locks b left righted stays) names hand_list has in
        let then = new_store told parts pages locks righted parts.queue n was a.index (IsSummaryAt parts.pages.layout a) (counted (count_of a)) fit is_it (left_by told parts n a pages locks b left righted stays) names hand_list has (Some next) in
        let it = at_task old n was a.index (IsSummaryAt parts.pages.layout a) (counted (count_of a)) is_it has p shown in
        let shows = here old n was a.index (IsSummaryAt parts.pages.layout a) (counted (count_of a)) is_it has p shown in
        let so = came told parts n a pages locks b left law righted (did.Moved point) does of_it tells shows.blocks shows.has it.0 it.1 in
        let taken = right_taken number n parts.rights righted a.standing (did.Moved point) right tt within (holds_there old n was a is_it has p shown) (by.left a fits.in_hand) in
        let made = made_by old then n (transaction_of parts.transactions.opens n) hand by a b fits.in_hand is_it has p shown point so.0 (Some n) so.2 (sym taken) refl in (
          made.0,
          (it.0, it.1, made.1),
          (λ rests. is_busy parts.pages.layout it.0 b at (sym made.1 ∙ rests)),
          ap (λ (f : Account → Account). f (counted (count_of a))) made.2 ∙ counts_on a.wish a.standing (count_of a) so.0 (count_of b) (by.wish a fits.in_hand) so.1,
        ))
      where
        right_then : right_held parts.pages.layout (Some next) ≡ Some number
        right_then = by.right b ∙ ap (λ (i : ℕ). right_at (index_at parts.pages.layout i).table b.standing) left.index ∙ ap (right_at number) at

    -- the reply is what the definition tells behind that step
    abbrev pub RepliesSo : Point → Reply → Type 0
    RepliesSo point reply = (names : List (List ℕ)) (hand_list : List (Option Hand)) (has : hand_in hand_list n ≡ Some was) (then : ShownStore) (p : Place) (shown : IsPlaceOf (shown_of (store_of parts names hand_list)) p)
        (made : MadeIn (shown_of (store_of parts names hand_list)) then n was a.index (IsSummaryAt parts.pages.layout a) (counted (count_of a)) is_it has p shown point) → made.after ≡ Resting
        → Some reply ≡ reply_after p.layout number made.between (counted (count_of b)) [] (statement_of was)

    -- it replies, and its table's summarise lock is given
    pub done : StepsInTable → ShowAlike → (righted given : List (Option ℕ)) (point : Point)
        → OfBlocks told parts.pages number (λ blocks. SummariseDoes (step_of parts.pages.layout parts.pages.pages pages.pages parts.locks locks parts.rights righted n blocks) a b (did.Finished point))
        → b.standing ≡ standings.Done → locks_of locks n ≤ held_by b → RightAnswers number n parts.rights righted a.standing (did.Finished point) → StaysReady parts.pages pages
        → (right_of righted number ≡ Some n → given ≡ slice_set righted number None) → (right_of righted number ≢ Some n → given ≡ righted)
        → (reply : Reply) → RepliesSo point reply → StepsSo told parts (with_these parts pages locks given) n was (stepped.Done reply)
    done law alike righted given point does at own right ready gives keeps reply replies =
        let first = right_left number n parts.rights righted a.standing (did.Finished point) within right in
        let as_many = first.tables in
        let still : number < length righted = omega (arith, within, as_many) in
        let stays = stays_on number n parts.rights righted given first (gives_stay number n righted given still gives keeps) in
        let none : held_by b ≡ 0 = ap (λ (q : Standing). held_in b q) at in
        done_so told parts pages locks given parts.queue n was a.index (IsSummaryAt parts.pages.layout a) (counted (count_of a)) fit is_it (left_by told parts n a pages locks b left given stays) (counted (count_of b)) refl (omega (arith, own, none)) (by.share a) ready (gives_own number n righted given still gives keeps) alike (inl left.leaves) point reply
        (λ names hand_list has tells p shown.
        let old = old_store told parts pages locks given parts.queue n was a.index (IsSummaryAt parts.pages.layout a) (counted (count_of a)) fit is_it (left_by told parts n a pages locks b left given stays) names hand_list has in
        let then = new_store told parts pages locks given parts.queue n was a.index (IsSummaryAt parts.pages.layout a) (counted (count_of a)) fit is_it (left_by told parts n a pages locks b left given stays) names hand_list has None in
        let it = at_task old n was a.index (IsSummaryAt parts.pages.layout a) (counted (count_of a)) is_it has p shown in
        let shows = here old n was a.index (IsSummaryAt parts.pages.layout a) (counted (count_of a)) is_it has p shown in
        let so = came told parts n a pages locks b left law righted (did.Finished point) does of_it tells shows.blocks shows.has it.0 it.1 in
        let taken = right_taken number n parts.rights righted a.standing (did.Finished point) right tt within (holds_there old n was a is_it has p shown) (by.left a fits.in_hand) in
        let free : right_of given number ≡ None = gives_there number n righted given still gives keeps taken in
        let made = made_by old then n (transaction_of parts.transactions.opens n) hand by a b fits.in_hand is_it has p shown point so.0 (held_behind a.wish n (indexes_left parts.pages.layout a.index it.0)) so.2
        (last_gives a.wish n (indexes_left parts.pages.layout a.index it.0) (by.wish a fits.in_hand) ∙ sym free) refl in
        let rests = made.1 ∙ is_over parts.pages.layout it.0 b (λ complete. by.wish a fits.in_hand (sym left.wish ∙ complete)) at in (
          made.0,
          rests,
          ap (λ (f : Account → Account). f (counted (count_of a))) made.2 ∙ counts_on a.wish a.standing (count_of a) so.0 (count_of b) (by.wish a fits.in_hand) so.1,
          replies names hand_list has then p shown made.0 rests,
        ))

    -- it waits for a page of its index
    pub waits_there : StepsInTable → ShowAlike → (righted : List (Option ℕ)) (held : Held)
        → OfBlocks told parts.pages number (λ blocks. SummariseDoes (step_of parts.pages.layout parts.pages.pages pages.pages parts.locks locks parts.rights righted n blocks) a b (did.Blocked held))
        → StandsThen a b (did.Blocked held) → NamesHeld parts.pages.layout parts.locks a.index n held × (locks ≡ parts.locks) × Keeps told parts.pages pages
        → locks_of locks n ≤ held_by b → RightAnswers number n parts.rights righted a.standing (did.Blocked held) → StaysReady parts.pages pages
        → (what : What) → ((table at : ℕ) → slice_get (indexes_of parts.pages.layout table) at ≡ Some a.index → what ≡ whats.Page (index_name parts.pages.layout table at) held.page.block)
        → StepsSo told parts (with_these parts pages locks righted) n was (stepped.Blocked what held.by next)
    waits_there law alike righted held does stands blocked own right ready what named =
        let same_rights : righted ≡ parts.rights = subst (λ (q : Standing). RightAnswers number n parts.rights righted q (did.Blocked held)) stands.0 right in
        let stood : b.standing ≡ a.standing = ap (λ (x : SummariseState). x.standing) stands.2 in
        waits_so told parts pages locks righted parts.queue n was a.index (IsSummaryAt parts.pages.layout a) (counted (count_of a)) fit is_it (left_by told parts n a pages locks b left righted (same_stays number n parts.rights righted same_rights)) next HereNext
        (subst (λ (k : ℕ). IsUpkeep parts.pages.layout next a.index HereNext (counted k)) (same_count a b stands.0 stands.2 stands.3) (is_then (inr stood))) same_statement
        (in_hand_then (inr stood)) (own_then own) share_then ready (right_same stood) alike (inl left.leaves) blocked.2 blocked.1 same_rights refl what held.by
        (blocked.0.2, inl (holder_has_lock parts.locks held.page held.by blocked.0.1)) (λ names hand_list has tells p shown.
        let old = old_store told parts pages locks righted parts.queue n was a.index (IsSummaryAt parts.pages.layout a) (counted (count_of a)) fit is_it (left_by told parts n a pages locks b left righted (same_stays number n parts.rights righted same_rights)) names hand_list has in
        let it = at_task old n was a.index (IsSummaryAt parts.pages.layout a) (counted (count_of a)) is_it has p shown in
        let shows = here old n was a.index (IsSummaryAt parts.pages.layout a) (counted (count_of a)) is_it has p shown in
        let so = came told parts n a pages locks b left law righted (did.Blocked held) does of_it tells shows.blocks shows.has in (
          (λ task stood. (stood.0, stood.1, stood.2 ∙ sym (so stood.0 stood.1).1)),
          subst (λ (x : What). Steps p n (Waits (refusals.Blocked x (name_of p held.by))) p) (sym (named number it.0 it.1))
              (waits_for_page old n was a.index (IsSummaryAt parts.pages.layout a) (counted (count_of a)) is_it has p shown fits.entries (on_there p it.0 shown.layout (ap (λ (x : TableState). x.task n) shows.shown ∙ it.2)) (task_of parts.pages.layout it.0 a) it.2 it.0 it.1 held.page held.by
              ((so it.0 it.1).0 shows.unseen it.2 shows.lock (kept_here old n was a.index (IsSummaryAt parts.pages.layout a) (counted (count_of a)) is_it has p shown)) blocked.0.0 blocked.0.1),
        ))

    -- another session has its table's summarise lock
    pub lacks_right : StepsInTable → ShowAlike → (righted : List (Option ℕ)) (by : ℕ)
        → OfBlocks told parts.pages number (λ blocks. SummariseDoes (step_of parts.pages.layout parts.pages.pages pages.pages parts.locks locks parts.rights righted n blocks) a b (did.NoRight by))
        → StandsThen a b (did.NoRight by) → (locks ≡ parts.locks) × Keeps told parts.pages pages → locks_of locks n ≤ held_by b → RightAnswers number n parts.rights righted a.standing (did.NoRight by)
        → StaysReady parts.pages pages → (what : What) → what ≡ whats.Work (table_name parts.pages.layout number)
        → StepsSo told parts (with_these parts pages locks righted) n was (stepped.Blocked what by next)
    lacks_right law alike righted by does stands kept own right ready what named =
        let told_so : (right_of parts.rights number ≡ Some by) × (by ≢ n) × (righted ≡ parts.rights) = subst (λ (q : Standing). RightAnswers number n parts.rights righted q (did.NoRight by)) stands.0 right in
        let stood : b.standing ≡ a.standing = ap (λ (x : SummariseState). x.standing) stands.1 in
        waits_so told parts pages locks righted parts.queue n was a.index (IsSummaryAt parts.pages.layout a) (counted (count_of a)) fit is_it (left_by told parts n a pages locks b left righted (same_stays number n parts.rights righted told_so.2)) next HereNext
        (subst (λ (k : ℕ). IsUpkeep parts.pages.layout next a.index HereNext (counted k)) (ap count_of stands.1) (is_then (inr stood))) same_statement
        (in_hand_then (inr stood)) (own_then own) share_then ready (right_same stood) alike (inl left.leaves) kept.1 kept.0 told_so.2 refl what by
        (told_so.1, inr (number, told_so.0)) (λ names hand_list has tells p shown.
        let old = old_store told parts pages locks righted parts.queue n was a.index (IsSummaryAt parts.pages.layout a) (counted (count_of a)) fit is_it (left_by told parts n a pages locks b left righted (same_stays number n parts.rights righted told_so.2)) names hand_list has in
        let it = at_task old n was a.index (IsSummaryAt parts.pages.layout a) (counted (count_of a)) is_it has p shown in
        let shows = here old n was a.index (IsSummaryAt parts.pages.layout a) (counted (count_of a)) is_it has p shown in
        let so = came told parts n a pages locks b left law righted (did.NoRight by) does of_it tells shows.blocks shows.has in (
          (λ task stood. (stood.0, stood.1, stood.2 ∙ sym (ap (λ (x : SummariseState). task_of parts.pages.layout stood.0 x) stands.1))),
          subst (λ (x : What). Steps p n (Waits (refusals.Blocked x (name_of p by))) p) (sym named)
              (waits_for_lock old n was a.index (IsSummaryAt parts.pages.layout a) (counted (count_of a)) is_it has p shown fits.entries (on_there p it.0 shown.layout (ap (λ (x : TableState). x.task n) shows.shown ∙ it.2)) (task_of parts.pages.layout it.0 a) it.2 by
              ((so it.0 it.1).0 shows.unseen it.2 shows.lock (kept_here old n was a.index (IsSummaryAt parts.pages.layout a) (counted (count_of a)) is_it has p shown)) told_so.0),
        ))

  -- the pages refuse it, and its session gives its locks
  pub refused : (shown : IsShown told parts n (hand a)) → TakesSound → (pages : View D) (locks given : LockState) (b : SummariseState) (left : MachineLeft told parts n a pages locks b)
      → b ≡ record a { hand = b.hand } → given.limit ≡ locks.limit → locks_of given n ≡ 0 → ((m : ℕ) → m ≢ n → locks_of given m ≡ locks_of locks m)
      → (error : StoreError) → Refused told (Tells told parts.pages → DamageIn parts.pages.layout parts.pages.pages a) parts.pages pages error → NamesAPage parts.pages.layout error
      → StepsSo told parts (with_these parts pages given parts.rights) n (hand a) (stepped.Undone (fault_of error) (hand b))
  refused shown law pages locks given b left same limit none others error refusal names =
      undone_so told parts pages given parts.rights parts.queue n (hand a) a.index (IsSummaryAt parts.pages.layout a) (counted (count_of a)) fit is_it (left_given told parts n a pages locks b left given limit others parts.rights (same_stays number n parts.rights parts.rights refl)) (hand b) (same_statement pages locks b left)
      (in_hand_then pages locks b left (inr (ap (λ (x : SummariseState). x.standing) same)))
      (omega (arith, none)) (share_then pages locks b left) (right_same pages locks b left (ap (λ (x : SummariseState). x.standing) same)) refl error
      (refused_untold told (Tells told parts.pages → DamageIn parts.pages.layout parts.pages.pages a) parts.pages pages error (λ ready damage tells. is_sound shown tells ready law (damage tells)) refusal) names
