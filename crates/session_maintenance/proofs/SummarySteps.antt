-- a step of a vacuum's summary, over the parts of a store
use Rattle.std.proofs.Common.{◌≡◌, ◌≢◌, inl, inr, ℕ, ◌+◌, ◌-◌, ◌<◌, ◌≤◌, List, length, set, get_or, Option, None, Some, refl, sym, ap, subst, ◌∙◌, arith}
use Rattle.std.specs.Prelude.{slice_get, slice_set}
use Rattle.disk_trait.specs.Told.{Told}
use Rattle.block_model.specs.declared.reply.Point.{Point}
use Rattle.block_model.specs.declared.reply.Reply.TheVariants as replies
use Rattle.block_model.specs.declared.reply.Refusal.TheVariants as refusals
use Rattle.block_model.specs.declared.reply.What.{What}
use Rattle.block_model.specs.declared.reply.What.TheVariants as whats
use Rattle.store_layout.specs.DiskLayout.{DiskLayout}
use Rattle.page_map.specs.declared.faults.StoreError.{StoreError}
use Rattle.page_map.specs.Keeps.{Keeps, Tells}
use Rattle.page_map.specs.Outcome.{Refused}
use Rattle.page_map.specs.PageMap.{View}
use Rattle.page_locks.specs.declared.did.Did.TheVariants as did
use Rattle.page_locks.specs.declared.held.Held.{Held}
use Rattle.page_locks.specs.LockCounts.{locks_of}
use Rattle.page_locks.specs.LockHolders.{LockState}
use Rattle.page_locks.specs.RightHolders.{right_of}
use Rattle.heap_rows.specs.HeapBlocks.{OfBlocks}
use Rattle.transactions.specs.Laws.{ShowAlike}
use Rattle.index_steps.specs.IndexTuples.{index_at}
use Rattle.index_steps.specs.ShownTable.{indexes_of}
use Rattle.index_steps.specs.SwapAnswers.{NamesHeld}
use Rattle.coverage.specs.Accounts.{Account}
use Rattle.coverage.specs.Table.{Restarts, Resting, Task}
use Rattle.summarise_core.specs.declared.course.Standing.{Standing}
use Rattle.summarise_core.specs.declared.course.Standing.TheVariants as standings
use Rattle.summarise_core.specs.declared.wish.Wish.TheVariants as wishes
use Rattle.summarise_core.specs.Summarises.{DamageIn, IsSummariseOf, ReadyAt, RightAnswers, StandsThen, SummariseDoes, SummariseState, count_of, held_by, held_in, step_of}
use Rattle.summarise_core.specs.SummariseTable.{held_behind, indexes_left, task_at, task_of}
use Rattle.script_semantics.specs.Names.{index_name, name_of, table_name}
use Rattle.script_semantics.specs.Place.{Place}
use Rattle.script_semantics.specs.StatementSteps.{Steps, Waits}
use Rattle.store_layout.specs.declared.statement.Statement.TheVariants as statements
use Rattle.session_parts.specs.declared.hand.Completing.{Completing}
use Rattle.session_parts.specs.declared.hand.Hand.{Hand}
use Rattle.session_parts.specs.declared.hand.Hand.TheVariants as hands
use Rattle.session_parts.specs.declared.hand.Stepped.TheVariants as stepped
use Rattle.session_parts.specs.declared.parts.Parts.{Parts}
use Rattle.session_parts.specs.DamagedPages.{NamesAPage}
use Rattle.session_parts.specs.Hands.{completed_by, statement_of, summary_now}
use Rattle.session_parts.specs.HandFits.{IsCompletingFor, right_held}
use Rattle.session_parts.specs.HandsInTables.{IsCompletingAt}
use Rattle.session_parts.specs.ShowsPlace.{IsPlaceOf}
use Rattle.session_parts.specs.StepAnswers.{StaysReady}
use Rattle.session_parts.specs.Stepping.{IsFit, IsShown}
use Rattle.session_parts.specs.StoreFaults.{fault_of}
use Rattle.session_parts.specs.StoreStates.{ShownStore, hand_in, shown_of, store_of}
use Rattle.session_parts.specs.UndoneLaws.{FitsParts, StepsSo}
use Rattle.session_parts.proofs.HeldLocks.{holder_has_lock}
use Rattle.session_parts.proofs.Undone.{fit_of_parts}
use Rattle.session_maintenance.proofs.SummariseLocks.{gives_own, gives_stay, gives_there, same_stays, stays_on}
use Rattle.session_maintenance.proofs.SummariseParts.{MachineLeft, TakesReady, TakesSound, came, left_by, left_given, same_count}
use Rattle.session_maintenance.proofs.SummariseTurns.{StepsInTable, is_busy, right_left, right_taken}
use Rattle.session_maintenance.proofs.UpkeepAt.{IsUpkeep, here, kept_here, unseen_here}
use Rattle.session_maintenance.proofs.UpkeepParts.{done_so, moved_so, new_store, old_store, refused_untold, undone_so, waits_so, with_these}
use Rattle.session_maintenance.proofs.UpkeepStays.{waits_for_lock, waits_for_page}
use Rattle.session_maintenance.proofs.CompleteTurns.{holds_there, made_by, restarts_apart, there}
use Rattle.session_maintenance.proofs.Summaries.{adds_now, as_many, behind_all, behind_one, completing_next, completing_on, got_now, held_no_more, held_now, held_on, index_there, is_completing, is_left, is_of, new_task, next_summary, now_then, task_now, telling, tells_next, tells_now}

-- the vacuum has the summary in its place then
pub record HasThen (c then : Completing) (b : SummariseState) : Type 0 where
  pub items : then.summaries.items ≡ set c.summaries.items c.next b
  pub table : then.table ≡ c.table
  pub rows : then.rows ≡ c.rows
  pub unnamed : then.unnamed ≡ c.unnamed

-- what a law says of the indexes of a table
abbrev pub OfTable : DiskLayout → Type 0
OfTable layout = (table at index : ℕ) → slice_get (indexes_of layout table) at ≡ Some index → (index_at layout index).table ≡ table

-- the summary that is read of the list is the one that it makes now, and its index is one of its table
pub record IsNow (layout : DiskLayout) (c : Completing) (a : SummariseState) : Type 0 where
  pub got : summary_now c ≡ Some a
  pub table : (index_at layout a.index).table ≡ c.table

pub is_now : (layout : DiskLayout) (c : Completing) (a : SummariseState) → IsCompletingFor layout c → a ≡ get_or c.summaries.items c.next a → OfTable layout → IsNow layout c a
is_now layout c a for is of =
    let got = got_now c layout a for is in
    record { got = got; table = of c.table c.next a.index (index_there c a got layout for) }

at_range_apart : standings.AtRange ≢ standings.Done
at_range_apart is = cc

-- where nothing but what it has in hand changed, it is at its task still
at_still : (layout : DiskLayout) (c then : Completing) (a b : SummariseState) → summary_now c ≡ Some a → summary_now then ≡ Some b → then.next ≡ c.next → task_of layout c.next b ≡ task_of layout c.next a
    → (task : Task) → IsCompletingAt layout c task → IsCompletingAt layout then task
at_still layout c then a b got now next same task at = (b, now, task_now c a got layout task at ∙ sym same ∙ ap (λ (m : ℕ). task_of layout m b) (sym next))

module _ {D : Type 0} (told : D → Told) (parts : Parts D) (n : ℕ) (c : Completing) (a : SummariseState) (got : summary_now c ≡ Some a) (fit : IsFit told parts n (hands.Completes c)) (same_table : (index_at parts.pages.layout a.index).table ≡ c.table) where
  pub fits : FitsParts told parts n (Some (hands.Completes c))
  fits = fit_of_parts told parts n (hands.Completes c) fit

  abbrev number : ℕ
  number = (index_at parts.pages.layout a.index).table

  pub below : number < length parts.pages.layout.schema.tables
  below = subst (λ (t : ℕ). t < length parts.pages.layout.schema.tables) (sym same_table) fits.in_hand.table

  pub of_it : IsSummariseOf parts.pages.layout a
  of_it = (is_of c a got parts.pages.layout fits.in_hand).0

  pub is_it : IsUpkeep parts.pages.layout (hands.Completes c) a.index (IsCompletingAt parts.pages.layout c) (completed_by c)
  is_it = is_completing parts.pages.layout c a.index (sym same_table) of_it.index below

  pub wish_it : a.wish ≡ wishes.Complete
  wish_it = (is_of c a got parts.pages.layout fits.in_hand).1

  pub left_it : a.standing ≢ standings.Done
  left_it = is_left c a got parts.pages.layout fits.in_hand

  pub stands : slice_get (indexes_of parts.pages.layout (index_at parts.pages.layout a.index).table) c.next ≡ Some a.index
  stands = subst (λ (t : ℕ). slice_get (indexes_of parts.pages.layout t) c.next ≡ Some a.index) (sym same_table) (index_there c a got parts.pages.layout fits.in_hand)

  pub within : number < length parts.rights
  within = let as_many = fits.rights in let inside = below in omega (arith, as_many, inside)

  -- before it the page locks are its own
  pub own_was : locks_of parts.locks n ≤ held_by a
  own_was = subst (λ (k : ℕ). locks_of parts.locks n ≤ k) (held_now c a got) fits.own

  module _ (shown : IsShown told parts n (hands.Completes c)) (tells : Tells told parts.pages) (ready : parts.pages.failed ≡ None) where
    abbrev store : ShownStore
    store = shown_of (store_of parts (shown tells ready).0 (shown tells ready).1)

    abbrev had : hand_in (shown tells ready).1 n ≡ Some (hands.Completes c)
    had = (shown tells ready).2

    abbrev place : Place
    place = (shown tells ready).3.0

    abbrev is_shown : IsPlaceOf store place
    is_shown = (shown tells ready).3.1

    pub is_ready : TakesReady → ReadyAt parts.pages.layout parts.pages.pages a
    is_ready law = law parts.pages.layout parts.pages.pages parts.locks (here store n (hands.Completes c) a.index (IsCompletingAt parts.pages.layout c) (completed_by c) is_it had place is_shown).blocks n c.next a
        (unseen_here store n (hands.Completes c) a.index (IsCompletingAt parts.pages.layout c) (completed_by c) is_it had place is_shown) stands (there store n c a got is_it had place is_shown)
        (kept_here store n (hands.Completes c) a.index (IsCompletingAt parts.pages.layout c) (completed_by c) is_it had place is_shown)

    pub is_sound : TakesSound → DamageIn parts.pages.layout parts.pages.pages a → ⊥
    is_sound law = law parts.pages.layout parts.pages.pages parts.locks (here store n (hands.Completes c) a.index (IsCompletingAt parts.pages.layout c) (completed_by c) is_it had place is_shown).blocks n c.next a
        (unseen_here store n (hands.Completes c) a.index (IsCompletingAt parts.pages.layout c) (completed_by c) is_it had place is_shown) stands (there store n c a got is_it had place is_shown)
        (kept_here store n (hands.Completes c) a.index (IsCompletingAt parts.pages.layout c) (completed_by c) is_it had place is_shown)
        (λ placing. is_shown.order a.index of_it.index)

  module _ (pages : View D) (locks : LockState) (b : SummariseState) (left : MachineLeft told parts n a pages locks b) where
    abbrev was : Hand
    was = hands.Completes c

    -- so many indexes come behind its own
    left_is : indexes_left parts.pages.layout a.index c.next ≡ length c.summaries.items - (c.next + 1)
    left_is = ap (λ (k : ℕ). k - (c.next + 1)) (ap (λ (t : ℕ). length (indexes_of parts.pages.layout t)) same_table ∙ as_many c a got parts.pages.layout fits.in_hand)

    left_then : indexes_left parts.pages.layout b.index c.next ≡ length c.summaries.items - (c.next + 1)
    left_then = ap (λ (i : ℕ). indexes_left parts.pages.layout i c.next) left.index ∙ left_is

    wish_then : b.wish ≡ wishes.Complete
    wish_then = left.wish ∙ wish_it

    -- behind the last range of an index it holds no page lock
    no_locks : b.standing ≡ standings.Done → locks_of locks n ≤ held_by b → locks_of locks n ≡ 0
    no_locks is own = let none : held_by b ≡ 0 = ap (λ (q : Standing). held_in b q) is in omega (arith, own, none)

    -- and it is at this
    restarts_so : b.standing ≡ standings.Done → c.next + 1 < length c.summaries.items → task_of parts.pages.layout c.next b ≡ Restarts (c.next + 1)
    restarts_so is more =
        ap (λ (q : Standing). task_at parts.pages.layout c.next b q) is
        ∙ behind_one parts.pages.layout n c.next (indexes_left parts.pages.layout b.index c.next) b wish_then (let is_so = left_then in omega (arith, is_so, more))

    rests_so : b.standing ≡ standings.Done → length c.summaries.items ≤ c.next + 1 → task_of parts.pages.layout c.next b ≡ Resting
    rests_so is last =
        ap (λ (q : Standing). task_at parts.pages.layout c.next b q) is
        ∙ behind_all parts.pages.layout n c.next (indexes_left parts.pages.layout b.index c.next) b wish_then (let is_so = left_then in omega (arith, is_so, last))

    module _ (then : Completing) (has_then : HasThen c then b) where
      abbrev next : Hand
      next = hands.Completes then

      same_statement : statement_of next ≡ statement_of was
      same_statement = ap statements.Vacuum has_then.table

      is_next : IsUpkeep parts.pages.layout next a.index (IsCompletingAt parts.pages.layout then) (completed_by then)
      is_next = is_completing parts.pages.layout then a.index (has_then.table ∙ sym same_table) of_it.index below

      tells_so : {account : Account} → completed_by then ≡ account → IsUpkeep parts.pages.layout next a.index (IsCompletingAt parts.pages.layout then) account
      tells_so same = subst (λ (k : Account). IsUpkeep parts.pages.layout next a.index (IsCompletingAt parts.pages.layout then) k) same is_next

      right_next : right_held parts.pages.layout (Some next) ≡ Some number
      right_next = ap Some (has_then.table ∙ sym same_table)

      right_stays : right_held parts.pages.layout (Some next) ≡ right_held parts.pages.layout (Some was)
      right_stays = ap Some has_then.table

      tells_then : (k : ℕ) → telling then.rows then.unnamed k ≡ telling c.rows c.unnamed k
      tells_then k = ap (λ (r : ℕ). telling r then.unnamed k) has_then.rows ∙ ap (λ (r : ℕ). telling c.rows r k) has_then.unnamed

      -- it goes on in its index
      module _ (same_next : then.next ≡ c.next) (same_ranges : then.ranges ≡ c.ranges) where
        pub now_b : summary_now then ≡ Some b
        now_b = now_then parts.pages.layout c then a b got fits.in_hand has_then.items has_then.table left.index left.wish left.of same_next same_ranges

        for_b : b.standing ≢ standings.Done → IsCompletingFor parts.pages.layout then
        for_b goes = completing_on parts.pages.layout c then a b got fits.in_hand has_then.items has_then.table left.index left.wish left.of same_next same_ranges goes

        tells_b : completed_by then ≡ telling c.rows c.unnamed (c.ranges + count_of b)
        tells_b = tells_now then b now_b ∙ tells_then (then.ranges + count_of b) ∙ ap (λ (k : ℕ). telling c.rows c.unnamed (k + count_of b)) same_ranges

        pub moved : StepsInTable → ShowAlike → (righted : List (Option ℕ)) (point : Point)
            → OfBlocks told parts.pages number (λ blocks. SummariseDoes (step_of parts.pages.layout parts.pages.pages pages.pages parts.locks locks parts.rights righted n blocks) a b (did.Moved point))
            → b.standing ≡ standings.AtRange → locks_of locks n ≤ held_by b → RightAnswers number n parts.rights righted a.standing (did.Moved point) → StaysReady parts.pages pages
            → StepsSo told parts (with_these parts pages locks righted) n was (stepped.Moved point next)
        moved law alike righted point does at own right ready =
            let stays = right_left number n parts.rights righted a.standing (did.Moved point) within right in
            moved_so told parts pages locks righted parts.queue n was a.index (IsCompletingAt parts.pages.layout c) (completed_by c) fit is_it (left_by told parts n a pages locks b left righted stays) next (IsCompletingAt parts.pages.layout then) (completed_by then) is_next same_statement
            (for_b (λ over. at_range_apart (sym at ∙ over))) (subst (λ (k : ℕ). locks_of locks n ≤ k) (sym (held_now then b now_b)) own) refl ready right_next alike (inl left.leaves) point (λ names hand_list has tells p shown.
            let old = old_store told parts pages locks righted parts.queue n was a.index (IsCompletingAt parts.pages.layout c) (completed_by c) fit is_it (left_by told parts n a pages locks b left righted stays) names hand_list has in
            let after = new_store told parts pages locks righted parts.queue n was a.index (IsCompletingAt parts.pages.layout c) (completed_by c) fit is_it (left_by told parts n a pages locks b left righted stays) names hand_list has (Some next) in
            let shows = here old n was a.index (IsCompletingAt parts.pages.layout c) (completed_by c) is_it has p shown in
            let so = came told parts n a pages locks b left law righted (did.Moved point) does of_it tells shows.blocks shows.has c.next stands in
            let taken = right_taken number n parts.rights righted a.standing (did.Moved point) right tt within (holds_there old n c a got is_it has p shown) left_it in
            let made = made_by old n c a got is_it has p shown after b left_it wish_it same_table point so.0 (Some n) so.2 (sym taken) refl in (
              made.0,
              (b, now_b, made.1 ∙ ap (λ (m : ℕ). task_of parts.pages.layout m b) (sym same_next)),
              (λ rests. is_busy parts.pages.layout c.next b at (sym made.1 ∙ rests)),
              ap (λ (f : Account → Account). f (completed_by c)) made.2 ∙ adds_now c a got b so.0 wish_it so.1 ∙ sym tells_b,
            ))

        -- it waits for a page of its index
        pub waits_there : StepsInTable → ShowAlike → (righted : List (Option ℕ)) (held : Held)
            → OfBlocks told parts.pages number (λ blocks. SummariseDoes (step_of parts.pages.layout parts.pages.pages pages.pages parts.locks locks parts.rights righted n blocks) a b (did.Blocked held))
            → StandsThen a b (did.Blocked held) → NamesHeld parts.pages.layout parts.locks a.index n held × (locks ≡ parts.locks) × Keeps told parts.pages pages
            → locks_of locks n ≤ held_by b → RightAnswers number n parts.rights righted a.standing (did.Blocked held) → StaysReady parts.pages pages
            → (what : What) → ((table at : ℕ) → slice_get (indexes_of parts.pages.layout table) at ≡ Some a.index → what ≡ whats.Page (index_name parts.pages.layout table at) held.page.block)
            → StepsSo told parts (with_these parts pages locks righted) n was (stepped.Blocked what held.by next)
        waits_there law alike righted held does stood blocked own right ready what named =
            let same_rights : righted ≡ parts.rights = subst (λ (q : Standing). RightAnswers number n parts.rights righted q (did.Blocked held)) stood.0 right in
            let stays = same_stays number n parts.rights righted same_rights in
            waits_so told parts pages locks righted parts.queue n was a.index (IsCompletingAt parts.pages.layout c) (completed_by c) fit is_it (left_by told parts n a pages locks b left righted stays) next (IsCompletingAt parts.pages.layout then)
            (tells_so (tells_b ∙ ap (λ (k : ℕ). telling c.rows c.unnamed (c.ranges + k)) (same_count a b stood.0 stood.2 stood.3) ∙ sym (tells_now c a got))) same_statement
            (for_b (λ over. at_range_apart (sym stood.0 ∙ sym (ap (λ (x : SummariseState). x.standing) stood.2) ∙ over))) (subst (λ (k : ℕ). locks_of locks n ≤ k) (sym (held_now then b now_b)) own) refl ready right_stays
            alike (inl left.leaves) blocked.2 blocked.1 same_rights refl what held.by (blocked.0.2, inl (holder_has_lock parts.locks held.page held.by blocked.0.1)) (λ names hand_list has tells p shown.
            let old = old_store told parts pages locks righted parts.queue n was a.index (IsCompletingAt parts.pages.layout c) (completed_by c) fit is_it (left_by told parts n a pages locks b left righted stays) names hand_list has in
            let shows = here old n was a.index (IsCompletingAt parts.pages.layout c) (completed_by c) is_it has p shown in
            let at = there old n c a got is_it has p shown in
            let so = came told parts n a pages locks b left law righted (did.Blocked held) does of_it tells shows.blocks shows.has c.next stands in (
              at_still parts.pages.layout c then a b got now_b same_next so.1,
              subst (λ (x : What). Steps p n (Waits (refusals.Blocked x (name_of p held.by))) p) (sym (named number c.next stands))
                  (waits_for_page old n was a.index (IsCompletingAt parts.pages.layout c) (completed_by c) is_it has p shown fits.entries same_table (task_of parts.pages.layout c.next a) at c.next stands held.page held.by
                  (so.0 shows.unseen at shows.lock (kept_here old n was a.index (IsCompletingAt parts.pages.layout c) (completed_by c) is_it has p shown)) blocked.0.0 blocked.0.1),
            ))

        -- another session has its table's summarise lock, where the disk doesn't tell its contents
        pub lacks_right : StepsInTable → ShowAlike → (righted : List (Option ℕ)) (by : ℕ)
            → OfBlocks told parts.pages number (λ blocks. SummariseDoes (step_of parts.pages.layout parts.pages.pages pages.pages parts.locks locks parts.rights righted n blocks) a b (did.NoRight by))
            → StandsThen a b (did.NoRight by) → (locks ≡ parts.locks) × Keeps told parts.pages pages → locks_of locks n ≤ held_by b → RightAnswers number n parts.rights righted a.standing (did.NoRight by)
            → StaysReady parts.pages pages → (what : What) → what ≡ whats.Work (table_name parts.pages.layout number)
            → StepsSo told parts (with_these parts pages locks righted) n was (stepped.Blocked what by next)
        lacks_right law alike righted by does stood kept own right ready what named =
            let told_so : (right_of parts.rights number ≡ Some by) × (by ≢ n) × (righted ≡ parts.rights) = subst (λ (q : Standing). RightAnswers number n parts.rights righted q (did.NoRight by)) stood.0 right in
            let stays = same_stays number n parts.rights righted told_so.2 in
            waits_so told parts pages locks righted parts.queue n was a.index (IsCompletingAt parts.pages.layout c) (completed_by c) fit is_it (left_by told parts n a pages locks b left righted stays) next (IsCompletingAt parts.pages.layout then)
            (tells_so (tells_b ∙ ap (λ (x : SummariseState). telling c.rows c.unnamed (c.ranges + count_of x)) stood.1 ∙ sym (tells_now c a got))) same_statement
            (for_b (λ over. left_it (sym (ap (λ (x : SummariseState). x.standing) stood.1) ∙ over))) (subst (λ (k : ℕ). locks_of locks n ≤ k) (sym (held_now then b now_b)) own) refl ready right_stays
            alike (inl left.leaves) kept.1 kept.0 told_so.2 refl what by (told_so.1, inr (number, told_so.0)) (λ names hand_list has tells p shown.
            let old = old_store told parts pages locks righted parts.queue n was a.index (IsCompletingAt parts.pages.layout c) (completed_by c) fit is_it (left_by told parts n a pages locks b left righted stays) names hand_list has in
            let shows = here old n was a.index (IsCompletingAt parts.pages.layout c) (completed_by c) is_it has p shown in
            let at = there old n c a got is_it has p shown in
            let so = came told parts n a pages locks b left law righted (did.NoRight by) does of_it tells shows.blocks shows.has c.next stands in (
              at_still parts.pages.layout c then a b got now_b same_next (ap (task_of parts.pages.layout c.next) stood.1),
              subst (λ (x : What). Steps p n (Waits (refusals.Blocked x (name_of p by))) p) (sym named)
                  (waits_for_lock old n was a.index (IsCompletingAt parts.pages.layout c) (completed_by c) is_it has p shown fits.entries same_table (task_of parts.pages.layout c.next a) at by
                  (so.0 shows.unseen at shows.lock (kept_here old n was a.index (IsCompletingAt parts.pages.layout c) (completed_by c) is_it has p shown)) told_so.0),
            ))

      -- its index is done: another one comes
      module _ (one_more : then.next ≡ c.next + 1) (more_ranges : then.ranges ≡ c.ranges + count_of b) (more : c.next + 1 < length c.summaries.items) (done : b.standing ≡ standings.Done) where
        pub next_index_comes : StepsInTable → ShowAlike → (righted : List (Option ℕ)) (point : Point)
            → OfBlocks told parts.pages number (λ blocks. SummariseDoes (step_of parts.pages.layout parts.pages.pages pages.pages parts.locks locks parts.rights righted n blocks) a b (did.Finished point))
            → locks_of locks n ≤ held_by b → RightAnswers number n parts.rights righted a.standing (did.Finished point) → StaysReady parts.pages pages
            → StepsSo told parts (with_these parts pages locks righted) n was (stepped.Moved point next)
        next_index_comes law alike righted point does own right ready =
            let stays = right_left number n parts.rights righted a.standing (did.Finished point) within right in
            let new = next_summary parts.pages.layout c then a b got fits.in_hand has_then.items has_then.table left.index left.wish left.of one_more more_ranges more done in
            let for_next = completing_next parts.pages.layout c then a b got fits.in_hand has_then.items has_then.table left.index left.wish left.of one_more more_ranges more done in
            let tells = tells_next parts.pages.layout c then a b got fits.in_hand has_then.items has_then.table left.index left.wish left.of one_more more_ranges more done in
            let holds : locks_of locks n ≡ 0 = no_locks done own in
            moved_so told parts pages locks righted parts.queue n was a.index (IsCompletingAt parts.pages.layout c) (completed_by c) fit is_it (left_by told parts n a pages locks b left righted stays) next (IsCompletingAt parts.pages.layout then) (completed_by then) is_next same_statement
            for_next (omega (arith, holds)) refl ready right_next alike (inl left.leaves) point (λ names hand_list has tell p shown.
            let old = old_store told parts pages locks righted parts.queue n was a.index (IsCompletingAt parts.pages.layout c) (completed_by c) fit is_it (left_by told parts n a pages locks b left righted stays) names hand_list has in
            let after = new_store told parts pages locks righted parts.queue n was a.index (IsCompletingAt parts.pages.layout c) (completed_by c) fit is_it (left_by told parts n a pages locks b left righted stays) names hand_list has (Some next) in
            let shows = here old n was a.index (IsCompletingAt parts.pages.layout c) (completed_by c) is_it has p shown in
            let so = came told parts n a pages locks b left law righted (did.Finished point) does of_it tell shows.blocks shows.has c.next stands in
            let taken = right_taken number n parts.rights righted a.standing (did.Finished point) right tt within (holds_there old n c a got is_it has p shown) left_it in
            let some : 0 < indexes_left parts.pages.layout a.index c.next = let is = left_is in omega (arith, is, more) in
            let made = made_by old n c a got is_it has p shown after b left_it wish_it same_table point so.0 (held_behind a.wish n (indexes_left parts.pages.layout a.index c.next)) so.2
            (held_on parts.pages.layout n c.next (indexes_left parts.pages.layout a.index c.next) a wish_it some ∙ sym taken) refl in
            let comes : made.0.after ≡ Restarts (c.next + 1) = made.1 ∙ restarts_so done more in (
              made.0,
              (new.now, new.is, comes ∙ ap Restarts (sym one_more) ∙ sym (new_task parts.pages.layout n then.next 0 new.now new.wish new.new)),
              (λ rests. restarts_apart (c.next + 1) (sym comes ∙ rests)),
              ap (λ (f : Account → Account). f (completed_by c)) made.2 ∙ adds_now c a got b so.0 wish_it so.1 ∙ sym (tells ∙ tells_then (c.ranges + count_of b)),
            ))

    -- the last index is done: it replies, and its table's summarise lock is given
    pub done : StepsInTable → ShowAlike → (righted given : List (Option ℕ)) (point : Point)
        → OfBlocks told parts.pages number (λ blocks. SummariseDoes (step_of parts.pages.layout parts.pages.pages pages.pages parts.locks locks parts.rights righted n blocks) a b (did.Finished point))
        → b.standing ≡ standings.Done → length c.summaries.items ≤ c.next + 1 → locks_of locks n ≤ held_by b → RightAnswers number n parts.rights righted a.standing (did.Finished point) → StaysReady parts.pages pages
        → (right_of righted number ≡ Some n → given ≡ slice_set righted number None) → (right_of righted number ≢ Some n → given ≡ righted)
        → StepsSo told parts (with_these parts pages locks given) n was (stepped.Done (replies.Vacuumed c.rows c.unnamed (c.ranges + count_of b)))
    done law alike righted given point does at last own right ready gives keeps =
        let first = right_left number n parts.rights righted a.standing (did.Finished point) within right in
        let as_long = first.tables in
        let inside = within in
        let still : number < length righted = omega (arith, inside, as_long) in
        let stays = stays_on number n parts.rights righted given first (gives_stay number n righted given still gives keeps) in
        done_so told parts pages locks given parts.queue n was a.index (IsCompletingAt parts.pages.layout c) (completed_by c) fit is_it (left_by told parts n a pages locks b left given stays) (telling c.rows c.unnamed (c.ranges + count_of b)) refl
        (no_locks at own) refl ready (gives_own number n righted given still gives keeps) alike (inl left.leaves) point (replies.Vacuumed c.rows c.unnamed (c.ranges + count_of b))
        (λ names hand_list has tells p shown.
        let old = old_store told parts pages locks given parts.queue n was a.index (IsCompletingAt parts.pages.layout c) (completed_by c) fit is_it (left_by told parts n a pages locks b left given stays) names hand_list has in
        let after = new_store told parts pages locks given parts.queue n was a.index (IsCompletingAt parts.pages.layout c) (completed_by c) fit is_it (left_by told parts n a pages locks b left given stays) names hand_list has None in
        let shows = here old n was a.index (IsCompletingAt parts.pages.layout c) (completed_by c) is_it has p shown in
        let so = came told parts n a pages locks b left law righted (did.Finished point) does of_it tells shows.blocks shows.has c.next stands in
        let taken = right_taken number n parts.rights righted a.standing (did.Finished point) right tt within (holds_there old n c a got is_it has p shown) left_it in
        let free : right_of given number ≡ None = gives_there number n righted given still gives keeps taken in
        let none : indexes_left parts.pages.layout a.index c.next ≡ 0 = let is = left_is in omega (arith, is, last) in
        let made = made_by old n c a got is_it has p shown after b left_it wish_it same_table point so.0 (held_behind a.wish n (indexes_left parts.pages.layout a.index c.next)) so.2
        (held_no_more parts.pages.layout n c.next (indexes_left parts.pages.layout a.index c.next) a wish_it none ∙ sym free) refl in (
          made.0,
          made.1 ∙ rests_so at last,
          ap (λ (f : Account → Account). f (completed_by c)) made.2 ∙ adds_now c a got b so.0 wish_it so.1,
          refl,
        ))

  -- the pages refuse it, and its session gives its page locks
  pub refused : (shown : IsShown told parts n (hands.Completes c)) → TakesSound → (pages : View D) (locks given : LockState) (b : SummariseState) (left : MachineLeft told parts n a pages locks b)
      → b ≡ record a { hand = b.hand } → (then : Completing) → HasThen c then b → then.next ≡ c.next → then.ranges ≡ c.ranges → given.limit ≡ locks.limit → locks_of given n ≡ 0 → ((m : ℕ) → m ≢ n → locks_of given m ≡ locks_of locks m)
      → (error : StoreError) → Refused told (Tells told parts.pages → DamageIn parts.pages.layout parts.pages.pages a) parts.pages pages error → NamesAPage parts.pages.layout error
      → StepsSo told parts (with_these parts pages given parts.rights) n (hands.Completes c) (stepped.Undone (fault_of error) (hands.Completes then))
  refused shown law pages locks given b left same then has_then same_next same_ranges limit none others error refusal names =
      undone_so told parts pages given parts.rights parts.queue n (hands.Completes c) a.index (IsCompletingAt parts.pages.layout c) (completed_by c) fit is_it (left_given told parts n a pages locks b left given limit others parts.rights (same_stays number n parts.rights parts.rights refl)) (hands.Completes then) (same_statement pages locks b left then has_then)
      (for_b pages locks b left then has_then same_next same_ranges (λ over. left_it (sym (ap (λ (x : SummariseState). x.standing) same) ∙ over)))
      (omega (arith, none)) refl (ap Some has_then.table) refl error
      (refused_untold told (Tells told parts.pages → DamageIn parts.pages.layout parts.pages.pages a) parts.pages pages error (λ ready damage tells. is_sound shown tells ready law (damage tells)) refusal) names
