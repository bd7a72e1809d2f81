-- the first step of work that takes up a request, over the parts of a store
use Rattle.std.proofs.Common.{◌≡◌, ◌≢◌, inl, inr, ℕ, ◌/◌, ◌<◌, ◌≤◌, List, length, drop, Option, None, Some, refl, sym, ap, subst, ◌∙◌, arith}
use Rattle.std.specs.Prelude.{slice_get, slice_set}
use Rattle.disk_trait.specs.Told.{Told}
use Rattle.block_model.specs.declared.reply.Point.{Point}
use Rattle.block_model.specs.declared.reply.Reply.{Reply}
use Rattle.block_model.specs.declared.reply.Reply.TheVariants as replies
use Rattle.block_model.specs.declared.reply.What.{What}
use Rattle.block_model.specs.declared.reply.What.TheVariants as whats
use Rattle.block_model.specs.declared.reply.Refusal.TheVariants as refusals
use Rattle.store_layout.specs.DiskLayout.{DiskLayout}
use Rattle.page_map.specs.declared.faults.StoreError.{StoreError}
use Rattle.page_map.specs.Keeps.{Tells}
use Rattle.page_map.specs.Outcome.{Refused}
use Rattle.page_map.specs.PageMap.{View}
use Rattle.page_locks.specs.declared.did.Did.TheVariants as did
use Rattle.page_locks.specs.LockChanges.{GivesAll}
use Rattle.page_locks.specs.LockCounts.{locks_of}
use Rattle.page_locks.specs.LockHolders.{LockState, holder}
use Rattle.page_locks.specs.RightHolders.{right_of}
use Rattle.heap_rows.specs.HeapBlocks.{OfBlocks}
use Rattle.transactions.specs.Laws.{ShowAlike}
use Rattle.index_steps.specs.IndexTuples.{index_at}
use Rattle.index_steps.specs.ShownTable.{indexes_of}
use Rattle.coverage.specs.Accounts.{Account, no_account}
use Rattle.coverage.specs.Table.{Resting, Task}
use Rattle.coverage.specs.TableSteps.{SummariseLockHeld}
use Rattle.summarise_core.specs.declared.course.Standing.{Standing}
use Rattle.summarise_core.specs.declared.course.Standing.TheVariants as standings
use Rattle.summarise_core.specs.Summarises.{DamageIn, FullAt, IsSummariseOf, RightAnswers, SummariseDoes, SummariseState, count_of, held_by, held_in, in_range_of, step_of}
use Rattle.summarise_core.specs.SummariseTable.{HasCounted, held_behind, indexes_left, task_of}
use Rattle.script_semantics.specs.Names.{index_name, name_of, table_name}
use Rattle.script_semantics.specs.StatementSteps.{Steps, Waits, work_reply}
use Rattle.session_parts.specs.declared.hand.Hand.{Hand}
use Rattle.session_parts.specs.declared.hand.Hand.TheVariants as hands
use Rattle.session_parts.specs.declared.hand.Stepped.TheVariants as stepped
use Rattle.session_parts.specs.declared.parts.Parts.{Parts}
use Rattle.session_parts.specs.DamagedPages.{NamesAPage}
use Rattle.session_parts.specs.HandFits.{right_at}
use Rattle.session_parts.specs.StepAnswers.{StaysReady}
use Rattle.session_parts.specs.Stepping.{IsFit}
use Rattle.session_parts.specs.StoreFaults.{fault_of}
use Rattle.session_parts.specs.UndoneLaws.{FitsParts, StepsSo}
use Rattle.session_parts.proofs.Undone.{fit_of_parts}
use Rattle.session_maintenance.specs.FirstRequests.{IsOfRange}
use Rattle.session_maintenance.proofs.SummariseLocks.{gives_own, gives_stay, gives_there, same_stays, stays_on}
use Rattle.session_maintenance.proofs.SummariseParts.{MachineLeft, came, left_by, left_given}
use Rattle.session_maintenance.proofs.SummariseTurns.{StepsInTable, is_busy, is_over, last_gives, right_left, right_taken}
use Rattle.session_maintenance.proofs.SummaryReplies.{is_work}
use Rattle.session_maintenance.proofs.UpkeepAt.{IsUpkeep, IsUpkeepAt, at_task, counted, here}
use Rattle.session_maintenance.proofs.UpkeepParts.{PartsLeft, done_so, leaves_same, moved_so, new_store, old_store, refused_so, refused_untold, undone_so, waits_so, with_queue, with_these}
use Rattle.session_maintenance.proofs.UpkeepStays.{waits_for_lock}
use Rattle.session_maintenance.proofs.WorkAsked.{IsRestingAt, is_working, on_asked}
use Rattle.session_maintenance.proofs.WorkBegins.{made_first, not_complete}

pub begins_not_range : standings.Begins ≢ standings.AtRange
begins_not_range is = cc

pub begins_not_done : standings.Begins ≢ standings.Done
begins_not_done is = cc

-- with the first step nothing is counted
none_counted : (standing : Standing) (before count after : ℕ) → standing ≡ standings.Begins → HasCounted standing before count after → after ≡ 0
none_counted standing before count after begins counts = subst (λ (q : Standing). HasCounted q before count after) begins counts

-- one that may take the summarise lock doesn't lack it
pub never_lacks : (by table n : ℕ) (rights righted : List (Option ℕ)) (standing : Standing) → standing ≡ standings.Begins → ((m : ℕ) → right_of rights table ≡ Some m → m ≡ n) → RightAnswers table n rights righted standing (did.NoRight by) → ⊥
never_lacks by table n rights righted standing begins free right =
    let lacks : (right_of rights table ≡ Some by) × (by ≢ n) × (righted ≡ rights) = subst (λ (q : Standing). RightAnswers table n rights righted q (did.NoRight by)) begins right in
    lacks.1 (free by lacks.0)

-- ---- another session has the summarise lock

module _ {D : Type 0} (told : D → Told) (parts : Parts D) (n : ℕ) (fit : IsFit told parts n hands.Working) (ready : parts.pages.failed ≡ None) (alike : ShowAlike) (request : ℕ × ℕ) (first : slice_get parts.queue 0 ≡ Some request)
    (within : request.0 < length parts.pages.layout.schema.indexes) (below : (index_at parts.pages.layout request.0).table < length parts.pages.layout.schema.tables) where
  is_it : IsUpkeep parts.pages.layout hands.Working request.0 (IsRestingAt parts.pages.layout request.0) no_account
  is_it = is_working parts.pages.layout request.0 within below

  fits : FitsParts told parts n (Some hands.Working)
  fits = fit_of_parts told parts n hands.Working fit

  nothing_left : PartsLeft told parts parts.pages parts.locks parts.rights n request.0
  nothing_left = record {
    others = record { leaves = leaves_same told parts.pages; pages = λ tells place other. refl; indexes = λ tells other apart. refl };
    order = λ tells ordered. ordered;
    limit = refl;
    counts = λ m other. refl;
    tables = refl;
    apart = λ other apart. refl;
    theirs = λ m other apart holds. holds;
  }

  pub held_so : (by : ℕ) → right_of parts.rights (index_at parts.pages.layout request.0).table ≡ Some by → by ≢ n → (what : What) → what ≡ whats.Work (table_name parts.pages.layout (index_at parts.pages.layout request.0).table)
      → StepsSo told parts parts n hands.Working (stepped.Blocked what by hands.Working)
  held_so by holds other what named =
      waits_so told parts parts.pages parts.locks parts.rights parts.queue n hands.Working request.0 (IsRestingAt parts.pages.layout request.0) no_account fit is_it nothing_left hands.Working (IsRestingAt parts.pages.layout request.0) is_it refl tt fits.own refl (ready, ready) refl alike
      (inl (record { elsewhere = λ page away free. refl; others = λ page m apart. ((λ held. held), (λ held. held)) })) (record { leaves = leaves_same told parts.pages; pages = λ tells. refl }) refl refl refl what by
      (other, inr ((index_at parts.pages.layout request.0).table, holds)) (λ names hand_list has tells p shown.
      let old = old_store told parts parts.pages parts.locks parts.rights parts.queue n hands.Working request.0 (IsRestingAt parts.pages.layout request.0) no_account fit is_it nothing_left names hand_list has in
      let shows = here old n hands.Working request.0 (IsRestingAt parts.pages.layout request.0) no_account is_it has p shown in (
        (λ task stood. stood),
        subst (λ (x : What). Steps p n (Waits (refusals.Blocked x (name_of p by))) p) (sym named)
            (waits_for_lock old n hands.Working request.0 (IsRestingAt parts.pages.layout request.0) no_account is_it has p shown fits.entries (on_asked old n has p shown request first) Resting (at_task old n hands.Working request.0 (IsRestingAt parts.pages.layout request.0) no_account is_it has p shown).2 by (SummariseLockHeld by (shows.lock ∙ holds) other, refl) holds),
      ))

-- ---- it takes the request up

module _ {D : Type 0} (told : D → Told) (parts : Parts D) (n range : ℕ) (a : SummariseState) (fit : IsFit told parts n hands.Working) (below : (index_at parts.pages.layout a.index).table < length parts.pages.layout.schema.tables)
    (begins : a.standing ≡ standings.Begins) (of : IsSummariseOf parts.pages.layout a) (ranged : IsOfRange parts.pages.layout a range) where
  abbrev number : ℕ
  number = (index_at parts.pages.layout a.index).table

  is_there : IsUpkeep parts.pages.layout hands.Working a.index (IsRestingAt parts.pages.layout a.index) no_account
  is_there = is_working parts.pages.layout a.index of.index below

  fits_there : FitsParts told parts n (Some hands.Working)
  fits_there = fit_of_parts told parts n hands.Working fit

  inside : number < length parts.rights
  inside = let as_many = fits_there.rights in omega (arith, as_many, below)

  -- its session holds no page lock
  pub own_none : locks_of parts.locks n ≤ held_by a
  own_none = let own : locks_of parts.locks n ≤ 0 = fits_there.own in omega (arith, own)

  not_range : a.standing ≢ standings.AtRange
  not_range at = begins_not_range (sym begins ∙ at)

  left_to_do : a.standing ≢ standings.Done
  left_to_do done = begins_not_done (sym begins ∙ done)

  module _ (pages : View D) (locks : LockState) (b : SummariseState) (left : MachineLeft told parts n a pages locks b) where
    abbrev next : Hand
    next = hands.Works (record { summarise = b; range = range })

    abbrev HereNext : Task → Type 0
    HereNext = IsUpkeepAt parts.pages.layout a.index (λ at. task_of parts.pages.layout at b)

    is_next : IsUpkeep parts.pages.layout next a.index HereNext (counted (count_of b))
    is_next = subst (λ (i : ℕ). IsUpkeep parts.pages.layout next i (IsUpkeepAt parts.pages.layout i (λ at. task_of parts.pages.layout at b)) (counted (count_of b))) left.index
        (is_work parts.pages.layout (record { summarise = b; range = range }) left.of.index (subst (λ (i : ℕ). (index_at parts.pages.layout i).table < length parts.pages.layout.schema.tables) (sym left.index) below))

    -- it goes on
    pub begun_so : StepsInTable → ShowAlike → slice_get parts.queue 0 ≡ Some (a.index, range) → (righted : List (Option ℕ)) (point : Point)
        → OfBlocks told parts.pages number (λ blocks. SummariseDoes (step_of parts.pages.layout parts.pages.pages pages.pages parts.locks locks parts.rights righted n blocks) a b (did.Moved point))
        → b.standing ≡ standings.AtRange → locks_of locks n ≤ held_by b → RightAnswers number n parts.rights righted a.standing (did.Moved point) → StaysReady parts.pages pages
        → StepsSo told parts (with_queue parts pages locks righted (drop 1 parts.queue)) n hands.Working (stepped.Moved point next)
    begun_so law alike first righted point does at own right ready =
        let stays = right_left number n parts.rights righted a.standing (did.Moved point) inside right in
        let taken = right_taken number n parts.rights righted a.standing (did.Moved point) right tt inside (λ at_range. absurd (not_range at_range)) left_to_do in
        moved_so told parts pages locks righted (drop 1 parts.queue) n hands.Working a.index (IsRestingAt parts.pages.layout a.index) no_account fit is_there (left_by told parts n a pages locks b left righted stays) next HereNext (counted (count_of b)) is_next refl
        (record {
          of = left.of;
          at = at;
          block = ranged.0;
          wish = left.wish ∙ ranged.1;
          range = ap (λ (i : ℕ). ranged.0 / in_range_of parts.pages.layout i) left.index ∙ ranged.2;
        }) own refl ready (ap (λ (i : ℕ). right_at (index_at parts.pages.layout i).table b.standing) left.index ∙ ap (right_at number) at) alike (inl left.leaves) point (λ names hand_list has tells p shown.
        let old = old_store told parts pages locks righted (drop 1 parts.queue) n hands.Working a.index (IsRestingAt parts.pages.layout a.index) no_account fit is_there (left_by told parts n a pages locks b left righted stays) names hand_list has in
        let then = new_store told parts pages locks righted (drop 1 parts.queue) n hands.Working a.index (IsRestingAt parts.pages.layout a.index) no_account fit is_there (left_by told parts n a pages locks b left righted stays) names hand_list has (Some next) in
        let it = at_task old n hands.Working a.index (IsRestingAt parts.pages.layout a.index) no_account is_there has p shown in
        let shows = here old n hands.Working a.index (IsRestingAt parts.pages.layout a.index) no_account is_there has p shown in
        let so = came told parts n a pages locks b left law righted (did.Moved point) does of tells shows.blocks shows.has it.0 it.1 in
        let made = made_first old then n a b range is_there has p shown begins ranged first refl point _ (Some n) so.2 (sym taken) in (
          made.0,
          (it.0, it.1, made.1),
          (λ rests. is_busy parts.pages.layout it.0 b at (sym made.1 ∙ rests)),
          ap (λ (f : Account → Account). f no_account) made.3 ∙ ap counted (sym (none_counted a.standing (count_of a) so.0 (count_of b) begins so.1)),
        ))

    -- it replies, and its table's summarise lock is given
    pub replied_so : StepsInTable → ShowAlike → slice_get parts.queue 0 ≡ Some (a.index, range) → (righted given : List (Option ℕ)) (point : Point)
        → OfBlocks told parts.pages number (λ blocks. SummariseDoes (step_of parts.pages.layout parts.pages.pages pages.pages parts.locks locks parts.rights righted n blocks) a b (did.Finished point))
        → b.standing ≡ standings.Done → locks_of locks n ≤ held_by b → RightAnswers number n parts.rights righted a.standing (did.Finished point) → StaysReady parts.pages pages
        → (right_of righted number ≡ Some n → given ≡ slice_set righted number None) → (right_of righted number ≢ Some n → given ≡ righted)
        → (reply : Reply) → ((table at : ℕ) → slice_get (indexes_of parts.pages.layout table) at ≡ Some a.index → reply ≡ replies.Worked (index_name parts.pages.layout table at) range (count_of b))
        → StepsSo told parts (with_queue parts pages locks given (drop 1 parts.queue)) n hands.Working (stepped.Done reply)
    replied_so law alike first righted given point does at own right ready gives keeps reply named =
        let taking = right_left number n parts.rights righted a.standing (did.Finished point) inside right in
        let as_many = taking.tables in
        let still : number < length righted = omega (arith, inside, as_many) in
        let stays = stays_on number n parts.rights righted given taking (gives_stay number n righted given still gives keeps) in
        let none : held_by b ≡ 0 = ap (λ (q : Standing). held_in b q) at in
        let taken = right_taken number n parts.rights righted a.standing (did.Finished point) right tt inside (λ at_range. absurd (not_range at_range)) left_to_do in
        let free : right_of given number ≡ None = gives_there number n righted given still gives keeps taken in
        done_so told parts pages locks given (drop 1 parts.queue) n hands.Working a.index (IsRestingAt parts.pages.layout a.index) no_account fit is_there (left_by told parts n a pages locks b left given stays) (counted (count_of b)) refl (omega (arith, own, none)) refl ready (gives_own number n righted given still gives keeps) alike
        (inl left.leaves) point reply (λ names hand_list has tells p shown.
        let old = old_store told parts pages locks given (drop 1 parts.queue) n hands.Working a.index (IsRestingAt parts.pages.layout a.index) no_account fit is_there (left_by told parts n a pages locks b left given stays) names hand_list has in
        let then = new_store told parts pages locks given (drop 1 parts.queue) n hands.Working a.index (IsRestingAt parts.pages.layout a.index) no_account fit is_there (left_by told parts n a pages locks b left given stays) names hand_list has None in
        let it = at_task old n hands.Working a.index (IsRestingAt parts.pages.layout a.index) no_account is_there has p shown in
        let shows = here old n hands.Working a.index (IsRestingAt parts.pages.layout a.index) no_account is_there has p shown in
        let so = came told parts n a pages locks b left law righted (did.Finished point) does of tells shows.blocks shows.has it.0 it.1 in
        let plain = not_complete old then n a b range is_there has p shown begins ranged first refl in
        let made = made_first old then n a b range is_there has p shown begins ranged first refl point _ (held_behind a.wish n (indexes_left parts.pages.layout a.index it.0)) so.2
        (last_gives a.wish n (indexes_left parts.pages.layout a.index it.0) plain ∙ sym free) in (
          made.0,
          made.1 ∙ is_over parts.pages.layout it.0 b (λ complete. plain (sym left.wish ∙ complete)) at,
          ap (λ (f : Account → Account). f no_account) made.3 ∙ ap counted (sym (none_counted a.standing (count_of a) so.0 (count_of b) begins so.1)),
          ap Some (named number it.0 it.1) ∙ ap (λ (l : DiskLayout). Some (replies.Worked (index_name l number it.0) range (count_of b))) (sym shown.layout)
              ∙ sym (ap (λ (t : Task). work_reply p.layout number t (count_of b)) made.2),
        ))

    -- the pages refuse it, and its session gives its locks
    pub refused_first : (given : LockState) → given.limit ≡ locks.limit → locks_of given n ≡ 0 → ((m : ℕ) → m ≢ n → locks_of given m ≡ locks_of locks m)
        → (error : StoreError) → Refused told (Tells told parts.pages → DamageIn parts.pages.layout parts.pages.pages a) parts.pages pages error → NamesAPage parts.pages.layout error
        → StepsSo told parts (with_these parts pages given parts.rights) n hands.Working (stepped.Undone (fault_of error) hands.Working)
    refused_first given limit none others error refusal names =
        undone_so told parts pages given parts.rights parts.queue n hands.Working a.index (IsRestingAt parts.pages.layout a.index) no_account fit is_there (left_given told parts n a pages locks b left given limit others parts.rights (same_stays number n parts.rights parts.rights refl)) hands.Working refl tt (omega (arith, none)) refl refl refl error
        (refused_untold told (Tells told parts.pages → DamageIn parts.pages.layout parts.pages.pages a) parts.pages pages error (λ ready damage tells. not_range (damage tells).0) refusal) names

    -- no page of the index is left for a tuple; none is put yet, so it can't be where the disk tells its contents
    pub full_first : (given : LockState) (room : ℕ) → (Tells told parts.pages → FullAt parts.pages.layout parts.pages.pages parts.locks n a room) → locks ≡ parts.locks → StaysReady parts.pages pages
        → GivesAll (holder locks) (holder given) n → given.limit ≡ locks.limit → locks_of given n ≡ 0 → ((m : ℕ) → m ≢ n → locks_of given m ≡ locks_of locks m)
        → (rights : List (Option ℕ)) → (right_of parts.rights number ≡ Some n → rights ≡ slice_set parts.rights number None) → (right_of parts.rights number ≢ Some n → rights ≡ parts.rights)
        → (reply : Reply) → StepsSo told parts (with_these parts pages given rights) n hands.Working (stepped.Done reply)
    full_first given room full same_locks ready gives limit none others rights gave kept reply =
        let stays = gives_stay number n parts.rights rights inside gave kept in
        refused_so told parts pages given rights parts.queue n hands.Working a.index (IsRestingAt parts.pages.layout a.index) no_account fit is_there (left_given told parts n a pages locks b left given limit others rights stays) none refl ready (inr (subst (λ (l : LockState). GivesAll (holder l) (holder given) n) same_locks gives)) (gives_own number n parts.rights rights inside gave kept) reply
        (λ names hand_list has tells p shown so now. absurd (not_range (full tells).0))
