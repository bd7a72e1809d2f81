-- each step of a summarise, as what came of it in its table
use Rattle.std.proofs.Common.{◌≡◌, ◌≢◌, inl, inr, ℕ, ◌+◌, ◌/◌, ◌^◌, ◌<◌, List, length, Option, None, Some, refl, sym, ap, subst, ◌∙◌, arith}
use Rattle.std.specs.Prelude.{slice_get}
use Rattle.std.proofs.lemmas.Bool.{cases_eq}
use Rattle.std.proofs.lemmas.Option.{same_Some, slice_get_within}
use Rattle.block_model.specs.declared.reply.Point.{Point}
use Rattle.block_model.specs.declared.reply.Point.TheVariants as points
use Rattle.store_layout.specs.DiskLayout.{DiskLayout}
use Rattle.page_layout.specs.PageContents.{Slot}
use Rattle.page_locks.specs.declared.did.Did.{Did}
use Rattle.page_locks.specs.declared.did.Did.TheVariants as did
use Rattle.page_locks.specs.declared.held.Held.{Held}
use Rattle.page_locks.specs.LockHolders.{LockState}
use Rattle.page_locks.specs.RightHolders.{right_of}
use Rattle.page_map.specs.PageMap.{PageMap}
use Rattle.coverage.specs.Statements.{Phase}
use Rattle.coverage.specs.Accounts.{Account, no_account}
use Rattle.coverage.specs.InOneIndex.{DoesAt, with_ranges}
use Rattle.coverage.specs.Machines.{ShownTable, Unseen, table_state, task_turned}
use Rattle.coverage.specs.Refusals.{MaintainFull}
use Rattle.coverage.specs.Table.{Considers, EachRange, Job, Maintains, OneRange, Restarts, Resting, Task, TableState, WholeRanges, index_view_at}
use Rattle.coverage.specs.TableCovered.{IsMaintenance, IsTableKept}
use Rattle.coverage.specs.TablePoints.{SummariseLock, waits_for}
use Rattle.coverage.specs.TableSteps.{BeginsWith, Does, IsBlocked, NoPage, RestartsIndex, SameRows, Summarize, SummarizeOne, SummariseLockHeld, TakesLock, TaskTurns}
use Rattle.index_steps.specs.IndexTuples.{shape_of}
use Rattle.index_steps.specs.ShownRows.{shown_by}
use Rattle.index_steps.specs.ShownTable.{indexes_of}
use Rattle.summarise_core.specs.declared.course.Standing.{Standing}
use Rattle.summarise_core.specs.declared.course.Standing.TheVariants as standings
use Rattle.summarise_core.specs.declared.wish.Wish.{Wish}
use Rattle.summarise_core.specs.declared.wish.Wish.TheVariants as wishes
use Rattle.summarise_core.specs.SummariseHands.{SummariseHand, table_of}
use Rattle.summarise_core.specs.SummariseSteps.{phase_of}
use Rattle.summarise_core.specs.Summarises.{Begins, ComesTo, EndsRange, FullAt, IsSummariseOf, LacksRight, NoneIsLeft, RangeIsNext, StoreStep, SummariseDoes, SummariseState, TakesRight, Waits, WorksAt, after_range, at_first, count_at, count_of, first_of, in_range_of}
use Rattle.summarise_core.specs.Summarises.{GoesOn as StepGoesOn}
use Rattle.summarise_core.specs.SummariseTable.{DoesInTable, HasCounted, IsSummariseFull, LeavesTheRest, account_by, account_first, before_first, indexes_left, job_of, lock_turned, shown_after, shown_before, task_of, unnamed_turned}
use Rattle.summarise_core.proofs.Settling.{comes_behind_last, comes_to_range, pick_other, pick_same, stays_there}
use Rattle.summarise_core.proofs.Shown.{each_here, shows_here}
use Rattle.summarise_core.proofs.Tables.{IndexHere, MaintainCompletes, MaintainGoes, MaintainKnows, OtherIndexes, ends_there, goes_there, locked_by, waits_there}

-- what it is of the summarise where this is where it stands
standing_as : (Q : SummariseState → Type 0) (a : SummariseState) (standing : Standing) → a.standing ≡ standing → Q (record a { standing = standing }) → Q a
standing_as Q a standing is proof = subst Q (λ j. record a { standing = sym is j }) proof

-- A session that rests takes the lock, which nobody holds, and comes before that range, with an empty account; a vacuum's, which has the lock,
-- comes there with its own.
module _ (s at in_range : ℕ) (shown : ShownTable) (below : at < shown.indexes) (u : Unseen) (kept : IsTableKept (table_state shown u))
    (free : (n : ℕ) → u.summarise_lock ≡ Some n → n ≡ s) where
  nobody : u.task s ≡ Resting → (held : Option ℕ) → u.summarise_lock ≡ held → u.summarise_lock ≡ None
  nobody rests None is = is
  nobody rests (Some n) is =
      let own : u.summarise_lock ≡ Some s = is ∙ ap Some (free n is) in
      absurd (subst (λ (t : Task). IsMaintenance t) rests ((kept.summarise_lock s).0 own))

  abbrev taken : Task → TableState
  taken first = table_state shown (lock_turned (Some s) (task_turned s first u))

  turns : (old first : Task) → u.task s ≡ old → TaskTurns s (table_state shown u) (taken first) old first
  turns old first was = record {
    was = was;
    now = pick_same s first (u.task s);
    others = λ n. elim (cases_eq n s) [
      | inl is ↦ inl is
      | inr other ↦ inr (pick_other n s first (u.task n) other)
    ];
  }

  rows : (first : Task) → SameRows (table_state shown u) (taken first)
  rows first = record { layout = record { indexes = refl; rows_per_page = refl; heap_limit = refl }; blocks = refl; row = λ b k. refl; counts = λ t. refl }

  takes_lock : (first : Task) → BeginsWith (table_state shown u) first → u.task s ≡ Resting → Does s (table_state shown u) (taken first)
  takes_lock first begins rests = TakesLock first begins (turns Resting first rests) (nobody rests u.summarise_lock refl) refl (rows first) (record { index = λ i. refl })

  restarts : u.task s ≡ Restarts at → Does s (table_state shown u) (taken (Considers (WholeRanges shown.blocks) at 0))
  restarts task = RestartsIndex at (turns (Restarts at) (Considers (WholeRanges shown.blocks) at 0) task)
      (record { rows = rows (Considers (WholeRanges shown.blocks) at 0); indexes = record { index = λ i. refl }; summarise_lock = sym (locked_by s shown u (Restarts at) tt task kept) })

  takes : (wish : Wish) → u.task s ≡ before_first wish at → DoesAt s (table_state shown u) (taken (Considers (job_of wish in_range shown.blocks) at (first_of wish in_range))) points.Right (account_first wish)
  unfolding takes_lock restarts
  takes wishes.New rests = record { does = takes_lock (Considers (EachRange shown.blocks) at 0) (Summarize at below) rests; point_is = refl; adds = λ x y is. is }
  takes (wishes.Block block) rests = record {
    does = takes_lock (Considers (OneRange shown.blocks (block / in_range)) at (block / in_range)) (SummarizeOne at (block / in_range) below) rests;
    point_is = refl;
    adds = λ x y is. is;
  }
  takes wishes.Complete task = record { does = restarts task; point_is = refl; adds = λ x y is. is }

-- a session that rests waits for the lock that another holds; a vacuum's has it
lock_held : (s at : ℕ) (shown : ShownTable) (u : Unseen) (wish : Wish) (by : ℕ) → u.task s ≡ before_first wish at → u.summarise_lock ≡ Some by → by ≢ s → IsTableKept (table_state shown u)
    → (blocked : IsBlocked (table_state shown u) s (before_first wish at)) × (waits_for (table_state shown u) s (before_first wish at) blocked ≡ SummariseLock)
lock_held s at shown u wishes.New by task held other kept = (SummariseLockHeld by held other, refl)
lock_held s at shown u (wishes.Block block) by task held other kept = (SummariseLockHeld by held other, refl)
lock_held s at shown u wishes.Complete by task held other kept = absurd (other (same_Some by s (sym held ∙ locked_by s shown u (Restarts at) tt task kept)))

module _ (goes : MaintainGoes) (completes : MaintainCompletes) (knows : MaintainKnows) (here : IndexHere) (others : OtherIndexes)
    (step : StoreStep) (at : ℕ) where
  abbrev s : ℕ
  s = step.actor

  module _ (a : SummariseState) (there : slice_get (indexes_of step.layout (table_of step.layout a.index)) at ≡ Some a.index) where
    abbrev table : ℕ
    table = table_of step.layout a.index

    abbrev in_range : ℕ
    in_range = in_range_of step.layout a.index

    abbrev old : ShownTable
    old = shown_before step table

    abbrev new : ShownTable
    new = shown_after step table

    abbrev at_range : SummariseState
    at_range = record a { standing = standings.AtRange }

    abbrev job : Job
    job = job_of a.wish in_range a.extent

    module _ (small : a.range < 2 ^ 32) (rest : LeavesTheRest step a.index) where
      stays : (hand : SummariseHand) (point : Point) → WorksAt step at_range hand (did.Moved point) → DoesInTable step at at_range (record at_range { hand = hand }) (did.Moved point)
      stays hand point works = (
        works.0.0,
        omega (arith, works.0.2),
        (
          (λ u task held kept.
              let does = goes_there goes completes knows here others step a at there small u task kept rest hand point works.0.0 works.0.1 works.1 in (
                does.0,
                does.1,
                Maintains job at a.range (phase_of (shape_of step.layout a.index) hand),
                does.2,
                stays_there s new (unnamed_turned does.0 u) (Some s) job at a.range (phase_of (shape_of step.layout a.index) hand),
              )),
          (λ u task held kept. tt),
        ),
      )

      ends : (hand : SummariseHand) (point : Point) (b : SummariseState) (answer : Did) → WorksAt step at_range hand (did.Finished point) → ComesTo in_range (after_range a hand) point b answer
          → DoesInTable step at at_range b answer
      ends hand point _ _ works (RangeIsNext next) = (
        works.0.0,
        omega (arith, works.0.2),
        (
          (λ u task held kept.
              let does = ends_there goes completes knows here others step a at there small u task kept rest hand point works.0.0 works.0.1 works.1 in
              let after : Unseen = unnamed_turned does.0 u in (
                does.0,
                does.1,
                Considers job at (a.range + 1),
                subst (λ (m : ℕ). DoesAt s (table_state old u) (table_state new (lock_turned (Some s) (task_turned s (Considers job at m) after))) point (with_ranges works.0.0)) (omega arith) does.2,
                comes_to_range s new after (Some s) a.wish in_range a.extent at (a.range + 1) (each_here step.layout step.paged step.locked step.blocks a.index at there after) next,
              )),
          (λ u task held kept. tt),
        ),
      )
      ends hand point _ _ works (NoneIsLeft lacks) = (
        works.0.0,
        omega (arith, works.0.2),
        (
          (λ u task held kept.
              let does = ends_there goes completes knows here others step a at there small u task kept rest hand point works.0.0 works.0.1 works.1 in
              let after : Unseen = unnamed_turned does.0 u in (
                does.0,
                does.1,
                Considers job at (a.range + 1),
                subst (λ (m : ℕ). DoesAt s (table_state old u) (table_state new (lock_turned (Some s) (task_turned s (Considers job at m) after))) point (with_ranges works.0.0)) (omega arith) does.2,
                comes_behind_last s new after a.wish in_range a.extent at (a.range + 1) (indexes_left step.layout a.index at) (each_here step.layout step.paged step.locked step.blocks a.index at there after)
                    (slice_get_within (indexes_of step.layout table) at a.index there) refl lacks,
              )),
          (λ u task held kept. tt),
        ),
      )

      waits : (hand : SummariseHand) (held : Held) → WorksAt step at_range hand (did.Blocked held) → DoesInTable step at at_range (record at_range { hand = hand }) (did.Blocked held)
      waits hand held works = (
        λ u task lock kept. waits_there goes completes knows here others step a at there small u task kept held.page.block works.0,
        ap (λ (phase : Phase). Maintains job at a.range phase) works.2,
      )

    abbrev begins : SummariseState
    begins = record a { standing = standings.Begins }

    lacks_right : (by : ℕ) → right_of step.rights table ≡ Some by → by ≢ s → DoesInTable step at begins begins (did.NoRight by)
    lacks_right by held other = (λ u task lock kept. lock_held s at old u a.wish by task (lock ∙ held) other kept, held, other, refl)

    -- where the step changed no page and no lock
    abbrev quiet : StoreStep
    quiet = record step { paged = step.pages; locked = step.locks }

    begins_quietly : TakesRight step table → (b : SummariseState) (answer : Did) → ComesTo in_range (at_first step.layout (length step.blocks) a) points.Right b answer → DoesInTable quiet at begins b answer
    begins_quietly right _ _ (RangeIsNext next) = (
      0,
      refl,
      (
        (λ u task lock kept. (
          u.unnamed,
          (λ i x is. is),
          Considers (job_of a.wish in_range (length step.blocks)) at (first_of a.wish in_range),
          takes s at in_range old (slice_get_within (indexes_of step.layout table) at a.index there) u kept (λ n is. right.free n (sym lock ∙ is)) a.wish task,
          comes_to_range s old u (Some s) a.wish in_range (length step.blocks) at (first_of a.wish in_range) (each_here step.layout step.pages step.locks step.blocks a.index at there u) next,
        )),
        (λ u task lock kept. refl),
      ),
    )
    begins_quietly right _ _ (NoneIsLeft lacks) = (
      0,
      refl,
      (
        (λ u task lock kept. (
          u.unnamed,
          (λ i x is. is),
          Considers (job_of a.wish in_range (length step.blocks)) at (first_of a.wish in_range),
          takes s at in_range old (slice_get_within (indexes_of step.layout table) at a.index there) u kept (λ n is. right.free n (sym lock ∙ is)) a.wish task,
          comes_behind_last s old u a.wish in_range (length step.blocks) at (first_of a.wish in_range) (indexes_left step.layout a.index at) (each_here step.layout step.pages step.locks step.blocks a.index at there u)
              (slice_get_within (indexes_of step.layout table) at a.index there) refl lacks,
        )),
        (λ u task lock kept. refl),
      ),
    )

    begins_there : TakesRight step table → (b : SummariseState) (answer : Did) → ComesTo in_range (at_first step.layout (length step.blocks) a) points.Right b answer → DoesInTable step at begins b answer
    begins_there right b answer comes =
        subst (λ (x : StoreStep). DoesInTable x at begins b answer) (λ j. record step { paged = sym right.pages j; locked = sym right.locks j }) (begins_quietly right b answer comes)

  pub does_in_table : (a b : SummariseState) (answer : Did) → slice_get (indexes_of step.layout (table_of step.layout a.index)) at ≡ Some a.index → IsSummariseOf step.layout a → LeavesTheRest step a.index
      → SummariseDoes step a b answer → DoesInTable step at a b answer
  does_in_table a _ _ there of rest (LacksRight by is held other same) =
      standing_as (λ (x : SummariseState). DoesInTable step at x x (did.NoRight by)) a standings.Begins is (lacks_right a there by held other)
  does_in_table a _ _ there of rest (Begins b answer is right comes) =
      standing_as (λ (x : SummariseState). DoesInTable step at x b answer) a standings.Begins is (begins_there a there right b answer comes)
  does_in_table a _ _ there of rest (StepGoesOn hand point is works same) =
      standing_as (λ (x : SummariseState). DoesInTable step at x (record x { hand = hand }) (did.Moved point)) a standings.AtRange is
      (stays a there (omega (arith, (of.at_range is).2)) rest hand point works)
  does_in_table a _ _ there of rest (Waits hand held is works same) =
      standing_as (λ (x : SummariseState). DoesInTable step at x (record x { hand = hand }) (did.Blocked held)) a standings.AtRange is
      (waits a there (omega (arith, (of.at_range is).2)) rest hand held works)
  does_in_table a _ _ there of rest (EndsRange hand point b answer is works same comes) =
      standing_as (λ (x : SummariseState). DoesInTable step at x b answer) a standings.AtRange is
      (ends a there (omega (arith, (of.at_range is).2)) rest hand point b answer works comes)

-- no page is left for it in the index that the table shows
pub full_in_table : (layout : DiskLayout) (pages : PageMap) (locks : LockState) (blocks : List (List Slot)) (s at number : ℕ) (a : SummariseState) → slice_get (indexes_of layout (table_of layout a.index)) at ≡ Some a.index
    → FullAt layout pages locks s a number → IsSummariseFull s at (shown_by layout pages locks (table_of layout a.index) blocks) (task_of layout at a) number
full_in_table layout pages locks blocks s at number a there full =
    standing_as (λ (x : SummariseState). IsSummariseFull s at (shown_by layout pages locks (table_of layout a.index) blocks) (task_of layout at x) number) a standings.AtRange full.0
    (λ u task kept.
    MaintainFull (job_of a.wish (in_range_of layout a.index) a.extent) at a.range number (phase_of (shape_of layout a.index) a.hand)
    (NoPage number (phase_of (shape_of layout a.index) a.hand) (full.1 (index_view_at at (table_state (shown_by layout pages locks (table_of layout a.index) blocks) u)) (shows_here layout pages locks blocks a.index at there u))) refl)

abbrev IsBegun : Standing → Type 0
IsBegun standings.Begins = ⊥
IsBegun standing = Unit {0}

begun_apart : (standing : Standing) → IsBegun standing → standing ≡ standings.Begins → ⊥
begun_apart standing begun is = subst (λ (q : Standing). IsBegun q) is begun

-- so the session's account tells what is counted
pub tells_count : (wish : Wish) (standing : Standing) (before count after : ℕ) (account : Account) → wish ≢ wishes.Complete → HasCounted standing before count after → ((standing ≡ standings.Begins → ⊥) → account.ranges ≡ before) → (account_by wish standing count account).ranges ≡ after
tells_count wishes.New standings.Begins before count after account other counted told = sym counted
tells_count (wishes.Block block) standings.Begins before count after account other counted told = sym counted
tells_count wishes.Complete standings.Begins before count after account other counted told = absurd (other refl)
tells_count wish standings.AtRange before count after account other counted told = ap (λ (n : ℕ). n + count) (told (begun_apart standings.AtRange tt)) ∙ sym counted
tells_count wish standings.Done before count after account other counted told = ap (λ (n : ℕ). n + count) (told (begun_apart standings.Done tt)) ∙ sym counted

-- a vacuum's tells it beside what it told at the index
adds_by : (standing : Standing) (a : SummariseState) (count before after : ℕ) (account : Account) → HasCounted standing (count_at a standing) count after → account.ranges ≡ before + count_at a standing
    → (account_by wishes.Complete standing count account).ranges ≡ before + after
adds_by standings.Begins a count before after account counted told = omega (arith, counted, told)
adds_by standings.AtRange a count before after account counted told = omega (arith, counted, told)
adds_by standings.Done a count before after account counted told = omega (arith, counted, told)

pub adds_count : (a : SummariseState) (count before after : ℕ) (account : Account) → a.wish ≡ wishes.Complete → HasCounted a.standing (count_of a) count after → account.ranges ≡ before + count_of a
    → (account_by a.wish a.standing count account).ranges ≡ before + after
adds_count a count before after account is counted told =
    subst (λ (wish : Wish). (account_by wish a.standing count account).ranges ≡ before + after) (sym is) (adds_by a.standing a count before after account counted told)
