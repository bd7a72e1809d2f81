-- each step of a desummarise, as what came of it in its table
use Rattle.std.proofs.Common.{◌≡◌, ◌≢◌, inl, inr, ℕ, suc, ◌+◌, ◌<◌, Option, None, Some, refl, sym, ap, subst, ◌∙◌}
use Rattle.std.specs.Prelude.{slice_get}
use Rattle.std.proofs.lemmas.Bool.{cases_eq}
use Rattle.std.proofs.lemmas.Option.{slice_get_within}
use Rattle.block_model.specs.declared.reply.Point.TheVariants as points
use Rattle.page_locks.specs.declared.did.Did.{Did}
use Rattle.page_locks.specs.declared.did.Did.TheVariants as did
use Rattle.page_locks.specs.RightHolders.{right_of}
use Rattle.coverage.specs.Accounts.{Account, no_account}
use Rattle.coverage.specs.InOneIndex.{DoesAt, with_ranges}
use Rattle.coverage.specs.Machines.{ShownTable, Unseen, table_state, task_turned}
use Rattle.coverage.specs.Table.{Considers, Desummarising, Maintains, Resting, Task, TableState, index_view_at}
use Rattle.coverage.specs.TableCovered.{IsMaintenance, IsTableKept}
use Rattle.coverage.specs.TablePoints.{PageLock, waits_for}
use Rattle.coverage.specs.TableSteps.{Desummarize, DesummariseWaits, IsBlocked, SameRows, Settles, SummariseLockHeld, TakesLock, TaskTurns}
use Rattle.index_steps.specs.ShownTable.{indexes_of}
use Rattle.summarise_core.specs.declared.desummarise_stage.Stage.{Stage}
use Rattle.summarise_core.specs.declared.desummarise_stage.Stage.TheVariants as stages
use Rattle.summarise_core.specs.Desummarises.{Begins, DesummariseDoes, DesummariseState, IsAtWork, IsDone, IsWaitingAt, LacksRight, StageDoes, StepsAt, StoreStep, TakesRight, Works, count_at, phase_at, range_of, state_of, table_of}
use Rattle.summarise_core.specs.DesummariseTable.{DoesInTable, HasCounted, IsFirstWithin, LeavesTheRest, account_by, first_task, lock_turned, shown_after, shown_before, task_at}
use Rattle.summarise_core.proofs.DesummariseSettling.{comes_to_range, pick_other, pick_same, replies, stays_there}
use Rattle.summarise_core.proofs.DesummariseShown.{shows_here}
use Rattle.summarise_core.proofs.DesummariseTables.{IndexHere, MaintainCompletes, MaintainGoes, MaintainKnows, OtherIndexes, ends_there, goes_there}

-- what it is at while it has work at the range, and once it has none; and what that counts
task_is : (at range : ℕ) (stage : Stage) → IsAtWork stage → task_at at range stage ≡ Maintains (Desummarising range) at range (phase_at stage)
task_is at range stages.Right work = absurd work
task_is at range stages.Map work = refl
task_is at range (stages.Clear x) work = refl
task_is at range (stages.Drop x) work = refl
task_is at range stages.Lacked work = absurd work
task_is at range stages.Cleared work = absurd work

task_rests : (at range : ℕ) (stage : Stage) → IsDone stage → task_at at range stage ≡ Resting
task_rests at range stages.Right done = absurd done
task_rests at range stages.Map done = absurd done
task_rests at range (stages.Clear x) done = absurd done
task_rests at range (stages.Drop x) done = absurd done
task_rests at range stages.Lacked done = refl
task_rests at range stages.Cleared done = refl

account_is : (stage : Stage) (count : ℕ) → IsAtWork stage → account_by stage count ≡ with_ranges count
account_is stages.Right count work = absurd work
account_is stages.Map count work = refl
account_is (stages.Clear x) count work = refl
account_is (stages.Drop x) count work = refl
account_is stages.Lacked count work = absurd work
account_is stages.Cleared count work = absurd work

has_counted : (old new : Stage) (count : ℕ) → IsAtWork old → count_at new ≡ count_at old + count → HasCounted old new count
has_counted stages.Right new count work counted = absurd work
has_counted stages.Map new count work counted = counted
has_counted (stages.Clear x) new count work counted = counted
has_counted (stages.Drop x) new count work counted = counted
has_counted stages.Lacked new count work counted = absurd work
has_counted stages.Cleared new count work counted = absurd work

-- it waits where it is to take the entry out
is_blocked : (w : TableState) (s at range page : ℕ) (stage : Stage) → IsWaitingAt (index_view_at at w) s range stage page
    → (blocked : IsBlocked w s (task_at at range stage)) × (waits_for w s (task_at at range stage) blocked ≡ PageLock at page)
is_blocked w s at range page stages.Right waits = absurd waits
is_blocked w s at range page stages.Map waits = absurd waits
is_blocked w s at range page (stages.Clear x) waits = (DesummariseWaits page range at range x waits, refl)
is_blocked w s at range page (stages.Drop x) waits = absurd waits
is_blocked w s at range page stages.Lacked waits = absurd waits
is_blocked w s at range page stages.Cleared waits = absurd waits

-- a session that rests takes the lock, which nobody holds, and comes before that range, with an empty account
module _ (s at range : ℕ) (shown : ShownTable) (below : at < shown.indexes) (u : Unseen) (rests : u.task s ≡ Resting) (kept : IsTableKept (table_state shown u))
    (free : (n : ℕ) → u.summarise_lock ≡ Some n → n ≡ s) where
  nobody : (held : Option ℕ) → u.summarise_lock ≡ held → u.summarise_lock ≡ None
  nobody None is = is
  nobody (Some n) is =
      let own : u.summarise_lock ≡ Some s = is ∙ ap Some (free n is) in
      absurd (subst (λ (t : Task). IsMaintenance t) rests ((kept.summarise_lock s).0 own))

  abbrev first : Task
  first = Considers (Desummarising range) at range

  abbrev taken : TableState
  taken = table_state shown (lock_turned (Some s) (task_turned s first u))

  turns : TaskTurns s (table_state shown u) taken Resting first
  turns = record {
    was = rests;
    now = pick_same s first (u.task s);
    others = λ n. elim (cases_eq n s) [
      | inl is ↦ inl is
      | inr other ↦ inr (pick_other n s first (u.task n) other)
    ];
  }

  rows : SameRows (table_state shown u) taken
  rows = record { layout = record { indexes = refl; rows_per_page = refl; heap_limit = refl }; blocks = refl; row = λ b k. refl; counts = λ t. refl }

  takes : DoesAt s (table_state shown u) taken points.Right (λ account. no_account)
  takes = record {
    does = TakesLock first (Desummarize at range below) turns (nobody u.summarise_lock refl) refl rows (record { index = λ i. refl });
    point_is = refl;
    adds = λ x y is. is;
  }

-- a step at its range isn't its first one
not_first : (first within : Task) (stage : Stage) → IsAtWork stage → IsFirstWithin stage first within
not_first first within stages.Right work = absurd work
not_first first within stages.Map work = tt
not_first first within (stages.Clear x) work = tt
not_first first within (stages.Drop x) work = tt
not_first first within stages.Lacked work = absurd work
not_first first within stages.Cleared work = absurd work

module _ (goes : MaintainGoes) (completes : MaintainCompletes) (knows : MaintainKnows) (here : IndexHere) (others : OtherIndexes)
    (step : StoreStep) (at n block : ℕ) (there : slice_get (indexes_of step.layout (table_of step.layout n)) at ≡ Some n) where
  abbrev s : ℕ
  s = step.actor

  abbrev table : ℕ
  table = table_of step.layout n

  abbrev range : ℕ
  range = range_of step.layout (state_of n block stages.Right)

  abbrev old : ShownTable
  old = shown_before step table

  abbrev new : ShownTable
  new = shown_after step table

  abbrev StageInTable : (before after : Stage) → Did → Type 0
  StageInTable before after answer = DoesInTable step at (state_of n block before) (state_of n block after) answer

  -- it lacks the summarise lock
  lacks_right : (by : ℕ) → right_of step.rights table ≡ Some by → by ≢ s → StageInTable stages.Right stages.Right (did.NoRight by)
  lacks_right by held other = (λ u rests lock kept. (SummariseLockHeld by (lock ∙ held) other, refl), held, other, refl)

  -- where the step changed no page and no lock
  abbrev quiet : StoreStep
  quiet = record step { paged = step.pages; locked = step.locks }

  begins_quietly : TakesRight step table → DoesInTable quiet at (state_of n block stages.Right) (state_of n block stages.Map) (did.Moved points.Right)
  begins_quietly right = (
    0,
    refl,
    (
      (λ u rests lock kept. (
        Considers (Desummarising range) at range,
        takes s at range old (slice_get_within (indexes_of step.layout table) at n there) u rests kept (λ m is. right.free m (sym lock ∙ is)),
        comes_to_range s old u (Some s) at range,
      )),
      (λ u rests lock kept. refl),
    ),
  )

  begins : TakesRight step table → StageInTable stages.Right stages.Map (did.Moved points.Right)
  begins right =
      subst (λ (x : StoreStep). DoesInTable x at (state_of n block stages.Right) (state_of n block stages.Map) (did.Moved points.Right)) (λ j. record step { paged = sym right.pages j; locked = sym right.locks j }) (begins_quietly right)

  module _ (rest : LeavesTheRest step n) where
    works : (before after : Stage) (answer : Did) → IsAtWork before → StepsAt step.layout step.pages step.paged step.locks step.locked n range s before after answer → StageInTable before after answer
    works before after (did.Moved point) work steps = (
      steps.0.0,
      has_counted before after steps.0.0 work steps.0.2,
      (
        (λ u task lock kept.
            let at_range : u.task s ≡ Maintains (Desummarising range) at range (phase_at before) = task ∙ task_is at range before work in (
              Maintains (Desummarising range) at range (phase_at after),
              subst (λ (account : Account → Account). DoesAt s (table_state old u) (table_state new (lock_turned (Some s) (task_turned s (Maintains (Desummarising range) at range (phase_at after)) u))) point account) (sym (account_is before steps.0.0 work))
                  (goes_there goes completes knows here others step n range at there before u at_range kept rest after point steps.0.0 steps.0.1 steps.1),
              subst (λ (t : Task). Settles s (table_state new (lock_turned (Some s) (task_turned s (Maintains (Desummarising range) at range (phase_at after)) u))) (table_state new (lock_turned (Some s) (task_turned s t u)))) (sym (task_is at range after steps.1))
                  (stays_there s new u (Some s) at range (phase_at after)),
            )),
        (λ u task lock kept. not_first (first_task step.layout at (state_of n block before)) _ before work),
      ),
    )
    works before after (did.Finished point) work steps = (
      steps.0.0,
      has_counted before after steps.0.0 work steps.0.2,
      (
        (λ u task lock kept.
            let at_range : u.task s ≡ Maintains (Desummarising range) at range (phase_at before) = task ∙ task_is at range before work in (
              Considers (Desummarising range) at (suc range),
              subst (λ (account : Account → Account). DoesAt s (table_state old u) (table_state new (lock_turned (Some s) (task_turned s (Considers (Desummarising range) at (suc range)) u))) point account) (sym (account_is before steps.0.0 work))
                  (ends_there goes completes knows here others step n range at there before u at_range kept rest after point steps.0.0 steps.0.1 steps.1),
              subst (λ (t : Task). Settles s (table_state new (lock_turned (Some s) (task_turned s (Considers (Desummarising range) at (suc range)) u))) (table_state new (lock_turned None (task_turned s t u)))) (sym (task_rests at range after steps.1))
                  (replies s new u (Some s) at range),
            )),
        (λ u task lock kept. not_first (first_task step.layout at (state_of n block before)) _ before work),
      ),
    )
    works before after (did.Blocked held) work steps = (
      λ u task lock kept. is_blocked (table_state old u) s at range held.page.block before (steps.0 (index_view_at at (table_state old u)) (shows_here step.layout step.pages step.locks step.blocks n at there u)),
      ap (state_of n block) steps.1,
    )
    works before after (did.NoRight by) work steps = absurd steps

    stage_in_table : (before after : Stage) (answer : Did) → StageDoes step n range before after answer → StageInTable before after answer
    stage_in_table before _ _ (LacksRight by is held other same) = subst (λ (q : Stage). StageInTable q q (did.NoRight by)) (sym is) (lacks_right by held other)
    stage_in_table before _ _ (Begins is right) = subst (λ (q : Stage). StageInTable q stages.Map (did.Moved points.Right)) (sym is) (begins right)
    stage_in_table before _ _ (Works after answer work steps same) = works before after answer work steps

module _ (goes : MaintainGoes) (completes : MaintainCompletes) (knows : MaintainKnows) (here : IndexHere) (others : OtherIndexes) where
  pub does_in_table : (step : StoreStep) (at : ℕ) (a b : DesummariseState) (answer : Did) → slice_get (indexes_of step.layout (table_of step.layout a.index)) at ≡ Some a.index → LeavesTheRest step a.index
      → DesummariseDoes step a b answer → DoesInTable step at a b answer
  does_in_table step at a b answer there rest does =
      subst (λ (x : DesummariseState). DoesInTable step at a x answer) (sym does.stays)
      (stage_in_table goes completes knows here others step at a.index a.block there rest a.stage b.stage answer does.does)

abbrev IsBegun : Stage → Type 0
IsBegun stages.Right = ⊥
IsBegun stage = Unit {0}

begun_apart : (stage : Stage) → IsBegun stage → stage ≡ stages.Right → ⊥
begun_apart stage begun is = subst (λ (q : Stage). IsBegun q) is begun

-- so the session's account tells what is counted
pub tells_count : (before after : Stage) (count : ℕ) (account : Account) → HasCounted before after count → ((before ≡ stages.Right → ⊥) → account.ranges ≡ count_at before) → (account_by before count account).ranges ≡ count_at after
tells_count stages.Right after count account counted told = sym counted
tells_count stages.Map after count account counted told = ap (λ (m : ℕ). m + count) (told (begun_apart stages.Map tt)) ∙ sym counted
tells_count (stages.Clear x) after count account counted told = ap (λ (m : ℕ). m + count) (told (begun_apart (stages.Clear x) tt)) ∙ sym counted
tells_count (stages.Drop x) after count account counted told = ap (λ (m : ℕ). m + count) (told (begun_apart (stages.Drop x) tt)) ∙ sym counted
tells_count stages.Lacked after count account counted told = ap (λ (m : ℕ). m + count) (told (begun_apart stages.Lacked tt)) ∙ sym counted
tells_count stages.Cleared after count account counted told = ap (λ (m : ℕ). m + count) (told (begun_apart stages.Cleared tt)) ∙ sym counted
