-- calls of a summarise's step as steps of its session alone
use Rattle.std.proofs.Common.{◌≡◌, ℕ, suc, ◌<◌, ◌≤◌, List, [], ◌∷◌, Option, Some, refl, sym, subst, ◌∙◌}
use Rattle.block_model.specs.declared.reply.Point.{Point}
use Rattle.coverage.specs.Statements.{Phase}
use Rattle.coverage.specs.Accounts.{Account}
use Rattle.coverage.specs.GoingOn.{LastAlone, OneMoreAlone, StepsAlone}
use Rattle.coverage.specs.Machines.{MachineWaits, ShownTable, Unseen, table_state, task_turned}
use Rattle.coverage.specs.StepsLeft.{HasAtMostTuples, IsSummarise, summarise_steps, vacuum_steps}
use Rattle.coverage.specs.Table.{Job, Maintains, Restarts, Task, TableState}
use Rattle.coverage.specs.TableCovered.{IsMaintenance, IsTableKept}
use Rattle.coverage.specs.TablePoints.{WaitedFor}
use Rattle.coverage.specs.TableSteps.{TableDone, TableNext, TableRun, TableStep}
use Rattle.summarise_core.specs.SummariseCalls.{LastCall, NextIndexCall, OneMoreCall, SummariseCalls}
use Rattle.summarise_core.specs.SummariseTable.{SummariseGoesTo, SummariseWaitsFor, lock_turned, unnamed_turned}
use Rattle.summarise_core.proofs.Settling.{pick_same}
use Rattle.summarise_core.proofs.Tables.{locked_by, locked_is}

-- what the laws of tables say of runs, and of a summarise
abbrev pub RunsKeep : Type 0
RunsKeep = (steps : List ℕ) (w v : TableState) → IsTableKept w → TableRun steps w v → IsTableKept v

abbrev pub SummarisesEnd : Type 0
SummarisesEnd = (s n at range tuples : ℕ) (w : TableState) (job : Job) (phase : Phase) → IsTableKept w → w.task s ≡ Maintains job at range phase
    → IsSummarise job → HasAtMostTuples w at tuples → StepsAlone s n w → n ≤ summarise_steps w job at range phase tuples

abbrev pub VacuumsEnd : Type 0
VacuumsEnd = (s n at : ℕ) (tuples : ℕ → ℕ) (w : TableState) → IsTableKept w → w.task s ≡ Restarts at → ((i : ℕ) → i < w.indexes → HasAtMostTuples w i (tuples i)) → StepsAlone s n w
    → n ≤ vacuum_steps w at tuples

module _ (keep : RunsKeep) (s : ℕ) where
  module _ (old new : ShownTable) (held held_then : Option ℕ) (before after : Task) (point : Point) (account : Account → Account) (goes : SummariseGoesTo s old new held held_then before after point account)
      (u : Unseen) (at : u.task s ≡ before) (lock : u.summarise_lock ≡ held) (kept : IsTableKept (table_state old u)) where
    abbrev turned : Unseen
    turned = lock_turned held_then (task_turned s after (unnamed_turned (goes u at lock kept).0 u))

    step : TableStep s (table_state old u) (table_state new turned)
    step = record {
      between = table_state new (lock_turned (Some s) (task_turned s (goes u at lock kept).2 (unnamed_turned (goes u at lock kept).0 u)));
      does = (goes u at lock kept).3.does;
      settles = (goes u at lock kept).4;
    }

    pub kept_then : IsTableKept (table_state new turned)
    kept_then = keep (s ∷ []) (table_state old u) (table_state new turned) kept (TableNext s [] (table_state old u) (table_state new turned) (table_state new turned) step (TableDone (table_state new turned)))

    is_last : StepsAlone s 1 (table_state old u)
    unfolding step
    is_last = LastAlone (table_state old u) (table_state new turned) step point (goes u at lock kept).3.point_is

    is_one_more : (calls : ℕ) → IsMaintenance after → StepsAlone s calls (table_state new turned) → StepsAlone s (suc calls) (table_state old u)
    unfolding step
    is_one_more calls maintains rest = OneMoreAlone calls (table_state old u) (table_state new turned) step point (goes u at lock kept).3.point_is
        (λ rests. subst (λ (t : Task). IsMaintenance t) (sym (pick_same s after (u.task s)) ∙ rests) maintains) rest

  steps_alone : (calls : ℕ) (shown : ShownTable) (task : Task) → SummariseCalls s calls shown task → (u : Unseen) → u.task s ≡ task → u.summarise_lock ≡ Some s → IsTableKept (table_state shown u) → StepsAlone s calls (table_state shown u)
  steps_alone _ _ _ (LastCall old new held_then before after point account goes) u at lock kept = is_last old new (Some s) held_then before after point account goes u at lock kept
  steps_alone _ _ _ (OneMoreCall calls place range old new before job phase point account goes rest) u at lock kept =
      is_one_more old new (Some s) (Some s) before (Maintains job place range phase) point account goes u at lock kept calls tt
      (steps_alone calls new (Maintains job place range phase) rest (lock_turned (Some s) (task_turned s (Maintains job place range phase) (unnamed_turned (goes u at lock kept).0 u))) (pick_same s (Maintains job place range phase) (u.task s)) refl
      (kept_then old new (Some s) (Some s) before (Maintains job place range phase) point account goes u at lock kept))
  steps_alone _ _ _ (NextIndexCall calls next old new before point account goes rest) u at lock kept =
      is_one_more old new (Some s) (Some s) before (Restarts next) point account goes u at lock kept calls tt
      (steps_alone calls new (Restarts next) rest (lock_turned (Some s) (task_turned s (Restarts next) (unnamed_turned (goes u at lock kept).0 u))) (pick_same s (Restarts next) (u.task s)) refl
      (kept_then old new (Some s) (Some s) before (Restarts next) point account goes u at lock kept))

  -- so they are as few as the table's steps
  pub calls_end : SummarisesEnd → (calls at range tuples : ℕ) (shown : ShownTable) (job : Job) (phase : Phase) (u : Unseen) → SummariseCalls s calls shown (Maintains job at range phase) → IsSummarise job → u.task s ≡ Maintains job at range phase
      → IsTableKept (table_state shown u) → HasAtMostTuples (table_state shown u) at tuples → calls ≤ summarise_steps (table_state shown u) job at range phase tuples
  calls_end ends calls at range tuples shown job phase u run is task kept few =
      ends s calls at range tuples (table_state shown u) job phase kept task is few
      (steps_alone calls shown (Maintains job at range phase) run u task (locked_is s shown u job at range phase task kept) kept)

  pub vacuums_end : VacuumsEnd → (calls at : ℕ) (tuples : ℕ → ℕ) (shown : ShownTable) (u : Unseen) → SummariseCalls s calls shown (Restarts at) → u.task s ≡ Restarts at → IsTableKept (table_state shown u)
      → ((i : ℕ) → i < shown.indexes → HasAtMostTuples (table_state shown u) i (tuples i)) → calls ≤ vacuum_steps (table_state shown u) at tuples
  vacuums_end ends calls at tuples shown u run task kept few =
      ends s calls at tuples (table_state shown u) kept task few (steps_alone calls shown (Restarts at) run u task (locked_by s shown u (Restarts at) tt task kept) kept)

-- where it waits at its range, it is a machine that waits
pub machine_waits : (s at range : ℕ) (shown : ShownTable) (job : Job) (phase : Phase) (what : WaitedFor) → SummariseWaitsFor s shown (Some s) (Maintains job at range phase) what → MachineWaits s shown (Maintains job at range phase)
machine_waits s at range shown job phase what waits u task kept = (waits u task (locked_is s shown u job at range phase task kept) kept).0
