-- calls of a desummarise's step as steps of its session alone
use Rattle.std.proofs.Common.{◌≡◌, ℕ, suc, ◌≤◌, List, [], ◌∷◌, Option, Some, refl, sym, subst, ◌∙◌}
use Rattle.block_model.specs.declared.reply.Point.{Point}
use Rattle.coverage.specs.Statements.{Phase}
use Rattle.coverage.specs.Accounts.{Account}
use Rattle.coverage.specs.GoingOn.{LastAlone, OneMoreAlone, StepsAlone}
use Rattle.coverage.specs.Machines.{MachineWaits, ShownTable, Unseen, table_state, task_turned}
use Rattle.coverage.specs.StepsLeft.{desummarise_steps}
use Rattle.coverage.specs.Table.{Desummarising, Job, Maintains, Task, TableState}
use Rattle.coverage.specs.TableCovered.{IsMaintenance, IsTableKept}
use Rattle.coverage.specs.TablePoints.{WaitedFor}
use Rattle.coverage.specs.TableSteps.{TableDone, TableNext, TableRun, TableStep}
use Rattle.summarise_core.specs.DesummariseCalls.{DesummariseCalls, LastCall, OneMoreCall}
use Rattle.summarise_core.specs.DesummariseTable.{DesummariseGoesTo, DesummariseWaitsFor, lock_turned}
use Rattle.summarise_core.proofs.DesummariseSettling.{pick_same}
use Rattle.summarise_core.proofs.DesummariseTables.{locked_is}

-- what the laws of tables say of runs, and of a desummarise
abbrev pub RunsKeep : Type 0
RunsKeep = (steps : List ℕ) (w v : TableState) → IsTableKept w → TableRun steps w v → IsTableKept v

abbrev pub DesummarisesEnd : Type 0
DesummarisesEnd = (s n only at range : ℕ) (w : TableState) (phase : Phase) → IsTableKept w → w.task s ≡ Maintains (Desummarising only) at range phase → StepsAlone s n w → n ≤ desummarise_steps phase

module _ (keep : RunsKeep) (s : ℕ) where
  module _ (old new : ShownTable) (held held_then : Option ℕ) (before after : Task) (point : Point) (account : Account → Account) (goes : DesummariseGoesTo s old new held held_then before after point account)
      (u : Unseen) (at : u.task s ≡ before) (lock : u.summarise_lock ≡ held) (kept : IsTableKept (table_state old u)) where
    abbrev turned : Unseen
    turned = lock_turned held_then (task_turned s after u)

    step : TableStep s (table_state old u) (table_state new turned)
    step = record {
      between = table_state new (lock_turned (Some s) (task_turned s (goes u at lock kept).0 u));
      does = (goes u at lock kept).1.does;
      settles = (goes u at lock kept).2;
    }

    pub kept_then : IsTableKept (table_state new turned)
    kept_then = keep (s ∷ []) (table_state old u) (table_state new turned) kept (TableNext s [] (table_state old u) (table_state new turned) (table_state new turned) step (TableDone (table_state new turned)))

    is_last : StepsAlone s 1 (table_state old u)
    unfolding step
    is_last = LastAlone (table_state old u) (table_state new turned) step point (goes u at lock kept).1.point_is

    is_one_more : (calls : ℕ) → IsMaintenance after → StepsAlone s calls (table_state new turned) → StepsAlone s (suc calls) (table_state old u)
    unfolding step
    is_one_more calls maintains rest = OneMoreAlone calls (table_state old u) (table_state new turned) step point (goes u at lock kept).1.point_is
        (λ rests. subst (λ (t : Task). IsMaintenance t) (sym (pick_same s after (u.task s)) ∙ rests) maintains) rest

  steps_alone : (calls : ℕ) (shown : ShownTable) (task : Task) → DesummariseCalls s calls shown task → (u : Unseen) → u.task s ≡ task → u.summarise_lock ≡ Some s → IsTableKept (table_state shown u) → StepsAlone s calls (table_state shown u)
  steps_alone _ _ _ (LastCall old new held_then before after point account goes) u at lock kept = is_last old new (Some s) held_then before after point account goes u at lock kept
  steps_alone _ _ _ (OneMoreCall calls place range old new before job phase point account goes rest) u at lock kept =
      is_one_more old new (Some s) (Some s) before (Maintains job place range phase) point account goes u at lock kept calls tt
      (steps_alone calls new (Maintains job place range phase) rest (lock_turned (Some s) (task_turned s (Maintains job place range phase) u)) (pick_same s (Maintains job place range phase) (u.task s)) refl
      (kept_then old new (Some s) (Some s) before (Maintains job place range phase) point account goes u at lock kept))

  -- so they are as few as the table's steps
  pub calls_end : DesummarisesEnd → (calls only at range : ℕ) (shown : ShownTable) (phase : Phase) (u : Unseen) → DesummariseCalls s calls shown (Maintains (Desummarising only) at range phase) → u.task s ≡ Maintains (Desummarising only) at range phase
      → IsTableKept (table_state shown u) → calls ≤ desummarise_steps phase
  calls_end ends calls only at range shown phase u run task kept =
      ends s calls only at range (table_state shown u) phase kept task
      (steps_alone calls shown (Maintains (Desummarising only) at range phase) run u task (locked_is s shown u (Desummarising only) at range phase task kept) kept)

-- where it waits at its range, it is a machine that waits
pub machine_waits : (s at range : ℕ) (shown : ShownTable) (job : Job) (phase : Phase) (what : WaitedFor) → DesummariseWaitsFor s shown (Some s) (Maintains job at range phase) what → MachineWaits s shown (Maintains job at range phase)
machine_waits s at range shown job phase what waits u task kept = (waits u task (locked_is s shown u job at range phase task kept) kept).0
