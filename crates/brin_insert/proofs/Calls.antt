-- calls of an insert's step as steps of its session alone
use Rattle.std.proofs.Common.{◌≡◌, ℕ, suc, ◌+◌, ◌*◌, ◌≤◌, List, [], ◌∷◌, sym, subst, arith}
use Rattle.block_model.specs.declared.reply.Point.{Point}
use Rattle.coverage.specs.GoingOn.{IsInserting, StepsAlone, LastAlone, OneMoreAlone}
use Rattle.coverage.specs.Machines.{MachineSteps, MachineWaits, ShownTable, Unseen, table_state, task_turned}
use Rattle.coverage.specs.Table.{Task, TableState}
use Rattle.coverage.specs.TableCovered.{IsTableKept}
use Rattle.coverage.specs.TableSteps.{TableStep, TableRun, TableDone, TableNext}
use Rattle.brin_insert.specs.InsertAnswers.{InsertGoesTo, InsertWaitsFor}
use Rattle.brin_insert.specs.InsertCalls.{InsertCalls, LastCall, OneMoreCall}
use Rattle.coverage.proofs.Views.{pick_same}

-- what the laws of tables say of runs, and of an insert that has begun
abbrev pub RunsKeep : Type 0
RunsKeep = (steps : List ℕ) (w v : TableState) → IsTableKept w → TableRun steps w v → IsTableKept v

abbrev pub BegunEnds : Type 0
BegunEnds = (s n : ℕ) (w v : TableState) → TableStep s w v → IsTableKept w → IsInserting (v.task s) → StepsAlone s n v → suc n ≤ 1 + 6 * w.indexes

module _ (keep : RunsKeep) (s : ℕ) where
  module _ (old new : ShownTable) (before after : Task) (point : Point) (goes : InsertGoesTo s old new before after point) (u : Unseen) (at : u.task s ≡ before) (kept : IsTableKept (table_state old u)) where
    step : TableStep s (table_state old u) (table_state new (task_turned s after u))
    step = record { between = table_state new (task_turned s (goes u at kept).0 u); does = (goes u at kept).1.does; settles = (goes u at kept).2 }

    kept_then : IsTableKept (table_state new (task_turned s after u))
    kept_then = keep (s ∷ []) (table_state old u) (table_state new (task_turned s after u)) kept
        (TableNext s [] (table_state old u) (table_state new (task_turned s after u)) (table_state new (task_turned s after u)) step (TableDone (table_state new (task_turned s after u))))

    is_last : StepsAlone s 1 (table_state old u)
    unfolding step
    is_last = LastAlone (table_state old u) (table_state new (task_turned s after u)) step point (goes u at kept).1.point_is

    module _ (inserting : IsInserting after) where
      inserting_then : IsInserting ((task_turned s after u).task s)
      inserting_then = subst (λ (t : Task). IsInserting t) (sym (pick_same s after (u.task s))) inserting

      is_one_more : (calls : ℕ) → StepsAlone s calls (table_state new (task_turned s after u)) → StepsAlone s (suc calls) (table_state old u)
      unfolding step
      is_one_more calls rest = OneMoreAlone calls (table_state old u) (table_state new (task_turned s after u)) step point (goes u at kept).1.point_is
          (λ rests. subst (λ (t : Task). IsInserting t) rests inserting_then) rest

  steps_alone : (calls : ℕ) (shown : ShownTable) (task : Task) → InsertCalls s calls shown task → (u : Unseen) → u.task s ≡ task → IsTableKept (table_state shown u) → StepsAlone s calls (table_state shown u)
  steps_alone _ _ _ (LastCall old new before after point goes) u at kept = is_last old new before after point goes u at kept
  steps_alone _ _ _ (OneMoreCall calls old new before after point goes inserting rest) u at kept =
      is_one_more old new before after point goes u at kept inserting calls
      (steps_alone calls new after rest (task_turned s after u) (pick_same s after (u.task s)) (kept_then old new before after point goes u at kept))

  -- so they are few
  pub calls_end : BegunEnds → (calls : ℕ) (shown : ShownTable) (task : Task) (u : Unseen) → InsertCalls s calls shown task → u.task s ≡ task → IsTableKept (table_state shown u) → calls ≤ 1 + 9 * shown.indexes
  calls_end ends _ _ _ u (LastCall old new before after point goes) at kept = omega arith
  calls_end ends _ _ _ u (OneMoreCall calls old new before after point goes inserting rest) at kept =
      let few : suc calls ≤ 1 + 6 * old.indexes =
      ends s calls (table_state old u) (table_state new (task_turned s after u)) (step old new before after point goes u at kept) kept (inserting_then old new before after point goes u at kept inserting)
      (steps_alone calls new after rest (task_turned s after u) (pick_same s after (u.task s)) (kept_then old new before after point goes u at kept)) in
      omega (arith, few)

-- a step is one of a machine, whatever tuples were unnamed at the opening
pub machine_steps : (s : ℕ) (old new : ShownTable) (before after : Task) (point : Point) → InsertGoesTo s old new before after point → MachineSteps s old new before after
machine_steps s old new before after point goes u at kept = (
  u.unnamed,
  λ i x is. is,
  record { between = table_state new (task_turned s (goes u at kept).0 u); does = (goes u at kept).1.does; settles = (goes u at kept).2 },
)

pub machine_waits : (s at page : ℕ) (shown : ShownTable) (task : Task) → InsertWaitsFor s shown task at page → MachineWaits s shown task
machine_waits s at page shown task waits u is kept = (waits u is kept).0
