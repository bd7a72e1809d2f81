-- the table stays kept by a vacuum's step
use Rattle.std.proofs.Common.{◌≡◌, ℕ, ◌<◌, List, [], ◌∷◌, Option, Some, sym, subst}
use Rattle.block_model.specs.declared.reply.Point.{Point}
use Rattle.coverage.specs.Accounts.{Account}
use Rattle.coverage.specs.Machines.{MachineWaits, ShownTable, Unseen, table_state, task_turned}
use Rattle.coverage.specs.StepsLeft.{IsCleaning, cleaning_steps}
use Rattle.coverage.specs.Table.{Sweeps, Task, TableState}
use Rattle.coverage.specs.TableCovered.{IsTableKept}
use Rattle.coverage.specs.TablePoints.{WaitedFor, does_point}
use Rattle.coverage.specs.TableSteps.{TableDone, TableNext, TableRun, TableStep}
use Rattle.vacuum_core.specs.TableSteps.{IsSpared, VacuumGoesTo, VacuumWaitsFor, lock_turned, unnamed_turned}
use Rattle.vacuum_core.proofs.Settling.{pick_same}
use Rattle.vacuum_core.proofs.Tables.{locked_by}

abbrev pub RunsKeep : Type 0
RunsKeep = (steps : List ℕ) (w v : TableState) → IsTableKept w → TableRun steps w v → IsTableKept v

-- what the law of tables says of a vacuum up to its first index
abbrev pub CleaningEnds : Type 0
CleaningEnds = (s : ℕ) (w v : TableState) (step : TableStep s w v) (p : Point) → IsTableKept w → does_point s w step.between step.does ≡ Some p → IsCleaning (w.task s) → IsCleaning (v.task s) → cleaning_steps v (v.task s) < cleaning_steps w (w.task s)

module _ (s : ℕ) (old new : ShownTable) (held held_then : Option ℕ) (before after : Task) (point : Point) (account : Account → Account) (goes : VacuumGoesTo s old new held held_then before after point account)
    (u : Unseen) (at : u.task s ≡ before) (lock : u.summarise_lock ≡ held) (kept : IsTableKept (table_state old u)) (spared : IsSpared s old new u) where
  abbrev turned : Unseen
  turned = lock_turned held_then (task_turned s after (unnamed_turned (goes u at lock kept spared).0 u))

  step : TableStep s (table_state old u) (table_state new turned)
  step = record {
    between = table_state new (lock_turned (Some s) (task_turned s (goes u at lock kept spared).2 (unnamed_turned (goes u at lock kept spared).0 u)));
    does = (goes u at lock kept spared).3.does;
    settles = (goes u at lock kept spared).4;
  }

  pub kept_then : RunsKeep → IsTableKept (table_state new turned)
  kept_then keep = keep (s ∷ []) (table_state old u) (table_state new turned) kept (TableNext s [] (table_state old u) (table_state new turned) (table_state new turned) step (TableDone (table_state new turned)))

  -- fewer steps are left then
  pub fewer_left : CleaningEnds → IsCleaning before → IsCleaning after → cleaning_steps (table_state new u) after < cleaning_steps (table_state old u) before
  unfolding step
  fewer_left ends cleans goes_on =
      let then : (table_state new turned).task s ≡ after = pick_same s after (u.task s) in
      let falls : cleaning_steps (table_state new turned) ((table_state new turned).task s) < cleaning_steps (table_state old u) (u.task s) =
      ends s (table_state old u) (table_state new turned) step point kept (goes u at lock kept spared).3.point_is (subst IsCleaning (sym at) cleans) (subst IsCleaning (sym then) goes_on) in
      subst (λ (t : Task). cleaning_steps (table_state new u) after < cleaning_steps (table_state old u) t) at
      (subst (λ (t : Task). cleaning_steps (table_state new turned) t < cleaning_steps (table_state old u) (u.task s)) then falls)

-- where it waits at its page, it is a machine that waits
pub machine_waits : (s at page : ℕ) (shown : ShownTable) (what : WaitedFor) → VacuumWaitsFor s shown (Some s) (Sweeps at page) what → MachineWaits s shown (Sweeps at page)
machine_waits s at page shown what waits u task kept = (waits u task (locked_by s shown u (Sweeps at page) tt task kept) kept).0
