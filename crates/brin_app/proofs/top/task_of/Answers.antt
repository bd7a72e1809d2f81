use Rattle.std.proofs.Common.{◌≡◌, sym, subst}
use Rattle.std.specs.Prelude.{IfOk}
use Rattle.command_line.specs.declared.command.Command.{Command}
use Rattle.brin_app.specs.declared.top.Task.{Task}
use Rattle.brin_app.specs.declared.top.Task.TheVariants as tasks
use Rattle.brin_app.specs.Tasks.{HasDemoNumbers, IsTaskOf, IsWrong}
use Rattle.brin_app.proofs.Asked.{stored_alone, threads_stored_alone}
use Rattle.brin_app.proofs.top.task_of.Goals as goal

pub returns-in-Init-clause-asked : goal.returns-in-Init-clause-asked
returns-in-Init-clause-asked c = subst (λ (m : Command). IfOk c.init_task.result (IsTaskOf m)) (sym c.in-Init.is) c.init_task.ensures.asked

pub returns-in-Init-clause-alone : goal.returns-in-Init-clause-alone
returns-in-Init-clause-alone c =
    subst (λ (m : Command). IfOk c.init_task.result (λ task. (other : Task) → IsTaskOf m other → other ≡ task)) (sym c.in-Init.is) c.init_task.ensures.alone

pub returns-in-Init-clause-usage : goal.returns-in-Init-clause-usage
returns-in-Init-clause-usage c = λ e. subst IsWrong (sym c.in-Init.is) (c.init_task.ensures.usage e)

pub returns-in-Run-clause-asked : goal.returns-in-Run-clause-asked
returns-in-Run-clause-asked c = subst (λ (m : Command). IfOk c.run_task.result (IsTaskOf m)) (sym c.in-Run.is) c.run_task.ensures.asked

pub returns-in-Run-clause-alone : goal.returns-in-Run-clause-alone
returns-in-Run-clause-alone c =
    subst (λ (m : Command). IfOk c.run_task.result (λ task. (other : Task) → IsTaskOf m other → other ≡ task)) (sym c.in-Run.is) c.run_task.ensures.alone

pub returns-in-Run-clause-usage : goal.returns-in-Run-clause-usage
returns-in-Run-clause-usage c = λ e. subst IsWrong (sym c.in-Run.is) (c.run_task.ensures.usage e)

pub returns-in-RunStored-clause-asked : goal.returns-in-RunStored-clause-asked
returns-in-RunStored-clause-asked c = subst (λ (m : Command). IsTaskOf m tasks.RunStored) (sym c.in-RunStored.is) tt

pub returns-in-RunStored-clause-alone : goal.returns-in-RunStored-clause-alone
returns-in-RunStored-clause-alone c = subst (λ (m : Command). (other : Task) → IsTaskOf m other → other ≡ tasks.RunStored) (sym c.in-RunStored.is) stored_alone

pub returns-in-Threads-clause-asked : goal.returns-in-Threads-clause-asked
returns-in-Threads-clause-asked c = subst (λ (m : Command). IfOk c.threads_task.result (IsTaskOf m)) (sym c.in-Threads.is) c.threads_task.ensures.asked

pub returns-in-Threads-clause-alone : goal.returns-in-Threads-clause-alone
returns-in-Threads-clause-alone c =
    subst (λ (m : Command). IfOk c.threads_task.result (λ task. (other : Task) → IsTaskOf m other → other ≡ task)) (sym c.in-Threads.is) c.threads_task.ensures.alone

pub returns-in-Threads-clause-usage : goal.returns-in-Threads-clause-usage
returns-in-Threads-clause-usage c = λ e. subst IsWrong (sym c.in-Threads.is) (c.threads_task.ensures.usage e)

pub returns-in-ThreadsStored-clause-asked : goal.returns-in-ThreadsStored-clause-asked
returns-in-ThreadsStored-clause-asked c = subst (λ (m : Command). IsTaskOf m tasks.ThreadsStored) (sym c.in-ThreadsStored.is) tt

pub returns-in-ThreadsStored-clause-alone : goal.returns-in-ThreadsStored-clause-alone
returns-in-ThreadsStored-clause-alone c = subst (λ (m : Command). (other : Task) → IsTaskOf m other → other ≡ tasks.ThreadsStored) (sym c.in-ThreadsStored.is) threads_stored_alone

pub demo_task-requires : goal.demo_task-requires
demo_task-requires c = subst HasDemoNumbers c.in-Demo.is c.requires

pub returns-in-Demo-clause-asked : goal.returns-in-Demo-clause-asked
returns-in-Demo-clause-asked c = subst (λ (m : Command). IfOk c.demo_task.result (IsTaskOf m)) (sym c.in-Demo.is) c.demo_task.ensures.asked

pub returns-in-Demo-clause-alone : goal.returns-in-Demo-clause-alone
returns-in-Demo-clause-alone c =
    subst (λ (m : Command). IfOk c.demo_task.result (λ task. (other : Task) → IsTaskOf m other → other ≡ task)) (sym c.in-Demo.is) c.demo_task.ensures.alone

pub returns-in-Demo-clause-usage : goal.returns-in-Demo-clause-usage
returns-in-Demo-clause-usage c = λ e. absurd (c.demo_task.ensures.memory e)
