use Rattle.std.proofs.Common.{sym, subst, inl, inr}
use Rattle.brin_app.specs.declared.top.Task.{Task}
use Rattle.brin_app.specs.Tasks.{HasNumbers, IsThreaded}
use Rattle.brin_app.specs.Threads.{IsGivenFor}
use Rattle.brin_app.proofs.Doing.{init_done}
use Rattle.brin_app.proofs.Holding.{holds_task}
use Rattle.brin_app.proofs.Performed.{as_task, with_source}
use Rattle.brin_app.proofs.Threading.{worked_task}
use Rattle.brin_app.proofs.top.perform.Goals as goal

pub returns-in-Init : goal.returns-in-Init
returns-in-Init g c = record {
  done = as_task _ c.args.task c.in-Init.is (init_done c.in-Init.layout c.init.result.0 (g.D.Disk.told c.args.disk) (g.D.Disk.told c.init.result.1) _ _ _ _ c.init.ensures.made c.init.ensures.cause);
  holds_on = inr (holds_task _ c.args.task c.in-Init.is c.init.ensures.holds_on);
  threads = λ honest. worked_task _ _ _ _ _ _ _ _ _ _ _ c.args.task c.in-Init.is tt;
}

pub returns-in-Run : goal.returns-in-Run
returns-in-Run g c = record {
  done = as_task _ c.args.task c.in-Run.is c.run_new.ensures.done;
  holds_on = inr (holds_task _ c.args.task c.in-Run.is c.run_new.ensures.holds_on);
  threads = λ honest. worked_task _ _ _ _ _ _ _ _ _ _ _ c.args.task c.in-Run.is tt;
}

pub run_stored-requires : goal.run_stored-requires
run_stored-requires g c = c.requires.image c.in-RunStored.is

pub returns-in-RunStored : goal.returns-in-RunStored
returns-in-RunStored g c = record {
  done = as_task _ c.args.task c.in-RunStored.is c.run_stored.ensures.done;
  holds_on = inr (holds_task _ c.args.task c.in-RunStored.is c.run_stored.ensures.holds_on);
  threads = λ honest. worked_task _ _ _ _ _ _ _ _ _ _ _ c.args.task c.in-RunStored.is tt;
}

pub run_demo-requires : goal.run_demo-requires
run_demo-requires g c = subst HasNumbers c.in-Demo.is c.requires.numbers

pub returns-in-Demo : goal.returns-in-Demo
returns-in-Demo g c = record {
  done = as_task _ c.args.task c.in-Demo.is (with_source (c.run_demo.ensures.done _));
  holds_on = inr (holds_task _ c.args.task c.in-Demo.is c.run_demo.ensures.holds_on);
  threads = λ honest. worked_task _ _ _ _ _ _ _ _ _ _ _ c.args.task c.in-Demo.is tt;
}

pub run_new_threads-requires-clause-faults : goal.run_new_threads-requires-clause-faults
run_new_threads-requires-clause-faults g c κs within = c.requires.faults (subst IsThreaded (sym c.in-Threads.is) tt)

pub run_new_threads-requires-clause-given : goal.run_new_threads-requires-clause-given
run_new_threads-requires-clause-given g c κs within honest =
    subst (λ (t : Task). IsGivenFor t (g.D.Disk.told c.args.disk) (g.S.Source.left c.args.source.now) g.N.Names.opening g.N.Names.layout g.N.Names.script) c.in-Threads.is (c.requires.given honest)

pub returns-in-Threads : goal.returns-in-Threads
returns-in-Threads g c = record {
  done = as_task _ c.args.task c.in-Threads.is c.run_new_threads.ensures.done;
  holds_on = inl (subst IsThreaded (sym c.in-Threads.is) tt);
  threads = λ honest. worked_task _ _ _ _ _ _ _ _ _ _ _ c.args.task c.in-Threads.is (c.run_new_threads.ensures.threads honest);
}

pub run_stored_threads-requires-clause-faults : goal.run_stored_threads-requires-clause-faults
run_stored_threads-requires-clause-faults g c κs within = c.requires.faults (subst IsThreaded (sym c.in-ThreadsStored.is) tt)

pub run_stored_threads-requires-clause-given : goal.run_stored_threads-requires-clause-given
run_stored_threads-requires-clause-given g c κs within honest =
    subst (λ (t : Task). IsGivenFor t (g.D.Disk.told c.args.disk) (g.S.Source.left c.args.source.now) g.N.Names.opening g.N.Names.layout g.N.Names.script) c.in-ThreadsStored.is (c.requires.given honest)

pub returns-in-ThreadsStored : goal.returns-in-ThreadsStored
returns-in-ThreadsStored g c = record {
  done = as_task _ c.args.task c.in-ThreadsStored.is c.run_stored_threads.ensures.done;
  holds_on = inl (subst IsThreaded (sym c.in-ThreadsStored.is) tt);
  threads = λ honest. worked_task _ _ _ _ _ _ _ _ _ _ _ c.args.task c.in-ThreadsStored.is (c.run_stored_threads.ensures.threads honest);
}
