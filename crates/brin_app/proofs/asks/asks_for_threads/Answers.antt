use Rattle.std.proofs.Common.{Err, ap, subst}
use Rattle.brin_app.specs.Tasks.{IsThreaded}
use Rattle.brin_app.proofs.asks.asks_for_threads.Goals as goal

pub returns-in-Ok-clause-wrong : goal.returns-in-Ok-clause-wrong
returns-in-Ok-clause-wrong c = λ is threads. c.is_threaded.ensures.wrong is (subst IsThreaded (c.in-Ok.ensures.alone threads.0 threads.1) threads.2)

pub returns-in-Err-Usage-clause-wrong : goal.returns-in-Err-Usage-clause-wrong
returns-in-Err-Usage-clause-wrong c = λ _ threads. c.in-Err-Usage.ensures.nothing (ap Err c.in-Err-Usage.field-0-is) threads.0 threads.1
