use Rattle.std.proofs.Common.{◌∙◌}
use Rattle.brin_app.proofs.asks.threads_layout.Goals as goal

pub returns-in-Ok-Threads-clause-alone : goal.returns-in-Ok-Threads-clause-alone
returns-in-Ok-Threads-clause-alone c = λ task asked. c.in-Ok-Threads.ensures.alone task asked ∙ c.in-Ok-Threads.field-0-is
