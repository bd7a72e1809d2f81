use Rattle.std.proofs.Common.{Result, subst}
use Rattle.store_layout.specs.declared.statement.Statement.{Statement}
use Rattle.query_words.specs.declared.line.LineFault.{LineFault}
use Rattle.query_words.specs.declared.line.Order.TheVariants as orders
use Rattle.query_words.specs.Lines.{ReadsOnce}
use Rattle.query_words.proofs.OnePass.{once_through_ok, once_through_err}
use Rattle.query_words.proofs.order.started.Goals as goal

pub returns-in-Ok : goal.returns-in-Ok
returns-in-Ok c = λ stop said read.
    once_through_ok c.in-Ok.statement stop said (λ s. orders.Start s) (subst (λ (r : Result Statement LineFault). ReadsOnce r stop said) c.in-Ok.is read)

pub returns-in-Err : goal.returns-in-Err
returns-in-Err c = λ stop said read.
    once_through_err c.in-Err.fault stop said (λ s. orders.Start s) (subst (λ (r : Result Statement LineFault). ReadsOnce r stop said) c.in-Err.is read)
