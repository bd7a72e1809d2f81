use Rattle.coverage.proofs.StatementsGoOn.{statement_goes_on}
use Rattle.coverage.proofs.InsertsEndAlone.{insert_within, begun_within}
use Rattle.coverage.proofs.table_laws.statements_go_on.Goals as goal

pub returns : goal.returns
returns c = record {
  goes_on = λ w s kept can honest busy has stuck unblocked room. statement_goes_on w s kept can honest stuck unblocked room busy has;
  inserts_end = λ s n w kept inserting alone. insert_within s n w kept inserting alone;
  begun_insert_ends = λ s n w v step kept inserting alone. begun_within s n w v step kept inserting alone;
}
