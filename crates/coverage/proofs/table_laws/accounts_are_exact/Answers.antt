use Rattle.coverage.proofs.AccountsExact.{accounts_once, queue_in_order, queue_within}
use Rattle.coverage.proofs.RangesCounted.{replies_count}
use Rattle.coverage.proofs.table_laws.accounts_are_exact.Goals as goal

pub returns : goal.returns
returns c = record {
  one = λ s w v does p a b c is one two. accounts_once s w v does p a b c is one two;
  in_order = λ s w v does a b step. queue_in_order s w v does a b step;
  replies = λ s rest w u v a b c step adds run kept rested gives in_hand. replies_count s rest w u v a b c step adds run kept rested gives in_hand;
  within = λ s w v does a b step within. queue_within s w v does a b step within;
}
