use Rattle.index_contents.specs.OrderLaws.{order_of_index}
use Rattle.index_contents.proofs.laws.a_store_in_order_has_its_indexes_in_order.Goals as goal

pub returns : goal.returns
returns c = order_of_index
