use Rattle.transactions.proofs.Stops.{one_table_in_image}
use Rattle.transactions.proofs.stop_laws.an_image_has_one_table.Goals as goal

pub returns : goal.returns
returns c = one_table_in_image c.args.layout.now c.an_image_opens_to_one_map.ensures c.one_table_is_found.ensures
