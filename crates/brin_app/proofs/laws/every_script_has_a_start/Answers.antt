use Rattle.brin_app.proofs.Starting.{has_start}
use Rattle.brin_app.proofs.laws.every_script_has_a_start.Goals as goal

pub returns : goal.returns
returns c = has_start c.every_index_of_a_table_is_listed.ensures.only c.tuples_of_an_index_are_lawful.ensures.layouts
