use Rattle.recovery.proofs.Undamaged.{not_damaged}
use Rattle.recovery.proofs.laws.a_store_is_not_damaged.Goals as goal

pub returns : goal.returns
returns c = λ image pages at opens order damaged.
    not_damaged c.an_area_opens_in_one_way.ensures c.no_change_begins_another.ensures c.redo_is_a_function.ensures c.maps_with_the_same_pages_are_equal.ensures c.args.layout.now image pages opens at order damaged
