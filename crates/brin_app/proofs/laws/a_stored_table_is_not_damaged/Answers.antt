use Rattle.recovery.proofs.Undamaged.{not_damaged}
use Rattle.brin_app.proofs.laws.a_stored_table_is_not_damaged.Goals as goal

pub returns : goal.returns
returns c = λ layout image pages at opens order damaged.
    not_damaged c.an_area_opens_in_one_way.ensures c.no_change_begins_another.ensures c.redo_is_a_function.ensures c.maps_with_the_same_pages_are_equal.ensures layout image pages opens at order damaged
