use Rattle.session_starts.proofs.Opening.{image_is_shown}
use Rattle.session_starts.proofs.image_laws.an_image_is_shown.Goals as goal

pub returns : goal.returns
returns c = λ s table at opened image.
    image_is_shown c.statuses_are_one_list.ensures c.next_numbers_are_one.ensures c.table_stays_covered.ensures.opened c.a_store_in_order_has_its_indexes_in_order.ensures c.an_opened_store_is_shown.ensures
    s table opened image
