use Rattle.store_layout.specs.DiskLayout.{area_size}
use Rattle.log_area.specs.Log.{chosen_area}
use Rattle.recovery.proofs.Once.{opens_once}
use Rattle.brin_app.proofs.laws.each_image_opens_to_one_map.Goals as goal

pub returns : goal.returns
returns c = λ layout image a b oa ob.
    c.maps_with_the_same_pages_are_equal.ensures layout a b oa.whole ob.whole
    (opens_once c.no_change_begins_another.ensures c.redo_is_a_function.ensures layout image (c.an_area_opens_in_one_way.ensures (chosen_area (area_size layout) image)) a b oa ob)
