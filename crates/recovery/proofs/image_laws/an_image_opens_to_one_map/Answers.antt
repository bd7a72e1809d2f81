use Rattle.store_layout.specs.DiskLayout.{area_size}
use Rattle.log_area.specs.Log.{chosen_area}
use Rattle.recovery.proofs.Once.{opens_once}
use Rattle.recovery.proofs.image_laws.an_image_opens_to_one_map.Goals as goal

pub returns : goal.returns
returns c = λ image a b oa ob.
    let layout = c.args.layout.now in
    let way = c.an_area_opens_in_one_way.ensures (chosen_area (area_size layout) image) in
    c.maps_with_the_same_pages_are_equal.ensures layout a b oa.whole ob.whole
    (opens_once c.no_change_begins_another.ensures c.redo_is_a_function.ensures layout image way a b oa ob)
