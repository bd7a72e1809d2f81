use Rattle.page_map.proofs.Maps.{same_maps}
use Rattle.page_map.proofs.laws.maps_with_the_same_pages_are_equal.Goals as goal

pub returns : goal.returns
returns c = same_maps
