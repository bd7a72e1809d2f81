use Rattle.log_area.proofs.OneWay.{one_way}
use Rattle.log_area.proofs.laws.an_area_opens_in_one_way.Goals as goal

pub returns : goal.returns
returns c = one_way
