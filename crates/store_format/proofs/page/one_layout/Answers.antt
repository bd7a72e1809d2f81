use Rattle.store_format.proofs.Again.{one_layout}
use Rattle.store_format.proofs.page.one_layout.Goals as goal

pub returns : goal.returns
returns c = one_layout
