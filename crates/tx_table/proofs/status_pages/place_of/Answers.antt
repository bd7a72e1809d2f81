use Rattle.std.proofs.Common.{◌/◌, refl, arith}
use Rattle.tx_table.proofs.Pages.{place_there}
use Rattle.tx_table.proofs.status_pages.place_of.Goals as goal

pub returns-clause-place : goal.returns-clause-place
returns-clause-place c = place_there c.args.layout.now (record { relation = 0; block = c.args.t / 32640 }) refl (omega (arith, c.requires))
