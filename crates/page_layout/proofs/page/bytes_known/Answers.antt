use Rattle.std.proofs.Common.{arith}
use Rattle.page_layout.proofs.page.bytes_known.Goals as goal

pub returns : goal.returns
returns c = λ i. let byte = c.type_inv.bytes i in omega (arith, byte)
