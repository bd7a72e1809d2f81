use Rattle.std.proofs.Common.{arith, sym, ◌∷◌, ◌∙◌}
use Rattle.opclass_inclusion.specs.NetEncoding.{address_bytes}
use Rattle.opclass_inclusion.proofs.NetReading.{bytes_again}
use Rattle.opclass_inclusion.proofs.net_bytes.fields_in.Goals as goal

pub returns-clause-whole : goal.returns-clause-whole
returns-clause-whole c = λ size.
    bytes_again c.address_in.result c.args.bytes.now size (c.address_in.ensures.again (omega (arith, size)))
    ∙ (λ i. sym c.byte_at.ensures i ∷ sym c.byte_at-2.ensures i ∷ sym c.byte_at-3.ensures i ∷ address_bytes c.address_in.result)
