use Rattle.std.proofs.Common.{◌/◌, ◌%◌, arith}
use Rattle.opclass_bloom.proofs.Bytes.{length_bits, with_bit_there}
use Rattle.opclass_bloom.proofs.bits.set_bit.Goals as goal

pub returns : goal.returns
returns c =
    let at = c.args.at in
    with_bit_there c.args.bytes.now (at / 8) (at % 8) at (omega arith) (omega (arith, c.requires, length_bits c.args.bytes.now)) (omega arith)
