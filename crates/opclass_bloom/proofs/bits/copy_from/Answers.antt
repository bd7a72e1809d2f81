use Rattle.std.proofs.Common.{sym, arith}
use Rattle.opclass_bloom.proofs.Bytes.{length_bits, bytes_again}
use Rattle.opclass_bloom.proofs.bits.copy_from.Goals as goal

pub returns-clause-length : goal.returns-clause-length
returns-clause-length c = omega (arith, c.copy_from_slice.ensures.len, length_bits c.args.bytes.now, length_bits c.copy_from_slice.new.self)

pub returns-clause-copied : goal.returns-clause-copied
returns-clause-copied c = rw c.copy_from_slice.ensures.after (sym (bytes_again c.args.others.now c.type_inv.others))
