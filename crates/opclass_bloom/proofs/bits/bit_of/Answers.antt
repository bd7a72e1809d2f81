use Rattle.std.proofs.Common.{ℕ, ◌/◌, ◌%◌, ◌==◌, sym, ap, ◌∙◌, get_or, arith}
use Rattle.std.proofs.lemmas.Nat.Bits.{shr_and_one}
use Rattle.opclass_bloom.proofs.Bytes.{length_bits, bit_there}
use Rattle.opclass_bloom.proofs.bits.bit_of.Goals as goal

pub returns : goal.returns
returns c =
    let at = c.args.at in
    let bytes = c.args.bytes.now in
    ap (λ (n : ℕ). n == 1) (shr_and_one (get_or bytes (at / 8) 0) (at % 8)) ∙ sym (bit_there bytes (at / 8) (at % 8) at (omega arith) (omega (arith, c.requires, length_bits bytes)) (omega arith))
