use Rattle.std.proofs.Common.{ℕ, List, Fits, w8, get_or, sym, ap, ◌∙◌, arith, inl, inr, ext_get_or}
use Rattle.std.proofs.lemmas.Bool.{cases_lt}
use Rattle.opclass_bloom.specs.Encoding.{bytes_of}
use Rattle.opclass_bloom.proofs.Bytes.{either_there, or_fits, bytes_again}
use Rattle.opclass_bloom.proofs.bits.set_bits.Goals as goal

pub returns-clause-united : goal.returns-clause-united
returns-clause-united c =
    either_there c.args.bytes.now c.args.others.now c.bytes.bytes c.bytes.invariant.as_long c.bytes.auto.bytes
    (λ k within. c.bytes.invariant.done k (omega (arith, within, c.bytes-test.false, c.bytes.invariant.as_long)))

pub returns-clause-same : goal.returns-clause-same
returns-clause-same c = λ unchanged.
    ext_get_or 0 c.bytes.bytes c.args.bytes.now c.bytes.auto.bytes
    (λ k within. c.bytes.invariant.same unchanged k (omega (arith, within, c.bytes-test.false, c.bytes.invariant.as_long, c.bytes.auto.bytes)))

pub returns-clause-changed : goal.returns-clause-changed
returns-clause-changed c = λ changed same.
    let one = c.bytes.invariant.other changed in
    let small : (k : ℕ) → Fits w8 (get_or c.bytes.bytes k 0) = λ k. elim (cases_lt k c.bytes.i) [
      | inl before ↦ rw (c.bytes.invariant.done k before) (or_fits (get_or c.args.bytes.now k 0) (get_or c.args.others.now k 0) (c.bytes.invariant.are_bytes k) (c.type_inv.others k))
      | inr after ↦ rw (c.bytes.invariant.left k after) (c.bytes.invariant.are_bytes k)
    ] in
    let bytes = sym (bytes_again c.bytes.bytes small) ∙ ap bytes_of same ∙ bytes_again c.args.bytes.now c.bytes.invariant.are_bytes in
    one.2 (ap (λ (bytes : List ℕ). get_or bytes one.0 0) bytes)
