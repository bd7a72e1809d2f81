use Rattle.std.proofs.Common.{◌≡◌, ◌<◌, ◌+◌, ◌-◌, ◌/◌, min, true, false, length, sym, ap, ◌∙◌, arith}
use Rattle.range_tuple.specs.TupleFaults.{is_wrong_length, length_at, length_is_wrong, state_at}
use Rattle.range_tuple.proofs.HeadFaults.{first_step, length_found, no_length_found}
use Rattle.range_tuple.proofs.head.wrong_length.Goals as goal

pub returns-then-length_is_wrong-clause-fault : goal.returns-then-length_is_wrong-clause-fault
unfolding length_is_wrong
returns-then-length_is_wrong-clause-fault c =
    let bytes = c.args.bytes.now in
    let count = c.args.count in
    let k = c.lengths.k in
    let wrong : is_wrong_length (state_at bytes k) (length_at count bytes k) ≡ true = ap (is_wrong_length (state_at bytes k)) (sym c.get_u16.ensures.got) ∙ sym c.if-length_is_wrong.ensures in
    let below : k < min count ((length bytes - (5 + count)) / 2) = omega (arith, c.lengths-test.true, c.min-k-end.ensures) in
    length_found count bytes k c.lengths.invariant wrong below

pub lengths-preserved : goal.lengths-preserved
unfolding length_is_wrong
lengths-preserved c =
    let bytes = c.args.bytes.now in
    let count = c.args.count in
    let k = c.lengths.k in
    let right : is_wrong_length (state_at bytes k) (length_at count bytes k) ≡ false = ap (is_wrong_length (state_at bytes k)) (sym c.get_u16.ensures.got) ∙ sym c.if-length_is_wrong.ensures in
    first_step (length_is_wrong count bytes) k c.lengths.invariant right

pub returns-clause-fault : goal.returns-clause-fault
returns-clause-fault c =
    let bytes = c.args.bytes.now in
    let count = c.args.count in
    let end : c.lengths.k ≡ min count ((length bytes - (5 + count)) / 2) = omega (arith, c.lengths-test.false, c.lengths.auto.k-end, c.min-k-end.ensures) in
    no_length_found count bytes c.lengths.k end c.lengths.invariant
