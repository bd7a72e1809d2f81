use Rattle.std.proofs.Common.{ℕ, List, get_or, sym, ◌∙◌, ap, arith}
use Rattle.std.proofs.lemmas.Bool.{false≢true}
use Rattle.recovery.proofs.KindsStand.{empty_is, empty_zeros}
use Rattle.recovery.proofs.order.is_empty_map.Goals as goal

pub returns-clause-empty : goal.returns-clause-empty
returns-clause-empty c = λ e.
    sym c.as_bytes-bytes.ensures.bytes
    ∙ empty_is 4 c.as_bytes-bytes.result.now c.as_bytes-bytes.ensures.whole c.if-bytes-ne-MAP.false (λ k some low. c.rest.invariant k some (omega (arith, c.rest-test.false, low)))

pub returns-clause-other : goal.returns-clause-other
returns-clause-other c = λ e. absurd (false≢true (sym e))

pub returns-then-byte-ne0-clause-other : goal.returns-then-byte-ne0-clause-other
returns-then-byte-ne0-clause-other c = λ e is.
    let byte = ap (λ (p : List ℕ). get_or p c.rest.at 0) (c.as_bytes-bytes.ensures.bytes ∙ is) ∙ empty_zeros 4 c.rest.at (omega arith) in
    c.if-byte-ne0.true byte
