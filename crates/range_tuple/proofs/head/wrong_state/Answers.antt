use Rattle.std.proofs.Common.{◌≡◌, Bool, ℕ, List, ◌<◌, ◌+◌, ◌-◌, ◌==◌, ◌&&◌, min, length, sym, ap, ◌∙◌, arith}
use Rattle.range_tuple.specs.TupleFaults.{are_nothing, is_wrong, is_zero, says_empty, state_at, state_is_wrong}
use Rattle.range_tuple.proofs.HeadFaults.{first_step, no_state_found, nothing_step, state_found}
use Rattle.range_tuple.proofs.head.wrong_state.Goals as goal

-- whether the first states are nothing, with one more of them
one_more : (bytes : List ℕ) (k : ℕ) (nothing : Bool) → 5 + k < length bytes → nothing ≡ are_nothing bytes k → (nothing && is_zero (state_at bytes k)) ≡ are_nothing bytes (k + 1)
one_more bytes k nothing within so_far = ap (λ (b : Bool). b && is_zero (state_at bytes k)) so_far ∙ sym (nothing_step bytes k within)

-- the state is judged with those before it
judged : (count k : ℕ) (bytes : List ℕ) (nothing wrong : Bool) → 5 + k < length bytes → nothing ≡ are_nothing bytes k
    → wrong ≡ is_wrong (state_at bytes k) (says_empty bytes) ((nothing && is_zero (state_at bytes k)) && (k + 1 == count))
    → wrong ≡ state_is_wrong count bytes k
unfolding state_is_wrong
judged count k bytes nothing wrong within so_far is =
    is ∙ ap (λ (b : Bool). is_wrong (state_at bytes k) (says_empty bytes) (b && (k + 1 == count))) (one_more bytes k nothing within so_far)

pub returns-then-is_wrong-clause-fault : goal.returns-then-is_wrong-clause-fault
returns-then-is_wrong-clause-fault c =
    let bytes = c.args.bytes.now in
    let k = c.states.k in
    let within : 5 + k < length bytes = omega (arith, c.states-test.true, c.min-k-end.ensures, c.requires.there) in
    let below : k < min c.args.count (length bytes - 5) = omega (arith, c.states-test.true, c.min-k-end.ensures) in
    let wrong = judged c.args.count k bytes c.states.nothing c.is_wrong.result within c.states.invariant.nothing c.is_wrong.ensures in
    state_found c.args.count bytes k c.states.invariant.none (sym wrong ∙ c.if-is_wrong.true) below

pub states-preserved : goal.states-preserved
states-preserved c =
    let bytes = c.args.bytes.now in
    let k = c.states.k in
    let within : 5 + k < length bytes = omega (arith, c.states-test.true, c.min-k-end.ensures, c.requires.there) in
    let wrong = judged c.args.count k bytes c.states.nothing c.is_wrong.result within c.states.invariant.nothing c.is_wrong.ensures in
    record {
      none = first_step (state_is_wrong c.args.count bytes) k c.states.invariant.none (sym wrong ∙ c.if-is_wrong.false);
      nothing = one_more bytes k c.states.nothing within c.states.invariant.nothing;
    }

pub returns-clause-fault : goal.returns-clause-fault
returns-clause-fault c =
    let end : c.states.k ≡ min c.args.count (length c.args.bytes.now - 5) = omega (arith, c.states-test.false, c.states.auto.k-end, c.min-k-end.ensures) in
    no_state_found c.args.count c.args.bytes.now c.states.k end c.states.invariant.none
