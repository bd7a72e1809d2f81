use Rattle.std.proofs.Common.{sym, ◌∙◌}
use Rattle.range_tuple.proofs.HeadFaults.{head_few_lengths, head_few_states, head_flags, head_length, head_right, head_short, head_state}
use Rattle.range_tuple.proofs.head.head_fault.Goals as goal

pub returns-then-len-lt-HEADER-clause-fault : goal.returns-then-len-lt-HEADER-clause-fault
returns-then-len-lt-HEADER-clause-fault c = sym (head_short c.args.count c.args.bytes.now c.if-len-lt-HEADER.true)

pub returns-then-bytes-gt3-clause-fault : goal.returns-then-bytes-gt3-clause-fault
returns-then-bytes-gt3-clause-fault c = sym (head_flags c.args.count c.args.bytes.now c.if-len-lt-HEADER.false c.if-bytes-gt3.true)

pub returns-in-Some-clause-fault : goal.returns-in-Some-clause-fault
returns-in-Some-clause-fault c = sym (head_state c.args.count c.args.bytes.now c.in-Some.at c.if-len-lt-HEADER.false c.if-bytes-gt3.false (sym c.wrong_state.ensures.fault ∙ c.in-Some.is))

pub returns-then-len-count-clause-fault : goal.returns-then-len-count-clause-fault
returns-then-len-count-clause-fault c = sym (head_few_states c.args.count c.args.bytes.now c.if-len-lt-HEADER.false c.if-bytes-gt3.false (sym c.wrong_state.ensures.fault ∙ c.in_default.is) c.if-len-count.true)

pub returns-in-Some-wrong_length-clause-fault : goal.returns-in-Some-wrong_length-clause-fault
returns-in-Some-wrong_length-clause-fault c =
    sym (head_length c.args.count c.args.bytes.now c.in-Some-wrong_length.at c.if-len-count.false c.if-bytes-gt3.false (sym c.wrong_state.ensures.fault ∙ c.in_default.is) (sym c.wrong_length.ensures.fault ∙ c.in-Some-wrong_length.is))

pub returns-then-len-count-2-clause-fault : goal.returns-then-len-count-2-clause-fault
returns-then-len-count-2-clause-fault c =
    sym (head_few_lengths c.args.count c.args.bytes.now c.if-len-count.false c.if-bytes-gt3.false (sym c.wrong_state.ensures.fault ∙ c.in_default.is) (sym c.wrong_length.ensures.fault ∙ c.in_default-wrong_length.is) c.if-len-count-2.true)

pub returns-clause-fault : goal.returns-clause-fault
returns-clause-fault c =
    sym (head_right c.args.count c.args.bytes.now c.if-len-count-2.false c.if-bytes-gt3.false (sym c.wrong_state.ensures.fault ∙ c.in_default.is) (sym c.wrong_length.ensures.fault ∙ c.in_default-wrong_length.is))
