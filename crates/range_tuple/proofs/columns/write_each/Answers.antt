use Rattle.std.proofs.Common.{◌≡◌, ℕ, ◌*◌, ◌++◌, List, length, drop, ap, ◌∙◌, arith}
use Rattle.range_tuple.specs.TupleBytes.{lengths_bytes, states_bytes, summaries_bytes}
use Rattle.range_tuple.proofs.ByPlace.{heads_fit}
use Rattle.range_tuple.proofs.EachColumn.{length-columns, written_columns}
use Rattle.range_tuple.proofs.columns.write_each.Goals as goal

pub split_at_mut-states-requires : goal.split_at_mut-states-requires
split_at_mut-states-requires c = omega (arith, c.requires, heads_fit c.args.columns.now)

pub split_at_mut-lengths-requires : goal.split_at_mut-lengths-requires
split_at_mut-lengths-requires c = omega (arith, c.requires, heads_fit c.args.columns.now, c.split_at_mut-states.ensures.back_len)

pub returns-clause-size : goal.returns-clause-size
returns-clause-size c = omega (arith, length-columns c.args.columns.now, c.write_summaries.ensures.size)

pub returns-clause-written : goal.returns-clause-written
returns-clause-written c =
    let n = length c.args.columns.now in
    let r = c.write_summaries.result in
    let back : c.split_at_mut-lengths.result.1.now ≡ drop (2 * n) (drop n c.args.out.now) = c.split_at_mut-lengths.ensures.back ∙ ap (drop (2 * n)) c.split_at_mut-states.ensures.back in
    let columns = c.args.columns.now in
    (λ i. c.write_states.ensures i ++ (c.write_summaries.ensures.lengths i ++ c.write_summaries.ensures.summaries i))
    ∙ ap (λ (rest : List ℕ). states_bytes columns ++ (lengths_bytes columns ++ (summaries_bytes columns ++ drop r rest))) back
    ∙ written_columns columns c.args.out.now r
