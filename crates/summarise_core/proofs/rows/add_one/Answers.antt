use Rattle.std.proofs.Common.{List, sym, subst}
use Rattle.block_model.specs.declared.value.Value.{Value}
use Rattle.range_tuple.specs.SameIndex.{takes_by_parts}
use Rattle.range_tuple.specs.Tuples.{parts_of}
use Rattle.summarise_core.specs.BlockRows.{AreKnown, IsTakenBy}
use Rattle.summarise_core.proofs.rows.add_one.Goals as goal

pub add_row-requires : goal.add_row-requires
add_row-requires c = takes_by_parts c.args.tuple.now.columns c.as_slice-values.result.now (subst (λ (values : List Value). IsTakenBy (parts_of c.args.tuple.now.columns) values) (sym c.as_slice-values.ensures.values) c.requires)

pub returns-clause-known : goal.returns-clause-known
returns-clause-known c = subst (λ (values : List Value). AreKnown values) c.as_slice-values.ensures.values c.values_are_known.ensures
