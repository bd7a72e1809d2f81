use Rattle.std.proofs.Common.{◌≤◌, length, take, arith}
use Rattle.std.proofs.lemmas.List.{length-take-le}
use Rattle.range_tuple.specs.Keeps.{comparisons}
use Rattle.range_tuple.proofs.Gathering.{front_stays, range_behind}
use Rattle.range_tuple.proofs.scan_keys.gathered.Goals as goal

pub returns-clause-keys : goal.returns-clause-keys
returns-clause-keys c =
    let old = c.args.out.now in
    let first = c.args.first in
    let end = c.write_comparisons-end.result in
    let inside : first ≤ length old = omega (arith, c.requires.room, c.told-out) in
    let in_order : first ≤ end = omega (arith, c.write_comparisons-end.ensures.end) in
    record {
      in_order = in_order;
      within = omega (arith, c.requires.room, c.write_comparisons-end.ensures.end, c.write_comparisons-end.auto.out, c.told-out);
      asked = record {
        comparisons_on = range_behind c.write_comparisons-end.new.out (take first old) (comparisons c.args.column c.args.conds.now) first end c.write_comparisons-end.ensures.written (length-take-le first old inside) in_order;
        nulls_asked = c.asks_for_nulls.ensures;
        values_asked = c.asks_for_values.ensures;
      };
    }

pub returns-clause-before : goal.returns-clause-before
returns-clause-before c =
    let old = c.args.out.now in
    let first = c.args.first in
    let inside : first ≤ length old = omega (arith, c.requires.room, c.told-out) in
    let in_order : first ≤ c.write_comparisons-end.result = omega (arith, c.write_comparisons-end.ensures.end) in
    front_stays c.write_comparisons-end.new.out old (comparisons c.args.column c.args.conds.now) first c.write_comparisons-end.result c.write_comparisons-end.ensures.written inside in_order
