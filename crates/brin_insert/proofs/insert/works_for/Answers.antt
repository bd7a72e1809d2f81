use Rattle.std.proofs.Common.{◌<◌, ◌≤◌, length, ap, ◌∙◌, arith}
use Rattle.brin_insert.specs.InsertHands.{InsertHand}
use Rattle.brin_insert.proofs.Works.{all_numbers, joins, stays_out, tuples_join}
use Rattle.brin_insert.proofs.insert.works_for.Goals as goal
use Rattle.brin_insert.proofs.insert.works_for.Goals.{then-declared_index-table+in_ok-work+in_ok-push, else-declared_index-table}

pub indexes-preserved : goal.indexes-preserved
indexes-preserved c =
    let layout = c.args.layout.now in
    let i = c.indexes.index in
    let below : i < length layout.schema.indexes = omega (arith, c.index_count-index-end.ensures, c.indexes-test.true) in
    elim c.if-declared_index-table.branch [
      | then-declared_index-table+in_ok-work+in_ok-push w ↦
          let work = w.in_ok-work.work in
          let at = ap (λ (h : InsertHand). h.index) w.in_ok-work.ensures.begins in
          rw w.works-is
          (record {
            numbers = joins layout c.args.table i c.declared_index.result.now below c.declared_index.ensures.is c.indexes.works.items c.indexes.invariant.numbers w.if-declared_index-table.true w.push.new.self.items work at w.in_ok-push.ensures.items;
            tuples = tuples_join layout i c.indexes.works.items w.push.new.self.items work at w.in_ok-work.ensures.of_index w.in_ok-push.ensures.items c.indexes.invariant.tuples;
          })
      | else-declared_index-table w ↦
          rw w.works-is
          (record {
            numbers = stays_out layout c.args.table i c.declared_index.result.now below c.declared_index.ensures.is c.indexes.works.items c.indexes.invariant.numbers w.if-declared_index-table.false;
            tuples = c.indexes.invariant.tuples;
          })
    ]

pub returns-clause-numbers : goal.returns-clause-numbers
returns-clause-numbers c =
    let layout = c.args.layout.now in
    let all : length layout.schema.indexes ≤ c.indexes.index = omega (arith, c.index_count-index-end.ensures, c.indexes-test.false) in
    c.indexes.invariant.numbers ∙ all_numbers layout c.args.table c.indexes.index all
