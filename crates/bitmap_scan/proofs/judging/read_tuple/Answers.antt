use Rattle.std.proofs.Common.{sym, ap, ◌∙◌}
use Rattle.range_tuple.specs.TupleReading.{is_there}
use Rattle.bitmap_scan.proofs.judging.read_tuple.Goals as goal

pub returns-in-Ok-None-clause-tells : goal.returns-in-Ok-None-clause-tells
returns-in-Ok-None-clause-tells g c = λ tells. c.in-Ok-None.ensures.gone c.in-Ok-None.field-0-is tells

pub returns-in-Ok-Some-true-clause-tells : goal.returns-in-Ok-Some-true-clause-tells
returns-in-Ok-Some-true-clause-tells g c = λ tells.
    let told = (rw c.in-Ok-Some-true.field-0-is at c.in-Ok-Some-true.ensures.judged) tells in
    let judged = told.judged in (
      judged.tuple,
      record { bytes = told.bytes; there = told.there; read = record { spelt = judged.spelt; read = ap is_there judged.read } },
      sym judged.answer ∙ c.in-Ok-Some-true.field-0-0-test,
    )

pub returns-in-Ok-Some-false-clause-tells : goal.returns-in-Ok-Some-false-clause-tells
returns-in-Ok-Some-false-clause-tells g c = λ tells.
    let told = (rw c.in-Ok-Some-false.field-0-is at c.in-Ok-Some-false.ensures.judged) tells in
    let judged = told.judged in (
      judged.tuple,
      record { bytes = told.bytes; there = told.there; read = record { spelt = judged.spelt; read = ap is_there judged.read } },
      sym judged.answer ∙ c.in-Ok-Some-false.field-0-0-test,
      λ row included. judged.misses_no_match c.in-Ok-Some-false.field-0-0-test row ((c.a_row_is_included_as_tested.ensures judged.tuple row).0 included),
    )
