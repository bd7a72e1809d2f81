use Rattle.std.proofs.Common.{get_or, arith}
use Rattle.index_layout.specs.IndexReading.{slots_of}
use Rattle.index_layout.proofs.Reading.{free_between, free_empty}
use Rattle.index_layout.proofs.readers.free_bytes.Goals as goal

pub returns-then-count-eq0 : goal.returns-then-count-eq0
returns-then-count-eq0 c = free_empty (slots_of c.args.page.now) (omega (arith, c.slots-count.ensures, c.if-count-eq0.true))

pub overflow_sub-result : goal.overflow_sub-result
overflow_sub-result c =
    let page = c.args.page.now in
    let has = c.page_known.ensures.has (omega (arith, c.slots-count.ensures, c.if-count-eq0.false)) in
    let b = free_between (get_or page 0 0) (slots_of page) page c.slots-count.result has c.slots-count.ensures in
    omega (arith, b.0, c.end_of-begin.ensures, c.from.ensures)

pub overflow_cast-result : goal.overflow_cast-result
overflow_cast-result c =
    let page = c.args.page.now in
    let has = c.page_known.ensures.has (omega (arith, c.slots-count.ensures, c.if-count-eq0.false)) in
    let b = free_between (get_or page 0 0) (slots_of page) page c.slots-count.result has c.slots-count.ensures in
    omega (arith, b.1, c.end_of-begin.ensures, c.from.ensures)

pub returns : goal.returns
returns c =
    let page = c.args.page.now in
    let has = c.page_known.ensures.has (omega (arith, c.slots-count.ensures, c.if-count-eq0.false)) in
    let b = free_between (get_or page 0 0) (slots_of page) page c.slots-count.result has c.slots-count.ensures in
    omega (arith, b.1, c.end_of-begin.ensures, c.from.ensures)
