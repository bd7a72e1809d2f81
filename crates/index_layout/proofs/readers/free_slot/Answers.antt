use Rattle.std.proofs.Common.{◌≡◌, ◌∙◌, arith}
use Rattle.index_layout.specs.IndexReading.{slots_of}
use Rattle.index_layout.proofs.Reading.{free_found, free_next, free-end}
use Rattle.index_layout.proofs.readers.free_slot.Goals as goal

pub returns-then-size_at-eq0 : goal.returns-then-size_at-eq0
returns-then-size_at-eq0 c =
    let slots = slots_of c.args.page.now in
    free_found slots c.loop-slot.slot (omega (arith, c.slots-count.ensures)) (c.size_at.ensures.free (omega (arith, c.if-size_at-eq0.true))) c.loop-slot.invariant

pub loop-slot-preserved : goal.loop-slot-preserved
loop-slot-preserved c =
    let slots = slots_of c.args.page.now in
    free_next slots c.loop-slot.slot (omega (arith, c.slots-count.ensures)) (omega (arith, c.size_at.ensures.size, c.if-size_at-eq0.false)) c.loop-slot.invariant

pub returns : goal.returns
returns c =
    let slots = slots_of c.args.page.now in
    let all : c.slots-count.result ≡ c.loop-slot.slot = omega arith in
    all ∙ free-end slots c.loop-slot.slot (omega (arith, c.slots-count.ensures)) c.loop-slot.invariant
