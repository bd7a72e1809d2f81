use Rattle.std.proofs.Common.{◌≡◌, ◌+◌, ◌-◌, arith}
use Rattle.index_layout.specs.IndexReading.{slots_of}
use Rattle.index_layout.proofs.PageWrites.{used-next, used-found, used-end}
use Rattle.index_layout.proofs.writers.used_slots.Goals as goal

pub returns-then-size_at-ne0 : goal.returns-then-size_at-ne0
returns-then-size_at-ne0 c =
    let n = c.loop-slot.slot in
    let more : n ≡ n - 1 + 1 = omega arith in
    used-found (slots_of c.args.page.now) n (n - 1) more (omega (arith, c.requires.count)) (omega (arith, c.size_at.ensures.size, c.if-size_at-ne0.true)) c.loop-slot.invariant

pub loop-slot-preserved : goal.loop-slot-preserved
loop-slot-preserved c =
    let n = c.loop-slot.slot in
    let more : n ≡ n - 1 + 1 = omega arith in
    used-next (slots_of c.args.page.now) n (n - 1) more (omega (arith, c.requires.count)) (c.size_at.ensures.free (omega (arith, c.if-size_at-ne0.false))) c.loop-slot.invariant

pub returns : goal.returns
returns c = used-end (slots_of c.args.page.now) c.loop-slot.slot (omega arith) c.loop-slot.invariant
