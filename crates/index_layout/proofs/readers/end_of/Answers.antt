use Rattle.std.proofs.Common.{◌≡◌, ℕ, ◌∙◌, sym, ap, arith}
use Rattle.index_layout.specs.IndexReading.{end_from, slots_of}
use Rattle.index_layout.proofs.SlotsRead.{end_first}
use Rattle.index_layout.proofs.readers.end_of.Goals as goal

pub returns : goal.returns
returns c =
    let slots = slots_of c.args.page.now in
    let first : 0 ≡ c.loop-below.below = omega arith in
    sym (end_first slots 8192) ∙ ap (λ (k : ℕ). end_from 8192 k slots) first ∙ c.loop-below.invariant
