use Rattle.std.proofs.Common.{rules, ◌<◌, pos, ap, arith}
use Rattle.opclass_multi.specs.Elements.{count_of}
use Rattle.opclass_multi.specs.Closing.{closed}
use Rattle.opclass_multi.proofs.Closed.{some_gap, closed_wider}
use Rattle.opclass_multi.proofs.reduce.needed_width.Goals as goal

pub halves-init : goal.halves-init
halves-init c =
    let needed : c.args.limit < count_of (closed (pos 0) c.args.elements.now) = omega (arith, ap count_of (closed_wider (pos 0) c.args.elements.now (some_gap c.args.elements.now c.requires.apart)), c.requires.over) in
    record { order = search rules; needed = needed }
