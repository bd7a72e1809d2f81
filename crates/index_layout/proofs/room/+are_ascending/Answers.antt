use Rattle.std.proofs.Common.{◌∙◌, ◌-◌, length, drop, arith}
use Rattle.std.proofs.lemmas.List.{take_all, length-drop}
use Rattle.index_layout.proofs.Dropping.{ascend_step}
use Rattle.index_layout.proofs.room.+are_ascending.Goals as goal

pub returns-else-slot-from : goal.returns-else-slot-from
returns-else-slot-from t c =
    let slots = c.args.slots.now in
    let rest = take_all (length slots - 2) (drop 2 slots) (omega (arith, length-drop 2 slots)) in
    c.are_ascending.ensures ∙ ascend_step c.args.least c.args.count c.from.result c.from-in-len2-up.result slots _ c.in-len2-up.len_at_least c.from.ensures c.from-in-len2-up.ensures rest (omega (arith, c.if-slot-least.false)) (omega (arith, c.if-slot-from.false, c.from-in-len2-up-2.ensures))
