use Rattle.std.proofs.Common.{rules, ◌≡◌, ◌+◌, ◌-◌, ◌*◌, ◌∙◌, length, drop, get_or, set, subst, arith}
use Rattle.std.specs.Prelude.{None}
use Rattle.std.proofs.lemmas.List.{take_all, length-drop}
use Rattle.page_layout.specs.PageContents.{HasSlots}
use Rattle.page_layout.specs.FreeSlots.{slot_count}
use Rattle.page_redo.specs.Redo.{are_ascending, dropped}
use Rattle.page_redo.proofs.Slots.{ascend_rest, dropped-rest}
use Rattle.page_redo.proofs.redoing.+drop_rows.Goals as goal

pub drop_rows-requires : goal.drop_rows-requires
drop_rows-requires t c =
    let slots = c.args.slots.now in
    let rest = take_all (length slots - 2) (drop 2 slots) (omega (arith, length-drop 2 slots)) in
    let slot : c.from-in-len2-up-2.result ≡ get_or slots 0 0 * 256 + get_or slots 1 0 = c.from-in-len2-up-2.ensures ∙ (λ i. c.from.ensures i * 256 + c.from-in-len2-up.ensures i) in
    (search rules, (c.requires.form, (λ i. are_ascending (slot i + 1) (slot_count c.args.form.now) (rest i)) ∙ ascend_rest c.args.least (slot_count c.args.form.now) slots c.in-len2-up.len_at_least c.requires.ascending))

pub returns-in-len2-up : goal.returns-in-len2-up
returns-in-len2-up t c = λ list has.
    let slots = c.args.slots.now in
    let rest = take_all (length slots - 2) (drop 2 slots) (omega (arith, length-drop 2 slots)) in
    let same = (λ i. dropped (set list (c.from.ensures i * 256 + c.from-in-len2-up.ensures i) None) (rest i)) ∙ dropped-rest list slots c.in-len2-up.len_at_least in
    subst (HasSlots c.args.form.now c.drop_rows.new.page) same (c.drop_rows.ensures (set list (c.from.result * 256 + c.from-in-len2-up.result) None) (c.clear_slot.ensures.freed list has))
