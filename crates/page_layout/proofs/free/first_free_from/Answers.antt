use Rattle.std.proofs.Common.{◌≡◌, ◌≤◌, ℕ, false, get_or, below_more, arith}
use Rattle.std.specs.Prelude.{None}
use Rattle.page_layout.specs.FreeSlots.{is_free}
use Rattle.page_layout.specs.SlotLaws.{heap_front, length-has, free_read, used_read, found_from, none_from}
use Rattle.page_layout.proofs.free.first_free_from.Goals as goal

pub returns-then-kind_of-ne-HEAP-clause-contents : goal.returns-then-kind_of-ne-HEAP-clause-contents
returns-then-kind_of-ne-HEAP-clause-contents c = λ slots has.
    absurd (omega (arith, heap_front c.args.form c.args.page.now slots has, c.kind_of.ensures, c.if-kind_of-ne-HEAP.true))

pub returns-in-None-clause-contents : goal.returns-in-None-clause-contents
returns-in-None-clause-contents c = λ slots has.
    let form = c.args.form in
    let page = c.args.page.now in
    found_from c.args.from c.loop-slot.slot slots (omega arith) (omega (arith, length-has form page slots has, c.slot_count-slot-end.ensures)) (c.loop-slot.invariant slots has) (free_read form page slots c.loop-slot.slot has (c.in-None.ensures.contents slots has))

pub loop-slot-preserved : goal.loop-slot-preserved
loop-slot-preserved c = λ slots has k after below.
    below_more (λ (j : ℕ). c.args.from ≤ j → is_free (get_or slots j None) ≡ false) _ (λ j low later. c.loop-slot.invariant slots has j later low)
    (λ later. used_read c.args.form c.args.page.now slots c.loop-slot.slot _ has (c.in-Some.ensures.contents slots has)) k below after

pub returns-clause-contents : goal.returns-clause-contents
returns-clause-contents c = λ slots has.
    none_from c.args.from c.loop-slot.slot slots (omega (arith, length-has c.args.form c.args.page.now slots has, c.slot_count-slot-end.ensures)) (c.loop-slot.invariant slots has)
