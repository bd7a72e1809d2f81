use Rattle.std.proofs.Common.{◌≡◌, ◌<◌, ◌∙◌, List, length, ap, arith}
use Rattle.std.specs.Prelude.{None}
use Rattle.std.proofs.lemmas.List.{take_all}
use Rattle.std.proofs.lemmas.List.Sums.{count_by_more_yes, count_by_more_no}
use Rattle.page_layout.specs.PageContents.{Slot, HasSlots}
use Rattle.page_layout.specs.FreeSlots.{is_free, free_count}
use Rattle.page_layout.specs.SlotLaws.{heap_front, length-has, length-slots_on, free_read, used_read}
use Rattle.page_layout.specs.SlotsOnPage.{slots_on}
use Rattle.page_layout.proofs.SlotsRead.{none_free, heap_has, free_here}
use Rattle.page_layout.proofs.free.free_slots.Goals as goal
use Rattle.page_layout.proofs.free.free_slots.Goals.{in-None, in-Some}

pub returns-then-kind_of-ne-HEAP-clause-contents : goal.returns-then-kind_of-ne-HEAP-clause-contents
returns-then-kind_of-ne-HEAP-clause-contents c = λ slots has.
    absurd (omega (arith, heap_front c.args.form c.args.page.now slots has, c.kind_of.ensures, c.if-kind_of-ne-HEAP.true))

pub returns-then-kind_of-ne-HEAP-clause-read : goal.returns-then-kind_of-ne-HEAP-clause-read
returns-then-kind_of-ne-HEAP-clause-read c = none_free c.args.form c.args.page.now c.kind_of.result c.kind_of.ensures (λ two. absurd (omega (arith, two, c.if-kind_of-ne-HEAP.true))) c.requires.page

pub loop-slot-preserved : goal.loop-slot-preserved
loop-slot-preserved c =
    let form = c.args.form in
    let page = c.args.page.now in
    let n = c.loop-slot.slot in
    let below : (slots : List Slot) → HasSlots form page slots → n < length slots = λ slots has. omega (arith, length-has form page slots has, c.slot_count-slot-end.ensures) in
    elim c.match-row_at.branch [
      | in-None w ↦ record {
        few = omega (arith, w.free-is);
        counted = λ slots has.
            let more = count_by_more_yes is_free slots n None (below slots has) (free_read form page slots n has (w.in-None.ensures.contents slots has)) in
            omega (arith, w.free-is, c.loop-slot.invariant.counted slots has, more);
      }
      | in-Some w ↦ record {
        few = omega (arith, w.free-is);
        counted = λ slots has.
            let same = count_by_more_no is_free slots n None (below slots has) (used_read form page slots n _ has (w.in-Some.ensures.contents slots has)) in
            omega (arith, w.free-is, c.loop-slot.invariant.counted slots has, same);
      }
    ]

pub returns-clause-contents : goal.returns-clause-contents
returns-clause-contents c = λ slots has.
    let all = take_all c.loop-slot.slot slots (omega (arith, length-has c.args.form c.args.page.now slots has, c.slot_count-slot-end.ensures)) in
    c.loop-slot.invariant.counted slots has ∙ ap free_count all

pub returns-clause-read : goal.returns-clause-read
returns-clause-read c =
    let form = c.args.form in
    let page = c.args.page.now in
    let kind = c.kind_of.result in
    let two : kind ≡ 2 = omega (arith, c.if-kind_of-ne-HEAP.false) in
    let has = heap_has form page kind c.kind_of.ensures two c.requires.page in
    let all = take_all c.loop-slot.slot (slots_on form page) (omega (arith, length-slots_on form page, c.slot_count-slot-end.ensures)) in
    free_here form page kind c.loop-slot.free c.kind_of.ensures two (c.loop-slot.invariant.counted (slots_on form page) has ∙ ap free_count all)
