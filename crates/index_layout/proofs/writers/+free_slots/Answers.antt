use Rattle.std.proofs.Common.{rules, ◌≡◌, ℕ, List, ◌+◌, ◌-◌, ◌*◌, ◌∙◌, length, drop, get_or, set, sym, subst, ap, arith}
use Rattle.std.specs.Prelude.{None}
use Rattle.std.proofs.lemmas.List.{take_all, length-drop, length-set}
use Rattle.index_layout.specs.IndexPages.{HasSlots, Slot}
use Rattle.index_layout.specs.IndexReading.{slots_of}
use Rattle.index_layout.specs.IndexWrites.{are_ascending, dropped}
use Rattle.index_layout.proofs.SlotsRead.{one_list}
use Rattle.index_layout.proofs.Reading.{has_read, regular_front}
use Rattle.index_layout.proofs.Dropping.{ascend_first, dropped-rest, dropped-short}
use Rattle.index_layout.proofs.writers.+free_slots.Goals as goal

pub set_slot-requires-clause-slot : goal.set_slot-requires-clause-slot
set_slot-requires-clause-slot t c =
    let first = ascend_first c.args.least c.args.count c.args.list.now c.in-len2-up.len_at_least c.requires.ascending in
    omega (arith, first.0, c.from.ensures, c.from-in-len2-up.ensures)

pub free_slots-requires : goal.free_slots-requires
free_slots-requires t c =
    let list = c.args.list.now in
    let page = c.args.page.now in
    let next = c.set_slot.new.page in
    let kind = get_or page 0 0 in
    let n = c.from.result * 256 + c.from-in-len2-up.result in
    let rest = take_all (length list - 2) (drop 2 list) (omega (arith, length-drop 2 list)) in
    let slot : c.from-in-len2-up-2.result ≡ get_or list 0 0 * 256 + get_or list 1 0 = c.from-in-len2-up-2.ensures ∙ (λ i. c.from.ensures i * 256 + c.from-in-len2-up.ensures i) in
    let first = ascend_first c.args.least c.args.count list c.in-len2-up.len_at_least c.requires.ascending in
    let counted : c.args.count ≡ length (slots_of next) = c.requires.count ∙ sym (length-set (slots_of page) n None) ∙ ap length (one_list kind (set (slots_of page) n None) next c.set_slot.ensures.set) in
    (search rules, (has_read kind (set (slots_of page) n None) next c.set_slot.ensures.set, (omega (arith, c.requires.whole), (counted, (λ i. are_ascending (slot i + 1) c.args.count (rest i)) ∙ first.1))))

pub returns-in_default : goal.returns-in_default
returns-in_default t c =
    let page = c.args.page.now in
    record { freed = subst (λ (s : List Slot). HasSlots (get_or page 0 0) s page) (dropped-short (slots_of page) c.args.list.now (omega (arith, c.in_default.len_below))) c.requires.page }

pub returns-in-len2-up : goal.returns-in-len2-up
returns-in-len2-up t c =
    let list = c.args.list.now in
    let page = c.args.page.now in
    let next = c.set_slot.new.page in
    let last = c.free_slots.new.page in
    let kind = get_or page 0 0 in
    let slots = slots_of page in
    let n = c.from.result * 256 + c.from-in-len2-up.result in
    let rest = take_all (length list - 2) (drop 2 list) (omega (arith, length-drop 2 list)) in
    let same =
    (λ i. dropped (sym (one_list kind (set slots n None) next c.set_slot.ensures.set) i) (rest i))
    ∙ (λ i. dropped (set slots (c.from.ensures i * 256 + c.from-in-len2-up.ensures i) None) (drop 2 list))
    ∙ dropped-rest slots list c.in-len2-up.len_at_least in
    let own = subst (λ (s : List Slot). HasSlots (get_or next 0 0) s last) same c.free_slots.ensures.freed in
    record { freed = subst (λ (k : ℕ). HasSlots k (dropped slots list) last) (regular_front kind (set slots n None) next c.set_slot.ensures.set) own }
