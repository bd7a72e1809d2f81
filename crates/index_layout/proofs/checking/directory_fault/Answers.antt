use Rattle.std.proofs.Common.{◌≡◌, ℕ, ◌+◌, ◌-◌, ◌*◌, suc, eqb, drop, sym, ap, ◌∙◌, arith}
use Rattle.index_layout.specs.IndexFaults.{directory_fault, shifted}
use Rattle.index_layout.proofs.Walks.{last_slot, directory-stop, directory-next, directory-end}
use Rattle.index_layout.proofs.checking.directory_fault.Goals as goal

pub returns-in-Some-clause-fault : goal.returns-in-Some-clause-fault
returns-in-Some-clause-fault c =
    let page = c.args.page.now in
    let count = c.args.count in
    let slot = c.loop-slot.slot in
    let floor = 32 + c.from.result * 4 in
    let at = 32 + c.from-in-loop-slot.result * 4 in
    let left = count - slot in
    let n = count - (slot + 1) in
    let more : left ≡ suc n = omega arith in
    let so_far =
    ap (λ (s : ℕ). shifted (32 + s * 4) (directory_fault floor c.loop-slot.end left (drop (32 + s * 4) page))) c.from-in-loop-slot.ensures
    ∙ c.loop-slot.invariant.so_far
    ∙ ap (λ (f : ℕ). shifted 32 (directory_fault (32 + f * 4) 8192 count (drop 32 page))) c.from.ensures in
    directory-stop floor c.loop-slot.end left n at c.from-offset.result c.from-size.result c.in-Some.fault (eqb (slot + 1) count) page (shifted 32 (directory_fault (32 + count * 4) 8192 count (drop 32 page))) more (last_slot slot count (omega arith))
    (c.from-offset.ensures ∙ c.get_u16.ensures.got) (c.from-size.ensures ∙ c.get_u16-in-loop-slot.ensures.got) so_far (sym c.in-Some.is ∙ c.slot_fault.ensures.fault)

pub loop-slot-preserved : goal.loop-slot-preserved
loop-slot-preserved c =
    let page = c.args.page.now in
    let count = c.args.count in
    let slot = c.loop-slot.slot in
    let floor = 32 + c.from.result * 4 in
    let at = 32 + c.from-in-loop-slot.result * 4 in
    let next = 32 + (slot + 1) * 4 in
    let left = count - slot in
    let n = count - (slot + 1) in
    let more : left ≡ suc n = omega arith in
    let on : next ≡ at + 4 = omega (arith, c.from-in-loop-slot.ensures) in
    let room = c.slot_fault.ensures.room c.in_default.is c.loop-slot.invariant.room in
    let so_far =
    ap (λ (s : ℕ). shifted (32 + s * 4) (directory_fault floor c.loop-slot.end left (drop (32 + s * 4) page))) c.from-in-loop-slot.ensures
    ∙ c.loop-slot.invariant.so_far in
    record {
      floor = c.loop-slot.invariant.floor;
      room = omega (arith, room);
      within = omega (arith, c.loop-slot.invariant.within);
      so_far = directory-next floor c.loop-slot.end left n at next c.from-offset.result c.from-size.result (eqb (slot + 1) count) page (shifted 32 (directory_fault floor 8192 count (drop 32 page))) more (last_slot slot count (omega arith)) (c.from-offset.ensures ∙ c.get_u16.ensures.got) (c.from-size.ensures ∙ c.get_u16-in-loop-slot.ensures.got) on so_far (sym c.in_default.is ∙ c.slot_fault.ensures.fault);
    }

pub returns-in_err-fault-clause-fault : goal.returns-in_err-fault-clause-fault
returns-in_err-fault-clause-fault c =
    let page = c.args.page.now in
    let count = c.args.count in
    let floor = 32 + c.from.result * 4 in
    let left = count - c.loop-slot.slot in
    let none : left ≡ 0 = omega arith in
    let here : floor ≡ 32 + c.loop-slot.slot * 4 = omega (arith, c.from.ensures) in
    let all = ap (λ (f : ℕ). shifted 32 (directory_fault (32 + f * 4) 8192 count (drop 32 page))) c.from.ensures in
    c.from_residual.ensures ∙ directory-end floor c.loop-slot.end left (32 + c.loop-slot.slot * 4) page (shifted 32 (directory_fault floor 8192 count (drop 32 page))) _ none here (sym c.in_err-fault.was ∙ c.zeros_fault.ensures.fault) c.loop-slot.invariant.so_far ∙ all

pub returns-clause-fault : goal.returns-clause-fault
returns-clause-fault c =
    let page = c.args.page.now in
    let count = c.args.count in
    let floor = 32 + c.from.result * 4 in
    let left = count - c.loop-slot.slot in
    let none : left ≡ 0 = omega arith in
    let here : floor ≡ 32 + c.loop-slot.slot * 4 = omega (arith, c.from.ensures) in
    let all = ap (λ (f : ℕ). shifted 32 (directory_fault (32 + f * 4) 8192 count (drop 32 page))) c.from.ensures in
    directory-end floor c.loop-slot.end left (32 + c.loop-slot.slot * 4) page (shifted 32 (directory_fault floor 8192 count (drop 32 page))) _ none here (sym c.in_ok-fault.was ∙ c.zeros_fault.ensures.fault) c.loop-slot.invariant.so_far ∙ all
