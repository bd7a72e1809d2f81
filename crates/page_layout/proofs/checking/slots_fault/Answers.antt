use Rattle.std.proofs.Common.{◌≡◌, ℕ, ◌+◌, ◌-◌, ◌*◌, suc, length, drop, take, sym, ap, ◌∙◌, arith}
use Rattle.std.proofs.lemmas.List.{take_all, length-drop}
use Rattle.page_layout.specs.RowFaults.{shifted}
use Rattle.page_layout.specs.PageFaults.{slots_fault}
use Rattle.page_layout.proofs.Pages.{slots-stop, slots-next, slots-end, next_row}
use Rattle.page_layout.proofs.checking.slots_fault.Goals as goal

pub returns-in-Some-clause-fault : goal.returns-in-Some-clause-fault
returns-in-Some-clause-fault c =
    let ks = c.args.kinds.now in
    let body = c.args.body.now in
    let row = c.args.row in
    let at = c.from.result * row in
    let left = c.args.slots - c.loop-slot.slot in
    let wide : at + row - at ≡ row = omega arith in
    let more : left ≡ suc (c.args.slots - (c.loop-slot.slot + 1)) = omega arith in
    let so_far = ap (λ (s : ℕ). shifted (s * row) (slots_fault ks left (drop (s * row) body))) c.from.ensures ∙ c.loop-slot.invariant in
    slots-stop ks left (c.args.slots - (c.loop-slot.slot + 1)) row at (at + row - at) c.in-Some.fault body (slots_fault ks c.args.slots body) c.requires.row wide more so_far (sym c.in-Some.is ∙ c.slot_fault.ensures.fault)

pub loop-slot-preserved : goal.loop-slot-preserved
loop-slot-preserved c =
    let ks = c.args.kinds.now in
    let body = c.args.body.now in
    let row = c.args.row in
    let at = c.from.result * row in
    let left = c.args.slots - c.loop-slot.slot in
    let wide : at + row - at ≡ row = omega arith in
    let more : left ≡ suc (c.args.slots - (c.loop-slot.slot + 1)) = omega arith in
    let so_far = ap (λ (s : ℕ). shifted (s * row) (slots_fault ks left (drop (s * row) body))) c.from.ensures ∙ c.loop-slot.invariant in
    let on : (c.loop-slot.slot + 1) * row ≡ at + row = next_row c.loop-slot.slot row ∙ ap (λ (s : ℕ). s * row + row) (sym c.from.ensures) in
    slots-next ks left (c.args.slots - (c.loop-slot.slot + 1)) row at (at + row - at) ((c.loop-slot.slot + 1) * row) body (slots_fault ks c.args.slots body) c.requires.row wide more on so_far (sym c.in_default.is ∙ c.slot_fault.ensures.fault)

pub returns-in_err-fault-clause-fault : goal.returns-in_err-fault-clause-fault
returns-in_err-fault-clause-fault c =
    let ks = c.args.kinds.now in
    let body = c.args.body.now in
    let row = c.args.row in
    let at = c.from-2.result * row in
    let left = c.args.slots - c.loop-slot.slot in
    let none : left ≡ 0 = omega arith in
    let same : c.from-2.result ≡ c.loop-slot.slot = omega (arith, c.from-2.ensures) in
    let so_far = ap (λ (s : ℕ). shifted (s * row) (slots_fault ks left (drop (s * row) body))) same ∙ c.loop-slot.invariant in
    let rest = take_all (length body - at) (drop at body) (omega (arith, length-drop at body)) in
    c.from_residual.ensures ∙ ap (shifted at) (sym c.in_err-fault.was ∙ c.zeros_fault.ensures.fault) ∙ slots-end ks left at body (take (length body - at) (drop at body)) (slots_fault ks c.args.slots body) none rest so_far

pub returns-clause-fault : goal.returns-clause-fault
returns-clause-fault c =
    let ks = c.args.kinds.now in
    let body = c.args.body.now in
    let row = c.args.row in
    let at = c.from-2.result * row in
    let left = c.args.slots - c.loop-slot.slot in
    let none : left ≡ 0 = omega arith in
    let same : c.from-2.result ≡ c.loop-slot.slot = omega (arith, c.from-2.ensures) in
    let so_far = ap (λ (s : ℕ). shifted (s * row) (slots_fault ks left (drop (s * row) body))) same ∙ c.loop-slot.invariant in
    let rest = take_all (length body - at) (drop at body) (omega (arith, length-drop at body)) in
    ap (shifted at) (sym c.in_ok-fault.was ∙ c.zeros_fault.ensures.fault) ∙ slots-end ks left at body (take (length body - at) (drop at body)) (slots_fault ks c.args.slots body) none rest so_far
