use Rattle.std.proofs.Common.{◌-◌, length, drop, sym, ap, ◌∙◌, arith}
use Rattle.std.proofs.lemmas.List.{take_all, length-drop}
use Rattle.index_layout.specs.IndexFaults.{first_of, shifted, meta_fault, zeros_fault}
use Rattle.index_layout.proofs.checking.meta_fault.Goals as goal

pub returns-in_err-at-clause-fault : goal.returns-in_err-at-clause-fault
unfolding meta_fault
returns-in_err-at-clause-fault c =
    let page = c.args.page.now in
    let whole = take_all (length page - 36) (drop 36 page) (omega (arith, length-drop 36 page)) in
    let zeros = sym c.in_default.is ∙ c.zeros_fault.ensures.fault in
    let body = sym c.in_err-at.was ∙ c.zeros_fault-2.ensures.fault ∙ ap zeros_fault whole in
    c.from_residual.ensures ∙ (λ i. first_of (shifted 1 (zeros i)) (shifted 36 (body i)))

pub returns-clause-fault : goal.returns-clause-fault
unfolding meta_fault
returns-clause-fault c =
    let page = c.args.page.now in
    let whole = take_all (length page - 36) (drop 36 page) (omega (arith, length-drop 36 page)) in
    let zeros = sym c.in_default.is ∙ c.zeros_fault.ensures.fault in
    let body = sym c.in_ok-at.was ∙ c.zeros_fault-2.ensures.fault ∙ ap zeros_fault whole in
    λ i. first_of (shifted 1 (zeros i)) (shifted 36 (body i))
