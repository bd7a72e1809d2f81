use Rattle.std.proofs.Common.{◌-◌, length, drop, sym, ap, ◌∙◌, arith}
use Rattle.std.proofs.lemmas.List.{take_all, length-drop}
use Rattle.page_layout.specs.RowFaults.{first_of, shifted}
use Rattle.page_layout.specs.PageFaults.{body_fault, started_fault}
use Rattle.page_layout.proofs.checking.started_fault.Goals as goal

pub returns-in_err-at-clause-fault : goal.returns-in_err-at-clause-fault
unfolding started_fault
returns-in_err-at-clause-fault c =
    let page = c.args.page.now in
    let whole = take_all (length page - 32) (drop 32 page) (omega (arith, length-drop 32 page)) in
    let zeros = sym c.in_default.is ∙ c.zeros_fault.ensures.fault in
    let body = sym c.in_err-at.was ∙ c.body_fault.ensures.fault ∙ ap (body_fault c.args.form.now) whole in
    c.from_residual.ensures ∙ (λ i. first_of (shifted 1 (zeros i)) (shifted 32 (body i)))

pub returns-clause-fault : goal.returns-clause-fault
unfolding started_fault
returns-clause-fault c =
    let page = c.args.page.now in
    let whole = take_all (length page - 32) (drop 32 page) (omega (arith, length-drop 32 page)) in
    let zeros = sym c.in_default.is ∙ c.zeros_fault.ensures.fault in
    let body = sym c.in_ok-at.was ∙ c.body_fault.ensures.fault ∙ ap (body_fault c.args.form.now) whole in
    λ i. first_of (shifted 1 (zeros i)) (shifted 32 (body i))
