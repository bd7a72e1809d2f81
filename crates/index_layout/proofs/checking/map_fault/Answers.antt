use Rattle.std.proofs.Common.{◌-◌, length, drop, sym, ap, ◌∙◌, arith}
use Rattle.std.proofs.lemmas.List.{take_all, length-drop}
use Rattle.index_layout.specs.IndexFaults.{first_of, shifted, map_fault, entries_fault}
use Rattle.index_layout.proofs.checking.map_fault.Goals as goal

pub returns-in_err-at-clause-fault : goal.returns-in_err-at-clause-fault
unfolding map_fault
returns-in_err-at-clause-fault c =
    let page = c.args.page.now in
    let whole = take_all (length page - 32) (drop 32 page) (omega (arith, length-drop 32 page)) in
    let zeros = sym c.in_default.is ∙ c.zeros_fault.ensures.fault in
    let body = sym c.in_err-at.was ∙ c.entries_fault.ensures.fault ∙ ap (entries_fault 1020) whole in
    c.from_residual.ensures ∙ (λ i. first_of (shifted 1 (zeros i)) (shifted 32 (body i)))

pub returns-clause-fault : goal.returns-clause-fault
unfolding map_fault
returns-clause-fault c =
    let page = c.args.page.now in
    let whole = take_all (length page - 32) (drop 32 page) (omega (arith, length-drop 32 page)) in
    let zeros = sym c.in_default.is ∙ c.zeros_fault.ensures.fault in
    let body = sym c.in_ok-at.was ∙ c.entries_fault.ensures.fault ∙ ap (entries_fault 1020) whole in
    λ i. first_of (shifted 1 (zeros i)) (shifted 32 (body i))
