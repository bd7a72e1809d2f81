use Rattle.std.proofs.Common.{◌≡◌, ℕ, ◌+◌, ◌-◌, ◌*◌, suc, drop, refl, sym, ap, ◌∙◌, arith}
use Rattle.index_layout.specs.IndexFaults.{entries_fault, shifted}
use Rattle.index_layout.proofs.Entries.{entries-start, entries-stop, entries-next, entries-end}
use Rattle.index_layout.proofs.checking.entries_fault.Goals as goal

pub loop-entry-init : goal.loop-entry-init
loop-entry-init c = entries-start 1020 c.args.body.now

pub returns-in-Some-clause-fault : goal.returns-in-Some-clause-fault
returns-in-Some-clause-fault c =
    let body = c.args.body.now in
    let entry = c.loop-entry.entry in
    let at = c.from-at.result * 8 in
    let left = 1020 - entry in
    let width : at + 8 - (at + 6) ≡ 2 = omega arith in
    let more : left ≡ suc (1020 - (entry + 1)) = omega arith in
    let so_far = ap (λ (e : ℕ). shifted (e * 8) (entries_fault left (drop (e * 8) body))) c.from-at.ensures ∙ c.loop-entry.invariant in
    entries-stop left (1020 - (entry + 1)) at (at + 6) (at + 8 - (at + 6)) c.in-Some.fault body (entries_fault 1020 body) more refl width so_far (sym c.in-Some.is ∙ c.zeros_fault.ensures.fault)

pub loop-entry-preserved : goal.loop-entry-preserved
loop-entry-preserved c =
    let body = c.args.body.now in
    let entry = c.loop-entry.entry in
    let at = c.from-at.result * 8 in
    let left = 1020 - entry in
    let width : at + 8 - (at + 6) ≡ 2 = omega arith in
    let more : left ≡ suc (1020 - (entry + 1)) = omega arith in
    let on : (entry + 1) * 8 ≡ at + 8 = omega (arith, c.from-at.ensures) in
    let so_far = ap (λ (e : ℕ). shifted (e * 8) (entries_fault left (drop (e * 8) body))) c.from-at.ensures ∙ c.loop-entry.invariant in
    entries-next left (1020 - (entry + 1)) at (at + 6) (at + 8 - (at + 6)) ((entry + 1) * 8) body (entries_fault 1020 body) more refl width on so_far (sym c.in_default.is ∙ c.zeros_fault.ensures.fault)

pub returns-clause-fault : goal.returns-clause-fault
returns-clause-fault c =
    let left = 1020 - c.loop-entry.entry in
    let none : left ≡ 0 = omega arith in
    entries-end left (c.loop-entry.entry * 8) c.args.body.now (entries_fault 1020 c.args.body.now) none c.loop-entry.invariant
