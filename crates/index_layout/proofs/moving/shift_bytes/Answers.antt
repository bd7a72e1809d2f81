use Rattle.std.proofs.Common.{◌≡◌, ℕ, ◌-◌, drop, ap, ◌∙◌, arith}
use Rattle.std.proofs.Math.Seq.{paste}
use Rattle.std.proofs.lemmas.List.Edits.{paste_none}
use Rattle.index_layout.proofs.moving.shift_bytes.Goals as goal

pub returns-then-low-start : goal.returns-then-low-start
returns-then-low-start c =
    let page = c.args.page.now in
    let none : 0 ≡ c.args.start - c.args.low = omega (arith, c.if-low-start.true) in
    record { after = paste_none page c.args.to (drop c.args.low page) ∙ ap (λ (n : ℕ). paste page c.args.to (drop c.args.low page) n) none }
