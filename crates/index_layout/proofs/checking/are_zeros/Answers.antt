use Rattle.std.proofs.Common.{◌≡◌, ◌≤◌, ℕ, length, List, take, replicate, sym, ap, ◌∙◌, arith}
use Rattle.std.proofs.lemmas.List.{take-replicate}
use Rattle.std.specs.Cmp.Lexicographic.{same_text}
use Rattle.index_layout.proofs.Faults.{zeros_pass}
use Rattle.index_layout.specs.IndexFaults.{zeros_fault}
use Rattle.index_layout.proofs.checking.are_zeros.Goals as goal

pub returns : goal.returns
returns c = λ is.
    let bytes = c.args.bytes.now in
    let zeros : List ℕ = replicate 8192 0 in
    let same : bytes ≡ take (length bytes) zeros = same_text bytes (take (length bytes) zeros) (sym is ∙ c.eq.ensures) in
    let small : length bytes ≤ 8192 = omega (arith, c.if-bytes-gt-PAGE_SIZE.false) in
    ap zeros_fault (same ∙ take-replicate (length bytes) 8192 0 small) ∙ zeros_pass (length bytes)
