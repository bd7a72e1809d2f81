-- bytes that are put behind what stands
use Rattle.std.specs.Prelude.{◌≡◌, ℕ, List, ◌++◌, length, take, drop}
use Rattle.std.proofs.Common.{sym, ap, ◌∙◌, append_assoc}
use Rattle.std.proofs.lemmas.List.{take-append-drop}
use Rattle.std.proofs.Math.Seq.{take-append_seam}

-- what stood before is still there, in front
pub record IsLonger (before after : List ℕ) : Type 0 where
  pub front : take (length before) after ≡ before

-- what stood before what stood is in front too
pub longer_before : (first before after : List ℕ) → IsLonger first before → IsLonger before after → IsLonger first after
longer_before first before after a b =
    let more : List ℕ = drop (length first) before in
    let rest : List ℕ = drop (length before) after in
    let whole : before ≡ first ++ more = sym (take-append-drop (length first) before) ∙ ap (λ (l : List ℕ). l ++ more) a.front in
    let behind : after ≡ first ++ (more ++ rest) =
    sym (take-append-drop (length before) after) ∙ ap (λ (l : List ℕ). l ++ rest) (b.front ∙ whole) ∙ append_assoc first more rest in
    record { front = ap (take (length first)) behind ∙ take-append_seam first (more ++ rest) }
