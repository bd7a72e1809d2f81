-- the front of the bytes between two places of a buffer
use Rattle.std.proofs.Common.{◌≡◌, ℕ, ◌+◌, ◌-◌, ◌≤◌, List, length, take, drop, min, sym, ap, ◌∙◌, arith, length-drop}
use Rattle.std.proofs.lemmas.List.Edits.{take-paste}
use Rattle.std.specs.List.{copy_within}
use Rattle.script_run.specs.Script.{clip}
use Rattle.script_run.proofs.Splitting.{clip_take}

pub front_of : (buffer : List ℕ) (start end count : ℕ) → start ≤ 0 → count ≡ min (end - start) 65536 → take count buffer ≡ clip (take (end - start) (drop start buffer))
front_of buffer start end count a e =
    let first : start ≡ 0 = omega arith in
    ap (λ n. take n buffer) e ∙ ap (λ s. take (min (end - start) 65536) (drop s buffer)) (sym first) ∙ clip_take (end - start) (drop start buffer)

pub front_moved : (buffer moved : List ℕ) (start end count : ℕ) → start ≤ end → end ≤ length buffer → count ≡ min (end - start) 65536 → moved ≡ copy_within buffer start (start + count) 0
    → take count moved ≡ clip (take (end - start) (drop start buffer))
front_moved buffer moved start end count a b e is =
    let many : start + count - start ≤ length (drop start buffer) = omega (arith, length-drop start buffer) in
    let size : 0 + (start + count - start) ≡ count = omega arith in
    ap (take count) is
    ∙ ap (λ n. take n (copy_within buffer start (start + count) 0)) (sym size)
    ∙ take-paste buffer 0 (drop start buffer) (start + count - start) (omega arith) many
    ∙ ap (λ n. take n (drop start buffer)) (let s : start + count - start ≡ min (end - start) 65536 = omega arith in s)
    ∙ clip_take (end - start) (drop start buffer)
