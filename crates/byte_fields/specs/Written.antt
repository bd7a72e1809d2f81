-- Bytes that are written one part behind another: what was written so far is a front, and the old bytes stand behind it.
use Rattle.std.proofs.Common.{◌≡◌, ℕ, suc, ◌+◌, ◌<◌, List, [], ◌∷◌, ◌++◌, length, take, drop, set, sym, ap, ◌∙◌, append_assoc, add-one, length-append, length-drop, arith}
use Rattle.std.proofs.lemmas.List.{take_at, drop_at, drop-drop, set_split}
use Rattle.std.specs.Int.{bytes_high_first}
use borrow.Rule.Slice.PartMut.{put_mid}
use Rattle.byte_fields.specs.Fields.{put-part, put_at}

-- a part written behind the front
pub part_next : (old out front mid : List ℕ) (k n : ℕ) → out ≡ front ++ drop k old → length front ≡ k → put_mid k n out mid ≡ (front ++ mid) ++ drop (k + n) old
part_next old out front mid k n so_far len =
    let kept : take k out ≡ front = ap (take k) so_far ∙ take_at front (drop k old) k len in
    let behind : drop k out ≡ drop k old = ap (drop k) so_far ∙ drop_at front (drop k old) k len in
    ap (λ (t : List ℕ). t ++ (mid ++ drop n (drop k out))) kept
    ∙ ap (λ (t : List ℕ). front ++ (mid ++ drop n t)) behind
    ∙ ap (λ (t : List ℕ). front ++ (mid ++ t)) (drop-drop n k old)
    ∙ sym (append_assoc front mid (drop (k + n) old))

-- a number put behind the front
pub put-next : (old out new front : List ℕ) (k n x : ℕ) → out ≡ front ++ drop k old → length front ≡ k → new ≡ put_at out k n x → new ≡ (front ++ bytes_high_first n x) ++ drop (k + n) old
put-next old out new front k n x so_far len put = put ∙ put-part out k n x ∙ part_next old out front (bytes_high_first n x) k n so_far len

-- a byte set behind the front
pub set-next : (old out front : List ℕ) (k x : ℕ) → out ≡ front ++ drop k old → length front ≡ k → k < length old → set out k x ≡ (front ++ x ∷ []) ++ drop (k + 1) old
set-next old out front k x so_far len within =
    let long : k < length out = omega (arith, ap length so_far, length-append front (drop k old), length-drop k old) in
    let one : set out k x ≡ take k out ++ (x ∷ drop (suc k) out) = set_split out k x long in
    let rest : drop (suc k) out ≡ drop 1 (drop k out) = ap (λ (j : ℕ). drop j out) (sym (add-one k)) ∙ sym (drop-drop 1 k out) in
    one ∙ ap (λ (t : List ℕ). take k out ++ (x ∷ t)) rest ∙ part_next old out front (x ∷ []) k 1 so_far len
