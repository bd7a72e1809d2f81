-- Bytes written behind others, up to the end.
use Rattle.std.proofs.Common.{◌≡◌, ℕ, ◌+◌, ◌≤◌, List, ◌++◌, length, drop, ap, ◌∙◌}
use Rattle.std.proofs.lemmas.List.{append-nil, drop_all}
use borrow.Rule.Slice.PartMut.{put_mid}
use Rattle.index_layout.specs.Written.{part_next}

-- behind a front of k bytes
pub all_next : (old out front mid : List ℕ) (k m : ℕ) → out ≡ front ++ drop k old → length front ≡ k → length old ≤ k + m → put_mid k m out mid ≡ front ++ mid
all_next old out front mid k m so_far len whole =
    part_next old out front mid k m so_far len ∙ ap (λ (t : List ℕ). (front ++ mid) ++ t) (drop_all (k + m) old whole) ∙ append-nil (front ++ mid)
