use Rattle.std.proofs.Common.{◌≡◌, ◌+◌, ◌-◌, ℕ, List, take, drop, sym, ◌∙◌, ap, arith}
use Rattle.std.proofs.lemmas.List.{drop-drop}
use Rattle.byte_fields.specs.Fields.{field_at, number_of}
use Rattle.log_area.specs.Frames.{length_at}
use Rattle.log_area.specs.Opened.{frame_at}
use Rattle.log_area.proofs.frames.frame_behind.Goals as goal

pub slice_bounds-result-end : goal.slice_bounds-result-end
unfolding length_at
slice_bounds-result-end c =
    let len : c.get_u32-length.result ≡ length_at (drop (c.args.gate + 1) c.args.bytes.now) = c.get_u32-length.ensures.got in
    omega (arith, len, c.requires)

pub returns : goal.returns
unfolding frame_at length_at
returns c =
    let bytes = c.args.bytes.now in
    let gate = c.args.gate in
    let n = number_of (field_at (drop (gate + 1) bytes) 0 4) in
    let len : c.get_u32-length.result ≡ n = c.get_u32-length.ensures.got in
    let six : gate + 1 + 6 ≡ gate + 7 = omega arith in
    let four : gate + 1 + 4 ≡ gate + 5 = omega arith in
    let part : n ≡ gate + 7 + c.get_u32-length.result - (gate + 7) = omega (arith, len) in
    λ i. record {
      changes = (ap (take n) (drop-drop 6 (gate + 1) bytes ∙ ap (λ (k : ℕ). drop k bytes) six) ∙ ap (λ (k : ℕ). take k (drop (gate + 7) bytes)) part) i;
      count = (ap (λ (l : List ℕ). number_of (take 2 l)) (drop-drop 4 (gate + 1) bytes ∙ ap (λ (k : ℕ). drop k bytes) four) ∙ sym c.get_u16-count.ensures.got) i;
    }
