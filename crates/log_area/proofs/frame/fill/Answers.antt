use Rattle.std.proofs.Common.{◌≡◌, List, ℕ, take, drop, ◌+◌, ◌-◌, ◌≤◌, ◌++◌, length, refl, ◌∙◌, ap, arith, set, length-append, length-drop}
use borrow.Rule.Slice.PartMut.{put_mid}
use Rattle.log_area.specs.Frames.{frame_bytes, numbers_of}
use Rattle.log_area.proofs.Pieces.{filled}
use Rattle.log_area.proofs.frame.fill.Goals as goal

pub returns : goal.returns
unfolding frame_bytes
returns c =
    let ch = c.args.changes.now in
    let buf = c.args.buffer.now in
    let y = c.put_numbers.new.bytes in
    let front = numbers_of (length ch) c.args.count in
    let rest = drop 2 (drop 4 buf) in
    let is : y ≡ front ++ rest = c.put_numbers.ensures in
    let long : length y ≡ 6 + length rest = ap (length {A = ℕ}) is ∙ length-append front rest in
    let room : length ch + 7 ≤ length y = omega (arith, long, c.requires.room, length-drop 2 (drop 4 buf), length-drop 4 buf) in
    let d : c.copy_from_slice.new.self ≡ ch = c.copy_from_slice.ensures.after in
    ap (λ (x : List ℕ). take (length ch + 7) (set (put_mid 6 (6 + length ch - 6) y x) (6 + length ch) 0)) d
    ∙ filled y front rest ch is refl room
