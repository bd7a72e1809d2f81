use Rattle.std.proofs.Common.{◌≡◌, ℕ, List, ◌+◌, ◌-◌, ◌++◌, ◌≤◌, length, refl, ap, ◌∙◌, arith}
use borrow.Rule.Slice.PartMut.{put_mid}
use Rattle.index_layout.proofs.Moves.{tuple_placed}
use Rattle.index_layout.proofs.moving.place_tuple.Goals as goal

pub returns : goal.returns
returns c = record {
  placed = λ front others old behind zeros is at place ends room.
      let tuple = c.args.tuple.now in
      let to = c.args.low + (c.args.end - c.args.start) - length tuple in
      let from = c.args.end - length tuple in
      let k : c.args.end - from ≡ length tuple = omega arith in
      let after : length front ≤ to = omega arith in
      ap (λ (l : List ℕ). put_mid from (c.args.end - from) c.move_bytes.new.page l) c.copy_from_slice.ensures.after
      ∙ tuple_placed c.args.page.now c.move_bytes.new.page front others old behind tuple zeros c.args.low c.args.start c.args.end to from (c.args.end - from) is at place ends room refl refl k
      (c.move_bytes.ensures.moved front (others ++ (old ++ behind)) zeros is at after);
}
