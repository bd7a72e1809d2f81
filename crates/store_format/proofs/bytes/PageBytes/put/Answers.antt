use Rattle.std.proofs.Common.{◌≡◌, ◌+◌, ◌-◌, ◌≤◌, ◌++◌, ℕ, List, length, take, ap, ◌∙◌, arith}
use Rattle.store_format.proofs.Padding.{part_stands}
use Rattle.store_format.proofs.bytes.PageBytes.put.Goals as goal

pub invariant_of-self : goal.invariant_of-self
invariant_of-self c =
    let len = c.self.inside.len in
    let long : len + length c.args.part.now - len ≡ length c.args.part.now = omega arith in
    let room : length (take len c.self.inside.bytes) + length c.args.part.now ≤ 8192 = omega (arith, ap length c.self.view_is) in
    rw c.copy_from_slice.ensures.after (part_stands 8192 c.self.inside.bytes c.args.part.now len _ c.self.invariant long room).padded

pub returns : goal.returns
returns c =
    let len = c.self.inside.len in
    let long : len + length c.args.part.now - len ≡ length c.args.part.now = omega arith in
    let room : length (take len c.self.inside.bytes) + length c.args.part.now ≤ 8192 = omega (arith, ap length c.self.view_is) in
    rw c.copy_from_slice.ensures.after ((part_stands 8192 c.self.inside.bytes c.args.part.now len _ c.self.invariant long room).front ∙ ap (λ (t : List ℕ). t ++ c.args.part.now) c.self.view_is)
