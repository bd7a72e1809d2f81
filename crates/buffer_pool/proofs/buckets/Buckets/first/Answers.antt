use Rattle.std.proofs.Common.{◌≡◌, ℕ, ◌+◌, ◌<◌, length, get_or, sym, subst, arith}
use Rattle.std.specs.Box.{boxed_slice_items}
use Rattle.std.proofs.lemmas.List.{get_or_read}
use Rattle.buffer_pool.specs.Linked.{IsNext, Placed}
use Rattle.buffer_pool.proofs.Links.{first_is}
use Rattle.buffer_pool.proofs.buckets.Buckets.first.Goals as goal

pub returns : goal.returns
returns c =
    let frames = c.self.inside.frames in
    let of = boxed_slice_items c.self.inside.bucket_of in
    let below = boxed_slice_items c.self.inside.below in
    let head : frames + c.args.bucket < length of = subst (λ (v : Placed). v.frames + c.args.bucket < length v.bucket_of) (sym c.self.view_is) c.requires in
    let inside : frames + c.args.bucket < length below = omega (arith, head, c.self.invariant.whole) in
    let is : c.index.result.now ≡ get_or below (frames + c.args.bucket) 0 = get_or_read below (frames + c.args.bucket) c.index.result.now inside c.index.ensures 0 in
    subst (λ (v : Placed). IsNext v.bucket_of c.args.bucket v.frames c.index.result.now) c.self.view_is
    (subst (λ (x : ℕ). IsNext of c.args.bucket frames x) (sym is) (first_is frames of below c.args.bucket c.self.invariant head))
