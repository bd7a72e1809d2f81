use Rattle.std.proofs.Common.{◌<◌, ◌∙◌, length, get_or, refl, arith}
use Rattle.buffer_pool.proofs.Links.{moved_linked}
use Rattle.buffer_pool.proofs.buckets.relink.Goals as goal

pub returns-clause-linked : goal.returns-clause-linked
returns-clause-linked c =
    let linked = c.requires.linked in
    let inside : c.args.frame < length c.args.bucket_of.now = omega (arith, c.requires.frame, c.requires.bucket) in
    let leaves = c.node_above-leaves in
    let joins = c.node_above-joins in
    moved_linked c.args.frames c.args.bucket_of.now c.args.below.now c.args.frame leaves.result joins.result c.args.bucket linked c.requires.frame c.requires.bucket
    leaves.ensures.above leaves.ensures.within (leaves.ensures.same ∙ linked.heads (get_or c.args.bucket_of.now c.args.frame 0) (linked.small c.args.frame inside)) leaves.ensures.lowest
    joins.ensures.above joins.ensures.within (joins.ensures.same ∙ linked.heads c.args.bucket c.requires.bucket) joins.ensures.lowest
    _ _ refl refl
