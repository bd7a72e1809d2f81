use Rattle.std.proofs.Common.{◌≡◌, ◌<◌, length, get_or}
use Rattle.buffer_pool.proofs.buckets.node_above.Given as goal

abbrev pub invariant-nodes : goal.invariant-nodes
invariant-nodes l = record {
  within : l.node < length l.bucket_of;
  above : l.frame < l.node;
  same : get_or l.bucket_of l.node 0 ≡ get_or l.bucket_of l.head 0;
}

abbrev pub decreases-nodes : goal.decreases-nodes
decreases-nodes l = l.node
