use Rattle.std.proofs.Common.{◌≡◌, ◌+◌, length}
use Rattle.std.specs.List.{sum_by}
use Rattle.threads_run.proofs.workers.joined.Given as goal

-- what is joined, with what is left, is all
abbrev pub invariant-left : goal.invariant-left
invariant-left g l =
    record {
      parts : l.share.parts + sum_by (λ w. w.share.parts) l.left.items ≡ l.fn.kept.0.parts + sum_by (λ w. w.share.parts) l.fn.workers.items;
      end_parts : l.end.parts + sum_by (λ w. w.end.parts) l.left.items ≡ l.fn.kept.1.parts + sum_by (λ w. w.end.parts) l.fn.workers.items;
      answers : l.share.amount + sum_by (λ w. w.share.amount) l.left.items ≡ l.fn.kept.0.amount + sum_by (λ w. w.share.amount) l.fn.workers.items;
      ends : l.end.amount + sum_by (λ w. w.end.amount) l.left.items ≡ l.fn.kept.1.amount + sum_by (λ w. w.end.amount) l.fn.workers.items;
    }

abbrev pub decreases-left : goal.decreases-left
decreases-left g l = length l.left.items
