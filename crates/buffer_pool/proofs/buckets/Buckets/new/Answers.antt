use Rattle.std.proofs.Common.{◌≡◌, ℕ, [], ◌∷◌, ◌++◌, ◌∙◌, subst, arith}
use Rattle.buffer_pool.specs.Linked.{IsLinked}
use Rattle.buffer_pool.proofs.Filled.{AreHeadsFilled, filled_linked, on_lists}
use Rattle.buffer_pool.proofs.buckets.Buckets.new.Goals as goal

pub invariant_of-result : goal.invariant_of-result
invariant_of-result c =
    let of = c.heads.bucket_of.items in
    let below = c.heads.below.items in
    let all : c.heads.bucket ≡ c.args.last = omega (arith, c.heads-test.false, c.heads.auto.bucket-end) in
    let filled : AreHeadsFilled c.args.frames c.args.last c.args.last of below = subst (λ (n : ℕ). AreHeadsFilled c.args.frames n c.args.last of below) all c.heads.invariant in
    on_lists (IsLinked c.args.frames) (of ++ c.args.last ∷ []) _ (below ++ c.args.frames ∷ []) _
    (c.into_boxed_slice.ensures.items ∙ c.in_ok-push-5.ensures.items) (c.into_boxed_slice-2.ensures.items ∙ c.in_ok-push-6.ensures.items)
    (filled_linked c.args.frames c.args.last of below filled)
