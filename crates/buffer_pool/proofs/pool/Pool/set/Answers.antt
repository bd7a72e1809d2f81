use Rattle.std.proofs.Common.{◌≡◌, ℕ, List, Option, Some, set, sym, ◌∙◌, ap, subst}
use Rattle.std.specs.Box.{boxed_slice_items}
use Rattle.buffer_pool.specs.PoolState.{PoolState}
use Rattle.buffer_pool.specs.SetsPage.{IsAllDirty}
use Rattle.buffer_pool.specs.declared.held.Held.{Held}
use Rattle.buffer_pool.specs.Slots.{page_at}
use Rattle.buffer_pool.specs.Frames.{shown}
use Rattle.buffer_pool.proofs.Sets.{all_dirty, not_all_dirty, on_states, own_of, sets}
use Rattle.buffer_pool.proofs.pool.Pool.set.Goals as goal

pub returns-in_default-clause-refused : goal.returns-in_default-clause-refused
returns-in_default-clause-refused c =
    subst (λ (p : PoolState). IsAllDirty p c.args.page) c.self.view_is
    (all_dirty c.self.inside.table (boxed_slice_items c.self.inside.pages) c.args.page c.self.invariant.0 c.known.ensures.apart c.in_default.ensures.none)

pub put-requires-clause-apart : goal.put-requires-clause-apart
put-requires-clause-apart c =
    subst (λ (t : List (Option Held)). (k : ℕ) → page_at t k ≡ Some c.args.page → k ≡ c.in-Some.frame) (sym c.frame_for.ensures.same)
    (own_of c.self.inside.table c.args.page c.in-Some.frame c.known.ensures.apart c.in-Some.ensures.found)

pub returns-clause-set : goal.returns-clause-set
returns-clause-set c =
    let table = c.self.inside.table in
    let pages = boxed_slice_items c.self.inside.pages in
    let is = c.replace.ensures ∙ c.as_bytes.ensures.bytes in
    on_states (shown table pages) _ c.args.page _ _ _ c.self.view_is
    (λ i. shown ((c.put.ensures ∙ ap (λ (t : List (Option Held)). set t c.in-Some.frame (Some (record { page = c.args.page; log = c.args.log }))) c.frame_for.ensures.same) i) (set pages c.in-Some.frame (is i)))
    (sets table pages c.in-Some.frame c.args.page c.args.log c.args.content.now c.in-Some.ensures.within c.self.invariant.0 c.known.ensures.apart c.in-Some.ensures.found)

pub returns-clause-accepted : goal.returns-clause-accepted
returns-clause-accepted c = λ dirty.
    let table = c.self.inside.table in
    let pages = boxed_slice_items c.self.inside.pages in
    not_all_dirty (shown table pages) _ c.args.page _
    (sets table pages c.in-Some.frame c.args.page c.args.log c.args.content.now c.in-Some.ensures.within c.self.invariant.0 c.known.ensures.apart c.in-Some.ensures.found)
    (subst (λ (p : PoolState). IsAllDirty p c.args.page) (sym c.self.view_is) dirty)
