use Rattle.std.proofs.Common.{◌≡◌, ℕ, ◌<◌, List, Option, Some, length, set, sym, ◌∙◌, ap, subst, arith}
use Rattle.std.specs.Box.{boxed_slice_items}
use Rattle.buffer_pool.specs.declared.held.Held.{Held}
use Rattle.buffer_pool.specs.Slots.{page_at}
use Rattle.buffer_pool.proofs.Stands.{clean_long, dirty_long}
use Rattle.buffer_pool.proofs.Tables.{on_parts, table_after}
use Rattle.buffer_pool.proofs.page_table.PageTable.put.Goals as goal

pub place-requires-clause-clean : goal.place-requires-clause-clean
place-requires-clause-clean c =
    let slots = boxed_slice_items c.self.inside.slots in
    let inside : c.args.frame < length slots = subst (λ (s : List (Option Held)). c.args.frame < length s) (sym c.self.view_is) c.requires.frame in
    omega (arith, inside, clean_long slots c.self.inside.clock c.self.invariant.rings)

pub place-requires-clause-dirty : goal.place-requires-clause-dirty
place-requires-clause-dirty c =
    let slots = boxed_slice_items c.self.inside.slots in
    let inside : c.args.frame < length slots = subst (λ (s : List (Option Held)). c.args.frame < length s) (sym c.self.view_is) c.requires.frame in
    omega (arith, inside, dirty_long slots c.self.inside.clock c.self.invariant.rings)

pub invariant_of-self : goal.invariant_of-self
invariant_of-self c =
    let slots = boxed_slice_items c.self.inside.slots in
    let view = c.self.view_is in
    let inside : c.args.frame < length slots = subst (λ (s : List (Option Held)). c.args.frame < length s) (sym view) c.requires.frame in
    let own : (k : ℕ) → page_at slots k ≡ Some c.args.held.page → k ≡ c.args.frame = subst (λ (s : List (Option Held)). (k : ℕ) → page_at s k ≡ Some c.args.held.page → k ≡ c.args.frame) (sym view) c.requires.apart in
    let placed = c.self.inside.buckets in
    on_parts (set slots c.args.frame (Some c.args.held)) _ _ c.self.inside.mask _ _ _ _
    (c.put.ensures ∙ ap (λ (b : ℕ). record placed { bucket_of = set placed.bucket_of c.args.frame b }) c.bucket.ensures.bucket)
    c.place.ensures c.after_put.ensures
    (table_after slots placed c.self.inside.mask c.self.inside.clock c.self.inside.order c.self.invariant c.args.frame c.args.held inside own)
