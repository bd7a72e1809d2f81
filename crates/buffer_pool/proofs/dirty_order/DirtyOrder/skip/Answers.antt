use Rattle.std.proofs.Common.{◌≡◌, ◌≢◌, ℕ, ◌<◌, ◌≤◌, List, Option, Some, length, get_or, sym, ◌∙◌, ap, subst}
use Rattle.std.specs.Box.{boxed_slice_items}
use Rattle.buffer_pool.specs.declared.held.Held.{Held}
use Rattle.buffer_pool.specs.InOrder.{IsInOrder, Walk}
use Rattle.buffer_pool.specs.LowestDirty.{IsLowestDirty, dirty_page}
use Rattle.buffer_pool.specs.Slots.{slot_at}
use Rattle.buffer_pool.proofs.Orders.{in_order, lowest_at, lowest_none, skipped}
use Rattle.buffer_pool.proofs.dirty_order.DirtyOrder.skip.Goals as goal

-- a walk over the same pages
module _ (slots : List (Option Held)) (from : ℕ) (walk : Walk) (pages : List ℕ) (at : ℕ) (same : pages ≡ walk.pages) (order : IsInOrder slots walk) (is : walk.from ≡ Some from)
    (passed : (s k : ℕ) → walk.next ≤ s → s < at → dirty_page from (slot_at slots k) ≢ Some (get_or pages s 0)) where
  over : (s k : ℕ) → walk.next ≤ s → s < at → dirty_page from (slot_at slots k) ≢ Some (get_or walk.pages s 0)
  over = subst (λ (ps : List ℕ). (s k : ℕ) → walk.next ≤ s → s < at → dirty_page from (slot_at slots k) ≢ Some (get_or ps s 0)) same passed

  walked : IsInOrder slots (record walk { next = at })
  walked = in_order slots from (record walk { next = at }) is (skipped slots from walk (order from is) at over)

  found : at < walk.count → (k : ℕ) × (dirty_page from (slot_at slots k) ≡ Some (get_or pages at 0)) → IsLowestDirty slots from (length slots) (Some (get_or pages at 0))
  found less one =
      subst (λ (ps : List ℕ). IsLowestDirty slots from (length slots) (Some (get_or ps at 0))) (sym same)
      (lowest_at slots from walk (order from is) at over (length slots) less (one.0, one.1 ∙ ap (λ (ps : List ℕ). Some (get_or ps at 0)) same))

pub returns-then-next-self-clause-lowest : goal.returns-then-next-self-clause-lowest
returns-then-next-self-clause-lowest c =
    let walk : Walk = record { pages = boxed_slice_items c.self.inside.pages; count = c.self.inside.count; next = c.self.inside.next; from = c.self.inside.from } in
    found c.args.slots.now c.args.from walk c.as_slice-pages.result.now c.first_dirty-next.result c.as_slice-pages.ensures.value
    (subst (λ (w : Walk). IsInOrder c.args.slots.now w) (sym c.self.view_is) c.requires.order) (ap (λ (w : Walk). w.from) c.self.view_is ∙ c.requires.from) c.first_dirty-next.ensures.passed
    c.if-next-self.true (c.first_dirty-next.ensures.found c.if-next-self.true)

pub returns-then-next-self-clause-order : goal.returns-then-next-self-clause-order
returns-then-next-self-clause-order c =
    let walk : Walk = record { pages = boxed_slice_items c.self.inside.pages; count = c.self.inside.count; next = c.self.inside.next; from = c.self.inside.from } in
    walked c.args.slots.now c.args.from walk c.as_slice-pages.result.now c.first_dirty-next.result c.as_slice-pages.ensures.value
    (subst (λ (w : Walk). IsInOrder c.args.slots.now w) (sym c.self.view_is) c.requires.order) (ap (λ (w : Walk). w.from) c.self.view_is ∙ c.requires.from) c.first_dirty-next.ensures.passed

pub returns-clause-lowest : goal.returns-clause-lowest
returns-clause-lowest c =
    let walk : Walk = record { pages = boxed_slice_items c.self.inside.pages; count = c.self.inside.count; next = c.self.inside.next; from = c.self.inside.from } in
    let order : IsInOrder c.args.slots.now walk = subst (λ (w : Walk). IsInOrder c.args.slots.now w) (sym c.self.view_is) c.requires.order in
    let is : walk.from ≡ Some c.args.from = ap (λ (w : Walk). w.from) c.self.view_is ∙ c.requires.from in
    lowest_none c.args.slots.now c.args.from walk (order c.args.from is) c.first_dirty-next.result
    (over c.args.slots.now c.args.from walk c.as_slice-pages.result.now c.first_dirty-next.result c.as_slice-pages.ensures.value order is c.first_dirty-next.ensures.passed)
    (length c.args.slots.now) c.if-next-self.false

pub returns-clause-order : goal.returns-clause-order
returns-clause-order c =
    let walk : Walk = record { pages = boxed_slice_items c.self.inside.pages; count = c.self.inside.count; next = c.self.inside.next; from = c.self.inside.from } in
    walked c.args.slots.now c.args.from walk c.as_slice-pages.result.now c.first_dirty-next.result c.as_slice-pages.ensures.value
    (subst (λ (w : Walk). IsInOrder c.args.slots.now w) (sym c.self.view_is) c.requires.order) (ap (λ (w : Walk). w.from) c.self.view_is ∙ c.requires.from) c.first_dirty-next.ensures.passed
