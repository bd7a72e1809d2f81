use Rattle.std.proofs.Common.{ℕ, get_or, subst, arith}
use Rattle.std.specs.List.{Contains}
use Rattle.std.proofs.lemmas.List.Elements.{Contains-get_or}
use Rattle.std.proofs.lemmas.List.Sorted.{Contains-permutation, IsNonDecreasingBy-from_sort}
use Rattle.buffer_pool.specs.InOrder.{page_number}
use Rattle.buffer_pool.specs.Slots.{slot_at}
use Rattle.buffer_pool.proofs.dirty_order.put_in_order.Goals as goal

pub returns-clause-rising : goal.returns-clause-rising
returns-clause-rising c = λ i j le less. IsNonDecreasingBy-from_sort (λ (x : ℕ). x) c.sort_unstable.new.self c.sort_unstable.ensures.sorted i j 0 le less

pub returns-clause-all : goal.returns-clause-all
returns-clause-all c = λ s less.
    Contains-permutation c.fill.new.pages c.sort_unstable.new.self (page_number (slot_at c.args.slots.now (get_or c.args.frames.now s 0))) c.sort_unstable.ensures.permutation
    (subst (λ (x : ℕ). Contains c.fill.new.pages x) (c.fill.ensures s less) (Contains-get_or c.fill.new.pages s 0 (omega (arith, less, c.requires.long))))
